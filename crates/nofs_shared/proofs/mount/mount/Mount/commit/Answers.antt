use Rattle.std.proofs.Common.{◌+◌, ◌≤◌, List, refl, sym, ap, ◌∙◌, subst, arith}
use Rattle.std.proofs.Math.Logic.{∥∥₁_elim, ∥∥₁_prop}
use mathlib.Core.List.{IsPrefix}
use Rattle.nofs_history.specs.declared.machine.history.Entry1.{Entry1}
use Rattle.nofs_history.specs.declared.machine.steps.Step.{Step}
use Rattle.nofs_scan.specs.Steps.Elements.{see_step, verdict_at}
use Rattle.nofs_super.specs.declared.superblock.SuperBlock.{SuperBlock}
use Rattle.nofs_shared.specs.Acts.Sees.{is_of_sweep, sweep_entries}
use Rattle.nofs_shared.specs.Passes.Entries.{TellsStep}
use Rattle.nofs_turn.proofs.OnLists.Words.{prefix_self}
use Rattle.nofs_shared.specs.Mount.Earlier.{earlier-on}
use Rattle.nofs_shared.proofs.OnPasses.Entries.{adds-prefix}
use Rattle.nofs_shared.proofs.OnMount.Commits.{commit-beside, commit-unmade}
use Rattle.nofs_shared.proofs.OnActs.OtherRoom.{roomed, with-room}
use Rattle.nofs_shared.proofs.OnActs.Room.{adds-none, few-left, taken-left, taken-same, takes-kept}
use Rattle.nofs_shared.proofs.OnMount.Calls.{made-on, made-quiet, rests-none}
use Rattle.nofs_shared.proofs.mount.mount.Mount.commit.Goals as goal

pub commit_in-requires-clause-earlier : goal.commit_in-requires-clause-earlier
commit_in-requires-clause-earlier g c = record {
  going = c.requires.own.going;
  begun = c.requires.own.begun ∙ sym c.take_room.ensures.stays.1;
  numbers = c.requires.own.numbers;
  begins = subst (λ (H : List Entry1). IsPrefix c.args.evidence.now.core.value.books.history.entries H)
      (sym c.take_room.ensures.stays.0) c.requires.own.begins;
}

pub invariant_of-self : goal.invariant_of-self
invariant_of-self g c = let s = c.args.self.now in
    let is = roomed _ _ _ _ c.take_room.new.history _ s.index c.take_room.ensures.stays c.take_room.ensures.kept s.few
    s.taken s.safe s.stands s.indexed in
    record {
      few = is.few;
      room = is.room;
      taken = is.taken;
      safe = is.safe;
      stands = is.stands;
      indexed = is.indexed;
      asked = ∥∥₁_elim s.asked ∥∥₁_prop (λ a. ∣ made-on g.D.Disk.state s.core.books.history.start
          c.take_room.new.history.start s.core.books.history.entries c.take_room.new.history.entries s.core.disk
          s.core.disk c.take_room.ensures.stays.1 c.take_room.ensures.stays.0
          (rests-none (g.D.Disk.state s.core.disk)) a ∣₁);
    }

pub invariant_of-self-in-Some : goal.invariant_of-self-in-Some
invariant_of-self-in-Some g c = record {
  asked = ∥∥₁_elim c.args.self.now.asked ∥∥₁_prop (λ a. ∣ made-quiet g.D.Disk.state c.take_room.new.history.start
      c.commit_in.new.core.books.history.start c.take_room.new.history.entries
      c.commit_in.new.core.books.history.entries c.args.self.now.core.disk c.commit_in.new.core.disk c.args.caller
      (see_step c.args.evidence.now.kind (verdict_at c.args.evidence.now.verdicts c.args.at).item) c.commit_in.result
      c.commit_in.ensures.goes_on.same.0 c.commit_in.ensures.disk c.commit_in.ensures.quiet
      c.commit_in.ensures.tells.adds
      (made-on g.D.Disk.state c.args.self.now.core.books.history.start c.take_room.new.history.start
      c.args.self.now.core.books.history.entries c.take_room.new.history.entries c.args.self.now.core.disk
      c.args.self.now.core.disk c.take_room.ensures.stays.1 c.take_room.ensures.stays.0
      (rests-none (g.D.Disk.state c.args.self.now.core.disk)) a) ∣₁);
  few = few-left c.args.caller
      (see_step c.args.evidence.now.kind (verdict_at c.args.evidence.now.verdicts c.args.at).item)
      c.commit_in.result c.take_room.new.history.entries c.commit_in.new.core.books.history.entries c.in-Some.left
      c.commit_in.ensures.tells.adds
      c.in-Some.ensures.few;
  room = (let a = c.in-Some.ensures.room in let b = c.commit_in.ensures.goes_on.room in omega (arith, a, b));
  safe = c.commit_in.ensures.goes_on.safe;
  stands = ∥∥₁_elim c.requires.own.stood ∥∥₁_prop (λ then.
      with-room (g.D.Disk.state c.args.self.now.found.value) (g.D.Disk.state c.args.self.now.core.disk)
      c.args.self.now.first c.args.self.now.core.books c.take_room.new.history c.args.self.now.index _
      c.take_room.ensures.stays c.args.self.now.stands c.args.self.now.indexed
      (λ m t. c.commit_in.ensures.keeps c.args.self.now.found.value c.args.self.now.first then m));
  indexed = ∥∥₁_elim c.requires.own.stood ∥∥₁_prop (λ then.
      with-room (g.D.Disk.state c.args.self.now.found.value) (g.D.Disk.state c.args.self.now.core.disk)
      c.args.self.now.first c.args.self.now.core.books c.take_room.new.history c.args.self.now.index _
      c.take_room.ensures.stays c.args.self.now.stands c.args.self.now.indexed
      (λ m t. c.commit_in.ensures.notes c.args.self.now.found.value c.args.self.now.first
      c.args.self.now.index then m t));
  taken =
      (let same = c.step_of-step.ensures ∙ ap (see_step c.args.evidence.now.kind) c.item-item.ensures in
      subst (λ (s : SuperBlock).
      s.inodes + s.blocks ≤ c.in-Some.left + sweep_entries c.commit_in.new.core.books.history.entries)
      (sym c.commit_in.ensures.goes_on.same.1)
      (taken-left c.args.caller
      (see_step c.args.evidence.now.kind (verdict_at c.args.evidence.now.verdicts c.args.at).item)
      c.commit_in.result c.take_room.new.history.entries
      c.commit_in.new.core.books.history.entries c.args.self.now.kept c.in-Some.left
      (c.args.self.now.core.books.at.inodes + c.args.self.now.core.books.at.blocks) c.commit_in.ensures.tells.adds
      (takes-kept c.args.caller
      (see_step c.args.evidence.now.kind (verdict_at c.args.evidence.now.verdicts c.args.at).item)
      c.commit_in.result c.args.self.now.kept c.in-Some.left
      (λ e some. sym c.in-Some.is
      ∙ c.take_room.ensures.sweep (ap (λ (s : Step). is_of_sweep c.args.caller s) same ∙ e) some)
      (λ e. c.commit_in.ensures.sees)
      (λ e. c.in-Some.ensures.others (ap (λ (s : Step). is_of_sweep c.args.caller s) same ∙ e)))
      (taken-same _ _ c.take_room.new.history.entries c.take_room.ensures.stays.0 c.args.self.now.taken)));
}

pub returns-in-None-clause-commits : goal.returns-in-None-clause-commits
returns-in-None-clause-commits g c =
    ∣ commit-unmade (g.D.Disk.state c.args.self.now.found.value) (g.D.Disk.state c.args.self.now.core.disk)
    c.args.self.now.core.books _ c.args.evidence.now.kind
    (verdict_at c.args.evidence.now.verdicts c.args.at).item c.args.used ∣₁

pub returns-clause-commits : goal.returns-clause-commits
returns-clause-commits g c = ∥∥₁_elim c.requires.own.stood ∥∥₁_prop (λ then.
    with-room (g.D.Disk.state c.args.self.now.found.value) (g.D.Disk.state c.args.self.now.core.disk)
    c.args.self.now.first c.args.self.now.core.books c.take_room.new.history c.args.self.now.index _
    c.take_room.ensures.stays c.args.self.now.stands c.args.self.now.indexed
    (λ m t. commit-beside (g.D.Disk.state c.args.self.now.found.value) (g.D.Disk.state c.args.self.now.core.disk)
    c.args.self.now.core.books c.commit_in.new.core.books c.take_room.new.history c.args.evidence.now.kind
    (verdict_at c.args.evidence.now.verdicts c.args.at).item c.args.used c.commit_in.result
    (c.commit_in.ensures.commits c.args.self.now.found.value c.args.self.now.first then m)))

pub returns-in-None-clause-tells : goal.returns-in-None-clause-tells
returns-in-None-clause-tells g c = record {
  adds = adds-none c.args.caller
      (see_step c.args.evidence.now.kind (verdict_at c.args.evidence.now.verdicts c.args.at).item)
      c.args.self.now.core.books.history.entries c.take_room.new.history.entries c.take_room.ensures.stays.0;
  fits = tt;
  whole = λ e. refl;
}

pub returns-clause-tells : goal.returns-clause-tells
returns-clause-tells g c = subst (λ (H : List Entry1). TellsStep c.args.caller
    (see_step c.args.evidence.now.kind (verdict_at c.args.evidence.now.verdicts c.args.at).item)
    H c.commit_in.new.core.books.history.entries c.commit_in.result) c.take_room.ensures.stays.0
    c.commit_in.ensures.tells

pub returns-in-None-clause-kept : goal.returns-in-None-clause-kept
returns-in-None-clause-kept g c =
    let same = c.step_of-step.ensures ∙ ap (see_step c.args.evidence.now.kind) c.item-item.ensures in
    record {
      sweeps = λ e some.
          absurd (let t = c.take_room.ensures.sweep (ap (λ (s : Step). is_of_sweep c.args.caller s) same ∙ e) some in
          let n = c.in-None.is in cc (t, n));
      others = λ e. refl;
    }

pub returns-clause-kept : goal.returns-clause-kept
returns-clause-kept g c =
    let same = c.step_of-step.ensures ∙ ap (see_step c.args.evidence.now.kind) c.item-item.ensures in
    takes-kept c.args.caller
    (see_step c.args.evidence.now.kind (verdict_at c.args.evidence.now.verdicts c.args.at).item)
    c.commit_in.result c.args.self.now.kept c.in-Some.left
    (λ e some. sym c.in-Some.is
    ∙ c.take_room.ensures.sweep (ap (λ (s : Step). is_of_sweep c.args.caller s) same ∙ e) some)
    (λ e. c.commit_in.ensures.sees)
    (λ e. c.in-Some.ensures.others (ap (λ (s : Step). is_of_sweep c.args.caller s) same ∙ e))

pub returns-in-None-clause-own : goal.returns-in-None-clause-own
returns-in-None-clause-own g c = earlier-on c.requires.own c.take_room.new.history.start c.args.self.now.core.books.at
    c.take_room.new.history.entries
    c.take_room.ensures.stays.1 refl
    (subst (λ (H : List Entry1). IsPrefix c.args.self.now.core.books.history.entries H)
    (sym c.take_room.ensures.stays.0)
    (prefix_self c.args.self.now.core.books.history.entries))

pub returns-clause-own : goal.returns-clause-own
returns-clause-own g c =
    earlier-on c.requires.own c.commit_in.new.core.books.history.start c.commit_in.new.core.books.at
    c.commit_in.new.core.books.history.entries
    (c.commit_in.ensures.goes_on.same.0 ∙ c.take_room.ensures.stays.1) c.commit_in.ensures.goes_on.same.1
    (subst (λ (H : List Entry1). IsPrefix H c.commit_in.new.core.books.history.entries) c.take_room.ensures.stays.0
    (adds-prefix c.args.caller
    (see_step c.args.evidence.now.kind (verdict_at c.args.evidence.now.verdicts c.args.at).item)
    c.commit_in.result c.take_room.new.history.entries c.commit_in.new.core.books.history.entries
    c.commit_in.ensures.tells.adds))
