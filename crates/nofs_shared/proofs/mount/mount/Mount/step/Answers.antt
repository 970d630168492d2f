use Rattle.std.proofs.Common.{◌+◌, ◌≤◌, List, refl, sym, ◌∙◌, subst, arith}
use Rattle.nofs_history.specs.declared.machine.history.Entry1.{Entry1}
use Rattle.nofs_super.specs.declared.superblock.SuperBlock.{SuperBlock}
use Rattle.nofs_shared.specs.Acts.Sees.{sweep_entries}
use Rattle.nofs_shared.specs.Mount.Entries.{Unowned}
use Rattle.nofs_shared.specs.Passes.Entries.{TellsStep}
use Rattle.nofs_shared.proofs.OnMount.Causes.{causes-roomed, causes-unroomed, order-sound, order-unroomed}
use Rattle.nofs_shared.proofs.OnMount.Claims.{unowned-none}
use Rattle.nofs_shared.proofs.OnMount.Given.{given-none}
use Rattle.nofs_shared.proofs.OnActs.OtherRoom.{roomed, with-room}
use Rattle.nofs_shared.proofs.OnActs.Room.{adds-none, few-left, settles-memory, taken-left, taken-same, takes-kept}
use Rattle.std.proofs.Math.Logic.{∥∥₁_elim, ∥∥₁_prop}
use Rattle.nofs_shared.proofs.OnMount.Calls.{made-on, made-step, rests-none}
use Rattle.nofs_shared.proofs.mount.mount.Mount.step.Goals as goal

pub invariant_of-self-in-Some : goal.invariant_of-self-in-Some
invariant_of-self-in-Some g c = record {
  asked = ∥∥₁_elim c.args.self.now.asked ∥∥₁_prop (λ a. ∣ made-step g.D.Disk.state c.take_room.new.history.start
      c.step_in.new.core.books.history.start c.take_room.new.history.entries
      c.step_in.new.core.books.history.entries c.args.self.now.core.disk c.step_in.new.core.disk _ c.args.caller
      c.args.step c.step_in.result c.step_in.ensures.goes_on.same.0 c.step_in.ensures.causes.disk
      c.step_in.ensures.order c.step_in.ensures.tells.adds
      (made-on g.D.Disk.state c.args.self.now.core.books.history.start c.take_room.new.history.start
      c.args.self.now.core.books.history.entries c.take_room.new.history.entries c.args.self.now.core.disk
      c.args.self.now.core.disk c.take_room.ensures.stays.1 c.take_room.ensures.stays.0
      (rests-none (g.D.Disk.state c.args.self.now.core.disk)) a) ∣₁);
  few = few-left c.args.caller c.args.step c.step_in.result c.take_room.new.history.entries
      c.step_in.new.core.books.history.entries c.in-Some.left
      c.step_in.ensures.tells.adds c.in-Some.ensures.few;
  room = (let a = c.in-Some.ensures.room in let b = c.step_in.ensures.goes_on.room in omega (arith, a, b));
  safe = c.step_in.ensures.goes_on.safe;
  stands = with-room (g.D.Disk.state c.args.self.now.found.value) (g.D.Disk.state c.args.self.now.core.disk)
      c.args.self.now.first c.args.self.now.core.books c.take_room.new.history c.args.self.now.index _
      c.take_room.ensures.stays c.args.self.now.stands c.args.self.now.indexed
      (λ m t. c.step_in.ensures.keeps c.args.self.now.found.value c.args.self.now.first m t);
  indexed = with-room (g.D.Disk.state c.args.self.now.found.value) (g.D.Disk.state c.args.self.now.core.disk)
      c.args.self.now.first c.args.self.now.core.books c.take_room.new.history c.args.self.now.index _
      c.take_room.ensures.stays c.args.self.now.stands c.args.self.now.indexed
      (λ m t. c.step_in.ensures.notes c.args.self.now.found.value c.args.self.now.first m t);
  taken = subst (λ (s : SuperBlock).
      s.inodes + s.blocks ≤ c.in-Some.left + sweep_entries c.step_in.new.core.books.history.entries)
      (sym c.step_in.ensures.goes_on.same.1)
      (taken-left c.args.caller c.args.step c.step_in.result c.take_room.new.history.entries
      c.step_in.new.core.books.history.entries c.args.self.now.kept c.in-Some.left
      (c.args.self.now.core.books.at.inodes + c.args.self.now.core.books.at.blocks) c.step_in.ensures.tells.adds
      (takes-kept c.args.caller c.args.step c.step_in.result c.args.self.now.kept c.in-Some.left
      (λ e some. sym c.in-Some.is ∙ c.take_room.ensures.sweep e some) c.step_in.ensures.sees c.in-Some.ensures.others)
      (taken-same _ _ c.take_room.new.history.entries c.take_room.ensures.stays.0 c.args.self.now.taken));
}

pub invariant_of-self : goal.invariant_of-self
invariant_of-self g c = let s = c.args.self.now in
    let is = roomed _ _ _ _ c.take_room.new.history _ s.index c.take_room.ensures.stays c.take_room.ensures.kept s.few
    s.taken s.safe s.stands s.indexed in
    record {
      few = is.few;
      room = is.room;
      taken = is.taken;
      safe = is.safe;
      stands = is.stands;
      indexed = is.indexed;
      asked = ∥∥₁_elim s.asked ∥∥₁_prop (λ a. ∣ made-on g.D.Disk.state s.core.books.history.start
          c.take_room.new.history.start s.core.books.history.entries c.take_room.new.history.entries s.core.disk
          s.core.disk c.take_room.ensures.stays.1 c.take_room.ensures.stays.0
          (rests-none (g.D.Disk.state s.core.disk)) a ∣₁);
    }

pub returns-in-None-clause-tells : goal.returns-in-None-clause-tells
returns-in-None-clause-tells g c = record {
  adds = adds-none c.args.caller c.args.step c.args.self.now.core.books.history.entries c.take_room.new.history.entries
      c.take_room.ensures.stays.0;
  fits = tt;
  whole = λ e. refl;
}

pub returns-in-Some-clause-tells : goal.returns-in-Some-clause-tells
returns-in-Some-clause-tells g c = subst (λ (H : List Entry1).
    TellsStep c.args.caller c.args.step H c.step_in.new.core.books.history.entries c.step_in.result)
    c.take_room.ensures.stays.0 c.step_in.ensures.tells

pub returns-in-None-clause-claims : goal.returns-in-None-clause-claims
returns-in-None-clause-claims g c =
    λ q. ∣ unowned-none (g.D.Disk.state c.args.self.now.core.disk).now c.args.self.now.core.books.history.entries
    c.take_room.new.history.entries c.take_room.ensures.stays.0 ∣₁

pub returns-in-Some-clause-claims : goal.returns-in-Some-clause-claims
returns-in-Some-clause-claims g c = λ q.
    with-room (g.D.Disk.state c.args.self.now.found.value) (g.D.Disk.state c.args.self.now.core.disk)
    c.args.self.now.first c.args.self.now.core.books c.take_room.new.history c.args.self.now.index _
    c.take_room.ensures.stays c.args.self.now.stands c.args.self.now.indexed
    (λ m t. subst (λ (H : List Entry1). Unowned (g.D.Disk.state c.args.self.now.core.disk).now H
    c.step_in.new.core.books.history.entries) c.take_room.ensures.stays.0
    (c.step_in.ensures.claims c.args.self.now.found.value c.args.self.now.first m q))

pub returns-in-Some-clause-kept : goal.returns-in-Some-clause-kept
returns-in-Some-clause-kept g c =
    takes-kept c.args.caller c.args.step c.step_in.result c.args.self.now.kept c.in-Some.left
    (λ e some. sym c.in-Some.is ∙ c.take_room.ensures.sweep e some) c.step_in.ensures.sees c.in-Some.ensures.others

pub returns-in-None-clause-kept : goal.returns-in-None-clause-kept
returns-in-None-clause-kept g c = record {
  sweeps = λ e some. absurd (let t = c.take_room.ensures.sweep e some in let n = c.in-None.is in cc (t, n));
  others = λ e. refl;
}

pub returns-in-None-clause-settled : goal.returns-in-None-clause-settled
returns-in-None-clause-settled g c = settles-memory c.args.step (g.D.Disk.state c.args.self.now.core.disk)

pub returns-in-None-clause-causes : goal.returns-in-None-clause-causes
returns-in-None-clause-causes g c =
    causes-unroomed (g.D.Disk.state c.args.self.now.core.disk) c.args.self.now.core.books c.take_room.new.history

pub returns-in-Some-clause-causes : goal.returns-in-Some-clause-causes
returns-in-Some-clause-causes g c =
    causes-roomed (g.D.Disk.state c.args.self.now.core.disk) (g.D.Disk.state c.step_in.new.core.disk)
    c.args.self.now.core.books c.step_in.new.core.books
    c.step_in.result c.take_room.new.history c.step_in.ensures.causes

pub returns-in-None-clause-order : goal.returns-in-None-clause-order
returns-in-None-clause-order g c = order-unroomed (g.D.Disk.state c.args.self.now.core.disk) _ c.args.step _

pub returns-in-Some-clause-order : goal.returns-in-Some-clause-order
returns-in-Some-clause-order g c =
    order-sound (g.D.Disk.state c.args.self.now.found.value) (g.D.Disk.state c.args.self.now.core.disk)
    (g.D.Disk.state c.step_in.new.core.disk) c.args.self.now.first
    c.args.self.now.core.books c.args.step c.step_in.result _ c.take_room.new.history c.take_room.ensures.stays.1
    c.args.self.now.stands c.step_in.ensures.order

pub returns-in-None-clause-given : goal.returns-in-None-clause-given
returns-in-None-clause-given g c = given-none c.args.self.now.core.books c.args.step
