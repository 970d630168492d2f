use Rattle.std.proofs.Common.{ℕ, ◌+◌, List, sym, ap, ◌∙◌, subst, arith, length}
use Rattle.std.specs.Prelude.{slice_set}
use Rattle.nofs_super.specs.Format.{super_cell}
use Rattle.nofs_super.specs.Raise.{raised}
use Rattle.nofs_shared.specs.Mount.Begin.{BeginsMount, LeavesRaised}
use Rattle.nofs_disk.specs.Chains.{IsSameDisk-trans, KeepsPast-trans}
use Rattle.nofs_disk.specs.declared.tag.Cell.{Cell}
use Rattle.nofs_super.specs.declared.superblock.SuperBlock.{SuperBlock}
use Rattle.nofs_agree.specs.Reads.{IsAt}
use Rattle.nofs_state.specs.Cores.Beginning.{HasBegun}
use Rattle.nofs_state.specs.Cores.Invariant.{Sounds}
use Rattle.nofs_state.specs.Books.Maps.{IsSafe}
use Rattle.nofs_shared.specs.Mount.Invariant.{IsMount}
use Rattle.nofs_shared.proofs.OnMount.Beginnings.{leaves-found, mounts-on, stopped-found}
use Rattle.nofs_shared.proofs.OnMount.Begin.{begin-mount, at-raised, sounds-raised, sounds-rest, sound-on}
use Rattle.nofs_history.specs.declared.machine.history.Entry1.{Entry1}
use Rattle.nofs_shared.specs.Mount.Calls.{CallsAlong}
use Rattle.nofs_shared.proofs.OnMount.Calls.{rests-none}
use Rattle.nofs_shared.proofs.mount.mount.Mount.begin.Goals as goal

pub returns-in-Err-clause-fault : goal.returns-in-Err-clause-fault
returns-in-Err-clause-fault g c = record {
  disk = c.prepare.ensures.disk;
  past = c.prepare.ensures.past;
  refused = λ n. (c.prepare.ensures.cells, c.in-Err.ensures.err);
  wrote = λ is. absurd (c.in-Err.ensures.err.no_write is);
  stopped = λ is. absurd (c.in-Err.ensures.err.no_write is);
  sound = sounds-rest (g.D.Disk.state c.args.disk) (g.D.Disk.state c.prepare.new.disk)
      (g.met.D.Disk.is_disk c.args.disk)
      c.prepare.ensures.disk c.prepare.ensures.past c.prepare.ensures.cells;
}

pub over-requires-clause-numbers : goal.over-requires-clause-numbers
over-requires-clause-numbers g c =
    let p = mounts-on (g.D.Disk.state c.args.disk) (g.D.Disk.state c.prepare.new.disk) c.in-Ok.it.old
    c.prepare.ensures.disk c.prepare.ensures.cells c.in-Ok.ensures.ok.mounts in
    subst (λ (s : SuperBlock). IsAt (g.D.Disk.state c.raise_mount.new.disk) s) (sym c.in-Ok-raise_mount.ensures.value)
    (at-raised (g.D.Disk.state c.prepare.new.disk) (g.D.Disk.state c.raise_mount.new.disk) c.in-Ok.it.old
    (g.met.D.Disk.is_disk c.prepare.new.disk)
    p.can c.raise_mount.ensures.adds c.in-Ok-raise_mount.ensures.ends)

pub invariant_of-result : goal.invariant_of-result
invariant_of-result g c =
    let S = g.D.Disk.state in
    let is = g.met.D.Disk.is_disk in
    let p = mounts-on (g.D.Disk.state c.args.disk) (g.D.Disk.state c.prepare.new.disk) c.in-Ok.it.old
    c.prepare.ensures.disk c.prepare.ensures.cells c.in-Ok.ensures.ok.mounts in
    let e = c.prepare.ensures in
    let old = S c.prepare.new.disk in
    let new = S c.raise_mount.new.disk in
    let m : IsMount (S c.args.disk) new c.args.first c.over.result.books =
    begin-mount (S c.args.disk) old new c.in-Ok.it.old c.in-Ok-raise_mount.at c.args.first c.over.result.books
    (is c.prepare.new.disk)
    (is c.raise_mount.new.disk) e.disk e.past e.cells
    p.can p.spelled c.raise_mount.ensures.adds c.in-Ok-raise_mount.ensures.ends c.in-Ok-raise_mount.ensures.value
    c.over.ensures.safe c.over.ensures.begun c.over.ensures.open in
    let F : g.row.D.Denot → Type 0 = λ d. IsMount (S d) (S c.over.result.disk) c.args.first c.over.result.books in
    let G : g.row.D.Denot → Type 0 = λ d. IsMount (S c.args.disk) (S d) c.args.first c.over.result.books in
    let H : g.row.D.Denot → Type 0 = λ d. IsSafe (S d) c.over.result.books in
    record {
      few = (let e = ap length c.over.ensures.begun.empty in let b = p.can.geometry.most_blocks in
          let i = p.can.geometry.most_inodes in let nb =
          ap (λ (s : SuperBlock). s.blocks) c.in-Ok-raise_mount.ensures.value in
          let ni = ap (λ (s : SuperBlock). s.inodes) c.in-Ok-raise_mount.ensures.value in
          omega (arith, e, b, i, nb, ni));
      room = c.over.ensures.begun.spare;
      safe = subst H (sym c.over.ensures.disk) c.over.ensures.safe;
      indexed = ∣ (λ q going. c.empty.ensures _) ∣₁;
      asked = ∣ (
        c.over.result.disk,
        ap (λ (d : g.row.D.Denot). (S d).moment) c.over.ensures.disk ∙ sym c.over.ensures.begun.start,
        subst (λ (H : List Entry1). CallsAlong S c.over.result.disk H c.over.result.disk)
            (sym c.over.ensures.begun.empty) (rests-none (S c.over.result.disk)),
      ) ∣₁;
      stands = ∣ subst F (sym c.of-found.ensures) (subst G (sym c.over.ensures.disk) m) ∣₁;
      taken = (let i = ap (λ (s : SuperBlock). s.inodes) c.over.ensures.begun.at in
          let b = ap (λ (s : SuperBlock). s.blocks) c.over.ensures.begun.at in omega (arith, i, b));
    }

pub returns-in-Err-raise_mount-clause-fault : goal.returns-in-Err-raise_mount-clause-fault
returns-in-Err-raise_mount-clause-fault g c =
    let p = mounts-on (g.D.Disk.state c.args.disk) (g.D.Disk.state c.prepare.new.disk) c.in-Ok.it.old
    c.prepare.ensures.disk c.prepare.ensures.cells c.in-Ok.ensures.ok.mounts in
    let e = c.prepare.ensures in
    let a = c.raise_mount.ensures.adds in
    record {
      disk = IsSameDisk-trans (g.D.Disk.state c.args.disk) (g.D.Disk.state c.prepare.new.disk)
          (g.D.Disk.state c.raise_mount.new.disk) e.disk a.disk;
      past = KeepsPast-trans (g.D.Disk.state c.args.disk) (g.D.Disk.state c.prepare.new.disk)
          (g.D.Disk.state c.raise_mount.new.disk) (let m =
          e.cells.moment in omega (arith, m)) e.past a.past;
      refused = λ n. absurd (n c.in-Err-raise_mount.ensures.fault);
      wrote = λ is.
          (let r = c.in-Err-raise_mount.ensures.stopped.cause in let f = e.disk.faults in omega (arith, r, f));
      stopped = λ is. stopped-found _ _ _ c.in-Ok.it.old e.disk e.cells c.in-Ok.ensures.ok.mounts
          c.in-Err-raise_mount.ensures.stopped (g.met.D.Disk.is_disk c.prepare.new.disk) a;
      sound = λ q.
          let o = sound-on (g.D.Disk.state c.args.disk) (g.D.Disk.state c.prepare.new.disk) e.disk e.cells q in
          subst (λ (n : ℕ). Sounds n (g.D.Disk.state c.raise_mount.new.disk)) e.cells.moment
          (sounds-raised (g.D.Disk.state c.prepare.new.disk) (g.D.Disk.state c.raise_mount.new.disk) c.in-Ok.it.old
          (g.met.D.Disk.is_disk c.prepare.new.disk)
          p.can a o (p.spelled o.tells));
    }

pub returns-in-Ok-raise_mount-clause-begins : goal.returns-in-Ok-raise_mount-clause-begins
returns-in-Ok-raise_mount-clause-begins g c =
    let S = g.D.Disk.state in
    let e = c.prepare.ensures in
    let r = c.in-Ok-raise_mount.ensures.ends in
    let b = c.over.ensures.begun in
    let at = b.at ∙ c.in-Ok-raise_mount.ensures.value in
    let F : g.row.D.Denot → Type 0 = λ d. BeginsMount (S c.args.disk) (S d) c.over.result.books in
    subst F (sym c.over.ensures.disk) (record {
      disk = IsSameDisk-trans (S c.args.disk) (S c.prepare.new.disk) (S c.raise_mount.new.disk) e.disk
          c.raise_mount.ensures.adds.disk;
      past = KeepsPast-trans (S c.args.disk) (S c.prepare.new.disk) (S c.raise_mount.new.disk)
          (let m = e.cells.moment in omega (arith, m)) e.past c.raise_mount.ensures.adds.past;
      before = c.in-Ok.it.old;
      mounts = c.in-Ok.ensures.ok.mounts;
      at = at;
      moment = r.moment ∙ ap (λ (n : ℕ). n + 4) e.cells.moment;
      now = r.now ∙ ap (λ (X : List Cell). slice_set X 0 (super_cell (raised c.in-Ok.it.old))) e.cells.now
          ∙ ap (λ (q : SuperBlock). slice_set (S c.args.disk).now 0 (super_cell q)) (sym at);
      settled = r.settled;
      was = r.was;
      clean = r.clean;
      during = subst (λ (q : SuperBlock). LeavesRaised (S c.args.disk) (S c.raise_mount.new.disk) q) (sym at)
          (leaves-found _ _ _ c.in-Ok.it.old e.disk e.cells (g.met.D.Disk.is_disk c.prepare.new.disk)
          c.raise_mount.ensures.adds);
      begun = subst (λ (q : SuperBlock). HasBegun (S c.raise_mount.new.disk) q c.over.result.books) (sym b.at) b;
    })
