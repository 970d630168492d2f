use Rattle.std.specs.Prelude.{Contains}
use Rattle.std.proofs.Common.{ℕ, List, sym, ◌∙◌, subst, arith, rules}
use Rattle.nofs_disk.specs.declared.tag.Cell.{Cell}
use Rattle.nofs_super.proofs.RaiseRun.{adds-raise, adds-raised, first-raise, kept-raise}
use Rattle.nofs_upgrade.specs.Upgrades.{second}
use Rattle.nofs_upgrade.proofs.second.write_second.Goals as goal

pub returns-then-is_err-clause-adds : goal.returns-then-is_err-clause-adds
returns-then-is_err-clause-adds g c =
    adds-raise (second c.args.old.now) _ _ _
    (g.met.D.Disk.is_disk c.write.new.self) c.write_super.ensures.cell c.write.ensures

pub returns-in-Ok-clause-adds : goal.returns-in-Ok-clause-adds
returns-in-Ok-clause-adds g c =
    let is = g.met.D.Disk.is_disk in
    adds-raised (second c.args.old.now) _ _ _ _ (is c.write.new.self)
    (is c.flush.new.self) c.write_super.ensures.cell c.write.ensures c.flush.ensures

pub returns-in-Err-clause-adds : goal.returns-in-Err-clause-adds
returns-in-Err-clause-adds g c =
    let is = g.met.D.Disk.is_disk in
    adds-raised (second c.args.old.now) _ _ _ _ (is c.write.new.self)
    (is c.flush.new.self) c.write_super.ensures.cell c.write.ensures c.flush.ensures

pub returns-then-is_err-clause-stopped : goal.returns-then-is_err-clause-stopped
returns-then-is_err-clause-stopped g c =
    let w = c.write.ensures in
    let m = w.moment in
    record {
      cause = search rules;
      began = omega (arith, m);
      most = omega (arith, m);
      now = search rules;
      kept = kept-raise _ _ _ w;
      others = w.others;
      first = first-raise (second c.args.old.now) _ _ _ c.write_super.ensures.cell w;
    }

pub returns-in-Err-clause-stopped : goal.returns-in-Err-clause-stopped
returns-in-Err-clause-stopped g c =
    let w = c.write.ensures in
    let f = c.in-Err.ensures in
    let m = w.moment in
    let n = f.moment in
    record {
      cause = search rules;
      began = omega (arith, m, n);
      most = omega (arith, m, n);
      now = search rules;
      kept = λ b x has. subst (λ (may : ℕ → List Cell). Contains (may b) x) (sym f.err) (kept-raise _ _ _ w b x has);
      others = λ b apart. (λ j. f.err j b) ∙ w.others b apart;
      first = λ x has. first-raise (second c.args.old.now) _ _ _ c.write_super.ensures.cell w x
          (subst (λ (may : ℕ → List Cell). Contains (may 0) x) f.err has);
    }
