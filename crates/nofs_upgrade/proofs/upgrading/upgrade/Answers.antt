use Rattle.std.specs.Prelude.{Contains}
use Rattle.std.proofs.Common.{◌≡◌, ℕ, ◌⊎◌, List, sym, ◌∙◌, set, subst, arith}
use Rattle.nofs_disk.specs.declared.tag.Cell.{Cell}
use Rattle.nofs_super.specs.Format.{super_cell}
use Rattle.nofs_upgrade.specs.Upgrades.{second}
use Rattle.nofs_upgrade.proofs.OnUpgrading.{cells-written, images-written, upgraded}
use Rattle.nofs_upgrade.proofs.upgrading.upgrade.Goals as goal

pub returns-in-Ok-clause-upgraded : goal.returns-in-Ok-clause-upgraded
returns-in-Ok-clause-upgraded g c =
    let is = g.met.D.Disk.is_disk in
    let e = c.prepare.ensures in
    let w = c.write_second in
    let can = c.in_ok-old.ensures.ok in
    upgraded _ _ _ c.in_ok-old.old (is c.args.disk.now) (is c.prepare.new.disk)
    (is w.new.disk) e.disk e.cells can w.ensures.adds c.in-Ok.ensures.ends

pub returns-in-Ok-clause-images : goal.returns-in-Ok-clause-images
returns-in-Ok-clause-images g c =
    let is = g.met.D.Disk.is_disk in
    images-written _ _ _ c.in_ok-old.old (is c.args.disk.now) (is c.prepare.new.disk) (is c.write_second.new.disk)
    c.prepare.ensures.disk c.prepare.ensures.cells c.in_ok-old.ensures.ok c.write_second.ensures.adds

pub returns-in-Err-clause-images : goal.returns-in-Err-clause-images
returns-in-Err-clause-images g c =
    let is = g.met.D.Disk.is_disk in
    images-written _ _ _ c.in_ok-old.old (is c.args.disk.now) (is c.prepare.new.disk) (is c.write_second.new.disk)
    c.prepare.ensures.disk c.prepare.ensures.cells c.in_ok-old.ensures.ok c.write_second.ensures.adds

pub returns-in-Err-clause-stopped : goal.returns-in-Err-clause-stopped
returns-in-Err-clause-stopped g c =
    let is = g.met.D.Disk.is_disk in
    let e = c.prepare.ensures in
    let s = c.in-Err.ensures.stopped in
    λ why. record {
      before = c.in_ok-old.old;
      can = c.in_ok-old.ensures.ok;
      cause = (let r = s.cause in let f = e.disk.faults in omega (arith, r, f));
      began = (let b = s.began in let m = e.cells.moment in omega (arith, b, m));
      most = (let b = s.most in let m = e.cells.moment in omega (arith, b, m));
      now = subst (λ (X : List Cell). ((g.D.Disk.state c.write_second.new.disk).now ≡ X)
          ⊎ ((g.D.Disk.state c.write_second.new.disk).now ≡ set X 0 (super_cell (second c.in_ok-old.old))))
          e.cells.now s.now;
      kept = λ b x has. s.kept b x (subst (λ (may : ℕ → List Cell). Contains (may b) x) (sym e.cells.may) has);
      others = λ b apart. s.others b apart ∙ (λ j. e.cells.may j b);
      cells = cells-written _ _ _ c.in_ok-old.old (is c.args.disk.now) (is c.prepare.new.disk)
          (is c.write_second.new.disk)
          e.disk e.cells c.in_ok-old.ensures.ok c.write_second.ensures.adds;
    }
