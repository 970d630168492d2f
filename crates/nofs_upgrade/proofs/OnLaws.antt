-- The laws of an upgrade between two lives.
use Rattle.std.proofs.Common.{inl, inr, sym, subst, arith}
use Rattle.nofs_disk.specs.Disk.{DiskState}
use Rattle.nofs_model.specs.Geometry.{Image}
use Rattle.nofs_crashlaw.specs.Lives.{SameOrUpgraded, Upgraded}
use Rattle.nofs_upgrade.specs.Between.{LawSoundUpgrade, LawUpgradeAgain, LawUpgradeBetween}

pub law-sound : (old new : DiskState) → LawSoundUpgrade old new
law-sound old new each sound = (
  λ X p. let f = each.picks X p in f.sound (sound f.found f.picks),
  record {
    begun = each.moments.begun;
    each = λ m X from to left. let f = each.moments.each m X from to left in f.sound (sound f.found f.picks);
  },
)

pub law-between : (old new : DiskState) → LawUpgradeBetween old new
law-between old new each before after m allowed X p raised =
    let f = each.picks X p in
    record {
      moment = m;
      left = f.found;
      found = X;
      allowed = allowed f.found f.picks;
      between = f.between;
      raised = raised;
    }

pub law-again : LawUpgradeAgain
law-again X Y Z (inl e) second = subst (λ (W : Image). SameOrUpgraded W Z) e second
law-again X Y Z (inr up) (inl e) = inr (subst (λ (W : Image). Upgraded X W) (sym e) up)
law-again X Y Z (inr up) (inr more) = absurd (let a = up.after in let b = more.before in omega (arith, a, b))
