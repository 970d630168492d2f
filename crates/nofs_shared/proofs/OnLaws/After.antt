-- What comes after a mount.
use Rattle.std.proofs.Common.{◌≡◌, ◌⊎◌, ℕ, ◌<◌, inl, inr, IsTrue, List, sym, ◌∙◌, subst, subst₂, arith}
use Rattle.std.proofs.lemmas.List.{ext_get_or}
use Rattle.nofs_disk.specs.Disk.{DiskState, IsDisk, IsSettled, Picks, no_cell, cell_at}
use Rattle.nofs_disk.specs.declared.tag.Cell.{Cell}
use Rattle.nofs_model.specs.Geometry.{Image}
use Rattle.nofs_crashlaw.specs.Lives.{SameOrUpgraded, Upgraded}
use Rattle.nofs_upgrade.specs.Upgrades.{IsFoundOrSecond, IsSecond, StaysOrUpgrades}
use Rattle.nofs_shared.specs.Laws.{IsOfUpgrade, LawKeptAfter, LawSettledAfter, LawUpgradedAfter, SameOrSecond}

-- Upgrades between two mounts

pub upgrade-again : (X Y Z : Image) → SameOrUpgraded X Y → SameOrUpgraded Y Z → SameOrUpgraded X Z
upgrade-again X Y Z (inl e) second = subst (λ (W : Image). SameOrUpgraded W Z) e second
upgrade-again X Y Z (inr up) (inl e) = inr (subst (λ (W : Image). Upgraded X W) (sym e) up)
upgrade-again X Y Z (inr up) (inr again) = let a = up.after in let b = again.before in absurd (omega (arith, a, b))

pub upgraded-of : (X Y : Image) → SameOrSecond X Y → SameOrUpgraded X Y
upgraded-of X Y (inl e) = inl e
upgraded-of X Y (inr up) = inr up.0

second-again : (X Y Z : Image) → SameOrSecond X Y → (Z ≡ Y) ⊎ IsSecond Y Z → SameOrSecond X Z
second-again X Y Z first (inl e) = subst (λ (W : Image). SameOrSecond X W) (sym e) first
second-again X Y Z (inl e) (inr s) = inr (subst (λ (W : Image). Upgraded W Z) e s.upgraded, s.spelled)
second-again X Y Z (inr up) (inr s) = let a = up.0.after in let b = s.upgraded.before in absurd (omega (arith, a, b))

-- a disk that holds one image
one-image : (d : DiskState) → IsDisk d → IsTrue d.tells → IsSettled d → (Y : Image) → Picks d.may d.blocks Y → Y ≡ d.now
one-image d is tells settled Y p =
    ext_get_or no_cell Y d.now (p.len ∙ sym (is.whole tells)) (λ b low. let l = p.len in let here : b < d.blocks =
    omega (arith, low, l) in settled b (cell_at Y b) here (p.each b here))

-- an image of an upgrade
of-upgrade : (old new : DiskState) → StaysOrUpgrades old new → (X : Image) → IsOfUpgrade old new X
    → IsFoundOrSecond old X
of-upgrade old new s X (inl p) = s.picks X p
of-upgrade old new s X (inr (m, from, to, left)) = s.moments.each m X from to left

module _ {D : Type 0} (state : D → DiskState) (is : (d : D) → IsDisk (state d)) where
  pub settled-after : LawSettledAfter state
  settled-after k d X tells settled leaves same Y p = (
    X,
    leaves,
    subst (λ (W : Image). SameOrSecond X W) (sym (one-image (state d) (is d) tells settled Y p)) same,
  )

  pub kept-after : LawKeptAfter state
  kept-after k old new after same cells Y p =
      after Y (subst₂ (λ (may : ℕ → List Cell) (n : ℕ). Picks may n Y) cells.may same.blocks p)

  pub upgraded-after : LawUpgradedAfter state
  upgraded-after k old new d after s holds Y p =
      let f = of-upgrade (state old) (state new) s Y (holds Y p) in
      let c = after f.found f.picks in
      (c.0, c.1, second-again c.0 f.found Y c.2 f.is)
