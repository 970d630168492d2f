-- The formatted disk, raised and upgraded.
use Rattle.std.proofs.Common.{◌≡◌, ◌≢◌, ℕ, zero, suc, ◌+◌, ◌*◌, ◌^◌, refl, sym, ap, ◌∙◌, arith}
use Rattle.nofs_super.specs.declared.superblock.SuperBlock.{SuperBlock}
use Rattle.nofs_disk.specs.Number.{number_at}
use Rattle.nofs_disk.specs.Disk.{cell_at}
use Rattle.nofs_model.specs.Geometry.{super_at}
use Rattle.nofs_super.specs.Super.{super_in, is_super}
use Rattle.nofs_model.specs.Sound.{IsSound}
use Rattle.nofs_crashlaw.specs.Lives.{OnlySuper, HasSuperCell}
use Rattle.nofs_cases.specs.Disks.Images.{blank, first_table, first_image}
use Rattle.nofs_cases.proofs.OnDisks.Images.{numbers-are, mountable, super-tag}
use Rattle.nofs_cases.proofs.OnSteps.Maps.{first-is-below}
use Rattle.nofs_cases.specs.Lives.Begin.{first_with, BeginCase, UpgradeCase}

first-mount : (super_at first_image).mount ≡ 1
first-mount = ap (λ (n : SuperBlock). n.mount) (numbers-are first_table blank blank)

sound : IsSound first_image
sound = record {
  mountable = mountable first_table blank blank;
  mount = omega (arith, first-mount);
  below = first-is-below (((super_at first_image).mount + 1) * 2 ^ 40) (omega (arith, first-mount));
}

raised-numbers : super_at (first_with 1 2) ≡ record { version = 1; blocks = 16; inodes = 4; mount = 2 }
unfolding super_at super_in number_at
raised-numbers = refl

upgraded-numbers : super_at (first_with 2 1) ≡ record { version = 2; blocks = 16; inodes = 4; mount = 1 }
unfolding super_at super_in number_at
upgraded-numbers = refl

later-numbers : super_at (first_with 2 2) ≡ record { version = 2; blocks = 16; inodes = 4; mount = 2 }
unfolding super_at super_in number_at
later-numbers = refl

raised-super : HasSuperCell (first_with 1 2)
unfolding is_super super_in number_at
raised-super = record { payload = refl; tag = super-tag }

upgraded-super : HasSuperCell (first_with 2 1)
unfolding is_super super_in number_at
upgraded-super = record { payload = refl; tag = super-tag }

-- both differ in block 0 alone
only-super : (v w m n : ℕ) → (super_at (first_with w n)).blocks ≡ (super_at (first_with v m)).blocks
    → (super_at (first_with w n)).inodes ≡ (super_at (first_with v m)).inodes
    → OnlySuper (first_with v m) (first_with w n)
only-super v w m n blocks inodes = record { size = refl; others = others; blocks = blocks; inodes = inodes }
  where
    others : (b : ℕ) → b ≢ 0 → cell_at (first_with w n) b ≡ cell_at (first_with v m) b
    others zero ne = absurd (ne refl)
    others (suc b) ne = refl

first-numbers : super_at (first_with 1 1) ≡ record { version = 1; blocks = 16; inodes = 4; mount = 1 }
unfolding super_at super_in number_at
first-numbers = refl

-- each part of the numbers
part : (f : SuperBlock → ℕ) (v w m n : ℕ) (p q : SuperBlock)
    → super_at (first_with v m) ≡ p → super_at (first_with w n) ≡ q → f q ≡ f p
    → f (super_at (first_with w n)) ≡ f (super_at (first_with v m))
part f v w m n p q a b e = ap f b ∙ e ∙ sym (ap f a)

pub begin-case : BeginCase
begin-case = (
  sound,
  record {
    only = only-super 1 1 1 2 (part (λ s. s.blocks) 1 1 1 2 _ _ first-numbers raised-numbers refl)
        (part (λ s. s.inodes) 1 1 1 2 _ _ first-numbers raised-numbers refl);
    version = part (λ s. s.version) 1 1 1 2 _ _ first-numbers raised-numbers refl;
    mount = ap (λ (s : SuperBlock). s.mount) raised-numbers ∙ sym (ap (λ (s : SuperBlock). s.mount + 1) first-numbers);
  },
  raised-super,
  (let e = ap (λ (s : SuperBlock). s.mount) raised-numbers in omega (arith, e)),
)

pub upgrade-case : UpgradeCase
upgrade-case = (
  record {
    only = only-super 1 2 1 1 (part (λ s. s.blocks) 1 2 1 1 _ _ first-numbers upgraded-numbers refl)
        (part (λ s. s.inodes) 1 2 1 1 _ _ first-numbers upgraded-numbers refl);
    before = ap (λ (s : SuperBlock). s.version) first-numbers;
    after = ap (λ (s : SuperBlock). s.version) upgraded-numbers;
    mount = part (λ s. s.mount) 1 2 1 1 _ _ first-numbers upgraded-numbers refl;
  },
  upgraded-super,
  record {
    only = only-super 2 2 1 2 (part (λ s. s.blocks) 2 2 1 2 _ _ upgraded-numbers later-numbers refl)
        (part (λ s. s.inodes) 2 2 1 2 _ _ upgraded-numbers later-numbers refl);
    version = part (λ s. s.version) 2 2 1 2 _ _ upgraded-numbers later-numbers refl;
    mount = ap (λ (s : SuperBlock). s.mount) later-numbers
        ∙ sym (ap (λ (s : SuperBlock). s.mount + 1) upgraded-numbers);
  },
)
