-- The table of a superblock's faults has no row for a write, and none for memory.
use Rattle.std.specs.Prelude.{◌≡◌, ◌≢◌, ℕ, ◌-◌, ◌^◌, if◌then◌else◌, Bool, true, false, not, nat_lt, nat_le, List, take}
use Rattle.std.specs.Prelude.{Option, Some, None, Result, Ok, Err}
use Rattle.std.proofs.Common.{refl, sym, ap, ◌∙◌}
use Rattle.std.proofs.lemmas.Bool.{false≢true}
use Rattle.nofs_super.specs.Geometry.{is_geometry}
use Rattle.nofs_super.specs.Super.{check_numbers, check_rest, check_super, has_magic, is_version, rest_fault, super_in}
use Rattle.nofs_super.specs.declared.superblock.SuperBlock.{SuperBlock}
use Rattle.nofs_super.specs.declared.superblock.MountFault.{MountFault}
use Rattle.nofs_super.specs.declared.superblock.MountFault.TheVariants.{BadMagic, BadVersion, BadGeometry}
use Rattle.nofs_super.specs.declared.superblock.MountFault.TheVariants.{DeviceTooSmall, MountsSpent}
use Rattle.nofs_super.specs.declared.superblock.MountFault.TheVariants.{ReadFault, WriteFault, BadRest, OutOfMemory}

-- whether an answer is a superblock or a row of the table
abbrev is_row : Result SuperBlock MountFault → Bool
is_row (Ok it) = true
is_row (Err (BadMagic found)) = true
is_row (Err (BadVersion found)) = true
is_row (Err (BadGeometry blocks inodes)) = true
is_row (Err (DeviceTooSmall has)) = true
is_row (Err (MountsSpent found)) = true
is_row (Err ReadFault) = false
is_row (Err WriteFault) = false
is_row (Err (BadRest at)) = true
is_row (Err OutOfMemory) = false

numbers-row : (device : ℕ) (it : SuperBlock) → is_row (check_numbers device it) ≡ true
numbers-row device it =
    go (not (is_geometry (2 ^ 64 - 1) it.blocks it.inodes)) (nat_lt device it.blocks) (nat_le (2 ^ 24 - 1) it.mount)
  where
    go : (a b c : Bool)
        → is_row (if a then Err (BadGeometry it.blocks it.inodes)
        else if b then Err (DeviceTooSmall device) else if c then Err (MountsSpent it.mount) else Ok it) ≡ true
    go true b c = refl
    go false true c = refl
    go false false true = refl
    go false false false = refl

rest-row : (device : ℕ) (it : SuperBlock) (rest : Option ℕ) → is_row (check_rest device it rest) ≡ true
rest-row device it (Some at) = refl
rest-row device it None = numbers-row device it

super-row : (device : ℕ) (payload : List ℕ) → is_row (check_super device payload) ≡ true
unfolding check_super
super-row device payload = go (not (has_magic payload)) (not (is_version (super_in payload).version))
  where
    rest : Result SuperBlock MountFault
    rest = check_rest device (super_in payload) (rest_fault payload)

    go : (a b : Bool) → is_row (if a then Err (BadMagic (take 8 payload)) else if b
        then Err (BadVersion (super_in payload).version) else rest) ≡ true
    go true b = refl
    go false true = refl
    go false false = rest-row device (super_in payload) (rest_fault payload)

-- what no row is, is not answered
pub not-a-row : (device : ℕ) (payload : List ℕ) (result : Result SuperBlock MountFault) (fault : MountFault)
    → result ≡ check_super device payload → is_row (Err fault) ≡ false → result ≢ Err fault
not-a-row device payload result fault is none same =
    false≢true (sym none ∙ ap is_row (sym same ∙ is) ∙ super-row device payload)
