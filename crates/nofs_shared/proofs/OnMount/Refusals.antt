-- The table of a superblock's faults has no fault of writing.
use Rattle.std.proofs.Common.{◌≡◌, ◌≢◌, ℕ, zero, suc, ◌-◌, ◌^◌, ◌<◌, Bool, true, false, not, if◌then◌else◌, nat_lt}
use Rattle.std.proofs.Common.{nat_le, List, take, Option, Some, None}
use Rattle.std.proofs.Common.{Result, Ok, Err, refl, sym, ap, ◌∙◌, arith}
use Rattle.nofs_disk.specs.Number.{IsBytes}
use Rattle.nofs_super.specs.Geometry.{is_geometry}
use Rattle.nofs_super.specs.Super.{check_super, check_rest, has_magic, is_version, rest_fault, super_in}
use Rattle.nofs_super.specs.declared.superblock.SuperBlock.{SuperBlock}
use Rattle.nofs_super.specs.declared.superblock.MountFault.{MountFault}
use Rattle.nofs_super.specs.declared.superblock.MountFault.TheVariants as fault

table_no_write : (device : ℕ) (payload : List ℕ) → check_super device payload ≢ Err fault.WriteFault
unfolding check_super
table_no_write device payload e =
    rows (has_magic payload) (is_version (super_in payload).version) (rest_fault payload) e
  where
    it : SuperBlock
    it = super_in payload

    numbers : (a b d : Bool) → (if a then Err (fault.BadGeometry it.blocks it.inodes) else
        (if b then Err (fault.DeviceTooSmall device) else (if d then Err (fault.MountsSpent it.mount) else Ok it)))
        ≢ Err fault.WriteFault
    numbers true b d h = cc h
    numbers false true d h = cc h
    numbers false false true h = cc h
    numbers false false false h = cc h

    rows : (a b : Bool) (r : Option ℕ) → (if not a then Err (fault.BadMagic (take 8 payload)) else
        (if not b then Err (fault.BadVersion it.version) else check_rest device it r)) ≢ Err fault.WriteFault
    rows false b r h = cc h
    rows true false r h = cc h
    rows true true (Some at) h = cc h
    rows true true None h = numbers (not (is_geometry (2 ^ 64 - 1) it.blocks it.inodes)) (nat_lt device it.blocks)
        (nat_le (2 ^ 24 - 1) it.mount) h

-- a superblock that was read is not refused so
pub read_no_write : (blocks : ℕ) (result : Result SuperBlock MountFault) (why : MountFault)
    → (blocks ≡ 0 → result ≡ Err (fault.DeviceTooSmall 0))
    → (result ≢ Err fault.ReadFault
    → 0 < blocks → (payload : List ℕ) × IsBytes 1024 payload × (result ≡ check_super blocks payload)) → result ≡ Err why
    → why ≢ fault.WriteFault
read_no_write zero result why empty some is wrote = (let h : Err (fault.DeviceTooSmall 0) ≡ Err fault.WriteFault =
    sym (empty refl) ∙ (is ∙ ap Err wrote) in cc h)
read_no_write (suc n) result why empty some is wrote =
    let failed : result ≡ Err fault.WriteFault = is ∙ ap Err wrote in
    let read : result ≢ Err fault.ReadFault =
    λ h. (let q : Err fault.WriteFault ≡ Err fault.ReadFault = sym failed ∙ h in cc q) in
    let p = some read (omega arith) in
    table_no_write (suc n) p.0 (sym p.2 ∙ failed)
