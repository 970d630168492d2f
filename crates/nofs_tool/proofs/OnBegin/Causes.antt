-- Why a device was not formatted or mounted: from what format and mount say.
use Rattle.std.proofs.Common.{◌≡◌, ◌≢◌, inl, inr, ℕ, ◌<◌, ◌≤◌, Option, Ok, Err, IsTrue, refl, sym, ap, ◌∙◌, subst}
use Rattle.std.proofs.Common.{arith}
use Rattle.std.specs.Prelude.{is_none}
use Rattle.nofs_disk.specs.Adds.{Adds}
use Rattle.nofs_disk.specs.Disk.{DiskState, KeepsCells, Rose, cell_at}
use Rattle.nofs_disk.specs.declared.tag.Cell.{Cell}
use Rattle.nofs_super.specs.Format.{FormatEnds, IsFormatRefused, IsFormatted, IsFreshCell, formatted_cell, fresh_super}
use Rattle.nofs_super.specs.Format.{super_cell}
use Rattle.nofs_super.specs.Geometry.{IsGeometry, is_geometry, is_geometry-parts}
use Rattle.nofs_super.specs.Spelling.{check_super-payload}
use Rattle.nofs_super.specs.Super.{check_super}
use Rattle.nofs_super.specs.declared.geometry.FormatFault.{FormatFault}
use Rattle.nofs_super.specs.declared.geometry.FormatFault.TheVariants as format
use Rattle.nofs_super.specs.declared.superblock.MountFault.{MountFault}
use Rattle.nofs_super.specs.declared.superblock.MountFault.TheVariants as fault
use Rattle.nofs_shared.specs.Mount.Begin.{BeginFails}
use Rattle.nofs_tool.specs.declared.begin.mounts.Cause.{Cause}
use Rattle.nofs_tool.specs.declared.begin.mounts.Cause.TheVariants.{Device}
use Rattle.nofs_tool.specs.Begin.Mounts.{IsMountRefusal, IsUnformatted, IsUnmounted, format_cause}
use Rattle.nofs_tool.specs.Begin.Mounts.{mount_cause, status_of}

-- the superblock's fault is one of the table
by-table : (old new : DiskState) (why : MountFault) → BeginFails old new why
    → why ≢ fault.WriteFault → why ≢ fault.ReadFault → why ≢ fault.OutOfMemory
    → IsMountRefusal old why
by-table old new why b write read memory some tells = sym ((b.refused write).1.table read memory some tells)

refused-by : (old new : DiskState) (why : MountFault) (cause : Cause) → cause ≡ mount_cause why → BeginFails old new why
    → why ≢ fault.WriteFault → why ≢ fault.ReadFault
    → why ≢ fault.OutOfMemory → status_of cause ≡ 4 → IsUnmounted old new cause
refused-by old new why cause told b write read memory is = record {
  why = why;
  told = told;
  fails = b;
  caused = record { later = b.disk.faults; device = λ e. absurd (let s = ap status_of e in omega (arith, s, is)) };
  unwritten = λ e. (b.refused write).0;
  table = λ e. (why, by-table old new why b write read memory);
}

-- a fault with a status of its own
faulted : (old new : DiskState) (why : MountFault) → BeginFails old new why
    → (mount_cause why ≡ Device → Rose old.faults new.faults)
    → (status_of (mount_cause why) ≢ 3 → KeepsCells old new) → status_of (mount_cause why) ≢ 4
    → IsUnmounted old new (mount_cause why)
faulted old new why b device unwritten other = record {
  why = why;
  told = refl;
  fails = b;
  caused = record { later = b.disk.faults; device = device };
  unwritten = unwritten;
  table = λ e. absurd (other e);
}

unmounted_by : (old new : DiskState) (why : MountFault) → BeginFails old new why
    → IsUnmounted old new (mount_cause why)
unmounted_by old new fault.ReadFault b = faulted old new fault.ReadFault b
    (λ e. (b.refused (λ h. cc h)).1.read refl) (λ e. absurd (e refl)) (λ e. omega (arith, e))
unmounted_by old new fault.WriteFault b = faulted old new fault.WriteFault b
    (λ e. b.wrote refl) (λ e. absurd (e refl)) (λ e. omega (arith, e))
unmounted_by old new fault.OutOfMemory b = faulted old new fault.OutOfMemory b
    (λ e. absurd (let s = ap status_of e in omega (arith, s))) (λ e. (b.refused (λ h. cc h)).0)
    (λ e. omega (arith, e))
unmounted_by old new (fault.BadMagic x) b =
    refused-by old new (fault.BadMagic x) _ refl b (λ h. cc h) (λ h. cc h) (λ h. cc h) refl
unmounted_by old new (fault.BadVersion x) b =
    refused-by old new (fault.BadVersion x) _ refl b (λ h. cc h) (λ h. cc h) (λ h. cc h) refl
unmounted_by old new (fault.BadGeometry x y) b =
    refused-by old new (fault.BadGeometry x y) _ refl b (λ h. cc h) (λ h. cc h) (λ h. cc h) refl
unmounted_by old new (fault.DeviceTooSmall x) b =
    refused-by old new (fault.DeviceTooSmall x) _ refl b (λ h. cc h) (λ h. cc h) (λ h. cc h) refl
unmounted_by old new (fault.MountsSpent x) b =
    refused-by old new (fault.MountsSpent x) _ refl b (λ h. cc h) (λ h. cc h) (λ h. cc h) refl
unmounted_by old new (fault.BadRest x) b =
    refused-by old new (fault.BadRest x) _ refl b (λ h. cc h) (λ h. cc h) (λ h. cc h) refl

-- and the cause that is told of it
pub unmounted-told : (old new : DiskState) (why : MountFault) (cause : Cause) → cause ≡ mount_cause why
    → BeginFails old new why → IsUnmounted old new cause
unmounted-told old new why cause told b =
    subst (λ (x : Cause). IsUnmounted old new x) (sym told) (unmounted_by old new why b)

module _ (blocks inodes : ℕ) (old new : DiskState) (later : old.faults ≤ new.faults) where
  -- the numbers were refused
  numbers-refused : (why : FormatFault) (cause : Cause) → IsFormatRefused blocks inodes why old new
      → status_of cause ≡ 4
      → IsUnformatted old new blocks inodes cause
  numbers-refused why cause f is = record {
    caused = record { later = later; device = λ e. absurd (let s = ap status_of e in omega (arith, s, is)) };
    unwritten = λ e. inl ((why, f.why), f.stays.cells);
    table = λ t e. (why, f.why);
    accepted = λ e. absurd (omega (arith, e, is));
  }

  pub unformatted-by : (why : FormatFault) → FormatEnds blocks inodes old new (Err why)
      → IsUnformatted old new blocks inodes (format_cause why)
  unformatted-by format.WriteFault f = record {
    caused = record { later = later; device = λ e. f.cause };
    unwritten = λ e. absurd (omega (arith, e));
    table = λ t e. absurd (omega (arith, e));
    accepted = λ e. f.accepted;
  }
  unformatted-by format.OutOfMemory f = record {
    caused = record { later = later; device = λ e. absurd (let s = ap status_of e in omega (arith, s)) };
    unwritten = λ e. absurd (omega (arith, e));
    table = λ t e. absurd (omega (arith, e));
    accepted = λ e. absurd (omega (arith, e));
  }
  unformatted-by (format.TooSmall x) f = numbers-refused (format.TooSmall x) _ f refl
  unformatted-by (format.TooLarge x) f = numbers-refused (format.TooLarge x) _ f refl
  unformatted-by (format.NotMultiple x) f = numbers-refused (format.NotMultiple x) _ f refl

-- the superblock of a format has no fault
formatted-check : (device blocks inodes : ℕ) → IsGeometry device blocks inodes
    → check_super device (formatted_cell blocks inodes 0).payload ≡ Ok (fresh_super blocks inodes)
unfolding formatted_cell super_cell
formatted-check device blocks inodes g =
    let most = g.most_blocks in let few = g.most_inodes in
    check_super-payload (fresh_super blocks inodes) (omega arith) (omega arith) (omega arith) (omega arith) device
    (record { version = refl; geometry = g; mount = omega arith })

-- the mount after a format was refused
pub refused-later : (blocks inodes : ℕ) (old mid new : DiskState) (cause : Cause) → IsFormatted blocks inodes old mid
    → Adds (IsFreshCell blocks inodes) old mid
    → (IsTrue old.tells → (b : ℕ) → b < blocks → cell_at mid.now b ≡ formatted_cell blocks inodes b)
    → IsUnmounted mid new cause → IsUnformatted old new blocks inodes cause
unfolding is_geometry
refused-later blocks inodes old mid new cause f adds cells u = record {
  caused = record {
    later = (let a = adds.disk.faults in let b = u.caused.later in omega (arith, a, b));
    device = λ e. (let a = adds.disk.faults in let b = u.caused.device e in omega (arith, a, b));
  };
  unwritten = λ e.
      inr (let a = f.moment in let b = (u.unwritten (λ z. omega (arith, e, z))).moment in omega (arith, a, b));
  table = λ tells e. absurd (clash tells (u.table e));
  accepted = λ e. f.accepted;
}
  where
    numbers : IsGeometry old.blocks blocks inodes
    numbers = is_geometry-parts old.blocks blocks inodes (ap (λ (o : Option FormatFault). is_none o) f.accepted)

    clash : IsTrue old.tells → (why : MountFault) × IsMountRefusal mid why → ⊥
    clash tells given =
        let (why, refusal) = given in
        let size = adds.disk.blocks in
        let some = numbers.some_blocks in
        let fits = numbers.fits in
        let refused = refusal (omega (arith, size, some, fits)) (subst IsTrue (sym adds.disk.tells) tells) in
        let first = cells tells 0 (omega (arith, some)) in
        let fine : check_super mid.blocks (cell_at mid.now 0).payload ≡ Ok (fresh_super blocks inodes) =
        ap (λ (x : Cell). check_super mid.blocks x.payload) first
        ∙ formatted-check mid.blocks blocks inodes (subst (λ (n : ℕ). IsGeometry n blocks inodes) (sym size) numbers) in
        let bad : Ok (fresh_super blocks inodes) ≡ Err why = sym fine ∙ refused in
        cc bad
