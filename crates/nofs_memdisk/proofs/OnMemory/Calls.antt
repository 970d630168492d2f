-- What a disk in memory knows after a call that it keeps.
use Rattle.std.proofs.Common.{◌≡◌, ℕ, ◌+◌, ◌-◌, ◌*◌, ◌^◌, ◌<◌, ◌≤◌, Bool, List, [], ◌∷◌, ◌++◌, length, ap, arith, ◌∙◌}
use Rattle.std.specs.Prelude.{vec_capacity}
use Rattle.std.proofs.lemmas.List.{length_push}
use Rattle.nofs_disk.specs.declared.tag.Cell.{Cell}
use Rattle.nofs_disk.specs.Disk.{IsSizedCell}
use Rattle.nofs_versions.specs.declared.call.Call.{Call}
use Rattle.nofs_versions.specs.declared.call.Call.TheVariants.{Write, Flush}
use Rattle.nofs_memdisk.specs.declared.memory.MemDisk.{MemDisk}
use Rattle.nofs_versions.specs.Memory.{held_after, put_if}
use Rattle.nofs_versions.specs.Laws.{AreSized}
use Rattle.nofs_versions.proofs.OnMemory.Cells.{flush_present, length-put_if, write_present}
use Rattle.nofs_versions.proofs.OnMemory.Sizes.{sized_flush, sized_write}

-- what the ghost fields of a disk in memory say
abbrev pub Holds : ℕ → List Cell → List Cell → List Call → ℕ → ℕ → ℕ → Type 0
Holds start base cells calls spare faults capacity = record {
  present : cells ≡ (held_after base calls).now;
  whole : length cells ≡ length base;
  room : 2 * spare + (start + 2 * length calls) < 2 ^ 64;
  counted : faults < 2 ^ 64;
  kept : length calls + spare ≤ capacity;
  sized : AreSized (length base) (held_after base calls).may;
}

module _ (old : MemDisk) {calls : List Call} {cells : List Cell} {faults capacity : ℕ} (some : 1 ≤ old.spare)
    (more : vec_capacity old.calls ≤ capacity)
    (counted : faults < 2 ^ 64)
  where
    keep_holds : (call : Call)
        → calls ≡ old.calls.items ++ call ∷ [] → cells ≡ (held_after old.base.items (old.calls.items ++ call ∷ [])).now
        → length cells ≡ length old.base.items
        → AreSized (length old.base.items) (held_after old.base.items (old.calls.items ++ call ∷ [])).may
        → Holds old.start old.base.items cells calls (old.spare - 1) faults capacity
    keep_holds call kept present whole sized =
        let len = length_push old.calls.items call in
        let room = old.room in
        let had = old.kept in
        rw kept (record {
          present = present;
          whole = whole;
          room = omega arith;
          counted = counted;
          kept = omega arith;
          sized = sized;
        })

    pub write_holds : (block : ℕ) (cell : Cell) (taken : Bool) → calls ≡ old.calls.items ++ Write block cell taken ∷ []
        → cells ≡ put_if taken old.cells.items block cell → IsSizedCell cell
        → Holds old.start old.base.items cells calls (old.spare - 1) faults capacity
    write_holds block cell taken kept puts size = keep_holds (Write block cell taken) kept
        (puts ∙ write_present old.base.items old.cells.items old.calls.items block cell taken old.present)
        (ap length puts ∙ length-put_if taken old.cells.items block cell ∙ old.whole)
        (sized_write old.base.items old.calls.items block cell taken size old.sized)

    pub flush_holds : (settles : Bool) → calls ≡ old.calls.items ++ Flush settles ∷ [] → cells ≡ old.cells.items
        → Holds old.start old.base.items cells calls (old.spare - 1) faults capacity
    flush_holds settles kept same = keep_holds (Flush settles) kept
        (same ∙ flush_present old.base.items old.cells.items old.calls.items settles old.present)
        (ap length same ∙ old.whole) (sized_flush old.base.items old.calls.items settles old.sized)
