-- What a disk in a file knows that was just made.
use Rattle.std.proofs.Common.{◌≡◌, ℕ, List, [], length, arith, sym, ap, subst, ◌∙◌}
use Rattle.std.specs.Prelude.{Contains, IsTrue}
use Rattle.nofs_disk.specs.declared.tag.Cell.{Cell}
use Rattle.nofs_disk.specs.Disk.{IsSettled, IsSizedCell, cell_at}
use Rattle.nofs_disk.specs.Cells.{Contains-known}
use Rattle.nofs_disk.specs.CellsOfBytes.{IsSizedCell-cell_in, at-cells_in, cell_in, cells_in, length-cells_in}
use Rattle.nofs_versions.specs.declared.call.Call.{Call}
use Rattle.nofs_versions.specs.Memory.{within}
use Rattle.nofs_versions.specs.Laws.{within_from}
use Rattle.nofs_versions.proofs.OnMemory.Cells.{after_none, settled_none}
use Rattle.nofs_versions.proofs.OnMemory.Sizes.{sized_base}
use Rattle.nofs_filedisk.specs.Bytes.{HostFileState, IsHostFile, IsSynced}
use Rattle.nofs_filedisk.specs.Files.{FileSized, LastsWithin, file_held, file_state}
use Rattle.nofs_filedisk.specs.Present.{IsPresent}
use Rattle.nofs_filedisk.specs.declared.run.Run.{Run}
use Rattle.nofs_filedisk.proofs.OnFiledisk.Present.{present-first}
use Rattle.nofs_filedisk.proofs.OnFiledisk.Calls.{rest_leaves, has_present}

-- a disk that was just made
pub start_sized : (file : HostFileState) (calls : List Call) → IsHostFile file → calls ≡ [] → FileSized file calls
start_sized file calls is none =
    let len = length-cells_in file.bytes in
    sized_base (cells_in file.bytes) calls none (λ b low.
    let F : Cell → Type 0 = λ x. IsSizedCell x in
    subst F (sym (at-cells_in file.bytes b (omega arith))) (IsSizedCell-cell_in file.bytes b is.small))

pub start_now : (file : HostFileState) (calls : List Call)
    → calls ≡ [] → (file_held file calls).now ≡ cells_in file.bytes
start_now file calls none = after_none (cells_in file.bytes) calls none

pub start_present : (file : HostFileState) (run : Run) (calls : List Call)
    → calls ≡ [] → run.count ≡ 0 → IsPresent file.bytes run (file_held file calls).now
start_present file run calls none empty =
    let F : List Cell → Type 0 = λ l. IsPresent file.bytes run l in
    subst F (sym (start_now file calls none)) (present-first file.bytes run empty)

pub start_settled : (file : HostFileState) (calls : List Call) (spare : ℕ)
    → calls ≡ [] → IsSettled (file_state file file calls spare)
start_settled file calls spare none =
    let len = length-cells_in file.bytes in
    λ b c low has. settled_none 0 (cells_in file.bytes) calls spare file.faults none b c (omega arith) has

pub start_lasting : (file : HostFileState) (calls : List Call) → IsSynced file
    → calls ≡ [] → LastsWithin file file calls
start_lasting file calls synced none t b there =
    ∣ has_present file calls b _ there
    (synced t b ∙ sym (at-cells_in file.bytes b there) ∙ ap (λ l. cell_at l b) (sym (start_now file calls none))) ∣₁

-- the durable cells are an image that a crash may leave
pub durable_left : (file first : HostFileState) (calls : List Call) (spare : ℕ) → LastsWithin file first calls
    → IsTrue file.tells
    → (file_state file first calls spare).left (file_state file first calls spare).moment (cells_in file.durable)
durable_left file first calls spare lasting t =
    let len = length-cells_in first.bytes in
    let may = (file_held first calls).may in
    rest_leaves file first calls spare (cells_in file.durable) (record {
      len = length-cells_in file.durable;
      each = λ b there.
          let F : Cell → Type 0 =
          λ c. Contains (within (length (cells_in first.bytes)) (file_held first calls).may b) c in
          subst F (sym (at-cells_in file.durable b there))
          (within_from (length (cells_in first.bytes)) (file_held first calls).may b
          (cell_in file.durable b) (omega arith)
          (Contains-known ((file_held first calls).may b) (cell_in file.durable b) (lasting t b there)));
    })
