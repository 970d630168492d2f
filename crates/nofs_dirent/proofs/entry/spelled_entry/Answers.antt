use Rattle.std.proofs.Common.{◌≡◌, sym, ap, ◌∙◌, Some}
use Rattle.nofs_disk.specs.Number.{number_at}
use Rattle.nofs_dirent.specs.Entries.{entry_of, entry_with}
use Rattle.nofs_dirent.specs.EntryLaws.{entry_of-named}
use Rattle.nofs_dirent.proofs.entry.spelled_entry.Goals as goal

pub returns-in_ok-from_slice-in-Some : goal.returns-in_ok-from_slice-in-Some
returns-in_ok-from_slice-in-Some c =
    let bytes = c.bytes_of-bytes.result.now in
    let i = c.read_u32_at.ensures in
    let g = c.read_u64_at.ensures in
    let n = c.in_ok-from_slice-in-Some.ensures in
    let entry : entry_with c.read_u32_at.result c.read_u64_at.result c.in_ok-from_slice-in-Some.field-0
    ≡ entry_with (number_at 4 0 bytes)
    (number_at 8 8 bytes) c.in-Some.name.now =
    λ k. record { inode = i k; generation = g k; name = n k } in
    ap Some entry ∙ sym (entry_of-named bytes c.in-Some.name.now c.in-Some.ensures)
    ∙ ap entry_of c.bytes_of-bytes.ensures.bytes
