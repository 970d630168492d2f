use Rattle.std.proofs.Common.{◌≡◌, ◌+◌, ◌-◌, arith, refl, sym, ◌∙◌, take, drop}
use Rattle.nofs_disk.specs.Number.{number_at}
use Rattle.nofs_dirent.specs.Entries.{entry_with, has_entry_spelling}
use Rattle.nofs_dirent.specs.EntryLaws.{is_entry-else, is_entry-when, is_entry-zero}
use Rattle.nofs_dirent.proofs.entry.is_entry.Goals as goal

pub returns-then-inode-eq0-clause-value : goal.returns-then-inode-eq0-clause-value
returns-then-inode-eq0-clause-value c =
    is_entry-zero c.args.bytes.now (sym c.read_u32_at-inode.ensures ∙ c.if-inode-eq0.true)

pub returns-then-not-has_zeros_after-clause-value : goal.returns-then-not-has_zeros_after-clause-value
returns-then-not-has_zeros_after-clause-value c = is_entry-else c.args.bytes.now c.read_u32_at-size.result
    c.read_u32_at-size.ensures (sym c.if-not-has_zeros_after.ensures)

pub returns-clause-value : goal.returns-clause-value
returns-clause-value c =
    let bytes = c.args.bytes.now in
    let size = c.read_u32_at-size.result in
    let end : 16 + size - 16 ≡ size = omega arith in
    let fields : has_entry_spelling (entry_with c.read_u32_at-inode.result c.read_u64_at.result
    (take (16 + size - 16) (drop 16 bytes)))
    ≡ has_entry_spelling (entry_with (number_at 4 0 bytes) (number_at 8 8 bytes) (take size (drop 16 bytes))) =
    rw (c.read_u32_at-inode.ensures, c.read_u64_at.ensures, end) refl in
    c.has_spelling.ensures ∙ fields
    ∙ is_entry-when bytes size c.read_u32_at-size.ensures (sym c.if-not-has_zeros_after.ensures)
