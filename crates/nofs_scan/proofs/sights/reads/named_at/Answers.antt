use Rattle.std.proofs.Common.{ℕ, List, sym, ap, ◌∙◌}
use Rattle.nofs_disk.specs.Number.{number_at}
use Rattle.nofs_dirent.specs.Entries.{entry_bytes, entry_in}
use Rattle.nofs_scan.proofs.OnSights.Entries.{named-none, named-some}
use Rattle.nofs_scan.proofs.sights.reads.named_at.Goals as goal

pub returns-then-names_inode : goal.returns-then-names_inode
returns-then-names_inode c =
    named-some (entry_in c.args.payload.now c.args.at) c.read_u32_at-inode.result c.read_u64_at-generation.result
    (sym c.names_inode.ensures ∙ c.if-names_inode.true)

pub returns-else-names_inode : goal.returns-else-names_inode
returns-else-names_inode c =
    named-none (entry_bytes c.args.payload.now c.args.at) c.read_u32_at-inode.result c.read_u64_at-generation.result
    (c.read_u32_at-inode.ensures ∙ ap (λ (b : List ℕ). number_at 4 0 b) c.bytes_of-bytes.ensures.bytes)
    (c.read_u64_at-generation.ensures ∙ ap (λ (b : List ℕ). number_at 8 8 b) c.bytes_of-bytes.ensures.bytes)
    (sym c.names_inode.ensures ∙ c.if-names_inode.false)
