use Rattle.std.proofs.Common.{◌≡◌, ◌+◌, ◌-◌, ℕ, List, length, take, drop, sym, ap, ◌∙◌, arith}
use Rattle.nofs_reader.proofs.OnEntries.{entry-none, entry-rest, entry-some, name-length}
use Rattle.nofs_reader.proofs.entries.spelled.Goals as goal

-- the bytes from the place of the name to its end
name-bytes : (n : ℕ) (bytes : List ℕ) → take (16 + n - 16) (drop 16 bytes) ≡ take n (drop 16 bytes)
name-bytes n bytes = ap (λ k. take k (drop 16 bytes)) (omega arith)

-- so they stand in the copy
name-kept : (n : ℕ) (bytes kept name : List ℕ) → name ≡ take n (drop 16 bytes)
    → length (take n (drop 16 bytes)) ≡ n → take (length name) kept ≡ name → take n kept ≡ name
name-kept n bytes kept name is len same = ap (λ k. take k kept) (sym (ap length is ∙ len)) ∙ same

pub returns-then-not-has_zeros_after-clause-entry : goal.returns-then-not-has_zeros_after-clause-entry
returns-then-not-has_zeros_after-clause-entry c =
    entry-rest c.args.bytes.now c.read_u32_at-length.result c.read_u32_at-length.ensures
    c.if-not-has_zeros_after.ensures

pub returns-then-not-has_spelling-clause-entry : goal.returns-then-not-has_spelling-clause-entry
returns-then-not-has_spelling-clause-entry c =
    entry-none c.args.bytes.now c.read_u32_at-length.result c.read_u32_at-inode.result
    c.read_u64_at-generation.result _ c.read_u32_at-length.ensures c.read_u32_at-inode.ensures
    c.read_u64_at-generation.ensures (name-bytes c.read_u32_at-length.result c.args.bytes.now)
    c.if-not-has_zeros_after.ensures c.if-not-has_spelling.ensures

pub returns-clause-entry : goal.returns-clause-entry
returns-clause-entry c =
    let bytes = c.args.bytes.now in
    let n = c.read_u32_at-length.result in
    let whole = name-length bytes n c.requires c.if-not-has_zeros_after.ensures in
    entry-some bytes n c.read_u32_at-inode.result c.read_u64_at-generation.result _ c.read_u32_at-length.ensures
    c.read_u32_at-inode.ensures c.read_u64_at-generation.ensures (name-bytes n bytes)
    c.if-not-has_zeros_after.ensures c.copy_name.new.into c.if-not-has_spelling.ensures
    (name-kept n bytes c.copy_name.new.into _ (name-bytes n bytes) whole c.copy_name.ensures)
