use Rattle.std.proofs.Common.{◌≡◌, ◌+◌, ◌≤◌, ℕ, List, arith, subst, sym}
use Rattle.nofs_disk.specs.Number.{IsBytes, IsBytes-put_number, number_at-lt, put_number, puts}
use Rattle.nofs_disk.specs.Tag.{SpellsTag}
use Rattle.nofs_disk.specs.OneSpelling.{IsTag, SpellsTag-one, tag_of-spells}
use Rattle.nofs_disk.proofs.tag.write_tag.Goals as goal

IsBytes-put : (n at x : ℕ) (old new : List ℕ) → at + n ≤ 32 → new ≡ put_number n at x old → IsBytes 32 old
    → IsBytes 32 new
IsBytes-put n at x old new fits is b =
    let F : List ℕ → Type 0 = λ l. IsBytes 32 l in
    subst F (sym is) (IsBytes-put_number 32 n at x old fits b)

pub returns : goal.returns
returns c =
    let bytes = c.write_u64_at-3.new.bytes in
    let tag = c.args.tag.now in
    let e1 = c.write_u32_at.ensures.put in
    let e2 = c.write_u32_at-2.ensures.put in
    let e3 = c.write_u64_at.ensures.put in
    let e4 = c.write_u64_at-2.ensures.put in
    let e5 = c.write_u64_at-3.ensures.put in
    let b0 : IsBytes 32 c.args.into.now = record { len = c.told-into; each = c.fits-into } in
    let b1 = IsBytes-put 4 0 _ _ _ (omega arith) e1 b0 in
    let b2 = IsBytes-put 4 4 _ _ _ (omega arith) e2 b1 in
    let b3 = IsBytes-put 8 8 _ _ _ (omega arith) e3 b2 in
    let b4 = IsBytes-put 8 16 _ _ _ (omega arith) e4 b3 in
    let b5 = IsBytes-put 8 24 _ _ _ (omega arith) e5 b4 in
    let l0 = b0.len in
    let l1 = b1.len in
    let l2 = b2.len in
    let l3 = b3.len in
    let l4 = b4.len in
    let spells : SpellsTag bytes tag = record {
      kind = grind puts;
      inode = grind puts;
      generation = grind puts;
      slot = grind puts;
      stamp = grind puts;
      allowed = c.requires;
    } in
    let is : IsTag tag = record {
      inode = let n = spells.inode in let low = number_at-lt 4 4 bytes b5.each in omega arith;
      generation = let n = spells.generation in let low = number_at-lt 8 8 bytes b5.each in omega arith;
      slot = let n = spells.slot in let low = number_at-lt 8 16 bytes b5.each in omega arith;
      stamp = let n = spells.stamp in let low = number_at-lt 8 24 bytes b5.each in omega arith;
    } in
    record {
      spells = spells;
      bytes = SpellsTag-one bytes tag b5 is spells;
      read = tag_of-spells bytes tag spells;
    }
