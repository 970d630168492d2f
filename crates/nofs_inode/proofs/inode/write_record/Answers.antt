use Rattle.std.proofs.Common.{◌≢◌, ℕ, ◌+◌, ◌*◌, ◌≤◌, ◌⊎◌, ◌∙◌, arith, inl, inr}
use Rattle.std.proofs.lemmas.Bool.{cases_lt}
use Rattle.nofs_inode.specs.Beside.{SameBeside, SameBeside-pointer, SameBeside-range, SameBeside-then}
use Rattle.nofs_inode.specs.Beside.{pointer_in-beside}
use Rattle.nofs_inode.specs.OtherRecords.{HasNumbers-beside, direct_in-beside, links_in-beside, record_of-range}
use Rattle.nofs_inode.specs.RecordLaws.{record_of-spells}
use Rattle.nofs_inode.proofs.inode.write_record.Goals as goal

apart : (i j : ℕ) → j ≢ i → (256 * j + 256 ≤ 256 * i) ⊎ (256 * i + 256 ≤ 256 * j)
apart i j other = elim (cases_lt j i) [
  | inl before ↦ inl (omega arith)
  | inr rest ↦ inr (elim (cases_lt i j) [ inl behind ↦ omega arith | inr same ↦ absurd (other (omega arith)) ])
]

pub returns : goal.returns
returns c =
    let at = 256 * c.args.index in
    let old = c.args.payload.now in
    let b1 = c.write_numbers.new.bytes in
    let b2 = c.write_links.new.bytes in
    let b3 = c.write_pointers.new.bytes in
    let b4 = c.write_pointer_at.new.bytes in
    let new = c.write_pointer_at-2.new.bytes in
    let index = c.requires.index in
    let l0 = c.told-payload in
    let first = c.write_numbers.ensures.beside in
    let l1 = first.len in
    let second = c.write_links.ensures.beside in
    let l2 = second.len in
    let third = c.write_pointers.ensures.beside in
    let l3 = third.len in
    let fourth = SameBeside-pointer (at + 224) c.args.it.now.leaf b3 b4 (omega arith) c.write_pointer_at.ensures.put in
    let l4 = fourth.len in
    let fifth = SameBeside-pointer (at + 240) c.args.it.now.top b4 new (omega arith) c.write_pointer_at-2.ensures.put in
    let from_fourth = SameBeside-then (at + 224) 16 (at + 240) 16 b3 b4 new (omega arith) fourth fifth in
    let from_third = SameBeside-then (at + 96) 128 (at + 224) 32 b2 b3 new (omega arith) third from_fourth in
    let from_second = SameBeside-then (at + 32) 64 (at + 96) 160 b1 b2 new (omega arith) second from_third in
    let beside : SameBeside at 256 old new =
    SameBeside-then at 32 (at + 32) 224 old b1 new (omega arith) first from_second in
    record {
      written = record_of-spells c.args.index new c.args.it.now (record {
        numbers = HasNumbers-beside at (at + 32) 224 c.args.it.now b1 new
            (omega arith) from_second c.write_numbers.ensures.value;
        links = links_in-beside (at + 96) 160 (at + 32) b2 new from_third (inl (omega arith))
            ∙ c.write_links.ensures.value;
        direct = direct_in-beside (at + 224) 32 (at + 96) b3 new from_fourth (inl (omega arith))
            ∙ c.write_pointers.ensures.value;
        leaf = pointer_in-beside (at + 240) 16 (at + 224) b4 new fifth (inl (omega arith))
            ∙ c.write_pointer_at.ensures.value;
        top = c.write_pointer_at-2.ensures.value;
        allowed = c.requires.spelling;
      });
      others = λ j other low. record_of-range j new old
          (SameBeside-range at 256 (256 * j) 256 old new beside (apart c.args.index j other));
      beside = beside;
    }
