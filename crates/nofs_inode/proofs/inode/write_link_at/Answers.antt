use Rattle.std.proofs.Common.{◌+◌, ◌∙◌, arith, inl}
use Rattle.nofs_inode.specs.Beside.{SameBeside-number, SameBeside-then, number_at-beside}
use Rattle.nofs_inode.specs.InodeRecords.{link_in}
use Rattle.nofs_inode.proofs.inode.write_link_at.Goals as goal

pub returns : goal.returns
unfolding link_in
returns c =
    let at = c.args.at in
    let old = c.args.bytes.now in
    let one = c.write_u32_at.new.bytes in
    let two = c.write_u32_at-2.new.bytes in
    let new = c.write_u64_at.new.bytes in
    let first = SameBeside-number 4 at c.args.it.directory old one (omega arith) c.write_u32_at.ensures.put in
    let len_one = first.len in
    let second = SameBeside-number 4 (at + 4) c.args.it.entry one two (omega arith) c.write_u32_at-2.ensures.put in
    let len_two = second.len in
    let third = SameBeside-number 8 (at + 8) c.args.it.generation two new (omega arith) c.write_u64_at.ensures.put in
    let tail = SameBeside-then (at + 4) 4 (at + 8) 8 one two new (omega arith) second third in
    let directory = number_at-beside (at + 4) 12 4 at one new tail (inl (omega arith)) ∙ c.write_u32_at.ensures.value in
    let entry = number_at-beside (at + 8) 8 4 (at + 4) two new third (inl (omega arith))
    ∙ c.write_u32_at-2.ensures.value in
    let generation = c.write_u64_at.ensures.value in
    record {
      value = λ i. record { directory = directory i; entry = entry i; generation = generation i };
      beside = SameBeside-then at 4 (at + 4) 12 old one new (omega arith) first tail;
    }
