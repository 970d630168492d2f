use Rattle.std.proofs.Common.{◌+◌, ◌∙◌, arith, inl}
use Rattle.nofs_inode.specs.Beside.{SameBeside-number, SameBeside-then, number_at-beside}
use Rattle.nofs_inode.proofs.inode.write_numbers.Goals as goal

pub returns : goal.returns
returns c =
    let at = c.args.at in
    let old = c.args.bytes.now in
    let b1 = c.write_u64_at.new.bytes in
    let b2 = c.write_u32_at.new.bytes in
    let b3 = c.write_u32_at-2.new.bytes in
    let b4 = c.write_u64_at-2.new.bytes in
    let new = c.write_u64_at-3.new.bytes in
    let first = SameBeside-number 8 at _ old b1 (omega arith) c.write_u64_at.ensures.put in
    let l1 = first.len in
    let second = SameBeside-number 4 (at + 8) _ b1 b2 (omega arith) c.write_u32_at.ensures.put in
    let l2 = second.len in
    let third = SameBeside-number 4 (at + 12) _ b2 b3 (omega arith) c.write_u32_at-2.ensures.put in
    let l3 = third.len in
    let fourth = SameBeside-number 8 (at + 16) _ b3 b4 (omega arith) c.write_u64_at-2.ensures.put in
    let l4 = fourth.len in
    let fifth = SameBeside-number 8 (at + 24) _ b4 new (omega arith) c.write_u64_at-3.ensures.put in
    let from_fourth = SameBeside-then (at + 16) 8 (at + 24) 8 b3 b4 new (omega arith) fourth fifth in
    let from_third = SameBeside-then (at + 12) 4 (at + 16) 16 b2 b3 new (omega arith) third from_fourth in
    let from_second = SameBeside-then (at + 8) 4 (at + 12) 20 b1 b2 new (omega arith) second from_third in
    record {
      value = record {
        generation = number_at-beside (at + 8) 24 8 at b1 new from_second (inl (omega arith))
            ∙ c.write_u64_at.ensures.value;
        kind = number_at-beside (at + 12) 20 4 (at + 8) b2 new from_third (inl (omega arith))
            ∙ c.write_u32_at.ensures.value ∙ c.number_of_kind.ensures;
        count = number_at-beside (at + 16) 16 4 (at + 12) b3 new from_fourth (inl (omega arith))
            ∙ c.write_u32_at-2.ensures.value ∙ c.count_links.ensures;
        size = number_at-beside (at + 24) 8 8 (at + 16) b4 new fifth (inl (omega arith))
            ∙ c.write_u64_at-2.ensures.value;
        zero = c.write_u64_at-3.ensures.value;
      };
      beside = SameBeside-then at 8 (at + 8) 24 old b1 new (omega arith) first from_second;
    }
