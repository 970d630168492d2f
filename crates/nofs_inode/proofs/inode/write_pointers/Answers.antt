use Rattle.std.proofs.Common.{◌+◌, ◌*◌, ◌<◌, arith}
use Rattle.nofs_inode.specs.Beside.{SameBeside-pointer}
use Rattle.nofs_inode.specs.OtherRecords.{direct_in-from, pointers-more}
use Rattle.nofs_inode.proofs.inode.write_pointers.Goals as goal

pub loop-j-preserved : goal.loop-j-preserved
loop-j-preserved c =
    let len = c.loop-j.auto.bytes in
    let low : c.loop-j.j < 8 = c.loop-j-test.true in
    let beside = SameBeside-pointer (c.args.at + 16 * c.loop-j.j) _ c.loop-j.bytes c.write_pointer_at.new.bytes
    (omega arith) c.write_pointer_at.ensures.put in
    pointers-more c.args.at c.loop-j.j c.args.pointers.now _ c.args.bytes.now c.loop-j.bytes
    c.write_pointer_at.new.bytes c.told-pointers low
    c.loop-j.invariant c.write_pointer_at.ensures.value beside

pub returns-clause-value : goal.returns-clause-value
returns-clause-value c =
    let all = c.loop-j-test.false in
    direct_in-from c.args.at c.loop-j.bytes c.args.pointers.now c.told-pointers
    (λ k low. c.loop-j.invariant.1 k (omega arith))
