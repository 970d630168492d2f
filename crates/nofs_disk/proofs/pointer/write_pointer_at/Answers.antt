use Rattle.std.proofs.Common.{◌+◌, ◌^◌, ◌<◌, ap, ◌∙◌, arith}
use Rattle.nofs_disk.specs.Number.{put_number}
use Rattle.nofs_disk.specs.Pointer.{pointer_in, pointer_in-put_same, put_pointer}
use Rattle.nofs_disk.proofs.pointer.write_pointer_at.Goals as goal

pub returns : goal.returns
unfolding put_pointer
returns c =
    let put = c.write_u64_at-2.ensures.put
    ∙ ap (put_number 8 (c.args.at + 8) c.args.it.stamp) c.write_u64_at.ensures.put in
    let block : c.args.it.block < 2 ^ 64 = let e = c.write_u64_at.ensures.value in grind arith in
    let stamp : c.args.it.stamp < 2 ^ 64 = let e = c.write_u64_at-2.ensures.value in grind arith in
    record {
      put = put;
      value = ap (pointer_in c.args.at) put
          ∙ pointer_in-put_same c.args.at c.args.it c.args.bytes.now
          (record { block = block; stamp = stamp }) c.requires;
    }
