use Rattle.std.proofs.Common.{length, ◌∙◌, arith}
use Rattle.nofs_reader.proofs.OnDisk.{bytes-to_end, bytes-past}
use Rattle.nofs_reader.proofs.bytes.read_end.Goals as goal

pub returns-then-at-bytes : goal.returns-then-at-bytes
returns-then-at-bytes c =
    bytes-to_end c.args.bytes.now c.write_bytes_at.new.bytes c.clear.new.bytes c.args.at (length c.args.into.now)
    (omega arith) c.requires c.clear.ensures c.write_bytes_at.ensures

pub returns-else-at-bytes : goal.returns-else-at-bytes
returns-else-at-bytes c =
    c.clear.ensures ∙ bytes-past c.args.bytes.now c.args.at (length c.args.into.now) (omega arith)
