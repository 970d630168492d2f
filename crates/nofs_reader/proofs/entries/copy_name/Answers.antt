use Rattle.std.proofs.Common.{length, take, refl, ap, ◌∙◌}
use Rattle.nofs_disk.specs.Parts.{take-put_bytes_first}
use Rattle.nofs_reader.proofs.entries.copy_name.Goals as goal

pub returns : goal.returns
returns c =
    ap (take (length c.args.name.now)) c.write_bytes_at.ensures
    ∙ take-put_bytes_first (length c.args.name.now) c.args.name.now c.clear.new.bytes refl
