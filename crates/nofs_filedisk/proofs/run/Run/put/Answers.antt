use Rattle.std.proofs.Common.{◌%◌, arith}
use Rattle.nofs_filedisk.proofs.OnFiledisk.Present.{cell-beside, cell-put}
use Rattle.nofs_filedisk.proofs.run.Run.put.Goals as goal

pub returns-clause-here : goal.returns-clause-here
returns-clause-here c =
    let run = c.args.self.now in
    let size = run.size in
    let fits = c.place_of.ensures.fits in
    cell-put run.bytes.items c.put_parts.new.bytes.items (c.args.block % 66)
    c.place_of.result c.args.cell.now c.place_of.ensures.value (omega arith)
    c.note_sizes.ensures.payload.len c.note_sizes.ensures.tag.len c.put_parts.ensures.value

pub returns-clause-others : goal.returns-clause-others
returns-clause-others c k other =
    let run = c.args.self.now in
    let size = run.size in
    let fits = c.place_of.ensures.fits in
    cell-beside run.bytes.items c.put_parts.new.bytes.items (c.args.block % 66)
    c.place_of.result k c.args.cell.now c.place_of.ensures.value
    (omega arith) c.note_sizes.ensures.payload.len c.note_sizes.ensures.tag.len c.put_parts.ensures.value other
