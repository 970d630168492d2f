use Rattle.std.proofs.Common.{◌+◌, ◌∙◌, arith}
use Rattle.nofs_pages.proofs.OnRows.{put-page}
use Rattle.nofs_pages.proofs.page.seal_one.Goals as goal

pub returns : goal.returns
returns c =
    put-page c.args.to c.args.number c.args.from c.args.area.now c.args.raw.now c.seal.new.page
    (omega arith) c.requires.area c.seal.ensures
