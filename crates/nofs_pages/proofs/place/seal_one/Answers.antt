use Rattle.std.proofs.Common.{◌∙◌, ap}
use Rattle.nofs_disk.specs.Number.{put_number}
use Rattle.nofs_pages.specs.Pages.{signed}
use Rattle.nofs_pages.specs.Twins.{twin_magic}
use Rattle.nofs_pages.proofs.OnLaying.{twin-signed}
use Rattle.nofs_pages.proofs.place.seal_one.Goals as goal

pub returns : goal.returns
returns c =
    c.sign.ensures
    ∙ ap (signed twin_magic 896 c.args.number)
    (c.write_u64_at.ensures.put ∙ ap (put_number 8 896 c.args.version) c.lay.ensures)
    ∙ twin-signed c.args.number c.args.version c.args.area.now c.requires.area
