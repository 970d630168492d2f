use Rattle.std.proofs.Common.{◌∙◌, ap}
use Rattle.nofs_disk.specs.Number.{put_bytes}
use Rattle.nofs_pages.proofs.OnLaying.{front-laid}
use Rattle.nofs_pages.proofs.page.lay.Goals as goal

pub returns : goal.returns
returns c =
    c.write_bytes_at.ensures
    ∙ ap (put_bytes c.args.at c.args.body.now) c.clear_front.ensures
    ∙ front-laid c.args.at c.args.body.now c.args.page.now c.requires.body c.requires.page
