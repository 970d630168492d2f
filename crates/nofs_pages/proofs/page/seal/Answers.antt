use Rattle.std.proofs.Common.{◌∙◌, arith, ap}
use Rattle.nofs_pages.specs.Pages.{signed, single_magic}
use Rattle.nofs_pages.proofs.OnLaying.{signed-laid}
use Rattle.nofs_pages.proofs.page.seal.Goals as goal

pub returns : goal.returns
returns c =
    c.sign.ensures
    ∙ ap (signed single_magic 928 c.args.number) c.lay.ensures
    ∙ signed-laid single_magic 928 c.args.number c.args.area.now (omega (arith, c.requires.area))
