use Rattle.std.proofs.Common.{◌≡◌, ap, sym, ◌∙◌, length}
use Rattle.nofs_model.specs.Slots.{value}
use Rattle.nofs_model.specs.declared.image.value.Value.TheVariants.{Bytes}
use Rattle.nofs_history.proofs.OnAccepted.BaseFiles.{value-sized}
use Rattle.nofs_history.proofs.accepted.base.read_value.Goals as goal

pub boxed-requires : goal.boxed-requires
boxed-requires c =
    let is : value c.args.base.now c.args.inode c.args.slot ≡ Bytes c.in-Bytes.content =
    sym c.in_ok-value_of.ensures ∙ c.in-Bytes.is in
    ap length c.as_slice.ensures ∙ value-sized c.args.base.now c.args.inode c.args.slot c.in-Bytes.content
    c.requires.image c.requires.sized is
