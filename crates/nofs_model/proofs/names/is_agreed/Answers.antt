use Rattle.std.proofs.Common.{refl, sym, ◌∙◌}
use Rattle.nofs_model.specs.Files.{files_in}
use Rattle.nofs_model.proofs.OnFiles.Parents.{special-is, linked-is, any-links}
use Rattle.nofs_model.proofs.names.is_agreed.Goals as goal

pub returns-then-is_agreed_at_once : goal.returns-then-is_agreed_at_once
returns-then-is_agreed_at_once c = sym (c.if-is_agreed_at_once.ensures.yes refl)

pub returns-then-is_special : goal.returns-then-is_special
returns-then-is_special c = sym (special-is (files_in c.args.cells.now) c.args.inode
    (c.if-is_agreed_at_once.ensures.no refl) (sym c.if-is_special.ensures))

pub returns : goal.returns
returns c =
    c.has_agreed_link.ensures ∙ any-links c.args.cells.now c.args.inode c.read_inode-it.result
    c.read_inode-it.ensures.same
    ∙ sym (linked-is (files_in c.args.cells.now) c.args.inode (c.if-is_agreed_at_once.ensures.no refl)
    (sym c.if-is_special.ensures))
