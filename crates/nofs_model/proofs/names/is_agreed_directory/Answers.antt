use Rattle.std.proofs.Common.{refl, sym, ◌∙◌}
use Rattle.nofs_model.specs.Files.{files_in}
use Rattle.nofs_model.proofs.OnFiles.Parents.{special-is, linked-is}
use Rattle.nofs_model.proofs.names.is_agreed_directory.Goals as goal

pub loop-directory-init : goal.loop-directory-init
loop-directory-init c = (refl, c.requires.directory)

pub returns-then-is_agreed_at_once : goal.returns-then-is_agreed_at_once
returns-then-is_agreed_at_once c = sym (c.loop-directory.invariant.0 ∙ c.if-is_agreed_at_once.ensures.yes refl)

pub returns-then-is_special : goal.returns-then-is_special
returns-then-is_special c = sym (c.loop-directory.invariant.0
    ∙ special-is (files_in c.args.cells.now) c.loop-directory.here (c.if-is_agreed_at_once.ensures.no refl)
    (sym c.if-is_special.ensures))

pub returns-in-None : goal.returns-in-None
returns-in-None c =
    sym (c.loop-directory.invariant.0 ∙ linked-is (files_in c.args.cells.now) c.loop-directory.here
    (c.if-is_agreed_at_once.ensures.no refl) (sym c.if-is_special.ensures)
    ∙ c.in-None.ensures.none refl)

pub loop-directory-preserved : goal.loop-directory-preserved
loop-directory-preserved c = (
  c.loop-directory.invariant.0 ∙ linked-is (files_in c.args.cells.now) c.loop-directory.here
      (c.if-is_agreed_at_once.ensures.no refl) (sym c.if-is_special.ensures)
      ∙ c.in-Some.ensures.parent.same,
  c.in-Some.ensures.parent.directory,
)
