use Rattle.std.proofs.Common.{◌≡◌, Some}
use Rattle.nofs_inode.specs.declared.inode.FileKind.TheVariants as kind
use Rattle.nofs_model.specs.Files as files
use Rattle.nofs_model.specs.Geometry as image
use Rattle.nofs_model.proofs.names.is_agreed_directory.Given as goal

abbrev pub invariant-loop-directory : goal.invariant-loop-directory
invariant-loop-directory l =
    (files.agreed (files.files_in l.cells) l.directory ≡ files.agreed (files.files_in l.cells) l.here) ×
    ((image.inode l.cells l.here).kind ≡ Some kind.Directory)

abbrev pub decreases-loop-directory : goal.decreases-loop-directory
decreases-loop-directory l = (image.inode l.cells l.here).generation
