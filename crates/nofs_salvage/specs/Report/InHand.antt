-- The directories that a walk has in hand.
use Rattle.std.specs.Prelude.{List}
use Rattle.nofs_salvage.specs.declared.report.answers.InodeHandle.{InodeHandle}
use Rattle.nofs_salvage.specs.declared.report.tree.Tree.{Tree}

abbrev pub handles_in : Tree → List InodeHandle
handles_in tree = tree.list.items
