use Rattle.std.proofs.Common.{◌-◌, ◌∙◌, ap, arith, drop, length}
use Rattle.std.proofs.lemmas.List.{length-drop, length-take-le}
use Rattle.nofs_disk.specs.Number.{zeros}
use Rattle.nofs_filedisk.proofs.OnMoving.Reads.{cleared}
use Rattle.nofs_filedisk.proofs.moving.clear_on.Goals as goal

pub returns-clause-zero : goal.returns-clause-zero
returns-clause-zero c k behind =
    let into = c.args.into.now in
    let done = c.args.done in
    let size = length-take-le (length into - done) (drop done into) (omega (arith, length-drop done into)) in
    cleared done k into c.clear.new.bytes c.requires (c.clear.ensures ∙ ap zeros size) behind
