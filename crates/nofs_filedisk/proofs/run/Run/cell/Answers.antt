use Rattle.std.proofs.Common.{◌+◌, ◌%◌, List, ℕ, ap, ◌∙◌, arith}
use Rattle.std.specs.Prelude.{slice_range}
use Rattle.nofs_filedisk.proofs.OnFiledisk.Present.{cell-taken}
use Rattle.nofs_filedisk.proofs.run.Run.cell.Goals as goal

pub returns : goal.returns
returns c =
    let run = c.args.self.now in
    let size = run.size in
    let fits = c.place_of.ensures.fits in
    let same = c.as_slice.ensures.value in
    let at : ℕ = c.place_of.result in
    cell-taken run.bytes.items (c.args.block % 66) at c.copy_cell.new.into c.place_of.ensures.value (omega arith)
    (c.copy_cell.ensures.payload ∙ ap (λ (b : List ℕ). slice_range b at (at + 1024)) same)
    (c.copy_cell.ensures.tag ∙ ap (λ (b : List ℕ). slice_range b (at + 1024) (at + 1056)) same)
