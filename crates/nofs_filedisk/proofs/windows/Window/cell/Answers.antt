use Rattle.std.proofs.Common.{ℕ, ◌+◌, ◌/◌, List, ap, ◌∙◌, arith}
use Rattle.std.specs.Prelude.{slice_range}
use Rattle.nofs_filedisk.proofs.OnWindows.{cell-shown}
use Rattle.nofs_filedisk.proofs.windows.Window.cell.Goals as goal

pub returns : goal.returns
returns c bytes shown =
    let window = c.args.self.now in
    let size = window.size in
    let fits = c.place_of.ensures.fits in
    let same = c.as_slice.ensures.value in
    cell-shown bytes window.bytes.items c.args.block c.place_of.result c.copy_cell.new.into
    c.place_of.ensures.value (omega arith)
    (shown (c.args.block / 66) c.requires)
    (c.copy_cell.ensures.payload ∙ ap (λ (b : List ℕ). slice_range b c.place_of.result (c.place_of.result + 1024)) same)
    (c.copy_cell.ensures.tag
    ∙ ap (λ (b : List ℕ). slice_range b (c.place_of.result + 1024) (c.place_of.result + 1056)) same)
