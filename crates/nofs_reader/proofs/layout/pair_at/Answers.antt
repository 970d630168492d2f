use Rattle.std.proofs.Common.{ℕ, ◌+◌, List, ap, ◌∙◌, arith}
use Rattle.std.specs.Prelude.{slice_range}
use Rattle.nofs_disk.specs.CellsOfBytes.{part-range, part_of}
use Rattle.nofs_reader.specs.Layouts.{pair_of}
use Rattle.nofs_reader.proofs.layout.pair_at.Goals as goal

pub returns-then-end-bytes : goal.returns-then-end-bytes
returns-then-end-bytes c =
    let fits = c.if-end-bytes.true in
    let bytes : List ℕ = c.args.bytes.now in
    let at : ℕ = c.args.at in
    let number : ℕ = c.args.number in
    let one : List ℕ = part_of bytes at 4096 in
    c.pair_of.ensures
    ∙ ap (λ (l : List ℕ). pair_of number l (slice_range bytes (at + 4096) (at + 8192)))
    (part-range bytes at 4096 (omega (arith, fits)))
    ∙ ap (λ (end : ℕ). pair_of number one (slice_range bytes (at + 4096) end)) {x = at + 8192} {y = at + 4096 + 4096}
    (omega arith)
    ∙ ap (pair_of number one) (part-range bytes (at + 4096) 4096 (omega (arith, fits)))
