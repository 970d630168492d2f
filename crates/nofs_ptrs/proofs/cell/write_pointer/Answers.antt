use Rattle.std.proofs.Common.{◌*◌, arith, ap, ◌∙◌, inl, inr}
use Rattle.std.proofs.lemmas.Bool.{cases_lt}
use Rattle.nofs_disk.specs.Pointer.{pointer_in, pointer_in-put_after, pointer_in-put_before}
use Rattle.nofs_ptrs.specs.Cells.{pointer_at}
use Rattle.nofs_ptrs.proofs.cell.write_pointer.Goals as goal

pub returns : goal.returns
unfolding pointer_at
returns c =
    let at = c.args.at in
    let old = c.args.payload.now in
    let low = c.requires in
    let len = c.told-payload in
    let put = c.write_pointer_at.ensures.put in
    record {
      put = put;
      written = c.write_pointer_at.ensures.value;
      others = λ j other below. ap (pointer_in (16 * j)) put ∙ elim (cases_lt j at) [
        | inl before ↦ pointer_in-put_after (16 * at) (16 * j) c.args.it old (omega arith) (omega arith)
        | inr rest ↦ elim (cases_lt at j) [
          | inl behind ↦ pointer_in-put_before (16 * at) (16 * j) c.args.it old (omega arith) (omega arith)
          | inr same ↦ absurd (other (omega arith))
        ]
      ];
    }
