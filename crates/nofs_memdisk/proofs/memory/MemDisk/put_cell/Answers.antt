use Rattle.std.proofs.Common.{◌<◌, ◌∙◌, ℕ, List, set, sym, ap, length, subst}
use Rattle.std.proofs.lemmas.List.{length-set}
use Rattle.nofs_disk.specs.declared.tag.Cell.{Cell}
use Rattle.nofs_disk.specs.Disk.{IsSizedCell, cell_at}
use Rattle.nofs_memdisk.specs.Parts.{Parts}
use Rattle.nofs_versions.proofs.OnMemory.Cells.{after_none, settled_none}
use Rattle.nofs_versions.proofs.OnMemory.Sizes.{sized_base, sized_now, sized_set}
use Rattle.nofs_memdisk.proofs.memory.MemDisk.put_cell.Goals as goal

pub invariant_of-self : goal.invariant_of-self
invariant_of-self c =
    let mid = c.forget_calls.new.self in
    let block = c.args.block in
    let cell = c.args.cell.now in
    let none = ap (λ p. p.calls) c.forget_calls.ensures in
    let now = after_none mid.base.items mid.calls.items none in
    let len = length-set mid.base.items block cell in
    let Sized : List Cell → Type 0 = λ l. (b : ℕ) → b < length l → IsSizedCell (cell_at l b) in
    let sized : Sized mid.base.items = λ b low. subst (λ (l : List Cell). IsSizedCell (cell_at l b)) now
    (sized_now mid.base.items mid.calls.items mid.sized b low) in
    record {
      present = ap (λ l. set l block cell) (mid.present ∙ now)
          ∙ sym (after_none (set mid.base.items block cell) mid.calls.items none);
      whole = ap (λ l. length (set l block cell)) (mid.present ∙ now);
      room = mid.room;
      counted = mid.counted;
      kept = mid.kept;
      sized = sized_base (set mid.base.items block cell) mid.calls.items none
          (sized_set mid.base.items block cell c.note_sizes.ensures sized);
    }

pub returns : goal.returns
returns c =
    let mid = c.forget_calls.new.self in
    let block = c.args.block in
    let cell = c.args.cell.now in
    let none = ap (λ p. p.calls) c.forget_calls.ensures in
    let lay : Parts → Parts = λ p. record p { base = set p.base block cell } in
    record {
      parts = ap lay c.forget_calls.ensures;
      settled = settled_none mid.start (set mid.base.items block cell) mid.calls.items mid.spare mid.faults none;
    }
