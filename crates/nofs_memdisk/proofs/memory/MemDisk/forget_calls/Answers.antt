use Rattle.std.proofs.Common.{arith, ◌≡◌, ◌<◌, ◌∙◌, ℕ, List, sym, ap, length, subst}
use Rattle.std.proofs.lemmas.Grind.{common_steps}
use Rattle.nofs_disk.specs.declared.tag.Cell.{Cell}
use Rattle.nofs_disk.specs.Disk.{IsSizedCell, cell_at}
use Rattle.std.proofs.lemmas.List.{nil_from_length}
use Rattle.nofs_memdisk.specs.Parts.{parts_of}
use Rattle.nofs_versions.proofs.OnMemory.Cells.{after_none}
use Rattle.nofs_versions.proofs.OnMemory.Sizes.{sized_base, sized_now}
use Rattle.nofs_memdisk.proofs.OnMemory.Parts.{forgets_none}
use Rattle.nofs_memdisk.proofs.memory.MemDisk.forget_calls.Goals as goal

pub invariant_of-self-2 : goal.invariant_of-self-2
invariant_of-self-2 c =
    let old = c.args.self.now in
    let base = c.copy_from_slice.ensures.items ∙ c.deref.ensures.value in
    let none : length c.clear.new.self.items ≡ 0 = ap length c.clear.ensures.items in
    let Sized : List Cell → Type 0 = λ l. (b : ℕ) → b < length l → IsSizedCell (cell_at l b) in
    let is_now = base ∙ old.present in
    record {
      present = sym base
          ∙ sym (after_none c.copy_from_slice.new.self.items c.clear.new.self.items c.clear.ensures.items);
      whole = ap length (sym base);
      room = let e = old.room in let l = c.len-made.ensures in grind (arith, common_steps);
      counted = old.counted;
      kept = let e = old.kept in let l = c.clear.ensures.capacity in omega arith;
      sized = sized_base c.copy_from_slice.new.self.items c.clear.new.self.items c.clear.ensures.items
          (subst Sized (sym is_now)
          (λ b low. sized_now old.base.items old.calls.items old.sized b (let w = old.whole in let p =
          ap length old.present in omega arith)));
    }

pub returns-then-made-eq0 : goal.returns-then-made-eq0
returns-then-made-eq0 c = forgets_none (parts_of c.args.self.now)
    (nil_from_length c.args.self.now.calls.items
    (let l = c.len-made.ensures in let t = c.if-made-eq0.true in grind (arith, common_steps)))
