use Rattle.std.proofs.Common.{ℕ, List, Some, ap, ◌∙◌}
use Rattle.nofs_disk.specs.declared.tag.Kind.TheVariants.{Leaf}
use Rattle.nofs_disk.specs.Pointer.{is_null}
use Rattle.nofs_ptrs.specs.Cells.{pointer_at}
use Rattle.nofs_state.proofs.OnWrites.ZeroPointers.{zeros-null}
use Rattle.nofs_files.proofs.puts.cells.fill_pointers.Goals as goal

pub returns : goal.returns
returns c = record {
  tag = c.write_tag.ensures.read ∙ ap (λ (n : ℕ). Some (record {
    kind = Leaf;
    inode = c.args.put.now.inode;
    generation = c.args.put.now.generation;
    slot = n;
    stamp = c.args.stamp;
  })) c.slot_number.ensures;
  pointer = c.write_pointer.ensures.written;
  others = λ j ne lt. ap is_null (c.write_pointer.ensures.others j ne lt ∙ ap (λ
      (q : List ℕ). pointer_at q j) c.requires.zeros)
      ∙ zeros-null 1024 j;
}
