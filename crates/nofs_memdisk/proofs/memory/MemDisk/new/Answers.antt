use Rattle.std.proofs.Common.{◌≡◌, ◌<◌, ℕ, List, length, refl, sym, subst}
use Rattle.std.specs.Prelude.{IfOk}
use Rattle.nofs_disk.specs.declared.tag.Cell.{Cell}
use Rattle.nofs_disk.specs.Disk.{IsSizedCell, cell_at}
use Rattle.nofs_disk.specs.Number.{zeros}
use Rattle.nofs_disk.specs.Tag.{zero_cell}
use Rattle.nofs_memdisk.specs.Parts.{fresh_parts, parts_of}
use Rattle.nofs_versions.proofs.OnMemory.Sizes.{sized_base, sized_zeros}
use Rattle.nofs_memdisk.proofs.memory.MemDisk.new.Goals as goal

pub of-requires : goal.of-requires
unfolding zero_cell zeros
of-requires c =
    let base = c.in_ok-base.ensures.items_if_clones_equal (λ y h. h) in
    let Sized : List Cell → Type 0 = λ l. (b : ℕ) → b < length l → IsSizedCell (cell_at l b) in
    sized_base _ _ refl (subst Sized (sym base) (sized_zeros c.args.blocks))

pub returns-clause-parts : goal.returns-clause-parts
unfolding zero_cell zeros
returns-clause-parts c =
    let base = c.in_ok-base.ensures.items_if_clones_equal (λ y h. h) in
    subst (λ (l : List Cell). IfOk c.of.result (λ disk. parts_of disk ≡ fresh_parts l)) base c.of.ensures.parts
