-- What a step gives, as it was computed, in the words of the machine.
use Rattle.std.specs.Prelude.{ℕ, true, [], ◌∷◌, ◌&&◌, ◌==◌, Bool, Option, Some, None, if◌then◌else◌, nat_lt, List}
use Rattle.nofs_ptrs.specs.Paths.{slot_limit}
use Rattle.nofs_model.specs.Files.{Files}
use Rattle.nofs_model.specs.declared.image.value.Value.{Value}
use Rattle.nofs_model.specs.declared.image.value.Value.TheVariants.{Hole, Bytes}
use Rattle.nofs_history.specs.Meta.{Meta, Gone, Is}
use Rattle.nofs_history.specs.Machine.{Given, nothing, is_at, cell_given, meta_given, no_meta, resize_given, link_to}
use Rattle.nofs_history.specs.Since.{values_given}
use Rattle.nofs_history.specs.declared.machine.history.Entry1.{Entry1}
use Rattle.nofs_history.specs.declared.accepted.given.given.GivenCell.{GivenCell}
use Rattle.nofs_history.specs.declared.accepted.given.given.MetaNow.{MetaNow}
use Rattle.nofs_history.specs.declared.accepted.given.given.MetaNow.TheVariants as now
use Rattle.nofs_history.specs.declared.accepted.given.given.GivenMeta.{GivenMeta}
use Rattle.nofs_history.specs.declared.accepted.given.given.Birth.{Birth}
use Rattle.nofs_history.specs.declared.accepted.given.given.GivenNow.{GivenNow}
use Rattle.nofs_history.specs.declared.accepted.given.slots.Wanted.{Wanted}
use Rattle.nofs_history.specs.declared.accepted.given.given.GivenNow.TheVariants as what

-- what a file becomes
abbrev pub meta_now : MetaNow → Meta
meta_now now.Gone = Gone
meta_now (now.Is kind size links) = Is kind size links

-- the metas that are given: one, or none
abbrev pub metas_of : Option GivenMeta → ℕ → ℕ → Option Meta
metas_of None = no_meta
metas_of (Some it) = meta_given it.inode it.generation (meta_now it.meta)

-- a cell with these metas
abbrev pub cell_of : GivenCell → (ℕ → ℕ → Option Meta) → Given
cell_of it metas = cell_given it.inode it.generation it.slot (Bytes it.cell.value) metas

-- what is given, and a new file beside it, with nothing left of other generations
abbrev pub with_birth : Given → Birth → Given
with_birth base it = record {
  born = λ j. if j == it.inode then Some it.generation else None;
  slots = λ j h k. if is_at it.inode it.generation j h then Some Hole else base.slots j h k;
  nodes = base.nodes;
  metas = λ j h. if j == it.inode
      then Some
      (if h == it.generation then Is it.kind 0 (it.link ∷ link_to 0 0 0 ∷ link_to 0 0 0 ∷ link_to 0 0 0 ∷ []) else Gone)
      else None;
}

-- what is given, by the files before it
abbrev pub given_of : Files → GivenNow → Given
given_of F what.Nothing = nothing
given_of F (what.Size i g size) = resize_given F i g size
given_of F (what.Cell cell meta) = cell_of cell (metas_of meta)
given_of F (what.Make cell birth) = with_birth (cell_of cell no_meta) birth

-- what goes to a slot
abbrev pub value_for : Given → Wanted → Option Value
value_for given wanted = given.slots wanted.inode wanted.generation wanted.slot

-- and by these entries, in their order
abbrev pub values_for : Files → List Entry1 → Wanted → List Value
values_for F entries wanted = values_given F entries wanted.inode wanted.generation wanted.slot

-- a cell goes to a slot that a file can have, and a birth to an inode
abbrev pub is_sound : GivenNow → Bool
is_sound (what.Cell cell meta) = nat_lt cell.slot slot_limit
is_sound (what.Make cell birth) = nat_lt cell.slot slot_limit && nat_lt 0 birth.inode
is_sound what.Nothing = true
is_sound (what.Size i g size) = true
