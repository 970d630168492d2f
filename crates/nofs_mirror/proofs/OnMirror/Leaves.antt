-- What a crash may leave of a side during a call that asks it, it may leave of the mirror.
use Rattle.std.proofs.Common.{◌≡◌, ◌+◌, ◌*◌, Bool, List, ◌∷◌, length, take, arith, inl, inr, refl, sym, ◌∙◌}
use Rattle.std.specs.Prelude.{IsTrue}
use Rattle.nofs_disk.specs.declared.tag.Cell.{Cell}
use Rattle.nofs_disk.specs.Disk.{DiskState}
use Rattle.nofs_mirror.specs.declared.sides.past.MirrorCall.{MirrorCall}
use Rattle.nofs_mirror.specs.declared.sides.past.Span.{Span}
use Rattle.nofs_mirror.specs.Mirror.{SideLeaves, SideLeft, last_span}

-- a mirror that may leave what a side leaves during a call may leave it at its moment then
pub during_leaves : (side : MirrorCall → Span) (opened : Span) (past : List MirrorCall) (call : MirrorCall)
    (old new mirror : DiskState) (was_in : Bool)
    → was_in ≡ (last_span side opened past).is_in → (side call).began ≡ old.moment → (side call).ended ≡ new.moment
    → ((image : List Cell) → IsTrue mirror.tells
    → SideLeft side new.left mirror.blocks opened (call ∷ past) new.moment (2 * length past + 1) image
    → mirror.left (2 * length past + 1) image)
    → SideLeaves was_in old.moment mirror new (2 * length past + 1)
during_leaves side opened past call old new mirror was_in same begins ends leaves = record {
  each = λ i t at image low high left. leaves (take mirror.blocks image) t (inr (inl (
    refl,
    record {
      in_then = sym same ∙ i;
      at = at;
      low = omega arith;
      high = omega arith;
      whole = image;
      left = left;
      first = refl;
    },
  )));
}
