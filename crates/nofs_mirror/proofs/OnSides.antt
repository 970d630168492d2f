-- What a side may leave at the moments of the mirror, while it makes calls.
use Rattle.std.proofs.Common.{◌≡◌, ℕ, zero, suc, ◌+◌, ◌*◌, ◌<◌, ◌≤◌, Bool, List, [], ◌∷◌, length, get_or, arith, inl}
use Rattle.std.proofs.Common.{inr, sym, subst}
use Rattle.std.specs.Prelude.{◌↔◌}
use Rattle.nofs_disk.specs.declared.tag.Cell.{Cell}
use Rattle.nofs_disk.specs.Disk.{DiskState, KeepsPast}
use Rattle.nofs_mirror.specs.declared.sides.past.MirrorCall.{MirrorCall}
use Rattle.nofs_mirror.specs.declared.sides.past.Span.{Span}
use Rattle.nofs_mirror.specs.Laws.{SideLeft-later}
use Rattle.nofs_mirror.specs.Mirror.{IsMarkedBySide, LeftBy, SideLeft, last_span, no_call}

-- the calls without the last one
pub marked_tail : (side : MirrorCall → Span) (opened : Span) (call : MirrorCall) (past : List MirrorCall) (u : ℕ)
    → IsMarkedBySide side opened (call ∷ past) u → IsMarkedBySide side opened past u
marked_tail side opened call past u m =
    record {
      start = m.start;
      begins = λ k low. m.begins (suc k) (omega arith);
      ends = λ k low. m.ends (suc k) (omega arith);
    }

pub marked_later : (side : MirrorCall → Span) (opened : Span) (past : List MirrorCall) (u v : ℕ)
    → u ≤ v → IsMarkedBySide side opened past u
    → IsMarkedBySide side opened past v
marked_later side opened past u v le m = record {
  start = let e = m.start in omega arith;
  begins = λ k low. let e = m.begins k low in omega arith;
  ends = λ k low. let e = m.ends k low in omega arith;
}

pub marked_more : (side : MirrorCall → Span) (opened : Span) (past : List MirrorCall) (call : MirrorCall) (u : ℕ)
    → (side call).began ≤ u
    → (side call).ended ≤ u → IsMarkedBySide side opened past u → IsMarkedBySide side opened (call ∷ past) u
marked_more side opened past call u b e m = record { start = m.start; begins = begins; ends = ends }
  where
    begins : (k : ℕ) → k < length (call ∷ past) → (side (get_or (call ∷ past) k no_call)).began ≤ u
    begins zero low = b
    begins (suc k) low = m.begins k (omega arith)

    ends : (k : ℕ) → k < length (call ∷ past) → (side (get_or (call ∷ past) k no_call)).ended ≤ u
    ends zero low = e
    ends (suc k) low = m.ends k (omega arith)

within_keeps : (l l' : ℕ → List Cell → Type 0) (n : ℕ) (is_in : Bool) (from to u : ℕ) (image : List Cell)
    → ((j : ℕ) (w : List Cell) → j ≤ u → l j w → l' j w) → to ≤ u → LeftBy l n is_in from to image
    → LeftBy l' n is_in from to image
within_keeps l l' n is_in from to u image goes low w =
    let left = let high = w.high in goes w.at w.whole (omega arith) w.left in
    record { in_then = w.in_then; at = w.at; low = w.low; high = w.high; whole = w.whole; left = left; first = w.first }

-- what may be left, where the side may leave the same up to a moment
pub left_keeps : (side : MirrorCall → Span) (l l' : ℕ → List Cell → Type 0) (n : ℕ) (opened : Span)
    (past : List MirrorCall) (to u m : ℕ) (image : List Cell)
    → ((j : ℕ) (w : List Cell) → j ≤ u → l j w → l' j w) → to ≤ u → IsMarkedBySide side opened past u
    → SideLeft side l n opened past to m image → SideLeft side l' n opened past to m image
left_keeps side l l' n opened [] to u m image goes low marked (at, left) =
    (at, within_keeps l l' n opened.is_in opened.ended to u image goes low left)
left_keeps side l l' n opened (call ∷ past) to u m image goes low marked (inl (at, left)) =
    inl (at, within_keeps l l' n _ (side call).ended to u image goes low left)
left_keeps side l l' n opened (call ∷ past) to u m image goes low marked (inr (inl (at, left))) =
    inr (inl
    (at, within_keeps l l' n _ (side call).began (side call).ended u image goes (marked.ends 0 (omega arith)) left))
left_keeps side l l' n opened (call ∷ past) to u m image goes low marked (inr (inr left)) =
    inr (inr (left_keeps side l l' n opened past (side call).began u m image goes (marked.begins 0 (omega arith))
    (marked_tail side opened call past u marked) left))

-- a call that makes no moment leaves what could be left
pub stays_left : (side : MirrorCall → Span) (n : ℕ) (opened : Span) (past : List MirrorCall) (old new : DiskState)
    (m : ℕ) (image : List Cell)
    → KeepsPast old new → new.moment ≡ old.moment → IsMarkedBySide side opened past old.moment
    → SideLeft side new.left n opened past new.moment m image ↔ SideLeft side old.left n opened past old.moment m image
stays_left side n opened past old new m image keeps same marked =
    let F : ℕ → Type 0 = λ k. SideLeft side new.left n opened past k m image in (
      λ left. left_keeps side new.left old.left n opened past old.moment old.moment m image
          (λ j w le l. keeps.no_more j w le l) (omega arith) marked (subst F same left),
      λ left. subst F (sym same) (left_keeps side old.left new.left n opened past old.moment old.moment m image
          (λ j w le l. keeps.no_less j w le l) (omega arith) marked left),
    )

-- a write or flush leaves nothing more at earlier moments
pub moves_no_more : (side : MirrorCall → Span) (n : ℕ) (opened : Span) (past : List MirrorCall) (call : MirrorCall)
    (old new : DiskState) (m : ℕ)
    (image : List Cell) → KeepsPast old new
    → (side call).began ≡ old.moment → IsMarkedBySide side opened past old.moment → m ≤ 2 * length past
    → SideLeft side new.left n opened (call ∷ past) new.moment m image
    → SideLeft side old.left n opened past old.moment m image
moves_no_more side n opened past call old new m image keeps begins marked low (inl (at, left)) = absurd (omega arith)
moves_no_more side n opened past call old new m image keeps begins marked low (inr (inl (at, left))) =
    absurd (omega arith)
moves_no_more side n opened past call old new m image keeps begins marked low (inr (inr left)) =
    let F : ℕ → Type 0 = λ k. SideLeft side new.left n opened past k m image in
    left_keeps side new.left old.left n opened past old.moment old.moment m image (λ j w le l. keeps.no_more j w le l)
    (omega arith) marked
    (subst F begins left)

-- and nothing less
pub moves_no_less : (side : MirrorCall → Span) (n : ℕ) (opened : Span) (past : List MirrorCall) (call : MirrorCall)
    (old new : DiskState) (m : ℕ)
    (image : List Cell) → KeepsPast old new
    → (side call).began ≡ old.moment → IsMarkedBySide side opened past old.moment
    → SideLeft side old.left n opened past old.moment m image
    → SideLeft side new.left n opened (call ∷ past) new.moment m image
moves_no_less side n opened past call old new m image keeps begins marked left =
    let F : ℕ → Type 0 = λ k. SideLeft side new.left n opened past k m image in
    inr (inr (subst F (sym begins)
    (left_keeps side old.left new.left n opened past old.moment old.moment m image (λ j w le l. keeps.no_less j w le l)
    (omega arith) marked left)))

-- the images of the moment during the last call
pub left_during : (side : MirrorCall → Span) (l : ℕ → List Cell → Type 0) (n : ℕ) (opened : Span)
    (past : List MirrorCall) (call : MirrorCall) (to : ℕ)
    (image : List Cell)
    → SideLeft side l n opened (call ∷ past) to (2 * length past + 1) image
    → LeftBy l n (last_span side opened past).is_in (side call).began (side call).ended image
left_during side l n opened past call to image (inl (at, left)) = absurd (omega arith)
left_during side l n opened past call to image (inr (inl (at, left))) = left
left_during side l n opened past call to image (inr (inr left)) =
    absurd (SideLeft-later side l n opened past (side call).began (2 * length past + 1) image (omega arith) left)
