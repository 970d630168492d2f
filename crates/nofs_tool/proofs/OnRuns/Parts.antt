-- A text that is told part by part.
use Rattle.std.proofs.Common.{ℕ, ◌+◌, ◌<◌, ◌≤◌, List, Result, Ok, Err, inl, inr, length, take, drop, get_or, subst}
use Rattle.std.specs.Prelude.{IsErr, flat_map}
use Rattle.nofs_io.specs.Calls.{CountRose, SinkState}
use Rattle.nofs_io.specs.Texts.{AppendsAll, AppendsPart}
use Rattle.nofs_script.proofs.OnTelling.{part-of-whole, pieces-at}
use Rattle.nofs_tool.specs.Runs.Says.{Prints, Tells}

-- a text was told, whichever way its call ended
pub prints-told : {T E : Type 0} (old new : SinkState) (result : Result T E) (text : List ℕ)
    → Tells old new result text → Prints old new text
prints-told old new (Ok x) text tells = inl tells.whole
prints-told old new (Err e) text tells = inr (tells.part, tells.cause.failed)

-- a text whose piece at a place was told in part was told in part
pub pieces-part : {X : Type 0} (f : X → List ℕ) (xs : List X) (i : ℕ) (d : X) (old mid new : SinkState)
    → i < length xs → AppendsAll old mid (flat_map f (take i xs)) → AppendsPart mid new (f (get_or xs i d))
    → AppendsPart old new (flat_map f xs)
pieces-part f xs i d old mid new below all part =
    subst (λ (l : List ℕ). AppendsPart old new l) (pieces-at f xs i d below)
    (part-of-whole old mid new (flat_map f (take i xs)) (f (get_or xs i d)) (flat_map f (drop (i + 1) xs)) all part)

-- a telling that was stopped
pub stopped : {T E : Type 0} (result : Result T E) (old new : SinkState) (text : List ℕ) → IsErr result
    → AppendsPart old new text → old.faults ≤ new.faults → CountRose old.faults new.faults
    → Tells old new result text
stopped (Ok x) old new text is part later rose = absurd (cc is)
stopped (Err e) old new text is part later rose = record {
  whole = tt;
  part = part;
  cause = record { later = later; failed = rose };
}
