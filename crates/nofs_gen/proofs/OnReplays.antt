-- Entries of a history, one after another.
use Rattle.std.proofs.Common.{◌≡◌, ℕ, zero, suc, ◌+◌, ◌<◌, List, [], ◌∷◌, length, drop, Some, None, Result, Ok, Err}
use Rattle.std.proofs.Common.{slice_get, fold, sym, ap, ◌∙◌, arith}
use Rattle.std.specs.Prelude.{IfOk}
use Rattle.nofs_history.specs.declared.machine.history.Entry1.{Entry1}
use Rattle.nofs_gen.specs.declared.file.Replayed.{Replayed}
use Rattle.nofs_gen.specs.Replay.{FileContent, after_entry, replayed_file}

drop-next : (es : List Entry1) (at : ℕ) (e : Entry1) → slice_get es at ≡ Some e → drop at es ≡ e ∷ drop (at + 1) es
drop-next [] at e is = absurd (cc is)
drop-next (x ∷ es) zero e is = let same : x ≡ e = cc is in ap (λ (y : Entry1). y ∷ es) same
drop-next (x ∷ es) (suc at) e is = let s : suc at + 1 ≡ suc (at + 1) = omega arith in rw s (drop-next es at e is)

pub is-there : (es : List Entry1) (at : ℕ) → at < length es → slice_get es at ≡ None → ⊥
is-there [] at lt is = omega (arith, lt)
is-there (x ∷ es) zero lt is = cc is
is-there (x ∷ es) (suc at) lt is = is-there es at (omega (arith, lt)) is

-- the file after the entry at a place
pub pass-entry : {E : Type 0} (i g : ℕ) (f : FileContent) (made : Result Replayed E) (es : List Entry1) (at : ℕ)
    (e : Entry1) → slice_get es at ≡ Some e
    → IfOk made (λ next. replayed_file next ≡ after_entry i g f e)
    → IfOk made
    (λ next. fold (after_entry i g) (replayed_file next) (drop (at + 1) es) ≡ fold (after_entry i g) f (drop at es))
pass-entry i g f (Ok next) es at e found is = ap (λ x. fold (after_entry i g) x (drop (at + 1) es)) is
    ∙ sym (ap (fold (after_entry i g) f) (drop-next es at e found))
pass-entry i g f (Err x) es at e found is = tt
