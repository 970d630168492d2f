-- The lost slots of a file, slot by slot.
use Rattle.std.proofs.Common.{◌≡◌, ℕ, Bool, true, false, Result, Ok, Err, suc, ◌+◌, ◌<◌, ◌≤◌, ◌++◌, min, List, [], ◌∷◌}
use Rattle.std.proofs.Common.{sym, ap, ◌∙◌, subst, append_assoc, add-one, arith}
use Rattle.std.proofs.lemmas.List.{append-nil}
use Rattle.nofs_model.specs.Files.{Files}
use Rattle.nofs_history.specs.Machine.{value_of, size_of, slots_in, is_lost}
use Rattle.nofs_history.specs.Refusals.{slots}
use Rattle.nofs_history.specs.World.{World}
use Rattle.nofs_salvage.specs.declared.report.report.Loss.{Loss}
use Rattle.nofs_salvage.specs.declared.report.report.Loss.TheVariants as loss
use Rattle.std.specs.Prelude.{OnOk}
use Rattle.nofs_salvage.specs.declared.report.answers.SlotState.TheVariants as got
use Rattle.nofs_salvage.specs.Walk.Answers.{IsGot, IsNoted}
use Rattle.nofs_salvage.specs.Report.Losses.{if_so, lost_below, file_losses}

-- none so far
pub lost-none : (F : Files) (i : ℕ) (old : List Loss) → old ≡ old ++ lost_below F i 0
unfolding lost_below
lost-none F i old = sym (append-nil old)

-- one slot more
pub lost-more : (F : Files) (i k : ℕ) (old mid new : List Loss) → mid ≡ old ++ lost_below F i k
    → new ≡ mid ++ if_so (is_lost (value_of F i k)) (loss.Slot i k)
    → new ≡ old ++ lost_below F i (k + 1)
unfolding lost_below
lost-more F i k old mid new first more =
    let one : new ≡ old ++ lost_below F i (suc k) =
    more ∙ ap (λ l. l ++ if_so (is_lost (value_of F i k)) (loss.Slot i k)) first
    ∙ append_assoc old (lost_below F i k) (if_so (is_lost (value_of F i k)) (loss.Slot i k)) in
    rw add-one one

-- all below the size
pub lost-all : (W : World) (i n k : ℕ) (old new : List Loss) → n ≤ slots W → k ≡ n → new ≡ old ++ lost_below W.files i k
    → new ≡ old ++ lost_below W.files i (min n (slots W))
lost-all W i n k old new small is h = let m : k ≡ min n (slots W) = omega arith in
    subst (λ (j : ℕ). new ≡ old ++ lost_below W.files i j) m h

-- all that files have
pub lost-end : (W : World) (i n k : ℕ) (old new : List Loss) → k < n → k ≤ slots W
    → slots W ≤ k → new ≡ old ++ lost_below W.files i k
    → new ≡ old ++ lost_below W.files i (min n (slots W))
lost-end W i n k old new low small late h = let m : k ≡ min n (slots W) = omega arith in
    subst (λ (j : ℕ). new ≡ old ++ lost_below W.files i j) m h

-- One slot

pub noted-kept : (W : World) (i k : ℕ) (old : List Loss) → IsGot W i k got.Kept → IsNoted W i k true old old
noted-kept W i k old h = (h.0, rw h.1 (sym (append-nil old)))

pub noted-lost : (W : World) (i k : ℕ) (old new : List Loss) → IsGot W i k got.Lost
    → new ≡ old ++ loss.Slot i k ∷ [] → IsNoted W i k true old new
noted-lost W i k old new h more = (h.0, rw h.1 more)

-- One more slot, or the last one

pub noted-on : (W : World) (i k : ℕ) (more : Bool) (old mid new : List Loss) → more ≡ true → (k ≤ slots W)
    × (mid ≡ old ++ lost_below W.files i k)
    → IsNoted W i k more mid new
    → (k + 1 ≤ slots W) × (new ≡ old ++ lost_below W.files i (k + 1))
noted-on W i k more old mid new is first here =
    let h : IsNoted W i k true mid new = subst (λ (b : Bool). IsNoted W i k b mid new) is here in
    (omega (arith, h.0), lost-more W.files i k old mid new first.1 h.1)

pub noted-end : (W : World) (i n k : ℕ) (more : Bool) (old mid new : List Loss) → more ≡ false → k < n
    → (k ≤ slots W) × (mid ≡ old ++ lost_below W.files i k) → IsNoted W i k more mid new
    → new ≡ old ++ lost_below W.files i (min n (slots W))
noted-end W i n k more old mid new is low first here =
    let h : IsNoted W i k false mid new = subst (λ (b : Bool). IsNoted W i k b mid new) is here in
    lost-end W i n k old new low first.0 h.0 (h.1 ∙ first.1)

-- the size is the file's
pub noted-size : (W : World) (i size : ℕ) (old new : List Loss) → size_of W.files i ≡ size
    → new ≡ old ++ lost_below W.files i (min (slots_in size) (slots W)) → new ≡ old ++ file_losses W i
noted-size W i size old new e h =
    subst (λ (n : ℕ). new ≡ old ++ lost_below W.files i (min (slots_in n) (slots W))) (sym e) h

-- What follows from a result

pub on-ok : {T E A B : Type 0} (r : Result T E) → (A → B) → OnOk r A → OnOk r B
on-ok (Ok x) f h = f h
on-ok (Err e) f h = tt
