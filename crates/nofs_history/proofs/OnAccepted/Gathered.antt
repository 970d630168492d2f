-- The values that entries give, one entry at a time.
use Rattle.std.proofs.Common.{◌≡◌, ℕ, zero, suc, ◌+◌, ◌<◌, Bool, true, false, cond, List, [], ◌∷◌, ◌++◌, length, drop}
use Rattle.std.proofs.Common.{Some, None, option_to_list}
use Rattle.std.proofs.Common.{slice_get, refl, sym, ap, ◌∙◌, append_assoc, append-nil, arith}
use Rattle.nofs_ptrs.specs.Paths.{slot_limit}
use Rattle.nofs_model.specs.Files.{Files}
use Rattle.nofs_model.specs.declared.image.value.Value.{Value}
use Rattle.nofs_history.specs.Machine.{nothing, gives, files_after, given_by, files_by, is_refused, may_give}
use Rattle.nofs_history.specs.Since.{values_given}
use Rattle.nofs_history.specs.Accepted.Files.{kept_files}
use Rattle.nofs_history.specs.Accepted.Fit.{is_fit, AreFit}
use Rattle.nofs_history.specs.declared.machine.history.Entry1.{Entry1}
use Rattle.nofs_history.proofs.OnAccepted.Alike.{SameGiven, gives-same, after-same}

-- alike files give alike
step-same : (F G : Files) → kept_files F ≡ kept_files G
    → (e : Entry1) → SameGiven (gives F e.step e.claims) (gives G e.step e.claims)
step-same F G alike e =
    let a = gives-same F e.step e.claims in
    let b = gives-same G e.step e.claims in
    record {
      born = λ i. a.born i ∙ ap (λ (H : Files). (gives H e.step e.claims).born i) alike ∙ sym (b.born i);
      slots = λ i g k lt. a.slots i g k lt ∙ ap (λ (H : Files). (gives H e.step e.claims).slots i g k) alike
          ∙ sym (b.slots i g k lt);
      metas = λ i g. a.metas i g ∙ ap (λ (H : Files). (gives H e.step e.claims).metas i g) alike ∙ sym (b.metas i g);
    }

given-same : (F G : Files) → kept_files F ≡ kept_files G
    → (e : Entry1) (i g k : ℕ) → k < slot_limit → (given_by F e).slots i g k ≡ (given_by G e).slots i g k
given-same F G alike e i g k lt = go (may_give e.reply)
  where
    go : (b : Bool) → (cond b (gives F e.step e.claims) nothing).slots i g k
        ≡ (cond b (gives G e.step e.claims) nothing).slots i g k
    go true = (step-same F G alike e).slots i g k lt
    go false = refl

pub by-same : (F G : Files) → kept_files F ≡ kept_files G
    → (e : Entry1) → kept_files (files_by F e) ≡ kept_files (files_by G e)
by-same F G alike e = go (is_refused e.reply)
  where
    go : (b : Bool) → kept_files (cond b F (files_after F (gives F e.step e.claims)))
        ≡ kept_files (cond b G (files_after G (gives G e.step e.claims)))
    go true = alike
    go false = after-same F G alike (gives F e.step e.claims) (gives G e.step e.claims) (step-same F G alike e)

pub values-same : (es : List Entry1) (F G : Files) → kept_files F ≡ kept_files G → (i g k : ℕ) → k < slot_limit
    → values_given F es i g k ≡ values_given G es i g k
values-same [] F G alike i g k lt = refl
values-same (e ∷ es) F G alike i g k lt =
    let here = given-same F G alike e i g k lt in
    let later = values-same es (files_by F e) (files_by G e) (by-same F G alike e) i g k lt in
    λ j. option_to_list (here j) ++ later j

-- the entries from a place on
entry-next : (es : List Entry1) (at : ℕ) (e : Entry1) → slice_get es at ≡ Some e → drop at es ≡ e ∷ drop (at + 1) es
entry-next [] at e is = absurd (cc is)
entry-next (x ∷ es) zero e is = let same : x ≡ e = cc is in ap (λ (y : Entry1). y ∷ es) same
entry-next (x ∷ es) (suc at) e is = let s : suc at + 1 ≡ suc (at + 1) = omega arith in rw s (entry-next es at e is)

pub fit-at : (es : List Entry1) (at : ℕ) (e : Entry1) → slice_get es at ≡ Some e → AreFit es
    → may_give e.reply ≡ true → is_fit e.step e.claims ≡ true
fit-at [] at e is fit = absurd (cc is)
fit-at (x ∷ es) zero e is fit = let same : x ≡ e = cc is in
    λ gives. ap (λ (y : Entry1). is_fit y.step y.claims) (sym same)
    ∙ fit.0 (ap (λ (y : Entry1). may_give y.reply) same ∙ gives)
fit-at (x ∷ es) (suc at) e is fit = fit-at es at e is fit.1

pub is-there : (es : List Entry1) (at : ℕ) → at < length es → slice_get es at ≡ None → ⊥
is-there [] at lt is = omega (arith, lt)
is-there (x ∷ es) zero lt is = cc is
is-there (x ∷ es) (suc at) lt is = is-there es at (omega (arith, lt)) is

-- one entry more is gathered
pub gather-next : (es : List Entry1) (at : ℕ) (e : Entry1) (F G : Files) (i g k : ℕ) (old new : List Value)
    → slice_get es at ≡ Some e → k < slot_limit
    → new ≡ old ++ option_to_list ((given_by F e).slots i g k) → kept_files G ≡ kept_files (files_by F e)
    → new ++ values_given G (drop (at + 1) es) i g k ≡ old ++ values_given F (drop at es) i g k
gather-next es at e F G i g k old new is lt gained alike =
    (λ j. gained j ++ values-same (drop (at + 1) es) G (files_by F e) alike i g k lt j)
    ∙ append_assoc old (option_to_list ((given_by F e).slots i g k))
    (values_given (files_by F e) (drop (at + 1) es) i g k)
    ∙ ap (λ (rest : List Entry1). old ++ values_given F rest i g k) (sym (entry-next es at e is))

-- all are gathered
pub gather-end : (es : List Entry1) (at : ℕ) (F : Files) (i g k : ℕ) (values : List Value) → length es ≡ at
    → values ++ values_given F (drop at es) i g k ≡ values
gather-end es at F i g k values all =
    (let e = past es at all in ap (λ (rest : List Entry1). values ++ values_given F rest i g k) e) ∙ append-nil values
  where
    past : (es : List Entry1) (at : ℕ) → length es ≡ at → drop at es ≡ []
    past [] zero all = refl
    past [] (suc at) all = refl
    past (x ∷ es) zero all = absurd (omega (arith, all))
    past (x ∷ es) (suc at) all = past es at (omega (arith, all))
