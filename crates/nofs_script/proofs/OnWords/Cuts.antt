-- A text cut at the first byte of a kind.
use Rattle.std.proofs.Common.{◌≡◌, ◌≢◌, ℕ, suc, ◌+◌, ◌==◌, false, List, [], ◌∷◌, ◌++◌, All, Some, take, drop, drop-cons}
use Rattle.std.proofs.Common.{add-one, refl, sym, ap, ◌∙◌}
use Rattle.std.proofs.Common.{take-append-drop, eq-eqb, ne_eqb, slice_get}
use Rattle.std.specs.List.{slice_split}
use Rattle.std.proofs.lemmas.Option.{slice_get_within, get_or_from_slice_get}
use Rattle.std.proofs.lemmas.List.Splits.{slice_split_none, slice_split_at}

-- no byte is this one
abbrev pub Lacks : ℕ → List ℕ → Type 0
Lacks byte text = All (λ other. other ≢ byte) text

-- the rest of a text behind a place
abbrev pub after : ℕ → List ℕ → List ℕ
after end text = drop (end + 1) text

not_this : (byte : ℕ) (text : List ℕ) → Lacks byte text → All (λ other. (other == byte) ≡ false) text
not_this byte text none = λ k d l. ne_eqb _ byte (none k d l)

-- a text without the byte is one part
pub one_part : (byte : ℕ) (text : List ℕ) → Lacks byte text → slice_split (λ other. other == byte) text ≡ text ∷ []
one_part byte text none = slice_split_none (λ other. other == byte) text (not_this byte text none)

-- where the byte stands behind text without it, the first part ends there
pub part_before : (byte : ℕ) (part rest : List ℕ) → Lacks byte part
    → slice_split (λ other. other == byte) (part ++ byte ∷ rest) ≡ part ∷ slice_split (λ other. other == byte) rest
part_before byte part rest none =
    slice_split_at (λ other. other == byte) part byte rest (not_this byte part none) (eq-eqb byte byte refl)

-- a text is what stands before a byte of it, that, and what stands behind it
pub cut_at : (byte : ℕ) (text : List ℕ) (end : ℕ) → slice_get text end ≡ Some byte
    → take end text ++ (byte ∷ after end text) ≡ text
cut_at byte text end here =
    let within = slice_get_within text end byte here in
    let cut : drop end text ≡ byte ∷ after end text =
    drop-cons text end 0 within ∙ ap (λ b. b ∷ drop (suc end) text) (get_or_from_slice_get text end byte 0 here)
    ∙ ap (λ n. byte ∷ drop n text) (sym (add-one end)) in
    ap (λ l. take end text ++ l) (sym cut) ∙ take-append-drop end text

-- the first part ends at the first such byte
pub first_part : (byte : ℕ) (text : List ℕ) (end : ℕ) → slice_get text end ≡ Some byte → Lacks byte (take end text)
    → slice_split (λ other. other == byte) text ≡ take end text ∷ slice_split (λ other. other == byte) (after end text)
first_part byte text end here none =
    ap (slice_split (λ other. other == byte)) (sym (cut_at byte text end here))
    ∙ part_before byte (take end text) (after end text) none
