-- The slots of a file, with holes up to 72.
use Rattle.std.proofs.Common.{◌≡◌, ℕ, suc, ◌+◌, ◌-◌, ◌<◌, ◌≤◌, min, List, [], ◌∷◌, ◌++◌, length, map, take, replicate}
use Rattle.std.proofs.Common.{sym, ap, ◌∙◌, append_assoc}
use Rattle.std.proofs.Common.{append-nil, arith, length-append}
use Rattle.std.proofs.lemmas.List.{map_push, length-map, take-map}
use Rattle.nofs_model.specs.declared.image.value.Value.{Value}
use Rattle.nofs_model.specs.declared.image.value.Value.TheVariants as value
use Rattle.nofs_history.specs.Machine.{slots_in}
use Rattle.nofs_gen.specs.declared.file.KeptValue.{KeptValue}
use Rattle.nofs_gen.specs.declared.file.KeptValue.TheVariants as kept
use Rattle.nofs_gen.specs.Replay.{FileContent, padded, ended, kept_value, resized_content}

one-hole : (l : List Value) → length l < 72 → padded (l ++ value.Hole ∷ []) ≡ padded l
one-hole l low =
    let long = length-append l (value.Hole ∷ []) in
    let n : ℕ = 72 - length (l ++ value.Hole ∷ []) in
    let more : 72 - length l ≡ suc n = omega (arith, low, long) in
    append_assoc l (value.Hole ∷ []) (replicate n value.Hole) ∙ ap (λ m. l ++ replicate m value.Hole) (sym more)

-- one hole more
pub padded-push : (xs ys : List KeptValue) (start : List Value)
    → ys ≡ xs ++ kept.Hole ∷ [] → length xs < 72 → padded (map kept_value xs) ≡ start
    → padded (map kept_value ys) ≡ start
padded-push xs ys start is low e =
    let long = length-map xs kept_value in
    ap (λ t. padded (map kept_value t)) is
    ∙ (ap padded (map_push kept_value xs kept.Hole) ∙ (one-hole (map kept_value xs) (omega (arith, low, long)) ∙ e))

-- no hole is wanting
pub padded-whole : (xs : List KeptValue) (start : List Value) → 72 ≤ length xs
    → padded (map kept_value xs) ≡ start → map kept_value xs ≡ start
padded-whole xs start high e =
    let long = length-map xs kept_value in
    let none : 72 - length (map kept_value xs) ≡ 0 = omega (arith, high, long) in
    sym (append-nil (map kept_value xs)) ∙ (ap (λ m. map kept_value xs ++ replicate m value.Hole) (sym none) ∙ e)

-- cut, and then padded again
pub resized-is : (f : FileContent) (size n : ℕ) (whole cut rest : List KeptValue) → map kept_value whole ≡ ended f size
    → cut ≡ take n whole
    → n ≡ min (slots_in f.size) (slots_in size) → map kept_value rest ≡ padded (map kept_value cut)
    → ◌≡◌ {A = FileContent} (record { size = size; values = map kept_value rest }) (resized_content f size)
resized-is f size n whole cut rest whole_is cut_is n_is rest_is =
    let values = rest_is ∙ (ap (λ t. padded (map kept_value t)) cut_is ∙ (ap padded (sym (take-map kept_value n whole))
    ∙ (ap (λ t. padded (take n t)) whole_is ∙ ap (λ m. padded (take m (ended f size))) n_is))) in
    λ i. record { size = size; values = values i }
