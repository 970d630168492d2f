-- A text to which the pieces of a list are added, one after the other.
use Rattle.std.proofs.Common.{◌≡◌, ◌∙◌, ℕ, ◌+◌, ◌<◌, List, [], ◌∷◌, ◌++◌, length, take, get_or, sym, ap, append_assoc}
use Rattle.std.proofs.Common.{append-nil}
use Rattle.std.specs.Prelude.{flat_map}
use Rattle.std.proofs.lemmas.Grind.{flat_map-append}
use Rattle.std.proofs.lemmas.List.{take_more}

-- the pieces before a place, and the one that stands there
pub one-more : {X : Type 0} (f : X → List ℕ) (xs : List X) (i : ℕ) (d : X) → i < length xs
    → flat_map f (take i xs) ++ f (get_or xs i d) ≡ flat_map f (take (i + 1) xs)
one-more f xs i d below =
    sym (ap (flat_map f) (take_more xs i d below)
    ∙ flat_map-append f (take i xs) (get_or xs i d ∷ [])
    ∙ ap (λ (l : List ℕ). flat_map f (take i xs) ++ l) (append-nil (f (get_or xs i d))))

-- the piece of an item is added behind those of the items before it
pub item-added : {X : Type 0} (f : X → List ℕ) (xs : List X) (i : ℕ) (d : X) (old mid new piece : List ℕ)
    → i < length xs → d ≡ get_or xs i d → mid ≡ old ++ flat_map f (take i xs) → new ≡ mid ++ piece → piece ≡ f d
    → new ≡ old ++ flat_map f (take (i + 1) xs)
item-added f xs i d old mid new piece below is before added same =
    added
    ∙ ap (λ (l : List ℕ). l ++ piece) before
    ∙ append_assoc old (flat_map f (take i xs)) piece
    ∙ ap (λ (l : List ℕ). old ++ (flat_map f (take i xs) ++ l)) (same ∙ ap f is)
    ∙ ap (λ (l : List ℕ). old ++ l) (one-more f xs i d below)
