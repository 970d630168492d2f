-- What may be read after a crash was in the base, or was given by an entry of the history.
use Rattle.std.proofs.Common.{◌≡◌, ℕ, zero, suc, ◌<◌, ◌≤◌, ◌⊎◌, inl, inr, Bool, true, false, cond, List, [], ◌∷◌, ◌++◌}
use Rattle.std.proofs.Common.{length, take, drop, option_to_list}
use Rattle.std.proofs.Common.{refl, sym, ap, ◌∙◌, subst, arith, Contains, append_assoc, take-append-drop, take-take}
use Rattle.std.proofs.Common.{length-take, drop_of_length-le, get_or, ltb}
use Rattle.std.proofs.lemmas.Bool.{cases_lt}
use Rattle.std.proofs.lemmas.List.Elements.{Contains-append_left, Contains-append_right, Contains-append_cases}
use Rattle.nofs_inode.specs.InodeRecords.{is_live}
use Rattle.nofs_ptrs.specs.Paths.{slot_limit}
use Rattle.nofs_model.specs.Geometry.{Image, inode}
use Rattle.nofs_model.specs.Slots.{value}
use Rattle.nofs_model.specs.Files.{Files}
use Rattle.nofs_model.specs.declared.image.value.Value.{Value}
use Rattle.nofs_model.specs.declared.image.value.Value.TheVariants.{Bytes}
use Rattle.nofs_history.specs.Meta.{Meta}
use Rattle.nofs_history.specs.Machine.{given_by, files_by}
use Rattle.nofs_history.specs.Since.{accepted_of, agreed_files, files_along, values_given, metas_given, last_in}
use Rattle.nofs_history.specs.Since.{is_generation, begun, mark, before_mark, since_mark, files_at_mark, since}
use Rattle.nofs_history.specs.Allowed.{HasVersions}
use Rattle.nofs_history.specs.declared.machine.history.Entry1.{Entry1}

pub values-append : (F : Files) (xs ys : List Entry1) (i g k : ℕ)
    → values_given F (xs ++ ys) i g k ≡ values_given F xs i g k ++ values_given (files_along F xs) ys i g k
values-append F [] ys i g k = refl
values-append F (e ∷ xs) ys i g k =
    ap (λ (rest : List Value). option_to_list ((given_by F e).slots i g k) ++ rest)
    (values-append (files_by F e) xs ys i g k)
    ∙ sym (append_assoc (option_to_list ((given_by F e).slots i g k)) (values_given (files_by F e) xs i g k)
    (values_given (files_along (files_by F e) xs) ys i g k))

pub metas-append : (F : Files) (xs ys : List Entry1) (i g : ℕ) → metas_given F (xs ++ ys) i g ≡ metas_given F xs i g
    ++ metas_given (files_along F xs) ys i g
metas-append F [] ys i g = refl
metas-append F (e ∷ xs) ys i g =
    ap (λ (rest : List Meta). option_to_list ((given_by F e).metas i g) ++ rest) (metas-append (files_by F e) xs ys i g)
    ∙ sym (append_assoc (option_to_list ((given_by F e).metas i g)) (metas_given (files_by F e) xs i g)
    (metas_given (files_along (files_by F e) xs) ys i g))

pub along-append : (F : Files) (xs ys : List Entry1) → files_along F (xs ++ ys) ≡ files_along (files_along F xs) ys
along-append F [] ys = refl
along-append F (e ∷ xs) ys = along-append (files_by F e) xs ys

last-contains : {A : Type 0} → (xs : List A) (v : A) → Contains (last_in xs) v → Contains xs v
last-contains [] v c = c
last-contains (x ∷ []) v c = c
last-contains (x ∷ y ∷ rest) v c = Contains-append_right (x ∷ []) (y ∷ rest) v (last-contains (y ∷ rest) v c)

empty-contains : (v : Value) → Contains [] v → ⊥
empty-contains v (k, lt, e) = omega (arith, lt)

part-contains : (F : Files) (H : List Entry1) (n i g k : ℕ) (v : Value) → Contains (values_given F (take n H) i g k) v
    → Contains (values_given F H i g k) v
part-contains F H n i g k v c =
    let all = Contains-append_left (values_given F (take n H) i g k)
    (values_given (files_along F (take n H)) (drop n H) i g k) v c in
    let e = values-append F (take n H) (drop n H) i g k in
    let whole : values_given F (take n H ++ drop n H) i g k ≡ values_given F H i g k =
    ap (λ (es : List Entry1). values_given F es i g k) (take-append-drop n H) in
    subst (λ (vs : List Value). Contains vs v) (sym e ∙ whole) all

later-contains : (F : Files) (H : List Entry1) (n b i g k : ℕ) (v : Value)
    → Contains (values_given (files_along F (take n H)) (drop n (take b H)) i g k) v
    → Contains (values_given F H i g k) v
later-contains F H n b i g k v c = elim (cases_lt b n) [
  | inl lt ↦
      let len : length (take b H) ≤ n = omega (arith, length-take b H, lt) in
      let none : drop n (take b H) ≡ [] = drop_of_length-le (take b H) len in
      absurd (empty-contains v
      (subst (λ (es : List Entry1). Contains (values_given (files_along F (take n H)) es i g k) v) none c))
  | inr le ↦
      let t : take n (take b H) ≡ take n H = take-of-take n b H le in
      let c' : Contains (values_given (files_along F (take n (take b H))) (drop n (take b H)) i g k) v =
      subst (λ (es : List Entry1). Contains (values_given (files_along F es) (drop n (take b H)) i g k) v) (sym t) c in
      let all = Contains-append_right (values_given F (take n (take b H)) i g k)
      (values_given (files_along F (take n (take b H))) (drop n (take b H)) i g k)
      v c' in
      let e = values-append F (take n (take b H)) (drop n (take b H)) i g k in
      let whole : values_given F (take n (take b H) ++ drop n (take b H)) i g k ≡ values_given F (take b H) i g k =
      ap (λ (es : List Entry1). values_given F es i g k) (take-append-drop n (take b H)) in
      part-contains F H b i g k v (subst (λ (vs : List Value). Contains vs v) (sym e ∙ whole) all)
]
  where
    take-of-take : (n b : ℕ) (H : List Entry1) → n ≤ b → take n (take b H) ≡ take n H
    take-of-take n b H le = take-take n b H le

-- what has begun is a front of the history
pub begun-take : (H : List Entry1) (m : ℕ) → begun H m ≡ take (length (begun H m)) H
begun-take [] m = refl
begun-take (e ∷ es) m = go (ltb e.from m) (begun-take es m)
  where
    go : (b : Bool) → begun es m ≡ take (length (begun es m)) es
        → cond b (e ∷ begun es m) [] ≡ take (length (cond b (e ∷ begun es m) [])) (e ∷ es)
    go true ih = ap (λ (rest : List Entry1). e ∷ rest) ih
    go false ih = refl

sole : (x v : Value) (k : ℕ) → k < 1 → get_or (x ∷ []) k v ≡ v → x ≡ v
sole x v zero lt e = e
sole x v (suc k) lt e = absurd (omega (arith, lt))

pub since-given : (B : Image) (H : List Entry1) (m i g k : ℕ) (v : Value) → Contains (since B H m i g k) v
    → ((is_generation B i g ≡ true) × (value B i k ≡ v)) ⊎ Contains (values_given (agreed_files B) H i g k) v
since-given B H m i g k v c = elim (Contains-append_cases (last_in (accepted_of B (before_mark H m) i g k))
    (values_given (files_at_mark B H m) (since_mark H m) i g k) v c) [
      | inl l ↦ at-mark (is_generation B i g) refl (last-contains (accepted_of B (before_mark H m) i g k) v l)
      | inr r ↦ inr (later-contains (agreed_files B) H (mark H m) (length (begun H m)) i g k v
          (subst (λ (es : List Entry1). Contains (values_given (files_at_mark B H m) (drop (mark H m) es) i g k) v)
          (begun-take H m) r))
    ]
  where
    at-mark : (b : Bool) → is_generation B i g ≡ b
        → Contains (cond b (value B i k ∷ []) [] ++ values_given (agreed_files B) (before_mark H m) i g k) v
        → ((is_generation B i g ≡ true) × (value B i k ≡ v)) ⊎ Contains (values_given (agreed_files B) H i g k) v
    at-mark false e c = inr (part-contains (agreed_files B) H (mark H m) i g k v c)
    at-mark true e c =
        elim (Contains-append_cases (value B i k ∷ []) (values_given (agreed_files B) (before_mark H m) i g k) v c) [
          | inl here ↦ inl (e, one here)
          | inr given ↦ inr (part-contains (agreed_files B) H (mark H m) i g k v given)
        ]
      where
        one : Contains (value B i k ∷ []) v → value B i k ≡ v
        one h = sole (value B i k) v h.0 h.1 h.2

-- A value that a crash leaves was the base's, or was given.
pub left-given : (B : Image) (H : List Entry1) (m : ℕ) (X : Image) → HasVersions B H m X
    → (i k : ℕ) (content : List ℕ) → is_live (inode X i) ≡ true
    → k < slot_limit → value X i k ≡ Bytes content
    → ((is_generation B i (inode X i).generation ≡ true) × (value B i k ≡ Bytes content)) ⊎ Contains
    (values_given (agreed_files B) H i (inode X i).generation k) (Bytes content)
left-given B H m X a i k content live lt e = elim (a.values i k live lt) [
  | inl lost ↦ absurd (cc (lost, e))
  | inr c ↦ since-given B H m i (inode X i).generation k (Bytes content)
      (subst (λ (v : Value). Contains (since B H m i (inode X i).generation k) v) e c)
]
