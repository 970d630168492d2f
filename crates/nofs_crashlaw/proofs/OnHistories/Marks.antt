-- A history with one more entry that has begun gives what the history gave, and what the entry gives.
use Rattle.std.proofs.Common.{◌≡◌, ◌≢◌, ℕ, Bool, true, false, cond, eqb, ◌&&◌, ◌||◌, not, List, [], ◌∷◌, ◌++◌, take}
use Rattle.std.proofs.Common.{drop, Option, Some, None, is_some}
use Rattle.std.proofs.Common.{option_to_list, refl, sym, ap, ◌∙◌, subst, append_assoc, append-nil, take-append-drop}
use Rattle.std.proofs.Common.{eqb-true, eq-eqb}
use Rattle.std.specs.List.{list_any}
use Rattle.std.proofs.lemmas.List.{take-append-le, drop-append-le}
use Rattle.std.proofs.lemmas.List.Folds.{list_any-append}
use Rattle.nofs_crashlaw.specs.Images.Moments.{is_removal}
use Rattle.nofs_crashlaw.proofs.OnLives.Era.{IsBirth, gives-birth}
use Rattle.nofs_crashlaw.proofs.OnUntouched.Matches.{gen-of}
use Rattle.nofs_model.proofs.OnSlots.Find.{and-both}
use Rattle.nofs_crashlaw.proofs.OnLives.Images.{values-append, metas-append, along-append}
use Rattle.nofs_history.specs.Meta.{Meta, Gone, Is, is_gone}
use Rattle.nofs_history.specs.declared.machine.history.Entry1.{Entry1}
use Rattle.nofs_history.specs.Machine.{Given, gives, given_by, files_by, nothing, generation_of, filled, after_meta}
use Rattle.nofs_history.specs.Machine.{born_file, new_file, file_after, files_after, is_refused, is_write_fault}
use Rattle.nofs_history.specs.Since.{agreed_files, files_along, values_given, metas_given, accepted_of}
use Rattle.nofs_history.specs.Since.{accepted_meta_of, last_in, begun, mark}
use Rattle.nofs_history.specs.Since.{before_mark, since_mark, files_at_mark, since, since_meta, stands}
use Rattle.nofs_history.specs.Marks.{IsUnderWay}
use Rattle.nofs_model.specs.Geometry.{Image}
use Rattle.nofs_model.specs.Files.{FileState, Files}
use Rattle.nofs_model.specs.declared.image.value.Value.{Value}

list-gone : (o : Option Meta) → list_any is_gone (option_to_list o) ≡ is_removal o
list-gone None = refl
list-gone (Some Gone) = refl
list-gone (Some (Is kind size links)) = refl

shuffle : (a b c d : Bool) → (a && (b && not (c || d))) ≡ ((a && (b && not c)) && not d)
shuffle false b c d = refl
shuffle true false c d = refl
shuffle true true true d = refl
shuffle true true false d = refl

module _ (B : Image) (H : List Entry1) (e : Entry1) (l m : ℕ) (u : IsUnderWay H e l m) where
  before-same : before_mark (H ++ e ∷ []) m ≡ before_mark H l
  before-same = ap (λ (n : ℕ). take n (H ++ e ∷ [])) u.same_mark ∙ take-append-le (mark H l) H (e ∷ []) u.mark_within

  since-more : since_mark (H ++ e ∷ []) m ≡ since_mark H l ++ e ∷ []
  since-more =
      let a : since_mark (H ++ e ∷ []) m ≡ drop (mark (H ++ e ∷ []) m) (H ++ e ∷ []) =
      ap (λ (es : List Entry1). drop (mark (H ++ e ∷ []) m) es) u.begun_now in
      let b : drop (mark (H ++ e ∷ []) m) (H ++ e ∷ []) ≡ drop (mark H l) (H ++ e ∷ []) =
      ap (λ (n : ℕ). drop n (H ++ e ∷ [])) u.same_mark in
      let c : drop (mark H l) (H ++ e ∷ []) ≡ drop (mark H l) H ++ e ∷ [] =
      drop-append-le (mark H l) H (e ∷ []) u.mark_within in
      let d : since_mark H l ≡ drop (mark H l) H = ap (λ (es : List Entry1). drop (mark H l) es) u.all_begun in
      a ∙ b ∙ c ∙ ap (λ (es : List Entry1). es ++ e ∷ []) (sym d)

  files-now : files_along (files_at_mark B H l) (since_mark H l) ≡ files_along (agreed_files B) H
  files-now =
      let d : since_mark H l ≡ drop (mark H l) H = ap (λ (es : List Entry1). drop (mark H l) es) u.all_begun in
      ap (λ (es : List Entry1). files_along (files_at_mark B H l) es) d
      ∙ sym (along-append (agreed_files B) (take (mark H l) H) (drop (mark H l) H))
      ∙ ap (λ (es : List Entry1). files_along (agreed_files B) es) (take-append-drop (mark H l) H)

  now : Files
  now = files_along (agreed_files B) H

  -- each slot has what it had, and what the entry gives
  pub since-grows : (i g k : ℕ) → since B (H ++ e ∷ []) m i g k ≡ since B H l i g k ++ option_to_list
      ((given_by (files_along (agreed_files B) H) e).slots i g k)
  since-grows i g k =
      let a : since B (H ++ e ∷ []) m i g k ≡ last_in (accepted_of B (before_mark H l) i g k)
      ++ values_given (files_at_mark B H l)
      (since_mark H l ++ e ∷ []) i g k =
      ap₂' (λ (x y : List Entry1). last_in (accepted_of B x i g k)
      ++ values_given (files_along (agreed_files B) x) y i g k) before-same since-more in
      let b : values_given (files_at_mark B H l) (since_mark H l ++ e ∷ []) i g k ≡ values_given (files_at_mark B H l)
      (since_mark H l)
      i g k ++ option_to_list ((given_by (files_along (agreed_files B) H) e).slots i g k) =
      values-append (files_at_mark B H l) (since_mark H l) (e ∷ []) i g k
      ∙ ap (λ (vs : List Value). values_given (files_at_mark B H l) (since_mark H l) i g k ++ vs)
      (append-nil (option_to_list ((given_by (files_along (files_at_mark B H l) (since_mark H l)) e).slots i g k))
      ∙ ap (λ (F : Files). option_to_list ((given_by F e).slots i g k)) files-now) in
      a ∙ ap (λ (vs : List Value). last_in (accepted_of B (before_mark H l) i g k) ++ vs) b
      ∙ sym (append_assoc (last_in (accepted_of B (before_mark H l) i g k))
      (values_given (files_at_mark B H l) (since_mark H l) i g k)
      (option_to_list ((given_by (files_along (agreed_files B) H) e).slots i g k)))
    where
      ap₂' : (f : List Entry1 → List Entry1 → List Value) {x y u v : List Entry1} → x ≡ y → u ≡ v → f x u ≡ f y v
      ap₂' f p q = λ j. f (p j) (q j)

  later : (i g : ℕ) → metas_given (files_at_mark B H l) (since_mark H l ++ e ∷ []) i g
      ≡ metas_given (files_at_mark B H l) (since_mark H l)
      i g ++ option_to_list ((given_by (files_along (agreed_files B) H) e).metas i g)
  later i g =
      metas-append (files_at_mark B H l) (since_mark H l) (e ∷ []) i g
      ∙ ap (λ (vs : List Meta). metas_given (files_at_mark B H l) (since_mark H l) i g ++ vs)
      (append-nil (option_to_list ((given_by (files_along (files_at_mark B H l) (since_mark H l)) e).metas i g))
      ∙ ap (λ (F : Files). option_to_list ((given_by F e).metas i g)) files-now)

  pub metas-grow : (i g : ℕ) → since_meta B (H ++ e ∷ []) m i g ≡ since_meta B H l i g ++ option_to_list
      ((given_by (files_along (agreed_files B) H) e).metas i g)
  metas-grow i g =
      let a : since_meta B (H ++ e ∷ []) m i g ≡ last_in (accepted_meta_of B (before_mark H l) i g)
      ++ metas_given (files_at_mark B H l)
      (since_mark H l ++ e ∷ []) i g =
      (λ j. last_in (accepted_meta_of B (before-same j) i g)
      ++ metas_given (files_along (agreed_files B) (before-same j)) (since-more j) i g) in
      a ∙ ap (λ (vs : List Meta). last_in (accepted_meta_of B (before_mark H l) i g) ++ vs) (later i g)
      ∙ sym (append_assoc (last_in (accepted_meta_of B (before_mark H l) i g))
      (metas_given (files_at_mark B H l) (since_mark H l) i g)
      (option_to_list ((given_by (files_along (agreed_files B) H) e).metas i g)))

  pub stands-shrinks : (i g : ℕ) → stands B (H ++ e ∷ []) m i g ≡
      (stands B H l i g && not (is_removal ((given_by (files_along (agreed_files B) H) e).metas i g)))
  stands-shrinks i g =
      let a : stands B (H ++ e ∷ []) m i g ≡ (is_some (files_at_mark B H l i)
      && (eqb (generation_of (files_at_mark B H l) i) g
      && not (list_any is_gone (metas_given (files_at_mark B H l) (since_mark H l ++ e ∷ []) i g)))) =
      (λ j. is_some (files_along (agreed_files B) (before-same j) i)
      && (eqb (generation_of (files_along (agreed_files B) (before-same j)) i) g
      && not (list_any is_gone (metas_given (files_along (agreed_files B) (before-same j)) (since-more j) i g)))) in
      let b : list_any is_gone (metas_given (files_at_mark B H l) (since_mark H l ++ e ∷ []) i g) ≡
      (list_any is_gone (metas_given (files_at_mark B H l) (since_mark H l) i g)
      || is_removal ((given_by (files_along (agreed_files B) H) e).metas i g)) =
      ap (λ (vs : List Meta). list_any is_gone vs) (later i g)
      ∙ list_any-append is_gone (metas_given (files_at_mark B H l) (since_mark H l) i g)
      (option_to_list ((given_by (files_along (agreed_files B) H) e).metas i g))
      ∙ ap (λ (t : Bool). list_any is_gone (metas_given (files_at_mark B H l) (since_mark H l) i g) || t)
      (list-gone ((given_by (files_along (agreed_files B) H) e).metas i g)) in
      a ∙ ap (λ (t : Bool). is_some (files_at_mark B H l i)
      && (eqb (generation_of (files_at_mark B H l) i) g && not t)) b
      ∙ shuffle (is_some (files_at_mark B H l i)) (eqb (generation_of (files_at_mark B H l) i) g)
      (list_any is_gone (metas_given (files_at_mark B H l) (since_mark H l) i g))
      (is_removal ((given_by (files_along (agreed_files B) H) e).metas i g))

-- What stands is in the machine's files

-- a step leaves a generation that it does not remove
pub stays-given : (F : Files) (given : Given) (i : ℕ) (f : FileState) → IsBirth given → F i ≡ Some f
    → is_removal (given.metas i f.generation) ≡ false
    → (h : FileState) × (files_after F given i ≡ Some h) × (h.generation ≡ f.generation)
stays-given F given i f birth is keeps = go (given.born i) refl
  where
    kept : (m : Option Meta) (old : FileState) → is_removal m ≡ false → old.generation ≡ f.generation
        → (h : FileState) × (after_meta m old ≡ Some h) × (h.generation ≡ f.generation)
    kept None old k g = (old, refl, g)
    kept (Some Gone) old k g = cc
    kept (Some (Is kind size links)) old k g = (
      record {
        generation = old.generation;
        kind = kind;
        size = size;
        links = links;
        values = old.values;
        nodes =
            old.nodes;
      },
      refl,
      g,
    )

    go : (b : Option ℕ) → given.born i ≡ b → (h : FileState)
        × (file_after given i (born_file (given.born i) (F i)) ≡ Some h) × (h.generation ≡ f.generation)
    go None e =
        let r = kept (given.metas i f.generation) (filled given i f) keeps refl in (
          r.0,
          ap (λ (b : Option ℕ). file_after given i (born_file b (F i))) e
              ∙ ap (λ (o : Option FileState). file_after given i o) is ∙ r.1,
          r.2,
        )
    go (Some g) e = born g e (eqb f.generation g) refl
      where
        gone : (o : Option Meta) → o ≡ Some Gone → is_removal o ≡ false → ⊥
        gone None e k = cc
        gone (Some Gone) e k = cc
        gone (Some (Is kind size links)) e k = cc

        born : (g : ℕ) → given.born i ≡ Some g → (t : Bool) → eqb f.generation g ≡ t
            → (h : FileState) × (file_after given i (born_file (given.born i) (F i)) ≡ Some h)
            × (h.generation ≡ f.generation)
        born g e true t =
            let same = eqb-true f.generation g t in
            let m = birth.meta i g e in
            let rest : is_removal (given.metas i g) ≡ false =
            subst (λ (o : Option Meta). is_removal o ≡ false) (sym m.3) refl in
            let r = kept (given.metas i g) (filled given i (new_file g)) rest (sym same) in
            (r.0, ap (λ (b : Option ℕ). file_after given i (born_file b (F i))) e ∙ r.1, r.2)
        born g e false t =
            let ne : f.generation ≢ g = λ q. let y = eq-eqb f.generation g q in cc (t, y) in
            let o = birth.others i g f.generation e ne in
            absurd (gone (given.metas i f.generation) o keeps)

stays-event : (F : Files) (e : Entry1) (i : ℕ) (f : FileState) → F i ≡ Some f
    → is_removal ((given_by F e).metas i f.generation) ≡ false
    → (h : FileState) × (files_by F e i ≡ Some h) × (h.generation ≡ f.generation)
stays-event F e i f is none = go (is_refused e.reply) none
  where
    go : (r : Bool) → is_removal
        ((cond (not r || is_write_fault e.reply) (gives F e.step e.claims) nothing).metas i f.generation) ≡ false
        → (h : FileState) × (cond r F (files_after F (gives F e.step e.claims)) i ≡ Some h)
        × (h.generation ≡ f.generation)
    go true n = (f, is, refl)
    go false n = stays-given F (gives F e.step e.claims) i f (gives-birth F e.step e.claims) is n

split-gone : (o : Option Meta) (rest : List Meta) → list_any is_gone (option_to_list o ++ rest) ≡ false
    → (is_removal o ≡ false) × (list_any is_gone rest ≡ false)
split-gone None rest q = (refl, q)
split-gone (Some Gone) rest q = cc
split-gone (Some (Is kind size links)) rest q = (refl, q)

-- what has no removal in these entries is still there after them
pub stays-along : (es : List Entry1) (F : Files) (i : ℕ) (f : FileState) → F i ≡ Some f
    → list_any is_gone (metas_given F es i f.generation) ≡ false
    → (h : FileState) × (files_along F es i ≡ Some h) × (h.generation ≡ f.generation)
stays-along [] F i f is none = (f, is, refl)
stays-along (e ∷ es) F i f is none =
    let p = split-gone ((given_by F e).metas i f.generation) (metas_given (files_by F e) es i f.generation) none in
    let s = stays-event F e i f is p.0 in
    let r = stays-along es (files_by F e) i s.0 s.1
    (subst (λ (g : ℕ). list_any is_gone (metas_given (files_by F e) es i g) ≡ false) (sym s.2) p.1) in
    (r.0, r.1, r.2 ∙ s.2)

not-false : (b : Bool) → not b ≡ true → b ≡ false
not-false true e = cc
not-false false e = refl

-- what stands is in the machine's files now
pub stands-file-now : (B : Image) (H : List Entry1) (l i g : ℕ) → begun H l ≡ H → stands B H l i g ≡ true
    → (h : FileState) × (files_along (agreed_files B) H i ≡ Some h) × (h.generation ≡ g)
stands-file-now B H l i g all s = go (files_at_mark B H l i) refl
  where
    a : (is_some (files_at_mark B H l i) ≡ true) × ((eqb (generation_of (files_at_mark B H l) i) g
        && not (list_any is_gone (metas_given (files_at_mark B H l) (since_mark H l) i g))) ≡ true)
    a = and-both (is_some (files_at_mark B H l i)) (eqb (generation_of (files_at_mark B H l) i) g
        && not (list_any is_gone (metas_given (files_at_mark B H l) (since_mark H l) i g))) s

    b : (eqb (generation_of (files_at_mark B H l) i) g ≡ true)
        × (not (list_any is_gone (metas_given (files_at_mark B H l) (since_mark H l) i g)) ≡ true)
    b = and-both (eqb (generation_of (files_at_mark B H l) i) g)
        (not (list_any is_gone (metas_given (files_at_mark B H l) (since_mark H l) i g))) a.1

    along : files_along (files_at_mark B H l) (since_mark H l) ≡ files_along (agreed_files B) H
    along =
        let d : since_mark H l ≡ drop (mark H l) H = ap (λ (es : List Entry1). drop (mark H l) es) all in
        ap (λ (es : List Entry1). files_along (files_at_mark B H l) es) d
        ∙ sym (along-append (agreed_files B) (take (mark H l) H) (drop (mark H l) H))
        ∙ ap (λ (es : List Entry1). files_along (agreed_files B) es) (take-append-drop (mark H l) H)

    go : (o : Option FileState)
        → files_at_mark B H l i ≡ o → (h : FileState) × (files_along (agreed_files B) H i ≡ Some h) × (h.generation ≡ g)
    go None e = let n = a.0 in absurd (none (files_at_mark B H l i) e n)
      where
        none : (o : Option FileState) → o ≡ None → is_some o ≡ true → ⊥
        none None p q = cc
        none (Some h) p q = cc
    go (Some f) e =
        let eg : f.generation ≡ g = sym (gen-of (files_at_mark B H l) i f e)
        ∙ eqb-true (generation_of (files_at_mark B H l) i) g b.0 in
        let n = not-false (list_any is_gone (metas_given (files_at_mark B H l) (since_mark H l) i g)) b.1 in
        let r = stays-along (since_mark H l) (files_at_mark B H l) i f e
        (subst (λ (q : ℕ). list_any is_gone (metas_given (files_at_mark B H l) (since_mark H l) i q) ≡ false)
        (sym eg) n) in
        (r.0, sym (ap (λ (F : Files). F i) along) ∙ r.1, r.2 ∙ eg)

pub stands-now : (B : Image) (H : List Entry1) (l i g : ℕ)
    → begun H l ≡ H → stands B H l i g ≡ true → is_some (files_along (agreed_files B) H i) ≡ true
stands-now B H l i g all s = let r = stands-file-now B H l i g all s in let e = r.1 in rw e refl

-- the premises of Drop and Make on what stands
pub stands-generation : (B : Image) (H : List Entry1) (l i : ℕ) (h : FileState)
    → begun H l ≡ H → files_along (agreed_files B) H i ≡ Some h → (q : ℕ)
    → stands B H l i q ≡ true → h.generation ≡ q
stands-generation B H l i h all is q s =
    let r = stands-file-now B H l i q all s in
    let e = r.1 in
    let same : h ≡ r.0 = cc (e, is) in
    ap (λ (f : FileState). f.generation) same ∙ r.2

pub stands-none : (B : Image) (H : List Entry1) (l i : ℕ)
    → begun H l ≡ H → files_along (agreed_files B) H i ≡ None → (q : ℕ) → stands B H l i q ≡ false
stands-none B H l i all none q = go (stands B H l i q) refl
  where
    go : (b : Bool) → stands B H l i q ≡ b → stands B H l i q ≡ false
    go false e = e
    go true e = absurd (let r = stands-file-now B H l i q all e in let a = r.1 in cc (a, none))
