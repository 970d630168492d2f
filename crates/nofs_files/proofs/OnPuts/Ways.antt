-- The way to a slot: which of its blocks are claimed, which had their place, and which are written.
use Rattle.std.proofs.Common.{◌≡◌, ◌≢◌, ℕ, zero, suc, ◌+◌, ◌<◌, ◌≤◌, ◌⊎◌, inl, inr, List, [], ◌∷◌, length, refl, sym}
use Rattle.std.proofs.Common.{ap, ◌∙◌, subst, subst₂, arith}
use Rattle.std.specs.Prelude.{slice_set}
use Rattle.std.proofs.lemmas.Bool.{cases_eq}
use Rattle.std.proofs.lemmas.List.{get_or-set_same, get_or-set_other, length-set}
use Rattle.nofs_disk.specs.Disk.{cell_at, no_cell}
use Rattle.nofs_disk.specs.declared.tag.Cell.{Cell}
use Rattle.nofs_disk.specs.declared.tag.Pointer.{Pointer}
use Rattle.nofs_model.specs.Geometry.{Image}
use Rattle.nofs_ptrs.specs.Paths.{Path, InRecord, Under}
use Rattle.nofs_model.specs.Slots.{IsAbove}
use Rattle.nofs_model.proofs.OnSlots.Paths.{above-refl, above-up}
use Rattle.nofs_history.specs.Writes.{pointers_written}
use Rattle.nofs_disk.specs.Order.{OneOf, IsApart, WritesOnce, image_after}

-- so many slots of a way, counted from below, get a block
abbrev pub IsNew : ℕ → Path → Path → Type 0
IsNew zero way a = ⊥
IsNew (suc m) (InRecord n) a = a ≡ InRecord n
IsNew (suc m) (Under b n) a = (a ≡ Under b n) ⊎ IsNew m b a

-- the others have theirs
abbrev pub IsOld : ℕ → Path → Path → Type 0
IsOld zero way a = IsAbove a way
IsOld (suc m) (InRecord n) a = ⊥
IsOld (suc m) (Under b n) a = IsOld m b a

-- the new ones are written, and the first of the others
abbrev pub IsChanged : ℕ → Path → Path → Type 0
IsChanged zero way a = a ≡ way
IsChanged (suc m) (InRecord n) a = a ≡ InRecord n
IsChanged (suc m) (Under b n) a = (a ≡ Under b n) ⊎ IsChanged m b a

-- their cells from below, and then the table's
abbrev pub way_writes : (Path → Pointer) → (Path → Cell) → ℕ × Cell → ℕ → Path → List (ℕ × Cell)
way_writes at cells t zero way = ((at way).block, cells way) ∷ t ∷ []
way_writes at cells t (suc m) (InRecord n) = ((at (InRecord n)).block, cells (InRecord n)) ∷ t ∷ []
way_writes at cells t (suc m) (Under b n) = ((at (Under b n)).block, cells (Under b n)) ∷ way_writes at cells t m b

pub new-or-old : (m : ℕ) (way a : Path) → IsAbove a way → IsNew m way a ⊎ IsOld m way a
new-or-old zero way a h = inr h
new-or-old (suc m) (InRecord n) a h = inl h
new-or-old (suc m) (Under b n) a (inl e) = inl (inl e)
new-or-old (suc m) (Under b n) a (inr r) = elim (new-or-old m b a r) [ inl x ↦ inl (inr x) | inr y ↦ inr y ]

pub new-above : (m : ℕ) (way a : Path) → IsNew m way a → IsAbove a way
new-above zero way a h = absurd h
new-above (suc m) (InRecord n) a h = h
new-above (suc m) (Under b n) a (inl e) = inl e
new-above (suc m) (Under b n) a (inr r) = inr (new-above m b a r)

pub old-above : (m : ℕ) (way a : Path) → IsOld m way a → IsAbove a way
old-above zero way a h = h
old-above (suc m) (InRecord n) a h = absurd h
old-above (suc m) (Under b n) a h = inr (old-above m b a h)

pub changed-is : (m : ℕ) (way a : Path) → IsChanged m way a → IsNew m way a ⊎ IsOld m way a
changed-is zero way a e = inr (subst (λ (q : Path). IsAbove q way) (sym e) (above-refl way))
changed-is (suc m) (InRecord n) a e = inl e
changed-is (suc m) (Under b n) a (inl e) = inl (inl e)
changed-is (suc m) (Under b n) a (inr r) = elim (changed-is m b a r) [ inl x ↦ inl (inr x) | inr y ↦ inr y ]

pub new-changed : (m : ℕ) (way a : Path) → IsNew m way a → IsChanged m way a
new-changed zero way a h = absurd h
new-changed (suc m) (InRecord n) a h = h
new-changed (suc m) (Under b n) a (inl e) = inl e
new-changed (suc m) (Under b n) a (inr r) = inr (new-changed m b a r)

pub way-changed : (m : ℕ) (way : Path) → IsChanged m way way
way-changed zero way = refl
way-changed (suc m) (InRecord n) = refl
way-changed (suc m) (Under b n) = inl refl

-- above a new one stands one that is written
pub up-changed : (m : ℕ) (way a : Path) (n : ℕ) → IsNew m way (Under a n) → IsChanged m way a
up-changed zero way a n h = absurd h
up-changed (suc m) (InRecord q) a n e = cc
up-changed (suc m) (Under b q) a n (inl e) = let s : a ≡ b = cc in
    inr (subst (λ (w : Path). IsChanged m b w) (sym s) (way-changed m b))
up-changed (suc m) (Under b q) a n (inr r) = inr (up-changed m b a n r)

abbrev depth : Path → ℕ
depth (InRecord n) = 0
depth (Under a n) = suc (depth a)

above-short : (a b : Path) → IsAbove a b → depth a ≤ depth b
above-short a (InRecord n) e = let d : depth a ≡ 0 = ap depth e in omega (arith, d)
above-short a (Under b n) (inl e) = let d : depth a ≡ suc (depth b) = ap depth e in omega (arith, d)
above-short a (Under b n) (inr r) = let d = above-short a b r in omega (arith, d)

pub no-loop : (a : Path) (n : ℕ) → IsAbove (Under a n) a → ⊥
no-loop a n h = let s = above-short (Under a n) a h in omega (arith, s)

-- below one that is written no other has its place
pub old-ends : (m : ℕ) (way a : Path) (n : ℕ) → IsChanged m way a → IsOld m way (Under a n) → ⊥
old-ends zero way a n e h = no-loop way n (subst (λ (q : Path). IsAbove (Under q n) way) e h)
old-ends (suc m) (InRecord q) a n e h = h
old-ends (suc m) (Under b q) a n (inl e) h = no-loop b q (above-up (Under b q) n b
    (subst (λ (w : Path). IsAbove (Under w n) b) e (old-above m b (Under a n) h)))
old-ends (suc m) (Under b q) a n (inr r) h = old-ends m b a n r h

-- above one that has its place, the next has its own
pub old-up : (m : ℕ) (way a : Path) (n : ℕ) → IsOld m way (Under a n) → IsOld m way a
old-up zero way a n h = above-up a n way h
old-up (suc m) (InRecord q) a n h = absurd h
old-up (suc m) (Under b q) a n h = old-up m b a n h

-- a slot above has the next of the way under it
pub step-down : (a way : Path) → IsAbove a way → (a ≡ way) ⊎ ((n : ℕ) × IsAbove (Under a n) way)
step-down a (InRecord q) e = inl e
step-down a (Under b q) (inl e) = inl e
step-down a (Under b q) (inr r) =
    elim (step-down a b r) [ inl e ↦ inr (q, inl (ap (λ (w : Path). Under w q) e)) | inr (n, u) ↦ inr (n, inr u) ]

-- a block is that of one that is written, or of none
pub meets : (at : Path → Pointer) (m : ℕ) (way : Path) (b : ℕ) → ((a : Path) × IsChanged m way a × (b ≡ (at a).block))
    ⊎ ((a : Path) → IsChanged m way a → b ≢ (at a).block)
meets at zero way b = elim (cases_eq b (at way).block) [
  | inl e ↦ inl (way, refl, e)
  | inr ne ↦ inr (λ a h e. ne (e ∙ ap (λ (q : Path). (at q).block) h))
]
meets at (suc m) (InRecord n) b = elim (cases_eq b (at (InRecord n)).block) [
  | inl e ↦ inl (InRecord n, refl, e)
  | inr ne ↦ inr (λ a h e. ne (e ∙ ap (λ (q : Path). (at q).block) h))
]
meets at (suc m) (Under d n) b = elim (cases_eq b (at (Under d n)).block) [
  | inl e ↦ inl (Under d n, inl refl, e)
  | inr ne ↦ elim (meets at m d b) [
    | inl (a, h, e) ↦ inl (a, inr h, e)
    | inr none ↦ inr (λ a h e. elim h [ inl s ↦ ne (e ∙ ap (λ (q : Path). (at q).block) s) | inr r ↦ none a r e ])
  ]
]

module _ (at : Path → Pointer) (cells : Path → Cell) (t : ℕ × Cell) where
  pub one-is : (m : ℕ) (way : Path) (b : ℕ) (c : Cell) → OneOf (way_writes at cells t m way) b c
      → ((b ≡ t.0) × (c ≡ t.1)) ⊎ ((a : Path) × IsChanged m way a × (b ≡ (at a).block) × (c ≡ cells a))
  one-is zero way b c (inl e) = inr (way, refl, e.0, e.1)
  one-is zero way b c (inr (inl e)) = inl e
  one-is zero way b c (inr (inr none)) = absurd none
  one-is (suc m) (InRecord n) b c (inl e) = inr (InRecord n, refl, e.0, e.1)
  one-is (suc m) (InRecord n) b c (inr (inl e)) = inl e
  one-is (suc m) (InRecord n) b c (inr (inr none)) = absurd none
  one-is (suc m) (Under d n) b c (inl e) = inr (Under d n, inl refl, e.0, e.1)
  one-is (suc m) (Under d n) b c (inr r) =
      elim (one-is m d b c r) [ inl e ↦ inl e | inr (a, h, eb, ec) ↦ inr (a, inr h, eb, ec) ]

  pub changed-one : (m : ℕ) (way a : Path) → IsChanged m way a
      → OneOf (way_writes at cells t m way) (at a).block (cells a)
  changed-one zero way a e = inl (ap (λ (q : Path). (at q).block) e, ap cells e)
  changed-one (suc m) (InRecord n) a e = inl (ap (λ (q : Path). (at q).block) e, ap cells e)
  changed-one (suc m) (Under d n) a (inl e) = inl (ap (λ (q : Path). (at q).block) e, ap cells e)
  changed-one (suc m) (Under d n) a (inr r) = inr (changed-one m d a r)

  -- two cells, and one for each block of pointers that is written
  pub way-count : (m : ℕ) (way : Path) → length (way_writes at cells t m way) ≡ 2 + pointers_written m way
  way-count zero way = refl
  way-count (suc m) (InRecord n) = refl
  way-count (suc m) (Under d n) = let e = way-count m d in omega (arith, e)

  pub table-one : (m : ℕ) (way : Path) → OneOf (way_writes at cells t m way) t.0 t.1
  table-one zero way = inr (inl (refl, refl))
  table-one (suc m) (InRecord n) = inr (inl (refl, refl))
  table-one (suc m) (Under d n) = inr (table-one m d)

-- what holds of each new slot, one by one
abbrev pub AllNew : (Path → Type 0) → ℕ → Path → Type 0
AllNew P zero way = Unit {0}
AllNew P (suc m) (InRecord n) = P (InRecord n)
AllNew P (suc m) (Under b n) = P (Under b n) × AllNew P m b

pub each-new : (P : Path → Type 0) (m : ℕ) (way : Path) → AllNew P m way → (a : Path) → IsNew m way a → P a
each-new P zero way all a h = absurd h
each-new P (suc m) (InRecord n) all a e = subst P (sym e) all
each-new P (suc m) (Under b n) all a (inl e) = subst P (sym e) all.0
each-new P (suc m) (Under b n) all a (inr r) = each-new P m b all.1 a r

-- and of each block above a new slot, with the place of that slot
abbrev pub AllNext : (Path → ℕ → Type 0) → ℕ → Path → Type 0
AllNext P zero way = Unit {0}
AllNext P (suc m) (InRecord n) = Unit {0}
AllNext P (suc m) (Under b n) = P b n × AllNext P m b

pub each-next : (P : Path → ℕ → Type 0) (m : ℕ) (way : Path) → AllNext P m way
    → (a : Path) (n : ℕ) → IsNew m way (Under a n) → P a n
each-next P zero way all a n h = absurd h
each-next P (suc m) (InRecord q) all a n e = cc
each-next P (suc m) (Under b q) all a n (inl e) = subst₂ P (sym (above-is e)) (sym (place-is e)) all.0
  where
    above-is : Under a n ≡ Under b q → a ≡ b
    above-is e = cc e

    place-is : Under a n ≡ Under b q → n ≡ q
    place-is e = cc e
each-next P (suc m) (Under b q) all a n (inr r) = each-next P m b all.1 a n r

-- The image after some writes

pub written-apart : (ws : List (ℕ × Cell)) (X : Image) (b : ℕ) → ((c : Cell) → OneOf ws b c → ⊥)
    → cell_at (image_after ws X) b ≡ cell_at X b
written-apart [] X b none = refl
written-apart (w ∷ ws) X b none = written-apart ws (slice_set X w.0 w.1) b (λ c o. none c (inr o))
    ∙ get_or-set_other X w.0 b w.1 no_cell (λ e. none w.1 (inl (e, refl)))

pub written-here : (ws : List (ℕ × Cell)) (X : Image) (b : ℕ) (c : Cell) → b < length X
    → ((d : Cell) → OneOf ws b d → d ≡ c)
    → OneOf ws b c ⊎ (cell_at X b ≡ c) → cell_at (image_after ws X) b ≡ c
written-here [] X b c low only (inl h) = absurd h
written-here [] X b c low only (inr e) = e
written-here (w ∷ ws) X b c low only h =
    written-here ws (slice_set X w.0 w.1) b c (let e = length-set X w.0 w.1 in omega (arith, e, low))
    (λ d o. only d (inr o)) (elim (cases_eq b w.0) [
      | inl e ↦ inr (subst (λ (q : ℕ). cell_at (slice_set X q w.1) b ≡ c) e
          (get_or-set_same X b w.1 no_cell low ∙ only w.1 (inl (e, refl))))
      | inr ne ↦ pass ne h
    ])
  where
    pass : b ≢ w.0 → OneOf (w ∷ ws) b c ⊎ (cell_at X b ≡ c) → OneOf ws b c ⊎ (cell_at (slice_set X w.0 w.1) b ≡ c)
    pass ne (inl (inl one)) = absurd (ne one.0)
    pass ne (inl (inr r)) = inl r
    pass ne (inr e) = inr (get_or-set_other X w.0 b w.1 no_cell ne ∙ e)

pub are-apart : (ws : List (ℕ × Cell)) (b : ℕ) → ((c : Cell) → OneOf ws b c → ⊥) → IsApart ws b
are-apart [] b none = tt
are-apart (w ∷ ws) b none = ((λ e. none w.1 (inl (e, refl))), are-apart ws b (λ c o. none c (inr o)))

-- no block is written twice: slots of the way that are written have different blocks, and none has the table's
pub way-once : (at : Path → Pointer) (cells : Path → Cell) (t : ℕ × Cell) (m : ℕ) (way : Path)
    → ((a b : Path) → IsChanged m way a → IsChanged m way b → (at a).block ≡ (at b).block → a ≡ b)
    → ((a : Path) → IsChanged m way a → (at a).block ≢ t.0) → WritesOnce (way_writes at cells t m way)
way-once at cells t zero way same off = ((off way refl, tt), (tt, tt))
way-once at cells t (suc m) (InRecord n) same off = ((off (InRecord n) refl, tt), (tt, tt))
way-once at cells t (suc m) (Under b n) same off = (
  are-apart (way_writes at cells t m b) (at (Under b n)).block (λ c one. apart c (one-is at cells t m b _ c one)),
  way-once at cells t m b (λ x y u v e. same x y (inr u) (inr v) e) (λ x u. off x (inr u)),
)
  where
    above : (a : Path) → IsChanged m b a → IsAbove a b
    above a u = elim (changed-is m b a u) [ inl q ↦ new-above m b a q | inr q ↦ old-above m b a q ]

    apart : (c : Cell) → (((at (Under b n)).block ≡ t.0) × (c ≡ t.1))
        ⊎ ((a : Path) × IsChanged m b a × ((at (Under b n)).block ≡ (at a).block) × (c ≡ cells a)) → ⊥
    apart c (inl e) = off (Under b n) (inl refl) e.0
    apart c (inr (a, u, eb, ec)) =
        let s : Under b n ≡ a = same (Under b n) a (inl refl) (inr u) eb in
        no-loop b n (subst (λ (q : Path). IsAbove q b) (sym s) (above a u))
