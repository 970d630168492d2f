-- What is told of earlier moments stays.
use Rattle.std.proofs.Common.{◌≡◌, ◌⊎◌, ℕ, ◌*◌, ◌≤◌, Bool, ◌&&◌, List, [], ◌∷◌, ◌++◌, length, take, cond, arith, inl}
use Rattle.std.proofs.Common.{inr, refl, sym, ◌∙◌}
use Rattle.std.specs.Prelude.{◌↔◌, eqb}
use Rattle.std.proofs.lemmas.Bool.{eq-eqb, ne_eqb}
use Rattle.nofs_disk.specs.declared.tag.Cell.{Cell}
use Rattle.nofs_disk.specs.Disk.{DiskState, IsSameDisk, KeepsPast}
use Rattle.nofs_mirror.specs.declared.sides.choices.MirrorStart.{MirrorStart}
use Rattle.nofs_mirror.specs.declared.sides.past.MirrorCall.{MirrorCall}
use Rattle.nofs_mirror.specs.declared.sides.past.Effect.{Effect}
use Rattle.nofs_mirror.specs.declared.sides.past.Effect.TheVariants.{Write, Settle, Nothing}
use Rattle.nofs_mirror.specs.declared.sides.past.Span.{Span}
use Rattle.nofs_mirror.specs.Mirror.{IsMarkedBySide, SideLeft, both_tell, flushed_cells, may_after, may_step}
use Rattle.nofs_mirror.specs.Mirror.{mirror_state, only_below, if_told}
use Rattle.nofs_mirror.specs.Mirror.{was_after}
use Rattle.nofs_mirror.proofs.OnSides.{marked_tail, moves_no_less, moves_no_more, stays_left}

-- each side keeps what it held at the calls so far
pub record KeepsWas (a a' b b' : ℕ → List Cell) (lead other : Span) (past : List MirrorCall) (u v : ℕ) : Type 0 where
  pub lead_was : (j : ℕ) → j ≤ u → a' j ≡ a j
  pub other_was : (j : ℕ) → j ≤ v → b' j ≡ b j
  pub lead_marked : IsMarkedBySide (λ c. c.lead) lead past u
  pub other_marked : IsMarkedBySide (λ c. c.other) other past v

tail : (a a' b b' : ℕ → List Cell) (lead other : Span) (call : MirrorCall) (past : List MirrorCall) (u v : ℕ)
    → KeepsWas a a' b b' lead other (call ∷ past) u v → KeepsWas a a' b b' lead other past u v
tail a a' b b' lead other call past u v k = record {
  lead_was = k.lead_was;
  other_was = k.other_was;
  lead_marked = marked_tail (λ c. c.lead) lead call past u k.lead_marked;
  other_marked = marked_tail (λ c. c.other) other call past v k.other_marked;
}

flushed_keeps : (a a' b b' : ℕ → List Cell) (lead other : Span) (call : MirrorCall) (past : List MirrorCall) (u v : ℕ)
    → KeepsWas a a' b b' lead other (call ∷ past) u v → flushed_cells a' b' call ≡ flushed_cells a b call
flushed_keeps a a' b b' lead other call past u v k =
    let p = k.lead_was call.lead.ended (k.lead_marked.ends 0 (omega arith)) in
    let q = k.other_was call.other.ended (k.other_marked.ends 0 (omega arith)) in
    λ i. cond call.lead.is_in (p i) (q i)

pub was_keeps : (a a' b b' : ℕ → List Cell) (lead other : Span) (n : ℕ) (past : List MirrorCall) (u v m : ℕ)
    → KeepsWas a a' b b' lead other past u v
    → was_after a' b' n past m ≡ was_after a b n past m
was_keeps a a' b b' lead other n [] u v m k = refl
was_keeps a a' b b' lead other n (call ∷ past) u v m k =
    let p = flushed_keeps a a' b b' lead other call past u v k in
    let q = was_keeps a a' b b' lead other n past u v m (tail a a' b b' lead other call past u v k) in
    λ i. cond (eqb m (2 * length (call ∷ past))) (take n (p i)) (q i)

step_keeps : (n : ℕ) (x' x : List Cell) (may' may : ℕ → List Cell) (effect : Effect) (b : ℕ) → x' ≡ x → may' b ≡ may b
    → may_step n x' may' effect b ≡ may_step n x may effect b
step_keeps n x' x may' may (Write block cell) b p q = λ i. cond (eqb b block) (q i ++ cell.value ∷ []) (q i)
step_keeps n x' x may' may Settle b p q = λ i. only_below n (p i) b
step_keeps n x' x may' may Nothing b p q = q

pub may_keeps : (a a' b b' : ℕ → List Cell) (lead other : Span) (n : ℕ) (first : ℕ → List Cell)
    (past : List MirrorCall) (u v k : ℕ)
    → KeepsWas a a' b b' lead other past u v → may_after a' b' n first past k ≡ may_after a b n first past k
may_keeps a a' b b' lead other n first [] u v k keeps = refl
may_keeps a a' b b' lead other n first (call ∷ past) u v k keeps =
    step_keeps n (flushed_cells a' b' call) (flushed_cells a b call) (may_after a' b' n first past)
    (may_after a b n first past) call.effect k
    (flushed_keeps a a' b b' lead other call past u v keeps)
    (may_keeps a a' b b' lead other n first past u v k (tail a a' b b' lead other call past u v keeps))

was_before : (a b : ℕ → List Cell) (n : ℕ) (past : List MirrorCall) (call : MirrorCall) (m : ℕ) → m ≤ 2 * length past
    → was_after a b n (call ∷ past) m ≡ was_after a b n past m
was_before a b n past call m low = rw (ne_eqb m (2 * length (call ∷ past)) (λ e. omega arith)) refl

pub was_now : (a b : ℕ → List Cell) (n : ℕ) (past : List MirrorCall) (call : MirrorCall)
    → was_after a b n (call ∷ past) (2 * length (call ∷ past)) ≡ take n (flushed_cells a b call)
was_now a b n past call = rw (eq-eqb (2 * length (call ∷ past)) (2 * length (call ∷ past)) refl) refl

-- a side of a mirror before and after a call
pub record SideKeeps (side : MirrorCall → Span) (opened : Span) (calls : List MirrorCall)
    (old new : DiskState) : Type 0 where
  pub disk : IsSameDisk old new
  pub past : KeepsPast old new
  pub marked : IsMarkedBySide side opened calls old.moment

-- the sides of a mirror before and after a call
pub record Goes (lead lead_new other other_new : DiskState) (opening : MirrorStart)
    (past : List MirrorCall) : Type 0 where
  pub on_lead : SideKeeps (λ c. c.lead) opening.lead past lead lead_new
  pub on_other : SideKeeps (λ c. c.other) opening.other past other other_new

pub goes_was : (lead lead_new other other_new : DiskState) (opening : MirrorStart) (past : List MirrorCall)
    → Goes lead lead_new other other_new opening past
    → KeepsWas lead.was lead_new.was other.was other_new.was opening.lead opening.other past lead.moment other.moment
goes_was lead lead_new other other_new opening past g =
    record {
      lead_was = g.on_lead.past.was;
      other_was = g.on_other.past.was;
      lead_marked = g.on_lead.marked;
      other_marked = g.on_other.marked;
    }

pub tells_same : (lead lead_new other other_new : DiskState) (opening : MirrorStart) (past : List MirrorCall)
    → Goes lead lead_new other other_new opening past → both_tell lead_new other_new ≡ both_tell lead other
tells_same lead lead_new other other_new opening past g = let p = g.on_lead.disk.tells in
    let q = g.on_other.disk.tells in λ i. p i && q i

pub told_same : {A : Type 0} (t t' : Bool) (xs xs' : List A) → t' ≡ t → xs' ≡ xs → if_told t' xs' ≡ if_told t xs
told_same t t' xs xs' p q = λ i. if_told (p i) (q i)

-- what the sides may leave at a moment of the mirror
abbrev pub SidesLeave : DiskState → DiskState → MirrorStart → List MirrorCall → ℕ → List Cell → Type 0
SidesLeave lead other opening past m image =
    SideLeft (λ c. c.lead) lead.left opening.blocks opening.lead past lead.moment m image
    ⊎ SideLeft (λ c. c.other) other.left opening.blocks opening.other past other.moment m image

-- a call that makes no moment
pub past_stays : (lead lead_new other other_new first : DiskState) (opening : MirrorStart)
    (past : List MirrorCall) (s t e f : ℕ)
    → Goes lead lead_new other other_new opening past → lead_new.moment ≡ lead.moment → other_new.moment ≡ other.moment
    → KeepsPast (mirror_state lead other first opening past s e)
    (mirror_state lead_new other_new first opening past t f)
past_stays lead lead_new other other_new first opening past s t e f g lead_at other_at = record {
  was = λ m low. told_same (both_tell lead other) (both_tell lead_new other_new) _ _
      (tells_same lead lead_new other other_new opening past g)
      (was_keeps _ _ _ _ _ _ opening.blocks past _ _ m (goes_was lead lead_new other other_new opening past g));
  no_more = λ m image low left. (
    sym (tells_same lead lead_new other other_new opening past g) ∙ left.0,
    elim left.1 [ inl was ↦ inl ((on_lead m image).0 was) | inr was ↦ inr ((on_other m image).0 was) ],
  );
  no_less = λ m image low left. (
    tells_same lead lead_new other other_new opening past g ∙ left.0,
    elim left.1 [ inl was ↦ inl ((on_lead m image).1 was) | inr was ↦ inr ((on_other m image).1 was) ],
  );
}
  where
    on_lead : (m : ℕ) (image : List Cell)
        → SideLeft (λ c. c.lead) lead_new.left opening.blocks opening.lead past lead_new.moment m image
        ↔ SideLeft (λ c. c.lead) lead.left opening.blocks opening.lead past lead.moment m image
    on_lead m image = stays_left (λ c. c.lead) opening.blocks opening.lead past lead lead_new m image g.on_lead.past
        lead_at g.on_lead.marked

    on_other : (m : ℕ) (image : List Cell)
        → SideLeft (λ c. c.other) other_new.left opening.blocks opening.other past other_new.moment m image
        ↔ SideLeft (λ c. c.other) other.left opening.blocks opening.other past other.moment m image
    on_other m image = stays_left (λ c. c.other) opening.blocks opening.other past other other_new m image
        g.on_other.past other_at g.on_other.marked

-- a write or flush
pub past_moves : (lead lead_new other other_new first : DiskState) (opening : MirrorStart) (past : List MirrorCall)
    (call : MirrorCall) (s t e f : ℕ)
    → Goes lead lead_new other other_new opening past → call.lead.began ≡ lead.moment → call.other.began ≡ other.moment
    → KeepsPast (mirror_state lead other first opening past s e)
    (mirror_state lead_new other_new first opening (call ∷ past) t f)
past_moves lead lead_new other other_new first opening past call s t e f g lead_at other_at = record {
  was = λ m low. told_same (both_tell lead other) (both_tell lead_new other_new) _ _
      (tells_same lead lead_new other other_new opening past g)
      (was_before lead_new.was other_new.was opening.blocks past call m low
      ∙ was_keeps _ _ _ _ _ _ opening.blocks past _ _ m (goes_was lead lead_new other other_new opening past g));
  no_more = λ m image low left.
      (sym (tells_same lead lead_new other other_new opening past g) ∙ left.0, more m image low left.1);
  no_less = λ m image low left. (tells_same lead lead_new other other_new opening past g ∙ left.0, less m image left.1);
}
  where
    more : (m : ℕ) (image : List Cell) → m ≤ 2 * length past
        → SidesLeave lead_new other_new opening (call ∷ past) m image
        → SidesLeave lead other opening past m image
    more m image low (inl left) =
        inl (moves_no_more (λ c. c.lead) opening.blocks opening.lead past call lead lead_new m image g.on_lead.past
        lead_at g.on_lead.marked low left)
    more m image low (inr left) =
        inr (moves_no_more (λ c. c.other) opening.blocks opening.other past call other other_new m image g.on_other.past
        other_at g.on_other.marked low left)

    less : (m : ℕ) (image : List Cell) → SidesLeave lead other opening past m image
        → SidesLeave lead_new other_new opening (call ∷ past) m image
    less m image (inl left) =
        inl (moves_no_less (λ c. c.lead) opening.blocks opening.lead past call lead lead_new m image g.on_lead.past
        lead_at g.on_lead.marked left)
    less m image (inr left) =
        inr (moves_no_less (λ c. c.other) opening.blocks opening.other past call other other_new m image g.on_other.past
        other_at g.on_other.marked left)
