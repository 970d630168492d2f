-- What a write or flush of a mirror has in common.
use Rattle.std.proofs.Common.{◌≡◌, ◌⊎◌, ℕ, ◌+◌, ◌*◌, ◌^◌, ◌<◌, ◌≤◌, Bool, true, false, List, ◌∷◌, length, take, set}
use Rattle.std.proofs.Common.{arith, inl, inr, refl, sym, subst, ◌∙◌}
use Rattle.std.proofs.Common.{Result}
use Rattle.std.specs.Prelude.{Contains, IsTrue, OnErr, OnOk, is_ok}
use Rattle.std.proofs.Math.Logic.{∥∥₁_elim, ∥∥₁_prop}
use Rattle.nofs_disk.specs.declared.disk.Disk.{Ghosts}
use Rattle.nofs_disk.specs.declared.Failed.{Failed}
use Rattle.nofs_disk.specs.declared.tag.Cell.{Cell}
use Rattle.nofs_disk.specs.Disk.{DiskState, IsDisk, IsSameDisk, KeepsPast, Picks, Rose}
use Rattle.nofs_mirror.specs.declared.sides.calls.SideCall.{SideCall}
use Rattle.nofs_mirror.specs.declared.sides.log.Sides.{Sides}
use Rattle.nofs_mirror.specs.declared.mirror.Mirror.{Mirror}
use Rattle.nofs_mirror.specs.declared.sides.choices.MirrorStart.{MirrorStart}
use Rattle.nofs_mirror.specs.declared.sides.past.Effect.{Effect}
use Rattle.nofs_mirror.specs.declared.sides.past.MirrorCall.{MirrorCall}
use Rattle.nofs_mirror.specs.declared.sides.past.Span.{Span}
use Rattle.nofs_mirror.specs.Sides.Calls.{answered_call, counted, counted_if, is_asked, sides_after}
use Rattle.nofs_mirror.specs.Laws.{MirrorKeeps, told-has}
use Rattle.nofs_mirror.specs.Mirror.{IsMirrored, IsSide, SideLeaves, SideLeft, both_tell, last_span, mirror_state}
use Rattle.nofs_mirror.specs.Mirror.{now_of, if_told}
use Rattle.nofs_mirror.specs.Sides.Past.{mirror_calls}
use Rattle.nofs_mirror.proofs.OnMirror.Cells.{Holds, LeavesFirst, SideGoes, cells_known, cells_of, may_of}
use Rattle.nofs_mirror.proofs.OnMirror.Cells.{mirrored_same, on_err, on_ok, side_during}
use Rattle.nofs_mirror.proofs.OnMirror.Cells.{side_goes, some_stays, told_put}
use Rattle.nofs_mirror.proofs.OnMirror.Leaves.{during_leaves}
use Rattle.nofs_mirror.proofs.OnMirror.Past.{Goes, SideKeeps, SidesLeave, goes_was, may_keeps, past_moves, tells_same}
use Rattle.nofs_mirror.proofs.OnSides.{left_during}

-- a write or flush asks a side of a mirror where it is in
pub record AsksSide (n spare : ℕ) (side : MirrorCall → Span) (opened : Span) (past : List MirrorCall)
    (old new : DiskState) (call : SideCall) : Type 0 where
  pub is : IsDisk old
  pub new_is : IsDisk new
  pub held : IsSide n spare side opened past old
  pub goes : SideGoes old new
  pub asked : is_asked call.answer ≡ (last_span side opened past).is_in
  pub began : call.began ≡ old.moment
  pub ended : call.ended ≡ new.moment

-- and each of its sides
pub record Called (lead lead_new other other_new first : DiskState) (opening : MirrorStart) (past : List MirrorCall)
    (spare : ℕ) (a o : SideCall) : Type 0 where
  pub on_lead : AsksSide opening.blocks spare (λ c. c.lead) opening.lead past lead lead_new a
  pub on_other : AsksSide opening.blocks spare (λ c. c.other) opening.other past other other_new o
  pub kept : ∥ MirrorKeeps lead other first opening past ∥₁

module _ {n s : ℕ} {side : MirrorCall → Span} {opened : Span} {past : List MirrorCall}
    {old new : DiskState} {a : SideCall}
    (w : AsksSide n s side opened past old new a) where
  pub asks_keeps : SideKeeps side opened past old new
  asks_keeps = record { disk = w.goes.disk; past = w.goes.past; marked = w.held.marked }

  -- an image that the side leaves during the call picks from what the mirror may hold then
  asks_during : (may : ℕ → List Cell) (call : MirrorCall) → (side call).began ≡ a.began → (side call).ended ≡ a.ended
      → (IsTrue (is_asked a.answer) → LeavesFirst n may old new) → (image : List Cell)
      → SideLeft side new.left n opened (call ∷ past) new.moment (2 * length past + 1) image → Picks may n image
  asks_during may call begins ends leaves image left =
      side_during n may old new (last_span side opened past).is_in (side call).began (side call).ended image
      (begins ∙ w.began) (ends ∙ w.ended)
      (λ was_in. leaves (w.asked ∙ was_in)) (left_during side new.left n opened past call new.moment image left)

module _ {lead lead_new other other_new first : DiskState} {opening : MirrorStart} {past : List MirrorCall} {s : ℕ}
    {a o : SideCall}
    (c : Called lead lead_new other other_new first opening past s a o) where
  pub called_goes : Goes lead lead_new other other_new opening past
  called_goes = record { on_lead = asks_keeps c.on_lead; on_other = asks_keeps c.on_other }

  pub called_tells : both_tell lead_new other_new ≡ both_tell lead other
  called_tells = tells_same lead lead_new other other_new opening past called_goes

  -- what may be held before the call, as the sides tell of it after the call
  pub called_may : (b : ℕ) → may_of lead_new other_new first opening past b ≡ may_of lead other first opening past b
  called_may b = may_keeps _ _ _ _ _ _ opening.blocks first.may past _ _ b
      (goes_was lead lead_new other other_new opening past called_goes)

  -- the cells of sides that are asked
  abbrev pub AreAsked : Type 0
  AreAsked = IsMirrored opening.blocks (may_of lead_new other_new first opening past)
      (now_of (is_asked a.answer) opening.blocks lead.now other.now)
      (is_asked a.answer) (is_asked o.answer) lead other

  pub asked_kept : ∥ (IsTrue (both_tell lead_new other_new) → AreAsked) ∥₁
  asked_kept = ∥∥₁_elim c.kept ∥∥₁_prop (λ k. ∣ (λ t. goes (k (sym called_tells ∙ t))) ∣₁)
    where
      goes : IsMirrored opening.blocks (may_of lead other first opening past) (cells_of lead other opening past)
          (last_span (λ c. c.lead) opening.lead past).is_in (last_span (λ c. c.other) opening.other past).is_in lead
          other → AreAsked
      goes m =
          let M : ℕ → List Cell = may_of lead_new other_new first opening past in
          let F : Bool → Type 0 = λ x. IsMirrored opening.blocks M (now_of x opening.blocks lead.now other.now) x
          (last_span (λ c. c.other) opening.other past).is_in lead other in
          let G : Bool → Type 0 =
          λ x. IsMirrored opening.blocks M (now_of (is_asked a.answer) opening.blocks lead.now other.now)
          (is_asked a.answer) x lead other in
          subst G (sym c.on_other.asked)
          (subst F (sym c.on_lead.asked)
          (mirrored_same opening.blocks (may_of lead other first opening past) M _ _ _ lead other called_may m))

  -- the sides that are asked have the same first cells
  pub asked_now : IsTrue (both_tell lead_new other_new) → IsTrue (is_asked a.answer) → IsTrue (is_asked o.answer)
      → take opening.blocks other.now ≡ take opening.blocks lead.now
  asked_now t e f =
      cells_known _ _ (∥∥₁_elim asked_kept ∥∥₁_prop (λ k. ∣ ((k t).other f).now ∙ sym ((k t).lead e).now ∣₁))

  -- an image that a side leaves during the call picks from what the mirror may hold then
  pub called_during : (effect : Effect) (may : ℕ → List Cell)
      → (IsTrue (is_asked a.answer) → LeavesFirst opening.blocks may lead lead_new)
      → (IsTrue (is_asked o.answer) → LeavesFirst opening.blocks may other other_new) → (image : List Cell)
      → SidesLeave lead_new other_new opening (answered_call effect a o ∷ past) (2 * length past + 1) image
      → Picks may opening.blocks image
  called_during effect may f h image (inl left) =
      asks_during c.on_lead may (answered_call effect a o) refl refl f image left
  called_during effect may f h image (inr left) =
      asks_during c.on_other may (answered_call effect a o) refl refl h image left

counted_grows : (done : Bool) (e : ℕ) → e < 2 ^ 64 → e ≤ counted_if done e
counted_grows true e low = omega arith
counted_grows false e low = omega arith

mirror_disk : (lead lead_new other other_new first : DiskState) (opening : MirrorStart)
    (past next : List MirrorCall) (s t e f : ℕ) (done : Bool)
    → Goes lead lead_new other other_new opening past → e < 2 ^ 64 → f ≡ counted_if done e
    → IsSameDisk (mirror_state lead other first opening past s e)
    (mirror_state lead_new other_new first opening next t f)
mirror_disk lead lead_new other other_new first opening past next s t e f done g low count = record {
  blocks = refl;
  tells = tells_same lead lead_new other other_new opening past g;
  holds_back = refl;
  faults = let p = counted_grows done e low in omega arith;
}

-- what a write or flush leaves of the mirror, whatever it gives
module _ {lead lead_new other other_new first : DiskState} {opening : MirrorStart} {past : List MirrorCall} {s : ℕ}
    {a o : SideCall}
    (c : Called lead lead_new other other_new first opening past s a o) (call : MirrorCall) (t e f : ℕ) where
  pub called_disk : (done : Bool) → e < 2 ^ 64 → f ≡ counted_if done e
      → IsSameDisk (mirror_state lead other first opening past s e)
      (mirror_state lead_new other_new first opening (call ∷ past) t f)
  called_disk done low count = mirror_disk lead lead_new other other_new first opening past (call ∷ past) s t e f done
      (called_goes c) low count

  pub called_past : call.lead.began ≡ a.began → call.other.began ≡ o.began
      → KeepsPast (mirror_state lead other first opening past s e)
      (mirror_state lead_new other_new first opening (call ∷ past) t f)
  called_past lead_at other_at = past_moves lead lead_new other other_new first opening past call s t e f
      (called_goes c) (lead_at ∙ c.on_lead.began) (other_at ∙ c.on_other.began)

-- a call that failed is counted
pub mirror_cause : (result : Result (Unit {0}) Failed) (done : Bool) (e f : ℕ)
    → is_ok result ≡ done → f ≡ counted_if done e → OnErr result (Rose e f)
mirror_cause result done e f is count = on_err result (Rose e f) (λ failed.
    let F : Bool → Type 0 = λ d. f ≡ counted_if d e in
    let g : f ≡ counted e = subst F (sym is ∙ failed) count in
    omega arith)

-- a call that succeeded is not counted
pub mirror_no_fault : (result : Result (Unit {0}) Failed) (done : Bool) (e f : ℕ)
    → is_ok result ≡ done → f ≡ counted_if done e → OnOk result (f ≡ e)
mirror_no_fault result done e f is count = on_ok result (f ≡ e) (λ went.
    let F : Bool → Type 0 = λ d. f ≡ counted_if d e in
    subst F (sym is ∙ went) count)

-- what is told of cells before and after a call
pub told_goes : (t t' : Bool) (xs ys : List Cell) (c : Cell) (P : Type 0) → t' ≡ t → (Contains ys c → Contains xs c ⊎ P)
    → Contains (if_told t' ys) c
    → Contains (if_told t xs) c ⊎ P
told_goes t t' xs ys c P same goes has =
    let two = told-has t' ys c has in
    elim (goes two.1) [ inl before ↦ inl (told_put t xs c (sym same ∙ two.0) before) | inr p ↦ inr p ]

pub told_set : (t t' : Bool) (xs ys : List Cell) (b : ℕ) (c : Cell) → t' ≡ t → (IsTrue t' → ys ≡ set xs b c)
    → if_told t' ys ≡ set (if_told t xs) b c
told_set true true xs ys b c same e = e refl
told_set false false xs ys b c same e = refl
told_set true false xs ys b c same e = cc
told_set false true xs ys b c same e = cc

pub told_either : (t t' : Bool) (xs ys : List Cell) (b : ℕ) (c : Cell) → t' ≡ t → (ys ≡ xs) ⊎ (ys ≡ set xs b c)
    → (if_told t' ys ≡ if_told t xs) ⊎ (if_told t' ys ≡ set (if_told t xs) b c)
told_either t t' xs ys b c same (inl stays) = inl (λ i. if_told (same i) (stays i))
told_either t t' xs ys b c same (inr put) = inr (told_set t t' xs ys b c same (λ e. put))

-- a side of a mirror that answers as one that is asked where it is in
asks : {D : Type 0} {δ : Ghosts D} {n s : ℕ} {side : MirrorCall → Span} {opened : Span} {past : List MirrorCall}
    {call : SideCall} (old new : D)
    → ((d : D) → IsDisk (δ.state d)) → IsSide n s side opened past (δ.state old) → SideGoes (δ.state old) (δ.state new)
    → is_asked call.answer ≡ (last_span side opened past).is_in → call.began ≡ (δ.state old).moment
    → call.ended ≡ (δ.state new).moment
    → AsksSide n s side opened past (δ.state old) (δ.state new) call
asks old new is held goes asked began ended =
    record { is = is old; new_is = is new; held = held; goes = goes; asked = asked; began = began; ended = ended }

module _ {A B : Type 0} {α : Ghosts A} {β : Ghosts B} (old : Mirror A B α β) where
  -- a write or flush of this mirror
  abbrev pub CallOf : DiskState → DiskState → SideCall → SideCall → Type 0
  CallOf lead other a o = Called (α.state old.lead) lead (β.state old.other) other (α.state old.first.value) old.opening
      (mirror_calls old.log.past.value) old.log.spare a o

  -- the calls with it
  abbrev pub calls_with : Effect → SideCall → SideCall → List MirrorCall
  calls_with effect a o = answered_call effect a o ∷ mirror_calls old.log.past.value

  -- as each side answers that is asked where it is in
  pub calls_sides : {lead : A} {other : B} {a o : SideCall} → ((d : A) → IsDisk (α.state d))
      → ((d : B) → IsDisk (β.state d))
      → SideGoes (α.state old.lead) (α.state lead) → SideGoes (β.state old.other) (β.state other)
      → is_asked a.answer ≡ old.log.sides.lead_in → is_asked o.answer ≡ old.log.sides.other_in
      → a.began ≡ (α.state old.lead).moment → a.ended ≡ (α.state lead).moment → o.began ≡ (β.state old.other).moment
      → o.ended ≡ (β.state other).moment
      → CallOf (α.state lead) (β.state other) a o
  calls_sides {lead} {other} lead_is other_is f h lead_asked other_asked lead_began lead_ended other_began other_ended =
      record {
        on_lead = asks old.lead lead lead_is old.lead_side f (lead_asked ∙ old.lead_in) lead_began lead_ended;
        on_other = asks old.other other other_is old.other_side h (other_asked ∙ old.other_in) other_began other_ended;
        kept = old.kept;
      }

  -- the mirror after it, as it is noted
  pub called_holds : {lead other : DiskState} {a o : SideCall}
      (effect : Effect) {next : List MirrorCall} {t : ℕ} {sides : Sides} → CallOf lead other a o
      → next ≡ calls_with effect a o → t + 1 ≡ old.log.spare → sides ≡ sides_after a.answer o.answer
      → ∥ MirrorKeeps lead other (α.state old.first.value) old.opening (calls_with effect a o) ∥₁
      → Holds lead other (α.state old.first.value) old.opening next t sides
  called_holds {lead} {other} {a} {o} effect {next} {t} {sides} w noted room same kept = rw (noted, same) (record {
    lead_side = side_goes _ _ t (λ c. c.lead) _ _
        (answered_call effect a o) _ _ w.on_lead.goes w.on_lead.began w.on_lead.ended room old.lead_side;
    other_side = side_goes _ _ t (λ c. c.other) _ _
        (answered_call effect a o) _ _ w.on_other.goes w.on_other.began w.on_other.ended room old.other_side;
    lead_in = refl;
    other_in = refl;
    some_in = some_stays _ _ _ _ (w.on_lead.asked ∙ sym old.lead_in) (w.on_other.asked ∙ sym old.other_in) old.some_in;
    kept = kept;
  })

  -- what a crash may leave of a side during it, it may leave of the mirror
  pub called_leaves : {lead other : DiskState} {a o : SideCall} (effect : Effect) (s e : ℕ) → CallOf lead other a o
      → let mirror : DiskState =
      mirror_state lead other (α.state old.first.value) old.opening (calls_with effect a o) s e in
      let during = 2 * length (mirror_calls old.log.past.value) + 1 in
      SideLeaves old.log.sides.lead_in (α.state old.lead).moment mirror lead during
      × SideLeaves old.log.sides.other_in (β.state old.other).moment mirror other during
  called_leaves {lead} {other} {a} {o} effect s e w =
      let mirror : DiskState =
      mirror_state lead other (α.state old.first.value) old.opening (calls_with effect a o) s e in
      let call : MirrorCall = answered_call effect a o in (
        during_leaves (λ c. c.lead) _ _ call (α.state old.lead) lead mirror _ old.lead_in w.on_lead.began
            w.on_lead.ended (λ image t left. (t, inl left)),
        during_leaves (λ c. c.other) _ _ call (β.state old.other) other mirror _ old.other_in w.on_other.began
            w.on_other.ended (λ image t left. (t, inr left)),
      )
