-- Calls of a mirror that make no moment.
use Rattle.std.proofs.Common.{◌≡◌, ◌⊎◌, ℕ, ◌*◌, ◌<◌, ◌≤◌, Bool, List, [], ◌∷◌, length, take, arith, inl, inr, refl, sym}
use Rattle.std.proofs.Common.{ap, subst, ◌∙◌, Result, Ok, Err}
use Rattle.std.specs.Prelude.{Contains, IsTrue, OnErr, OnOk}
use Rattle.std.proofs.Math.Logic.{∥∥₁_elim, ∥∥₁_prop}
use Rattle.std.proofs.lemmas.Bool.{and_parts}
use Rattle.std.proofs.lemmas.List.{get_or-take}
use Rattle.nofs_disk.specs.declared.disk.Disk.{Ghosts}
use Rattle.nofs_disk.specs.declared.Failed.{Failed}
use Rattle.nofs_disk.specs.declared.tag.Cell.{Cell}
use Rattle.nofs_disk.specs.Disk.{DiskState, IsSameDisk, KeepsCells, KeepsPast, MakesReady, Reads, Rose, StaysButFaults}
use Rattle.nofs_disk.specs.Disk.{cell_at, no_cell}
use Rattle.nofs_mirror.specs.declared.sides.log.Sides.{Sides}
use Rattle.nofs_mirror.specs.declared.mirror.Mirror.{Mirror}
use Rattle.nofs_mirror.specs.declared.sides.choices.MirrorStart.{MirrorStart}
use Rattle.nofs_mirror.specs.declared.sides.past.MirrorCall.{MirrorCall}
use Rattle.nofs_mirror.specs.declared.sides.past.Span.{Span}
use Rattle.nofs_mirror.specs.Sides.Calls.{Rests}
use Rattle.nofs_mirror.specs.Laws.{MirrorKeeps, told-is}
use Rattle.nofs_mirror.specs.Mirror.{EitherReads, IsFrom, IsMirrored, IsMirrorSide, IsSide, LeftBy, SideLeft}
use Rattle.nofs_mirror.specs.Mirror.{SideServes}
use Rattle.nofs_mirror.specs.Mirror.{both_tell, last_span, mirror_state}
use Rattle.nofs_mirror.specs.Mirror.{now_of, if_told}
use Rattle.nofs_mirror.specs.Sides.Past.{mirror_calls}
use Rattle.nofs_mirror.proofs.OnMirror.Cells.{Holds, cells_known, cells_of, may_of, mirrored_same}
use Rattle.nofs_mirror.proofs.OnMirror.Past.{Goes, goes_was, may_keeps, past_stays, tells_same, told_same}
use Rattle.nofs_mirror.proofs.OnSides.{marked_later}

pub stays_rests : (old new : DiskState) → StaysButFaults old new → Rests old new
stays_rests old new s =
    record { disk = s.disk; past = s.past; cells = s.cells; spare = (let e = s.spare in omega arith) }

-- a side after a call that makes no moment
pub side_stays : (n s t : ℕ) (side : MirrorCall → Span) (opened : Span) (past : List MirrorCall) (old new : DiskState)
    → Rests old new → t ≤ new.spare
    → IsSide n s side opened past old → IsSide n t side opened past new
side_stays n s t side opened past old new r room is = record {
  fits = (let e = is.fits in let f = r.disk.blocks in omega arith);
  room = room;
  marked = marked_later side opened past old.moment new.moment (let e = r.cells.moment in omega arith) is.marked;
  last = is.last ∙ sym r.cells.moment;
}

-- both sides make no moment
pub record BothRest (lead lead_new other other_new : DiskState) (opening : MirrorStart) (past : List MirrorCall)
    (s : ℕ) : Type 0 where
  pub lead_rests : Rests lead lead_new
  pub other_rests : Rests other other_new
  pub lead_side : IsSide opening.blocks s (λ c. c.lead) opening.lead past lead
  pub other_side : IsSide opening.blocks s (λ c. c.other) opening.other past other

-- a side that is in goes on
serves_on : (n : ℕ) (may : ℕ → List Cell) (now now_new : List Cell) (old new : DiskState) → Rests old new
    → now_new ≡ now → IsMirrorSide n may now old
    → IsMirrorSide n may now_new new
serves_on n may now now_new old new r same s = record {
  now = ap (take n) r.cells.now ∙ s.now ∙ sym same;
  covers = λ b c low has. let F : List Cell → Type 0 = λ l. Contains l c in let p = r.cells.may in
      s.covers b c low (subst F (λ i. p i b) has);
}

module _ {lead lead_new other other_new : DiskState} {opening : MirrorStart} {past : List MirrorCall} {s : ℕ}
    (r : BothRest lead lead_new other other_new opening past s) where
  rest_goes : Goes lead lead_new other other_new opening past
  rest_goes = record {
    on_lead = record { disk = r.lead_rests.disk; past = r.lead_rests.past; marked = r.lead_side.marked };
    on_other = record { disk = r.other_rests.disk; past = r.other_rests.past; marked = r.other_side.marked };
  }

  rest_tells : both_tell lead_new other_new ≡ both_tell lead other
  rest_tells = tells_same lead lead_new other other_new opening past rest_goes

  rest_may : (first : DiskState) (b : ℕ)
      → may_of lead_new other_new first opening past b ≡ may_of lead other first opening past b
  rest_may first b = may_keeps _ _ _ _ _ _ opening.blocks first.may past _ _ b
      (goes_was lead lead_new other other_new opening past rest_goes)

  rest_now : cells_of lead_new other_new opening past ≡ cells_of lead other opening past
  rest_now =
      let p = r.lead_rests.cells.now in
      let q = r.other_rests.cells.now in
      λ i. now_of (last_span (λ c. c.lead) opening.lead past).is_in opening.blocks (p i) (q i)

  pub rest_kept : (first : DiskState) → ∥ MirrorKeeps lead other first opening past ∥₁
      → ∥ MirrorKeeps lead_new other_new first opening past ∥₁
  rest_kept first kept = ∥∥₁_elim kept ∥∥₁_prop (λ k. ∣ (λ t. goes (k (sym rest_tells ∙ t))) ∣₁)
    where
      lead_in : Bool
      lead_in = (last_span (λ c. c.lead) opening.lead past).is_in

      other_in : Bool
      other_in = (last_span (λ c. c.other) opening.other past).is_in

      goes : IsMirrored opening.blocks (may_of lead other first opening past)
          (cells_of lead other opening past) lead_in other_in lead other
          → IsMirrored opening.blocks (may_of lead_new other_new first opening past)
          (cells_of lead_new other_new opening past) lead_in other_in
          lead_new other_new
      goes m = mirrored_same opening.blocks
          (may_of lead other first opening past) _ _ lead_in other_in lead_new other_new (rest_may first) (record {
            lead = λ e. serves_on opening.blocks _ _ _ lead lead_new r.lead_rests rest_now (m.lead e);
            other = λ e. serves_on opening.blocks _ _ _ other other_new r.other_rests rest_now (m.other e);
            within = m.within;
          })

  rest_disk : (first : DiskState) (t e f : ℕ) → e ≤ f
      → IsSameDisk (mirror_state lead other first opening past s e)
      (mirror_state lead_new other_new first opening past t f)
  rest_disk first t e f more = record { blocks = refl; tells = rest_tells; holds_back = refl; faults = more }

  rest_past : (first : DiskState) (t e f : ℕ)
      → KeepsPast (mirror_state lead other first opening past s e)
      (mirror_state lead_new other_new first opening past t f)
  rest_past first t e f = past_stays lead lead_new other other_new first opening past s t e f rest_goes
      r.lead_rests.cells.moment r.other_rests.cells.moment

  rest_cells : (first : DiskState) (t e f : ℕ)
      → KeepsCells (mirror_state lead other first opening past s e)
      (mirror_state lead_new other_new first opening past t f)
  rest_cells first t e f = record {
    now = told_same (both_tell lead other) (both_tell lead_new other_new) _ _ rest_tells rest_now;
    may = λ i b. told_same (both_tell lead other) (both_tell lead_new other_new) _ _ rest_tells (rest_may first b) i;
    moment = refl;
  }

-- what a side that is in may leave at its present moment
left_now : (leaves : ℕ → List Cell → Type 0) (n : ℕ) (is_in : Bool) (from at : ℕ) (whole : List Cell)
    → IsTrue is_in → from ≤ at → leaves at whole → LeftBy leaves n is_in from at (take n whole)
left_now leaves n is_in from at whole in_then low left = record {
  in_then = in_then;
  at = at;
  low = low;
  high = (omega arith);
  whole = whole;
  left = left;
  first = refl;
}

left_here : (side : MirrorCall → Span) (leaves : ℕ → List Cell → Type 0) (n : ℕ) (opened : Span)
    (past : List MirrorCall) (at : ℕ) (whole : List Cell)
    → IsTrue (last_span side opened past).is_in → (last_span side opened past).ended ≡ at → leaves at whole
    → SideLeft side leaves n opened past at (2 * length past) (take n whole)
left_here side leaves n opened [] at whole is_in ends left =
    (refl, left_now leaves n opened.is_in opened.ended at whole is_in (omega arith) left)
left_here side leaves n opened (call ∷ past) at whole is_in ends left =
    inl (refl, left_now leaves n (side call).is_in (side call).ended at whole is_in (omega arith) left)

-- a cell that a side that is in gave
given : (n block : ℕ) (t : Bool) (side now : List Cell) (into : Cell) → block < n → IsTrue t → into ≡ cell_at side block
    → take n side ≡ now
    → into ≡ cell_at (if_told t now) block
given n block t side now into low if_told gave same = gave ∙ sym (get_or-take n side block no_cell low)
    ∙ ap (λ l. cell_at l block) (same ∙ sym (told-is t now if_told))

module _ {A B : Type 0} {α : Ghosts A} {β : Ghosts B} (m : Mirror A B α β) where
  -- its calls, and what contracts see of it
  abbrev calls : List MirrorCall
  calls = mirror_calls m.log.past.value

  abbrev seen : DiskState
  seen = mirror_state (α.state m.lead) (β.state m.other)
      (α.state m.first.value) m.opening calls m.log.spare m.log.faults

  -- the first cells of each side that is in are the mirror's
  lead_serves : IsTrue seen.tells → IsTrue m.log.sides.lead_in
      → take m.opening.blocks (α.state m.lead).now ≡ cells_of (α.state m.lead)
      (β.state m.other) m.opening calls
  lead_serves t e = cells_known _ _ (∥∥₁_elim m.kept ∥∥₁_prop (λ k. ∣ ((k t).lead (sym m.lead_in ∙ e)).now ∣₁))

  other_serves : IsTrue seen.tells → IsTrue m.log.sides.other_in
      → take m.opening.blocks (β.state m.other).now ≡ cells_of (α.state m.lead) (β.state m.other) m.opening calls
  other_serves t e = cells_known _ _ (∥∥₁_elim m.kept ∥∥₁_prop (λ k. ∣ ((k t).other (sym m.other_in ∙ e)).now ∣₁))

  pub lead_served : SideServes m.log.sides.lead_in seen (α.state m.lead)
  lead_served = record {
    now = λ i t. lead_serves t i ∙ sym (told-is seen.tells _ t);
    left = λ i t image left.
        (t, inl (left_here (λ c. c.lead) _ _ _ calls _ image (sym m.lead_in ∙ i) m.lead_side.last left));
  }

  pub other_served : SideServes m.log.sides.other_in seen (β.state m.other)
  other_served = record {
    now = λ i t. other_serves t i ∙ sym (told-is seen.tells _ t);
    left = λ i t image left.
        (t, inr (left_here (λ c. c.other) _ _ _ calls _ image (sym m.other_in ∙ i) m.other_side.last left));
  }

  module _ {lead other : DiskState} (f : Rests (α.state m.lead) lead) (h : Rests (β.state m.other) other) where
    -- both sides make no moment
    pub both_rest : BothRest (α.state m.lead) lead (β.state m.other) other m.opening calls m.log.spare
    both_rest = record { lead_rests = f; other_rests = h; lead_side = m.lead_side; other_side = m.other_side }

    pub rest_holds : (t : ℕ)
        → t ≤ lead.spare → t ≤ other.spare → Holds lead other (α.state m.first.value) m.opening calls t m.log.sides
    rest_holds t lead_room other_room = record {
      lead_side = side_stays _ _ t (λ c. c.lead) _ _ _ _ f lead_room m.lead_side;
      other_side = side_stays _ _ t (λ c. c.other) _ _ _ _ h other_room m.other_side;
      lead_in = m.lead_in;
      other_in = m.other_in;
      some_in = m.some_in;
      kept = rest_kept both_rest (α.state m.first.value) m.kept;
    }

    -- and each has the room that it had
    pub rest_stays : Holds lead other (α.state m.first.value) m.opening calls m.log.spare m.log.sides
    rest_stays =
        let lead_had = m.lead_side.room in
        let other_had = m.other_side.room in
        let lead_has = f.spare in
        let other_has = h.spare in
        rest_holds m.log.spare (omega arith) (omega arith)

    -- as it is noted
    pub rest_noted : {next : List MirrorCall} {t : ℕ} {sides : Sides}
        → next ≡ calls → t ≡ m.log.spare → sides ≡ m.log.sides
        → Holds lead other (α.state m.first.value) m.opening next t sides
    rest_noted same room sides = rw (same, room, sides) rest_stays

    pub mirror_ready : {E : Type 0} {result : Result (Unit {0}) E} (t n : ℕ) → m.log.spare ≤ t → OnOk result (n ≤ t)
        → MakesReady seen (mirror_state lead other (α.state m.first.value) m.opening calls t m.log.faults) n result
    mirror_ready t n more room = record {
      disk = rest_disk both_rest (α.state m.first.value) t m.log.faults m.log.faults (omega arith);
      past = rest_past both_rest (α.state m.first.value) t m.log.faults m.log.faults;
      cells = rest_cells both_rest (α.state m.first.value) t m.log.faults m.log.faults;
      dirty = refl;
      no_fault = refl;
      no_less = more;
      room = room;
    }

  pub mirror_reads : {lead other : DiskState} (e block : ℕ) (into : Cell) (result : Result (Unit {0}) Failed)
      → EitherReads (α.state m.lead) lead (β.state m.other) other m.log.sides block into result
      → block < m.opening.blocks
      → m.log.faults ≤ e → OnErr result (Rose m.log.faults e) → OnOk result (e ≡ m.log.faults)
      → Reads seen (mirror_state lead other (α.state m.first.value) m.opening calls m.log.spare e) block into result
  mirror_reads {lead} {other} e block into result reads inside more cause no_fault = record {
    stays = record {
      disk = rest_disk r (α.state m.first.value) m.log.spare m.log.faults e more;
      past = rest_past r (α.state m.first.value) m.log.spare m.log.faults e;
      cells = rest_cells r (α.state m.first.value) m.log.spare m.log.faults e;
      dirty = refl;
      spare = refl;
    };
    cell = gives result reads.cell;
    cause = cause;
    no_fault = no_fault;
  }
    where
      r : BothRest (α.state m.lead) lead (β.state m.other) other m.opening calls m.log.spare
      r = both_rest (stays_rests _ _ reads.lead) (stays_rests _ _ reads.other)

      given_by : IsFrom m.log.sides.lead_in (α.state m.lead) block into
          ⊎ IsFrom m.log.sides.other_in (β.state m.other) block into → IsTrue seen.tells
          → into ≡ cell_at seen.now block
      given_by (inl (is_in, gave)) t =
          given m.opening.blocks block seen.tells
          (α.state m.lead).now (cells_of (α.state m.lead) (β.state m.other) m.opening calls) into inside t
          (gave (and_parts (α.state m.lead).tells (β.state m.other).tells t).0) (lead_serves t is_in)
      given_by (inr (is_in, gave)) t =
          given m.opening.blocks block seen.tells
          (β.state m.other).now (cells_of (α.state m.lead) (β.state m.other) m.opening calls) into inside t
          (gave (and_parts (α.state m.lead).tells (β.state m.other).tells t).1) (other_serves t is_in)

      gives : (res : Result (Unit {0}) Failed) → OnOk res
          (IsFrom m.log.sides.lead_in (α.state m.lead) block into
          ⊎ IsFrom m.log.sides.other_in (β.state m.other) block into)
          → OnOk res (IsTrue seen.tells → into ≡ cell_at seen.now block)
      gives (Ok u) from = given_by from
      gives (Err failed) from = tt
