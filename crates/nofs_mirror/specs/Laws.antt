-- A mirror is a disk.
use Rattle.std.specs.Prelude.{Contains, IsTrue, ◌||◌}
use Rattle.std.proofs.Common.{◌≡◌, ◌⊎◌, ℕ, ◌+◌, ◌*◌, ◌^◌, ◌<◌, ◌≤◌, Bool, true, false, List, [], ◌∷◌, length, take}
use Rattle.std.proofs.Common.{arith, inl, inr, refl, sym, ap, subst, ◌∙◌}
use Rattle.std.proofs.Math.Logic.{∥∥₁_elim, ∥∥₁_prop}
use Rattle.std.proofs.lemmas.Bool.{and_parts, or_cases}
use Rattle.std.proofs.lemmas.List.{get_or-take, length-take-le}
use Rattle.nofs_disk.specs.declared.tag.Cell.{Cell}
use Rattle.nofs_disk.specs.Cells.{Contains-known, IsSizedCell-known, Picks-known}
use Rattle.nofs_disk.specs.Disk.{DiskState, IsDisk, Picks, cell_at, no_cell}
use Rattle.nofs_mirror.specs.declared.sides.log.Sides.{Sides}
use Rattle.nofs_mirror.specs.declared.sides.choices.MirrorStart.{MirrorStart}
use Rattle.nofs_mirror.specs.declared.sides.past.MirrorCall.{MirrorCall}
use Rattle.nofs_mirror.specs.declared.sides.past.Span.{Span}
use Rattle.nofs_mirror.specs.Mirror.{IsMirrored, IsMirrorSide, IsSide, LeftBy, SideLeft, both_tell, last_span}
use Rattle.nofs_mirror.specs.Mirror.{may_after, mirror_state, now_of, if_told}

-- what is kept of a mirror over all its calls, where it tells
abbrev pub MirrorKeeps : DiskState → DiskState → DiskState → MirrorStart → List MirrorCall → Type 0
MirrorKeeps lead other first opening past =
    IsTrue (both_tell lead other)
    → IsMirrored opening.blocks (may_after lead.was other.was opening.blocks first.may past)
    (now_of (last_span (λ c. c.lead) opening.lead past).is_in opening.blocks lead.now other.now)
    (last_span (λ c. c.lead) opening.lead past).is_in (last_span (λ c. c.other) opening.other past).is_in lead other

-- what is told
pub told-is : {A : Type 0} (t : Bool) (xs : List A) → IsTrue t → if_told t xs ≡ xs
told-is true xs e = refl
told-is false xs e = cc

-- what is told of cells that there are
pub told-has : (t : Bool) (xs : List Cell) (c : Cell) → Contains (if_told t xs) c → IsTrue t × Contains xs c
told-has true xs c has = (refl, has)
told-has false xs c (k, low, is) = absurd (omega arith)

pub told-Picks : (t : Bool) (may : ℕ → List Cell) (n : ℕ) (image : List Cell) → IsTrue t → Picks may n image
    → Picks (λ b. if_told t (may b)) n image
told-Picks true may n image e picks = record { len = picks.len; each = λ b low. picks.each b low }
told-Picks false may n image e picks = cc

-- the first cells of an image of a side pick from what the mirror may hold
pub first_picks : (may : ℕ → List Cell) (n : ℕ) (under : ℕ → List Cell) (blocks : ℕ) (whole : List Cell) → n ≤ blocks
    → ((b : ℕ) (c : Cell) → b < n → Contains (under b) c → Contains (may b) c) → Picks under blocks whole
    → Picks may n (take n whole)
first_picks may n under blocks whole fits covers picks = record {
  len = length-take-le n whole (let e = picks.len in omega arith);
  each = λ b low.
      let F : Cell → Type 0 = λ c. Contains (may b) c in
      subst F (sym (get_or-take n whole b no_cell low)) (covers b (cell_at whole b) low (picks.each b (omega arith)));
}

-- nothing may be left at a moment that is not there yet
pub SideLeft-later : (side : MirrorCall → Span) (leaves : ℕ → List Cell → Type 0) (n : ℕ) (opened : Span)
    (past : List MirrorCall) (to m : ℕ)
    (image : List Cell) → 2 * length past < m → SideLeft side leaves n opened past to m image → ⊥
SideLeft-later side leaves n opened [] to m image later (at, left) = omega arith
SideLeft-later side leaves n opened (call ∷ past) to m image later (inl (at, left)) = omega arith
SideLeft-later side leaves n opened (call ∷ past) to m image later (inr (inl (at, left))) = omega arith
SideLeft-later side leaves n opened (call ∷ past) to m image later (inr (inr left)) =
    SideLeft-later side leaves n opened past _ m image (omega arith) left

-- what a side may leave at the present moment
pub SideLeft-now : (side : MirrorCall → Span) (leaves : ℕ → List Cell → Type 0) (n : ℕ) (opened : Span)
    (past : List MirrorCall) (to : ℕ) (image : List Cell)
    → SideLeft side leaves n opened past to (2 * length past) image
    → LeftBy leaves n (last_span side opened past).is_in (last_span side opened past).ended to image
SideLeft-now side leaves n opened [] to image (at, left) = left
SideLeft-now side leaves n opened (call ∷ past) to image (inl (at, left)) = left
SideLeft-now side leaves n opened (call ∷ past) to image (inr (inl (at, left))) = absurd (omega arith)
SideLeft-now side leaves n opened (call ∷ past) to image (inr (inr left)) =
    absurd (SideLeft-later side leaves n opened past _ (2 * length (call ∷ past)) image (omega arith) left)

-- what a side that is in leaves at the present moment picks from what the mirror may hold
pub side_rests : (may : ℕ → List Cell) (now : List Cell) (n : ℕ) (is_in : Bool) (disk : DiskState) (from : ℕ)
    (image : List Cell) → IsDisk disk
    → n ≤ disk.blocks → from ≡ disk.moment
    → (IsTrue is_in → IsMirrorSide n may now disk) → LeftBy disk.left n is_in from disk.moment image → Picks may n image
side_rests may now n is_in disk from image is fits ends serves left =
    let low = left.low in
    let high = left.high in
    let at : left.at ≡ disk.moment = omega arith in
    let F : ℕ → Type 0 = λ k. disk.left k left.whole in
    let G : List Cell → Type 0 = λ x. Picks may n x in
    subst G (sym left.first) (first_picks may n disk.may disk.blocks left.whole fits (serves left.in_then).covers
    (is.at_rest left.whole (subst F at left.left)))

-- each block may hold the cell that a side that is in gives
pub side_has : (may : ℕ → List Cell) (now : List Cell) (n : ℕ) (disk : DiskState) → IsDisk disk
    → n ≤ disk.blocks → IsTrue disk.tells
    → IsMirrorSide n may now disk → (b : ℕ) → b < n → Contains (may b) (cell_at now b)
side_has may now n disk is fits tells s b low =
    let F : Cell → Type 0 = λ c. Contains (may b) c in
    let G : List Cell → Type 0 = λ l. Contains (may b) (cell_at l b) in
    subst G s.now (subst F (sym (get_or-take n disk.now b no_cell low))
    (s.covers b (cell_at disk.now b) low (is.has_now b tells (omega arith))))

-- the mirror holds as many cells as it has blocks
pub now_len : (lead_in : Bool) (n : ℕ) (a b : List Cell) → n ≤ length a → n ≤ length b
    → length (now_of lead_in n a b) ≡ n
now_len true n a b low_a low_b = length-take-le n a low_a
now_len false n a b low_a low_b = length-take-le n b low_b

-- a mirror keeps every law of a disk
pub mirror_is : (lead other first : DiskState) (opening : MirrorStart) (past : List MirrorCall)
    (spare faults : ℕ) {sides : Sides} {moment : ℕ} → IsDisk lead
    → IsDisk other
    → IsSide opening.blocks spare (λ c. c.lead) opening.lead past lead
    → IsSide opening.blocks spare (λ c. c.other) opening.other past other
    → sides.lead_in ≡ (last_span (λ c. c.lead) opening.lead past).is_in
    → sides.other_in ≡ (last_span (λ c. c.other) opening.other past).is_in
    → IsTrue (sides.lead_in || sides.other_in)
    → moment ≡ 2 * length past
    → 2 * spare + moment < 2 ^ 64 → faults < 2 ^ 64 → ∥ MirrorKeeps lead other first opening past ∥₁
    → IsDisk (mirror_state lead other first opening past spare faults)
mirror_is lead other first opening past spare faults {sides} {moment} is_lead is_other side_lead side_other lead_in
    other_in some made room low kept = record {
      room = omega arith;
      counted = low;
      whole = whole;
      has_now = has_now;
      beyond = λ b c past_end has. let t = told-has tells (may b) c has in
          ∥∥₁_elim kept (λ x y. absurd x) (λ k. (k t.0).within.beyond b c past_end t.1);
      sized = λ b c has. let t = told-has tells (may b) c has in
          IsSizedCell-known c (∥∥₁_elim kept ∥∥₁_prop (λ k. ∣ (k t.0).within.sized b c t.1 ∣₁));
      at_rest = λ image left. told-Picks tells may n image left.0
          (Picks-known may n image (∥∥₁_elim kept ∥∥₁_prop (λ k. ∣ rests (k left.0) image left.1 ∣₁)));
    }
  where
    n : ℕ
    n = opening.blocks

    tells : Bool
    tells = both_tell lead other

    lead_is_in : Bool
    lead_is_in = (last_span (λ c. c.lead) opening.lead past).is_in

    may : ℕ → List Cell
    may = may_after lead.was other.was opening.blocks first.may past

    now : List Cell
    now = now_of lead_is_in n lead.now other.now

    whole : IsTrue tells → length (if_told tells now) ≡ n
    whole t =
        let parts = and_parts lead.tells other.tells t in
        let lead_len = is_lead.whole parts.0 in
        let other_len = is_other.whole parts.1 in
        let lead_fits = side_lead.fits in
        let other_fits = side_other.fits in
        ap length (told-is tells now t) ∙ now_len lead_is_in n lead.now other.now (omega arith) (omega arith)

    one_has : IsTrue tells → IsMirrored n may now lead_is_in
        (last_span (λ c. c.other) opening.other past).is_in lead other → (b : ℕ) → b < n
        → Contains (may b) (cell_at now b)
    one_has t k b inside =
        let parts = and_parts lead.tells other.tells t in
        elim (or_cases sides.lead_in sides.other_in some) [
          | inl e ↦ side_has may now n lead is_lead side_lead.fits parts.0 (k.lead (sym lead_in ∙ e)) b inside
          | inr e ↦ side_has may now n other is_other side_other.fits parts.1 (k.other (sym other_in ∙ e)) b inside
        ]

    has_now : (b : ℕ) → IsTrue tells → b < n → Contains (if_told tells (may b)) (cell_at (if_told tells now) b)
    has_now b t inside =
        let has : Contains (may b) (cell_at now b) =
        Contains-known (may b) (cell_at now b) (∥∥₁_elim kept ∥∥₁_prop (λ k. ∣ one_has t (k t) b inside ∣₁)) in
        let F : List Cell → Type 0 = λ l. Contains l (cell_at now b) in
        let G : List Cell → Type 0 = λ l. Contains (if_told tells (may b)) (cell_at l b) in
        subst G (sym (told-is tells now t)) (subst F (sym (told-is tells (may b) t)) has)

    rests : IsMirrored n may now lead_is_in (last_span (λ c. c.other) opening.other past).is_in lead other
        → (image : List Cell) → SideLeft (λ c. c.lead) lead.left n opening.lead past lead.moment (2 * length past) image
        ⊎ SideLeft (λ c. c.other)
        other.left n opening.other past other.moment (2 * length past) image → Picks may n image
    rests k image (inl left) = side_rests may now n lead_is_in lead _ image is_lead side_lead.fits side_lead.last k.lead
        (SideLeft-now (λ c. c.lead) lead.left n opening.lead past lead.moment image left)
    rests k image (inr left) = side_rests may now n _ other _ image is_other side_other.fits side_other.last k.other
        (SideLeft-now (λ c. c.other) other.left n opening.other past other.moment image left)
