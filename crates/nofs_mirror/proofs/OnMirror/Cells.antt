-- What the cells of a mirror and of its sides have to do with each other.
use Rattle.std.proofs.Common.{◌≡◌, ℕ, ◌+◌, ◌<◌, ◌≤◌, Bool, true, false, ◌||◌, List, ◌∷◌, length, take, arith, refl, sym}
use Rattle.std.proofs.Common.{ap, subst, Result, Ok, Err}
use Rattle.std.specs.Prelude.{Contains, IsTrue, OnErr, OnOk, is_ok}
use Rattle.std.proofs.Math.Logic.{∥∥₁_elim, ∥∥₁_prop}
use Rattle.std.proofs.lemmas.List.{ext_get_or}
use mathlib.Core.Bool.{Bool-set}
use native.Mathlib.Nat.{ℕ_set}
use Rattle.nofs_disk.specs.declared.tag.Cell.{Cell}
use Rattle.nofs_disk.specs.declared.Failed.{Failed}
use Rattle.nofs_disk.specs.Cells.{same_cell, same_cell-refl, same_cell-true}
use Rattle.nofs_disk.specs.Disk.{DiskState, Flushes, IsDisk, IsSameDisk, KeepsPast, Picks, StaysButFaults, Writes}
use Rattle.nofs_disk.specs.Disk.{cell_at, no_cell}
use Rattle.nofs_disk.specs.Moments.{AtEach, AtEach-flushes, AtEach-writes}
use Rattle.nofs_mirror.specs.declared.sides.calls.SideAnswer.{SideAnswer}
use Rattle.nofs_mirror.specs.declared.sides.calls.SideAnswer.TheVariants.{Out, Done, Fault}
use Rattle.nofs_mirror.specs.declared.sides.log.Sides.{Sides}
use Rattle.nofs_mirror.specs.declared.sides.choices.MirrorStart.{MirrorStart}
use Rattle.nofs_mirror.specs.declared.sides.past.MirrorCall.{MirrorCall}
use Rattle.nofs_mirror.specs.declared.sides.past.Span.{Span}
use Rattle.nofs_mirror.specs.Sides.Calls.{SideFlushes, SideWrites, is_asked, is_done, lead_stays, other_stays}
use Rattle.nofs_mirror.specs.Laws.{MirrorKeeps, first_picks}
use Rattle.nofs_mirror.specs.Mirror.{IsMirrored, IsSide, LeftBy, if_told, last_span, may_after, now_of}
use Rattle.nofs_mirror.proofs.OnSides.{marked_later, marked_more}

-- facts that are known to have a proof
cell_known : (a b : Cell) → ∥ a ≡ b ∥₁ → a ≡ b
cell_known a b known =
    same_cell-true a b (∥∥₁_elim known (Bool-set _ _)
    (λ e. let F : Cell → Type 0 = λ x. same_cell a x ≡ true in subst F e (same_cell-refl a)))

pub cells_known : (xs ys : List Cell) → ∥ xs ≡ ys ∥₁ → xs ≡ ys
cells_known xs ys known =
    ext_get_or no_cell xs ys (∥∥₁_elim known (ℕ_set _ _) (λ e. ap length e))
    (λ b low. cell_known (cell_at xs b) (cell_at ys b) (∥∥₁_elim known ∥∥₁_prop (λ e. ∣ ap (λ l. cell_at l b) e ∣₁)))

-- what the ghost fields of a mirror say
abbrev pub Holds : DiskState → DiskState → DiskState → MirrorStart → List MirrorCall → ℕ → Sides → Type 0
Holds lead other first opening past spare sides = record {
  lead_side : IsSide opening.blocks spare (λ c. c.lead) opening.lead past lead;
  other_side : IsSide opening.blocks spare (λ c. c.other) opening.other past other;
  lead_in : sides.lead_in ≡ (last_span (λ c. c.lead) opening.lead past).is_in;
  other_in : sides.other_in ≡ (last_span (λ c. c.other) opening.other past).is_in;
  some_in : IsTrue (sides.lead_in || sides.other_in);
  kept : ∥ MirrorKeeps lead other first opening past ∥₁;
}

-- the cells that a mirror may hold, as its sides tell of them, and its present cells
abbrev pub may_of : DiskState → DiskState → DiskState → MirrorStart → List MirrorCall → ℕ → List Cell
may_of lead other first opening past = may_after lead.was other.was opening.blocks first.may past

abbrev pub cells_of : DiskState → DiskState → MirrorStart → List MirrorCall → List Cell
cells_of lead other opening past =
    now_of (last_span (λ c. c.lead) opening.lead past).is_in opening.blocks lead.now other.now

-- each cell that a side may hold the mirror may
abbrev pub Covers : ℕ → (ℕ → List Cell) → (ℕ → List Cell) → Type 0
Covers n may under = (b : ℕ) (c : Cell) → b < n → Contains (under b) c → Contains (may b) c

-- what is told of cells that there are
pub told_put : (t : Bool) (xs : List Cell) (c : Cell) → IsTrue t → Contains xs c → Contains (if_told t xs) c
told_put true xs c e has = has
told_put false xs c e has = cc

-- the mirror's cells where the list is another, but the same
pub mirrored_same : (n : ℕ) (may may' : ℕ → List Cell) (now : List Cell) (lead_in other_in : Bool)
    (lead other : DiskState) → ((b : ℕ) → may' b ≡ may b)
    → IsMirrored n may now lead_in other_in lead other → IsMirrored n may' now lead_in other_in lead other
mirrored_same n may may' now lead_in other_in lead other same k = record {
  lead = λ e. record { now = (k.lead e).now; covers = λ b c low has. to b c ((k.lead e).covers b c low has) };
  other = λ e. record { now = (k.other e).now; covers = λ b c low has. to b c ((k.other e).covers b c low has) };
  within = record {
    beyond = λ b c past has. k.within.beyond b c past (back b c has);
    sized = λ b c has. k.within.sized b c (back b c has);
  };
}
  where
    to : (b : ℕ) (c : Cell) → Contains (may b) c → Contains (may' b) c
    to b c has = let F : List Cell → Type 0 = λ l. Contains l c in subst F (sym (same b)) has

    back : (b : ℕ) (c : Cell) → Contains (may' b) c → Contains (may b) c
    back b c has = let F : List Cell → Type 0 = λ l. Contains l c in subst F (same b) has

-- what every write and flush of a side does, made or not
pub record SideGoes (old new : DiskState) : Type 0 where
  pub disk : IsSameDisk old new
  pub past : KeepsPast old new
  pub later : old.moment ≤ new.moment
  pub spare : old.spare ≤ new.spare + 1

stays_goes : (old new : DiskState) → StaysButFaults old new → SideGoes old new
stays_goes old new s = record {
  disk = s.disk;
  past = s.past;
  later = (let e = s.cells.moment in omega arith);
  spare = (let e = s.spare in omega arith);
}

pub writes_goes : (old new : DiskState) (b : ℕ) (c : Cell) {result : Result (Unit {0}) Failed}
    → Writes old new b c result → SideGoes old new
writes_goes old new b c w = record {
  disk = w.disk;
  past = w.past;
  later = (let e = w.moment in omega arith);
  spare = (let e = w.spare in omega arith);
}

flushes_goes : (old new : DiskState) {result : Result (Unit {0}) Failed} → Flushes old new result → SideGoes old new
flushes_goes old new f = record {
  disk = f.disk;
  past = f.past;
  later = (let e = f.moment in omega arith);
  spare = (let e = f.spare in omega arith);
}

pub write_goes : (x : SideAnswer) (old new : DiskState) (b : ℕ) (c : Cell) → SideWrites old new b c x → SideGoes old new
write_goes Out old new b c w = stays_goes old new w
write_goes Done old new b c w = writes_goes old new b c w
write_goes Fault old new b c w = writes_goes old new b c w.1

pub flush_goes : (x : SideAnswer) (old new : DiskState) → SideFlushes old new x → SideGoes old new
flush_goes Out old new f = stays_goes old new f
flush_goes Done old new f = flushes_goes old new f
flush_goes Fault old new f = flushes_goes old new f.1

-- a side after a write or flush
pub side_goes : (n s t : ℕ) (side : MirrorCall → Span) (opened : Span) (past : List MirrorCall) (call : MirrorCall)
    (old new : DiskState) → SideGoes old new
    → (side call).began ≡ old.moment → (side call).ended ≡ new.moment → t + 1 ≡ s
    → IsSide n s side opened past old → IsSide n t side opened (call ∷ past) new
side_goes n s t side opened past call old new g began ended room is =
    let later = g.later in
    record {
      fits = (let e = is.fits in let f = g.disk.blocks in omega arith);
      room = (let e = is.room in let f = g.spare in omega arith);
      marked = marked_more side opened past call new.moment (omega arith) (omega arith)
          (marked_later side opened past old.moment new.moment later is.marked);
      last = ended;
    }

-- what a side leaves from the start of a write or flush to its end
abbrev pub LeavesFirst : ℕ → (ℕ → List Cell) → DiskState → DiskState → Type 0
LeavesFirst n may old new = (j : ℕ) (w : List Cell) → old.moment ≤ j → j ≤ new.moment → new.left j w
    → Picks may n (take n w)

-- what is left at the present moment
rests_at : (n : ℕ) (may : ℕ → List Cell) (old : DiskState) → IsDisk old → n ≤ old.blocks → Covers n may old.may
    → AtEach (λ m w. Picks may n (take n w)) old.moment old
rests_at n may old is fits covers = record {
  begun = omega arith;
  each = λ m w low high left.
      let F : ℕ → Type 0 = λ k. old.left k w in
      let e : m ≡ old.moment = omega arith in
      first_picks may n old.may old.blocks w fits covers (is.at_rest w (subst F e left));
}

pub write_leaves : (n : ℕ) (may : ℕ → List Cell) (old new : DiskState) (b : ℕ)
    (c : Cell) {result : Result (Unit {0}) Failed} → IsDisk old → IsDisk new
    → n ≤ old.blocks → Writes old new b c result → Covers n may old.may → Covers n may new.may
    → LeavesFirst n may old new
write_leaves n may old new b c is_old is_new fits w before after =
    let fits_new : n ≤ new.blocks = (let e = w.disk.blocks in omega arith) in
    let at = AtEach-writes (λ m whole. Picks may n (take n whole)) old.moment old new is_new w
    (λ whole picks. let p = first_picks may n new.may new.blocks whole fits_new after picks in (p, p))
    (rests_at n may old is_old fits before) in
    λ j whole low high left. at.each j whole low high left

pub flush_leaves : (n : ℕ) (may : ℕ → List Cell) (old new : DiskState) {result : Result (Unit {0}) Failed} → IsDisk old
    → IsDisk new → n ≤ old.blocks
    → Flushes old new result → Covers n may old.may → LeavesFirst n may old new
flush_leaves n may old new is_old is_new fits f before =
    let fits_new : n ≤ new.blocks = (let e = f.disk.blocks in omega arith) in
    let at = AtEach-flushes (λ m whole. Picks may n (take n whole)) old.moment old new is_new f
    (λ whole picks. first_picks may n old.may old.blocks whole fits before picks)
    (λ whole picks. first_picks may n new.may new.blocks whole fits_new
    (λ k c low has. before k c low (f.may k c (omega arith) has)) picks)
    (rests_at n may old is_old fits before) in
    λ j whole low high left. at.each j whole low high left

-- what a side that was in leaves during a call of the mirror
pub side_during : (n : ℕ) (may : ℕ → List Cell) (old new : DiskState) (is_in : Bool) (from to : ℕ) (image : List Cell)
    → from ≡ old.moment → to ≡ new.moment
    → (IsTrue is_in → LeavesFirst n may old new)
    → LeftBy new.left n is_in from to image → Picks may n image
side_during n may old new is_in from to image begins ends leaves left =
    let low = left.low in
    let high = left.high in
    let G : List Cell → Type 0 = λ x. Picks may n x in
    subst G (sym left.first) (leaves left.in_then left.at left.whole (omega arith) (omega arith) left.left)

-- a side that stays in was called
pub lead_stays-asked : (a o : SideAnswer) → IsTrue (lead_stays a o) → IsTrue (is_asked a)
lead_stays-asked Out o e = cc
lead_stays-asked Done o e = refl
lead_stays-asked Fault o e = refl

done-asked : (o : SideAnswer) → IsTrue (is_done o) → IsTrue (is_asked o)
done-asked Done e = refl
done-asked Out e = cc
done-asked Fault e = cc

pub other_stays-asked : (a o : SideAnswer) → IsTrue (other_stays a o) → IsTrue (is_asked o)
other_stays-asked Out o e = e
other_stays-asked Done o e = done-asked o e
other_stays-asked Fault o e = done-asked o e

-- a fact of each outcome
pub on_ok : (result : Result (Unit {0}) Failed) (P : Type 0) → (is_ok result ≡ true → P) → OnOk result P
on_ok (Ok u) P p = p refl
on_ok (Err f) P p = tt

pub on_err : (result : Result (Unit {0}) Failed) (P : Type 0) → (is_ok result ≡ false → P) → OnErr result P
on_err (Ok u) P p = tt
on_err (Err f) P p = p refl

-- one side stays in
pub some_stays : (a o : SideAnswer) (x y : Bool) → is_asked a ≡ x → is_asked o ≡ y → IsTrue (x || y)
    → IsTrue (lead_stays a o || other_stays a o)
some_stays Done o x y p q some = refl
some_stays Fault Done x y p q some = refl
some_stays Fault Out x y p q some = refl
some_stays Fault Fault x y p q some = refl
some_stays Out Done x y p q some = refl
some_stays Out Out x y p q some = cc (p, q, some)
some_stays Out Fault x y p q some = refl
