-- Flushes of a mirror.
use Rattle.std.proofs.Common.{◌≡◌, ℕ, zero, suc, ◌<◌, ◌≤◌, Bool, true, false, ◌||◌, List, [], ◌∷◌, take, cond, arith}
use Rattle.std.proofs.Common.{inl, inr, refl, sym, ap, subst, ◌∙◌, Ok}
use Rattle.std.specs.Prelude.{Contains, IsTrue, if◌then◌else◌}
use Rattle.std.proofs.lemmas.Bool.{cases_lt, lt-ltb, le-ltb}
use Rattle.std.proofs.lemmas.List.{get_or-take}
use Rattle.nofs_disk.specs.declared.tag.Cell.{Cell}
use Rattle.nofs_disk.specs.Disk.{DiskState, Flushes, IsDisk, IsSettled, cell_at, no_cell}
use Rattle.nofs_mirror.specs.declared.sides.calls.SideAnswer.{SideAnswer}
use Rattle.nofs_mirror.specs.declared.sides.calls.SideAnswer.TheVariants.{Out, Done, Fault}
use Rattle.nofs_mirror.specs.declared.sides.past.Effect.TheVariants.{Settle, Nothing}
use Rattle.nofs_mirror.specs.Sides.Calls.{SideFlushes, any_done, flush_effect, is_asked, is_done, lead_stays}
use Rattle.nofs_mirror.specs.Sides.Calls.{other_stays}
use Rattle.nofs_mirror.specs.Laws.{side_has}
use Rattle.nofs_mirror.specs.Mirror.{IsMirrored, may_step, now_of, only_below}
use Rattle.nofs_mirror.proofs.OnMirror.Cells.{Covers, LeavesFirst, flush_leaves, lead_stays-asked, other_stays-asked}
use Rattle.nofs_mirror.proofs.OnMirror.Writes.{lead_now}

-- a flush changes no cell
side_now : (a : SideAnswer) (old new : DiskState) → SideFlushes old new a → new.now ≡ old.now
side_now Out old new f = f.cells.now
side_now Done old new f = f.now
side_now Fault old new f = f.1.now

side_may : (a : SideAnswer) (n : ℕ) (old new : DiskState) → IsTrue (is_asked a) → n ≤ old.blocks → SideFlushes old new a
    → (b : ℕ) (c : Cell) → b < n
    → Contains (new.may b) c → Contains (old.may b) c
side_may Out n old new e fits f b c low has = cc
side_may Done n old new e fits f b c low has = f.may b c (omega arith) has
side_may Fault n old new e fits f b c low has = f.1.may b c (omega arith) has

side_settled : (a : SideAnswer) (old new : DiskState) → is_done a ≡ true → SideFlushes old new a → IsSettled new
side_settled Out old new e f = cc
side_settled Done old new e f = f.settled
side_settled Fault old new e f = cc

pub side_leaves : (a : SideAnswer) (n : ℕ) (may : ℕ → List Cell) (old new : DiskState) → IsTrue (is_asked a)
    → IsDisk old → IsDisk new → n ≤ old.blocks
    → SideFlushes old new a → Covers n may old.may → LeavesFirst n may old new
side_leaves Out n may old new e is_old is_new fits f covers = cc
side_leaves Done n may old new e is_old is_new fits f covers = flush_leaves n may old new is_old is_new fits f covers
side_leaves Fault n may old new e is_old is_new fits f covers = flush_leaves n may old new is_old is_new fits f.1 covers

-- the mirror's cells stay
pub mirror_now : (a o : SideAnswer) (n : ℕ) (lead lead_new other other_new : DiskState) → SideFlushes lead lead_new a
    → SideFlushes other other_new o
    → (IsTrue (is_asked a) → IsTrue (is_asked o) → take n other.now ≡ take n lead.now)
    → now_of (lead_stays a o) n lead_new.now other_new.now ≡ now_of (is_asked a) n lead.now other.now
mirror_now Done o n lead lead_new other other_new f h same = ap (take n) f.now
mirror_now Fault Done n lead lead_new other other_new f h same = ap (take n) h.now ∙ same refl refl
mirror_now Fault Out n lead lead_new other other_new f h same = ap (take n) f.1.now
mirror_now Fault Fault n lead lead_new other other_new f h same = ap (take n) f.1.now
mirror_now Out o n lead lead_new other other_new f h same = ap (take n) (side_now o other other_new h)

other_now : (a o : SideAnswer) (n : ℕ) (lead lead_new other other_new : DiskState) → SideFlushes lead lead_new a
    → SideFlushes other other_new o
    → (IsTrue (is_asked a) → IsTrue (is_asked o) → take n other.now ≡ take n lead.now)
    → IsTrue (other_stays a o) → take n other_new.now ≡ now_of (lead_stays a o) n lead_new.now other_new.now
other_now Out o n lead lead_new other other_new f h same stays = refl
other_now Done Out n lead lead_new other other_new f h same stays = cc
other_now Done Done n lead lead_new other other_new f h same stays = ap (take n) h.now ∙ same refl refl
    ∙ sym (ap (take n) f.now)
other_now Done Fault n lead lead_new other other_new f h same stays = cc
other_now Fault Out n lead lead_new other other_new f h same stays = cc
other_now Fault Done n lead lead_new other other_new f h same stays = refl
other_now Fault Fault n lead lead_new other other_new f h same stays = cc

-- what a side that flushed tells of the moment at which it ended
was_flushed : (old new : DiskState) (ended : ℕ) → ended ≡ new.moment → Flushes old new (Ok tt) → new.was ended ≡ new.now
was_flushed old new ended at f = ap new.was at ∙ f.was ∙ sym f.now

-- a side that stays in after a flush that succeeded flushed
pub flushed_now : (a o : SideAnswer) (lead lead_new other other_new : DiskState) (x y : ℕ)
    → any_done a o ≡ true → x ≡ lead_new.moment → y ≡ other_new.moment
    → SideFlushes lead lead_new a → SideFlushes other other_new o
    → cond (lead_stays a o) (lead_new.was x) (other_new.was y) ≡ cond (lead_stays a o) lead_new.now other_new.now
flushed_now Done o lead lead_new other other_new x y done p q f h = was_flushed lead lead_new x p f
flushed_now Fault Done lead lead_new other other_new x y done p q f h = was_flushed other other_new y q h
flushed_now Fault Out lead lead_new other other_new x y done p q f h = cc
flushed_now Fault Fault lead lead_new other other_new x y done p q f h = cc
flushed_now Out Done lead lead_new other other_new x y done p q f h = was_flushed other other_new y q h
flushed_now Out Out lead lead_new other other_new x y done p q f h = cc
flushed_now Out Fault lead lead_new other other_new x y done p q f h = cc

lead_done : (a o : SideAnswer) → any_done a o ≡ true → IsTrue (lead_stays a o) → is_done a ≡ true
lead_done Done o done stays = refl
lead_done Fault o done stays = cc
lead_done Out o done stays = cc

other_done : (a o : SideAnswer) → any_done a o ≡ true → IsTrue (other_stays a o) → is_done o ≡ true
other_done Out o done stays = done
other_done Done o done stays = stays
other_done Fault o done stays = stays

-- the one cell that is there
below_true : (n b : ℕ) (x : List Cell) → b < n → only_below n x b ≡ cell_at x b ∷ []
below_true n b x low = rw (lt-ltb b n low) refl

below_false : (n b : ℕ) (x : List Cell) → n ≤ b → only_below n x b ≡ []
below_false n b x past = rw (le-ltb b n past) refl

single : (c x : Cell) → Contains (c ∷ []) x → x ≡ c
single c x (zero, low, is) = sym is
single c x (suc k, low, is) = absurd (omega arith)

none : (x : Cell) → Contains [] x → ⊥
none x (k, low, is) = omega arith

pub below_in : (n b : ℕ) (x : List Cell) (c : Cell) → Contains (only_below n x b) c → (b < n) × (c ≡ cell_at x b)
below_in n b x c has = elim (cases_lt b n) [
  | inl low ↦ let F : List Cell → Type 0 = λ l. Contains l c in
      (low, single (cell_at x b) c (subst F (below_true n b x low) has))
  | inr past ↦ let F : List Cell → Type 0 = λ l. Contains l c in absurd (none c (subst F (below_false n b x past) has))
]

below_has : (n b : ℕ) (x : List Cell) → b < n → Contains (only_below n x b) (cell_at x b)
below_has n b x low =
    let F : List Cell → Type 0 = λ l. Contains l (cell_at x b) in
    subst F (sym (below_true n b x low)) (0, omega arith, refl)

-- a cell of two lists whose first cells are the same
pub first_cell : (n b : ℕ) (x y : List Cell) → b < n → take n x ≡ take n y → cell_at x b ≡ cell_at y b
first_cell n b x y low same = sym (get_or-take n x b no_cell low) ∙ ap (λ l. cell_at l b) same
    ∙ get_or-take n y b no_cell low

-- the cells that may be held, one of which a side that was asked gives
pub asked_has : (a o : SideAnswer) (n : ℕ) (may : ℕ → List Cell) (now : List Cell) (lead other : DiskState)
    → IsTrue (is_asked a || is_asked o) → IsDisk lead
    → IsDisk other → n ≤ lead.blocks → n ≤ other.blocks → IsTrue lead.tells → IsTrue other.tells
    → IsMirrored n may now (is_asked a) (is_asked o) lead other → (b : ℕ) → b < n → Contains (may b) (cell_at now b)
asked_has Done o n may now lead other some is_lead is_other fits_lead fits_other tells_lead tells_other k b low =
    side_has may now n lead is_lead fits_lead tells_lead (k.lead refl) b low
asked_has Fault o n may now lead other some is_lead is_other fits_lead fits_other tells_lead tells_other k b low =
    side_has may now n lead is_lead fits_lead tells_lead (k.lead refl) b low
asked_has Out Done n may now lead other some is_lead is_other fits_lead fits_other tells_lead tells_other k b low =
    side_has may now n other is_other fits_other tells_other (k.other refl) b low
asked_has Out Fault n may now lead other some is_lead is_other fits_lead fits_other tells_lead tells_other k b low =
    side_has may now n other is_other fits_other tells_other (k.other refl) b low
asked_has Out Out n may now lead other some is_lead is_other fits_lead fits_other tells_lead tells_other k b low = cc

done_asked : (a o : SideAnswer) → any_done a o ≡ true → IsTrue (is_asked a || is_asked o)
done_asked Done o done = refl
done_asked Fault o done = refl
done_asked Out Done done = refl
done_asked Out Out done = cc
done_asked Out Fault done = cc

-- a flush that asks the sides of a mirror
pub record FlushedSides (a o : SideAnswer) (n : ℕ) (may : ℕ → List Cell) (x : List Cell)
    (lead lead_new other other_new : DiskState) : Type 0 where
  pub lead_is : IsDisk lead
  pub other_is : IsDisk other
  pub lead_fits : n ≤ lead.blocks
  pub other_fits : n ≤ other.blocks
  pub lead_tells : IsTrue lead.tells
  pub other_tells : IsTrue other.tells
  pub lead_flushes : SideFlushes lead lead_new a
  pub other_flushes : SideFlushes other other_new o
  pub flushed : any_done a o ≡ true → x ≡ cond (lead_stays a o) lead_new.now other_new.now
  pub mirrored : IsMirrored n may (now_of (is_asked a) n lead.now other.now) (is_asked a) (is_asked o) lead other

same_now : (a o : SideAnswer) (n : ℕ) (may : ℕ → List Cell) (x : List Cell) (lead lead_new other other_new : DiskState)
    → FlushedSides a o n may x lead lead_new other other_new
    → IsTrue (is_asked a) → IsTrue (is_asked o) → take n other.now ≡ take n lead.now
same_now a o n may x lead lead_new other other_new s e f = (s.mirrored.other f).now ∙ sym (s.mirrored.lead e).now

-- what is settled might have been left before
pub settled_back : (a o : SideAnswer) (n : ℕ) (may : ℕ → List Cell) (x : List Cell)
    (lead lead_new other other_new : DiskState)
    → FlushedSides a o n may x lead lead_new other other_new → any_done a o ≡ true
    → (b : ℕ) (c : Cell) → Contains (only_below n x b) c → Contains (may b) c
settled_back a o n may x lead lead_new other other_new s done b c has =
    let two = below_in n b x c has in
    let now : take n x ≡ now_of (is_asked a) n lead.now other.now =
    ap (take n) (s.flushed done) ∙ mirror_now a o n lead lead_new other other_new s.lead_flushes s.other_flushes
    (same_now a o n may x lead lead_new other other_new s) in
    let is : cell_at x b ≡ cell_at (now_of (is_asked a) n lead.now other.now) b = sym (get_or-take n x b no_cell two.0)
    ∙ ap (λ l. cell_at l b) now in
    let F : Cell → Type 0 = λ y. Contains (may b) y in
    subst F (sym (two.1 ∙ is))
    (asked_has a o n may (now_of (is_asked a) n lead.now other.now) lead other (done_asked a o done)
    s.lead_is s.other_is s.lead_fits s.other_fits s.lead_tells s.other_tells s.mirrored b two.0)

-- a side that flushed may hold its present cells alone
settled_covers : (n : ℕ) (x now : List Cell) (side : DiskState) → n ≤ side.blocks → IsSettled side
    → take n side.now ≡ now → take n x ≡ now
    → Covers n (only_below n x) side.may
settled_covers n x now side fits settled p q b c low has =
    let is : c ≡ cell_at x b = settled b c (omega arith) has ∙ first_cell n b side.now x low (p ∙ sym q) in
    let F : Cell → Type 0 = λ y. Contains (only_below n x b) y in
    subst F (sym is) (below_has n b x low)

side_blocks : (a : SideAnswer) (old new : DiskState) → SideFlushes old new a → new.blocks ≡ old.blocks
side_blocks Out old new f = f.disk.blocks
side_blocks Done old new f = f.disk.blocks
side_blocks Fault old new f = f.1.disk.blocks

-- what holds of the cells after a flush that succeeded
flush_settles : (a o : SideAnswer) (n : ℕ) (may : ℕ → List Cell) (x : List Cell)
    (lead lead_new other other_new : DiskState)
    → FlushedSides a o n may x lead lead_new other other_new → any_done a o ≡ true
    → IsMirrored n (only_below n x) (now_of (lead_stays a o) n lead_new.now other_new.now) (lead_stays a o)
    (other_stays a o) lead_new other_new
flush_settles a o n may x lead lead_new other other_new s done =
    let now = ap (take n) (s.flushed done) in
    let lead_blocks = side_blocks a lead lead_new s.lead_flushes in
    let other_blocks = side_blocks o other other_new s.other_flushes in
    let lead_low = s.lead_fits in
    let other_low = s.other_fits in
    record {
      lead = λ stays.
          let here = lead_now (lead_stays a o) n lead_new.now other_new.now stays in
          record {
            now = here;
            covers = settled_covers n x (now_of (lead_stays a o) n lead_new.now other_new.now) lead_new (omega arith)
                (side_settled a lead lead_new (lead_done a o done stays) s.lead_flushes) here now;
          };
      other = λ stays.
          let here = other_now a o n lead lead_new other other_new s.lead_flushes s.other_flushes
          (same_now a o n may x lead lead_new other other_new s)
          stays in
          record {
            now = here;
            covers = settled_covers n x (now_of (lead_stays a o) n lead_new.now other_new.now) other_new (omega arith)
                (side_settled o other other_new (other_done a o done stays) s.other_flushes) here now;
          };
      within = record {
        beyond = λ b c past has. let two = below_in n b x c has in let low = two.0 in omega arith;
        sized = λ b c has. s.mirrored.within.sized b c
            (settled_back a o n may x lead lead_new other other_new s done b c has);
      };
    }

-- and after one that failed
flush_fails : (a o : SideAnswer) (n : ℕ) (may : ℕ → List Cell) (x : List Cell)
    (lead lead_new other other_new : DiskState)
    → FlushedSides a o n may x lead lead_new other other_new
    → IsMirrored n may (now_of (lead_stays a o) n lead_new.now other_new.now) (lead_stays a o)
    (other_stays a o) lead_new other_new
flush_fails a o n may x lead lead_new other other_new s = record {
  lead = λ stays.
      let asked = lead_stays-asked a o stays in
      record {
        now = lead_now (lead_stays a o) n lead_new.now other_new.now stays;
        covers =
            λ b c low has. (s.mirrored.lead asked).covers b c low
            (side_may a n lead lead_new asked s.lead_fits s.lead_flushes b c low has);
      };
  other = λ stays.
      let asked = other_stays-asked a o stays in
      record {
        now = other_now a o n lead lead_new other other_new s.lead_flushes s.other_flushes
            (same_now a o n may x lead lead_new other other_new s) stays;
        covers = λ b c low has. (s.mirrored.other asked).covers b c low
            (side_may o n other other_new asked s.other_fits s.other_flushes b c low has);
      };
  within = s.mirrored.within;
}

pub flush_mirrored : (a o : SideAnswer) (n : ℕ) (may : ℕ → List Cell) (x : List Cell)
    (lead lead_new other other_new : DiskState)
    → FlushedSides a o n may x lead lead_new other other_new
    → IsMirrored n (may_step n x may (flush_effect a o)) (now_of (lead_stays a o) n lead_new.now other_new.now)
    (lead_stays a o) (other_stays a o)
    lead_new other_new
flush_mirrored a o n may x lead lead_new other other_new s = go (any_done a o) refl
  where
    go : (d : Bool) → any_done a o ≡ d → IsMirrored n (may_step n x may (if d then Settle else Nothing))
        (now_of (lead_stays a o) n lead_new.now other_new.now) (lead_stays a o) (other_stays a o) lead_new other_new
    go true done = flush_settles a o n may x lead lead_new other other_new s done
    go false done = flush_fails a o n may x lead lead_new other other_new s
