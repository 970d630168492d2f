-- A flush of a mirror meets the promises of a disk.
use Rattle.std.proofs.Common.{◌≡◌, ℕ, ◌+◌, ◌^◌, ◌<◌, Bool, true, false, List, ◌∷◌, take, cond, arith, refl, sym, ap}
use Rattle.std.proofs.Common.{subst, ◌∙◌, Result}
use Rattle.std.specs.Prelude.{Contains, IsFalse, IsTrue, if◌then◌else◌, is_ok}
use Rattle.std.proofs.Math.Logic.{∥∥₁_elim, ∥∥₁_prop}
use Rattle.std.proofs.lemmas.Bool.{and_parts}
use Rattle.std.proofs.lemmas.List.{get_or-take}
use Rattle.nofs_disk.specs.declared.disk.Disk.{Ghosts}
use Rattle.nofs_disk.specs.declared.Failed.{Failed}
use Rattle.nofs_disk.specs.declared.tag.Cell.{Cell}
use Rattle.nofs_disk.specs.Cells.{Contains-known, Picks-known}
use Rattle.nofs_disk.specs.Disk.{DiskState, Flushes, IsDisk, Picks, cell_at, no_cell}
use Rattle.nofs_mirror.specs.declared.sides.calls.SideCall.{SideCall}
use Rattle.nofs_mirror.specs.declared.mirror.Mirror.{Mirror}
use Rattle.nofs_mirror.specs.declared.sides.choices.MirrorStart.{MirrorStart}
use Rattle.nofs_mirror.specs.declared.sides.past.MirrorCall.{MirrorCall}
use Rattle.nofs_mirror.specs.declared.sides.past.Effect.TheVariants.{Settle, Nothing}
use Rattle.nofs_mirror.specs.Sides.Calls.{SideFlushes, any_done, answered_call, counted_if, flush_effect, is_asked}
use Rattle.nofs_mirror.specs.Sides.Calls.{lead_stays}
use Rattle.nofs_mirror.specs.Laws.{MirrorKeeps, told-Picks, told-has, told-is}
use Rattle.nofs_mirror.specs.Mirror.{both_tell, flushed_cells, may_step, mirror_state, now_of, if_told}
use Rattle.nofs_mirror.specs.Sides.Past.{mirror_calls}
use Rattle.nofs_mirror.proofs.OnMirror.Calls.{AreAsked, Called, asked_kept, asked_now, called_disk, called_during}
use Rattle.nofs_mirror.proofs.OnMirror.Calls.{called_may, called_past, called_tells, calls_sides}
use Rattle.nofs_mirror.proofs.OnMirror.Calls.{mirror_cause, mirror_no_fault}
use Rattle.nofs_mirror.proofs.OnMirror.Cells.{cells_of, flush_goes, may_of, on_err, on_ok, told_put}
use Rattle.nofs_mirror.proofs.OnMirror.Flushes.{FlushedSides, below_in, flush_mirrored, flushed_now, mirror_now}
use Rattle.nofs_mirror.proofs.OnMirror.Flushes.{settled_back, side_leaves}
use Rattle.nofs_mirror.proofs.OnMirror.Past.{told_same, was_now}

-- a flush asks the sides
pub record CalledFlush (lead lead_new other other_new first : DiskState) (opening : MirrorStart)
    (past : List MirrorCall) (spare : ℕ)
    (a o : SideCall) : Type 0 where
  pub called : Called lead lead_new other other_new first opening past spare a o
  pub lead_flushes : SideFlushes lead lead_new a.answer
  pub other_flushes : SideFlushes other other_new o.answer

told_when : (t t' : Bool) (xs ys : List Cell) → t' ≡ t → (IsTrue t' → ys ≡ xs) → if_told t' ys ≡ if_told t xs
told_when true true xs ys same e = e refl
told_when false false xs ys same e = refl
told_when true false xs ys same e = cc
told_when false true xs ys same e = cc

module _ {lead lead_new other other_new first : DiskState} {opening : MirrorStart} {past : List MirrorCall} {s : ℕ}
    {a o : SideCall}
    (w : CalledFlush lead lead_new other other_new first opening past s a o) where
  -- the call, the cells of a side that flushed, and those that may be held, as the sides tell of them
  abbrev call : MirrorCall
  call = answered_call (flush_effect a.answer o.answer) a o

  abbrev seen : List Cell
  seen = flushed_cells lead_new.was other_new.was call

  abbrev may_now : ℕ → List Cell
  may_now = may_of lead_new other_new first opening past

  -- where some side flushed, these are the cells of a side that stays in
  was_flushed : any_done a.answer o.answer ≡ true
      → seen ≡ cond (lead_stays a.answer o.answer) lead_new.now other_new.now
  was_flushed done =
      flushed_now a.answer o.answer lead lead_new other other_new a.ended o.ended done w.called.on_lead.ended
      w.called.on_other.ended w.lead_flushes
      w.other_flushes

  -- the sides of a mirror that tells
  flushed_sides : IsTrue (both_tell lead_new other_new) → AreAsked w.called
      → FlushedSides a.answer o.answer opening.blocks may_now seen lead lead_new other other_new
  flushed_sides t k =
      let parts = and_parts lead_new.tells other_new.tells t in
      record {
        lead_is = w.called.on_lead.is;
        other_is = w.called.on_other.is;
        lead_fits = w.called.on_lead.held.fits;
        other_fits = w.called.on_other.held.fits;
        lead_tells = sym w.called.on_lead.goes.disk.tells ∙ parts.0;
        other_tells = sym w.called.on_other.goes.disk.tells ∙ parts.1;
        lead_flushes = w.lead_flushes;
        other_flushes = w.other_flushes;
        flushed = was_flushed;
        mirrored = k;
      }

  pub flush_kept : ∥ MirrorKeeps lead_new other_new first opening (call ∷ past) ∥₁
  flush_kept = ∥∥₁_elim (asked_kept w.called) ∥∥₁_prop (λ k. ∣ (λ t.
      flush_mirrored a.answer o.answer opening.blocks may_now seen lead lead_new other other_new
      (flushed_sides t (k t))) ∣₁)

  pub mirror_flushes : (t e f : ℕ) (result : Result (Unit {0}) Failed)
      → t + 1 ≡ s → e < 2 ^ 64 → is_ok result ≡ any_done a.answer o.answer
      → f ≡ counted_if (any_done a.answer o.answer) e
      → Flushes (mirror_state lead other first opening past s e)
      (mirror_state lead_new other_new first opening (call ∷ past) t f) result
  mirror_flushes t e f result room low is count = record {
    disk = called_disk w.called call t e f _ low count;
    past = called_past w.called call t e f refl refl;
    moment = omega arith;
    spare = room;
    now = told_when (both_tell lead other) (both_tell lead_new other_new) now now_new tells now_same;
    may = λ b c inside has.
        let two = told-has (both_tell lead_new other_new) (may_new b) c has in
        told_put (both_tell lead other) (may b) c (sym tells ∙ two.0)
        (back two.0 (any_done a.answer o.answer) refl b c two.1);
    settled = on_ok result _ (λ done b c inside has. settles (sym is ∙ done) b c inside has);
    was = on_ok result _
        (λ done. told_when (both_tell lead other) (both_tell lead_new other_new) now _ tells (λ if_told.
        was_now lead_new.was other_new.was opening.blocks past call
        ∙ ap (take opening.blocks) (was_flushed (sym is ∙ done)) ∙ now_same if_told));
    clean = on_ok result _ (λ done. refl);
    err = on_err result _ (λ failed i b. nothing (sym is ∙ failed) b i);
    dirty = λ b has. has;
    during = λ image left. told-Picks (both_tell lead other) may opening.blocks image (sym tells ∙ left.0)
        (to_old image (Picks-known may_now opening.blocks image
        (∥∥₁_elim (asked_kept w.called) ∥∥₁_prop (λ k. ∣ called_during w.called (flush_effect a.answer o.answer) may_now
        (λ asked. side_leaves a.answer opening.blocks may_now lead lead_new asked w.called.on_lead.is
        w.called.on_lead.new_is w.called.on_lead.held.fits
        w.lead_flushes ((k left.0).lead asked).covers)
        (λ asked. side_leaves o.answer opening.blocks may_now other other_new asked w.called.on_other.is
        w.called.on_other.new_is w.called.on_other.held.fits
        w.other_flushes ((k left.0).other asked).covers)
        image left.1 ∣₁))));
    cause = mirror_cause result (any_done a.answer o.answer) e f is count;
    no_fault = mirror_no_fault result (any_done a.answer o.answer) e f is count;
  }
    where
      tells : both_tell lead_new other_new ≡ both_tell lead other
      tells = called_tells w.called

      may : ℕ → List Cell
      may = may_of lead other first opening past

      may_new : ℕ → List Cell
      may_new = may_step opening.blocks seen may_now (flush_effect a.answer o.answer)

      now : List Cell
      now = cells_of lead other opening past

      now_new : List Cell
      now_new = now_of (lead_stays a.answer o.answer) opening.blocks lead_new.now other_new.now

      now_same : IsTrue (both_tell lead_new other_new) → now_new ≡ now
      now_same if_told =
          let F : Bool → Type 0 = λ y. now_new ≡ now_of y opening.blocks lead.now other.now in
          subst F w.called.on_lead.asked
          (mirror_now a.answer o.answer opening.blocks lead lead_new other other_new w.lead_flushes w.other_flushes
          (asked_now w.called if_told))

      old_has : (b : ℕ) (c : Cell) → Contains (may_now b) c → Contains (may b) c
      old_has b c has = let F : List Cell → Type 0 = λ l. Contains l c in subst F (called_may w.called b) has

      back : IsTrue (both_tell lead_new other_new) → (d : Bool) → any_done a.answer o.answer ≡ d → (b : ℕ) (c : Cell)
          → Contains (may_step opening.blocks seen may_now (if d then Settle else Nothing) b) c → Contains (may b) c
      back if_told true done b c has =
          old_has b c (Contains-known (may_now b) c (∥∥₁_elim (asked_kept w.called) ∥∥₁_prop (λ k.
          ∣ settled_back a.answer o.answer opening.blocks may_now seen lead lead_new other other_new
          (flushed_sides if_told (k if_told)) done b c has ∣₁)))
      back if_told false done b c has = old_has b c has

      settles : any_done a.answer o.answer ≡ true → (b : ℕ) (c : Cell) → b < opening.blocks
          → Contains (if_told (both_tell lead_new other_new) (may_new b)) c
          → c ≡ cell_at (if_told (both_tell lead_new other_new) now_new) b
      settles done b c inside has =
          let two = told-has (both_tell lead_new other_new) (may_new b) c has in
          let F : Bool → Type 0 =
          λ d. Contains (may_step opening.blocks seen may_now (if d then Settle else Nothing) b) c in
          let one = below_in opening.blocks b seen c (subst F done two.1) in
          one.1 ∙ sym (get_or-take opening.blocks seen b no_cell inside)
          ∙ ap (λ l. cell_at l b)
          (ap (take opening.blocks) (was_flushed done) ∙ sym (told-is (both_tell lead_new other_new) now_new two.0))

      nothing : any_done a.answer o.answer ≡ false → (b : ℕ)
          → if_told (both_tell lead_new other_new) (may_new b) ≡ if_told (both_tell lead other) (may b)
      nothing failed b =
          let F : Bool → Type 0 = λ d. if_told (both_tell lead_new other_new)
          (may_step opening.blocks seen may_now (if d then Settle else Nothing) b)
          ≡ if_told (both_tell lead other) (may b) in
          subst F (sym failed) (told_same (both_tell lead other) (both_tell lead_new other_new) (may b)
          (may_now b) tells (called_may w.called b))

      to_old : (image : List Cell) → Picks may_now opening.blocks image → Picks may opening.blocks image
      to_old image picks =
          record { len = picks.len; each = λ b inside. old_has b (cell_at image b) (picks.each b inside) }

-- what the contract of a flush of a side says
abbrev pub FlushesSide : {D : Type 0} → Ghosts D → Bool → D → D → SideCall → Type 0
FlushesSide δ is_in old new call = record {
  flushes : SideFlushes (δ.state old) (δ.state new) call.answer;
  asked : is_asked call.answer ≡ is_in;
  began : call.began ≡ (δ.state old).moment;
  ended : call.ended ≡ (δ.state new).moment;
  untouched : IsFalse is_in → new ≡ old;
}

pub flushes_sides : {A B : Type 0} {α : Ghosts A} {β : Ghosts B}
    (old : Mirror A B α β) {lead : A} {other : B} {a o : SideCall}
    → ((d : A) → IsDisk (α.state d)) → ((d : B) → IsDisk (β.state d))
    → FlushesSide α old.log.sides.lead_in old.lead lead a → FlushesSide β old.log.sides.other_in old.other other o
    → CalledFlush (α.state old.lead) (α.state lead) (β.state old.other) (β.state other)
    (α.state old.first.value) old.opening
    (mirror_calls old.log.past.value) old.log.spare a o
flushes_sides old {lead} {other} {a} {o} lead_is other_is f h = record {
  called = calls_sides old lead_is other_is (flush_goes a.answer _ _ f.flushes)
      (flush_goes o.answer _ _ h.flushes) f.asked h.asked f.began f.ended h.began h.ended;
  lead_flushes = f.flushes;
  other_flushes = h.flushes;
}
