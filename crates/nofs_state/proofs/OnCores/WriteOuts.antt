-- What stands goes on over a write-out.
use Rattle.std.proofs.Common.{◌≡◌, ℕ, ◌<◌, ◌≤◌, inl, inr, List, ◌∷◌, Option, None, Result, Ok, Err, IfSome}
use Rattle.std.proofs.Common.{IsPermutation, [], IfOk, OnErr, OnOk, ◌↔◌, refl, sym, ap, ◌∙◌, subst, subst₂, arith}
use Rattle.std.proofs.lemmas.Bool.{cases_lt}
use Rattle.nofs_disk.specs.Disk.{DiskState, IsDisk, MakesReady, Picks, Rose, WritesOut}
use Rattle.nofs_disk.specs.Chains.{IsSameDisk-trans, KeepsCells-trans}
use Rattle.nofs_disk.specs.Moments.{AtEach}
use Rattle.nofs_disk.specs.declared.Failed.{Failed}
use Rattle.nofs_disk.specs.declared.OutFault.{OutFault}
use Rattle.nofs_disk.specs.declared.OutFault.TheVariants as fault
use Rattle.nofs_disk.specs.declared.tag.Cell.{Cell}
use Rattle.nofs_model.specs.Geometry.{Image, super_at}
use Rattle.nofs_model.specs.Sound.{IsSound}
use Rattle.nofs_history.specs.Allowed.{IsAllowed}
use Rattle.nofs_history.specs.declared.machine.history.Entry1.{Entry1}
use Rattle.nofs_crashlaw.specs.Histories.Stage.{Lasts, Stage}
use Rattle.nofs_state.specs.Books.Maps.{IsSafe}
use Rattle.nofs_state.specs.Cores.Invariant.{IsOpen, IsStopped, Past, Sounds}
use Rattle.nofs_state.specs.Cores.WriteOuts.{WroteOne}
use Rattle.nofs_state.specs.declared.books.maps.Books.{Books}
use Rattle.nofs_state.proofs.OnCores.Unchanged.{Keeping, open-keeps, stopped-keeps}
use Rattle.nofs_state.proofs.OnBooks.Safe.{safe-over}

-- there was no room for the call
pub out-refused : {E : Type 0} (old new : DiskState) (result : Result (Unit {0}) E) → IsDisk new
    → MakesReady old new 1 result
    → WroteOne old new (Err fault.OutOfMemory)
out-refused old new result is ready =
    let same = ready.cells.moment in
    record {
      disk = ready.disk;
      cells = ready.cells;
      was = ready.past.was;
      no_more = λ m X low. ready.past.no_more m X (omega (arith, low));
      no_less = ready.past.no_less;
      added = λ X left. subst₂ (λ (may : ℕ → List Cell) (n : ℕ). Picks may n X) ready.cells.may ready.disk.blocks
          (is.at_rest X (let F : ℕ → Type 0 = λ n. new.left n X in subst F (sym same) left));
      none = tt;
      some = tt;
      err = ready.dirty;
      cause = λ e. absurd (cc (e));
      no_fault = tt;
    }

module _ {E : Type 0} (old mid new : DiskState) (ok : Result (Unit {0}) E) (is : IsDisk new)
    (ready : MakesReady old mid 1 ok) where
  added : (result : Result (Option ℕ) Failed) → WritesOut mid new result → (X : Image) → new.left old.moment X
      → Picks old.may old.blocks X
  added result w X left =
      let same : old.moment ≡ new.moment = sym (w.cells.moment ∙ ready.cells.moment) in
      let F : ℕ → Type 0 = λ n. new.left n X in
      subst₂ (λ (may : ℕ → List Cell) (n : ℕ). Picks may n X) (w.cells.may ∙ ready.cells.may)
      (w.disk.blocks ∙ ready.disk.blocks)
      (is.at_rest X (subst F same left))

  module _ (result : Result (Option ℕ) Failed) (w : WritesOut mid new result) where
    no-more : (m : ℕ) (X : Image) → m < old.moment → new.left m X → old.left m X
    no-more m X low left = ready.past.no_more m X (omega (arith, low))
        (w.no_more m X (let e = ready.cells.moment in omega (arith, low, e)) left)

    no-less : (m : ℕ) (X : Image) → m ≤ old.moment → old.left m X → new.left m X
    no-less m X low left =
        w.no_less m X (let e = ready.cells.moment in omega (arith, low, e)) (ready.past.no_less m X low left)

    was : (m : ℕ) → m ≤ old.moment → new.was m ≡ old.was m
    was m low = w.was m ∙ ready.past.was m low

    -- what a write-out leaves, with what it answers
    written : (out : Result (Option ℕ) OutFault) → IfOk out (λ o. (o ≡ None) ↔ (old.dirty ≡ []))
        → IfOk out (λ o. IfSome o (λ block. IsPermutation (block ∷ new.dirty) old.dirty))
        → OnErr out (new.dirty ≡ old.dirty)
        → (out ≡ Err fault.Failed → Rose old.faults new.faults) → OnOk out (new.faults ≡ old.faults)
        → WroteOne old new out
    written out none some err cause no_fault = record {
      disk = IsSameDisk-trans old mid new ready.disk w.disk;
      cells = KeepsCells-trans old mid new ready.cells w.cells;
      was = was;
      no_more = no-more;
      no_less = no-less;
      added = added result w;
      none = none;
      some = some;
      err = err;
      cause = cause;
      no_fault = no_fault;
    }

  pub out-done : (block : Option ℕ) → WritesOut mid new (Ok block) → WroteOne old new (Ok block)
  out-done block w = written (Ok block) w (Ok block) (
    λ e. sym ready.dirty ∙ w.none.0 (ap Ok e),
    λ e. let t : Ok block ≡ Ok None = w.none.1 (ready.dirty ∙ e) in cc (t),
  )
      (subst (λ (d : List ℕ). IfSome block (λ b. IsPermutation (b ∷ new.dirty) d)) ready.dirty w.some) tt
      (λ e. absurd (cc (e)))
      (w.no_fault ∙ ready.no_fault)

  pub out-failed : (x : Failed) → WritesOut mid new (Err x) → WroteOne old new (Err fault.Failed)
  out-failed x w = written (Err x) w (Err fault.Failed) tt tt (w.err ∙ ready.dirty)
      (λ e. let c = w.cause in let f = ready.disk.faults in omega (arith, c, f)) tt

module _ (old new : DiskState) (result : Result (Option ℕ) OutFault) (out : WroteOne old new result) where
  -- the same disk, with the images that were left before, and the blocks that were dirty
  abbrev before : DiskState
  before = record new { left = old.left; dirty = old.dirty }

  keep : Keeping old before
  keep = record {
    disk = record {
      blocks = out.disk.blocks;
      tells = out.disk.tells;
      holds_back = out.disk.holds_back;
      faults = out.disk.faults;
    };
    past = record { was = out.was; no_more = λ m X low left. left; no_less = λ m X low left. left };
    cells = record { now = out.cells.now; may = out.cells.may; moment = out.cells.moment };
    dirty = refl;
  }

  pub at-each-out : (P : ℕ → Image → Type 0) (from : ℕ) → ((X : Image) → Picks old.may old.blocks X → P old.moment X)
      → AtEach P from old → AtEach P from new
  at-each-out P from rest at =
      let same = out.cells.moment in
      record {
        begun = (let b = at.begun in omega (arith, b, same));
        each = λ m X low high left. elim (cases_lt m old.moment) [
          | inl past ↦ at.each m X low (omega (arith, past)) (out.no_more m X past left)
          | inr now ↦
              let e : m ≡ old.moment = omega (arith, now, high, same) in
              let F : ℕ → Type 0 = λ n. new.left n X in
              let G : ℕ → Type 0 = λ n. P n X in
              subst G (sym e) (rest X (out.added X (subst F e left)))
        ];
      }

  pub sounds-out : (from : ℕ) → Sounds from old → Sounds from new
  sounds-out from s = record {
    picks = λ X p. s.picks X (subst₂ (λ (may : ℕ → List Cell) (n : ℕ). Picks may n X) out.cells.may out.disk.blocks p);
    images = at-each-out (λ m X. IsSound X) from s.picks s.images;
  }

  lasts-out : (B : Image) (H : List Entry1) (M : Image) (S start : ℕ)
      → ((X : Image) → Picks old.may old.blocks X → IsAllowed B H old.moment X)
      → AtEach (λ m X. IsAllowed B H m X) start old → Lasts B H M S start before → Lasts B H M S start new
  lasts-out B H M S start rest images l = record {
    size = l.size;
    first = l.first;
    by = l.by;
    survives = record { mark = l.survives.mark; size = l.survives.size; explained = l.survives.explained };
    images = at-each-out (λ m X. IsAllowed B H m X) start rest images;
  }

  stage-out : (B : Image) (H : List Entry1) (M : Image) (S start s : ℕ)
      → ((X : Image) → Picks old.may old.blocks X → IsAllowed B H old.moment X)
      → AtEach (λ m X. IsAllowed B H m X) start old → Stage B H M S start s before → Stage B H M S start s new
  stage-out B H M S start s rest images st =
      let lasts : Lasts B H M S start new = lasts-out B H M S start rest images st.lasts in
      record {
        lasts = lasts;
        ready = record {
          files = st.ready.files;
          survives = lasts.survives;
          positive = st.ready.positive;
          fresh = st.ready.fresh;
        };
      }

  pub open-out : (k : Books) (H : List Entry1) (p : Past)
      → ((X : Image) → Picks old.may old.blocks X → IsAllowed p.base H old.moment X) → IsOpen old k H p
      → IsOpen new k H p
  open-out k H p rest was =
      let o : IsOpen before k H p = open-keeps old before keep k H p was in
      record {
        run = record { run = o.run.run; ends = o.run.ends };
        going = o.going;
        says = o.says;
        at = o.at;
        mountable = o.mountable;
        files = o.files;
        homes = o.homes;
        homes_past = o.homes_past;
        stage = stage-out p.base H p.mark p.stamps k.history.start _ rest was.stage.lasts.images o.stage;
        older = o.older;
        rest = o.rest;
        no_fault = o.no_fault;
      }

  pub stopped-out : (k : Books) (H : List Entry1) (p : Past)
      → ((X : Image) → Picks old.may old.blocks X → IsAllowed p.base H old.moment X)
      → IsStopped old k H p → IsStopped new k H p
  stopped-out k H p rest was =
      let o : IsStopped before k H p = stopped-keeps old before keep k H p was in
      let lasts : Lasts p.base H p.mark p.stamps k.history.start new =
      lasts-out p.base H p.mark p.stamps k.history.start rest was.lasts.images o.lasts in
      record {
        run = record { run = o.run.run; ends = o.run.ends };
        stopped = o.stopped;
        world_stopped = o.world_stopped;
        lasts = lasts;
      }

  pub safe-out : (k : Books) → IsSafe old k → IsSafe new k
  safe-out k = safe-over old new k k.stopped k.history out.disk (ap super_at out.cells.now)
