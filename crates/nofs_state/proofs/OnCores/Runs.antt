-- A run with one more entry, and what an entry that gives nothing leaves.
use Rattle.std.proofs.Common.{◌≡◌, ℕ, ◌+◌, ◌<◌, ◌≤◌, Bool, true, false, ◌&&◌, leb, List, [], ◌∷◌, ◌++◌, append-nil}
use Rattle.std.proofs.Common.{option_to_list, refl, sym, ap, ◌∙◌, subst, arith}
use Rattle.nofs_disk.specs.Disk.{DiskState, StaysButFaults}
use Rattle.nofs_disk.specs.declared.tag.Cell.{Cell}
use Rattle.nofs_model.specs.Geometry.{Image, inode}
use Rattle.nofs_crashlaw.specs.Images.Moments.{during, AllExplained}
use Rattle.nofs_crashlaw.specs.Images.Reasons.{IsMark}
use Rattle.nofs_history.specs.Marks.{Mark, IsUnderWay, mark_at}
use Rattle.nofs_history.specs.World.{World}
use Rattle.nofs_history.specs.Machine.{Given, given_by, nothing, is_write_fault}
use Rattle.nofs_history.specs.History.{NoWriteFault}
use Rattle.nofs_history.specs.Since.{agreed_files, files_along, is_flushed}
use Rattle.nofs_history.specs.Steady.{SteadyRest, Untouched}
use Rattle.nofs_history.specs.Next.{Next, Run, takes_time}
use Rattle.nofs_history.specs.declared.machine.history.Entry1.{Entry1}
use Rattle.nofs_crashlaw.proofs.OnLives.Images.{values-append, metas-append}
use Rattle.nofs_crashlaw.specs.Histories.Stage.{Lasts}
use Rattle.nofs_crashlaw.proofs.OnHistories.Entries.{mark-during}
use Rattle.nofs_crashlaw.proofs.OnHistories.Later.{law-later, mark-within}
use Rattle.nofs_crashlaw.proofs.OnHistories.Stages.{all-begun, same-marks, by-more, by-append, begun-append, mark-plain}
use Rattle.nofs_state.specs.Cores.Invariant.{ends_at}

pub run-append : (H : List Entry1) (start : ℕ) (W U V : World) (e : Entry1) → Run start W H U
    → e.from ≡ ends_at start H → e.from ≤ e.to
    → (takes_time e.reply ≡ true → e.from < e.to) → Next U e V → Run start W (H ++ e ∷ []) V
run-append [] start W U V e r from low time next = (V, from, low, time, subst (λ (Q : World). Next Q e V) r next, refl)
run-append (h ∷ H) start W U V e r from low time next =
    (r.0, r.1, r.2, r.3, r.4, run-append H h.to r.0 U V e r.5 from low time next)

pub ends-append : (H : List Entry1) (start : ℕ) (e : Entry1) → ends_at start (H ++ e ∷ []) ≡ e.to
ends-append [] start e = refl
ends-append (h ∷ H) start e = ends-append H h.to e

pub faults-append : (H : List Entry1) (e : Entry1) → NoWriteFault H
    → is_write_fault e.reply ≡ false → NoWriteFault (H ++ e ∷ [])
faults-append [] e none f = (f, tt)
faults-append (h ∷ H) e none f = (none.0, faults-append H e none.1 f)

-- what is not agreed stays where an entry gives nothing
pub rest-idle : (B : Image) (H : List Entry1) (e : Entry1) (X : Image)
    → given_by (files_along (agreed_files B) H) e ≡ nothing → SteadyRest B H X
    → SteadyRest B (H ++ e ∷ []) X
rest-idle B H e X none rest i live not_agreed =
    let u : Untouched B H X i = rest i live not_agreed in
    record {
      live = u.live;
      generation = u.generation;
      meta = u.meta;
      no_value = λ k. values-append (agreed_files B) H (e ∷ []) i (inode X i).generation k
          ∙ (λ j. u.no_value k j ++ (option_to_list ((none j).slots i (inode X i).generation k) ++ []));
      no_meta = metas-append (agreed_files B) H (e ∷ []) i (inode X i).generation
          ∙ (λ j. u.no_meta j ++ (option_to_list ((none j).metas i (inode X i).generation) ++ []));
      values = u.values;
    }

-- the mark during nothing is the mark
and-true : (b : Bool) → (b && true) ≡ b
and-true true = refl
and-true false = refl

during-none : (m : Mark) → during m nothing ≡ m
during-none m = λ j. record {
  image = m.image;
  stamps = m.stamps;
  since = λ i g k. append-nil (m.since i g k) j;
  metas = λ i g. append-nil (m.metas i g) j;
  stands = λ i g. and-true (m.stands i g) j;
}

-- Whatever has failed before: an entry that gives nothing, in which the disk stays, leaves all allowed
pub lasts-idle : (B : Image) (H : List Entry1) (e : Entry1) (M : Image) (S start : ℕ) (old new : DiskState)
    → Lasts B H M S start old
    → StaysButFaults old new → e.from ≡ old.moment → e.to ≡ new.moment
    → is_flushed e.reply ≡ false → given_by (files_along (agreed_files B) H) e ≡ nothing
    → Lasts B (H ++ e ∷ []) M S start new
lasts-idle B H e M S start old new last stays from to plain none =
    let same : new.moment ≡ old.moment = stays.cells.moment in
    let u : IsUnderWay H e (old.moment + 1) (new.moment + 1) = record {
      all_begun = all-begun H old.moment (old.moment + 1) (omega arith) last.by;
      begun_now = begun-append H e old.moment (new.moment + 1)
          (omega (arith, same)) last.by (omega (arith, same, from));
      same_mark = mark-plain H e (new.moment + 1) 0 0 (λ j. plain j && leb e.to (new.moment + 1))
          ∙ same-marks H old.moment (old.moment + 1) (new.moment + 1) 0 0 (omega arith) (omega (arith, same)) last.by;
      mark_within = (let w = mark-within H (old.moment + 1) 0 0 (omega arith) in omega (arith, w));
    } in
    let m : mark_at B (H ++ e ∷ []) (new.moment + 1) M S ≡ mark_at B H (old.moment + 1) M S =
    mark-during B H e (old.moment + 1) (new.moment + 1) M S u
    ∙ ap (λ (g : Given). during (mark_at B H (old.moment + 1) M S) g) none
    ∙ during-none (mark_at B H (old.moment + 1) M S) in
    record {
      size = last.size;
      first = last.first;
      by = by-append H e new.moment (by-more H old.moment new.moment (omega (arith, same)) last.by)
          (omega (arith, same, from)) (omega (arith, to));
      survives = record {
        mark = subst IsMark (sym m) last.survives.mark;
        size = last.survives.size ∙ sym stays.disk.blocks;
        explained = λ b c has. subst (λ (q : Mark). AllExplained q new.may) (sym m)
            (subst (λ (may : ℕ → List Cell). AllExplained (mark_at B H (old.moment + 1) M S) may)
            (sym stays.cells.may) last.survives.explained) b c has;
      };
      images = record {
        begun = (let b = last.images.begun in omega (arith, b, same));
        each = λ n X low high left. law-later B H (e ∷ []) n X
            ((omega (arith, high, same, from)), (λ f. absurd (bad f)), tt)
            (last.images.each n X low (omega (arith, high, same))
            (stays.past.no_more n X (omega (arith, high, same)) left));
      };
    }
  where
    bad : is_flushed e.reply ≡ true → ⊥
    bad f = cc (f, plain)
