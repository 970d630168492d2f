-- What stands goes on where cells and moment stay: over reads, and over `ready`.
use Rattle.std.proofs.Common.{◌≡◌, ℕ, ◌+◌, ◌<◌, ◌⊎◌, inl, inr, Bool, true, List, IsTrue, refl, sym, ap, ◌∙◌, subst}
use Rattle.std.proofs.Common.{arith, Contains}
use Rattle.nofs_disk.specs.Disk.{DiskState, KeepsCells, KeepsPast}
use Rattle.nofs_disk.specs.Moments.{AtEach-stays}
use Rattle.nofs_disk.specs.Chains.{KeepsCells-trans}
use Rattle.nofs_disk.specs.declared.tag.Cell.{Cell}
use Rattle.nofs_model.specs.Geometry.{Image, super_at, is_mountable}
use Rattle.nofs_model.specs.Owners.{owner}
use Rattle.nofs_model.specs.Sound.{CellBelow}
use Rattle.nofs_crashlaw.specs.Images.Moments.{AllExplained}
use Rattle.nofs_history.specs.History.{FilesMatch}
use Rattle.nofs_history.specs.Since.{agreed_files, files_along}
use Rattle.nofs_history.specs.Marks.{mark_at}
use Rattle.nofs_history.specs.Allowed.{IsAllowed}
use Rattle.nofs_history.specs.Steady.{SteadyRest}
use Rattle.nofs_history.specs.declared.machine.history.Claims.{Claims}
use Rattle.nofs_history.specs.declared.machine.history.Entry1.{Entry1}
use Rattle.nofs_history.specs.declared.machine.steps.Step.{Step}
use Rattle.nofs_history.specs.declared.machine.replies.Reply.{Reply}
use Rattle.nofs_history.specs.declared.machine.replies.Reply.TheVariants as reply
use Rattle.nofs_history.specs.declared.machine.replies.Refusal.TheVariants as refusal
use Rattle.nofs_crashlaw.specs.Histories.Stage.{AllBy, Lasts, Stage, CellsSurvive}
use Rattle.nofs_state.specs.Books.Maps.{IsSafe}
use Rattle.nofs_state.specs.Cores.Invariant.{IsOpen, IsRun, IsStopped, Past}
use Rattle.nofs_state.specs.Cores.Steps.{FlushesAlone, Follows, Goes, LeavesDisk, MeetsOpen, NoOrder, StaysStopped}
use Rattle.nofs_state.specs.Cores.Steps.{WritesAlone, entry, goes-safely}
use Rattle.nofs_disk.specs.Order.{IsTried, OneOf, image_after}
use Rattle.nofs_state.specs.declared.books.maps.Books.{Books}
pub use Rattle.nofs_state.proofs.OnBooks.Safe.{Keeping, reads-keep, ready-keeps, safe-keeps}
use Rattle.nofs_state.proofs.OnCores.SafeSteps.{safely-after, safely-goes, safely-memory, after-read}
use Rattle.nofs_state.proofs.OnWrites.NoWrites.{sounds-keep}

-- the same without the faults: so it also leads back
pub record Level (old new : DiskState) : Type 0 where
  pub blocks : new.blocks ≡ old.blocks
  pub past : KeepsPast old new
  pub cells : KeepsCells old new

pub level : (old new : DiskState) → Keeping old new → Level old new
level old new keep = record { blocks = keep.disk.blocks; past = keep.past; cells = keep.cells }

pub level-back : (old new : DiskState) → Keeping old new → Level new old
level-back old new keep =
    let m = keep.cells.moment in
    record {
      blocks = sym keep.disk.blocks;
      past = record {
        was = λ n low. sym (keep.past.was n (omega (arith, m, low)));
        no_more = λ n X low left. keep.past.no_less n X (omega (arith, m, low)) left;
        no_less = λ n X low left. keep.past.no_more n X (omega (arith, m, low)) left;
      };
      cells = record { now = sym keep.cells.now; may = sym keep.cells.may; moment = sym keep.cells.moment };
    }

module _ (old new : DiskState) (keep : Level old new) where
  now : new.now ≡ old.now
  now = keep.cells.now

  moment : new.moment ≡ old.moment
  moment = keep.cells.moment

  lasts-keep : (B : Image) (H : List Entry1) (M : Image) (S start : ℕ) → Lasts B H M S start old
      → Lasts B H M S start new
  lasts-keep B H M S start last = record {
    size = last.size;
    first = last.first;
    by = subst (λ (n : ℕ). AllBy H n) (sym moment) last.by;
    survives = subst (λ (n : ℕ). CellsSurvive new (mark_at B H (n + 1) M S)) (sym moment) (record {
      mark = last.survives.mark;
      size = last.survives.size ∙ sym keep.blocks;
      explained = subst (λ (may : ℕ → List Cell). AllExplained (mark_at B H (old.moment + 1) M S) may)
          (sym keep.cells.may) last.survives.explained;
    });
    images = AtEach-stays (λ m X. IsAllowed B H m X) start old new keep.past moment last.images;
  }

  stage-keeps : (B : Image) (H : List Entry1) (M : Image) (S start s : ℕ) → Stage B H M S start s old
      → Stage B H M S start s new
  stage-keeps B H M S start s st = record {
    lasts = lasts-keep B H M S start st.lasts;
    ready = record {
      files = subst (λ (X : Image). FilesMatch (files_along (agreed_files B) H) X) (sym now) st.ready.files;
      survives = (lasts-keep B H M S start st.lasts).survives;
      positive = st.ready.positive;
      fresh = λ b c lt has. subst (λ (X : Image). CellBelow s X b c) (sym now)
          (st.ready.fresh b c (subst (λ (X : Image). b < (super_at X).blocks) now lt)
          (subst (λ (may : ℕ → List Cell). Contains (may b) c) keep.cells.may has));
    };
  }

  run-keeps : (k : Books) (H : List Entry1) (p : Past) → IsRun old k H p → IsRun new k H p
  run-keeps k H p r = record { run = r.run; ends = r.ends ∙ sym moment }

  pub open-level : (k : Books) (H : List Entry1) (p : Past) → IsOpen old k H p → IsOpen new k H p
  open-level k H p o = record {
    run = run-keeps k H p o.run;
    going = o.going;
    says = o.says;
    at = ap super_at now ∙ o.at;
    mountable = subst (λ (X : Image). is_mountable X ≡ true) (sym now) o.mountable;
    files = o.files;
    homes = λ b low. o.homes b low ∙ ap (λ (X : Image). owner X b) (sym now);
    homes_past = o.homes_past;
    stage = stage-keeps p.base H p.mark p.stamps k.history.start _ o.stage;
    older = o.older;
    rest = subst (λ (X : Image). SteadyRest p.base H X) (sym now) o.rest;
    no_fault = o.no_fault;
  }

  pub stopped-level : (k : Books) (H : List Entry1) (p : Past) → IsStopped old k H p → IsStopped new k H p
  stopped-level k H p o = record {
    run = run-keeps k H p o.run;
    stopped = o.stopped;
    world_stopped = o.world_stopped;
    lasts = lasts-keep p.base H p.mark p.stamps k.history.start o.lasts;
  }

module _ (old new : DiskState) (keep : Keeping old new) where
  moment' : new.moment ≡ old.moment
  moment' = keep.cells.moment

  pub open-keeps : (k : Books) (H : List Entry1) (p : Past) → IsOpen old k H p → IsOpen new k H p
  open-keeps = open-level old new (level old new keep)

  pub open-back : (k : Books) (H : List Entry1) (p : Past) → IsOpen new k H p → IsOpen old k H p
  open-back = open-level new old (level-back old new keep)

  pub stopped-keeps : (k : Books) (H : List Entry1) (p : Past) → IsStopped old k H p → IsStopped new k H p
  stopped-keeps = stopped-level old new (level old new keep)

  -- what was written alone after the reads was written alone
  pub order-after : (end : DiskState) (k : Books) (s : Step) (c : Claims) (r : Reply)
      → NoOrder new end (MeetsOpen new k) s c r
      → NoOrder old end (MeetsOpen old k) s c r
  order-after end k s c r (LeavesDisk quick cells dirty) =
      LeavesDisk quick (KeepsCells-trans old new end keep.cells cells) (dirty ∙ keep.dirty)
  order-after end k s c r (FlushesAlone is quick f) = FlushesAlone is quick (record {
    moment = f.moment ∙ ap (λ (n : ℕ). n + 2) moment';
    now = f.now ∙ keep.cells.now;
    done = f.done;
    kept = λ e. f.kept e ∙ keep.cells.may;
    dirty = λ b has. subst (λ (l : List ℕ). Contains l b) keep.dirty (f.dirty b has);
  })
  order-after end k s c r (WritesAlone made w) = WritesAlone made (record {
    row = w.row;
    count = w.count;
    calls = w.calls;
    first = w.first;
    whole = w.whole;
    only = record {
      moment = (let e = moment' in let m = w.only.moment in omega (arith, e, m));
      others = λ b apart. w.only.others b apart ∙ (λ j. keep.cells.may j b);
      kept = λ b c has. w.only.kept b c
          (subst (λ (may : ℕ → List Cell). Contains (may b) c) (sym keep.cells.may) has);
      cells = λ b c has. subst (λ (may : ℕ → List Cell). Contains (may b) c ⊎ OneOf w.calls b c) keep.cells.may
          (w.only.cells b c has);
      done = λ e. w.only.done e ∙ ap (λ (X : Image). image_after w.calls X) keep.cells.now;
      tried = λ e. subst (λ (X : Image). IsTried w.calls X end.now) keep.cells.now (w.only.tried e);
      dirty = λ b apart has.
          w.only.dirty b apart (subst (λ (l : List ℕ). Contains l b) (sym keep.dirty) has);
      held = λ holds. w.only.held (subst (λ (b : Bool). IsTrue b) (sym keep.disk.holds_back) holds);
    };
    told = λ F m. w.told F (
      m.0,
      m.1,
      subst (λ (b : Bool). IsTrue b) (sym keep.disk.tells) m.2,
      open-keeps k m.0 m.1 m.3,
      m.4,
    );
  })

  -- a step from there on is one from here on
  pub goes-after : new.faults ≡ old.faults → (end : DiskState) (k l : Books) (s : Step) (c : Claims) (r : Reply)
      → Goes new k end l s c r
      → Goes old k end l s c r
  goes-after same end k l s c r g =
      safely-goes old end k l s c r (safely-after old new keep same end k l r (goes-safely g)) g.early
      (order-after end k s c r g.order)
      (λ tells H p o from q. g.sound (told tells) H p (either H p o) from
      (sounds-keep from old new keep.disk keep.past keep.cells q))
      (λ tells caller H p o. subst (λ (n : ℕ). Follows old end l H p
      (record { caller = caller; from = n; to = end.moment; step = s; reply = r; claims = c })) moment'
      (again H p caller (g.from_open (told tells) caller H p (open-keeps k H p o))))
      (λ tells caller H p o. subst (λ (n : ℕ). StaysStopped old end l H p
      (record { caller = caller; from = n; to = end.moment; step = s; reply = r; claims = c })) moment'
      (still H p caller (g.from_stopped (told tells) caller H p (stopped-keeps k H p o))))
    where
      told : IsTrue old.tells → IsTrue new.tells
      told t = subst (λ (b : Bool). IsTrue b) (sym keep.disk.tells) t

      either : (H : List Entry1) (p : Past) → IsOpen old k H p ⊎ IsStopped old k H p
          → IsOpen new k H p ⊎ IsStopped new k H p
      either H p (inl o) = inl (open-keeps k H p o)
      either H p (inr o) = inr (stopped-keeps k H p o)

      again : (H : List Entry1) (p : Past) (caller : ℕ) → Follows new end l H p (entry caller new end s c r)
          → Follows old end l H p (entry caller new end s c r)
      again H p caller f = record { none = f.none; done = f.done; fault = f.fault }

      still : (H : List Entry1) (p : Past) (caller : ℕ) → StaysStopped new end l H p (entry caller new end s c r)
          → StaysStopped old end l H p (entry caller new end s c r)
      still H p caller f = record { none = f.none; done = f.done; next = f.next }

  -- no memory
  pub goes-memory : new.faults ≡ old.faults → (k : Books) (s : Step) (c : Claims) → IsSafe old k
      → Goes old k new k s c (reply.Refused refusal.OutOfMemory)
  goes-memory same k s c safe =
      safely-goes old new k k s c (reply.Refused refusal.OutOfMemory) (safely-memory old new keep same k safe)
      (after-read k.at s refusal.OutOfMemory refl)
      (LeavesDisk refl keep.cells keep.dirty)
      (λ tells H p o from q. sounds-keep from old new keep.disk keep.past keep.cells q)
      (λ tells caller H p o.
      record { none = λ t. open-keeps k H p o; done = λ n f. absurd (cc); fault = λ t. absurd (cc) })
      (λ tells caller H p o.
      record { none = λ t. stopped-keeps k H p o; done = λ n. absurd (cc); next = λ n. absurd (cc) })
