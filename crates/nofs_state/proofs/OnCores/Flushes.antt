-- A flush: where it succeeds, what was written is the new mark.
use Rattle.std.proofs.Common.{◌≡◌, ℕ, ◌+◌, ◌<◌, Bool, true, false, List, [], ◌∷◌, ◌++◌, None, IsTrue}
use Rattle.std.proofs.Common.{Result, Ok, Err, refl, sym, ap, ◌∙◌, subst, arith, le_refl}
use Rattle.nofs_disk.specs.Disk.{DiskState, IsDisk, Flushes}
use Rattle.nofs_disk.specs.Adds.{Adds-flushes}
use Rattle.nofs_disk.specs.declared.Failed.{Failed}
use Rattle.nofs_model.specs.Geometry.{Image, super_at, is_mountable}
use Rattle.nofs_model.specs.Files.{Files}
use Rattle.nofs_model.specs.Owners.{owner}
use Rattle.nofs_crashlaw.specs.Images.Proper.{Proper}
use Rattle.nofs_crashlaw.specs.Images.Moments.{during}
use Rattle.nofs_history.specs.Search.{first_of}
use Rattle.nofs_history.specs.Machine.{gives, given_by, files_by, nothing}
use Rattle.nofs_history.specs.World.{World}
use Rattle.nofs_history.specs.Claims.{no_claims, next_stamp, Unclaimed, NoInode}
use Rattle.nofs_history.specs.Refusals.{rows}
use Rattle.nofs_history.specs.Since.{agreed_files, files_along}
use Rattle.nofs_history.specs.Marks.{mark_at}
use Rattle.nofs_history.specs.Steady.{SteadyRest}
use Rattle.nofs_history.specs.declared.machine.history.Entry1.{Entry1}
use Rattle.nofs_history.specs.declared.machine.steps.Step.TheVariants as step
use Rattle.nofs_history.specs.declared.machine.replies.Reply.TheVariants as reply
use Rattle.nofs_history.specs.declared.machine.replies.Refusal.TheVariants as refusal
use Rattle.nofs_crashlaw.proofs.OnLives.Images.{along-append}
use Rattle.nofs_crashlaw.specs.Maps.Fresh.{CellNumbers, Numbered}
use Rattle.nofs_crashlaw.specs.Histories.Stage.{flush_entry}
use Rattle.nofs_crashlaw.proofs.OnHistories.FlushStage.{law-flush-stage, files-stay}
use Rattle.nofs_state.specs.Books.Maps.{IsSafe}
use Rattle.nofs_state.specs.Cores.Invariant.{IsOpen, IsRun, Past}
use Rattle.nofs_state.specs.Cores.Steps.{FlushesAlone, Goes, entry}
use Rattle.nofs_disk.specs.Order.{OnlyFlushes, has_failed}
use Rattle.nofs_state.specs.declared.books.maps.Books.{Books}
use Rattle.nofs_state.proofs.OnBooks.Safe.{safe-over}
use Rattle.nofs_state.proofs.OnCores.SafeSteps.{safely-done, safely-goes, accepted-given}
use Rattle.nofs_state.proofs.OnWrites.NoWrites.{sounds-flush}
use Rattle.nofs_state.proofs.OnCores.Faults.{goes-fault, stopped_books, stopped_world}
use Rattle.nofs_state.proofs.OnCores.NoWrites.{run-more}
use Rattle.nofs_state.proofs.OnCores.Readings.{flush-reads}
use Rattle.nofs_state.proofs.OnCores.Replies.{by-answer, open-files}
use Rattle.nofs_state.proofs.OnCores.Runs.{rest-idle, faults-append}

flush-files : (F : Files) (caller i g : ℕ) (old new : DiskState) → files_by F (flush_entry caller old new i g) ≡ F
unfolding gives
flush-files F caller i g old new = files-stay F

flush-given : (F : Files) (caller i g : ℕ) (old new : DiskState) → given_by F (flush_entry caller old new i g) ≡ nothing
unfolding gives
flush-given F caller i g old new = refl

safe-flushed : (old new : DiskState) (k : Books) {result : Result (Unit {0}) Failed} (stop : Bool)
    → Flushes old new result → IsSafe old k
    → IsSafe new (record k { stopped = stop })
safe-flushed old new k stop f = safe-over old new k stop k.history f.disk (ap super_at f.now)

-- one call of flush
only-flushes : (old new : DiskState) (r : Result (Unit {0}) Failed) → Flushes old new r
    → OnlyFlushes old new (has_failed r)
only-flushes old new (Ok u) f =
    record { moment = f.moment; now = f.now; done = λ e. f.settled; kept = λ e. absurd (cc e); dirty = f.dirty }
only-flushes old new (Err x) f =
    record { moment = f.moment; now = f.now; done = λ e. absurd (cc e); kept = λ e. f.err; dirty = f.dirty }

module _ (old new : DiskState) (k : Books) (i g : ℕ) (is_old : IsDisk old) (is_new : IsDisk new) (safe : IsSafe old k)
    (going : k.stopped ≡ false)
    (comes : IsTrue old.tells → (H : List Entry1) (p : Past) → IsOpen old k H p
    → (V : World) → first_of (rows p.world V (step.Flush i g)) ≡ None) where
  open-flushed : (caller : ℕ) (H : List Entry1) (p : Past) → IsTrue old.tells → IsOpen old k H p
      → Flushes old new (Ok tt)
      → IsOpen new k (H ++ flush_entry caller old new i g ∷ [])
      (record p { mark = old.now; stamps = next_stamp p.world })
  open-flushed caller H p tells o f =
      let e : Entry1 = flush_entry caller old new i g in
      let F : Files = files_along (agreed_files p.base) H in
      let r : IsRun new k (H ++ e ∷ []) (record p { world = p.world }) =
      run-more old new k k H p e p.world o.run refl refl refl (let m = f.moment in omega (arith, m))
      (λ t. let m = f.moment in omega (arith, m))
      (by-answer p.world old.now e (o.says.stopped ∙ going) (open-files old k H p o) o.homes o.homes_past
      (flush-reads i g) (comes tells H p o p.world)
      refl refl) in
      record {
        run = record { run = r.run; ends = r.ends };
        going = going;
        says = o.says;
        at = ap super_at f.now ∙ o.at;
        mountable = subst (λ (X : Image). is_mountable X ≡ true) (sym f.now) o.mountable;
        files = o.files ∙ sym (along-append (agreed_files p.base) H (e ∷ []) ∙ flush-files F caller i g old new);
        homes = λ b low. o.homes b low ∙ ap (λ (X : Image). owner X b) (sym f.now);
        homes_past = o.homes_past;
        stage = law-flush-stage old new p.base H p.mark p.stamps k.history.start
            (next_stamp p.world) caller i g (record {
              stage = o.stage;
              before = is_old;
              after = is_new;
              tells = tells;
              no_fault = o.no_fault;
              rest = o.rest;
              flushes = f;
              mountable = o.mountable;
            });
        older = le_refl (next_stamp p.world);
        rest = subst (λ (X : Image). SteadyRest p.base (H ++ e ∷ []) X) (sym f.now)
            (rest-idle p.base H e old.now (flush-given F caller i g old new) o.rest);
        no_fault = faults-append H e o.no_fault refl;
      }

  pub goes-flushed : Flushes old new (Ok tt) → Goes old k new k (step.Flush i g) no_claims reply.Flushed
  goes-flushed f =
      let later : old.moment < new.moment = (let m = f.moment in omega (arith, m)) in
      safely-goes old new k k (step.Flush i g) no_claims reply.Flushed
      (safely-done old new k k reply.Flushed going refl refl going
      (safe-flushed old new k k.stopped f safe) refl f.disk f.past later f.no_fault)
      (accepted-given k.at (step.Flush i g) reply.Flushed refl)
      (FlushesAlone refl refl (only-flushes old new (Ok tt) f))
      (λ tells H p o from q. sounds-flush from old new is_new f q)
      (λ tells caller H p o. record {
        none = λ t. absurd (cc);
        done = λ n t. (
          record p { mark = old.now; stamps = next_stamp p.world },
          record {
            base = refl;
            first = refl;
            next = by-answer p.world old.now (flush_entry caller old new i g) (o.says.stopped ∙ going)
                (open-files old k H p o) o.homes o.homes_past (flush-reads i g) (comes tells H p o p.world) refl refl;
          },
          open-flushed caller H p tells o f,
        );
        fault = λ t. absurd (cc);
      })
      (λ tells caller H p o. absurd (let t = o.stopped in cc (t, going)))

  pub goes-unflushed : (x : Failed) → Flushes old new (Err x)
      → Goes old k new (stopped_books k) (step.Flush i g) no_claims (reply.Refused refusal.WriteFault)
  goes-unflushed x f = goes-fault old new k (stopped_books k)
      (step.Flush i g) no_claims is_old going refl refl refl f.disk f.past f.cause (let m =
      f.moment in omega (arith, m)) (FlushesAlone refl refl (only-flushes old new (Err x) f)) safe
      (safe-flushed old new k true f safe)
      (λ tells H p o. Adds-flushes (λ b cell. CellNumbers (Numbered p.world no_claims) old.now b cell) old new is_new f)
      (λ tells caller H p o. (
        Adds-flushes (Proper (during (mark_at p.base H (old.moment + 1) p.mark p.stamps)
            (given_by (files_along (agreed_files p.base) H)
            (entry caller old new (step.Flush i g) no_claims (reply.Refused refusal.WriteFault)))) old.now)
            old new is_new f,
        comes tells H p o (stopped_world p.world),
        refl,
        record {
          inode = NoInode refl refl;
          cell = Unclaimed refl;
          leaf = Unclaimed refl;
          top = Unclaimed refl;
          apart = tt;
        },
      ))
