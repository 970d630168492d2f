-- A step that leaves the disk and the files: the mount stands as before, with one more entry.
use Rattle.std.proofs.Common.{◌≡◌, ℕ, ◌+◌, ◌*◌, ◌^◌, ◌<◌, ◌≤◌, true, false, List, [], ◌∷◌, ◌++◌, IsTrue, refl, sym, ap}
use Rattle.std.proofs.Common.{◌∙◌, subst, subst₂, arith}
use Rattle.nofs_disk.specs.Disk.{DiskState, IsDisk, StaysButFaults}
use Rattle.nofs_model.specs.Geometry.{Image, super_at, is_mountable}
use Rattle.nofs_model.specs.Files.{Files}
use Rattle.nofs_model.specs.Owners.{owner}
use Rattle.nofs_history.specs.Machine.{given_by, files_by, nothing, is_write_fault}
use Rattle.nofs_history.specs.World.{World, world_of}
use Rattle.nofs_history.specs.Claims.{next_stamp}
use Rattle.nofs_history.specs.Since.{agreed_files, files_along, is_flushed}
use Rattle.nofs_history.specs.Steady.{SteadyRest}
use Rattle.nofs_history.specs.Next.{Keeps, Next, Run, takes_time}
use Rattle.nofs_history.specs.Steps.{is_out_of_memory}
use Rattle.nofs_history.specs.HistoryState.{HistoryState}
use Rattle.nofs_history.specs.declared.machine.history.Entry1.{Entry1}
use Rattle.nofs_history.specs.declared.machine.replies.Reply.{Reply}
use Rattle.nofs_history.specs.declared.machine.replies.Reply.TheVariants as reply
use Rattle.nofs_history.specs.declared.machine.replies.Refusal.TheVariants as refusal
use Rattle.nofs_crashlaw.proofs.OnLives.Images.{along-append}
use Rattle.nofs_crashlaw.specs.Histories.Stage.{Stage, Lasts}
use Rattle.nofs_crashlaw.proofs.OnHistories.Stages.{law-idle-stage}
use Rattle.nofs_state.specs.Books.Maps.{Says}
use Rattle.nofs_state.specs.Cores.Invariant.{IsOpen, IsRun, IsStopped, Past}
use Rattle.nofs_state.specs.Cores.Steps.{Follows}
use Rattle.nofs_state.specs.declared.books.maps.Books.{Books}
use Rattle.nofs_state.proofs.OnCores.Runs.{run-append, ends-append, faults-append, rest-idle, lasts-idle}

-- an entry that gives nothing, and is no flush and no fault of writing
pub record IsIdle (F : Files) (e : Entry1) : Type 0 where
  pub given : given_by F e ≡ nothing
  pub files : files_by F e ≡ F
  pub no_flush : is_flushed e.reply ≡ false
  pub no_fault : is_write_fault e.reply ≡ false

pub takes-none : (r : Reply) → is_flushed r ≡ false → is_write_fault r ≡ false → takes_time r ≡ false
takes-none reply.Flushed f w = f
takes-none (reply.Refused refusal.WriteFault) f w = w
takes-none (reply.Refused _) f w = refl
takes-none _ f w = refl

-- one more entry of a run
pub run-more : (old new : DiskState) (k l : Books) (H : List Entry1) (p : Past) (e : Entry1) (V : World)
    → IsRun old k H p
    → l.history.start ≡ k.history.start → e.from ≡ old.moment → e.to ≡ new.moment → old.moment ≤ new.moment
    → (takes_time e.reply ≡ true → old.moment < new.moment) → Next p.world e V
    → IsRun new l (H ++ e ∷ []) (record p { world = V })
run-more old new k l H p e V r start from to later time next = record {
  run = subst (λ (n : ℕ). Run n (world_of p.base p.first) (H ++ e ∷ []) V) (sym start)
      (run-append H k.history.start (world_of p.base p.first) p.world V e r.run (from ∙ sym r.ends)
      (omega (arith, from, to, later)) (λ t. let q =
      time t in omega (arith, from, to, q)) next);
  ends = ends-append H l.history.start e ∙ to;
}

module _ (old new : DiskState) (k l : Books) (H : List Entry1) (p : Past) (e : Entry1) (stays : StaysButFaults old new)
    (from : e.from ≡ old.moment)
    (to : e.to ≡ new.moment) (history : l.history ≡ k.history) where
  start : l.history.start ≡ k.history.start
  start = ap (λ (h : HistoryState). h.start) history

  run-idle : (V : World) → is_flushed e.reply ≡ false → is_write_fault e.reply ≡ false → IsRun old k H p
      → Next p.world e V
      → IsRun new l (H ++ e ∷ []) (record p { world = V })
  run-idle V plain safe r next =
      let same : new.moment ≡ old.moment = stays.cells.moment in
      let none : takes_time e.reply ≡ false = takes-none e.reply plain safe in
      run-more old new k l H p e V r start from to (omega (arith, same)) (λ t. absurd (cc (t, none))) next

  pub open-idle : (V : World) → IsDisk old → IsTrue old.tells → IsOpen old k H p → IsIdle p.world.files e
      → Next p.world e V → Keeps p.world V → Says l V
      → l.at ≡ k.at → l.stopped ≡ false
      → IsOpen new l (H ++ e ∷ []) (record p { world = V })
  open-idle V is tells o idle next keeps says at going =
      let now : new.now ≡ old.now = stays.cells.now in
      let F : Files = files_along (agreed_files p.base) H in
      let i : IsIdle F e = subst (λ (G : Files). IsIdle G e) o.files idle in
      let stamp : next_stamp V ≡ next_stamp p.world = λ j. keeps.mount j * 2 ^ 40 + keeps.serial j in
      let st : Stage p.base (H ++ e ∷ []) p.mark p.stamps k.history.start (next_stamp p.world) new =
      law-idle-stage old new p.base H e p.mark p.stamps k.history.start (next_stamp p.world)
      (record { stage = o.stage; disk = is; tells = tells; from = from; to = to; no_flush = i.no_flush })
      stays i.files in
      record {
        run = run-idle V i.no_flush i.no_fault o.run next;
        going = going;
        says = says;
        at = ap super_at now ∙ o.at ∙ sym at;
        mountable = subst (λ (X : Image). is_mountable X ≡ true) (sym now) o.mountable;
        files = keeps.files ∙ o.files ∙ sym (along-append (agreed_files p.base) H (e ∷ []) ∙ i.files);
        homes = λ b low. (λ j. keeps.homes j b) ∙ o.homes b (let q = keeps.blocks in omega (arith, low, q))
            ∙ ap (λ (X : Image). owner X b) (sym now);
        homes_past = λ b past. (λ j. keeps.homes j b) ∙ o.homes_past b (let q = keeps.blocks in omega (arith, past, q));
        stage = subst₂ (λ (n s : ℕ). Stage p.base (H ++ e ∷ []) p.mark p.stamps n s new) (sym start) (sym stamp) st;
        older = (let a = o.older in omega (arith, a, stamp));
        rest = subst (λ (X : Image). SteadyRest p.base (H ++ e ∷ []) X) (sym now)
            (rest-idle p.base H e old.now i.given o.rest);
        no_fault = faults-append H e o.no_fault i.no_fault;
      }

  -- so it is what follows in the machine's next world
  pub follows-idle : (V : World) → IsDisk old → IsTrue old.tells → IsOpen old k H p → IsIdle p.world.files e
      → Next p.world e V → Keeps p.world V → Says l V
      → l.at ≡ k.at → l.stopped ≡ false → is_out_of_memory e.reply ≡ false → Follows old new l H p e
  follows-idle V is tells o idle next keeps says at going memory = record {
    none = λ t. absurd (cc (t, memory));
    done = λ n f. (
      record p { world = V },
      record { base = refl; first = refl; next = next },
      open-idle V is tells o idle next keeps says at going,
    );
    fault = λ t. absurd (let f = idle.no_fault in cc (t, f));
  }

  -- the same where a write has failed before
  pub stopped-idle : IsStopped old k H p → is_flushed e.reply ≡ false → is_write_fault e.reply ≡ false
      → given_by (files_along (agreed_files p.base) H) e ≡ nothing → Next p.world e p.world → l.stopped ≡ true
      → IsStopped new l (H ++ e ∷ []) p
  stopped-idle o plain safe given next stopped = record {
    run = run-idle p.world plain safe o.run next;
    stopped = stopped;
    world_stopped = o.world_stopped;
    lasts = subst (λ (n : ℕ). Lasts p.base (H ++ e ∷ []) p.mark p.stamps n new) (sym start)
        (lasts-idle p.base H e p.mark p.stamps k.history.start old new o.lasts stays from to plain given);
  }
