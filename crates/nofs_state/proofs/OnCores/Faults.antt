-- A write failed: all stays allowed, and the mount is stopped.
use Rattle.std.proofs.Common.{◌≡◌, ℕ, ◌<◌, ◌⊎◌, true, false, List, [], ◌∷◌, ◌++◌, None, IsTrue, inl, inr, refl, sym, ap}
use Rattle.std.proofs.Common.{◌∙◌, subst, arith}
use Rattle.nofs_disk.specs.Disk.{DiskState, IsDisk, IsSameDisk, KeepsPast, Rose}
use Rattle.nofs_history.specs.Search.{first_of}
use Rattle.nofs_history.specs.World.{World}
use Rattle.nofs_history.specs.Claims.{next_stamp, IsClaim}
use Rattle.nofs_history.specs.Refusals.{rows, may_write}
use Rattle.nofs_history.specs.Next.{Next, ByWrite}
use Rattle.nofs_history.specs.declared.machine.history.Claims.{Claims}
use Rattle.nofs_history.specs.declared.machine.history.Entry1.{Entry1}
use Rattle.nofs_history.specs.declared.machine.steps.Step.{Step}
use Rattle.nofs_history.specs.declared.machine.replies.Reply.TheVariants as reply
use Rattle.nofs_history.specs.declared.machine.replies.Refusal.TheVariants as refusal
use Rattle.nofs_crashlaw.specs.Histories.Stage.{AddsProper, Lasts}
use Rattle.nofs_crashlaw.proofs.OnHistories.Stages.{law-lasts}
use Rattle.nofs_state.specs.Books.Maps.{IsSafe}
use Rattle.nofs_state.specs.Cores.Invariant.{IsOpen, IsStopped, Past, Sounds}
use Rattle.nofs_state.specs.Cores.Steps.{Goes, MeetsOpen, NoOrder, entry}
use Rattle.nofs_state.specs.declared.books.maps.Books.{Books}
use Rattle.nofs_state.proofs.OnCores.NoWrites.{run-more}
use Rattle.nofs_state.proofs.OnCores.Replies.{nothing-learned}
use Rattle.nofs_state.proofs.OnCores.SafeSteps.{safely-fault, safely-goes, after-read}
use Rattle.nofs_state.proofs.OnWrites.Numbered.{AddsNumbered, sounds-adds}

-- a world that is stopped
abbrev pub stopped_world : World → World
stopped_world W = record W { stopped = true }

abbrev pub stopped_books : Books → Books
stopped_books k = record k { stopped = true }

-- the machine's next world
fault-next : (W : World) (e : Entry1) → e.reply ≡ reply.Refused refusal.WriteFault
    → W.stopped ≡ false → first_of (rows W (stopped_world W) e.step) ≡ None
    → may_write e.step ≡ true → IsClaim W e.step e.claims → Next W e (stopped_world W)
fault-next W e is going none may claim = ByWrite going none may is claim
    (record { version = refl; blocks = refl; inodes = refl; mount = refl; serial = refl; files = refl; homes = refl })
    refl (nothing-learned W e.step true)

module _ (old new : DiskState) (k l : Books) (at : l.at ≡ k.at) (history : l.history ≡ k.history)
    (stops : l.stopped ≡ true) (H : List Entry1) (p : Past)
    (caller : ℕ) (s : Step) (c : Claims) (is : IsDisk old) (tells : IsTrue old.tells) (o : IsOpen old k H p) where
  abbrev e : Entry1
  e = entry caller old new s c (reply.Refused refusal.WriteFault)

  pub open-fault : AddsProper p.base H e p.mark p.stamps old new
      → old.moment < new.moment → first_of (rows p.world (stopped_world p.world) s) ≡ None
      → may_write s ≡ true → IsClaim p.world s c
      → IsStopped new l (H ++ e ∷ []) (record p { world = stopped_world p.world })
  open-fault adds later none may claim =
      let going : p.world.stopped ≡ false = o.says.stopped ∙ o.going in
      let next : Next p.world e (stopped_world p.world) = fault-next p.world e refl going none may claim in
      record {
        run = run-more old new k l H p e (stopped_world p.world) o.run (ap (λ h. h.start) history) refl refl
            (omega (arith, later)) (λ t. later) next;
        stopped = stops;
        world_stopped = refl;
        lasts = subst (λ (n : ℕ). Lasts p.base (H ++ e ∷ []) p.mark p.stamps n new) (sym (ap (λ h. h.start) history))
            (law-lasts old new p.base H e p.mark p.stamps k.history.start (next_stamp p.world)
            (record { stage = o.stage; disk = is; tells = tells; from = refl; to = refl; no_flush = refl }) adds);
      }

-- the contract of a step whose write failed
pub goes-fault : (old new : DiskState) (k l : Books) (s : Step) (c : Claims) → IsDisk old
    → k.stopped ≡ false → l.at ≡ k.at → l.history ≡ k.history
    → l.stopped ≡ true → IsSameDisk old new → KeepsPast old new → Rose old.faults new.faults → old.moment < new.moment
    → NoOrder old new (MeetsOpen old k) s c (reply.Refused refusal.WriteFault) → IsSafe old k → IsSafe new l
    → (IsTrue old.tells → (H : List Entry1) (p : Past) → IsOpen old k H p → AddsNumbered p.world c old new)
    → (IsTrue old.tells → (caller : ℕ) (H : List Entry1) (p : Past) → IsOpen old k H p
    → AddsProper p.base H (entry caller old new s c (reply.Refused refusal.WriteFault)) p.mark p.stamps old new ×
    (first_of (rows p.world (stopped_world p.world) s) ≡ None) × (may_write s ≡ true) × IsClaim p.world s c)
    → Goes old k new l s c (reply.Refused refusal.WriteFault)
goes-fault old new k l s c is going at history stopped disk past rose later order safe_old safe numbered proper =
    safely-goes old new k l s c (reply.Refused refusal.WriteFault)
    (safely-fault old new k l going at history stopped safe disk past rose later)
    (after-read k.at s refusal.WriteFault refl) order sounds
    (λ tells caller H p o.
    let q = proper tells caller H p o in
    record {
      none = λ t. absurd (cc);
      done = λ n f. absurd (cc);
      fault = λ t. (
        record p { world = stopped_world p.world },
        record {
          base = refl;
          first = refl;
          next = fault-next p.world (entry caller old new s c (reply.Refused refusal.WriteFault)) refl
              (o.says.stopped ∙ o.going) q.1 q.2 q.3;
        },
        open-fault old new k l at history stopped H p caller s c is tells o q.0 later q.1 q.2 q.3,
      );
    })
    (λ tells caller H p o. absurd (let t = o.stopped in cc (t, going)))
  where
    sounds : IsTrue old.tells → (H : List Entry1) (p : Past) → IsOpen old k H p ⊎ IsStopped old k H p
        → (from : ℕ) → Sounds from old → Sounds from new
    sounds tells H p (inl o) from q =
        let a = proper tells 0 H p o in
        sounds-adds old new k H p (entry 0 old new s c (reply.Refused refusal.WriteFault))
        (stopped_world p.world) _ is tells safe_old o
        (fault-next p.world (entry 0 old new s c (reply.Refused refusal.WriteFault)) refl
        (o.says.stopped ∙ o.going) a.1 a.2 a.3) a.0 (numbered tells H p o)
        from q
    sounds tells H p (inr o) from q = absurd (let t = o.stopped in cc (t, going))
