-- What a salvage tells: its refusals, its text, and what the run of its walk leaves.
use Rattle.std.proofs.Common.{◌≡◌, ◌≢◌, ◌⊎◌, inl, inr, ℕ, ◌<◌, ◌≤◌, Bool, true, false, ◌&&◌, ◌||◌, not, List, [], ◌∷◌}
use Rattle.std.proofs.Common.{length, get_or}
use Rattle.std.proofs.Common.{map, cond, if◌then◌else◌, Option, Some, None, Result, Ok, Err, refl, sym, ap, ◌∙◌, subst}
use Rattle.std.proofs.Common.{arith}
use Rattle.std.specs.Prelude.{All, IfOk, IfSome, filter, slice_set}
use Rattle.std.specs.Result.{result_ok}
use Rattle.std.proofs.Math.Logic.{∥∥₁_elim, ∥∥₁_prop}
use Rattle.std.proofs.lemmas.List.Elements.{All-nil}
use Rattle.nofs_disk.specs.Disk.{DiskState}
use Rattle.nofs_super.specs.Format.{super_cell}
use Rattle.nofs_super.specs.Raise.{raised}
use Rattle.nofs_super.specs.declared.superblock.SuperBlock.{SuperBlock}
use Rattle.nofs_model.specs.Geometry.{Image, super_at}
use Rattle.nofs_model.specs.Files.{FileState}
use Rattle.nofs_io.specs.Calls.{SinkState}
use Rattle.nofs_io.specs.Texts.{AppendsAll}
use Rattle.nofs_history.specs.History.{SameFile}
use Rattle.nofs_history.specs.Since.{agreed_files}
use Rattle.nofs_history.specs.HistoryState.{HistoryState}
use Rattle.nofs_history.specs.Machine.{is_write_fault}
use Rattle.nofs_history.specs.Faults.{is_fault, has_fault}
use Rattle.nofs_history.specs.Next.{Run}
use Rattle.nofs_history.specs.Search.{first_of}
use Rattle.nofs_history.specs.Steps.{Made}
use Rattle.nofs_history.specs.World.{World, world_of}
use Rattle.nofs_history.specs.declared.machine.history.Entry1.{Entry1}
use Rattle.nofs_history.specs.declared.machine.steps.Step.{Step}
use Rattle.nofs_history.specs.declared.machine.replies.Reply.{Reply}
use Rattle.nofs_history.specs.declared.machine.replies.Reply.TheVariants as reply
use Rattle.nofs_history.specs.declared.machine.replies.Refusal.{Refusal}
use Rattle.nofs_history.specs.declared.machine.replies.Refusal.TheVariants as refusal
use Rattle.nofs_history.specs.Callers.{done_of, is_by, steps_by}
use Rattle.nofs_client.specs.declared.task.lines.Line.TheVariants as line
use Rattle.nofs_script.specs.Text.{text_of}
use Rattle.nofs_shared.specs.Mount.Forms.{Forms}
use Rattle.nofs_tool.specs.Runs.Says.{Prints}
use Rattle.nofs_tool.specs.Session.Whole.{Finished, found_world}
use Rattle.nofs_tool.specs.Begin.Words.{picks_in}
use Rattle.nofs_salvage.specs.Walk.Answers.{AreAnswered}
use Rattle.nofs_salvage.specs.Report.Filter.{begins_with}
use Rattle.nofs_salvage.specs.Walk.Steps.{IsReadingStep, first_refusal, is_get, is_too_large, refusal_of}
use Rattle.nofs_salvage.specs.Walk.Refusals.{HasRoots, LacksRoot, MayRefuse, is_there}
use Rattle.nofs_salvage.specs.Report.Losses.{report_of}
use Rattle.nofs_salvage.specs.declared.report.report.Loss.{Loss}
use Rattle.nofs_salvage.specs.declared.report.fault.SalvageFault.{SalvageFault}
use Rattle.nofs_salvage.specs.declared.report.fault.SalvageFault.TheVariants as fault
use Rattle.nofs_salvage.proofs.OnWalk.Roots.{matched-roots}
use Rattle.nofs_tool.specs.Visits.Salvage.{SaysWalk, AreReads, IsSalvaged, IsWalk, IsWalkTold, has_both}
use Rattle.nofs_tool.specs.Visits.Salvage.{losses_text, salvage_text, walk_text}
use Rattle.nofs_tool.specs.Visits.Visit.{IsVisitFollowed, IsVisitRun}
use Rattle.nofs_tool.proofs.OnRuns.Said.{told-text}
use Rattle.nofs_tool.proofs.OnSession.Known.{no-fault}
use Rattle.nofs_tool.proofs.OnVisits.Visit.{visit-closed, visit-none, visit-run-maps, visit-steps}
use Rattle.nofs_tool.proofs.OnSession.Serve.{not-flushed}
use Rattle.nofs_tool.proofs.OnSession.Whole.{not-write, or-none}
use Rattle.nofs_tool.proofs.OnVisits.Reads.{visit-quiet, visit-answered}

-- The refusals of a walk

-- some entry has the reply
abbrev pub HasReply : List Entry1 → Reply → Type 0
HasReply [] r = ⊥
HasReply (e ∷ es) r = (e.reply ≡ r) ⊎ HasReply es r

first-two : (o p : Option Refusal) (why : Refusal) → first_of (o ∷ p ∷ []) ≡ Some why → (o ≡ Some why) ⊎ (p ≡ Some why)
first-two None None why h = absurd (cc h)
first-two None (Some w) why h = inr h
first-two (Some w) p why h = inl h

refused-by : (s : Step) (r : Reply) (why : Refusal) → refusal_of (s, r) ≡ Some why → r ≡ reply.Refused why
refused-by s (reply.Refused w) why h = go (is_get s && is_too_large w) h
  where
    go : (b : Bool) → (if b then None else Some w) ≡ Some why → reply.Refused w ≡ reply.Refused why
    go true e = absurd (cc e)
    go false e = cc e
refused-by s _ why h = absurd (cc h)

-- the first refusal of a caller's steps is the reply of an entry
first-reply : (c : ℕ) (es : List Entry1) (why : Refusal) → first_refusal (steps_by c es) ≡ Some why
    → HasReply es (reply.Refused why)
first-reply c [] why h = absurd (cc h)
first-reply c (e ∷ es) why h = go (first-reply c es why) (is_by c e) h
  where
    go : (first_refusal (steps_by c es) ≡ Some why → HasReply es (reply.Refused why)) → (b : Bool)
        → first_refusal (map done_of (cond b (e ∷ filter (is_by c) es) (filter (is_by c) es))) ≡ Some why
        → HasReply (e ∷ es) (reply.Refused why)
    go more true f = elim (first-two (refusal_of (done_of e)) (first_refusal (steps_by c es)) why f) [
      | inl here ↦ inl (refused-by e.step e.reply why here)
      | inr later ↦ inr (more later)
    ]
    go more false f = inr (more f)

-- no read failed where no entry has a fault
no-read-fault : (es : List Entry1) → has_fault es ≡ false → HasReply es (reply.Refused refusal.ReadFault) → ⊥
no-read-fault [] ok has = has
no-read-fault (e ∷ es) ok (inl is) = let none = (no-fault (is_fault e.reply) (has_fault es) ok).0 in
    let x = ap is_fault is in cc (none, x)
no-read-fault (e ∷ es) ok (inr later) = no-read-fault es (no-fault (is_fault e.reply) (has_fault es) ok).1 later

-- nor was the mount stopped
none-stopped : (es : List Entry1) (moment end : ℕ) (stopped last : Bool) → Forms moment stopped es end last
    → stopped ≡ false → has_fault es ≡ false
    → HasReply es (reply.Refused refusal.Stopped) → ⊥
none-stopped [] moment end stopped last f going ok has = has
none-stopped (e ∷ es) moment end stopped last f going ok (inl is) = let s = f.0.stopped_only is in cc (s, going)
none-stopped (e ∷ es) moment end stopped last f going ok (inr later) =
    let none = no-fault (is_fault e.reply) (has_fault es) ok in
    let still = or-none stopped (is_write_fault e.reply) (not-write e.reply none.0) ∙ going in
    none-stopped es e.to end (stopped || is_write_fault e.reply) last f.1 still none.1 later

-- A base has its two first files as they should be

same-file : (o : Option FileState) → SameFile o o
same-file None = tt
same-file (Some f) =
    record { generation = refl; kind = refl; size = refl; links = refl; values = λ k h. refl; nodes = λ p k h. refl }

base-roots : (B : Image) (first : ℕ) → HasRoots (world_of B first).files
unfolding world_of
base-roots B first = matched-roots (agreed_files B) B (λ i. same-file (agreed_files B i))

-- The text of a walk

module _ (picks : List ℕ → Bool) (W : World) (roots : HasRoots W.files) (H : List Entry1)
    (a : AreAnswered W [] (steps_by 1 H))
    (no_read : HasReply H (reply.Refused refusal.ReadFault) → ⊥)
    (no_stop : HasReply H (reply.Refused refusal.Stopped) → ⊥) where
  lacks-text : LacksRoot W.files → text_of (line.Refused refusal.Stale) ≡ salvage_text W picks
  lacks-text lacking = go (has_both W) (none lacking)
    where
      none : LacksRoot W.files → has_both W ≡ false
      none (inl e) = λ j. e j && is_there W.files 2 2
      none (inr e) = (λ j. is_there W.files 1 1 && e j) ∙ last (is_there W.files 1 1)
        where
          last : (b : Bool) → (b && false) ≡ false
          last true = refl
          last false = refl

      go : (b : Bool) → b ≡ false
          → text_of (line.Refused refusal.Stale) ≡ if b then losses_text (report_of W picks)
          else text_of (line.Refused refusal.Stale)
      go true e = absurd (cc e)
      go false e = refl

  refused-text : (why : Refusal) → MayRefuse W.files why → HasReply H (reply.Refused why)
      → text_of (line.Refused why) ≡ salvage_text W picks
  refused-text refusal.ReadFault may has = absurd (no_read has)
  refused-text refusal.Stopped may has = absurd (no_stop has)
  refused-text refusal.Stale may has = lacks-text may
  refused-text _ may has = absurd may

  walk-tells : (told : Result (List Loss) SalvageFault) → IsWalk picks told [] (steps_by 1 H)
      → told ≢ Err fault.OutOfMemory
      → walk_text told ≡ salvage_text W picks
  walk-tells (Ok report) w some =
      let both = w.agreed W a in
      let is : has_both W ≡ true = λ j. both.0 j && both.1 j in
      ap losses_text (w.report W a)
      ∙ (λ j. if sym is j then losses_text (report_of W picks) else text_of (line.Refused refusal.Stale))
  walk-tells (Err (fault.Refused why)) w some =
      refused-text why (w.refused W roots a) (first-reply 1 H why (ap first_refusal w.reads.more ∙ w.reads.refused))
  walk-tells (Err fault.OutOfMemory) w some = absurd (some refl)

-- What the run of a walk leaves

reads-of : (picks : List ℕ → Bool) (told : Result (List Loss) SalvageFault) (made : List Made)
    → IsWalk picks told [] made → AreReads made
reads-of picks told made w = subst AreReads (sym w.reads.more) w.reads.read

module _ (picks : List ℕ → Bool) (told : Result (List Loss) SalvageFault) (inodes blocks : ℕ) (out : Bool)
    (H : List Entry1)
    (run : IsVisitRun (IsWalk picks told []) inodes blocks out H) where
  -- the visitor only read
  run-reads : IsVisitRun AreReads inodes blocks out H
  run-reads = visit-run-maps (IsWalk picks told []) AreReads inodes blocks out H (reads-of picks told) run

  -- the walk was made
  run-walk : out ≡ false → IsWalk picks told [] (steps_by 1 H)
  run-walk whole = visit-steps (IsWalk picks told []) inodes blocks out H run

-- nobody walked
pub none-walked : (at : SuperBlock) (H : List Entry1) (text : Option (List ℕ))
    → H ≡ [] → text ≡ None → IsVisitFollowed AreReads at text H
none-walked at H text none said = record {
  short = true;
  early = λ e. said;
  follows = visit-closed AreReads at.inodes at.blocks true false [] [] H (reply.Refused refusal.OutOfMemory) refl
      (visit-none AreReads at.inodes at.blocks true [] [] refl refl (All-nil (λ (m : Made). IsReadingStep m.0)))
      (inl refl)
      (not-flushed [] H none) refl;
}

-- a walk that was told
pub walk-done : (picks : List ℕ → Bool) (told : Result (List Loss) SalvageFault) (inodes blocks : ℕ) (out : Bool)
    (found last : DiskState)
    (first : ℕ) (all : List Entry1) (ran : HistoryState) (text : List ℕ)
    → first ≡ 0 → ∥ Finished found last first ran ∥₁ → out ≡ false → ran.entries ≡ all
    → IsVisitRun (IsWalk picks told []) inodes blocks out all → text ≡ walk_text told → told ≢ Err fault.OutOfMemory
    → IsWalkTold picks found ran text
walk-done picks told inodes blocks out found last first all ran text zero ends whole same run_all is some =
    let run : IsVisitRun (IsWalk picks told []) inodes blocks out ran.entries =
    subst (λ (h : List Entry1). IsVisitRun (IsWalk picks told []) inodes blocks out h) (sym same) run_all in
    let walk = run-walk picks told inodes blocks out ran.entries run whole in
    let quiet = visit-quiet inodes blocks out ran.entries (run-reads picks told inodes blocks out ran.entries run) in
    record {
      result = told;
      ended = some;
      walk = walk;
      tells = is;
      whole = ∥∥₁_elim ends ∥∥₁_prop (λ e. ∣ (λ q ok.
          let c = e.ends.contents q in
          let W = found_world found in
          let begins : world_of c.base first ≡ W = λ j. world_of (c.base_is j) (zero j) in
          let r : Run ran.start W ran.entries c.world =
          subst (λ (U : World). Run ran.start U ran.entries c.world) begins c.run in
          is ∙ walk-tells picks W
          (base-roots (slice_set found.now 0 (super_cell (raised (super_at found.now)))) 0) ran.entries
          (visit-answered ran.entries ran.start W c.world r quiet) (no-read-fault ran.entries ok)
          (none-stopped ran.entries ran.start last.moment false e.ends.stopped e.ends.forms refl ok) told walk some)
          ∣₁);
    }

-- the text of a walk, where there is one
pub walk-text : {E : Type 0} (P : List ℕ → Type 0) (told : Result (List Loss) SalvageFault) (made : Result (List ℕ) E)
    (text : Option (List ℕ))
    → text ≡ result_ok made → IfOk made (λ t. (t ≡ walk_text told) × (told ≢ Err fault.OutOfMemory))
    → ((t : List ℕ) → t ≡ walk_text told → told ≢ Err fault.OutOfMemory → P t) → IfSome text P
walk-text P told (Ok t) text is said tells =
    subst (λ (o : Option (List ℕ)). IfSome o P) (sym is) (tells t said.0 said.1)
walk-text P told (Err e) text is said tells = subst (λ (o : Option (List ℕ)). IfSome o P) (sym is) tt

-- a salvage that was told
pub salvage-done : (picks : List ℕ → Bool) (found : DiskState) (text : Option (List ℕ)) (ran : HistoryState)
    (h : Option HistoryState) (old new : SinkState)
    → h ≡ Some ran → has_fault ran.entries ≡ false → text ≢ None → IfSome text (AppendsAll old new)
    → IfSome text (IsWalkTold picks found ran)
    → IsSalvaged picks found h old new
salvage-done picks found None ran h old new some ok is a told = absurd (is refl)
salvage-done picks found (Some t) ran h old new some ok is a told =
    subst (λ (o : Option HistoryState). IsSalvaged picks found o old new) (sym some) (ok, (t, told, a))

-- its text was told, in part where the run did not end well
pub salvage-said : (picks : List ℕ → Bool) (found : DiskState) (text : Option (List ℕ)) (ran : HistoryState)
    (h : Option HistoryState) (status : ℕ) (old new : SinkState)
    → h ≡ Some ran → (text ≡ None → status ≡ 7) → IfSome text (Prints old new)
    → IfSome text (IsWalkTold picks found ran)
    → (status ≡ 3) ⊎ (status ≡ 5) → SaysWalk picks found h old new
salvage-said picks found text ran h status old new some unsaid says told =
    told-text old new (IsWalkTold picks found ran)
    (λ x. (t : List ℕ) × IsWalkTold picks found x t × Prints old new t) text ran h status some unsaid says told
    (λ t has said. (t, has, said))

-- Which names a salvage is about, by its words

module _ {W : Type 0} (f : W → List ℕ) where
  pub picks-prefix : (ws : List W) (p d : W) → 2 ≤ length ws → length ws < 3 → p ≡ get_or ws 1 d
      → picks_in (map f ws) ≡ begins_with (f p)
  picks-prefix [] p d low high is = absurd (omega (arith, low))
  picks-prefix (a ∷ []) p d low high is = absurd (omega (arith, low))
  picks-prefix (a ∷ b ∷ []) p d low high is = λ j. begins_with (f (sym is j))
  picks-prefix (a ∷ b ∷ c ∷ ws) p d low high is = absurd (omega (arith, high))

  pub picks-all : (ws : List W) → length ws ≢ 2 → picks_in (map f ws) ≡ λ name. true
  picks-all [] apart = refl
  picks-all (a ∷ []) apart = refl
  picks-all (a ∷ b ∷ []) apart = absurd (apart refl)
  picks-all (a ∷ b ∷ c ∷ ws) apart = refl
