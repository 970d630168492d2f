-- The steps of a move, from its last stage back to its first.
use Rattle.std.proofs.Common.{◌≡◌, ℕ, zero, suc, ◌⊎◌, inl, inr, true, false, List, [], ◌∷◌, Some, refl, sym, ap, ◌∙◌}
use Rattle.std.proofs.Common.{subst}
use Rattle.std.specs.Prelude.{slice_get}
use Rattle.nofs_history.specs.Machine.{is_refused}
use Rattle.nofs_history.specs.Steps.{Made}
use Rattle.nofs_history.specs.declared.machine.steps.Step.{Step}
use Rattle.nofs_history.specs.declared.machine.steps.Step.TheVariants as step
use Rattle.nofs_history.specs.declared.machine.replies.Reply.{Reply}
use Rattle.nofs_history.specs.declared.machine.replies.Reply.TheVariants as reply
use Rattle.nofs_history.specs.declared.machine.replies.Refusal.{Refusal}
use Rattle.nofs_client.specs.declared.task.commands.Command.TheVariants as command
use Rattle.nofs_client.specs.declared.task.commands.Path.{Path}
use Rattle.nofs_client.specs.declared.task.next.Next.TheVariants.{Do}
use Rattle.nofs_client.specs.declared.task.lines.Line.TheVariants as line
use Rattle.nofs_client.specs.declared.task.places.Handle.{Handle}
use Rattle.nofs_client.specs.declared.task.places.Location.{Location}
use Rattle.nofs_client.specs.declared.progress.Progress.{Progress}
use Rattle.nofs_client.specs.declared.task.state.Stage.TheVariants as stage
use Rattle.nofs_client.specs.declared.task.state.Task.{Task}
use Rattle.nofs_client.specs.declared.task.state.Task.TheVariants as task
use Rattle.nofs_client.specs.Task.Places.{last_name}
use Rattle.nofs_client.specs.Task.Steps.{task_asks}
use Rattle.nofs_client.specs.Task.Answers.{task_after}
use Rattle.nofs_client.specs.Progress.{fresh_progress, progress_after}
use Rattle.nofs_client.specs.Driver.{Asked}
use Rattle.nofs_move.specs.Linked.{is_idle}
use Rattle.nofs_move.proofs.Driver.{looks-idle, Again, Stops, Answered, leads, Says, ended, unsaid, none-in}
use Rattle.nofs_move.proofs.Stages.{Told, AllTold, AnsweredLinked, idle-unlinked, told-flush, told-link, same-head}
use Rattle.nofs_move.proofs.Stages.{Dropping, no-drop, more-dropping}
use Rattle.nofs_move.proofs.Stages.{Flushing, no-flush, more-flushing, flushed-dropping, Linking, more-linking}
use Rattle.nofs_move.proofs.Stages.{linked-flushing, Moving, more-moving}
use Rattle.nofs_move.proofs.Stages.{flushed-linking}

-- the steps after the first
pub after-told : (x : Made) (ms : List Made) → AllTold (x ∷ ms) → AllTold ms
after-told x ms told k m h = told (suc k) m h

pub first-told : (x : Made) (ms : List Made) → AllTold (x ∷ ms) → Told x.0 x.1
first-told x ms told = told 0 x refl

module _ (from to : Path) where
  -- what is known at the end: some step was answered Linked, or the move says so
  abbrev pub Goes : Progress → List Made → Type 0
  Goes p ms = AnsweredLinked ms ⊎ Says from to p ms

  -- a step that changed nothing was not the one
  pub passes : (x : Made) (ms : List Made) (p : Progress) → AllTold (x ∷ ms) → is_idle x ≡ true → Goes p (x ∷ ms)
      → Goes (progress_after (command.Move from to) p x.1) ms
  passes x ms p told idle (inr says) = inr says
  passes x ms p told idle (inl (zero, s, h)) = absurd (idle-unlinked x.0 x.1 (first-told x ms told) idle
      (ap (λ (m : Made). m.1) (same-head x (s, reply.Linked) ms h)))
  passes x ms p told idle (inl (suc k, s, h)) = inl (k, s, h)

  -- nor was one with another reply
  pub passes-other : (x : Made) (ms : List Made) (p : Progress) → (x.1 ≡ reply.Linked → ⊥) → Goes p (x ∷ ms)
      → Goes (progress_after (command.Move from to) p x.1) ms
  passes-other x ms p other (inr says) = inr says
  passes-other x ms p other (inl (zero, s, h)) =
      absurd (other (ap (λ (m : Made). m.1) (same-head x (s, reply.Linked) ms h)))
  passes-other x ms p other (inl (suc k, s, h)) = inl (k, s, h)

  -- a move that was refused has not linked after that
  pub refused-ends : (p : Progress) (why : Refusal) → p ≡ fresh_progress (task.Ended (line.Refused why))
      → (ms : List Made)
      → Asked (command.Move from to) p ms → Goes p ms → ⊥
  refused-ends p why e ms asked (inl (k, s, h)) =
      none-in ms k (s, reply.Linked) (ended from to p (line.Refused why) e ms asked).0 h
  refused-ends p why e ms asked (inr says) = let z = (ended from to p (line.Refused why) e ms asked).1 says in cc z

  unsaid-refused : (p : Progress) (why : Refusal) → p ≡ fresh_progress (task.Ended (line.Refused why))
      → (ms : List Made) → Asked (command.Move from to) p ms
      → Says from to p ms → ⊥
  unsaid-refused p why e ms asked says = let z = (ended from to p (line.Refused why) e ms asked).1 says in cc z

  pub not-linked : (r : Reply) (why : Refusal) → r ≡ reply.Refused why → r ≡ reply.Linked → ⊥
  not-linked r why e h = let z : reply.Refused why ≡ reply.Linked = sym e ∙ h in cc z

  -- A task of a move that links in the end asks for a step until it is answered
  through : (T : Task) (s : Step) (R : Progress → List Made → Type 0) → task_asks (command.Move from to) T ≡ Do s
      → ((why : Refusal) → task_after (command.Move from to) T (reply.Refused why) ≡ task.Ended (line.Refused why))
      → ((x : Made) (ms : List Made) (p : Progress)
      → is_idle x ≡ true → R (progress_after (command.Move from to) p x.1) ms → R p (x ∷ ms))
      → ((x : Made) (ms : List Made) (p : Progress) → x.0 ≡ s → is_refused x.1 ≡ false
      → (progress_after (command.Move from to) p x.1).task ≡ task_after (command.Move from to) T x.1 → AllTold (x ∷ ms)
      → Asked (command.Move from to) (progress_after (command.Move from to) p x.1) ms → Goes p (x ∷ ms) → R p (x ∷ ms))
      → (ms : List Made) (p : Progress) → p.task ≡ T → AllTold ms → Asked (command.Move from to) p ms
      → Goes p ms → R p ms
  through T s R asks ends again answered [] p t told asked (inl (k, d, h)) =
      absurd (none-in [] k (d, reply.Linked) refl h)
  through T s R asks ends again answered [] p t told asked (inr says) =
      absurd (unsaid from to p s line.Moved (ap (task_asks (command.Move from to)) t ∙ asks) says)
  through T s R asks ends again answered (x ∷ ms) p t told asked goes =
      elim (leads from to p s x (ap (task_asks (command.Move from to)) t ∙ asks)
      (λ why. ap (λ t. task_after (command.Move from to) t (reply.Refused why)) t ∙ ends why) asked.0) [
        | Again idle same ↦ again x ms p idle
            (through T s R asks ends again answered ms (progress_after (command.Move from to) p x.1) (same ∙ t)
            (after-told x ms told) asked.1 (passes x ms p told idle goes))
        | Stops by why r e ↦ absurd (refused-ends (progress_after (command.Move from to) p x.1) why e ms asked.1
            (passes-other x ms p (not-linked x.1 why r) goes))
        | Answered is ok e ↦ answered x ms p is ok
            (ap (λ (q : Progress). q.task) e ∙ ap (λ t. task_after (command.Move from to) t x.1) t) told asked.1 goes
      ]

  module _ (place : Location) (into : Handle) where
    abbrev flush-step : Step
    flush-step = step.Flush place.found.inode place.found.generation

    abbrev link-it : Step
    link-it = step.Link into.inode into.generation (last_name to) place.found.inode place.found.generation

    abbrev drop-step : Step
    drop-step = step.Drop place.directory.inode place.directory.generation (last_name from)

    -- the steps end with Drop
    dropped : (x : Made) (ms : List Made) (S : Type 0) → ms ≡ [] → x.0 ≡ drop-step → Dropping S drop-step (x ∷ ms)
    dropped x ms S none is = record { drop = 0; ends = inr (x.1, ap (λ s. Some (s, x.1)) is); idle = others }
      where
        others : (k : ℕ) (m : Made) → slice_get (x ∷ ms) k ≡ Some m → (k ≡ 0 → ⊥) → is_idle m ≡ true
        others zero m h nd = absurd (nd refl)
        others (suc k) m h nd = absurd (none-in ms k m none h)

    -- they end without it
    undropped : (x : Made) (ms : List Made) (S : Type 0) → ms ≡ [] → is_idle x ≡ true → (S → ⊥)
        → Dropping S drop-step (x ∷ ms)
    undropped x ms S none idle not_said = more-dropping S drop-step x ms idle
        (subst (λ l. Dropping S drop-step l) (sym none) (no-drop S drop-step not_said))

    dropping : (ms : List Made) (p : Progress) → p.task ≡ task.Linking place into stage.Drop
        → Asked (command.Move from to) p ms
        → Dropping (Says from to p ms) drop-step ms
    dropping [] p t asked = no-drop (Says from to p []) drop-step
        (λ says. unsaid from to p drop-step line.Moved (ap (task_asks (command.Move from to)) t) says)
    dropping (x ∷ ms) p t asked =
        elim (leads from to p drop-step x (ap (task_asks (command.Move from to)) t)
        (λ why. ap (λ t. task_after (command.Move from to) t (reply.Refused why)) t) asked.0) [
          | Again idle same ↦ more-dropping (Says from to p (x ∷ ms)) drop-step x ms idle
              (dropping ms (progress_after (command.Move from to) p x.1) (same ∙ t) asked.1)
          | Stops by why r e ↦
              let end = ended from to (progress_after (command.Move from to) p x.1) (line.Refused why) e ms asked.1 in
              elim by [
                | inl idle ↦ undropped x ms (Says from to p (x ∷ ms)) end.0 idle (λ says. let z = end.1 says in cc z)
                | inr is ↦ dropped x ms
                    (Says from to p (x ∷ ms)) end.0 is
              ]
          | Answered is ok e ↦
              let end = ended from to (progress_after (command.Move from to) p x.1) line.Moved
              (e ∙ ap fresh_progress (ap (λ t. task_after (command.Move from to) t x.1) t ∙ moved x.1 ok)) ms asked.1 in
              dropped x ms (Says from to p (x ∷ ms)) end.0 is
        ]
      where
        moved : (r : Reply) → is_refused r ≡ false
            → task_after (command.Move from to) (task.Linking place into stage.Drop) r ≡ task.Ended line.Moved
        moved (reply.Refused why) ok = cc ok
        moved _ ok = refl

    flushing : (ms : List Made) (p : Progress) → p.task ≡ task.Linking place into stage.FlushAgain → AllTold ms
        → Asked (command.Move from to) p ms
        → Flushing (Says from to p ms) drop-step flush-step ms
    flushing [] p t told asked = no-flush (Says from to p []) drop-step flush-step
        (λ says. unsaid from to p flush-step line.Moved (ap (task_asks (command.Move from to)) t) says)
    flushing (x ∷ ms) p t told asked =
        elim (leads from to p flush-step x (ap (task_asks (command.Move from to)) t)
        (λ why. ap (λ t. task_after (command.Move from to) t (reply.Refused why)) t) asked.0) [
          | Again idle same ↦ more-flushing (Says from to p (x ∷ ms)) drop-step flush-step x ms idle
              (flushing ms (progress_after (command.Move from to) p x.1) (same ∙ t) (after-told x ms told) asked.1)
          | Stops by why r e ↦
              let end = ended from to (progress_after (command.Move from to) p x.1) (line.Refused why) e ms asked.1 in
              more-flushing (Says from to p (x ∷ ms)) drop-step flush-step x ms
              (elim by [ inl idle ↦ idle | inr is ↦ looks-idle x flush-step is refl ])
              (subst (λ l. Flushing (Says from to p (x ∷ ms)) drop-step flush-step l) (sym end.0)
              (no-flush (Says from to p (x ∷ ms)) drop-step flush-step (λ says. let z = end.1 says in cc z)))
          | Answered is ok e ↦
              let answer = told-flush place.found.inode place.found.generation x.1
              (subst (λ s. Told s x.1) is (first-told x ms told)) ok in
              flushed-dropping (Says from to p (x ∷ ms)) drop-step flush-step x ms (looks-idle x flush-step is refl)
              (λ j. (is j, answer j))
              (dropping ms (progress_after (command.Move from to) p x.1)
              (ap (λ (q : Progress). q.task) e ∙ ap (λ t. task_after (command.Move from to) t x.1) t
              ∙ ap (λ r. task_after (command.Move from to) (task.Linking place into stage.FlushAgain) r) answer)
              asked.1)
        ]

    linking : (ms : List Made) (p : Progress) → p.task ≡ task.Linking place into stage.Link → AllTold ms
        → Asked (command.Move from to) p ms → Goes p ms
        → Linking (Says from to p ms) drop-step flush-step link-it ms
    linking ms p = through (task.Linking place into stage.Link) link-it
        (λ p ms. Linking (Says from to p ms) drop-step flush-step link-it ms) refl (λ why. refl)
        (λ x ms p idle rest. more-linking (Says from to p (x ∷ ms)) drop-step flush-step link-it x ms idle rest)
        (λ x ms p is ok next told asked goes.
        let answer = told-link into.inode into.generation (last_name to) place.found.inode place.found.generation x.1
        (subst (λ s. Told s x.1) is (first-told x ms told)) ok in
        linked-flushing (Says from to p (x ∷ ms)) drop-step flush-step link-it x ms (λ j. (is j, answer j))
        (flushing ms (progress_after (command.Move from to) p x.1)
        (next ∙ ap (λ r. task_after (command.Move from to) (task.Linking place into stage.Link) r) answer)
        (after-told x ms told) asked)) ms p

    pub moving : (ms : List Made) (p : Progress) → p.task ≡ task.Linking place into stage.Flush → AllTold ms
        → Asked (command.Move from to) p ms → Goes p ms
        → Moving (Says from to p ms) drop-step flush-step link-it ms
    moving ms p = through (task.Linking place into stage.Flush) flush-step
        (λ p ms. Moving (Says from to p ms) drop-step flush-step link-it ms) refl
        (λ why. refl)
        (λ x ms p idle rest. more-moving (Says from to p (x ∷ ms)) drop-step flush-step link-it x ms idle rest)
        (λ x ms p is ok next told asked goes.
        let answer = told-flush place.found.inode place.found.generation x.1
        (subst (λ s. Told s x.1) is (first-told x ms told)) ok in
        let idle = looks-idle x flush-step is refl in
        flushed-linking (Says from to p (x ∷ ms)) drop-step flush-step link-it x ms idle (λ j. (is j, answer j))
        (linking ms (progress_after (command.Move from to) p x.1)
        (next ∙ ap (λ r. task_after (command.Move from to) (task.Linking place into stage.Flush) r) answer)
        (after-told x ms told) asked
        (passes x ms p told idle goes))) ms p
