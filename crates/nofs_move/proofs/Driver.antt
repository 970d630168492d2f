-- What one step of a move leads to.
use Rattle.std.proofs.Common.{◌≡◌, ℕ, ◌⊎◌, inl, inr, Bool, true, false, ◌&&◌, ◌||◌, not, cond, List, [], ◌∷◌, map, fold}
use Rattle.std.proofs.Common.{Option, Some, None, refl, sym, ap, ◌∙◌}
use Rattle.std.specs.Prelude.{slice_get}
use Rattle.nofs_history.specs.Machine.{is_refused, is_write_fault}
use Rattle.nofs_history.specs.Steps.{Made}
use Rattle.nofs_history.specs.declared.machine.steps.Step.{Step}
use Rattle.nofs_history.specs.declared.machine.replies.Reply.{Reply}
use Rattle.nofs_history.specs.declared.machine.replies.Reply.TheVariants as reply
use Rattle.nofs_history.specs.declared.machine.replies.Refusal.{Refusal}
use Rattle.nofs_history.specs.declared.machine.replies.Refusal.TheVariants as refusal
use Rattle.nofs_client.specs.declared.task.commands.Command.{Command}
use Rattle.nofs_client.specs.declared.task.commands.Command.TheVariants as command
use Rattle.nofs_client.specs.declared.task.commands.Path.{Path}
use Rattle.nofs_client.specs.declared.task.next.Next.{Next}
use Rattle.nofs_client.specs.declared.task.next.Next.TheVariants.{Do, Say}
use Rattle.nofs_client.specs.declared.task.lines.Line.{Line}
use Rattle.nofs_client.specs.declared.task.lines.Line.TheVariants as line
use Rattle.nofs_client.specs.declared.progress.Progress.{Progress}
use Rattle.nofs_client.specs.declared.progress.See.{See}
use Rattle.nofs_client.specs.declared.progress.See.TheVariants as see
use Rattle.nofs_client.specs.declared.task.state.Task.TheVariants as task
use Rattle.nofs_client.specs.Task.Steps.{task_asks}
use Rattle.nofs_client.specs.Task.Answers.{task_after}
use Rattle.nofs_client.specs.Progress.{fresh_progress, step_before_repeat, asks_beside, asks, goes_on, step_answered}
use Rattle.nofs_client.specs.Progress.{examines_block, examines_inode}
use Rattle.nofs_client.specs.Progress.{after_refused, after_step, after_see, after_beside, progress_after}
use Rattle.nofs_client.specs.Driver.{Asked, made_reply}
use Rattle.nofs_move.specs.Linked.{only_looks, is_idle}

or-true : (b : Bool) → b || true ≡ true
or-true true = refl
or-true false = refl

-- an examination changes nothing
see-idle : (x : See) (s : Step) (r : Reply) → step_before_repeat x ≡ s → is_idle (s, r) ≡ true
see-idle x s r e = ap (λ b. b || (is_refused r && not (is_write_fault r))) (sym (ap only_looks e) ∙ looks x)
  where
    looks : (x : See) → only_looks (step_before_repeat x) ≡ true
    looks (see.Block block) = refl
    looks (see.Inode inode) = refl

pub looks-idle : (m : Made) (s : Step) → m.0 ≡ s → only_looks s ≡ true → is_idle m ≡ true
looks-idle m s e looks = ap (λ b. b || (is_refused m.1 && not (is_write_fault m.1))) (ap only_looks e ∙ looks)

-- What the step m leads to, where the task asks for s: the same task again, the end by a refusal, or what is next
pub data Leads (c : Command) (p next : Progress) (s : Step) (m : Made) : Type 0 where
  Again : is_idle m ≡ true → next.task ≡ p.task → Leads c p next s m
  Stops : (is_idle m ≡ true) ⊎ (m.0 ≡ s) → (why : Refusal) → m.1 ≡ reply.Refused why
      → next ≡ fresh_progress (task.Ended (line.Refused why))
      → Leads c p next s m
  Answered : m.0 ≡ s → is_refused m.1 ≡ false → next ≡ fresh_progress (task_after c p.task m.1) → Leads c p next s m

module _ (from to : Path) where
  refused-leads : (p : Progress) (s x : Step) → x ≡ s → ((why : Refusal)
      → task_after (command.Move from to) p.task (reply.Refused why) ≡ task.Ended (line.Refused why))
      → (why : Refusal)
      → Leads (command.Move from to) p (after_refused (command.Move from to) p why) s (x, reply.Refused why)
  refused-leads p s x e ends (refusal.Full needed free unverified next) = go (goes_on unverified p.full)
    where
      go : (b : Bool) → Leads (command.Move from to) p (cond b (examines_block p unverified next)
          (step_answered (command.Move from to) p (reply.Refused (refusal.Full needed free unverified next)))) s
          (x, reply.Refused (refusal.Full needed free unverified next))
      go true = Again (or-true (only_looks x)) refl
      go false = Stops (inr e) (refusal.Full needed free unverified next) refl
          (ap fresh_progress (ends (refusal.Full needed free unverified next)))
  refused-leads p s x e ends (refusal.InodesFull unverified next) = go (goes_on unverified p.inodes)
    where
      go : (b : Bool) → Leads (command.Move from to) p (cond b (examines_inode p unverified next)
          (step_answered (command.Move from to) p (reply.Refused (refusal.InodesFull unverified next)))) s
          (x, reply.Refused (refusal.InodesFull unverified next))
      go true = Again (or-true (only_looks x)) refl
      go false = Stops (inr e) (refusal.InodesFull unverified next) refl
          (ap fresh_progress (ends (refusal.InodesFull unverified next)))
  refused-leads p s x e ends why = Stops (inr e) why refl (ap fresh_progress (ends why))

  step-leads : (p : Progress) (s x : Step) (r : Reply) → x ≡ s
      → ((why : Refusal) → task_after (command.Move from to) p.task (reply.Refused why) ≡ task.Ended (line.Refused why))
      → Leads (command.Move from to) p (after_step (command.Move from to) p r) s (x, r)
  step-leads p s x (reply.Refused why) e ends = refused-leads p s x e ends why
  step-leads p s x r e ends = Answered e refl refl

  see-leads : (p : Progress) (s x : Step) (r : Reply) → ((q : Reply) → is_idle (x, q) ≡ true)
      → Leads (command.Move from to) p (after_see (command.Move from to) p r) s (x, r)
  see-leads p s x (reply.Refused why) idle = Stops (inl (idle (reply.Refused why))) why refl refl
  see-leads p s x r idle = Again (idle r) refl

  leads-at : (p : Progress) (s : Step) (m : Made) (o : Option See) → task_asks (command.Move from to) p.task ≡ Do s
      → ((why : Refusal) → task_after (command.Move from to) p.task (reply.Refused why) ≡ task.Ended (line.Refused why))
      → asks_beside o (task_asks (command.Move from to) p.task) ≡ Do m.0
      → Leads (command.Move from to) p (after_beside o (command.Move from to) p m.1) s m
  leads-at p s m None is ends asked = step-leads p s m.0 m.1 (let z : Do m.0 ≡ Do s = sym asked ∙ is in cc z) ends
  leads-at p s m (Some x) is ends asked = see-leads p s m.0 m.1 (λ q. see-idle x m.0 q (cc asked))

  pub leads : (p : Progress) (s : Step) (m : Made) → task_asks (command.Move from to) p.task ≡ Do s
      → ((why : Refusal) → task_after (command.Move from to) p.task (reply.Refused why) ≡ task.Ended (line.Refused why))
      → asks (command.Move from to) p ≡ Do m.0
      → Leads (command.Move from to) p (progress_after (command.Move from to) p m.1) s m
  leads p s m is ends asked = leads-at p s m p.see is ends asked

  -- the move says so at its end
  abbrev pub Says : Progress → List Made → Type 0
  Says p ms = asks (command.Move from to) (fold (progress_after (command.Move from to)) p (map made_reply ms))
      ≡ Say line.Moved

  -- nothing comes after the end
  pub ended : (p : Progress) (l : Line) → p ≡ fresh_progress (task.Ended l)
      → (ms : List Made) → Asked (command.Move from to) p ms
      → (ms ≡ []) × (Says p ms → Say l ≡ Say line.Moved)
  ended p l e [] asked = (refl, λ says. sym (ap (asks (command.Move from to)) e) ∙ says)
  ended p l e (m ∷ ms) asked =
      absurd (let z : Say l ≡ Do m.0 = sym (ap (asks (command.Move from to)) e) ∙ asked.0 in cc z)

  -- a move that asks for a step has not ended
  unsaid-at : (o : Option See) (n : Next) (s : Step) (l : Line) → n ≡ Do s → asks_beside o n ≡ Say l → ⊥
  unsaid-at None n s l e h = let z : Do s ≡ Say l = sym e ∙ h in cc z
  unsaid-at (Some x) n s l e h = cc h

  pub unsaid : (p : Progress) (s : Step) (l : Line) → task_asks (command.Move from to) p.task ≡ Do s
      → asks (command.Move from to) p ≡ Say l → ⊥
  unsaid p s l e h = unsaid-at p.see (task_asks (command.Move from to) p.task) s l e h

-- no step of an empty list
pub none-in : (ms : List Made) (k : ℕ) (m : Made) → ms ≡ [] → slice_get ms k ≡ Some m → ⊥
none-in ms k m e h = let z : None ≡ Some m = ap (λ l. slice_get l k) (sym e) ∙ h in cc z
