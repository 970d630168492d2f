-- What a step was given, over any disk: it refuses BadName, BadRange and TooLarge by nothing else.
use Rattle.std.proofs.Common.{◌≡◌, ◌↔◌, ℕ, Bool, true, false, not, List, Option, Some, None, IfSome, refl, sym, ap}
use Rattle.std.proofs.Common.{subst}
use Rattle.std.specs.Prelude.{Result, Err}
use Rattle.nofs_dirent.specs.Names.{is_name}
use Rattle.nofs_history.specs.Refusals.{reads_nothing, row}
use Rattle.nofs_history.specs.declared.machine.replies.Found.{Found}
use Rattle.nofs_history.specs.declared.machine.replies.Refusal.{Refusal}
use Rattle.nofs_history.specs.declared.machine.replies.Refusal.TheVariants as refusal
use Rattle.nofs_history.specs.declared.machine.replies.Reply.{Reply}
use Rattle.nofs_history.specs.declared.machine.replies.Reply.TheVariants as reply
use Rattle.nofs_history.specs.declared.machine.steps.Step.{Step}
use Rattle.nofs_history.specs.declared.machine.steps.Step.TheVariants as step
use Rattle.nofs_scan.specs.Steps.Sees.{is_beyond, seen_answer}
use Rattle.nofs_state.specs.Cores.FirstRows.{RefusesEarly}
use Rattle.nofs_state.specs.declared.books.maps.Books.{Books}
use Rattle.nofs_shared.specs.declared.index.Index.{Index}
use Rattle.nofs_shared.specs.Index.Truths.{IsTold}
use Rattle.nofs_shared.specs.Mount.Causes.{StepGiven}

-- whether it is refused by what it was given
by-given : Reply → Bool
by-given (reply.Refused why) = reads_nothing why
by-given _ = false

-- a step that found no memory
pub given-none : (k : Books) (s : Step) → StepGiven k s (reply.Refused refusal.OutOfMemory)
given-none k s = record {
  only = λ why is yes. absurd (let e = ap by-given is in cc (e, yes));
  early = λ going mem. absurd (cc mem);
}

-- a Look of a name that the index has
pub given-told : (k : Books) (index : Index) (s : Step) (it : Found) → IsTold index s it
    → StepGiven k s (reply.Found it)
given-told k index s it told = record {
  only = λ why is yes. absurd (cc is);
  early = subst (λ (x : Step). RefusesEarly k x (reply.Found it)) (sym told.is)
      (λ going mem. named told.name told.good);
}
  where
    named : (name : List ℕ) → is_name name ≡ true
        → IfSome (row (not (is_name name)) refusal.BadName) (λ why. reply.Found it ≡ reply.Refused why)
    named name good = subst (λ (b : Bool). IfSome (row (not b) refusal.BadName)
        (λ why. reply.Found it ≡ reply.Refused why)) (sym good) tt

-- a step that examines an element
ranged : (test : Bool) (result : Result Bool Refusal) → (test ≡ true → result ≡ Err refusal.BadRange)
    → IfSome (row test refusal.BadRange) (λ why. seen_answer result ≡ reply.Refused why)
ranged true result beyond = ap seen_answer (beyond refl)
ranged false result beyond = tt

pub early-inode : (k : Books) (i : ℕ) (result : Result Bool Refusal)
    → (result ≡ Err refusal.BadRange) ↔ ((k.stopped ≡ false) × (is_beyond (step.SeeInode i) k.at ≡ true))
    → RefusesEarly k (step.SeeInode i) (seen_answer result)
early-inode k i result range going mem = ranged (is_beyond (step.SeeInode i) k.at) result (λ e. range.1 (going, e))

pub early-block : (k : Books) (b : ℕ) (result : Result Bool Refusal)
    → (result ≡ Err refusal.BadRange) ↔ ((k.stopped ≡ false) × (is_beyond (step.SeeBlock b) k.at ≡ true))
    → RefusesEarly k (step.SeeBlock b) (seen_answer result)
early-block k b result range going mem = ranged (is_beyond (step.SeeBlock b) k.at) result (λ e. range.1 (going, e))
