-- How a step ends that is refused before anything is read, or not.
use Rattle.std.proofs.Common.{◌≡◌, true, Option, Some, None, sym, subst}
use Rattle.std.specs.Prelude.{IfSome}
use Rattle.nofs_history.specs.Steps.{is_out_of_memory}
use Rattle.nofs_history.specs.declared.machine.steps.Step.{Step}
use Rattle.nofs_history.specs.declared.machine.replies.Refusal.{Refusal}
use Rattle.nofs_history.specs.declared.machine.replies.Reply.{Reply}
use Rattle.nofs_history.specs.declared.machine.replies.Reply.TheVariants as reply
use Rattle.nofs_state.specs.Cores.Early.{refused_early}
use Rattle.nofs_state.specs.Cores.FirstRows.{RefusesEarly}
use Rattle.nofs_state.specs.declared.books.maps.Books.{Books}

module _ (k : Books) (s : Step) (r : Reply) where
  -- none of the first rows comes
  pub early-none : refused_early k.at s ≡ None → RefusesEarly k s r
  early-none e going memory =
      subst (λ (o : Option Refusal). IfSome o (λ why. r ≡ reply.Refused why)) (sym e) tt

  -- one does
  pub early-comes : (why : Refusal) → refused_early k.at s ≡ Some why → r ≡ reply.Refused why → RefusesEarly k s r
  early-comes why e is going memory =
      subst (λ (o : Option Refusal). IfSome o (λ w. r ≡ reply.Refused w)) (sym e) is

  -- the mount is stopped, or no memory was found
  pub early-stopped : k.stopped ≡ true → RefusesEarly k s r
  early-stopped stopped going memory = absurd (cc (stopped, going))

  pub early-memory : is_out_of_memory r ≡ true → RefusesEarly k s r
  early-memory found going memory = absurd (cc (found, memory))
