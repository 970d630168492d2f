-- What a step answers that needs no disk to be refused.
use Rattle.std.specs.Prelude.{◌≡◌, false, IfSome}
use Rattle.nofs_history.specs.Steps.{is_out_of_memory}
use Rattle.nofs_history.specs.declared.machine.steps.Step.{Step}
use Rattle.nofs_history.specs.declared.machine.replies.Reply.{Reply}
use Rattle.nofs_history.specs.declared.machine.replies.Reply.TheVariants as reply
use Rattle.nofs_state.specs.Cores.Early.{refused_early}
use Rattle.nofs_state.specs.declared.books.maps.Books.{Books}

-- where no write has failed, and there was memory, the first row that comes is the answer, over any disk
abbrev pub RefusesEarly : Books → Step → Reply → Type 0
RefusesEarly k s r = k.stopped ≡ false → is_out_of_memory r ≡ false
    → IfSome (refused_early k.at s) (λ why. r ≡ reply.Refused why)
