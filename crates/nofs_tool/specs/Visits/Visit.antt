-- What the entries of a visit say: of FIRST_USER, who works on the calling thread, of the sweeps, and of PROGRAM's last
-- flush.
use Rattle.std.specs.Prelude.{◌≡◌, ℕ, Bool, true, false, List, [], None}
use Rattle.std.specs.declared.option.Option.{Option}
use Rattle.nofs_super.specs.declared.superblock.SuperBlock.{SuperBlock}
use Rattle.nofs_history.specs.declared.machine.callers.TheConstants.{PROGRAM}
use Rattle.nofs_history.specs.Steps.{Made, is_out_of_memory}
use Rattle.nofs_history.specs.declared.machine.history.Entry1.{Entry1}
use Rattle.nofs_history.specs.declared.machine.steps.Step.TheVariants as step
use Rattle.nofs_history.specs.declared.machine.replies.Reply.{Reply}
use Rattle.nofs_history.specs.Callers.{steps_by}
use Rattle.nofs_shared.specs.Passes.Entries.{TellsStep}
use Rattle.nofs_serve.specs.Visit.{VisitMade}
use Rattle.nofs_tool.specs.Session.Serve.{AreSwept}

-- FIRST_USER made the steps of its visit, each element was examined once, and then PROGRAM made all durable. Where
-- memory was wanting, the visit may have ended early, and the flush may not have been made; no sweep ends early, for
-- whose entries the mount took memory. Where it was wanting before the first step nobody was served
pub record IsVisitRun (Visits : List Made → Type 0) (inodes blocks : ℕ) (short : Bool) (H : List Entry1) : Type 0 where
  pub served : List Entry1
  pub flush : Reply
  pub closes : TellsStep PROGRAM (step.Flush 0 0) served H flush
  pub closed : short ≡ false → is_out_of_memory flush ≡ false
  pub made : VisitMade Visits inodes blocks short (λ c. steps_by c served)
  pub swept : AreSwept inodes blocks [] served

-- the entries of a history are those of a visit
abbrev pub FollowsVisit : (List Made → Type 0) → SuperBlock → Bool → List Entry1 → Type 0
FollowsVisit Visits at short H = IsVisitRun Visits at.inodes at.blocks short H

-- what a visit leaves: its history, and whether there is a text of it
pub record IsVisitFollowed (Visits : List Made → Type 0) (at : SuperBlock) (text : Option (List ℕ))
    (H : List Entry1) : Type 0 where
  pub short : Bool
  pub early : short ≡ true → text ≡ None
  pub follows : FollowsVisit Visits at short H
