-- The parts of the claim of a Put: their stamps are new, and they have their homes.
use Rattle.std.proofs.Common.{◌≡◌, ◌≢◌, ℕ, ◌≤◌, ◌⊎◌, true, List, None, is_some, refl}
use Rattle.nofs_disk.specs.declared.tag.Pointer.{Pointer}
use Rattle.nofs_model.specs.Files.{Files}
use Rattle.nofs_model.specs.Owners.{home_at}
use Rattle.nofs_history.specs.World.{World}
use Rattle.nofs_history.specs.Claims.{IsClaim, claimed_home, next_stamp}
use Rattle.nofs_history.specs.declared.machine.history.Claims.{Claims}
use Rattle.nofs_history.specs.declared.machine.steps.Step.{Step}
use Rattle.nofs_history.specs.declared.machine.steps.Step.TheVariants as step
use Rattle.nofs_crashlaw.specs.Maps.Moves.{IsClaimed}
use Rattle.nofs_state.proofs.OnBooks.ClaimedBlocks.{claim-was, home-claimed}

-- a claimed block has a new stamp
pub stamp-new : (W : World) (s : Step) (c : Claims) (x : Pointer) → IsClaim W s c → IsClaimed c x
    → next_stamp W ≤ x.stamp
stamp-new W s c x claim h = (claim-was W s c x claim h).1

-- a block is claimed and gets its home, or is none of those that are
pub put-home : (F : Files) (i g k at : ℕ) (bytes : List ℕ) (c : Claims) (n : ℕ)
    → ((x : Pointer) × IsClaimed c x × (n ≡ x.block) × (is_some (claimed_home F (step.Put i g k at bytes) c n) ≡ true))
    ⊎ (((x : Pointer) → IsClaimed c x → n ≢ x.block) × (claimed_home F (step.Put i g k at bytes) c n ≡ None))
put-home F i g k at bytes c n = home-claimed F (step.Put i g k at bytes) c (home_at i k) n refl
