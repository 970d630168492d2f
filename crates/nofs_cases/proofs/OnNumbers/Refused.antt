-- A Get that is refused.
use Rattle.std.proofs.Common.{inl, inr, eqb, refl}
use Rattle.nofs_model.specs.Files.{is_special}
use Rattle.nofs_history.specs.Next.{Keeps, ByRow}
use Rattle.nofs_history.specs.declared.machine.replies.Refusal.TheVariants as refusal
use Rattle.nofs_crashlaw.proofs.OnMaps.Homes.{law-good}
use Rattle.nofs_cases.specs.Disks.Images.{first_image}
use Rattle.nofs_cases.proofs.OnSteps.Files.{first-match}
use Rattle.nofs_cases.proofs.OnSteps.Maps.{first-homes}
use Rattle.nofs_cases.specs.Numbers.Verdicts.{mounted}
use Rattle.nofs_cases.specs.Numbers.Refused.{stale_world, KeptCase}
use Rattle.nofs_cases.proofs.OnNumbers.Verdicts.{or-left, or-split, mounted-numbers}

keeps : Keeps mounted stale_world
keeps = record { version = refl; blocks = refl; inodes = refl; mount = refl; serial = refl; files = refl; homes = refl }

pub kept-case : KeptCase
kept-case = (
  ByRow refusal.Stale refl refl (inl refl) refl keeps refl (record {
    inodes_stay = λ i k. or-left (is_special i) (eqb i 3) k;
    blocks_stay = λ p k. k;
    inodes_change = λ i ne. absurd (ne refl);
    blocks_change = λ p ne. absurd (ne refl);
    inode_seen = λ t i s. cc t;
    block_seen = λ t p s. cc t;
    inodes_why = λ i k. elim (or-split (is_special i) (eqb i 3) k) [ inl a ↦ inl a | inr b ↦ inr (inr (inr b)) ];
    blocks_why = λ p k. inl k;
  }),
  keeps,
  law-good mounted first_image mounted-numbers first-match first-homes,
)
