-- A look at inode 3 of the formatted disk.
use Rattle.std.proofs.Common.{◌≡◌, ℕ, ◌⊎◌, inl, inr, Bool, true, false, not, ◌||◌, eqb, [], ◌∷◌, is_some, refl, sym, ap}
use Rattle.std.proofs.Common.{subst, arith}
use Rattle.nofs_model.specs.Files.{is_special, Files}
use Rattle.nofs_history.specs.Machine.{gives}
use Rattle.nofs_history.specs.History.{FilesMatch}
use Rattle.nofs_history.specs.World.{World, uses_inode, uses_block}
use Rattle.nofs_history.specs.Claims.{NoInode, Unclaimed}
use Rattle.nofs_history.specs.Next.{Next, Done, Run}
use Rattle.nofs_history.specs.Good.{MatchesSuper}
use Rattle.nofs_crashlaw.specs.Maps.Homes.{HomesMatch}
use Rattle.nofs_crashlaw.proofs.OnMaps.Homes.{law-good}
use Rattle.nofs_crashlaw.proofs.OnHistories.FlushStage.{files-stay}
use Rattle.nofs_racelaw.specs.Laws.{Shows}
use Rattle.nofs_cases.specs.Disks.Images.{first_image}
use Rattle.nofs_cases.specs.Disks.Worlds.{first_files}
use Rattle.nofs_cases.proofs.OnSteps.Files.{first-match}
use Rattle.nofs_cases.proofs.OnSteps.Maps.{first-homes, first-numbers}
use Rattle.nofs_cases.specs.Numbers.Verdicts.{mounted, see_entry, seen, UnchangedCase, EmptyRunCase, StaleCase}

pub or-left : (a b : Bool) → a ≡ true → (a || b) ≡ true
or-left a b e = rw e refl

pub or-right : (a b : Bool) → b ≡ true → (a || b) ≡ true
or-right true b e = refl
or-right false b e = e

pub or-split : (a b : Bool) → (a || b) ≡ true → (a ≡ true) ⊎ (b ≡ true)
or-split true b e = inl refl
or-split false b e = inr e

-- the files stay
seen-files : seen.files ≡ first_files
unfolding gives
seen-files = files-stay first_files

same-uses : (i : ℕ) → uses_inode seen i ≡ uses_inode mounted i
same-uses i = ap (λ (F : Files). is_special i || is_some (F i)) seen-files

next : Next mounted see_entry seen
next = Done refl refl refl (record {
  inode = NoInode refl refl;
  cell = Unclaimed refl;
  leaf = Unclaimed refl;
  top = Unclaimed refl;
  apart = tt;
})
    refl refl refl (refl, refl, refl, refl, refl) (record {
      inodes_stay = λ i k. or-left (is_special i) (eqb i 3) k;
      blocks_stay = λ p k. k;
      inodes_change = λ i ne. absurd (ne (same-uses i));
      blocks_change = λ p ne. absurd (ne refl);
      inode_seen = λ t i s. or-right (is_special i) (eqb i 3) s;
      block_seen = λ t p s. cc s;
      inodes_why = λ i k. elim (or-split (is_special i) (eqb i 3) k) [ inl a ↦ inl a | inr b ↦ inr (inr (inr b)) ];
      blocks_why = λ p k. inl k;
    })

run : Run 0 mounted (see_entry ∷ []) seen
run = (seen, refl, omega arith, (λ t. cc t), next, refl)

pub unchanged-case : UnchangedCase
unchanged-case = (run, refl, refl)

pub empty-run-case : EmptyRunCase
empty-run-case = refl

pub mounted-numbers : MatchesSuper mounted first_image
mounted-numbers = let n = first-numbers in
    record { version = n.version; blocks = n.blocks; inodes = n.inodes; mount = n.mount }

seen-numbers : MatchesSuper seen first_image
seen-numbers = let n = first-numbers in
    record { version = n.version; blocks = n.blocks; inodes = n.inodes; mount = n.mount }

shows : (W : World) → MatchesSuper W first_image → FilesMatch W.files first_image → HomesMatch W first_image
    → Shows W first_image
shows W numbers match homes = record {
  verified_inodes = W.known_inodes;
  free_inodes = λ i. not (uses_inode W i);
  verified_blocks = W.known_blocks;
  free_blocks = λ p. not (uses_block W p);
  good = law-good W first_image numbers match homes;
}

pub stale-case : StaleCase
stale-case = (
  run,
  refl,
  shows mounted mounted-numbers first-match first-homes,
  shows seen seen-numbers (subst (λ (F : Files). FilesMatch F first_image) (sym seen-files) first-match) first-homes,
)
