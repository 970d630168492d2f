-- Which first rows of a step on files come: those that need no disk.
use Rattle.std.proofs.Common.{◌≡◌, ℕ, ◌*◌, ◌<◌, ◌≤◌, true, false, leb, ltb, lt-ltb, List, length, Some, None, refl}
use Rattle.std.proofs.Common.{arith}
use Rattle.std.proofs.lemmas.Bool.Decides.{nat_tests}
use Rattle.nofs_super.specs.declared.superblock.SuperBlock.{SuperBlock}
use Rattle.nofs_history.specs.declared.machine.steps.Step.TheVariants as step
use Rattle.nofs_history.specs.declared.machine.replies.Refusal.TheVariants as refusal
use Rattle.nofs_state.specs.Cores.Early.{refused_early}
use Rattle.nofs_files.specs.Reads.{slots_of}
use Rattle.nofs_files.specs.Puts.{is_bad_range}
use Rattle.nofs_files.proofs.OnReads.Rows.{large-early}

large-not : (k : ℕ) (at : SuperBlock) → k < slots_of at → leb (slots_of at) k ≡ false
large-not k at h = lt-is (slots_of at) k h
  where
    lt-is : (a b : ℕ) → b < a → leb a b ≡ false
    lt-is a b h = grind (arith, nat_tests)

pub get-comes : (at : SuperBlock) (i g slot : ℕ) → slots_of at ≤ slot
    → refused_early at (step.Get i g slot) ≡ Some refusal.TooLarge
get-comes at i g slot high = rw (large-early slot at high) refl

pub get-passes : (at : SuperBlock) (i g slot : ℕ) → slot < slots_of at → refused_early at (step.Get i g slot) ≡ None
get-passes at i g slot low = rw (large-not slot at low) refl

module _ (at : SuperBlock) (i g slot place : ℕ) (bytes : List ℕ) where
  pub put-bad : is_bad_range place (length bytes) ≡ true
      → refused_early at (step.Put i g slot place bytes) ≡ Some refusal.BadRange
  put-bad bad = rw bad refl

  pub put-large : is_bad_range place (length bytes) ≡ false → slots_of at ≤ slot
      → refused_early at (step.Put i g slot place bytes) ≡ Some refusal.TooLarge
  put-large good high = rw (good, large-early slot at high) refl

  pub put-passes : is_bad_range place (length bytes) ≡ false → slot < slots_of at
      → refused_early at (step.Put i g slot place bytes) ≡ None
  put-passes good low = rw (good, large-not slot at low) refl

module _ (at : SuperBlock) (i g size : ℕ) where
  pub resize-comes : 1024 * slots_of at < size
      → refused_early at (step.Resize i g size) ≡ Some refusal.TooLarge
  resize-comes high = rw (lt-ltb (1024 * slots_of at) size high) refl

  pub resize-passes : size ≤ 1024 * slots_of at → refused_early at (step.Resize i g size) ≡ None
  resize-passes low = let t = not-less (1024 * slots_of at) size low in rw t refl
    where
      not-less : (a b : ℕ) → b ≤ a → ltb a b ≡ false
      not-less a b h = grind (arith, nat_tests)
