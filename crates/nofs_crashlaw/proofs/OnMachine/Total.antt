-- Each step can be answered in each world, also where no call of the device fails: the world after it learns what
-- changes, and what was seen.
use Rattle.std.proofs.Common.{◌≡◌, ◌≢◌, ℕ, ◌+◌, ◌⊎◌, inl, inr, Bool, true, false, ◌||◌, List, Option, Some, None}
use Rattle.std.proofs.Common.{refl, subst}
use Rattle.nofs_model.specs.Files.{Files}
use Rattle.nofs_history.specs.Search.{first_of}
use Rattle.nofs_history.specs.Machine.{gives, files_after}
use Rattle.nofs_history.specs.Faults.{is_fault}
use Rattle.nofs_history.specs.World.{World, uses_inode, uses_block, inodes_needed, blocks_needed}
use Rattle.nofs_history.specs.Refusals.{rows}
use Rattle.nofs_history.specs.Answers.{reply_of}
use Rattle.nofs_history.specs.Claims.{no_claims, next_stamp, IsClaim, homes_after}
use Rattle.nofs_history.specs.Next.{names_inode, sees_inode, sees_block, Learns, Next, AfterFault, ByRow, Done}
use Rattle.nofs_history.specs.declared.machine.history.Claims.{Claims}
use Rattle.nofs_history.specs.declared.machine.history.Entry1.{Entry1}
use Rattle.nofs_history.specs.declared.machine.steps.Step.{Step}
use Rattle.nofs_history.specs.declared.machine.steps.Step.TheVariants as step
use Rattle.nofs_history.specs.declared.machine.replies.Reply.{Reply}
use Rattle.nofs_history.specs.declared.machine.replies.Reply.TheVariants as reply
use Rattle.nofs_history.specs.declared.machine.replies.Refusal.{Refusal}
use Rattle.nofs_history.specs.declared.machine.replies.Refusal.TheVariants as refusal
use Rattle.nofs_crashlaw.specs.Machine.Laws.{LawTotal}
use Rattle.nofs_history.proofs.Faultless.{FaultFree, first-free, rows-free, answer-free}
use Rattle.nofs_crashlaw.proofs.OnMachine.Claims.{claims, Blocks, Inode, blocks, inode-for, none-later}

-- The world after: it learns what changes, and what was seen

pub differ : Bool → Bool → Bool
differ true true = false
differ true false = true
differ false true = true
differ false false = false

differ-not : (a b : Bool) → a ≢ b → differ a b ≡ true
unfolding differ
differ-not true true ne = absurd (ne refl)
differ-not true false ne = refl
differ-not false true ne = refl
differ-not false false ne = absurd (ne refl)

differ-ne : (a b : Bool) → differ a b ≡ true → a ≢ b
unfolding differ
differ-ne true true e = cc e
differ-ne true false e = λ q. cc q
differ-ne false true e = λ q. cc q
differ-ne false false e = cc e

-- what was known, what differs, what was seen
either : (a b c : Bool) → a || (b || c) ≡ true → (a ≡ true) ⊎ ((b ≡ true) ⊎ (c ≡ true))
either true b c e = inl refl
either false true c e = inr (inl refl)
either false false c e = inr (inr e)

left-or : (a b : Bool) → a ≡ true → a || b ≡ true
left-or true b e = refl
left-or false b e = cc e

middle-or : (a b c : Bool) → b ≡ true → a || (b || c) ≡ true
middle-or true b c e = refl
middle-or false true c e = refl
middle-or false false c e = cc e

right-or : (a b c : Bool) → c ≡ true → a || (b || c) ≡ true
right-or true b c e = refl
right-or false true c e = refl
right-or false false c e = e

-- a See step names the inode that it examines
seen-named : (s : Step) (i : ℕ) → sees_inode s i ≡ true → names_inode s i ≡ true
seen-named (step.Look d g name) i e = cc e
seen-named (step.Make d g name kind) i e = cc e
seen-named (step.Link d g name j of) i e = cc e
seen-named (step.Drop d g name) i e = cc e
seen-named (step.Rename d g old new) i e = cc e
seen-named (step.List d g slot) i e = cc e
seen-named (step.Get j g k) i e = cc e
seen-named (step.Put j g k at bytes) i e = cc e
seen-named (step.Resize j g size) i e = cc e
seen-named (step.Stat j g) i e = cc e
seen-named (step.Flush j g) i e = cc e
seen-named (step.SeeInode j) i e = e
seen-named (step.SeeBlock p) i e = cc e

abbrev pub moved : World → Step → Claims → World
moved W s c =
    let files : Files = files_after W.files (gives W.files s c) in
    record W
    { files = files; homes = homes_after W s c files; serial = W.serial + inodes_needed s + blocks_needed W.files s }

-- the world after a step that is done
abbrev pub later : World → Step → Claims → World
later W s c =
    let V : World = moved W s c in
    record V {
      known_inodes = λ i. W.known_inodes i || (differ (uses_inode V i) (uses_inode W i) || sees_inode s i);
      known_blocks = λ p. W.known_blocks p || (differ (uses_block V p) (uses_block W p) || sees_block s p);
    }

module _ (W : World) (s : Step) (c : Claims) where
  abbrev V : World
  V = later W s c

  pub learns : Learns W s true (later W s c)
  learns = record {
    inodes_stay = λ i k. left-or (W.known_inodes i) (differ (uses_inode V i) (uses_inode W i) || sees_inode s i) k;
    blocks_stay = λ p k. left-or (W.known_blocks p) (differ (uses_block V p) (uses_block W p) || sees_block s p) k;
    inodes_change = λ i ne. middle-or (W.known_inodes i) (differ (uses_inode V i) (uses_inode W i)) (sees_inode s i)
        (differ-not (uses_inode V i) (uses_inode W i) ne);
    blocks_change = λ p ne. middle-or (W.known_blocks p) (differ (uses_block V p) (uses_block W p)) (sees_block s p)
        (differ-not (uses_block V p) (uses_block W p) ne);
    inode_seen = λ t i e. right-or (W.known_inodes i) (differ (uses_inode V i) (uses_inode W i)) (sees_inode s i) e;
    block_seen = λ t p e. right-or (W.known_blocks p) (differ (uses_block V p) (uses_block W p)) (sees_block s p) e;
    inodes_why = λ i k. elim (either (W.known_inodes i) (differ (uses_inode V i) (uses_inode W i)) (sees_inode s i) k) [
      | inl was ↦ inl was
      | inr r ↦ elim r [
        | inl d ↦ inr (inr (inl (differ-ne (uses_inode V i) (uses_inode W i) d)))
        | inr seen ↦ inr (inr (inr (seen-named s i seen)))
      ]
    ];
    blocks_why = λ p k. elim (either (W.known_blocks p) (differ (uses_block V p) (uses_block W p)) (sees_block s p) k) [
      | inl was ↦ inl was
      | inr r ↦ elim r [
        | inl d ↦ inr (inr (inl (differ-ne (uses_block V p) (uses_block W p) d)))
        | inr seen ↦ inr (inr (inr (refl, seen)))
      ]
    ];
  }

-- nothing becomes known, whether the machine stops or not
pub nothing-learned-at : (W : World) (stopped : Bool) (s : Step) → Learns W s false (record W { stopped = stopped })
nothing-learned-at W stopped s = record {
  inodes_stay = λ i k. k;
  blocks_stay = λ p k. k;
  inodes_change = λ i ne. absurd (ne refl);
  blocks_change = λ p ne. absurd (ne refl);
  inode_seen = λ t. cc t;
  block_seen = λ t. cc t;
  inodes_why = λ i k. inl k;
  blocks_why = λ p k. inl k;
}

pub nothing-learned : (W : World) (s : Step) → Learns W s false W
nothing-learned W s = nothing-learned-at W W.stopped s

entry : Step → Claims → Reply → Entry1
entry s c r = record { caller = 0; from = 0; to = 0; step = s; reply = r; claims = c }

abbrev Answered : World → Step → Type 0
Answered W s = (e : Entry1) × (V : World) × (e.step ≡ s) × (is_fault e.reply ≡ false) × Next W e V

refused : (W : World) (s : Step) (why : Refusal) → W.stopped ≡ false → first_of (rows W W s) ≡ Some why → Answered W s
unfolding entry
refused W s why go comes = (
  entry s no_claims (reply.Refused why),
  W,
  refl,
  subst FaultFree comes (first-free (rows W W s) (rows-free W W s)),
  ByRow why go comes (inl refl) refl
      (record { version = refl; blocks = refl; inodes = refl; mount = refl; serial = refl; files = refl; homes = refl })
      go
      (nothing-learned W s),
)

done : (W : World) (s : Step) → W.stopped ≡ false → first_of (rows W W s) ≡ None → Answered W s
unfolding entry
done W s go comes =
    let i : Inode W s comes = inode-for W s comes in
    let b : Blocks W (next_stamp W + inodes_needed s) i.i i.g (blocks_needed W.files s) = blocks W s comes i.i i.g in
    let c : Claims = claims i.i i.g b.cell b.leaf b.top in
    let claim : IsClaim W s c = record {
      inode = i.has b.cell b.leaf b.top;
      cell = b.has_cell;
      leaf = b.has_leaf;
      top = b.has_top;
      apart = b.apart;
    } in (
      entry s c (reply_of W s c),
      later W s c,
      refl,
      answer-free W s c,
      Done go (none-later W W (later W s c) s comes) refl claim refl refl refl
          (refl, refl, refl, refl, go) (learns W s c),
    )

stopped : (W : World) (s : Step) → W.stopped ≡ true → Answered W s
unfolding entry
stopped W s e = (entry s no_claims (reply.Refused refusal.Stopped), W, refl, refl, AfterFault e refl refl refl)

pub law-total : LawTotal
law-total W s = go W.stopped refl (first_of (rows W W s)) refl
  where
    go : (b : Bool) → W.stopped ≡ b → (o : Option Refusal) → first_of (rows W W s) ≡ o → Answered W s
    go true e o eo = stopped W s e
    go false e (Some why) eo = refused W s why e eo
    go false e None eo = done W s e eo
