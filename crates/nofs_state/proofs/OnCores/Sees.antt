-- A See step: one more element is known, with the verdict of the disk.
use Rattle.std.proofs.Common.{◌≡◌, ℕ, ◌+◌, ◌/◌, ◌<◌, ◌≤◌, ◌⊎◌, inl, inr, Bool, true, false, cond, ◌&&◌, ◌||◌, not, eqb}
use Rattle.std.proofs.Common.{ltb, leb, List, length, Some}
use Rattle.std.proofs.Common.{None, is_some, IsTrue, refl, sym, ap, ◌∙◌, subst, eq-eqb, eqb-true, arith}
use Rattle.std.specs.Prelude.{slice_set}
use Rattle.std.proofs.lemmas.Bool.{cases_eq, cases_lt, ne_eqb}
use Rattle.std.proofs.lemmas.List.{get_or_past}
use Rattle.std.proofs.lemmas.Bool.Decides.{nat_tests}
use Rattle.nofs_bits.specs.Bits.{is_set}
use Rattle.nofs_disk.specs.Disk.{DiskState, IsDisk, KeepsCells, StaysButFaults}
use Rattle.nofs_model.specs.Geometry.{super_at}
use Rattle.nofs_model.specs.Files.{Files, is_special}
use Rattle.nofs_model.specs.Owners.{is_used_inode, is_used_block}
use Rattle.nofs_history.specs.Search.{first_of}
use Rattle.nofs_history.specs.Machine.{gives, files_after, nothing}
use Rattle.nofs_history.specs.World.{World, uses_inode, uses_block, inodes_needed, blocks_needed}
use Rattle.nofs_history.specs.Claims.{no_claims, cell_slot, homes_after}
use Rattle.nofs_history.specs.Refusals.{rows}
use Rattle.nofs_history.specs.Answers.{reply_of}
use Rattle.nofs_history.specs.Next.{Keeps, Learns, Next, Done, names_inode, sees_inode, sees_block}
use Rattle.nofs_history.specs.declared.machine.history.Entry1.{Entry1}
use Rattle.nofs_history.specs.declared.machine.steps.Step.{Step}
use Rattle.nofs_history.specs.declared.machine.steps.Step.TheVariants as step
use Rattle.nofs_history.specs.declared.machine.replies.Reply.TheVariants as reply
use Rattle.nofs_crashlaw.proofs.OnMaps.Homes.{uses-inode}
use Rattle.nofs_crashlaw.proofs.OnHistories.FlushStage.{files-stay}
use Rattle.nofs_state.specs.Books.Maps.{IsSafe, Says}
use Rattle.nofs_state.specs.Cores.Invariant.{IsOpen, Past}
use Rattle.nofs_state.specs.Cores.Steps.{Causes, Follows, entry}
use Rattle.nofs_state.specs.Books.Verdicts.{InData, learned_block, verdict_of_block}
use Rattle.nofs_state.specs.declared.books.maps.Books.{Books}
use Rattle.nofs_state.proofs.OnCores.NoWrites.{follows-idle}
use Rattle.nofs_state.proofs.OnBooks.Bits.{set-here, set-other, set-length}
use Rattle.nofs_state.proofs.OnCores.Replies.{homes-stay, learns-known, no-claim, open-files}
use Rattle.nofs_state.proofs.OnBooks.Safe.{safe-sizes}
use Rattle.nofs_state.proofs.OnCores.SafeSteps.{quiet-answer, quiet-causes}
use Rattle.nofs_state.proofs.OnBooks.Worlds.{says-maps, world_with}

-- The machine's verdicts are those of the scan

pub machine-inode : (d : DiskState) (k : Books) (H : List Entry1) (p : Past) → IsOpen d k H p
    → (i : ℕ) → uses_inode p.world i ≡ is_used_inode d.now i
machine-inode d k H p o i =
    ap (λ (b : Bool). is_special i || b) (uses-inode p.world.files d.now (open-files d k H p o) i)

pub machine-block : (d : DiskState) (k : Books) (H : List Entry1) (p : Past) → IsOpen d k H p
    → (b : ℕ) → b < k.at.blocks
    → uses_block p.world b ≡ is_used_block d.now b
machine-block d k H p o b low =
    let inodes : p.world.inodes ≡ (super_at d.now).inodes = o.says.inodes ∙ sym (ap (λ q. q.inodes) o.at) in
    let home = o.homes b (let e = o.says.blocks in omega (arith, e, low)) in
    λ j. leb b (inodes j / 4) || is_some (home j)

-- One step of the machine

pub record IsSeeing (s : Step) : Type 0 where
  pub no_inode : inodes_needed s ≡ 0
  pub no_block : (F : Files) → blocks_needed F s ≡ 0
  pub gives : (F : Files) → gives F s no_claims ≡ nothing
  pub no_slot : (F : Files) → cell_slot F s ≡ None

pub sees-inode : (i : ℕ) → IsSeeing (step.SeeInode i)
unfolding gives
sees-inode i = record { no_inode = refl; no_block = λ F. refl; gives = λ F. refl; no_slot = λ F. refl }

pub sees-block : (p : ℕ) → IsSeeing (step.SeeBlock p)
unfolding gives
sees-block p = record { no_inode = refl; no_block = λ F. refl; gives = λ F. refl; no_slot = λ F. refl }

-- an element is seen: no row comes, and the answer is the machine's
pub record Sees (W V : World) (s : Step) (used : Bool) : Type 0 where
  pub rows : first_of (rows W V s) ≡ None
  pub reply : reply.Seen used ≡ reply_of W s no_claims
  pub learns : Learns W s true V

module _ (old new : DiskState) (k l : Books) (s : Step) (used : Bool) (is : IsDisk old) (stays : StaysButFaults old new)
    (at : l.at ≡ k.at)
    (history : l.history ≡ k.history) (going : k.stopped ≡ false) (still : l.stopped ≡ false) where
  module _ (caller : ℕ) (H : List Entry1) (p : Past) (inodes blocks : ℕ → Bool) (o : IsOpen old k H p)
      (seeing : IsSeeing s) where
    abbrev W : World
    W = p.world

    abbrev V : World
    V = world_with p.world inodes blocks

    abbrev e : Entry1
    e = entry caller old new s no_claims (reply.Seen used)

    keeps : Keeps W V
    keeps =
        record { version = refl; blocks = refl; inodes = refl; mount = refl; serial = refl; files = refl; homes = refl }

    files-stay-so : files_after W.files (gives W.files s no_claims) ≡ W.files
    files-stay-so = ap (λ g. files_after W.files g) (seeing.gives W.files) ∙ files-stay W.files

    next-seen : Sees W V s used → Next W e V
    next-seen sees =
        Done open_world sees.rows sees.reply (no-claim W s seeing.no_inode seeing.no_block)
        (sym files-stay-so) homes-are serial
        (refl, refl, refl, refl, open_world) sees.learns
      where
        open_world : W.stopped ≡ false
        open_world = o.says.stopped ∙ going

        homes-are : V.homes ≡ homes_after W s no_claims V.files
        homes-are = sym (homes-stay W old.now s (open-files old k H p o) o.homes o.homes_past (seeing.no_slot W.files))

        serial : V.serial ≡ W.serial + inodes_needed s + blocks_needed W.files s
        serial = let a = seeing.no_inode in let b = seeing.no_block W.files in omega (arith, a, b)

    pub follows-seen : IsTrue old.tells → Sees W V s used → Says l V → Follows old new l H p e
    follows-seen tells sees says = follows-idle old new k l H p e stays refl refl history V is tells o
        (record { given = seeing.gives W.files; files = files-stay-so; no_flush = refl; no_fault = refl })
        (next-seen sees) keeps says at still refl

-- the history goes on over a See step that answered so
abbrev pub FollowsSeen : DiskState → DiskState → Books → Step → Bool → ℕ → List Entry1 → Past → Type 0
FollowsSeen old new l s used caller H p = Follows old new l H p (entry caller old new s no_claims (reply.Seen used))

-- so it does where the verdict stood, and the books stay
pub follows-stood : (old new : DiskState) (k : Books) (s : Step) (used : Bool) → IsDisk old → StaysButFaults old new
    → k.stopped ≡ false → (caller : ℕ) (H : List Entry1) (p : Past) → IsTrue old.tells → IsOpen old k H p → IsSeeing s
    → first_of (rows p.world p.world s) ≡ None → reply.Seen used ≡ reply_of p.world s no_claims
    → Learns p.world s true p.world → FollowsSeen old new k s used caller H p
follows-stood old new k s used is stays going caller H p tells o seeing row answer learned =
    follows-seen old new k k s used is stays refl refl going going caller H p p.world.known_inodes
    p.world.known_blocks o seeing tells (record { rows = row; reply = answer; learns = learned }) o.says

pub seen-causes : (old new : DiskState) (k l : Books) (used : Bool) → KeepsCells old new → new.faults ≡ old.faults
    → k.stopped ≡ false → l.stopped ≡ false
    → Causes old new k l (reply.Seen used)
seen-causes old new k l used cells same going still =
    quiet-causes old new k l (reply.Seen used) cells (quiet-answer old new k (reply.Seen used) refl refl going same)
    (still ∙ sym going) (λ t. absurd (cc t))

-- what a See step examines becomes known
pub learns-seen : (W : World) (s : Step)
    → Learns W s true (world_with W (λ i. sees_inode s i || W.known_inodes i) (λ p. sees_block s p || W.known_blocks p))
learns-seen W s = record {
  inodes_stay = λ i k. rw k (or-true (sees_inode s i));
  blocks_stay = λ p k. rw k (or-true (sees_block s p));
  inodes_change = λ i ne. absurd (ne refl);
  blocks_change = λ p ne. absurd (ne refl);
  inode_seen = λ t i e. rw e refl;
  block_seen = λ t p e. rw e refl;
  inodes_why = λ i k.
      elim (either (sees_inode s i) (W.known_inodes i) k) [ inl e ↦ inr (inr (inr (named s i e))) | inr was ↦ inl was ];
  blocks_why = λ p k.
      elim (either (sees_block s p) (W.known_blocks p) k) [ inl e ↦ inr (inr (inr (refl, e))) | inr was ↦ inl was ];
}
  where
    or-true : (b : Bool) → (b || true) ≡ true
    or-true true = refl
    or-true false = refl

    either : (a b : Bool) → (a || b) ≡ true → (a ≡ true) ⊎ (b ≡ true)
    either true b e = inl refl
    either false b e = inr e

    named : (s : Step) (i : ℕ) → sees_inode s i ≡ true → names_inode s i ≡ true
    named (step.SeeInode j) i e = e
    named _ i e = cc

-- a place that is set is one of the map
pub set-within : (bits : List Bool) (k : ℕ) (v : Bool) → is_set (slice_set bits k v) k ≡ true → k < length bits
set-within bits k v e = elim (cases_lt k (length bits)) [
  | inl low ↦ low
  | inr high ↦ absurd (let past = get_or_past (slice_set bits k v) k false
      (let n = set-length bits k v in omega (arith, n, high)) in cc (past, e))
]

-- A block

abbrev with_block : World → ℕ → World
with_block W p = record W { known_blocks = λ q. eqb q p || W.known_blocks q }

-- what is known already stays so
learns-again : (W : World) (p : ℕ) → W.known_blocks p ≡ true → Learns W (step.SeeBlock p) true W
learns-again W p is = learns-known W (step.SeeBlock p) true W.stopped (λ t i e. absurd (cc e))
    (λ t q e. subst (λ (n : ℕ). W.known_blocks n ≡ true) (sym (eqb-true q p e)) is)

pub block-row : (W V : World) (p n : ℕ) → W.blocks ≡ n → p < n → first_of (rows W V (step.SeeBlock p)) ≡ None
block-row W V p n e low = let t : leb W.blocks p ≡ false = not-le W.blocks p (omega (arith, e, low)) in rw t refl
  where
    not-le : (a b : ℕ) → b < a → leb a b ≡ false
    not-le a b h = grind (arith, nat_tests)

pub in-range : (a b : ℕ) → a < b → ltb a b ≡ true
in-range a b h = grind (arith, nat_tests)

-- the maps with one more block
says-block : (k : Books) (W : World) (p : ℕ) (used : Bool) → Says k W
    → p < k.at.blocks → length k.unknown_blocks ≡ k.at.blocks
    → length k.free_blocks ≡ k.at.blocks → used ≡ uses_block W p → Says (learned_block k p used) (with_block W p)
says-block k W p used s low unknown free right =
    says-maps k (learned_block k p used) W W.known_inodes (λ q. eqb q p || W.known_blocks q) s
    (record { at = refl; serial = refl; stopped = refl })
    s.known_inodes known s.free_inodes free-is s.agreement
  where
    known : (q : ℕ)
        → (eqb q p || W.known_blocks q) ≡ (ltb q k.at.blocks && not (is_set (slice_set k.unknown_blocks p false) q))
    known q = elim (cases_eq q p) [
      | inl same ↦
          let here : is_set (slice_set k.unknown_blocks p false) p ≡ false =
          set-here k.unknown_blocks p false (omega (arith, unknown, low)) in
          subst (λ (n : ℕ). (eqb n p || W.known_blocks n)
          ≡ (ltb n k.at.blocks && not (is_set (slice_set k.unknown_blocks p false) n))) (sym same)
          (rw (eq-eqb p p refl, in-range p k.at.blocks low, here) refl)
      | inr other ↦ rw (ne_eqb q p other, set-other k.unknown_blocks p q false other) (s.known_blocks q)
    ]

    free-is : (q : ℕ) → q < k.at.blocks
        → is_set (slice_set k.free_blocks p (not used)) q ≡ ((eqb q p || W.known_blocks q) && not (uses_block W q))
    free-is q inside = elim (cases_eq q p) [
      | inl same ↦
          let here : is_set (slice_set k.free_blocks p (not used)) p ≡ not used =
          set-here k.free_blocks p (not used) (omega (arith, free, low)) in
          subst (λ (n : ℕ). is_set (slice_set k.free_blocks p (not used)) n
          ≡ ((eqb n p || W.known_blocks n) && not (uses_block W n))) (sym same)
          (here ∙ ap not right ∙ rw (eq-eqb p p refl) refl)
      | inr other ↦ set-other k.free_blocks p q (not used) other ∙ s.free_blocks q inside ∙ rw (ne_eqb q p other) refl
    ]

-- the verdict that stands
pub verdict-is : (u f used : Bool) → cond u None (Some (not f)) ≡ Some used → (u ≡ false) × (used ≡ not f)
verdict-is true f used e = cc
verdict-is false f used e = (refl, cc)

-- it is the machine's
pub stands : (known uses f used : Bool) → known ≡ true → f ≡ (known && not uses) → used ≡ not f → used ≡ uses
stands true true f used k e s = s ∙ ap not e
stands true false f used k e s = s ∙ ap not e
stands false uses f used k e s = cc

-- what holds over any disk, with one more block
pub safe-block : (d : DiskState) (k : Books) (p : ℕ) (used : Bool) → IsSafe d k → InData k p used
    → IsSafe d (learned_block k p used)
safe-block d k p used s lies =
    let unknown = set-length k.unknown_blocks p false in
    let free = set-length k.free_blocks p (not used) in
    safe-sizes d d k (learned_block k p used) s s.at
    (record {
      at = refl;
      serial = refl;
      unknown_inodes = refl;
      free_inodes = refl;
      agreement = refl;
      unknown_blocks = unknown;
      free_blocks = free;
    }) area
  where
    freed : (b : Bool) → not b ≡ true → b ≡ false
    freed true e = cc
    freed false e = refl

    area : (q : ℕ) → is_set (slice_set k.free_blocks p (not used)) q ≡ true → 1 + k.at.inodes / 4 ≤ q
    area q e = elim (cases_eq q p) [
      | inl same ↦
          let low : p < length k.free_blocks = set-within k.free_blocks p (not used)
          (subst (λ (n : ℕ). is_set (slice_set k.free_blocks p (not used)) n ≡ true) same e) in
          let here : is_set (slice_set k.free_blocks p (not used)) p ≡ not used =
          set-here k.free_blocks p (not used) low in
          let f : used ≡ false =
          freed used (sym here ∙ subst (λ (n : ℕ). is_set (slice_set k.free_blocks p (not used)) n ≡ true) same e) in
          subst (λ (n : ℕ). 1 + k.at.inodes / 4 ≤ n) (sym same) (lies f)
      | inr other ↦ s.in_area q (sym (set-other k.free_blocks p q (not used) other) ∙ e)
    ]

module _ (old new : DiskState) (k : Books) (b : ℕ) (used : Bool) (is : IsDisk old) (safe : IsSafe old k)
    (stays : StaysButFaults old new)
    (going : k.stopped ≡ false) (low : b < k.at.blocks) where
  -- what is known of it is known, and the verdict that stands is the machine's
  block-parts : verdict_of_block k b ≡ Some used
      → (is_set k.unknown_blocks b ≡ false) × (used ≡ not (is_set k.free_blocks b))
  block-parts stood = verdict-is (is_set k.unknown_blocks b) (is_set k.free_blocks b) used stood

  block-known : (H : List Entry1) (p : Past) → IsOpen old k H p → verdict_of_block k b ≡ Some used
      → p.world.known_blocks b ≡ true
  block-known H p o stood = o.says.known_blocks b ∙ rw (in-range b k.at.blocks low, (block-parts stood).0) refl

  pub block-stands : (H : List Entry1) (p : Past) → IsOpen old k H p → verdict_of_block k b ≡ Some used
      → used ≡ uses_block p.world b
  block-stands H p o stood =
      stands (p.world.known_blocks b) (uses_block p.world b) (is_set k.free_blocks b) used (block-known H p o stood)
      (o.says.free_blocks b low) (block-parts stood).1

  -- the verdict stood
  pub block-stood : (caller : ℕ) (H : List Entry1) (p : Past) → IsTrue old.tells → IsOpen old k H p
      → verdict_of_block k b ≡ Some used → FollowsSeen old new k (step.SeeBlock b) used caller H p
  block-stood caller H p tells o stood =
      follows-stood old new k (step.SeeBlock b) used is stays going caller H p tells o (sees-block b)
      (block-row p.world p.world b k.at.blocks o.says.blocks low) (ap reply.Seen (block-stands H p o stood))
      (learns-again p.world b (block-known H p o stood))

  -- it was learned
  pub block-learned : (caller : ℕ) (H : List Entry1) (p : Past) → IsTrue old.tells → IsOpen old k H p
      → used ≡ uses_block p.world b → FollowsSeen old new (learned_block k b used) (step.SeeBlock b) used caller H p
  block-learned caller H p tells o right =
      follows-seen old new k (learned_block k b used) (step.SeeBlock b) used is stays refl refl going going caller H p
      p.world.known_inodes (λ q. eqb q b || p.world.known_blocks q) o (sees-block b) tells
      (record {
        rows = block-row p.world (with_block p.world b) b k.at.blocks o.says.blocks low;
        reply = ap reply.Seen right;
        learns = learns-seen p.world (step.SeeBlock b);
      })
      (says-block k p.world b used o.says low safe.unknown_blocks safe.free_blocks right)
