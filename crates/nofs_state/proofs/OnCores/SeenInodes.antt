-- One more inode is known, with the verdict of the disk.
use Rattle.std.proofs.Common.{◌≡◌, if◌then◌else◌, ℕ, zero, suc, ◌-◌, ◌≤◌, inl, inr, Bool, true, false, ◌&&◌, ◌||◌, not}
use Rattle.std.proofs.Common.{eqb, ltb, leb, List, length}
use Rattle.std.proofs.Common.{Some, None, is_some, IsTrue, refl, sym, ap, ◌∙◌, subst, eq-eqb, eqb-true, arith}
use Rattle.std.specs.Prelude.{slice_set}
use Rattle.std.proofs.lemmas.Bool.{cases_eq, ne_eqb}
use Rattle.std.proofs.lemmas.List.{length-set}
use Rattle.std.proofs.lemmas.Bool.Decides.{nat_tests}
use Rattle.nofs_bits.specs.Bits.{is_set}
use Rattle.nofs_disk.specs.Disk.{DiskState, IsDisk, StaysButFaults}
use Rattle.nofs_model.specs.Files.{is_special}
use Rattle.nofs_history.specs.Search.{first_of}
use Rattle.nofs_history.specs.World.{World, uses_inode}
use Rattle.nofs_history.specs.Refusals.{rows}
use Rattle.nofs_history.specs.Next.{Learns}
use Rattle.nofs_history.specs.declared.machine.history.Entry1.{Entry1}
use Rattle.nofs_history.specs.declared.machine.steps.Step.TheVariants as step
use Rattle.nofs_history.specs.declared.machine.replies.Reply.TheVariants as reply
use Rattle.nofs_agree.specs.Chain.{known_agreement}
use Rattle.nofs_agree.proofs.OnKnown.{told-here, told-other}
use Rattle.nofs_state.specs.Books.Maps.{IsSafe, Says}
use Rattle.nofs_state.specs.Cores.Invariant.{IsOpen, Past}
use Rattle.nofs_state.specs.Books.Verdicts.{learned_inode, verdict_of_inode}
use Rattle.nofs_state.specs.declared.books.maps.Books.{Books}
use Rattle.nofs_state.proofs.OnBooks.Bits.{set-here, set-other, set-length}
use Rattle.nofs_state.proofs.OnCores.Replies.{learns-known}
use Rattle.nofs_state.proofs.OnBooks.Safe.{safe-sizes}
use Rattle.nofs_state.proofs.OnBooks.Worlds.{says-maps}
use Rattle.nofs_state.proofs.OnCores.Sees.{FollowsSeen, follows-seen, follows-stood, learns-seen, sees-inode, stands}
use Rattle.nofs_state.proofs.OnCores.Sees.{verdict-is}

abbrev with_inode : World → ℕ → World
with_inode W i = record W { known_inodes = λ j. eqb j i || W.known_inodes j }

-- what is known already stays so
learns-again : (W : World) (i : ℕ) → W.known_inodes i ≡ true → Learns W (step.SeeInode i) true W
learns-again W i is = learns-known W (step.SeeInode i) true W.stopped
    (λ t j e. subst (λ (n : ℕ). W.known_inodes n ≡ true) (sym (eqb-true j i e)) is) (λ t p e. absurd (cc e))

le-is : (a b : ℕ) → a ≤ b → leb a b ≡ true
le-is a b h = grind (arith, nat_tests)

pub inode-row : (W V : World) (i n : ℕ) → W.inodes ≡ n → 1 ≤ i → i ≤ n → first_of (rows W V (step.SeeInode i)) ≡ None
inode-row W V i n e low high =
    let t : (eqb i 0 || ltb W.inodes i) ≡ false = none i W.inodes low (omega (arith, e, high)) in rw t refl
  where
    none : (a b : ℕ) → 1 ≤ a → a ≤ b → (eqb a 0 || ltb b a) ≡ false
    none a b h l = grind (arith, nat_tests)

-- the maps with one more inode
module _ (k : Books) (W : World) (i : ℕ) (used : Bool) (s : Says k W) (low : 1 ≤ i) (high : i ≤ k.at.inodes)
    (right : used ≡ uses_inode W i) where
  known-is : length k.unknown_inodes ≡ k.at.inodes → (j : ℕ)
      → (eqb j i || W.known_inodes j)
      ≡ (leb 1 j && (leb j k.at.inodes && not (is_set (slice_set k.unknown_inodes (i - 1) false) (j - 1))))
  known-is len zero = rw (ne_eqb 0 i (λ e. let z : 0 ≡ i = e in omega (arith, z, low))) (s.known_inodes 0)
  known-is len (suc n) = elim (cases_eq (suc n) i) [
    | inl same ↦
        let here : is_set (slice_set k.unknown_inodes (i - 1) false) (i - 1) ≡ false =
        set-here k.unknown_inodes (i - 1) false (omega (arith, len, low, high)) in
        subst (λ (m : ℕ). (eqb m i || W.known_inodes m) ≡ (leb 1 m
        && (leb m k.at.inodes && not (is_set (slice_set k.unknown_inodes (i - 1) false) (m - 1))))) (sym same)
        (rw (eq-eqb i i refl, le-is 1 i low, le-is i k.at.inodes high, here) refl)
    | inr other ↦ rw (
      ne_eqb (suc n) i other,
      set-other k.unknown_inodes (i - 1) (suc n - 1) false (λ e. other (omega (arith, e, low))),
    )
        (s.known_inodes (suc n))
  ]

  free-is : length k.free_inodes ≡ k.at.inodes → (j : ℕ) → 1 ≤ j → j ≤ k.at.inodes
      → is_set (slice_set k.free_inodes (i - 1) (not used)) (j - 1)
      ≡ ((eqb j i || W.known_inodes j) && not (uses_inode W j))
  free-is len j from to = elim (cases_eq j i) [
    | inl same ↦
        let here : is_set (slice_set k.free_inodes (i - 1) (not used)) (i - 1) ≡ not used =
        set-here k.free_inodes (i - 1) (not used) (omega (arith, len, low, high)) in
        subst (λ (m : ℕ). is_set (slice_set k.free_inodes (i - 1) (not used)) (m - 1)
        ≡ ((eqb m i || W.known_inodes m) && not (uses_inode W m))) (sym same)
        (here ∙ ap not right ∙ rw (eq-eqb i i refl) refl)
    | inr other ↦ set-other k.free_inodes (i - 1) (j - 1) (not used) (λ e. other (omega (arith, e, low, from)))
        ∙ s.free_inodes j from to
        ∙ rw (ne_eqb j i other) refl
  ]

  agreed-is : length k.agreement ≡ k.at.inodes → (j : ℕ) (a : Bool)
      → known_agreement (if ltb 2 i then slice_set k.agreement (i - 1) (Some used) else k.agreement) j ≡ Some a
      → is_some (W.files j) ≡ a
  agreed-is len j a e = go (ltb 2 i) refl e
    where
      above : (n : ℕ) → ltb 2 n ≡ true → (eqb n 1 || eqb n 2) ≡ false
      above n h = grind (arith, nat_tests)

      go : (b : Bool) → ltb 2 i ≡ b → known_agreement (if b then slice_set k.agreement (i - 1) (Some used)
          else k.agreement) j ≡ Some a → is_some (W.files j) ≡ a
      go false low-one t = s.agreement j a t
      go true h t = elim (cases_eq j i) [
        | inl same ↦
            let here : known_agreement (slice_set k.agreement (i - 1) (Some used)) i ≡ Some used =
            told-here k.agreement i (Some used) low (omega (arith, len, high)) in
            let t-here : known_agreement (slice_set k.agreement (i - 1) (Some used)) i ≡ Some a =
            subst (λ (m : ℕ). known_agreement (slice_set k.agreement (i - 1) (Some used)) m ≡ Some a) same t in
            let is : used ≡ a = cc (here, t-here) in
            let plain : is_special i ≡ false = above i h in
            subst (λ (m : ℕ). is_some (W.files m) ≡ a) (sym same)
            (ap (λ (b : Bool). b || is_some (W.files i)) (sym plain) ∙ sym right ∙ is)
        | inr other ↦ s.agreement j a (sym (told-other k.agreement i j (Some used) low other) ∙ t)
      ]

  says-inode : length k.unknown_inodes ≡ k.at.inodes → length k.free_inodes ≡ k.at.inodes
      → length k.agreement ≡ k.at.inodes
      → Says (learned_inode k i used) (with_inode W i)
  says-inode unknown free agreed =
      says-maps k (learned_inode k i used) W (λ j. eqb j i || W.known_inodes j) W.known_blocks s
      (record { at = refl; serial = refl; stopped = refl })
      (known-is unknown) s.known_blocks (free-is free) s.free_blocks (agreed-is agreed)

-- what holds over any disk, with one more inode
pub safe-inode : (d : DiskState) (k : Books) (i : ℕ) (used : Bool) → IsSafe d k → IsSafe d (learned_inode k i used)
safe-inode d k i used s = safe-sizes d d k (learned_inode k i used) s s.at
    (record {
      at = refl;
      serial = refl;
      unknown_inodes = set-length k.unknown_inodes (i - 1) false;
      free_inodes = set-length k.free_inodes (i - 1) (not used);
      agreement = known-length (ltb 2 i);
      unknown_blocks = refl;
      free_blocks = refl;
    }) s.in_area
  where
    known-length : (b : Bool)
        → length (if b then slice_set k.agreement (i - 1) (Some used) else k.agreement) ≡ length k.agreement
    known-length true = length-set k.agreement (i - 1) (Some used)
    known-length false = refl

module _ (old new : DiskState) (k : Books) (i : ℕ) (used : Bool) (is : IsDisk old) (safe : IsSafe old k)
    (stays : StaysButFaults old new)
    (going : k.stopped ≡ false) (low : 1 ≤ i) (high : i ≤ k.at.inodes) where
  -- what is known of it is known, and the verdict that stands is the machine's
  inode-parts : verdict_of_inode k i ≡ Some used
      → (is_set k.unknown_inodes (i - 1) ≡ false) × (used ≡ not (is_set k.free_inodes (i - 1)))
  inode-parts stood = verdict-is (is_set k.unknown_inodes (i - 1)) (is_set k.free_inodes (i - 1)) used stood

  inode-known : (H : List Entry1) (p : Past) → IsOpen old k H p → verdict_of_inode k i ≡ Some used
      → p.world.known_inodes i ≡ true
  inode-known H p o stood = o.says.known_inodes i
      ∙ rw (le-is 1 i low, le-is i k.at.inodes high, (inode-parts stood).0) refl

  pub inode-stands : (H : List Entry1) (p : Past) → IsOpen old k H p → verdict_of_inode k i ≡ Some used
      → used ≡ uses_inode p.world i
  inode-stands H p o stood = stands (p.world.known_inodes i) (uses_inode p.world i) (is_set k.free_inodes (i - 1)) used
      (inode-known H p o stood)
      (o.says.free_inodes i low high) (inode-parts stood).1

  -- the verdict stood
  pub inode-stood : (caller : ℕ) (H : List Entry1) (p : Past) → IsTrue old.tells → IsOpen old k H p
      → verdict_of_inode k i ≡ Some used → FollowsSeen old new k (step.SeeInode i) used caller H p
  inode-stood caller H p tells o stood =
      follows-stood old new k (step.SeeInode i) used is stays going caller H p tells o (sees-inode i)
      (inode-row p.world p.world i k.at.inodes o.says.inodes low high) (ap reply.Seen (inode-stands H p o stood))
      (learns-again p.world i (inode-known H p o stood))

  -- it was learned
  pub inode-learned : (caller : ℕ) (H : List Entry1) (p : Past) → IsTrue old.tells → IsOpen old k H p
      → used ≡ uses_inode p.world i → FollowsSeen old new (learned_inode k i used) (step.SeeInode i) used caller H p
  inode-learned caller H p tells o right =
      follows-seen old new k (learned_inode k i used) (step.SeeInode i) used is stays refl refl going going caller H p
      (λ j. eqb j i || p.world.known_inodes j) p.world.known_blocks o (sees-inode i) tells
      (record {
        rows = inode-row p.world (with_inode p.world i) i k.at.inodes o.says.inodes low high;
        reply = ap reply.Seen right;
        learns = learns-seen p.world (step.SeeInode i);
      })
      (says-inode k p.world i used o.says low high right safe.unknown_inodes safe.free_inodes safe.agreement)
