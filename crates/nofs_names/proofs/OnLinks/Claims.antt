-- How many blocks a new entry asks for, and what a Link claims.
use Rattle.std.proofs.Common.{◌≡◌, ◌≢◌, ℕ, zero, suc, ◌+◌, ◌*◌, ◌^◌, ◌<◌, ◌≤◌, inl, inr, Bool, true, false, cond}
use Rattle.std.proofs.Common.{ne_eqb, ltb, not, List, [], ◌∷◌, ◌++◌, length, refl, sym, ap, ◌∙◌, subst, arith, Contains}
use Rattle.std.specs.Prelude.{slice_set}
use Rattle.std.proofs.lemmas.Bool.{cases_eq}
use Rattle.nofs_bits.specs.Bits.{is_set}
use Rattle.nofs_disk.specs.Disk.{DiskState}
use Rattle.nofs_disk.specs.declared.tag.Pointer.{Pointer}
use Rattle.nofs_disk.specs.Pointer.{null}
use Rattle.nofs_model.specs.Geometry.{Image}
use Rattle.nofs_ptrs.specs.Paths.{leaf, path_of}
use Rattle.nofs_model.specs.Slots.{find, value_in}
use Rattle.nofs_model.specs.Files.{files_in, agreed, Files, Absent, Present, node_in}
use Rattle.nofs_model.specs.declared.image.path.PathAnswer.TheVariants as answer
use Rattle.nofs_ptrs.specs.PathLaws.{path-direct, path-leaf}
use Rattle.nofs_history.specs.Meta.{is_bytes}
use Rattle.nofs_history.specs.Machine.{node_of, value_of}
use Rattle.nofs_history.specs.World.{World, blocks_for, blocks_needed, is_free_block, uses_inode, uses_block}
use Rattle.nofs_history.specs.Claims.{Apart, IsBlockClaim, IsClaim, Claimed, Unclaimed, NoInode, claimed_blocks}
use Rattle.nofs_history.specs.Claims.{is_claimed, next_stamp, no_claims}
use Rattle.nofs_history.specs.History.{FilesMatch}
use Rattle.nofs_history.specs.declared.machine.history.Claims.{Claims}
use Rattle.nofs_history.specs.declared.machine.history.Entry1.{Entry1}
use Rattle.nofs_history.specs.declared.machine.steps.Step.TheVariants as step
use Rattle.nofs_crashlaw.proofs.OnUntouched.Agreement.{file-in}
use Rattle.nofs_state.proofs.OnBooks.Machine.{agreed-live, world-numbers}
use Rattle.nofs_state.proofs.OnBooks.Bits.{set-here, set-length, set-other}
use Rattle.nofs_state.proofs.OnCores.Replies.{open-files}
use Rattle.nofs_state.proofs.OnBooks.ClaimedBlocks.{Takes}
use Rattle.nofs_crashlaw.proofs.OnUntouched.Matches.{matched-agreed}
use Rattle.nofs_crashlaw.specs.Maps.Homes.{ClaimsFree}
use Rattle.nofs_crashlaw.specs.Maps.Moves.{IsClaimed}
use Rattle.nofs_crashlaw.proofs.OnMaps.Good.{law-claims}
use Rattle.nofs_crashlaw.proofs.OnMaps.Homes.{law-good}
use Rattle.nofs_state.specs.Books.Maps.{Says, claimed_books, claimed_pointer}
use Rattle.nofs_state.specs.Cores.Invariant.{IsOpen, Past}
use Rattle.nofs_state.specs.declared.books.maps.Books.{Books}
use Rattle.nofs_names.specs.Entries.Places.{IsEntrySlot, slot_blocks}
use Rattle.nofs_names.specs.declared.entries.places.EntrySlot.{EntrySlot}
use Rattle.nofs_names.specs.declared.entries.places.EntrySlot.TheVariants as entry
use Rattle.nofs_names.proofs.OnEntries.HoleCells.{IsNewBlock}

-- The blocks of a slot of a directory

module _ (F : Files) (X : Image) (d k : ℕ) (match : FilesMatch F X) (agrees : agreed (files_in X) d ≡ true)
    (low : k < 72) where
  value-as : value_of F d k ≡ value_in X (find X d (path_of k))
  value-as = let m = matched-agreed F X d match (agreed-live X d agrees) agrees in
      rw (m.is, value_of) (m.values k (omega (arith, low)))

  leaf-as : node_of F d leaf ≡ node_in (find X d leaf)
  leaf-as =
      let m = matched-agreed F X d match (agreed-live X d agrees) agrees in
      let q = (file-in F X d m.file match m.is).1 in
      rw (m.is, node_of) (q.nodes leaf (omega arith) refl)

  empty-slot : find X d (path_of k) ≡ answer.Hole → is_bytes (value_of F d k) ≡ false
  empty-slot e = ap is_bytes (value-as ∙ ap (value_in X) e)

  pub slot-needs : (s : EntrySlot) → IsEntrySlot X d k s
      → ((s ≡ entry.Direct → k < 8) × ((y : Pointer) → s ≡ entry.UnderLeaf y → 8 ≤ k) × (s ≡ entry.WithLeaf → 8 ≤ k))
      → blocks_for F d k ≡ slot_blocks s
  slot-needs (entry.Held x) is fits =
      let v : is_bytes (value_of F d k) ≡ true = ap is_bytes (value-as ∙ ap (value_in X) is) in rw v refl
  slot-needs entry.Direct is fits = let v = empty-slot is in let p = path-direct k (fits.0 refl) in rw (v, p) refl
  slot-needs (entry.UnderLeaf y) is fits =
      let v = empty-slot is.0 in
      let p = path-leaf k (fits.1 y refl) low in
      let n : node_of F d leaf ≡ Present = leaf-as ∙ ap node_in is.1 in
      rw (v, p, n) refl
  slot-needs entry.WithLeaf is fits =
      let v = empty-slot is.0 in
      let p = path-leaf k (fits.2 refl) low in
      let n : node_of F d leaf ≡ Absent = leaf-as ∙ ap node_in is.1 in
      rw (v, p, n) refl

-- The claims

abbrev pub claims_of : Pointer → Pointer → Claims
claims_of x y = record no_claims { cell = x; leaf = y }

pub claimed-first : (x y : Pointer) → is_claimed x ≡ true → Contains (claimed_blocks (claims_of x y)) x
claimed-first x y t = rw t (0, omega arith, refl)

pub claimed-second : (x y : Pointer)
    → is_claimed x ≡ true → is_claimed y ≡ true → Contains (claimed_blocks (claims_of x y)) y
claimed-second x y t u = go (is_claimed x) t (is_claimed y) u
  where
    go : (a : Bool) → a ≡ true → (b : Bool)
        → b ≡ true → Contains (cond a (x ∷ []) [] ++ cond b (y ∷ []) [] ++ cond (is_claimed null) (null ∷ []) []) y
    go true ea true eb = (1, omega arith, refl)
    go true ea false eb = cc eb
    go false ea b eb = cc ea

module _ (k : Books) (W : World) (says : Says k W) where
  pub is-free : (b : ℕ) → is_set k.free_blocks b ≡ true → b < k.at.blocks → is_free_block W b ≡ true
  is-free b free low = sym (says.free_blocks b low) ∙ free

  stamp-is : k.at.mount * 2 ^ 40 + k.serial ≡ next_stamp W
  stamp-is = let m = says.mount in let s = says.serial in (λ j. sym m j * 2 ^ 40 + sym s j)

  pub in-world : (b : ℕ) → b < k.at.blocks → b < W.blocks
  in-world b low = subst (λ (n : ℕ). b < n) (sym says.blocks) low

  module _ (d g : ℕ) (name : List ℕ) (i of : ℕ) where
    pub claim-none : blocks_needed W.files (step.Link d g name i of) ≡ 0 → IsClaim W (step.Link d g name i of) no_claims
    claim-none needs = record {
      inode = NoInode refl refl;
      cell = subst (λ (n : ℕ). IsBlockClaim W (next_stamp W + 0) null (ltb 0 n)) (sym needs) (Unclaimed refl);
      leaf = subst (λ (n : ℕ). IsBlockClaim W (next_stamp W + 0 + 1) null (ltb 1 n)) (sym needs) (Unclaimed refl);
      top = subst (λ (n : ℕ). IsBlockClaim W (next_stamp W + 0 + 2) null (ltb 2 n)) (sym needs) (Unclaimed refl);
      apart = tt;
    }

    module _ (b : ℕ) (free : is_set k.free_blocks b ≡ true) (low : b < k.at.blocks) where
      first-block : IsBlockClaim W (next_stamp W + 0) (claimed_pointer k b) true
      first-block = Claimed (is-free b free low) (in-world b low)
          (stamp-is ∙ (let z : next_stamp W ≡ next_stamp W + 0 = omega arith in z))

      alone : (t : Bool) → Apart ((cond t (claimed_pointer k b ∷ []) [] ++ []) ++ [])
      alone true = ((λ y has. absurd (none y has)), tt)
        where
          none : (y : Pointer) → Contains [] y → ⊥
          none y (n, lt, e) = omega arith
      alone false = tt

      pub claim-cell : blocks_needed W.files (step.Link d g name i of) ≡ 1
          → IsClaim W (step.Link d g name i of) (claims_of (claimed_pointer k b) null)
      claim-cell needs = record {
        inode = NoInode refl refl;
        cell = subst (λ (n : ℕ). IsBlockClaim W (next_stamp W + 0) (claimed_pointer k b) (ltb 0 n))
            (sym needs) first-block;
        leaf = subst (λ (n : ℕ). IsBlockClaim W (next_stamp W + 0 + 1) null (ltb 1 n)) (sym needs) (Unclaimed refl);
        top = subst (λ (n : ℕ). IsBlockClaim W (next_stamp W + 0 + 2) null (ltb 2 n)) (sym needs) (Unclaimed refl);
        apart = alone (is_claimed (claimed_pointer k b));
      }

      module _ (b2 : ℕ) (free2 : is_set k.free_blocks b2 ≡ true) (low2 : b2 < k.at.blocks) (ne : b ≢ b2)
          (positive : 0 < b) (positive2 : 0 < b2) where
        second-block : IsBlockClaim W (next_stamp W + 0 + 1) (claimed_pointer (claimed_books k b) b2) true
        second-block = Claimed (is-free b2 free2 low2) (in-world b2 low2) (let s = stamp-is in omega (arith, s))

        both-apart : Apart (claimed_blocks (claims_of (claimed_pointer k b) (claimed_pointer (claimed_books k b) b2)))
        both-apart = let t = ne_eqb b 0 (λ e. omega (arith, e, positive)) in
            let u = ne_eqb b2 0 (λ e. omega (arith, e, positive2)) in
            rw (t, u) (
              (λ q has e. ne
                  (e ∙ ap (λ (w : Pointer). w.block) (sym (sole (claimed_pointer (claimed_books k b) b2) q has)))),
              ((λ q has. absurd (empty-list q has)), tt),
            )
          where
            sole : (y q : Pointer) → Contains (y ∷ []) q → y ≡ q
            sole y q (zero, lt, e) = e
            sole y q (suc n, lt, e) = absurd (omega (arith, lt))

            empty-list : (q : Pointer) → Contains [] q → ⊥
            empty-list q (n, lt, e) = omega (arith, lt)

        pub claim-both : blocks_needed W.files (step.Link d g name i of) ≡ 2
            → IsClaim W (step.Link d g name i of)
            (claims_of (claimed_pointer k b) (claimed_pointer (claimed_books k b) b2))
        claim-both needs = record {
          inode = NoInode refl refl;
          cell = subst (λ (n : ℕ). IsBlockClaim W (next_stamp W + 0) (claimed_pointer k b) (ltb 0 n))
              (sym needs) first-block;
          leaf = subst (λ (n : ℕ). IsBlockClaim W (next_stamp W + 0 + 1) (claimed_pointer (claimed_books k b) b2)
              (ltb 1 n)) (sym needs) second-block;
          top = subst (λ (n : ℕ). IsBlockClaim W (next_stamp W + 0 + 2) null (ltb 2 n)) (sym needs) (Unclaimed refl);
          apart = both-apart;
        }

-- What is claimed is free on the disk, and newer than all that is there

module _ (old : DiskState) (k : Books) (H : List Entry1) (p : Past) (s : _) (c : Claims) (o : IsOpen old k H p)
    (claim : IsClaim p.world s c) where
  free-is : ClaimsFree p.world c old.now
  free-is =
      law-claims p.world s c p.world.known_inodes (λ j. not (uses_inode p.world j)) p.world.known_blocks
      (λ q. not (uses_block p.world q)) old.now
      (law-good p.world old.now (world-numbers old k H p o) (open-files old k H p o) o.homes) claim

  pub new-block : (x : Pointer) → Contains (claimed_blocks c) x
      → next_stamp p.world ≤ x.stamp → IsNewBlock (next_stamp p.world) old.now x
  new-block x has fresh = record {
    free = free-is.block_free x has;
    area = free-is.block_data x has;
    fresh = fresh;
  }

-- The books after the claims

no-claim : (q : Pointer) → IsClaimed no_claims q → ⊥
no-claim q h = let e : null ≡ q = elim h.1 [ inl e ↦ e | inr r ↦ elim r [ inl e ↦ e | inr e ↦ e ] ] in let t = h.0 in
    let z : is_claimed q ≡ false = sym
    (ap is_claimed e) in cc (z, t)

pub taken-none : (k : Books) → Takes k k no_claims 0
taken-none k = record {
  same = (λ j. record k { serial = add-zero k.serial j });
  here = λ x h. absurd (no-claim x h);
  other = λ n off. refl;
}
  where
    add-zero : (n : ℕ) → n ≡ n + 0
    add-zero n = omega arith

-- a claimed pointer of one is it
one-claim : (x q : Pointer) → IsClaimed (claims_of x null) q → x ≡ q
one-claim x q h = elim h.1 [ inl e ↦ e | inr r ↦ absurd (not-null (elim r [ inl e ↦ e | inr e ↦ e ])) ]
  where
    not-null : null ≡ q → ⊥
    not-null e = let t = h.0 in let z : is_claimed q ≡ false = sym (ap is_claimed e) in cc (z, t)

pub taken-cell : (k : Books) (b : ℕ) → 0 < b → b < length k.free_blocks
    → Takes k (claimed_books k b) (claims_of (claimed_pointer k b) null) 1
taken-cell k b positive low = record {
  same = refl;
  here = λ x h. subst (λ (q : Pointer). is_set (slice_set k.free_blocks b false) q.block ≡ false)
      (one-claim (claimed_pointer k b) x h)
      (set-here k.free_blocks b false low);
  other = λ n off. set-other k.free_blocks b n false
      (off (claimed_pointer k b) (let t = ne_eqb b 0 (λ e. omega (arith, e, positive)) in rw t refl, inl refl));
}

pub taken-both : (k : Books) (b b2 : ℕ) → 0 < b → 0 < b2 → b < length k.free_blocks → b2 < length k.free_blocks
    → Takes k (claimed_books (claimed_books k b) b2)
    (claims_of (claimed_pointer k b) (claimed_pointer (claimed_books k b) b2)) 2
taken-both k b b2 positive positive2 low low2 = record {
  same = (λ j. record (claimed_books (claimed_books k b) b2) { serial = twice k.serial j });
  here = λ x h. elim h.1 [
    | inl e ↦ subst
        (λ (q : Pointer). is_set (slice_set (slice_set k.free_blocks b false) b2 false) q.block ≡ false) e (first-off)
    | inr r ↦ elim r [
      | inl e ↦ subst (λ (q : Pointer). is_set (slice_set (slice_set k.free_blocks b false) b2 false) q.block ≡ false) e
          (set-here (slice_set k.free_blocks b false) b2 false
          (subst (λ (n : ℕ). b2 < n) (sym (set-length k.free_blocks b false)) low2))
      | inr e ↦ absurd (let t = h.0 in let z : is_claimed x ≡ false = sym (ap is_claimed e) in cc (z, t))
    ]
  ];
  other = λ n off. set-other (slice_set k.free_blocks b false) b2 n false
      (off (claimed_pointer (claimed_books k b) b2)
      (let t = ne_eqb b2 0 (λ e. omega (arith, e, positive2)) in rw t refl, inr (inl refl)))
      ∙ set-other k.free_blocks b n false
      (off (claimed_pointer k b) (let t = ne_eqb b 0 (λ e. omega (arith, e, positive)) in rw t refl, inl refl));
}
  where
    twice : (n : ℕ) → n + 1 + 1 ≡ n + 2
    twice n = omega arith

    first-off : is_set (slice_set (slice_set k.free_blocks b false) b2 false) b ≡ false
    first-off = elim (cases_eq b b2) [
      | inl e ↦ ap (is_set (slice_set (slice_set k.free_blocks b false) b2 false)) e
          ∙ set-here (slice_set k.free_blocks b false) b2 false
          (subst (λ (n : ℕ). b2 < n) (sym (set-length k.free_blocks b false)) low2)
      | inr ne ↦ set-other (slice_set k.free_blocks b false) b2 b false ne ∙ set-here k.free_blocks b false low
    ]
