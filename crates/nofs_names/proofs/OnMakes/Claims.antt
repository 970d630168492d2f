-- What a Make asks for, and what it claims.
use Rattle.std.proofs.Common.{◌≡◌, ◌≢◌, ℕ, zero, suc, ◌+◌, ◌-◌, ◌*◌, ◌/◌, ◌^◌, ◌<◌, ◌≤◌, ◌⊎◌, Bool, true, false, eqb}
use Rattle.std.proofs.Common.{ne_eqb, ltb, not, List, [], ◌∷◌, length}
use Rattle.std.proofs.Common.{Some, inl, inr, refl, sym, ap, ◌∙◌, subst, arith, Contains}
use Rattle.nofs_agree.proofs.OnKnown.{told-other, told-set}
use Rattle.std.specs.Prelude.{slice_set}
use Rattle.std.proofs.lemmas.Bool.{cases_eq}
use Rattle.nofs_dirent.specs.Entries.{entry_limit}
use Rattle.nofs_bits.specs.Bits.{is_set}
use Rattle.nofs_disk.specs.Disk.{DiskState}
use Rattle.nofs_inode.specs.declared.inode.FileKind.{FileKind}
use Rattle.nofs_disk.specs.declared.tag.Pointer.{Pointer}
use Rattle.nofs_super.specs.declared.superblock.SuperBlock.{SuperBlock}
use Rattle.nofs_disk.specs.Pointer.{null}
use Rattle.nofs_model.specs.Geometry.{Image}
use Rattle.nofs_model.specs.Slots.{value_in, find}
use Rattle.nofs_ptrs.specs.Paths.{leaf, path_of}
use Rattle.nofs_model.specs.Files.{files_in, agreed, Files, NodeState, Absent, Present, Damaged, node_in}
use Rattle.nofs_model.specs.declared.image.path.PathAnswer.TheVariants as answer
use Rattle.nofs_ptrs.specs.PathLaws.{path-direct, path-leaf}
use Rattle.nofs_history.specs.Meta.{is_bytes}
use Rattle.nofs_history.specs.Machine.{value_of, node_of, place_for}
use Rattle.nofs_history.specs.World.{World, blocks_at, blocks_for, blocks_needed, is_free_block}
use Rattle.nofs_history.specs.Claims.{IsClaim, IsBlockClaim, IsInodeClaim, Claimed, Unclaimed, ClaimedInode, Apart}
use Rattle.nofs_history.specs.Claims.{claimed_blocks, is_claimed, next_stamp}
use Rattle.nofs_history.specs.History.{FilesMatch}
use Rattle.nofs_history.specs.declared.machine.history.Claims.{Claims}
use Rattle.nofs_history.specs.declared.machine.history.Entry1.{Entry1}
use Rattle.nofs_history.specs.declared.machine.steps.Step.TheVariants as step
use Rattle.nofs_crashlaw.proofs.OnUntouched.Matches.{Matched, matched-agreed}
use Rattle.nofs_crashlaw.proofs.OnNames.Files.{file-of}
use Rattle.nofs_state.specs.Books.Maps.{IsSafe, claimed_books, made_books}
use Rattle.nofs_state.specs.Cores.Invariant.{IsOpen, Past}
use Rattle.nofs_state.specs.declared.books.maps.Books.{Books}
use Rattle.nofs_names.specs.Entries.Places.{FitsSlot, IsEntrySlot, slot_blocks}
use Rattle.nofs_names.specs.declared.entries.places.EntrySlot.{EntrySlot}
use Rattle.nofs_names.specs.declared.entries.places.EntrySlot.TheVariants.{Held as HeldSlot, Direct as DirectHole}
use Rattle.nofs_names.specs.declared.entries.places.EntrySlot.TheVariants.{UnderLeaf as HoleUnder, WithLeaf as HoleWith}
use Rattle.nofs_state.proofs.OnBooks.Machine.{agreed-live}
use Rattle.nofs_state.proofs.OnBooks.Bits.{set-here, set-other, set-length}
use Rattle.nofs_names.proofs.OnSteps.Claims.{TakenBoth, TakenInode}

plus-none : (m : ℕ) → 1 + (0 + m) ≡ 1 + m
plus-none m = omega arith

module _ (F : Files) (X : Image) (d e : ℕ) (match : FilesMatch F X) (agrees : agreed (files_in X) d ≡ true)
    (range : e < entry_limit) where
  own : Matched F X d
  own = matched-agreed F X d match (agreed-live X d agrees) agrees

  value-is : value_of F d (e / 16) ≡ value_in X (find X d (path_of (e / 16)))
  value-is = let i = own.is in
      rw (i, value_of) ((file-of F X d own.file match own.is).1.values (e / 16) (omega (arith, range)))

  leaf-is : node_of F d leaf ≡ node_in (find X d leaf)
  leaf-is = let i = own.is in rw (i, node_of) ((file-of F X d own.file match own.is).1.nodes leaf (omega arith) refl)

  in-hole : find X d (path_of (e / 16)) ≡ answer.Hole → is_bytes (value_of F d (e / 16)) ≡ false
  in-hole h = ap is_bytes (value-is ∙ ap (value_in X) h)

  under : (n : NodeState) → find X d (path_of (e / 16)) ≡ answer.Hole → 8 ≤ e / 16 → node_of F d leaf ≡ n
      → blocks_for F d (e / 16) ≡ 1 + elim n [ Absent ↦ 1 | Present ↦ 0 | Damaged ↦ 0 ]
  under n h far en = let v = in-hole h in let p = path-leaf (e / 16) far (omega (arith, range)) in rw (v, p, en)
      (plus-none (elim n [ Absent ↦ 1 | Present ↦ 0 | Damaged ↦ 0 ]))

  asks-for : (at : SuperBlock) (s : EntrySlot) → FitsSlot at (e / 16) s → IsEntrySlot X d (e / 16) s
      → blocks_for F d (e / 16) ≡ slot_blocks s
  asks-for at (HeldSlot x) f h =
      let v : is_bytes (value_of F d (e / 16)) ≡ true = ap is_bytes (value-is ∙ ap (value_in X) h) in rw v refl
  asks-for at DirectHole f h = let v = in-hole h in let p = path-direct (e / 16) f in rw (v, p) refl
  asks-for at (HoleUnder y) f h = under Present h.0 f.0 (leaf-is ∙ ap node_in h.1)
  asks-for at HoleWith f h = under Absent h.0 f (leaf-is ∙ ap node_in h.1)

  pub make-asks : (g : ℕ) (name : List ℕ) (kind : FileKind) (at : SuperBlock) (s : EntrySlot)
      → place_for F d name ≡ Some e → FitsSlot at (e / 16) s
      → IsEntrySlot X d (e / 16) s → blocks_needed F (step.Make d g name kind) ≡ slot_blocks s
  make-asks g name kind at s place f h = ap (blocks_at F d) place ∙ asks-for at s f h

-- The claims of a Make

abbrev pub make_claims : ℕ → ℕ → Pointer → Pointer → Claims
make_claims i g x y = record { inode = i; generation = g; cell = x; leaf = y; top = null }

-- a block that is known and free, with this stamp
pub record IsPicked (W : World) (stamp : ℕ) (x : Pointer) : Type 0 where
  pub free : is_free_block W x.block ≡ true
  pub range : x.block < W.blocks
  pub stamp_is : x.stamp ≡ stamp
  pub named : is_claimed x ≡ true

module _ (W : World) (d g : ℕ) (name : List ℕ) (kind : FileKind) (i : ℕ) (n : ℕ)
    (inode : IsInodeClaim W (next_stamp W) (make_claims i n null null) true) where
  inode-for : (x y : Pointer) → IsInodeClaim W (next_stamp W) (make_claims i n x y) true
  inode-for x y = go inode
    where
      go : IsInodeClaim W (next_stamp W) (make_claims i n null null) true
          → IsInodeClaim W (next_stamp W) (make_claims i n x y) true
      go (ClaimedInode free low high is) = ClaimedInode free low high is

  pub claims-none : blocks_needed W.files (step.Make d g name kind) ≡ 0
      → IsClaim W (step.Make d g name kind) (make_claims i n null null)
  claims-none needs = record {
    inode = inode;
    cell = subst (λ (m : ℕ). IsBlockClaim W (next_stamp W + 1) null (ltb 0 m)) (sym needs) (Unclaimed refl);
    leaf = subst (λ (m : ℕ). IsBlockClaim W (next_stamp W + 1 + 1) null (ltb 1 m)) (sym needs) (Unclaimed refl);
    top = subst (λ (m : ℕ). IsBlockClaim W (next_stamp W + 1 + 2) null (ltb 2 m)) (sym needs) (Unclaimed refl);
    apart = tt;
  }

  nothing-in : (y : Pointer) → Contains [] y → ⊥
  nothing-in y (m, lt, e) = omega (arith, lt)

  sole : (y q : Pointer) → Contains (y ∷ []) q → y ≡ q
  sole y q (zero, lt, e) = e
  sole y q (suc m, lt, e) = absurd (omega (arith, lt))

  pub claims-one : (x : Pointer) → blocks_needed W.files (step.Make d g name kind) ≡ 1 → IsPicked W (next_stamp W + 1) x
      → IsClaim W (step.Make d g name kind) (make_claims i n x null)
  claims-one x needs h = record {
    inode = inode-for x null;
    cell = subst (λ (m : ℕ). IsBlockClaim W (next_stamp W + 1) x (ltb 0 m)) (sym needs)
        (Claimed h.free h.range h.stamp_is);
    leaf = subst (λ (m : ℕ). IsBlockClaim W (next_stamp W + 1 + 1) null (ltb 1 m)) (sym needs) (Unclaimed refl);
    top = subst (λ (m : ℕ). IsBlockClaim W (next_stamp W + 1 + 2) null (ltb 2 m)) (sym needs) (Unclaimed refl);
    apart = let t = h.named in subst Apart (let q : x ∷ [] ≡ claimed_blocks (make_claims i n x null) = rw t refl in q)
        ((λ y has. absurd (nothing-in y has)), tt);
  }

  pub claims-two : (x y : Pointer) → blocks_needed W.files (step.Make d g name kind) ≡ 2
      → IsPicked W (next_stamp W + 1) x → IsPicked W (next_stamp W + 1 + 1) y
      → x.block ≢ y.block → IsClaim W (step.Make d g name kind) (make_claims i n x y)
  claims-two x y needs h q ne = record {
    inode = inode-for x y;
    cell = subst (λ (m : ℕ). IsBlockClaim W (next_stamp W + 1) x (ltb 0 m)) (sym needs)
        (Claimed h.free h.range h.stamp_is);
    leaf = subst (λ (m : ℕ). IsBlockClaim W (next_stamp W + 1 + 1) y (ltb 1 m)) (sym needs)
        (Claimed q.free q.range q.stamp_is);
    top = subst (λ (m : ℕ). IsBlockClaim W (next_stamp W + 1 + 2) null (ltb 2 m)) (sym needs) (Unclaimed refl);
    apart = let t = h.named in let u = q.named in
        subst Apart (let w : x ∷ y ∷ [] ≡ claimed_blocks (make_claims i n x y) = rw (t, u) refl in w) (
          (λ z has e. ne (e ∙ ap (λ (p : Pointer). p.block) (sym (sole y z has)))),
          ((λ z has. absurd (nothing-in z has)), tt),
        );
  }

-- The claims by the maps

module _ (d : DiskState) (k : Books) (H : List Entry1) (p : Past) (safe : IsSafe d k) (o : IsOpen d k H p) where
  pub next-is : next_stamp p.world ≡ k.at.mount * 2 ^ 40 + k.serial
  next-is = let m = o.says.mount in let s = o.says.serial in omega (arith, m, s)

  -- an inode that the map has as free
  pub inode-picked : (i : ℕ) → 1 ≤ i → i ≤ k.at.inodes → is_set k.free_inodes (i - 1) ≡ true
      → IsInodeClaim p.world (next_stamp p.world) (make_claims i (k.at.mount * 2 ^ 40 + k.serial) null null) true
  inode-picked i low high set = ClaimedInode (sym (o.says.free_inodes i low high) ∙ set) low
      (let n = o.says.inodes in omega (arith, high, n)) (sym next-is)

  -- a block that it has as free, claimed after m stamps
  pub block-picked : (b m : ℕ) → b < k.at.blocks → is_set k.free_blocks b ≡ true
      → IsPicked p.world (next_stamp p.world + m) (record { block = b; stamp = k.at.mount * 2 ^ 40 + (k.serial + m) })
  block-picked b m low set = record {
    free = sym (o.says.free_blocks b low) ∙ set;
    range = (let n = o.says.blocks in omega (arith, low, n));
    stamp_is = (let n = next-is in omega (arith, n));
    named = (let z : eqb b 0 ≡ false = ne_eqb b 0 (λ e. let a = safe.in_area b set in omega (arith, a, e)) in ap not z);
  }

-- The books after the claims

not-null : (x : Pointer) → null ≡ x → is_claimed x ≡ true → ⊥
not-null x e t = let z : is_claimed x ≡ false = ap is_claimed (sym e) in cc (z, t)

module _ (k : Books) (i n : ℕ) (low : 1 ≤ i) (high : i ≤ length k.free_inodes) where
  other-place : (j : ℕ) → 1 ≤ j → j ≢ i → j - 1 ≢ i - 1
  other-place j a ne e = ne (let l = low in omega (arith, a, l, e))

  inode-taken : TakenInode k (slice_set k.free_inodes (i - 1) false) (slice_set k.agreement (i - 1) (Some true)) i
  inode-taken = record {
    here = set-here k.free_inodes (i - 1) false (let h = high in let l = low in omega (arith, h, l));
    others = λ j a ne. set-other k.free_inodes (i - 1) (j - 1) false (other-place j a ne);
    agreed = λ a t. told-set k.agreement i (Some true) a low t;
    told_as = λ j ne. told-other k.agreement i j (Some true) low ne;
  }

  -- with these blocks free, and this serial
  abbrev books : List Bool → ℕ → Books
  books free m = record k {
    free_inodes = slice_set k.free_inodes (i - 1) false;
    agreement = slice_set k.agreement (i - 1) (Some true);
    free_blocks = free;
    serial = m;
  }

  pub taken-none : TakenBoth k (made_books k i) (make_claims i n null null) 0
  taken-none = record {
    all = record {
      same = ap (books k.free_blocks) (let e : k.serial + 1 ≡ k.serial + (1 + 0) = omega arith in e);
      here = λ x h. absurd (elim h.1
          [ inl e ↦ not-null x e h.0 | inr r ↦ elim r [ inl e ↦ not-null x e h.0 | inr e ↦ not-null x e h.0 ] ]);
      other = λ m none. refl;
    };
    inode = inode-taken;
  }

  pub taken-one : (x : Pointer) → x.block < length k.free_blocks → is_claimed x ≡ true
      → TakenBoth k (claimed_books (made_books k i) x.block) (make_claims i n x null) 1
  taken-one x range named = record {
    all = record {
      same = ap (books (slice_set k.free_blocks x.block false))
          (let e : k.serial + 1 + 1 ≡ k.serial + (1 + 1) = omega arith in e);
      here = λ q h. elim h.1 [
        | inl e ↦ subst (λ (z : Pointer). is_set (slice_set k.free_blocks x.block false) z.block ≡ false) e
            (set-here k.free_blocks x.block false range)
        | inr r ↦ absurd (elim r [ inl e ↦ not-null q e h.0 | inr e ↦ not-null q e h.0 ])
      ];
      other = λ m none. set-other k.free_blocks x.block m false (none x (named, inl refl));
    };
    inode = inode-taken;
  }

  pub taken-two : (x y : Pointer) → x.block < length k.free_blocks → y.block < length k.free_blocks
      → is_claimed x ≡ true → is_claimed y ≡ true
      → TakenBoth k (claimed_books (claimed_books (made_books k i) x.block) y.block) (make_claims i n x y) 2
  taken-two x y range range_y named named_y = record {
    all = record {
      same = ap (books (slice_set (slice_set k.free_blocks x.block false) y.block false))
          (let e : k.serial + 1 + 1 + 1 ≡ k.serial +
          (1 + 2) = omega arith in e);
      here = λ q h. elim h.1 [
        | inl e ↦ subst (λ (z : Pointer).
            is_set (slice_set (slice_set k.free_blocks x.block false) y.block false) z.block ≡ false) e
            (first (cases_eq x.block y.block))
        | inr r ↦ elim r [
          | inl e ↦ subst (λ (z : Pointer).
              is_set (slice_set (slice_set k.free_blocks x.block false) y.block false) z.block ≡ false) e second
          | inr e ↦ absurd (not-null q e h.0)
        ]
      ];
      other = λ m none. set-other (slice_set k.free_blocks x.block false) y.block m false
          (none y (named_y, inr (inl refl)))
          ∙ set-other k.free_blocks x.block m false (none x (named, inl refl));
    };
    inode = inode-taken;
  }
    where
      inside : y.block < length (slice_set k.free_blocks x.block false)
      inside = let l = set-length k.free_blocks x.block false in omega (arith, l, range_y)

      second : is_set (slice_set (slice_set k.free_blocks x.block false) y.block false) y.block ≡ false
      second = set-here (slice_set k.free_blocks x.block false) y.block false inside

      first : (x.block ≡ y.block) ⊎ (x.block ≢ y.block)
          → is_set (slice_set (slice_set k.free_blocks x.block false) y.block false) x.block ≡ false
      first (inl e) = subst
          (λ (b : ℕ). is_set (slice_set (slice_set k.free_blocks x.block false) y.block false) b ≡ false) (sym e) second
      first (inr ne) = set-other (slice_set k.free_blocks x.block false) y.block x.block false ne
          ∙ set-here k.free_blocks x.block false range
