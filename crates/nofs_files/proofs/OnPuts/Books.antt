-- The claim of one block, of two and of three, by the books.
use Rattle.std.proofs.Common.{◌≡◌, ◌≢◌, ℕ, ◌+◌, ◌*◌, ◌^◌, ◌<◌, inl, inr, true, false, eqb, ne_eqb, not, List, length}
use Rattle.std.proofs.Common.{refl, sym, ap, ◌∙◌, subst, subst₂, arith}
use Rattle.std.specs.Prelude.{slice_set}
use Rattle.nofs_bits.specs.Bits.{is_set}
use Rattle.nofs_disk.specs.Disk.{DiskState}
use Rattle.nofs_disk.specs.declared.tag.Pointer.{Pointer}
use Rattle.nofs_disk.specs.Pointer.{null}
use Rattle.nofs_history.specs.World.{blocks_for}
use Rattle.nofs_history.specs.Claims.{IsClaim, claimed_blocks, is_claimed, next_stamp}
use Rattle.nofs_history.specs.declared.machine.history.Claims.{Claims}
use Rattle.nofs_history.specs.declared.machine.history.Entry1.{Entry1}
use Rattle.nofs_state.specs.Books.Maps.{IsSafe, claimed_books, claimed_pointer}
use Rattle.nofs_state.specs.Cores.Invariant.{IsOpen, Past}
use Rattle.nofs_state.specs.declared.books.maps.Books.{Books}
use Rattle.nofs_state.proofs.OnBooks.Bits.{set-here, set-length, set-other}
use Rattle.nofs_files.specs.Puts.{AreThreeFree, AreTwoFree, HasRoom, IsOneFree, one_claim, step_of_put, three_books}
use Rattle.nofs_files.specs.Puts.{three_claims, two_books, two_claims}
use Rattle.nofs_files.specs.declared.puts.put.Put.{Put}
use Rattle.nofs_state.proofs.OnBooks.Claims.{claimed-safe}
use Rattle.nofs_files.proofs.OnPuts.Claims.{IsTaken, claim-one, claim-three, claim-two}
use Rattle.nofs_state.proofs.OnBooks.ClaimedBlocks.{Takes}

-- so many blocks are claimed: the books follow, a later disk stays safe, and the claim is one of the machine
pub record IsTaking (d e : DiskState) (k l : Books) (p : Put) (c : Claims) (m : ℕ) : Type 0 where
  pub takes : Takes k l c m
  pub number : length (claimed_blocks c) ≡ m
  pub safe : IsSafe e k → IsSafe e l
  pub claim : (H : List Entry1) (q : Past) → IsOpen d k H q
      → blocks_for q.world.files p.inode p.slot ≡ m → IsClaim q.world (step_of_put p) c

-- the parts of a claim that name a block: one, two that differ, three
pub record NamesOne (c : Claims) : Type 0 where
  pub cell : is_claimed c.cell ≡ true
  pub leaf : is_claimed c.leaf ≡ false
  pub top : is_claimed c.top ≡ false

pub record NamesTwo (c : Claims) : Type 0 where
  pub cell : is_claimed c.cell ≡ true
  pub leaf : is_claimed c.leaf ≡ true
  pub top : is_claimed c.top ≡ false
  pub apart : c.cell.block ≢ c.leaf.block

pub record NamesThree (c : Claims) : Type 0 where
  pub cell : is_claimed c.cell ≡ true
  pub leaf : is_claimed c.leaf ≡ true
  pub top : is_claimed c.top ≡ true
  pub cell_leaf : c.cell.block ≢ c.leaf.block
  pub cell_top : c.cell.block ≢ c.top.block
  pub leaf_top : c.leaf.block ≢ c.top.block

-- no part that names nothing is a block
unnamed : (y : Pointer) → null ≡ y → is_claimed y ≡ true → ⊥
unnamed y s t = let z : is_claimed y ≡ false = ap is_claimed (sym s) in cc (z, t)

-- a block that is claimed is not the superblock
pub claimed-not-zero : (x : Pointer) → is_claimed x ≡ true → x.block ≢ 0
claimed-not-zero x t e = let z : is_claimed x ≡ false = rw e refl in cc (z, t)

named : (d : DiskState) (k l : Books) (b : ℕ) → IsSafe d k
    → is_set k.free_blocks b ≡ true → is_claimed (claimed_pointer l b) ≡ true
named d k l b safe free = let q = safe.in_area b free in
    let t : eqb b 0 ≡ false = ne_eqb b 0 (λ e. omega (arith, e, q)) in ap not t

-- a block of the maps is taken in the machine's world, as the first, the second or the third of a claim
pub taken : (d : DiskState) (k : Books) (H : List Entry1) (q : Past) (b : ℕ) → IsSafe d k → IsOpen d k H q
    → b < k.at.blocks → is_set k.free_blocks b ≡ true
    → IsTaken q.world (next_stamp q.world + 0) (claimed_pointer k b)
taken d k H q b safe o within free = record {
  free = sym (o.says.free_blocks b within) ∙ free;
  range = (let e = o.says.blocks in omega (arith, within, e));
  stamp_is = (let e : (claimed_pointer k b).stamp ≡ next_stamp q.world =
      (let a = o.says.mount in let s = o.says.serial in λ j. sym a j * 2 ^ 40 + sym s j)
      in omega (arith, e));
  named = named d k k b safe free;
}

taken-second : (d : DiskState) (k : Books) (H : List Entry1) (q : Past) (b e : ℕ) → IsSafe d k → IsOpen d k H q
    → e < k.at.blocks
    → is_set k.free_blocks e ≡ true
    → IsTaken q.world (next_stamp q.world + 0 + 1) (claimed_pointer (claimed_books k b) e)
taken-second d k H q b e safe o within free = let t = taken d k H q e safe o within free in record {
  free = t.free;
  range = t.range;
  stamp_is = (let s = t.stamp_is in omega (arith, s));
  named = t.named;
}

taken-third : (d : DiskState) (k : Books) (H : List Entry1) (q : Past) (b e h : ℕ) → IsSafe d k → IsOpen d k H q
    → h < k.at.blocks
    → is_set k.free_blocks h ≡ true → IsTaken q.world (next_stamp q.world + 0 + 2) (claimed_pointer (two_books k b e) h)
taken-third d k H q b e h safe o within free = let t = taken d k H q h safe o within free in
    record { free = t.free; range = t.range; stamp_is = (let s = t.stamp_is in omega (arith, s)); named = t.named }

-- the books after one claim, after two and after three
take-one : (k : Books) (b : ℕ) → b < length k.free_blocks
    → is_claimed (claimed_pointer k b) ≡ true → Takes k (claimed_books k b) (one_claim k b) 1
take-one k b low claimed = record {
  same = refl;
  here = λ y q. elim q.1 [
    | inl s ↦ subst (λ (n : ℕ). is_set (slice_set k.free_blocks b false) n ≡ false) (ap (λ (z : Pointer). z.block) s)
        (set-here k.free_blocks b false low)
    | inr r ↦ elim r [ inl s ↦ absurd (unnamed y s q.0) | inr s ↦ absurd (unnamed y s q.0) ]
  ];
  other = λ n off. set-other k.free_blocks b n false (λ s. off (claimed_pointer k b) (claimed, inl refl) s);
}

take-two : (k : Books) (b e : ℕ) → b < length k.free_blocks → e < length k.free_blocks
    → b ≢ e → is_claimed (claimed_pointer k b) ≡ true
    → is_claimed (claimed_pointer (claimed_books k b) e) ≡ true → Takes k (two_books k b e) (two_claims k b e) 2
take-two k b e low low-e ne claimed-b claimed-e = record {
  same = λ j. record k {
    free_blocks = slice_set (slice_set k.free_blocks b false) e false;
    serial = (let e : k.serial + 1 + 1 ≡ k.serial + 2 = omega arith in e) j;
  };
  here = λ y q. elim q.1 [
    | inl s ↦ at-block y (claimed_pointer k b) s
        (set-other (slice_set k.free_blocks b false) e b false ne ∙ set-here k.free_blocks b false low)
    | inr r ↦ elim r [
      | inl s ↦ at-block y (claimed_pointer (claimed_books k b) e) s (set-here (slice_set k.free_blocks b false) e false
          (let t = set-length k.free_blocks b false in omega (arith, t, low-e)))
      | inr s ↦ absurd (unnamed y s q.0)
    ]
  ];
  other = λ n off. set-other (slice_set k.free_blocks b false) e n false
      (λ s. off (claimed_pointer (claimed_books k b) e) (claimed-e, inr (inl refl)) s)
      ∙ set-other k.free_blocks b n false (λ s. off (claimed_pointer k b) (claimed-b, inl refl) s);
}
  where
    at-block : (y x : Pointer) → x ≡ y → is_set (slice_set (slice_set k.free_blocks b false) e false) x.block ≡ false
        → is_set (slice_set (slice_set k.free_blocks b false) e false) y.block ≡ false
    at-block y x s t =
        subst (λ (w : Pointer). is_set (slice_set (slice_set k.free_blocks b false) e false) w.block ≡ false) s t

take-three : (k : Books) (b e h : ℕ) → b < length k.free_blocks → e < length k.free_blocks → h < length k.free_blocks
    → b ≢ e → b ≢ h → e ≢ h
    → is_claimed (claimed_pointer k b) ≡ true → is_claimed (claimed_pointer (claimed_books k b) e) ≡ true
    → is_claimed (claimed_pointer (two_books k b e) h) ≡ true → Takes k (three_books k b e h) (three_claims k b e h) 3
take-three k b e h low low-e low-h be bh eh claimed-b claimed-e claimed-h = record {
  same = λ j. record k {
    free_blocks = slice_set (slice_set (slice_set k.free_blocks b false) e false) h false;
    serial = (let e : k.serial + 1 + 1 + 1 ≡ k.serial + 3 = omega arith in e) j;
  };
  here = λ y q. elim q.1 [
    | inl s ↦ at-block y (claimed_pointer k b) s
        (set-other (slice_set (slice_set k.free_blocks b false) e false) h b false bh
        ∙ set-other (slice_set k.free_blocks b false) e b false be ∙ set-here k.free_blocks b false low)
    | inr r ↦ elim r [
      | inl s ↦ at-block y (claimed_pointer (claimed_books k b) e) s
          (set-other (slice_set (slice_set k.free_blocks b false) e false) h e false eh
          ∙ set-here (slice_set k.free_blocks b false) e false
          (let t = set-length k.free_blocks b false in omega (arith, t, low-e)))
      | inr s ↦ at-block y (claimed_pointer (two_books k b e) h) s
          (set-here (slice_set (slice_set k.free_blocks b false) e false) h false
          (let t = set-length k.free_blocks b false in let w = set-length (slice_set k.free_blocks b false) e false in
          omega (arith, t, w, low-h)))
    ]
  ];
  other = λ n off. set-other (slice_set (slice_set k.free_blocks b false) e false) h n false
      (λ s. off (claimed_pointer (two_books k b e) h) (claimed-h, inr (inr refl)) s)
      ∙ set-other (slice_set k.free_blocks b false) e n false
      (λ s. off (claimed_pointer (claimed_books k b) e) (claimed-e, inr (inl refl)) s)
      ∙ set-other k.free_blocks b n false (λ s. off (claimed_pointer k b) (claimed-b, inl refl) s);
}
  where
    at-block : (y x : Pointer)
        → x ≡ y → is_set (slice_set (slice_set (slice_set k.free_blocks b false) e false) h false) x.block ≡ false
        → is_set (slice_set (slice_set (slice_set k.free_blocks b false) e false) h false) y.block ≡ false
    at-block y x s t = subst (λ (w : Pointer).
        is_set (slice_set (slice_set (slice_set k.free_blocks b false) e false) h false) w.block ≡ false) s t

module _ {d mid : DiskState} {k l : Books} {p : Put} {c : Claims} (safe : IsSafe d k) where
  pub takes-one : {b : ℕ} → IsOneFree k.free_blocks b → HasRoom k 1 → c ≡ one_claim k b → l ≡ claimed_books k b
      → IsTaking d mid k l p c 1 × NamesOne c
  takes-one {b} free room claims books =
      subst₂ (λ (c : Claims) (l : Books). IsTaking d mid k l p c 1 × NamesOne c) (sym claims) (sym books) (
        record {
          takes = take-one k b free.range cell;
          number = rw cell refl;
          safe = λ s. claimed-safe mid k b within (let t = room.stamps in omega (arith, t)) s;
          claim = λ H q o needs. claim-one q.world p.inode p.generation p.slot p.at p.bytes.now (claimed_pointer k b)
              (taken d k H q b safe o within free.first)
              needs;
        },
        record { cell = cell; leaf = refl; top = refl },
      )
    where
      within : b < k.at.blocks
      within = let f = free.range in let s = safe.free_blocks in omega (arith, f, s)

      cell : is_claimed (claimed_pointer k b) ≡ true
      cell = named d k k b safe free.first

  pub takes-two : {b e : ℕ} → AreTwoFree k.free_blocks b e → HasRoom k 2 → c ≡ two_claims k b e → l ≡ two_books k b e
      → IsTaking d mid k l p c 2 × NamesTwo c
  takes-two {b} {e} free room claims books =
      subst₂ (λ (c : Claims) (l : Books). IsTaking d mid k l p c 2 × NamesTwo c) (sym claims) (sym books) (
        record {
          takes = take-two k b e low free.range apart cell leaf;
          number = rw (cell, leaf) refl;
          safe = λ s. let t = room.stamps in
              claimed-safe mid (claimed_books k b) e within-e (omega (arith, t))
              (claimed-safe mid k b within (omega (arith, t)) s);
          claim = λ H q o needs. claim-two q.world p.inode p.generation p.slot p.at p.bytes.now (claimed_pointer k b)
              (claimed_pointer (claimed_books k b) e)
              (taken d k H q b safe o within free.first)
              (taken-second d k H q b e safe o within-e free.second) apart needs;
        },
        record { cell = cell; leaf = leaf; top = refl; apart = apart },
      )
    where
      low : b < length k.free_blocks
      low = let f = free.order in let g = free.range in omega (arith, f, g)

      within : b < k.at.blocks
      within = let f = low in let s = safe.free_blocks in omega (arith, f, s)

      within-e : e < k.at.blocks
      within-e = let f = free.range in let s = safe.free_blocks in omega (arith, f, s)

      apart : b ≢ e
      apart s = let f = free.order in omega (arith, f, s)

      cell : is_claimed (claimed_pointer k b) ≡ true
      cell = named d k k b safe free.first

      leaf : is_claimed (claimed_pointer (claimed_books k b) e) ≡ true
      leaf = named d k (claimed_books k b) e safe free.second

  pub takes-three : {b e h : ℕ} → AreThreeFree k.free_blocks b e h → HasRoom k 3 → c ≡ three_claims k b e h
      → l ≡ three_books k b e h
      → IsTaking d mid k l p c 3 × NamesThree c
  takes-three {b} {e} {h} free room claims books =
      subst₂ (λ (c : Claims) (l : Books). IsTaking d mid k l p c 3 × NamesThree c) (sym claims) (sym books) (
        record {
          takes = take-three k b e h (omega (arith, be, low-e)) low-e free.range ne-be ne-bh ne-eh cell leaf top;
          number = rw (cell, leaf, top) refl;
          safe = λ s. let t = room.stamps in
              claimed-safe mid (two_books k b e) h (within h free.range) (omega (arith, t))
              (claimed-safe mid (claimed_books k b) e (within e low-e) (omega (arith, t))
              (claimed-safe mid k b (within b (omega (arith, be, low-e))) (omega (arith, t)) s));
          claim = λ H q o needs. claim-three q.world p.inode p.generation p.slot p.at p.bytes.now (claimed_pointer k b)
              (claimed_pointer (claimed_books k b) e)
              (taken d k H q b safe o (within b (omega (arith, be, low-e))) two.first)
              (taken-second d k H q b e safe o (within e low-e) two.second) ne-be
              (claimed_pointer (two_books k b e) h)
              (taken-third d k H q b e h safe o (within h free.range) free.third) ne-bh ne-eh needs;
        },
        record { cell = cell; leaf = leaf; top = top; cell_leaf = ne-be; cell_top = ne-bh; leaf_top = ne-eh },
      )
    where
      two : AreTwoFree k.free_blocks b e
      two = free.two

      be : b < e
      be = free.two.order

      eh : e < h
      eh = free.order

      low-e : e < length k.free_blocks
      low-e = free.two.range

      within : (n : ℕ) → n < length k.free_blocks → n < k.at.blocks
      within n f = let s = safe.free_blocks in omega (arith, f, s)

      ne-be : b ≢ e
      ne-be s = let f = be in omega (arith, f, s)

      ne-bh : b ≢ h
      ne-bh s = let f = be in let g = eh in omega (arith, f, g, s)

      ne-eh : e ≢ h
      ne-eh s = let g = eh in omega (arith, g, s)

      cell : is_claimed (claimed_pointer k b) ≡ true
      cell = named d k k b safe free.two.first

      leaf : is_claimed (claimed_pointer (claimed_books k b) e) ≡ true
      leaf = named d k (claimed_books k b) e safe free.two.second

      top : is_claimed (claimed_pointer (two_books k b e) h) ≡ true
      top = named d k (two_books k b e) h safe free.third
