-- What the maps say after blocks were freed: which are known, which are free.
use Rattle.std.proofs.Common.{◌≡◌, ◌≢◌, ℕ, ◌+◌, ◌-◌, ◌/◌, ◌<◌, ◌≤◌, ◌⊎◌, inl, inr, Bool, true, false, leb, ltb, lt-ltb}
use Rattle.std.proofs.Common.{◌&&◌, ◌||◌, not, List, length, None, is_some, refl, sym, ap, ◌∙◌, subst, arith}
use Rattle.nofs_agree.specs.Chain.{known_agreement}
use Rattle.std.proofs.lemmas.Bool.{cases_lt}
use Rattle.std.proofs.lemmas.Bool.Decides.{nat_tests}
use Rattle.std.proofs.Math.Bool.{or-false, or-true}
use Rattle.std.proofs.lemmas.List.{get_or_past}
use Rattle.nofs_bits.specs.Bits.{is_set}
use Rattle.nofs_super.specs.declared.superblock.SuperBlock.{SuperBlock}
use Rattle.nofs_model.specs.Files.{is_special}
use Rattle.nofs_history.specs.World.{World, is_fixed, uses_inode, uses_block, is_free_block}
use Rattle.nofs_history.specs.Next.{Learns, sees_inode, sees_block}
use Rattle.nofs_history.specs.declared.machine.steps.Step.{Step}
use Rattle.nofs_state.specs.Books.Maps.{IsSafe, Says, knows_inode, knows_block}
use Rattle.nofs_state.specs.Inodes.Blocks.{BlocksFreed}
use Rattle.nofs_state.specs.declared.books.maps.Books.{Books}
use Rattle.nofs_state.proofs.OnBooks.Claims.{blocks-safe}
use Rattle.nofs_disk.specs.Disk.{DiskState}

known-bit : (u f : Bool) → not (u && not f) ≡ (not u || f)
known-bit true true = refl
known-bit true false = refl
known-bit false true = refl
known-bit false false = refl

high-none : (q n : ℕ) → n ≤ q → ltb q n ≡ false
high-none q n h = grind (arith, nat_tests)

-- the maps have their sizes, and a free block lies in the data area
pub safe-freed : (d : DiskState) (k l : Books) (freed : List Bool) → IsSafe d k → BlocksFreed k l freed
    → length freed ≡ k.at.blocks
    → ((q : ℕ) → is_set freed q ≡ true → 1 + k.at.inodes / 4 ≤ q) → IsSafe d l
safe-freed d k l freed s a size area =
    subst (IsSafe d) (sym a.same) (blocks-safe d k l.free_blocks l.unknown_blocks k.serial s s.serial
    (a.blocks.unknown_size ∙ s.unknown_blocks) (a.blocks.free_size ∙ s.free_blocks)
    (λ q t. elim (cases_lt q k.at.blocks) [
      | inl low ↦ either q (is_set k.free_blocks q) (is_set freed q) refl refl (sym (a.blocks.freeing q low) ∙ t)
      | inr high ↦ s.in_area q (sym (a.blocks.free_rest q high) ∙ t)
    ]))
  where
    either : (q : ℕ) (x y : Bool)
        → is_set k.free_blocks q ≡ x → is_set freed q ≡ y → (is_set k.free_blocks q || is_set freed q) ≡ true
        → 1 + k.at.inodes / 4 ≤ q
    either q true y ex ey t = s.in_area q ex
    either q false true ex ey t = area q ey
    either q false false ex ey t =
        absurd (let z : (is_set k.free_blocks q || is_set freed q) ≡ false = rw (ex, ey) refl in cc (z, t))

module _ (k l : Books) (W V : World) (s : Step) (freed : List Bool) (says : Says k W) (a : BlocksFreed k l freed)
    (size : length freed ≡ k.at.blocks)
    (no_inode : (j : ℕ) → sees_inode s j ≡ false) (no_block : (q : ℕ) → sees_block s q ≡ false)
    (numbers : (V.version ≡ W.version) × (V.blocks ≡ W.blocks) × (V.inodes ≡ W.inodes) × (V.mount ≡ W.mount)
    × (V.serial ≡ W.serial) ×
    (V.stopped ≡ W.stopped))
    (knows_inodes : (j : ℕ) → V.known_inodes j ≡ knows_inode l j)
    (knows_blocks : (q : ℕ) → V.known_blocks q ≡ knows_block l q)
    (used : (j : ℕ) → is_some (V.files j) ≡ is_some (W.files j))
    (gone : (q : ℕ) → is_set freed q ≡ true → (V.homes q ≡ None) × (is_some (W.homes q) ≡ true))
    (kept : (q : ℕ) → is_set freed q ≡ false → V.homes q ≡ W.homes q)
    (moves : (q : ℕ) → is_set freed q ≡ true → is_fixed W q ≡ false) where
  l-at : l.at ≡ k.at
  l-at = ap (λ (b : Books). b.at) a.same

  l-inode : (j : ℕ) → knows_inode l j ≡ knows_inode k j
  l-inode j = ap (λ (b : Books). knows_inode b j) a.same

  l-block : (q : ℕ) → knows_block l q ≡ (knows_block k q || is_set freed q)
  l-block q = (λ z. ltb q (l-at z).blocks && not (is_set l.unknown_blocks q)) ∙ go (cases_lt q k.at.blocks)
    where
      go : (q < k.at.blocks) ⊎ (k.at.blocks ≤ q)
          → (ltb q k.at.blocks && not (is_set l.unknown_blocks q)) ≡ (knows_block k q || is_set freed q)
      go (inl low) =
          let t = lt-ltb q k.at.blocks low in
          (λ z. t z && not (a.blocks.knowing q low z)) ∙ known-bit (is_set k.unknown_blocks q) (is_set freed q) ∙ sym
          (λ z. (t z && not (is_set k.unknown_blocks q)) || is_set freed q)
      go (inr high) =
          let t = high-none q k.at.blocks high in
          let f : is_set freed q ≡ false = get_or_past freed q false (omega (arith, size, high)) in
          (λ z. t z && not (is_set l.unknown_blocks q)) ∙ sym (λ z. (t z && not (is_set k.unknown_blocks q)) || f z)

  fixed-same : (q : ℕ) → is_fixed V q ≡ is_fixed W q
  fixed-same q = ap (λ (n : ℕ). leb q (n / 4)) numbers.2

  inode-same : (j : ℕ) → uses_inode V j ≡ uses_inode W j
  inode-same j = ap (λ (b : Bool). is_special j || b) (used j)

  block-gone : (q : ℕ) → is_set freed q ≡ true → uses_block V q ≡ false
  block-gone q t = (λ z. (fixed-same q ∙ moves q t) z || is_some ((gone q t).0 z))

  block-was : (q : ℕ) → is_set freed q ≡ true → uses_block W q ≡ true
  block-was q t = ap (λ (b : Bool). is_fixed W q || b) (gone q t).1 ∙ or-true (is_fixed W q)

  block-same : (q : ℕ) → is_set freed q ≡ false → uses_block V q ≡ uses_block W q
  block-same q t = (λ z. fixed-same q z || is_some (kept q t z))

  differ : (x y : Bool) → x ≡ false → y ≡ true → x ≢ y
  differ x y ex ey e = cc (ex, ey, e)

  by-bit : (P : Type 0) → (q : ℕ) → (is_set freed q ≡ true → P) → (is_set freed q ≡ false → P) → P
  by-bit P q set clear = go (is_set freed q) refl
    where
      go : (b : Bool) → is_set freed q ≡ b → P
      go true e = set e
      go false e = clear e

  known-freed : (q : ℕ) → is_set freed q ≡ true → knows_block l q ≡ true
  known-freed q t = l-block q ∙ (λ z. knows_block k q || t z) ∙ or-true (knows_block k q)

  known-kept : (q : ℕ) → is_set freed q ≡ false → knows_block l q ≡ knows_block k q
  known-kept q t = l-block q ∙ (λ z. knows_block k q || t z) ∙ or-false (knows_block k q)

  cut-learns : Learns W s true V
  cut-learns = record {
    inodes_stay = λ j kn. knows_inodes j ∙ l-inode j ∙ sym (says.known_inodes j) ∙ kn;
    blocks_stay = λ q kn. knows_blocks q
        ∙ by-bit (knows_block l q ≡ true) q (known-freed q) (λ t. known-kept q t ∙ sym (says.known_blocks q) ∙ kn);
    inodes_change = λ j ne. absurd (ne (inode-same j));
    blocks_change = λ q ne. by-bit (V.known_blocks q ≡ true) q (λ t. knows_blocks q ∙ known-freed q t)
        (λ t. absurd (ne (block-same q t)));
    inode_seen = λ t j e. absurd (let z = no_inode j in cc (e, z));
    block_seen = λ t q e. absurd (let z = no_block q in cc (e, z));
    inodes_why = λ j kn. inl (says.known_inodes j ∙ sym (knows_inodes j ∙ l-inode j) ∙ kn);
    blocks_why = λ q kn. by-bit ((W.known_blocks q ≡ true) ⊎ ((uses_block V q ≡ true) ⊎
        ((uses_block V q ≢ uses_block W q) ⊎ ((true ≡ true) × (sees_block s q ≡ true))))) q
        (λ t. inr (inr (inl (differ (uses_block V q) (uses_block W q) (block-gone q t) (block-was q t)))))
        (λ t. inl (says.known_blocks q ∙ sym (knows_blocks q ∙ known-kept q t) ∙ kn));
  }

  cut-says : Says l V
  cut-says = record {
    version = numbers.0 ∙ says.version ∙ sym (ap (λ (q : SuperBlock). q.version) l-at);
    blocks = numbers.1 ∙ says.blocks ∙ sym (ap (λ (q : SuperBlock). q.blocks) l-at);
    inodes = numbers.2 ∙ says.inodes ∙ sym (ap (λ (q : SuperBlock). q.inodes) l-at);
    mount = numbers.3 ∙ says.mount ∙ sym (ap (λ (q : SuperBlock). q.mount) l-at);
    serial = numbers.4 ∙ says.serial ∙ sym (ap (λ (b : Books). b.serial) a.same);
    stopped = numbers.5 ∙ says.stopped ∙ sym (ap (λ (b : Books). b.stopped) a.same);
    known_inodes = knows_inodes;
    known_blocks = knows_blocks;
    free_inodes = λ j low high. ap (λ (b : Books). is_set b.free_inodes (j - 1)) a.same ∙ says.free_inodes j low
        (subst (λ (q : SuperBlock). j ≤ q.inodes) l-at high)
        ∙ (λ z. (says.known_inodes j ∙ sym (knows_inodes j ∙ l-inode j)) z && not (sym (inode-same j) z));
    free_blocks = λ q lt. let low : q < k.at.blocks = subst (λ (z : SuperBlock). q < z.blocks) l-at lt in
        by-bit (is_set l.free_blocks q ≡ is_free_block V q)
        q
        (λ t. a.blocks.freeing q low ∙ (λ z. is_set k.free_blocks q || t z) ∙ or-true (is_set k.free_blocks q) ∙ sym
        (λ z. (knows_blocks q ∙ known-freed q t) z && not (block-gone q t z)))
        (λ t. a.blocks.freeing q low ∙ (λ z. is_set k.free_blocks q || t z) ∙ or-false (is_set k.free_blocks q)
        ∙ says.free_blocks q low
        ∙ (λ z. (says.known_blocks q ∙ sym (knows_blocks q ∙ known-kept q t)) z && not (sym (block-same q t) z)));
    agreement = λ j v t. used j
        ∙ says.agreement j v (ap (λ (b : Books). known_agreement b.agreement j) (sym a.same) ∙ t);
  }

  pub cut-known : Learns W s true V × Says l V
  cut-known = (cut-learns, cut-says)
