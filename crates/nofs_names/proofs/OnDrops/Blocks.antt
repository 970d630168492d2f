-- The blocks of an inode, slot by slot.
use Rattle.std.proofs.Common.{◌≡◌, ℕ, ◌+◌, ◌-◌, ◌*◌, ◌/◌, ◌%◌, ◌^◌, ◌<◌, ◌≤◌, ◌⊎◌, inl, inr, Bool, true, false, eqb}
use Rattle.std.proofs.Common.{eqb-true, eq-eqb, leb, ltb, leb-true}
use Rattle.std.proofs.Common.{ltb-true, ◌&&◌, ◌||◌, List, length, replicate, Option, Some, None, IsTrue, Result, Ok}
use Rattle.std.proofs.Common.{Err, refl, sym, ap, ◌∙◌, subst, subst₂, arith}
use Rattle.std.proofs.lemmas.Bool.{cases_lt, and_parts}
use Rattle.std.proofs.lemmas.Bool.Decides.{nat_tests}
use Rattle.std.proofs.lemmas.List.{length-replicate}
use Rattle.nofs_ptrs.specs.Paths.{slot_limit, Path, InRecord, Under, path_of, is_slot}
use Rattle.nofs_bits.specs.Bits.{is_set}
use Rattle.nofs_disk.specs.Disk.{DiskState, StaysButFaults}
use Rattle.std.specs.Prelude.{IfErr, OnOk}
use Rattle.nofs_disk.specs.Chains.{StaysButFaults-trans}
use Rattle.nofs_disk.specs.declared.Failed.{Failed}
use Rattle.nofs_history.specs.declared.machine.replies.Refusal.{Refusal}
use Rattle.nofs_disk.specs.declared.tag.Pointer.{Pointer}
use Rattle.nofs_super.specs.declared.superblock.SuperBlock.{SuperBlock}
use Rattle.nofs_model.specs.Geometry.{Image}
use Rattle.nofs_model.specs.Slots.{find}
use Rattle.nofs_model.specs.Files.{files_in, agreed}
use Rattle.nofs_model.specs.Owners.{Home, owner}
use Rattle.nofs_model.specs.declared.image.path.PathAnswer.{PathAnswer}
use Rattle.nofs_model.specs.declared.image.path.PathAnswer.TheVariants as answer
use Rattle.nofs_model.proofs.OnOwners.Slots.{owner-of, owner-holds, owner-slot}
use Rattle.nofs_model.proofs.OnSlots.Paths.{path_of-number}
use Rattle.nofs_ptrs.specs.PathLaws.{path-far}
use Rattle.nofs_agree.specs.Path.{FindsSlot}
use Rattle.nofs_agree.specs.declared.reads.LastRead.{LastRead}
use Rattle.nofs_state.proofs.OnBooks.Bits.{set-none}
use Rattle.nofs_state.proofs.OnInodes.Blocks.{fails-on}
use Rattle.nofs_names.specs.Drops.Removal.{is_of}
use Rattle.nofs_names.specs.Drops.Blocks.{MarksInode}
use Rattle.nofs_state.specs.Inodes.Blocks.{MarkFails, MarksAll, Marked, IsBlockAmong}

-- all slots

module _ (X : Image) (told : Bool) (at : SuperBlock) (i : ℕ) (b c : List Bool)
    (first : Marked X told at i 0 slot_limit (replicate at.blocks false) b)
    (second : Marked X told at i (2 ^ 32) (2 ^ 32 + 66) b c) where
  pub all-size : length c ≡ at.blocks
  all-size = second.size ∙ first.size ∙ length-replicate at.blocks false

  none : (q : ℕ) → is_set (replicate at.blocks false) q ≡ true → ⊥
  none q t = let z = set-none at.blocks q in cc (t, z)

  pub all-area : (q : ℕ) → is_set c q ≡ true → 1 + at.inodes / 4 ≤ q
  all-area q t = elim (second.area q t) [
    | inr high ↦ high
    | inl was ↦ elim (first.area q was) [ inr high ↦ high | inl no_bit ↦ absurd (none q no_bit) ]
  ]

  pub all-owned : IsTrue told → agreed (files_in X) i ≡ true → (q : ℕ) → is_set c q ≡ is_of i (owner X q)
  all-owned t a q = by-bit (is_set c q) refl
    where
      owns : (k : ℕ) (x : Pointer) → is_slot k ≡ true → find X i (path_of k) ≡ answer.Holds x
          → x.block ≡ q → is_of i (owner X q) ≡ true
      owns k x s h e = let o = owner-of X i (path_of k) x (path_of-number k s).0 a h in
          ap (λ (n : ℕ). is_of i (owner X n)) (sym e) ∙ ap (is_of i) o ∙ eq-eqb
          i i refl

      low-slot : (k : ℕ) → k < slot_limit → is_slot k ≡ true
      low-slot k low = let l = lt-is k slot_limit low in rw l refl
        where
          lt-is : (x y : ℕ) → x < y → ltb x y ≡ true
          lt-is x y h = grind (arith, nat_tests)

      high-slot : (k : ℕ) → 2 ^ 32 ≤ k → k < 2 ^ 32 + 66 → is_slot k ≡ true
      high-slot k low high = or-right (ltb k slot_limit) (leb (2 ^ 32) k && ltb k (2 ^ 32 + 66))
          (both (leb (2 ^ 32) k) (ltb k (2 ^ 32 + 66)) (le-is (2 ^ 32) k low) (lt-is k (2 ^ 32 + 66) high))
        where
          lt-is : (x y : ℕ) → x < y → ltb x y ≡ true
          lt-is x y h = grind (arith, nat_tests)

          le-is : (x y : ℕ) → x ≤ y → leb x y ≡ true
          le-is x y h = grind (arith, nat_tests)

          both : (p r : Bool) → p ≡ true → r ≡ true → (p && r) ≡ true
          both true r ep er = er
          both false r ep er = cc ep

          or-right : (p r : Bool) → r ≡ true → (p || r) ≡ true
          or-right true r e = refl
          or-right false r e = e

      marks : (h : Home) → owner X q ≡ Some h → h.inode ≡ i → is_set c q ≡ true
      marks h e own =
          let w = owner-holds X q h.inode h.slot e in
          let s = owner-slot X q h.inode h.slot e in
          let f : find X i (path_of h.slot) ≡ answer.Holds w.0 =
          subst (λ (n : ℕ). find X n (path_of h.slot) ≡ answer.Holds w.0) own w.2 in
          subst (λ (n : ℕ). is_set c n ≡ true) w.3 (by-slot h.slot w.0 (ltb h.slot slot_limit) refl s f)
        where
          by-slot : (k : ℕ) (x : Pointer) (p : Bool) → ltb k slot_limit ≡ p → is_slot k ≡ true
              → find X i (path_of k) ≡ answer.Holds x → is_set c x.block ≡ true
          by-slot k x true e s f = second.keeps x.block (first.whole t k x (omega arith) (ltb-true k slot_limit e) f)
          by-slot k x false e s f =
              let r = and_parts (leb (2 ^ 32) k) (ltb k (2 ^ 32 + 66))
              (sym (ap (λ (p : Bool). p || (leb (2 ^ 32) k && ltb k (2 ^ 32 + 66))) e) ∙ s) in
              second.whole t k x (leb-true (2 ^ 32) k r.0) (ltb-true k (2 ^ 32 + 66) r.1) f

      from-owner : (o : Option Home) → owner X q ≡ o → is_set c q ≡ false → false ≡ is_of i o
      from-owner None e z = refl
      from-owner (Some h) e z = not-own (eqb h.inode i) refl
        where
          not-own : (p : Bool) → eqb h.inode i ≡ p → false ≡ eqb h.inode i
          not-own false ep = sym ep
          not-own true ep = absurd (let m = marks h e (eqb-true h.inode i ep) in cc (m, z))

      by-bit : (p : Bool) → is_set c q ≡ p → is_set c q ≡ is_of i (owner X q)
      by-bit false e = e ∙ from-owner (owner X q) refl e
      by-bit true e = e ∙ sym (elim (second.sound t q e) [
        | inr w ↦ owns w.0 w.1 (high-slot w.0 w.2 w.3) w.4 w.5
        | inl was ↦ elim (first.sound t q was) [
          | inr w ↦ owns w.0 w.1 (low-slot w.0 w.3) w.4 w.5
          | inl no_bit ↦ absurd (none q no_bit)
        ]
      ])

-- what lies below is passed over

pub marks-after : (old mid new : DiskState) (at : SuperBlock) (i from to : ℕ) (bits b : List Bool) (last : LastRead)
    (res : Result (Unit {0}) Refusal)
    → StaysButFaults old mid → mid.faults ≡ old.faults → MarksAll mid new at i from to bits b last res
    → MarksAll old new at i from to bits b last res
marks-after old mid new at i from to bits b last res stays quiet m = record {
  stays = StaysButFaults-trans old mid new stays m.stays;
  marked_as = on-ok res m.marked_as;
  kept = m.kept;
  no_fault = λ e. m.no_fault e ∙ quiet;
  refused = on-err res m.refused;
}
  where
    on-ok : (r : Result (Unit {0}) Refusal) → OnOk r (Marked mid.now mid.tells at i from to bits b)
        → OnOk r (Marked old.now old.tells at i from to bits b)
    on-ok (Err e) h = tt
    on-ok (Ok it) h =
        subst₂ (λ (X : Image) (told : Bool). Marked X told at i from to bits b) stays.cells.now stays.disk.tells h

    on-err : (r : Result (Unit {0}) Refusal) → IfErr r (MarkFails mid new) → IfErr r (MarkFails old new)
    on-err (Err why) h = fails-on old mid new stays why h
    on-err (Ok it) h = tt

-- where none of the slots holds
pub marks-none : (old mid : DiskState) (at : SuperBlock) (i from to : ℕ) (path : Path) (bits : List Bool)
    (last : LastRead) (res : Result PathAnswer Failed)
    (a b : PathAnswer) → FindsSlot old mid at (λ X. find X i path) last res → res ≡ Ok a → a ≡ b
    → ((X : Image) → find X i path ≡ b → (k : ℕ) (x : Pointer)
    → from ≤ k → k < to → find X i (path_of k) ≡ answer.Holds x → ⊥)
    → MarksAll old mid at i from to bits bits last (Ok tt)
marks-none old mid at i from to path bits last res a b finds e h none =
    let f : FindsSlot old mid at (λ X. find X i path) last (Ok b) =
    subst (λ (r : Result PathAnswer Failed). FindsSlot old mid at (λ X. find X i path) last r)
    (e ∙ ap Ok h) finds in
    record {
      stays = f.stays;
      marked_as = record {
        size = refl;
        area = λ q t. inl t;
        keeps = λ q t. t;
        sound = λ t q s. inl s;
        whole = λ t k x low high held. absurd
            (none old.now (sym (f.found t)) k x low high held);
      };
      kept = f.kept;
      no_fault = λ e. f.no_fault;
      refused = tt;
    }

-- below a block of pointers that does not hold no slot does
none-below : (X : Image) (i n : ℕ) (a : Path) (b : PathAnswer) → ((x : Pointer) → b ≡ answer.Holds x → ⊥)
    → find X i a ≡ b → (x : Pointer)
    → find X i (Under a n) ≡ answer.Holds x → ⊥
none-below X i n a (answer.Holds y) off e x held = off y refl
none-below X i n a answer.Hole off e x held = let h : find X i (Under a n) ≡ answer.Hole = rw (e, find) in cc (h, held)
none-below X i n a answer.Lost off e x held = let h : find X i (Under a n) ≡ answer.Lost = rw (e, find) in cc (h, held)

-- nor does one below a child of it
none-far : (X : Image) (i n m : ℕ) (a : Path) (b : PathAnswer) → ((x : Pointer) → b ≡ answer.Holds x → ⊥)
    → find X i a ≡ b → (x : Pointer)
    → find X i (Under (Under a n) m) ≡ answer.Holds x → ⊥
none-far X i n m a b off e x held = go (find X i (Under a n)) refl
  where
    go : (c : PathAnswer) → find X i (Under a n) ≡ c → ⊥
    go (answer.Holds y) h = none-below X i n a b off e y h
    go answer.Hole h = none-below X i m (Under a n) answer.Hole (λ y q. cc q) h x held
    go answer.Lost h = none-below X i m (Under a n) answer.Lost (λ y q. cc q) h x held

pub none-under-top : (i : ℕ) (b : PathAnswer) → ((x : Pointer) → b ≡ answer.Holds x → ⊥)
    → (X : Image) → find X i (InRecord 9) ≡ b → (k : ℕ) (x : Pointer)
    → 72 ≤ k → k < slot_limit → find X i (path_of k) ≡ answer.Holds x → ⊥
none-under-top i b off X e k x low high held = none-far X i ((k - 72) / 64) ((k - 72) % 64) (InRecord 9) b off e x
    (sym (ap (find X i) (path-far k low high)) ∙ held)

pub none-under-child : (i c : ℕ) (b : PathAnswer) → ((x : Pointer) → b ≡ answer.Holds x → ⊥)
    → c < 64 → (X : Image) → find X i (Under (InRecord 9) c) ≡ b
    → (k : ℕ) (x : Pointer) → 72 + 64 * c ≤ k → k < 72 + 64 * (c + 1) → find X i (path_of k) ≡ answer.Holds x → ⊥
none-under-child i c b off small X e k x low high held =
    let here : (k - 72) / 64 ≡ c = omega (arith, low, high) in
    none-below X i ((k - 72) % 64) (Under (InRecord 9) c) b off e x
    (ap (λ (n : ℕ). find X i (Under (Under (InRecord 9) n) ((k - 72) % 64))) (sym here) ∙ sym
    (ap (find X i) (path-far k (omega (arith, low)) (omega (arith, small, high)))) ∙ held)

-- some slots, and those after them
marked-join : (X : Image) (told : Bool) (at : SuperBlock) (i from mid to : ℕ) (bits b c : List Bool)
    → from ≤ mid → mid ≤ to
    → Marked X told at i from mid bits b → Marked X told at i mid to b c → Marked X told at i from to bits c
marked-join X told at i from mid to bits b c low high f s = record {
  size = s.size ∙ f.size;
  area = λ q t. elim (s.area q t) [ inl was ↦ f.area q was | inr above ↦ inr above ];
  keeps = λ q t. s.keeps q (f.keeps q t);
  sound = λ t q z. elim (s.sound t q z) [
    | inl was ↦ longer q (f.sound t q was)
    | inr w ↦ let l = w.2 in inr (w.0, w.1, omega (arith, l, low), w.3, w.4, w.5)
  ];
  whole = λ t k x one two e. elim (cases_lt k mid)
      [ inl before ↦ s.keeps x.block (f.whole t k x one before e) | inr after ↦ s.whole t k x after two e ];
}
  where
    longer : (q : ℕ) → (is_set bits q ≡ true) ⊎ IsBlockAmong X i from mid q
        → (is_set bits q ≡ true) ⊎ IsBlockAmong X i from to q
    longer q (inl was) = inl was
    longer q (inr w) = let h = w.3 in inr (w.0, w.1, w.2, omega (arith, h, high), w.4, w.5)

pub marks-join : (old mid new : DiskState) (at : SuperBlock) (i from cut to : ℕ) (bits b c : List Bool)
    (last next : LastRead) → from ≤ cut → cut ≤ to
    → MarksAll old mid at i from cut bits b last (Ok tt) → MarksAll mid new at i cut to b c next (Ok tt)
    → MarksAll old new at i from to bits c next (Ok tt)
marks-join old mid new at i from cut to bits b c last next low high f s =
    let q = marks-after old mid new at i cut to b c next (Ok tt) f.stays (f.no_fault refl) s in
    record {
      stays = q.stays;
      marked_as = marked-join old.now old.tells at i from cut to bits b c low high f.marked_as q.marked_as;
      kept = q.kept;
      no_fault = q.no_fault;
      refused = tt;
    }

pub inode-marked : (old mid new : DiskState) (at : SuperBlock) (i : ℕ) (z b c : List Bool) (last next : LastRead)
    → z ≡ replicate at.blocks false
    → MarksAll old mid at i 0 slot_limit z b last (Ok tt)
    → MarksAll mid new at i (2 ^ 32) (2 ^ 32 + 66) b c next (Ok tt)
    → MarksInode old new at i c next (Ok tt)
inode-marked old mid new at i z b c last next ez first second = record {
  stays = StaysButFaults-trans old mid new first.stays second.stays;
  no_fault = λ e. second.no_fault refl ∙ first.no_fault refl;
  owned = record {
    size = all-size new.now new.tells at i b c one two;
    in_area = all-area new.now new.tells at i b c one two;
    owned = λ t a q low. all-owned new.now new.tells at i b c one two t a q;
  };
  kept = second.kept;
  refused = tt;
}
  where
    now-one : new.now ≡ old.now
    now-one = second.stays.cells.now ∙ first.stays.cells.now

    tells-one : new.tells ≡ old.tells
    tells-one = second.stays.disk.tells ∙ first.stays.disk.tells

    one : Marked new.now new.tells at i 0 slot_limit (replicate at.blocks false) b
    one = subst (λ (l : List Bool). Marked new.now new.tells at i 0 slot_limit l b) ez
        (subst₂ (λ (X : Image) (told : Bool). Marked X told at i 0 slot_limit z b) (sym now-one)
        (sym tells-one) first.marked_as)

    two : Marked new.now new.tells at i (2 ^ 32) (2 ^ 32 + 66) b c
    two = subst₂ (λ (X : Image) (told : Bool). Marked X told at i (2 ^ 32) (2 ^ 32 + 66) b c)
        (sym second.stays.cells.now) (sym second.stays.disk.tells)
        second.marked_as

pub inode-marks : (old one two new : DiskState) (at : SuperBlock) (i : ℕ) (z b c d : List Bool)
    (last later next : LastRead) (res : Result (Unit {0}) Refusal)
    → z ≡ replicate at.blocks false → MarksAll old one at i 0 72 z b last (Ok tt)
    → MarksAll one two at i 72 slot_limit b c later (Ok tt)
    → MarksAll two new at i (2 ^ 32) (2 ^ 32 + 66) c d next res → MarksInode old new at i d next res
inode-marks old one two new at i z b c d last later next res ez first second third = go res third
  where
    low : MarksAll old two at i 0 slot_limit z c later (Ok tt)
    low = marks-join old one two at i 0 72 slot_limit z b c last later (omega arith) (omega arith) first second

    go : (r : Result (Unit {0}) Refusal) → MarksAll two new at i (2 ^ 32) (2 ^ 32 + 66) c d next r
        → MarksInode old new at i d next r
    go (Ok u) m = inode-marked old two new at i z c d later next ez low m
    go (Err e) m =
        let q = marks-after old two new at i (2 ^ 32) (2 ^ 32 + 66) c d next (Err e) low.stays
        (low.no_fault refl) m in
        record { stays = q.stays; no_fault = q.no_fault; owned = tt; kept = tt; refused = q.refused }
