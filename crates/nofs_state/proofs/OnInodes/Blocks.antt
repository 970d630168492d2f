-- The blocks of an inode in some slots, slot by slot.
use Rattle.std.proofs.Common.{◌≡◌, ℕ, ◌+◌, ◌/◌, ◌<◌, ◌≤◌, ◌⊎◌, inl, inr, Bool, true, List, length, IsTrue, Ok, Err}
use Rattle.std.proofs.Common.{refl, sym, ap, ◌∙◌, subst, arith, le_refl}
use Rattle.std.specs.Prelude.{slice_set}
use Rattle.std.proofs.lemmas.Bool.{cases_lt, cases_eq}
use Rattle.nofs_bits.specs.Bits.{is_set}
use Rattle.nofs_disk.specs.Disk.{DiskState, StaysButFaults}
use Rattle.nofs_disk.specs.Chains.{StaysButFaults-refl, StaysButFaults-trans, Rose-within}
use Rattle.nofs_disk.specs.declared.tag.Pointer.{Pointer}
use Rattle.nofs_super.specs.declared.superblock.SuperBlock.{SuperBlock}
use Rattle.nofs_model.specs.Geometry.{Image}
use Rattle.nofs_ptrs.specs.Paths.{path_of}
use Rattle.nofs_model.specs.Slots.{find}
use Rattle.nofs_model.specs.Places.{InArea}
use Rattle.nofs_model.specs.declared.image.path.PathAnswer.{PathAnswer}
use Rattle.nofs_model.specs.declared.image.path.PathAnswer.TheVariants as answer
use Rattle.nofs_history.specs.declared.machine.replies.Refusal.{Refusal}
use Rattle.nofs_agree.specs.Reads.{IsLast}
use Rattle.nofs_agree.specs.declared.reads.LastRead.{LastRead}
use Rattle.nofs_agree.proofs.OnChain.{told-on}
use Rattle.nofs_state.proofs.OnBooks.Bits.{set-here, set-other, set-length}
use Rattle.nofs_state.specs.Inodes.Blocks.{MarkFails, Marks, MarksAll, Marked, IsBlockAmong, marked}

pub marked-begins : (X : Image) (told : Bool) (at : SuperBlock) (i from : ℕ) (bits : List Bool)
    → Marked X told at i from from bits bits
marked-begins X told at i from bits = record {
  size = refl;
  area = λ q t. inl t;
  keeps = λ q t. t;
  sound = λ told q t. inl t;
  whole = λ told k x low high e. absurd (omega (arith, low, high));
}

-- one more slot
module _ (X : Image) (told : Bool) (at : SuperBlock) (i from to : ℕ) (bits b b2 : List Bool) (a : PathAnswer)
    (m : Marked X told at i from to bits b)
    (low : from ≤ to) (size : length bits ≡ at.blocks) (is : IsTrue told → a ≡ find X i (path_of to))
    (area : InArea at a) where
  no-block : b2 ≡ b → ((x : Pointer) → a ≡ answer.Holds x → ⊥) → Marked X told at i from (to + 1) bits b2
  no-block e none = subst (λ (l : List Bool). Marked X told at i from (to + 1) bits l) (sym e) (record {
    size = m.size;
    area = m.area;
    keeps = m.keeps;
    sound = λ t q s. longer t q (m.sound t q s);
    whole = λ t k x one high h. elim (cases_lt k to) [
      | inl before ↦ m.whole t k x one before h
      | inr at-it ↦ let s : k ≡ to = omega (arith, at-it, high) in
          absurd (none x (is t ∙ sym (ap (λ (n : ℕ). find X i (path_of n)) s) ∙ h))
    ];
  })
    where
      longer : IsTrue told → (q : ℕ) → (is_set bits q ≡ true) ⊎ IsBlockAmong X i from to q
          → (is_set bits q ≡ true) ⊎ IsBlockAmong X i from (to + 1) q
      longer t q (inl was) = inl was
      longer t q (inr w) = let high = w.3 in inr (w.0, w.1, w.2, omega (arith, high), w.4, w.5)

  a-block : (x : Pointer) → a ≡ answer.Holds x → b2 ≡ slice_set b x.block true
      → Marked X told at i from (to + 1) bits b2
  a-block x ax e = subst (λ (l : List Bool). Marked X told at i from (to + 1) bits l) (sym e) (record {
    size = set-length b x.block true ∙ m.size;
    area = λ q s. elim (cases_eq q x.block) [
      | inl here ↦ inr (subst (λ (n : ℕ). 1 + at.inodes / 4 ≤ n) (sym here) in-area.0)
      | inr other ↦ m.area q (sym (set-other b x.block q true other) ∙ s)
    ];
    keeps = λ q s. stays q (m.keeps q s);
    sound = λ t q s. elim (cases_eq q x.block) [
      | inl here ↦ inr (to, x, low, omega arith, sym (is t) ∙ ax, sym here)
      | inr other ↦ longer t q (m.sound t q (sym (set-other b x.block q true other) ∙ s))
    ];
    whole = λ t k y one high h. elim (cases_lt k to) [
      | inl before ↦ stays y.block (m.whole t k y one before h)
      | inr at-it ↦
          let s : k ≡ to = omega (arith, at-it, high) in
          let same : answer.Holds x ≡ answer.Holds y = sym ax ∙ is t
          ∙ sym (ap (λ (n : ℕ). find X i (path_of n)) s) ∙ h in
          let block : x.block ≡ y.block = (let xy : x ≡ y = cc same in ap (λ (z : Pointer). z.block) xy) in
          subst (λ (n : ℕ). is_set (slice_set b x.block true) n ≡ true) block (set-here b x.block true fits)
    ];
  })
    where
      in-area : InArea at (answer.Holds x)
      in-area = subst (InArea at) ax area

      fits : x.block < length b
      fits = let h = in-area.1 in let z = m.size in omega (arith, h, z, size)

      stays : (q : ℕ) → is_set b q ≡ true → is_set (slice_set b x.block true) q ≡ true
      stays q s = elim (cases_eq q x.block) [
        | inl here ↦ ap (is_set (slice_set b x.block true)) here ∙ set-here b x.block true fits
        | inr other ↦ set-other b x.block q true other ∙ s
      ]

      longer : IsTrue told → (q : ℕ) → (is_set bits q ≡ true) ⊎ IsBlockAmong X i from to q
          → (is_set bits q ≡ true) ⊎ IsBlockAmong X i from (to + 1) q
      longer t q (inl was) = inl was
      longer t q (inr w) = let high = w.3 in inr (w.0, w.1, w.2, omega (arith, high), w.4, w.5)

  pub marked-goes : b2 ≡ marked a b → Marked X told at i from (to + 1) bits b2
  marked-goes e = go a refl e
    where
      go : (w : PathAnswer) → a ≡ w → b2 ≡ marked w b → Marked X told at i from (to + 1) bits b2
      go answer.Hole ew e = no-block e (λ x h. absurd (let z = sym ew ∙ h in cc z))
      go answer.Lost ew e = no-block e (λ x h. absurd (let z = sym ew ∙ h in cc z))
      go (answer.Holds x) ew e = a-block x ew e

-- so far slots up to this one

pub record Marking (old now : DiskState) (at : SuperBlock) (i from to : ℕ) (bits b : List Bool)
    (last : LastRead) : Type 0 where
  pub stays : StaysButFaults old now
  pub no_fault : now.faults ≡ old.faults
  pub kept : IsLast now last
  pub so_far : Marked old.now old.tells at i from to bits b
  pub order : from ≤ to

pub marking-begins : (old : DiskState) (at : SuperBlock) (i from : ℕ) (bits : List Bool) (last : LastRead)
    → IsLast old last
    → Marking old old at i from from bits bits last
marking-begins old at i from bits last kept = record {
  stays = StaysButFaults-refl old;
  no_fault = refl;
  kept = kept;
  so_far = marked-begins old.now old.tells at i from bits;
  order = le_refl from;
}

pub marking-goes : (old now new : DiskState) (at : SuperBlock) (i from slot : ℕ) (bits b b2 : List Bool)
    (last next : LastRead)
    → Marking old now at i from slot bits b last → length bits ≡ at.blocks → Marks now new at i slot b b2 next (Ok tt)
    → Marking old new at i from (slot + 1) bits b2 next
marking-goes old now new at i from slot bits b b2 last next g size m =
    let (a, found, area, e) = m.marked_as in
    record {
      stays = StaysButFaults-trans old now new g.stays m.stays;
      no_fault = m.no_fault refl ∙ g.no_fault;
      kept = m.kept;
      so_far = marked-goes old.now old.tells at i from slot bits b b2 a g.so_far g.order size
          (λ t. subst (λ (X : Image). a ≡ find X i (path_of slot)) g.stays.cells.now
          (found (told-on old now g.stays t))) area e;
      order = (let o = g.order in omega (arith, o));
    }

pub marking-ends : (old now : DiskState) (at : SuperBlock) (i from to slot : ℕ) (bits b : List Bool) (last : LastRead)
    → Marking old now at i from slot bits b last → slot ≡ to → MarksAll old now at i from to bits b last (Ok tt)
marking-ends old now at i from to slot bits b last g e = record {
  stays = g.stays;
  no_fault = λ e. g.no_fault;
  marked_as = subst (λ (n : ℕ). Marked old.now old.tells at i from n bits b) e g.so_far;
  kept = g.kept;
  refused = tt;
}

-- what failed from a state on failed from the one before it
pub fails-on : (old now new : DiskState) → StaysButFaults old now → (why : Refusal) → MarkFails now new why
    → MarkFails old new why
fails-on old now new stays why (inl memory) = inl memory
fails-on old now new stays why (inr (is, rose)) =
    inr (is, Rose-within old.faults now.faults new.faults new.faults stays.disk.faults rose (le_refl new.faults))

pub marking-fails : (old now new : DiskState) (at : SuperBlock) (i from to slot : ℕ) (bits b b2 c : List Bool)
    (last next : LastRead) (why : Refusal)
    → Marking old now at i from slot bits b last → Marks now new at i slot b b2 next (Err why)
    → MarksAll old new at i from to bits c next (Err why)
marking-fails old now new at i from to slot bits b b2 c last next why g m = record {
  stays = StaysButFaults-trans old now new g.stays m.stays;
  no_fault = λ e. m.no_fault e ∙ g.no_fault;
  marked_as = tt;
  kept = tt;
  refused = fails-on old now new g.stays why m.refused;
}
