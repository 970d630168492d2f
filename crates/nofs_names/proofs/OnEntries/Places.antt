-- What stands in the slot of a new entry, and which blocks it takes.
use Rattle.std.proofs.Common.{◌≡◌, ℕ, ◌+◌, ◌^◌, ◌<◌, ◌≤◌, inl, Bool, true, false, ltb, Some, IsTrue, Result, Ok, Err}
use Rattle.std.proofs.Common.{refl, sym, ap, ◌∙◌, subst, arith}
use Rattle.std.proofs.lemmas.Bool.Decides.{nat_tests}
use Rattle.nofs_bits.specs.Bits.{count_set}
use Rattle.std.proofs.lemmas.List.Sums.{count_by-le-length}
use Rattle.nofs_disk.specs.Disk.{DiskState}
use Rattle.nofs_disk.specs.declared.Failed.{Failed}
use Rattle.nofs_super.specs.declared.superblock.SuperBlock.{SuperBlock}
use Rattle.nofs_model.specs.Geometry.{Image}
use Rattle.nofs_model.specs.Slots.{find}
use Rattle.nofs_ptrs.specs.Paths.{leaf, path_of, Path, Under}
use Rattle.nofs_model.specs.declared.image.path.PathAnswer.{PathAnswer}
use Rattle.nofs_model.specs.declared.image.path.PathAnswer.TheVariants as answer
use Rattle.nofs_ptrs.specs.PathLaws.{path-leaf}
use Rattle.nofs_history.specs.World.{World, free_blocks, next_block}
use Rattle.nofs_history.specs.declared.machine.replies.Refusal.{Refusal}
use Rattle.nofs_history.specs.declared.machine.replies.Refusal.TheVariants as refusal
use Rattle.nofs_agree.specs.Path.{FindsSlot}
use Rattle.nofs_agree.specs.declared.reads.LastRead.{LastRead}
use Rattle.nofs_state.specs.Books.Maps.{IsSafe, Says}
use Rattle.nofs_state.specs.declared.books.maps.Books.{Books}
use Rattle.nofs_state.proofs.OnBooks.Counts.{free-count, unknown-count}
use Rattle.nofs_names.specs.Entries.Places.{AreFree, FindsEntrySlot, IsUnderLeaf, TakesBlocks}
use Rattle.nofs_names.specs.declared.entries.places.EntryBlocks.{EntryBlocks}
use Rattle.nofs_names.specs.declared.entries.places.EntrySlot.{EntrySlot}

-- The slot

-- under a block of pointers that is lost each slot is lost
lost-below : (X : Image) (d n : ℕ) → find X d leaf ≡ answer.Lost → find X d (Under leaf n) ≡ answer.Lost
lost-below X d n e = rw (e, find)

module _ (old mid : DiskState) (at : SuperBlock) (d k : ℕ) (path : Path) (path-is : path ≡ path_of k) (names : LastRead)
    (res : Result PathAnswer Failed)
    (finds : FindsSlot old mid at (λ X. find X d path) names res) where
  finds-as : (a b : PathAnswer) → res ≡ Ok a → a ≡ b → FindsSlot old mid at (λ X. find X d path) names (Ok b)
  finds-as a b e h =
      subst (λ (r : Result PathAnswer Failed). FindsSlot old mid at (λ X. find X d path) names r) (e ∙ ap Ok h) finds

  found-as : (b : PathAnswer) → FindsSlot old mid at (λ X. find X d path) names (Ok b) → IsTrue old.tells
      → find old.now d (path_of k) ≡ b
  found-as b f t = sym (λ j. find old.now d (path-is j)) ∙ sym (f.found t)

  pub slot-lost : (a : PathAnswer) → res ≡ Ok a
      → a ≡ answer.Lost → FindsEntrySlot old mid at d k names (Err (refusal.LostSlot k))
  slot-lost a e h = let f = finds-as a answer.Lost e h in record {
    stays = f.stays;
    no_fault = tt;
    fits = tt;
    found = tt;
    cell = tt;
    kept = tt;
    refused = inl (
      refl,
      tt,
      (λ t. let l = found-as answer.Lost f t in ((λ x q. cc (l, q)), (λ q. cc (l, q)))),
      f.no_fault,
    );
  }

  pub slot-hole : (a : PathAnswer) → res ≡ Ok a → a ≡ answer.Hole → IsTrue mid.tells
      → find mid.now d (path_of k) ≡ answer.Hole
  slot-hole a e h t =
      let f = finds-as a answer.Hole e h in
      ap (λ (X : Image). find X d (path_of k)) f.stays.cells.now
      ∙ found-as answer.Hole f (subst (λ (b : Bool). IsTrue b) f.stays.disk.tells t)

pub hole-under : (old mid : DiskState) (at : SuperBlock) (d k : ℕ) (names : LastRead) (a : PathAnswer)
    (res : Result EntrySlot Refusal) → 8 ≤ k → k < 72
    → (IsTrue old.tells → find old.now d (path_of k) ≡ answer.Hole)
    → FindsSlot old mid at (λ X. find X d leaf) names (Ok a) → IsUnderLeaf k a res
    → FindsEntrySlot old mid at d k names res
hole-under old mid at d k names a res high low hole f is = go a f is
  where
    go : (b : PathAnswer) → FindsSlot old mid at (λ X. find X d leaf) names (Ok b) → IsUnderLeaf k b res
        → FindsEntrySlot old mid at d k names res
    go (answer.Holds y) f e = subst (λ (r : Result EntrySlot Refusal). FindsEntrySlot old mid at d k names r) (sym e)
        (record {
          stays = f.stays;
          no_fault = f.no_fault;
          fits = (high, f.area);
          found = λ t. (hole t, sym (f.found t));
          cell = f.cell;
          kept = f.kept;
          refused = tt;
        })
    go answer.Hole f e = subst (λ (r : Result EntrySlot Refusal). FindsEntrySlot old mid at d k names r) (sym e)
        (record {
          stays = f.stays;
          no_fault = f.no_fault;
          fits = high;
          found = λ t. (hole t, sym (f.found t));
          cell = λ t. tt;
          kept = f.kept;
          refused = tt;
        })
    go answer.Lost f e = subst (λ (r : Result EntrySlot Refusal). FindsEntrySlot old mid at d k names r) (sym e)
        (record {
          refused = inl (
            refl,
            tt,
            λ t.
                let lost : find old.now d (path_of k) ≡ answer.Lost = ap (find old.now d) (path-leaf k high low)
                ∙ lost-below old.now d _ (sym (f.found t)) in
                let h = hole t in
                ((λ x q. cc (lost, q)), (λ q. cc (lost, q))),
            f.no_fault,
          );
          no_fault = tt;
          stays = f.stays;
          fits = tt;
          found = tt;
          cell = tt;
          kept = tt;
        })

-- The blocks

less : (a b : ℕ) → a < b → ltb a b ≡ true
less a b h = grind (arith, nat_tests)

not-less : (a b : ℕ) → b ≤ a → ltb a b ≡ false
not-less a b h = grind (arith, nat_tests)

few-unknown : (d : DiskState) (k : Books) → IsSafe d k → count_set k.unknown_blocks < 2 ^ 64
few-unknown d k safe =
    let c = count_by-le-length (λ bit. bit) k.unknown_blocks in
    let l = safe.unknown_blocks in
    let m = safe.at.geometry.most_blocks in
    omega (arith, c, l, m)

module _ (d : DiskState) (k : Books) (n m : ℕ) (safe : IsSafe d k) where
  -- fewer are free
  pub takes-few : count_set k.free_blocks < n → (free unknown next : ℕ) → free ≡ count_set k.free_blocks
      → unknown ≡ count_set k.unknown_blocks
      → ((W : World) → Says k W → next ≡ next_block W) → TakesBlocks k n m (Err (refusal.Full n free unknown next))
  takes-few lt free unknown next free-is unknown-is next-is = record {
    free = tt;
    stamps = tt;
    passes = tt;
    refused = (
      refl,
      subst (λ (q : ℕ). q < 2 ^ 64) (sym unknown-is) (few-unknown d k safe),
      λ W says.
          let f : count_set k.free_blocks ≡ free_blocks W = free-count d k W safe says in
          let few : ltb (free_blocks W) n ≡ true = less (free_blocks W) n (omega (arith, f, lt)) in
          rw few (λ j. Some (refusal.Full n (sym (free-is ∙ f) j) (sym (unknown-is ∙ unknown-count d k W safe says) j)
          (sym (next-is W says) j))),
    );
  }

  enough : n ≤ count_set k.free_blocks → (W : World) → Says k W → ltb (free_blocks W) n ≡ false
  enough le W says = let f : count_set k.free_blocks ≡ free_blocks W = free-count d k W safe says in
      not-less (free_blocks W) n (omega (arith, f, le))

  -- they are, and the stamps are spent
  pub takes-spent : n ≤ count_set k.free_blocks
      → 2 ^ 40 < k.serial + m + n → TakesBlocks k n m (Err refusal.SerialsSpent)
  takes-spent le spent = record {
    free = tt;
    stamps = tt;
    passes = tt;
    refused = (
      refl,
      tt,
      λ W says.
          let e = enough le W says in
          let t : ltb (2 ^ 40) (W.serial + m + n) ≡ true =
          less (2 ^ 40) (W.serial + m + n) (let q = says.serial in omega (arith, q, spent)) in
          rw (e, t) refl,
    );
  }

  -- both are there
  pub takes-all : (b : EntryBlocks) → AreFree k.free_blocks n b → k.serial + m + n ≤ 2 ^ 40 → TakesBlocks k n m (Ok b)
  takes-all b free left = record {
    free = free;
    stamps = left;
    passes = λ W V says.
        let e = enough free.count W says in
        let t : ltb (2 ^ 40) (W.serial + m + n) ≡ false =
        not-less (2 ^ 40) (W.serial + m + n) (let q = says.serial in omega (arith, q, left)) in
        rw (e, t) refl;
    refused = tt;
  }
