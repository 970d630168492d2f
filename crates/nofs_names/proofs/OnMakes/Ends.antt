-- The contract of Make, by how its entry was written.
use Rattle.std.proofs.Common.{◌≡◌, ℕ, ◌/◌, ◌^◌, ◌<◌, ◌≤◌, true, false, eqb, ne_eqb, not, List, length, IsTrue, refl}
use Rattle.std.proofs.Common.{sym, ap, subst, arith}
use Rattle.nofs_bits.specs.Bits.{is_set}
use Rattle.nofs_disk.specs.Disk.{DiskState, IsDisk, cell_at}
use Rattle.nofs_inode.specs.declared.inode.FileKind.{FileKind}
use Rattle.nofs_inode.specs.declared.inode.Record.{Record}
use Rattle.nofs_history.specs.Machine.{link_to}
use Rattle.nofs_history.specs.Claims.{is_claimed}
use Rattle.nofs_history.specs.declared.machine.history.Claims.{Claims}
use Rattle.nofs_history.specs.declared.machine.steps.Step.TheVariants as step
use Rattle.nofs_state.specs.Books.Maps.{IsSafe, claimed_books, claimed_pointer, made_books}
use Rattle.nofs_state.specs.Cores.Steps.{Goes}
use Rattle.nofs_state.specs.declared.books.maps.Books.{Books}
use Rattle.nofs_names.specs.Entries.Writes.{Enters}
use Rattle.nofs_names.specs.Entries.Tables.{table_block}
use Rattle.nofs_names.specs.Entries.Places.{FitsSlot, slot_blocks}
use Rattle.nofs_state.specs.Writes.Premises.{RowsPass}
use Rattle.nofs_state.specs.declared.writes.ends.Ended.{Ended}
use Rattle.nofs_names.specs.declared.entries.writes.EntryPlace.{EntryPlace}
use Rattle.nofs_names.specs.declared.entries.writes.Tables.{Tables}
use Rattle.nofs_names.specs.declared.entries.places.EntrySlot.{EntrySlot}
use Rattle.nofs_names.specs.declared.entries.places.EntrySlot.TheVariants.{Held as HeldSlot, Direct as DirectHole}
use Rattle.nofs_names.specs.declared.entries.places.EntrySlot.TheVariants.{UnderLeaf as HoleUnder, WithLeaf as HoleWith}
use Rattle.nofs_names.specs.Makes.{MayMake, made_answer, made_record}
use Rattle.nofs_disk.specs.Pointer.{null}
use Rattle.nofs_names.proofs.OnMakes.Claims.{make_claims, taken-none, taken-one, taken-two}
use Rattle.nofs_names.proofs.OnEntries.Counts.{count-direct, count-under, count-with}
use Rattle.nofs_names.proofs.OnEntries.TableWrites.{tables-above}
use Rattle.nofs_names.proofs.OnMakes.Contract.{made-goes}
use Rattle.nofs_names.proofs.OnMakes.Entries.{next_of, held-made}
use Rattle.nofs_names.proofs.OnMakes.InHole.{direct-made, under-made, with-made}
use Rattle.nofs_state.proofs.OnBooks.Claims.{claimed-safe, made-safe}
use Rattle.nofs_names.proofs.OnMakes.Places.{in-data, free-above, free-positive, no-table}

module _ (b new : DiskState) (k l : Books) (d g : ℕ) (name : List ℕ) (kind : FileKind) (dr : Record)
    (place : EntryPlace) (i : ℕ) (t : Tables) (ended : Ended)
    (is_b : IsDisk b) (is_new : IsDisk new) (safe : IsSafe b k) (going : k.stopped ≡ false)
    (may : MayMake b k d g name dr place i)
    (was_d : IsTrue b.tells → t.directory ≡ cell_at b.now (table_block d))
    (was_i : IsTrue b.tells → t.inode ≡ cell_at b.now (table_block i))
    (pass : RowsPass b k (step.Make d g name kind)) where
  -- the claims of what was written, with the inode
  abbrev with_inode : Claims → Claims
  with_inode c = record c { inode = i; generation = next_of k }

  abbrev IsEnd : Claims → Type 0
  IsEnd c = Goes b k new l (step.Make d g name kind) (record c { inode = i; generation = next_of k })
      (made_answer (record c { inode = i; generation = next_of k }) ended.result)

  high : i ≤ length k.free_inodes
  high = let w = may.within in let n = safe.free_inodes in omega (arith, w, n)

  one-left : k.serial < 2 ^ 40
  one-left = let s = may.stamps in omega (arith, s)

  first-safe : IsSafe b (made_books k i)
  first-safe = made-safe b k i one-left safe

  module _ (n : ℕ) (blocks-are : slot_blocks place.slot ≡ n) (one : 1 ≤ n) where
    cell-free : is_set k.free_blocks place.blocks.cell ≡ true
    cell-free = (may.blocks.cell (let e = blocks-are in omega (arith, e, one))).0

    cell-range : place.blocks.cell < length k.free_blocks
    cell-range = (may.blocks.cell (let e = blocks-are in omega (arith, e, one))).1

    cell-within : place.blocks.cell < k.at.blocks
    cell-within = let r = cell-range in let m = safe.free_blocks in omega (arith, r, m)

    cell-named : is_claimed (claimed_pointer (made_books k i) place.blocks.cell) ≡ true
    cell-named = let z : eqb place.blocks.cell 0 ≡ false =
        ne_eqb place.blocks.cell 0 (λ e. free-above b k place.blocks.cell safe cell-free (sym e)) in ap not z

    cell-safe : IsSafe b (claimed_books (made_books k i) place.blocks.cell)
    cell-safe = claimed-safe b (made_books k i) place.blocks.cell cell-within
        (let s = may.stamps in let e = blocks-are in omega (arith, s, e, one)) first-safe

  positive : (n : ℕ) → is_set k.free_blocks n ≡ true → 0 < n
  positive n free = free-positive b k n safe free

  fits-slot : (s : EntrySlot) → place.slot ≡ s → FitsSlot k.at (place.entry / 16) s
  fits-slot s e = subst (λ (q : EntrySlot). FitsSlot k.at (place.entry / 16) q) e may.fits

  below : place.entry / 16 < 72
  below = let r = may.range in omega (arith, r)

  pub entered-goes : (s : EntrySlot) → place.slot ≡ s
      → Enters b (made_books k i) new l d dr place (record { inode = i; generation = next_of k; name = name })
      (made_record kind (next_of k) (link_to d place.entry g)) t s ended
      → Goes b k new l (step.Make d g name kind) (record ended.claims { inode = i; generation = next_of k })
      (made_answer (record ended.claims { inode = i; generation = next_of k }) ended.result)
  entered-goes (HeldSlot x) is w = subst IsEnd (sym w.claims)
      (made-goes b new k
      (made_books k i) l d g name kind place.entry _ _ 0 ended.result is_b is_new safe first-safe going
      (in-data k.at x (fits-slot (HeldSlot x) is), (no-table i, tt))
      (taken-none k i (next_of k) may.above high)
      (λ tells H p o. held-made b k H p d g name kind dr place i tells safe o may is_b x is w.whole w.cell w.table
      t.inode w.payload w.tag (was_i tells)
      w.written)
      pass w.stores refl)
  entered-goes DirectHole is w = subst IsEnd (sym w.claims)
      (made-goes b new k
      (claimed_books (made_books k i) place.blocks.cell) l d g name kind place.entry _ _ 1 ended.result is_b is_new safe
      (cell-safe 1 (ap slot_blocks is) (omega arith)) going (
        free-above b k place.blocks.cell safe (cell-free 1 (ap slot_blocks is) (omega arith)),
        tables-above d i w.after,
      )
      (taken-one k i (next_of k) may.above high (claimed_pointer (made_books k i) place.blocks.cell)
      (cell-range 1 (ap slot_blocks is) (omega arith))
      (cell-named 1 (ap slot_blocks is) (omega arith)))
      (λ tells H p o. direct-made b k H p d g name kind dr place i tells safe o may is_b w.cell w.filled is t w.after
      w.tables (was_d tells) (was_i tells))
      pass w.stores
      (count-direct (make_claims i (next_of k) (claimed_pointer (made_books k i) place.blocks.cell) null)
      (place.entry / 16) d i refl (positive place.blocks.cell (cell-free 1 (ap slot_blocks is) (omega arith)))
      place.blocks.cell w.cell w.after refl (fits-slot DirectHole is)))
  entered-goes (HoleUnder y) is w = subst IsEnd (sym w.claims)
      (made-goes b new k
      (claimed_books (made_books k i) place.blocks.cell) l d g name kind place.entry _ _ 1 ended.result is_b is_new safe
      (cell-safe 1 (ap slot_blocks is) (omega arith)) going (
        free-above b k place.blocks.cell safe (cell-free 1 (ap slot_blocks is) (omega arith)),
        (
          in-data k.at y (fits-slot (HoleUnder y) is).1,
          (no-table i, tt),
        ),
      )
      (taken-one k i (next_of k) may.above high (claimed_pointer (made_books k i) place.blocks.cell)
      (cell-range 1 (ap slot_blocks is) (omega arith))
      (cell-named 1 (ap slot_blocks is) (omega arith)))
      (λ tells H p o. under-made b k H p d g name kind dr place i tells safe o may is_b w.cell w.filled y is w.leaf
      w.table t.inode w.above w.written
      (was_i tells)) pass w.stores
      (count-under (make_claims i (next_of k) (claimed_pointer (made_books k i) place.blocks.cell) null)
      (place.entry / 16) d i refl (positive place.blocks.cell (cell-free 1 (ap slot_blocks is) (omega arith))) refl
      (fits-slot (HoleUnder y) is).0 below))
  entered-goes HoleWith is w =
      let f = may.blocks.leaf (let e = ap slot_blocks is in omega (arith, e)) in
      let n : place.blocks.leaf < k.at.blocks = (let r = f.1 in let m = safe.free_blocks in omega (arith, r, m)) in
      let z : eqb place.blocks.leaf 0 ≡ false =
      ne_eqb place.blocks.leaf 0 (λ e. free-above b k place.blocks.leaf safe f.0 (sym e)) in
      subst IsEnd (sym w.claims)
      (made-goes b new k (claimed_books (claimed_books (made_books k i) place.blocks.cell) place.blocks.leaf) l d g name
      kind place.entry _ _ 2 ended.result
      is_b is_new safe
      (claimed-safe b (claimed_books (made_books k i) place.blocks.cell) place.blocks.leaf n
      (let s = may.stamps in let e = ap slot_blocks is in omega (arith, s, e))
      (cell-safe 2 (ap slot_blocks is) (omega arith))) going (
        free-above b k place.blocks.cell safe (cell-free 2 (ap slot_blocks is) (omega arith)),
        (free-above b k place.blocks.leaf safe f.0, tables-above d i w.after),
      )
      (taken-two k i (next_of k) may.above high (claimed_pointer (made_books k i) place.blocks.cell)
      (claimed_pointer (claimed_books (made_books k i) place.blocks.cell) place.blocks.leaf)
      (cell-range 2 (ap slot_blocks is) (omega arith)) f.1 (cell-named 2 (ap slot_blocks is) (omega arith)) (ap not z))
      (λ tells H p o. with-made b k H p d g name kind dr place i tells safe o may is_b w.cell w.filled is w.leaf t
      w.after w.above w.tables (was_d tells)
      (was_i tells)) pass w.stores
      (count-with (make_claims i (next_of k) (claimed_pointer (made_books k i) place.blocks.cell)
      (claimed_pointer (claimed_books (made_books k i) place.blocks.cell) place.blocks.leaf)) (place.entry / 16) d i
      refl (positive place.blocks.cell (cell-free 2 (ap slot_blocks is) (omega arith)))
      place.blocks.cell place.blocks.leaf w.cell w.leaf w.after
      (positive place.blocks.leaf f.0) (fits-slot HoleWith is) below))

-- the entry that was written, by the claim's numbers
pub enters-as : (b new : DiskState) (k m l : Books) (d g : ℕ) (name : List ℕ) (kind : FileKind) (dr : Record)
    (place : EntryPlace) (i gen : ℕ) (r : Record)
    (t : Tables) (s : EntrySlot) (ended : Ended) → m ≡ made_books k i → gen ≡ next_of k
    → r ≡ made_record kind gen (link_to d place.entry g)
    → Enters b m new l d dr place (record { inode = i; generation = gen; name = name }) r t s ended
    → Enters b (made_books k i) new l d dr place (record { inode = i; generation = next_of k; name = name })
    (made_record kind (next_of k) (link_to d place.entry g)) t s ended
enters-as b new k m l d g name kind dr place i gen r t s ended em eg er w =
    subst (λ (q : ℕ). Enters b (made_books k i) new l d dr place (record { inode = i; generation = q; name = name })
    (made_record kind q (link_to d place.entry g)) t s ended) eg
    (subst (λ (q : Record). Enters b (made_books k i) new l d dr place
    (record { inode = i; generation = gen; name = name }) q t s ended) er
    (subst (λ (q : Books). Enters b q new l d dr place
    (record { inode = i; generation = gen; name = name }) r t s ended) em w))
