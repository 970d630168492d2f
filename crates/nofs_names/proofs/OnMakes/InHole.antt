-- Make, where the slot of its entry is a hole: a block is claimed for it, and a leaf where there is none.
use Rattle.std.proofs.Common.{◌≡◌, ◌≢◌, ℕ, ◌+◌, ◌-◌, ◌/◌, ◌%◌, ◌<◌, ◌≤◌, inl, inr, Bool, true, false, leb, ◌&&◌, ◌||◌}
use Rattle.std.proofs.Common.{not, is_some, List, length, IsTrue, sym, ap, ◌∙◌, subst, arith, [], ◌∷◌, refl, ◌⊎◌}
use Rattle.nofs_bits.specs.Bits.{is_set}
use Rattle.nofs_disk.specs.Disk.{DiskState, cell_at, IsDisk}
use Rattle.nofs_disk.specs.declared.tag.Cell.{Cell}
use Rattle.nofs_inode.specs.declared.inode.FileKind.{FileKind}
use Rattle.nofs_disk.specs.declared.tag.Pointer.{Pointer}
use Rattle.nofs_inode.specs.declared.inode.Record.{Record}
use Rattle.nofs_super.specs.declared.superblock.SuperBlock.{SuperBlock}
use Rattle.nofs_inode.specs.InodeRecords.{record_at}
use Rattle.nofs_dirent.specs.Entries.{spelled_entry}
use Rattle.nofs_dirent.specs.declared.entry.Entry.{Entry}
use Rattle.nofs_disk.specs.Pointer.{null}
use Rattle.nofs_model.specs.Geometry.{Image, inode}
use Rattle.nofs_model.specs.Files.{files_in, agreed, is_special}
use Rattle.nofs_ptrs.specs.Paths.{leaf, path_of}
use Rattle.nofs_model.specs.Slots.{find}
use Rattle.nofs_model.proofs.OnSound.Writes.{supers}
use Rattle.nofs_history.specs.World.{World, uses_inode, uses_block, blocks_needed}
use Rattle.nofs_history.specs.Claims.{IsClaim, is_claimed, next_stamp}
use Rattle.nofs_history.specs.declared.machine.history.Entry1.{Entry1}
use Rattle.nofs_history.specs.declared.machine.history.Claims.{Claims}
use Rattle.nofs_history.specs.declared.machine.steps.Step.TheVariants as step
use Rattle.nofs_crashlaw.proofs.OnUntouched.Matches.{Matched, matched-agreed}
use Rattle.nofs_crashlaw.specs.Maps.Homes.{ClaimsFree}
use Rattle.nofs_crashlaw.specs.Maps.Moves.{IsClaimed}
use Rattle.nofs_crashlaw.proofs.OnMaps.Good.{law-claims}
use Rattle.nofs_crashlaw.proofs.OnMaps.Homes.{law-good}
use Rattle.nofs_crashlaw.proofs.OnNames.Links.{record-in}
use Rattle.nofs_state.specs.Books.Maps.{IsSafe, claimed_pointer, made_books, claimed_books}
use Rattle.nofs_state.specs.Cores.Invariant.{IsOpen, Past}
use Rattle.nofs_state.specs.declared.books.maps.Books.{Books}
use Rattle.nofs_names.specs.Entries.Places.{FitsSlot, IsEntrySlot, slot_blocks, IsSlotCell}
use Rattle.nofs_names.specs.declared.entries.writes.EntryPlace.{EntryPlace}
use Rattle.nofs_names.specs.declared.entries.places.EntrySlot.{EntrySlot}
use Rattle.nofs_crashlaw.proofs.OnNumbers.Files.{listed}
use Rattle.nofs_crashlaw.proofs.OnImages.Below.{live-stands}
use Rattle.nofs_state.proofs.OnBooks.Machine.{agreed-live, world-numbers}
use Rattle.nofs_state.proofs.OnCores.Replies.{open-files}
use Rattle.nofs_state.proofs.OnBooks.ClaimedBlocks.{claim-was}
use Rattle.nofs_names.proofs.OnEntries.InPlace.{eight-direct}
use Rattle.nofs_names.proofs.OnEntries.HoleCells.{EntersHole, IsReady, IsNewBlock, IsWritten}
use Rattle.nofs_names.specs.Makes.{MayMake, made_record}
use Rattle.nofs_names.proofs.OnMakes.Claims.{IsPicked, block-picked, make_claims, claims-one, claims-two}
use Rattle.nofs_names.proofs.OnMakes.Premises.{IsHoleWrite, OfEntry, OfLeaf, OfTable, Makes}
use Rattle.nofs_names.proofs.OnMakes.Entries.{next_of, agrees, rec, spelled, in-table, geometry, place-here}
use Rattle.nofs_names.proofs.OnMakes.Entries.{inode-claim, needs-are, makes-from}
use Rattle.nofs_model.specs.declared.image.path.PathAnswer.TheVariants as answer
use Rattle.nofs_history.specs.Machine.{link_to}
use Rattle.nofs_disk.specs.Order.{image_after}
use Rattle.nofs_names.specs.Entries.Writes.{AreTables, IsMoreLeaf, IsNewCell, IsNewLeaf, table_writes}
use Rattle.nofs_names.specs.Entries.Writes.{with_direct, with_leaf}
use Rattle.nofs_names.specs.Entries.Tables.{IsTable, table_block}
use Rattle.nofs_names.specs.declared.entries.writes.Tables.{Tables}
use Rattle.nofs_names.specs.declared.entries.places.EntrySlot.TheVariants.{Direct as DirectHole, UnderLeaf as HoleUnder}
use Rattle.nofs_names.specs.declared.entries.places.EntrySlot.TheVariants.{WithLeaf as HoleWith}
use Rattle.nofs_names.proofs.OnMakes.Writes.{in-hole-ends}
use Rattle.nofs_names.proofs.OnMakes.Contract.{IsMade}
use Rattle.nofs_names.proofs.OnEntries.InHole.{direct-enters}
use Rattle.nofs_names.proofs.OnEntries.UnderLeaf.{under-enters}
use Rattle.nofs_names.proofs.OnEntries.WithLeaf.{with-enters}

module _ (b : DiskState) (k : Books) (H : List Entry1) (p : Past) (d g : ℕ) (name : List ℕ) (kind : FileKind)
    (dr : Record) (place : EntryPlace) (i : ℕ)
    (tells : IsTrue b.tells) (safe : IsSafe b k) (o : IsOpen b k H p) (may : MayMake b k d g name dr place i) where
  abbrev W : World
  W = p.world

  abbrev X : Image
  X = b.now

  agrees-here : agreed (files_in b.now) d ≡ true
  agrees-here = agrees b k H p d g name kind dr place i tells safe o may

  claims-free : (c : Claims) → IsClaim p.world (step.Make d g name kind) c → ClaimsFree p.world c b.now
  claims-free c claim = law-claims W (step.Make d g name kind) c W.known_inodes
      (λ j. not (uses_inode W j)) W.known_blocks (λ q. not (uses_block W q)) X
      (law-good W X (world-numbers b k H p o) (open-files b k H p o) o.homes) claim

  -- a claimed block
  new-block : (c : Claims) (x : Pointer) → IsClaim p.world (step.Make d g name kind) c → IsClaimed c x
      → IsNewBlock (next_stamp p.world) b.now x
  new-block c x claim named = record {
    free = (claims-free c claim).block_free x (listed c x named);
    area = (claims-free c claim).block_data x (listed c x named);
    fresh = (claim-was W (step.Make d g name kind) c x claim named).1;
  }

  -- the mark's stamps are older than those of what is claimed
  newer-than : (c : Claims) (x : Pointer) → IsClaim p.world (step.Make d g name kind) c → IsClaimed c x
      → p.stamps ≤ x.stamp
  newer-than c x claim named = let q = o.older in
      let s = (claim-was p.world (step.Make d g name kind) c x claim named).1 in omega (arith, q, s)

  -- the claimed inode is not the directory
  inode-apart : d ≢ i
  inode-apart e = no-file (W.known_inodes i) (is_special i) (is_some (W.files i))
      (sym (o.says.free_inodes i may.above may.within) ∙ may.free)
      (ap (λ (q : ℕ). is_some (W.files q)) (sym e) ∙ ap is_some own.is)
    where
      own : Matched W.files X d
      own = matched-agreed W.files X d (open-files b k H p o) (agreed-live X d agrees-here) agrees-here

      no-file : (a s f : Bool) → (a && not (s || f)) ≡ true → f ≡ true → ⊥
      no-file true true f h e = cc h
      no-file true false true h e = cc h
      no-file true false false h e = cc e
      no-file false s f h e = cc h

  ready : IsReady b.now d i place.entry dr
  ready = record {
    whole = (geometry b k H p d g name kind dr place i tells safe o may).fits;
    room = (geometry b k H p d g name kind dr place i tells safe o may).table;
    quarters = (geometry b k H p d g name kind dr place i tells safe o may).multiple;
    d_range = (live-stands X d (agreed-live X d agrees-here)).range;
    i_range = in-table b k H p d g name kind dr place i tells safe o may;
    apart = inode-apart;
    directory = rec b k H p d g name kind dr place i tells safe o may;
    kind = may.directory.kind;
    eight = subst (λ (r : Record). length r.direct ≡ 8) (rec b k H p d g name kind dr place i tells safe o may)
        (eight-direct b.now d);
    range = may.range;
  }

  short : length (spelled_entry i (next_of k) name) ≡ 64
  short = (spelled b k H p d g name kind dr place i tells safe o may).short

  -- a cell that was written is one of the entry, the leaf or the table
  sort : (Y : Image) (c : Claims) (y : Pointer) (n : ℕ) (z : Cell) → cell_at Y 0 ≡ cell_at b.now 0
      → IsWritten b.now Y place.entry c.cell y n z
      → (z ≡ cell_at Y n) × IsHoleWrite b.now Y place.entry c y n z
  sort Y c y n z super (is, inl h) = (is, OfEntry h (is ∙ ap (cell_at Y) h))
  sort Y c y n z super (is, inr (inl h)) = (is, OfLeaf h.0 h.1 (is ∙ ap (cell_at Y) h.1))
  sort Y c y n z super (is, inr (inr h)) = (
    is,
    OfTable h.0 h.1 h.2 (λ j range same.
        inr (ap (λ (q : Cell). record_at q.payload ((j - 1) % 4)) (is ∙ ap (cell_at Y) (sym same))
        ∙ record-in Y j (ap (λ (q : SuperBlock). leb 1 j && leb j q.inodes) (supers b.now Y super) ∙ range))),
  )

  empty-slot : (s : EntrySlot) → place.slot ≡ s → IsEntrySlot b.now d (place.entry / 16) s
  empty-slot s e = subst (λ (q : EntrySlot). IsEntrySlot b.now d (place.entry / 16) q) e (may.slot tells)

  fits-slot : (s : EntrySlot) → place.slot ≡ s → FitsSlot k.at (place.entry / 16) s
  fits-slot s e = subst (λ (q : EntrySlot). FitsSlot k.at (place.entry / 16) q) e may.fits

  -- the blocks that are claimed

  cell-set : (n : ℕ) → slot_blocks place.slot ≡ n → 1 ≤ n → (is_set k.free_blocks place.blocks.cell ≡ true)
      × (place.blocks.cell < k.at.blocks)
  cell-set n e le = let f = may.blocks.cell (omega (arith, e, le)) in
      (f.0, (let l = f.1 in let m = safe.free_blocks in omega (arith, l, m)))

  cell-picked : (n : ℕ) → slot_blocks place.slot ≡ n → 1 ≤ n
      → IsPicked p.world (next_stamp p.world + 1) (claimed_pointer (made_books k i) place.blocks.cell)
  cell-picked n e le = let f = cell-set n e le in block-picked b k H p safe o place.blocks.cell 1 f.1 f.0

  needs : (s : EntrySlot) → place.slot ≡ s → blocks_needed p.world.files (step.Make d g name kind) ≡ slot_blocks s
  needs s e = needs-are b k H p d g name kind dr place i tells safe o may ∙ ap slot_blocks e

  abbrev R : Record
  R = made_record kind (next_of k) (link_to d place.entry g)

  abbrev N : Entry
  N = record { inode = i; generation = next_of k; name = name }

  -- what was written comes to a Make: x is claimed for the entry, and y is the leaf above it, claimed where z is
  made-of : IsDisk b → (ws : List (ℕ × Cell)) (x y z : Pointer) (n : ℕ)
      → IsClaim p.world (step.Make d g name kind) (make_claims i (next_of k) x z)
      → IsClaimed (make_claims i (next_of k) x z) x
      → (is_claimed z ≡ true → z ≡ y)
      → (p.stamps ≤ y.stamp ⊎ ((q : Pointer) × (find b.now d leaf ≡ answer.Holds q)))
      → EntersHole (next_stamp p.world) b.now (image_after ws b.now) d i place.entry
      (made_record kind (next_of k) (link_to d place.entry g))
      (record { inode = i; generation = next_of k; name = name }) x y ws
      → blocks_needed p.world.files (step.Make d g name kind) ≡ n
      → IsMade b H p d g name kind place.entry (make_claims i (next_of k) x z) ws n
  made-of is_b ws x y z n claim named leaf_is leaf_newer enters asks = record {
    it = makes;
    ends = in-hole-ends b k H p d g name kind place.entry (make_claims i (next_of k) x z) ws is_b tells o makes y
        (record {
          entry = enters.entry;
          claims = record {
            place = place-here b k H p d g name kind dr place i tells safe o may;
            cell = refl;
            leaf = leaf_is;
          };
          newer = newer-than (make_claims i (next_of k) x z) x claim named;
          leaf_newer = leaf_newer;
          each = λ n c one. sort (image_after ws b.now) (make_claims i (next_of k) x z) y n c enters.super
              (enters.each n c one);
        });
    once = enters.once;
    needs = asks;
  }
    where
      makes : Makes b.now (image_after ws b.now) p.world d g name kind place.entry (make_claims i (next_of k) x z)
      makes = makes-from b k H p d g name kind dr place i tells safe o may
          (image_after ws b.now) x z claim enters.inode_is

  -- the block of the entry, where it is the only one that is claimed
  module _ (one : slot_blocks place.slot ≡ 1) where
    picked : IsPicked p.world (next_stamp p.world + 1) (claimed_pointer (made_books k i) place.blocks.cell)
    picked = cell-picked 1 one (omega arith)

    one-claim : IsClaim p.world (step.Make d g name kind)
        (make_claims i (next_of k) (claimed_pointer (made_books k i) place.blocks.cell) null)
    one-claim =
        claims-one p.world d g name kind i (next_of k) (inode-claim b k H p d g name kind dr place i tells safe o may)
        (claimed_pointer (made_books k i) place.blocks.cell)
        (needs-are b k H p d g name kind dr place i tells safe o may ∙ one) picked

    one-named : IsClaimed (make_claims i (next_of k) (claimed_pointer (made_books k i) place.blocks.cell) null)
        (claimed_pointer (made_books k i) place.blocks.cell)
    one-named = (picked.named, inl refl)

    one-block : IsNewBlock (next_stamp p.world) b.now (claimed_pointer (made_books k i) place.blocks.cell)
    one-block = new-block (make_claims i (next_of k) (claimed_pointer (made_books k i) place.blocks.cell) null)
        (claimed_pointer (made_books k i) place.blocks.cell) one-claim one-named

  module _ (is_b : IsDisk b) (cell : Cell) (filled : IsNewCell d dr.generation place.entry
      (record { inode = i; generation = next_of k; name = name })
      (claimed_pointer (made_books k i) place.blocks.cell).stamp cell) where
    abbrev x : Pointer
    x = claimed_pointer (made_books k i) place.blocks.cell

    -- A hole of the record

    module _ (slot-is : place.slot ≡ DirectHole) (before after : Tables)
        (tables : AreTables before d
        (with_direct dr (place.entry / 16) (claimed_pointer (made_books k i) place.blocks.cell)) i
        (made_record kind (next_of k) (link_to d place.entry g)) after)
        (was_d : before.directory ≡ cell_at b.now (table_block d))
        (was_i : before.inode ≡ cell_at b.now (table_block i)) where
      pub direct-made : IsMade b H p d g name kind place.entry
          (make_claims i (next_of k) (claimed_pointer (made_books k i) place.blocks.cell) null)
          ((place.blocks.cell, cell) ∷ table_writes d i after) 1
      direct-made = let one = ap slot_blocks slot-is in
          made-of is_b ((place.blocks.cell, cell) ∷ table_writes d i after) x x null 1 (one-claim one) (one-named one)
          (λ t. cc t)
          (inl (newer-than (make_claims i (next_of k) x null) x (one-claim one) (one-named one)))
          (direct-enters b.now d i place.entry dr ready (next_stamp p.world) x x (one-block one) cell before after R N
          (fits-slot DirectHole slot-is) filled tables was_d was_i (empty-slot DirectHole slot-is) short)
          (needs DirectHole slot-is)

    -- A hole under a leaf that holds

    module _ (y : Pointer) (slot-is : place.slot ≡ HoleUnder y) (u t before : Cell)
        (more : IsMoreLeaf place.cell (place.entry / 16 - 8) (claimed_pointer (made_books k i) place.blocks.cell) u)
        (table : IsTable before i (made_record kind (next_of k) (link_to d place.entry g)) t)
        (was_i : before ≡ cell_at b.now (table_block i)) where
      held : (find b.now d (path_of (place.entry / 16)) ≡ answer.Hole) × (find b.now d leaf ≡ answer.Holds y)
      held = empty-slot (HoleUnder y) slot-is

      leaf-was : place.cell ≡ cell_at b.now y.block
      leaf-was = subst (λ (q : EntrySlot). IsSlotCell b.now q place.cell) slot-is (may.cell tells)

      pub under-made : IsMade b H p d g name kind place.entry
          (make_claims i (next_of k) (claimed_pointer (made_books k i) place.blocks.cell) null)
          ((place.blocks.cell, cell) ∷ (y.block, u) ∷ (table_block i, t) ∷ []) 1
      under-made = let one = ap slot_blocks slot-is in
          made-of is_b ((place.blocks.cell, cell) ∷ (y.block, u) ∷ (table_block i, t) ∷ []) x y null 1 (one-claim one)
          (one-named one) (λ t. cc t) (inr (y, held.1))
          (under-enters b.now d i place.entry dr ready (next_stamp p.world) x y (one-block one) agrees-here held.1 cell
          u t place.cell before R N (fits-slot (HoleUnder y) slot-is).0 filled more leaf-was table was_i held.0 short)
          (needs (HoleUnder y) slot-is)

    -- A hole where there is no leaf

    module _ (slot-is : place.slot ≡ HoleWith) (u : Cell) (before after : Tables)
        (leafed : IsNewLeaf d dr.generation (claimed_pointer (claimed_books (made_books k i) place.blocks.cell)
        place.blocks.leaf).stamp (place.entry / 16 - 8)
        (claimed_pointer (made_books k i) place.blocks.cell) u)
        (tables : AreTables before d
        (with_leaf dr (claimed_pointer (claimed_books (made_books k i) place.blocks.cell) place.blocks.leaf)) i
        (made_record kind (next_of k) (link_to d place.entry g)) after)
        (was_d : before.directory ≡ cell_at b.now (table_block d))
        (was_i : before.inode ≡ cell_at b.now (table_block i)) where
      abbrev y : Pointer
      y = claimed_pointer (claimed_books (made_books k i) place.blocks.cell) place.blocks.leaf

      abbrev C3 : Claims
      C3 = make_claims i (next_of k) (claimed_pointer (made_books k i) place.blocks.cell)
          (claimed_pointer (claimed_books (made_books k i) place.blocks.cell) place.blocks.leaf)

      leaf-free : (is_set k.free_blocks place.blocks.leaf ≡ true) × (place.blocks.leaf < length k.free_blocks)
          × (place.blocks.cell < place.blocks.leaf)
      leaf-free = may.blocks.leaf (let e = ap slot_blocks slot-is in omega (arith, e))

      picked3 : IsPicked p.world (next_stamp p.world + 1) (claimed_pointer (made_books k i) place.blocks.cell)
      picked3 = cell-picked 2 (ap slot_blocks slot-is) (omega arith)

      leaf-picked : IsPicked p.world (next_stamp p.world + 1 + 1)
          (claimed_pointer (claimed_books (made_books k i) place.blocks.cell) place.blocks.leaf)
      leaf-picked =
          let f = leaf-free in
          let q = block-picked b k H p safe o place.blocks.leaf 2
          (let l = f.1 in let m = safe.free_blocks in omega (arith, l, m)) f.0 in
          record {
            free = q.free;
            range = q.range;
            stamp_is = (let n = q.stamp_is in omega (arith, n));
            named = q.named;
          }

      differ : place.blocks.cell ≢ place.blocks.leaf
      differ e = let f = leaf-free.2 in omega (arith, e, f)

      claim3 : IsClaim p.world (step.Make d g name kind)
          (make_claims i (next_of k) (claimed_pointer (made_books k i) place.blocks.cell)
          (claimed_pointer (claimed_books (made_books k i) place.blocks.cell) place.blocks.leaf))
      claim3 = claims-two p.world d g name kind i (next_of k)
          (inode-claim b k H p d g name kind dr place i tells safe o may)
          (claimed_pointer (made_books k i) place.blocks.cell) y (needs HoleWith slot-is) picked3 leaf-picked differ

      named3 : IsClaimed C3 (claimed_pointer (made_books k i) place.blocks.cell)
      named3 = (picked3.named, inl refl)

      leaf-named : IsClaimed C3 (claimed_pointer (claimed_books (made_books k i) place.blocks.cell) place.blocks.leaf)
      leaf-named = (leaf-picked.named, inr (inl refl))

      block3 : IsNewBlock (next_stamp p.world) b.now (claimed_pointer (made_books k i) place.blocks.cell)
      block3 = new-block C3 (claimed_pointer (made_books k i) place.blocks.cell) claim3 named3

      leaf-block : IsNewBlock (next_stamp p.world) b.now
          (claimed_pointer (claimed_books (made_books k i) place.blocks.cell) place.blocks.leaf)
      leaf-block = new-block C3 y claim3 leaf-named

      holes : (find b.now d (path_of (place.entry / 16)) ≡ answer.Hole) × (find b.now d leaf ≡ answer.Hole)
      holes = empty-slot HoleWith slot-is

      pub with-made : IsMade b H p d g name kind place.entry
          (make_claims i (next_of k) (claimed_pointer (made_books k i) place.blocks.cell)
          (claimed_pointer (claimed_books (made_books k i) place.blocks.cell) place.blocks.leaf))
          ((place.blocks.cell, cell) ∷ (place.blocks.leaf, u) ∷ table_writes d i after) 2
      with-made = made-of is_b ((place.blocks.cell, cell) ∷ (place.blocks.leaf, u) ∷ table_writes d i after) x y y 2
          claim3 named3 (λ t. refl) (inl (newer-than C3 y claim3 leaf-named))
          (with-enters b.now d i place.entry dr ready (next_stamp p.world) x y block3 leaf-block differ holes.1 cell u
          before after R N (fits-slot HoleWith slot-is) filled leafed tables was_d was_i holes.0 short)
          (needs HoleWith slot-is)
