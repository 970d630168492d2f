-- The writes of a Link, in a slot that holds or in a hole.
use Rattle.std.proofs.Common.{◌≡◌, ◌≢◌, ℕ, ◌+◌, ◌*◌, ◌/◌, ◌^◌, ◌<◌, ◌≤◌, ◌⊎◌, inl, inr, true, false, ne_eqb, List, []}
use Rattle.std.proofs.Common.{◌∷◌}
use Rattle.std.proofs.Common.{length, Some, IsTrue, refl, sym}
use Rattle.std.proofs.Common.{ap, ◌∙◌, subst, arith}
use Rattle.nofs_bits.specs.Bits.{is_set}
use Rattle.nofs_disk.specs.Disk.{DiskState, cell_at}
use Rattle.nofs_super.specs.Geometry.{IsGeometry}
use Rattle.nofs_inode.specs.declared.inode.FileKind.TheVariants.{Directory as Folder, File}
use Rattle.nofs_disk.specs.declared.tag.Cell.{Cell}
use Rattle.nofs_dirent.specs.declared.entry.Entry.{Entry}
use Rattle.nofs_disk.specs.declared.tag.Pointer.{Pointer}
use Rattle.nofs_inode.specs.declared.inode.Record.{Record}
use Rattle.nofs_disk.specs.Pointer.{null}
use Rattle.nofs_inode.specs.InodeRecords.{record_of}
use Rattle.nofs_disk.specs.Tag.{tag_of}
use Rattle.nofs_dirent.specs.Entries.{spelled_entry}
use Rattle.nofs_model.specs.Geometry.{Image, super_at, is_data_block, inode}
use Rattle.nofs_ptrs.specs.Paths.{leaf, path_of}
use Rattle.nofs_model.specs.Slots.{find}
use Rattle.nofs_model.specs.Files.{files_in, agreed}
use Rattle.nofs_model.specs.declared.image.path.PathAnswer.TheVariants as answer
use Rattle.nofs_model.specs.declared.image.value.Value.TheVariants.{Bytes}
use Rattle.nofs_model.proofs.OnSlots.Find.{find-held}
use Rattle.nofs_model.proofs.OnSound.Writes.{mountable-law}
use Rattle.nofs_history.specs.Machine.{link_to, with_entry}
use Rattle.nofs_history.specs.World.{blocks_needed}
use Rattle.nofs_history.specs.Claims.{IsClaim, is_claimed, next_stamp, no_claims}
use Rattle.nofs_history.specs.declared.machine.history.Claims.{Claims}
use Rattle.nofs_history.specs.declared.machine.history.Entry1.{Entry1}
use Rattle.nofs_history.specs.declared.machine.steps.Step.{Step}
use Rattle.nofs_history.specs.declared.machine.steps.Step.TheVariants as step
use Rattle.nofs_state.specs.Books.Maps.{claimed_books, claimed_pointer}
use Rattle.nofs_state.specs.Cores.Invariant.{IsOpen, Past}
use Rattle.nofs_state.specs.Cores.Steps.{entry}
use Rattle.nofs_state.specs.declared.books.maps.Books.{Books}
use Rattle.nofs_disk.specs.Order.{image_after}
use Rattle.nofs_names.specs.Entries.Places.{FitsSlot, IsEntrySlot, IsSlotCell, slot_blocks}
use Rattle.nofs_names.specs.Entries.Tables.{table_block}
use Rattle.nofs_state.specs.declared.writes.ends.Ended.{Ended}
use Rattle.nofs_names.specs.declared.entries.places.EntrySlot.{EntrySlot}
use Rattle.nofs_names.specs.declared.entries.places.EntrySlot.TheVariants.{Direct as DirectHole, UnderLeaf as HoleUnder}
use Rattle.nofs_names.specs.declared.entries.places.EntrySlot.TheVariants.{WithLeaf as HoleWith, Held as HeldSlot}
use Rattle.nofs_crashlaw.proofs.OnImages.Below.{live-stands}
use Rattle.nofs_state.proofs.OnBooks.Machine.{agreed-live, are-agreed}
use Rattle.nofs_state.proofs.OnCores.Replies.{open-files}
use Rattle.nofs_state.proofs.OnWrites.Tables.{HasRecord}
use Rattle.nofs_names.proofs.OnSteps.CellAndRecord.{in-slot as write-in-slot, in-table as write-in-table}
use Rattle.nofs_names.proofs.OnSteps.CellAndRecord.{once as write-once, record-new as write-record-new}
use Rattle.nofs_names.proofs.OnSteps.CellAndRecord.{super-stays as write-super-stays, data-stays as write-data-stays}
use Rattle.nofs_names.proofs.OnSteps.CellAndRecord.{record-old as write-record-old}
use Rattle.nofs_names.specs.Entries.Writes.{EntersHeld, EntersDirect, EntersUnderLeaf, EntersWithLeaf}
use Rattle.nofs_names.specs.Entries.Writes.{table_writes}
use Rattle.nofs_names.specs.Links.{with_link}
use Rattle.nofs_names.specs.declared.entries.writes.EntryPlace.{EntryPlace}
use Rattle.nofs_names.specs.declared.entries.writes.Tables.{Tables}
use Rattle.nofs_names.specs.declared.links.new_name.Both.{Both}
use Rattle.nofs_names.proofs.OnEntries.InPlace.{content-held, eight-direct}
use Rattle.nofs_names.proofs.OnEntries.HoleCells.{EntersHole, IsReady, IsNewBlock}
use Rattle.nofs_names.proofs.OnEntries.InHole.{direct-enters}
use Rattle.nofs_names.proofs.OnEntries.UnderLeaf.{under-enters}
use Rattle.nofs_names.proofs.OnEntries.WithLeaf.{with-enters}
use Rattle.nofs_names.proofs.OnLinks.Claims.{slot-needs, claims_of, claimed-first}
use Rattle.nofs_names.proofs.OnLinks.Claims.{claimed-second, claim-none, claim-cell, claim-both, new-block}
use Rattle.nofs_names.proofs.OnLinks.Writes.{Links, in-place-ends, in-hole-ends}
use Rattle.nofs_names.proofs.OnLinks.Comes.{Comes, LinkStands, linked_record}
use Rattle.nofs_names.proofs.OnMakes.Places.{free-positive}

module _ (first b new : DiskState) (k l : Books) (d g : ℕ) (both : Both) (p : EntryPlace) (it : Entry) (spot : ℕ)
    (t : Tables) (ended : Ended) (old : Record) (on : LinkStands first b k d g both p it spot t old) where
  abbrev new_record : Record
  new_record = linked_record d both p spot

  far : (n : ℕ) → is_set k.free_blocks n ≡ true → 0 < n
  far n free = free-positive b k n on.safe free

  abbrev s : Step
  s = step.Link d g it.name it.inode it.generation

  module _ (tells : IsTrue b.tells) (H : List Entry1) (q : Past) (o : IsOpen b k H q) where
    abbrev X : Image
    X = b.now

    geometry : IsGeometry (length X) (super_at X).blocks (super_at X).inodes
    geometry = let m = (mountable-law X).1 o.mountable in m.fits

    agrees : agreed (files_in b.now) d ≡ true
    agrees = (on.may.there tells (are-agreed b k H q on.safe o)).0

    there-i : agreed (files_in b.now) it.inode ≡ true
    there-i = (on.may.there tells (are-agreed b k H q on.safe o)).1

    rec-d : inode b.now d ≡ both.directory
    rec-d = on.may.known.directory.known.same tells

    rec-i : inode b.now it.inode ≡ both.file
    rec-i = on.may.known.file.0.same tells

    ready : IsReady b.now d it.inode p.entry both.directory
    ready = record {
      whole = geometry.fits;
      room = geometry.table;
      quarters = geometry.multiple;
      d_range = (live-stands b.now d (agreed-live b.now d agrees)).range;
      i_range = (live-stands b.now it.inode (agreed-live b.now it.inode there-i)).range;
      apart = λ e.
          absurd (let z : Some Folder ≡ Some File = sym on.may.known.directory.kind ∙ ap (λ (r : Record). r.kind)
          (sym rec-d ∙ ap (inode b.now) e ∙ rec-i) ∙ on.may.known.file.1 in cc z);
      directory = rec-d;
      kind = on.may.known.directory.kind;
      eight = subst (λ (r : Record). length r.direct ≡ 8) rec-d (eight-direct b.now d);
      range = on.enters.range;
    }

    slot-is : (z : EntrySlot) → p.slot ≡ z → IsEntrySlot b.now d (p.entry / 16) z
    slot-is z e = subst (λ (w : EntrySlot). IsEntrySlot b.now d (p.entry / 16) w) e (on.may.slot tells)

    fits : (z : EntrySlot) → p.slot ≡ z → FitsSlot k.at (p.entry / 16) z
    fits z e = subst (λ (w : EntrySlot). FitsSlot k.at (p.entry / 16) w) e on.enters.fits

    needs : blocks_needed q.world.files (step.Link d g it.name it.inode it.generation) ≡ slot_blocks p.slot
    needs =
        let e = on.may.place tells H q o in
        rw e (slot-needs q.world.files b.now d (p.entry / 16) (open-files b k H q o) agrees
        (let r = on.enters.range in omega (arith, r)) p.slot (on.may.slot tells)
        (fits DirectHole, (λ y e. (fits (HoleUnder y) e).0), fits HoleWith))

    links : (c : Claims) (ws : List (ℕ × Cell)) → IsClaim q.world s c
        → inode (image_after ws b.now) it.inode ≡ new_record
        → Links b.now (image_after ws b.now) q.world d g it.name it.inode it.generation p.entry spot c
    links c ws claim e = record {
      folder = ap (λ (r : Record). r.kind) rec-d ∙ on.may.known.directory.kind;
      generation = ap (λ (r : Record). r.generation) rec-d ∙ on.may.known.generation;
      agrees = agrees;
      file = ap (λ (r : Record). r.kind) rec-i ∙ on.may.known.file.1;
      of_is = ap (λ (r : Record). r.generation) rec-i ∙ on.may.known.of_is;
      there = there-i;
      place = on.may.place tells H q o;
      link = on.may.link tells H q o;
      claim = claim;
      spells = on.may.spells;
      record_is = e ∙ (λ j. with_link (sym rec-i j) spot (link_to d p.entry (on.may.known.generation j)));
    }

    newer : (stamp : ℕ) → next_stamp q.world ≤ stamp → q.stamps ≤ stamp
    newer stamp low = let a = o.older in omega (arith, a, low)

    stamp-is : k.at.mount * 2 ^ 40 + k.serial ≡ next_stamp q.world
    stamp-is = let m = o.says.mount in let n = o.says.serial in (λ j. sym m j * 2 ^ 40 + sym n j)

    -- what was written in a hole comes to a Link: x is claimed for the entry, and y is the leaf above it
    hole-comes : (c : Claims) (ws : List (ℕ × Cell)) (x y : Pointer) (n : ℕ) → IsClaim q.world s c
        → IsNewBlock (next_stamp q.world) b.now x → c.cell ≡ x → (is_claimed c.leaf ≡ true → c.leaf ≡ y)
        → (q.stamps ≤ y.stamp ⊎ ((z : Pointer) × (find b.now d leaf ≡ answer.Holds z)))
        → EntersHole (next_stamp q.world) b.now (image_after ws b.now) d it.inode p.entry new_record it x y ws
        → slot_blocks p.slot ≡ n → Comes b H q d g it.name it.inode it.generation p.entry spot c n ws
    hole-comes c ws x y n claim block cell_is leaf_is leaf_newer entered asks = record {
      it = linked;
      ends = in-hole-ends b k H q d g it.name it.inode it.generation p.entry spot c ws on.disk tells o linked x y
          (record {
            entry = entered.entry;
            claims = record { place = on.may.place tells H q o; cell = cell_is; leaf = leaf_is };
            newer = newer x.stamp block.fresh;
            leaf_newer = leaf_newer;
            each = entered.each;
          });
      once = entered.once;
      needs = needs ∙ asks;
    }
      where
        linked : Links b.now (image_after ws b.now) q.world d g it.name it.inode it.generation p.entry spot c
        linked = links c ws claim entered.inode_is

    -- the block of the entry, where it is the only one that is claimed
    module _ (one : slot_blocks p.slot ≡ 1) where
      free1 : (is_set k.free_blocks p.blocks.cell ≡ true) × (p.blocks.cell < length k.free_blocks)
      free1 = on.enters.free.cell (omega (arith, one))

      claim1 : IsClaim q.world s (claims_of (claimed_pointer k p.blocks.cell) null)
      claim1 = claim-cell k q.world o.says d g it.name it.inode it.generation p.blocks.cell free1.0
          (let a = free1.1 in let n = on.safe.free_blocks in omega (arith, a, n)) (needs ∙ one)

      block1 : IsNewBlock (next_stamp q.world) b.now (claimed_pointer k p.blocks.cell)
      block1 = new-block b k H q s (claims_of (claimed_pointer k p.blocks.cell) null) o claim1
          (claimed_pointer k p.blocks.cell)
          (let t = ne_eqb p.blocks.cell 0 (λ e. let f = far p.blocks.cell free1.0 in omega (arith, e, f)) in
          rw t (0, omega arith, refl))
          (let e = stamp-is in omega (arith, e))

    -- a slot that holds
    module _ (x : Pointer) (eq : p.slot ≡ HeldSlot x) (w : EntersHeld b k new l p x it new_record t ended) where
      abbrev ws1 : List (ℕ × Cell)
      ws1 = (x.block, w.cell) ∷ (table_block it.inode, w.table) ∷ []

      held : find b.now d (path_of (p.entry / 16)) ≡ answer.Holds x
      held = slot-is (HeldSlot x) eq

      was : p.cell ≡ cell_at b.now x.block
      was = subst (λ (z : EntrySlot). IsSlotCell b.now z p.cell) eq (on.may.cell tells)

      area : is_data_block b.now x.block ≡ true
      area = (find-held b.now d (path_of (p.entry / 16)) x held).agrees.area

      has : HasRecord b.now it.inode new_record w.table
      has = record {
        range = ready.i_range;
        here = w.written.here.here;
        others = λ j ne lt. w.written.here.others j ne lt ∙ ap
            (λ (z : Cell). record_of j z.payload) (on.at_i tells);
      }

      in-slot : cell_at (image_after ws1 b.now) x.block ≡ w.cell
      in-slot = write-in-slot b.now it.inode x w.cell w.table new_record geometry.fits geometry.table
          geometry.multiple area has

      in-table : cell_at (image_after ws1 b.now) (table_block it.inode) ≡ w.table
      in-table = write-in-table b.now it.inode x w.cell w.table new_record geometry.fits geometry.table
          geometry.multiple area has

      link1 : Links b.now (image_after ws1 b.now) q.world d g it.name it.inode it.generation p.entry spot no_claims
      link1 = links no_claims ws1
          (claim-none k q.world o.says d g it.name it.inode it.generation (needs ∙ ap slot_blocks eq))
          (write-record-new b.now it.inode x w.cell w.table new_record geometry.fits geometry.table
          geometry.multiple area has)

      pub held-comes : Comes b H q d g it.name it.inode it.generation p.entry spot no_claims 0 ws1
      held-comes = record {
        it = link1;
        ends = in-place-ends b k H q d g it.name it.inode it.generation p.entry spot no_claims ws1 on.disk tells o
            link1 x (record {
              entry = record {
                held = held;
                whole = sym (ap (λ (z : Cell). length z.payload) was) ∙ w.whole;
                writes = record {
                  super = write-super-stays b.now it.inode x w.cell w.table new_record geometry.fits geometry.table
                      geometry.multiple area has;
                  blocks = λ n t ne. write-data-stays b.now it.inode x w.cell w.table new_record geometry.fits
                      geometry.table geometry.multiple area has n t ne;
                  tag = ap (λ (z : Cell). tag_of z.tag) in-slot ∙ ap tag_of w.tag ∙ ap (λ (z : Cell). tag_of z.tag) was;
                  records = λ j ne.
                      write-record-old b.now it.inode x w.cell w.table new_record geometry.fits geometry.table
                      geometry.multiple area has j ne;
                };
                content = ap (λ (z : Cell). Bytes z.payload) in-slot ∙ ap Bytes w.payload
                    ∙ content-held p.entry it p.cell.payload on.may.spells.short ∙ ap
                    (λ (z : Cell). with_entry (Bytes z.payload) p.entry
                    (spelled_entry it.inode it.generation it.name)) was;
              };
              tag = ap (λ (z : Cell). tag_of z.tag) in-table ∙ w.written.tag;
              each = λ n cell one. elim one [
                | inl a ↦ (a.1 ∙ sym (ap (cell_at (image_after ws1 b.now)) a.0 ∙ in-slot), inl a.0)
                | inr r ↦ elim r [
                  | inl a ↦ (a.1 ∙ sym (ap (cell_at (image_after ws1 b.now)) a.0 ∙ in-table), inr a.0)
                  | inr none ↦ absurd none
                ]
              ];
            });
        once = write-once b.now it.inode x w.cell w.table new_record geometry.fits geometry.table
            geometry.multiple area has;
        needs = needs ∙ ap slot_blocks eq;
      }

    -- a hole of the record
    module _ (eq : p.slot ≡ DirectHole) (w : EntersDirect b k new l d both.directory p it new_record t ended) where
      abbrev x2 : Pointer
      x2 = claimed_pointer k p.blocks.cell

      pub direct-comes : Comes b H q d g it.name it.inode it.generation p.entry spot
          (claims_of (claimed_pointer k p.blocks.cell) null) 1
          ((p.blocks.cell, w.cell) ∷ table_writes d it.inode w.after)
      direct-comes = let one = ap slot_blocks eq in
          hole-comes (claims_of x2 null) ((p.blocks.cell, w.cell) ∷ table_writes d it.inode w.after) x2 x2 1
          (claim1 one) (block1 one) refl (λ z. absurd (let n : is_claimed null ≡ false = refl in cc (z, n)))
          (inl (newer x2.stamp (block1 one).fresh))
          (direct-enters b.now d it.inode p.entry both.directory ready (next_stamp q.world) x2 x2 (block1 one) w.cell t
          w.after new_record it (fits DirectHole eq) w.filled w.tables (on.at_d tells) (on.at_i tells)
          (slot-is DirectHole eq) on.may.spells.short) one

    -- a hole under a leaf that holds
    module _ (y : Pointer) (eq : p.slot ≡ HoleUnder y)
        (w : EntersUnderLeaf b k new l d both.directory p y it new_record t ended) where
      abbrev x3 : Pointer
      x3 = claimed_pointer k p.blocks.cell

      hole3 : (find b.now d (path_of (p.entry / 16)) ≡ answer.Hole) × (find b.now d leaf ≡ answer.Holds y)
      hole3 = slot-is (HoleUnder y) eq

      was3 : p.cell ≡ cell_at b.now y.block
      was3 = subst (λ (z : EntrySlot). IsSlotCell b.now z p.cell) eq (on.may.cell tells)

      pub under-comes : Comes b H q d g it.name it.inode it.generation p.entry spot
          (claims_of (claimed_pointer k p.blocks.cell) null) 1
          ((p.blocks.cell, w.cell) ∷ (y.block, w.leaf) ∷ (table_block it.inode, w.table) ∷ [])
      under-comes = let one = ap slot_blocks eq in
          hole-comes (claims_of x3 null)
          ((p.blocks.cell, w.cell) ∷ (y.block, w.leaf) ∷ (table_block it.inode, w.table) ∷ []) x3 y 1
          (claim1 one) (block1 one) refl (λ z. absurd (let n : is_claimed null ≡ false = refl in cc (z, n)))
          (inr (y, hole3.1))
          (under-enters b.now d it.inode p.entry both.directory ready (next_stamp q.world) x3 y (block1 one) agrees
          hole3.1 w.cell w.leaf w.table p.cell t.inode new_record it (fits (HoleUnder y) eq).0 w.filled w.above was3
          w.written (on.at_i tells) hole3.0 on.may.spells.short) one

    -- a hole where there is no leaf
    module _ (eq : p.slot ≡ HoleWith) (w : EntersWithLeaf b k new l d both.directory p it new_record t ended) where
      abbrev x4 : Pointer
      x4 = claimed_pointer k p.blocks.cell

      abbrev y4 : Pointer
      y4 = claimed_pointer (claimed_books k p.blocks.cell) p.blocks.leaf

      free4 : (is_set k.free_blocks p.blocks.cell ≡ true) × (p.blocks.cell < length k.free_blocks)
      free4 = on.enters.free.cell (subst (λ (z : EntrySlot). 1 ≤ slot_blocks z) (sym eq) (omega arith))

      leaf4 : (is_set k.free_blocks p.blocks.leaf ≡ true) × (p.blocks.leaf < length k.free_blocks)
          × (p.blocks.cell < p.blocks.leaf)
      leaf4 = on.enters.free.leaf (subst (λ (z : EntrySlot). 2 ≤ slot_blocks z) (sym eq) (omega arith))

      xy4 : p.blocks.cell ≢ p.blocks.leaf
      xy4 e = let a = leaf4.2 in omega (arith, a, e)

      claim4 : IsClaim q.world s (claims_of x4 y4)
      claim4 = let n = on.safe.free_blocks in let a = free4.1 in let c = leaf4.1 in
          claim-both k q.world o.says d g it.name it.inode it.generation p.blocks.cell free4.0
          (omega (arith, a, n)) p.blocks.leaf leaf4.0
          (omega (arith, c, n)) xy4 (far p.blocks.cell free4.0) (far p.blocks.leaf leaf4.0) (needs ∙ ap slot_blocks eq)

      named-x : is_claimed x4 ≡ true
      named-x = let t = ne_eqb p.blocks.cell 0 (λ e. let f = far p.blocks.cell free4.0 in omega (arith, e, f)) in
          rw t refl

      named-y : is_claimed y4 ≡ true
      named-y = let t = ne_eqb p.blocks.leaf 0 (λ e. let f = far p.blocks.leaf leaf4.0 in omega (arith, e, f)) in
          rw t refl

      block4 : IsNewBlock (next_stamp q.world) b.now x4
      block4 = new-block b k H q s (claims_of x4 y4) o claim4 x4 (claimed-first x4 y4 named-x)
          (let e = stamp-is in omega (arith, e))

      leaf-block4 : IsNewBlock (next_stamp q.world) b.now y4
      leaf-block4 = new-block b k H q s (claims_of x4 y4) o claim4 y4 (claimed-second x4 y4 named-x named-y)
          (let e = stamp-is in omega (arith, e))

      hole4 : (find b.now d (path_of (p.entry / 16)) ≡ answer.Hole) × (find b.now d leaf ≡ answer.Hole)
      hole4 = slot-is HoleWith eq

      pub with-comes : Comes b H q d g it.name it.inode it.generation p.entry spot
          (claims_of (claimed_pointer k p.blocks.cell) (claimed_pointer (claimed_books k p.blocks.cell) p.blocks.leaf))
          2 ((p.blocks.cell, w.cell) ∷ (p.blocks.leaf, w.leaf) ∷ table_writes d it.inode w.after)
      with-comes = hole-comes (claims_of x4 y4)
          ((p.blocks.cell, w.cell) ∷ (p.blocks.leaf, w.leaf) ∷ table_writes d it.inode w.after) x4 y4 2
          claim4 block4 refl (λ z. refl) (inl (newer y4.stamp leaf-block4.fresh))
          (with-enters b.now d it.inode p.entry both.directory ready (next_stamp q.world) x4 y4 block4 leaf-block4 xy4
          hole4.1 w.cell w.leaf t w.after new_record it (fits HoleWith eq) w.filled w.above w.tables (on.at_d tells)
          (on.at_i tells) hole4.0 on.may.spells.short) (ap slot_blocks eq)
