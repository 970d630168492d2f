-- Make, by what stands in the slot of its entry.
use Rattle.std.proofs.Common.{◌≡◌, ℕ, zero, suc, ◌+◌, ◌*◌, ◌/◌, ◌%◌, ◌^◌, ◌<◌, ◌≤◌, ◌⊎◌, inl, inr, true, leb, le-leb}
use Rattle.std.proofs.Common.{List, [], ◌∷◌, length, Some, IsTrue, refl, sym, ap, ◌∙◌, subst, arith}
use Rattle.nofs_disk.specs.Disk.{DiskState, IsDisk, cell_at}
use Rattle.nofs_disk.specs.Number.{put_bytes}
use Rattle.nofs_dirent.specs.Entries.{spelled_entry}
use Rattle.nofs_dirent.specs.EntryLaws.{Spells, spelled_entry-spells}
use Rattle.nofs_super.specs.Geometry.{IsGeometry}
use Rattle.nofs_disk.specs.declared.tag.Cell.{Cell}
use Rattle.nofs_inode.specs.declared.inode.FileKind.{FileKind}
use Rattle.nofs_disk.specs.declared.tag.Pointer.{Pointer}
use Rattle.nofs_inode.specs.declared.inode.Record.{Record}
use Rattle.nofs_super.specs.declared.superblock.SuperBlock.{SuperBlock}
use Rattle.nofs_disk.specs.Pointer.{is_null, null}
use Rattle.nofs_disk.specs.Tag.{tag_of}
use Rattle.nofs_inode.specs.declared.inode.BackLink.{BackLink}
use Rattle.nofs_inode.specs.InodeRecords.{record_of}
use Rattle.nofs_model.specs.Geometry.{Image, super_at, is_data_block, is_inode, inode}
use Rattle.nofs_ptrs.specs.Paths.{path_of}
use Rattle.nofs_model.specs.Slots.{find, record_pointer}
use Rattle.nofs_model.specs.Files.{files_in, agreed}
use Rattle.nofs_model.specs.declared.image.path.PathAnswer.TheVariants as answer
use Rattle.nofs_model.specs.declared.image.value.Value.TheVariants.{Bytes}
use Rattle.nofs_model.proofs.OnSlots.Find.{find-held}
use Rattle.nofs_model.proofs.OnSound.Writes.{mountable-law}
use Rattle.nofs_history.specs.Machine.{link_to, place_for}
use Rattle.nofs_history.specs.World.{blocks_needed}
use Rattle.nofs_history.specs.Claims.{IsClaim, IsInodeClaim, next_stamp}
use Rattle.nofs_history.specs.declared.machine.history.Entry1.{Entry1}
use Rattle.nofs_history.specs.declared.machine.steps.Step.TheVariants as step
use Rattle.nofs_history.proofs.EntryPut.{with-entry-put}
use Rattle.nofs_crashlaw.specs.Names.NewEntries.{IsNewRecord, first_links}
use Rattle.nofs_state.specs.Books.Maps.{IsSafe}
use Rattle.nofs_state.specs.Cores.Invariant.{IsOpen, Past}
use Rattle.nofs_state.specs.declared.books.maps.Books.{Books}
use Rattle.nofs_disk.specs.Order.{OneOf, image_after}
use Rattle.nofs_names.specs.Entries.Tables.{IsTable}
use Rattle.nofs_names.specs.Entries.Places.{slot_blocks, IsEntrySlot, IsSlotCell}
use Rattle.nofs_names.specs.declared.entries.places.EntrySlot.TheVariants.{Held as HeldSlot}
use Rattle.nofs_names.specs.declared.entries.places.EntrySlot.{EntrySlot}
use Rattle.nofs_state.proofs.OnBooks.Machine.{are-agreed}
use Rattle.nofs_state.proofs.OnCores.Replies.{open-files}
use Rattle.nofs_state.proofs.OnWrites.Tables.{HasRecord, table_block}
use Rattle.nofs_names.proofs.OnSteps.CellAndRecord.{in-slot as write-in-slot, in-table as write-in-table}
use Rattle.nofs_names.proofs.OnSteps.CellAndRecord.{once as write-once, record-new as write-record-new}
use Rattle.nofs_names.proofs.OnSteps.CellAndRecord.{super-stays as write-super-stays, data-stays as write-data-stays}
use Rattle.nofs_names.proofs.OnSteps.CellAndRecord.{record-old as write-record-old}
use Rattle.nofs_names.specs.Entries.Writes.{entered}
use Rattle.nofs_names.specs.Makes.{MayMake, made_record}
use Rattle.nofs_names.specs.declared.entries.writes.EntryPlace.{EntryPlace}
use Rattle.nofs_names.proofs.OnMakes.Claims.{make_claims, make-asks, inode-picked, claims-none}
use Rattle.nofs_names.proofs.OnMakes.Premises.{Makes, WritesInPlace}
use Rattle.nofs_names.proofs.OnMakes.Writes.{in-place-ends}
use Rattle.nofs_names.proofs.OnMakes.Contract.{IsMade}
use Rattle.nofs_names.proofs.OnMakes.Places.{raised-stamp}

-- a new record has no pointer
no-pointers : (kind : FileKind) (g : ℕ) (link : BackLink) (n : ℕ) → n < 10
    → is_null (record_pointer (made_record kind g link) n) ≡ true
no-pointers kind g link zero lt = refl
no-pointers kind g link (suc zero) lt = refl
no-pointers kind g link (suc (suc zero)) lt = refl
no-pointers kind g link (suc (suc (suc zero))) lt = refl
no-pointers kind g link (suc (suc (suc (suc zero)))) lt = refl
no-pointers kind g link (suc (suc (suc (suc (suc zero))))) lt = refl
no-pointers kind g link (suc (suc (suc (suc (suc (suc zero)))))) lt = refl
no-pointers kind g link (suc (suc (suc (suc (suc (suc (suc zero))))))) lt = refl
no-pointers kind g link (suc (suc (suc (suc (suc (suc (suc (suc zero)))))))) lt = refl
no-pointers kind g link (suc (suc (suc (suc (suc (suc (suc (suc (suc zero))))))))) lt = refl
no-pointers kind g link (suc (suc (suc (suc (suc (suc (suc (suc (suc (suc n)))))))))) lt = absurd (omega (arith, lt))

pub new-record : (Y : Image) (i g d e h : ℕ) (kind : FileKind) → inode Y i ≡ made_record kind g (link_to d e h)
    → IsNewRecord Y i g kind (first_links d e h)
new-record Y i g d e h kind is = record {
  kind_is = ap (λ (r : Record). r.kind) is;
  generation = ap (λ (r : Record). r.generation) is;
  size = ap (λ (r : Record). r.size) is;
  links = ap (λ (r : Record). r.links) is;
  pointers = λ n lt. ap (λ (r : Record). is_null (record_pointer r n)) is ∙ no-pointers kind g (link_to d e h) n lt;
}

-- the generation of the inode that is claimed next
abbrev pub next_of : Books → ℕ
next_of k = k.at.mount * 2 ^ 40 + k.serial

module _ (b : DiskState) (k : Books) (H : List Entry1) (p : Past) (d g : ℕ) (name : List ℕ) (kind : FileKind)
    (dr : Record) (place : EntryPlace) (i : ℕ)
    (tells : IsTrue b.tells) (safe : IsSafe b k) (o : IsOpen b k H p) (may : MayMake b k d g name dr place i) where
  pub agrees : agreed (files_in b.now) d ≡ true
  agrees = may.there tells (are-agreed b k H p safe o)

  pub place-here : place_for p.world.files d name ≡ Some place.entry
  place-here = may.place tells H p o

  pub rec : inode b.now d ≡ dr
  rec = may.directory.known.same tells

  pub inode-claim : IsInodeClaim p.world (next_stamp p.world) (make_claims i (next_of k) null null) true
  inode-claim = inode-picked b k H p safe o i may.above may.within may.free

  pub needs-are : blocks_needed p.world.files (step.Make d g name kind) ≡ slot_blocks place.slot
  needs-are = make-asks p.world.files b.now d place.entry
      (open-files b k H p o) agrees may.range g name kind k.at place.slot place-here may.fits
      (may.slot tells)

  pub spelled : Spells (spelled_entry i (next_of k) name) (record { inode = i; generation = next_of k; name = name })
  spelled = spelled_entry-spells i (next_of k) name may.above
      (let w = may.within in let m = safe.at.geometry.most_inodes in omega (arith, w, m)) (raised-stamp k may.raised)
      (let m = safe.mount in let s = may.stamps in omega (arith, m, s)) may.good

  pub in-table : is_inode b.now i ≡ true
  in-table =
      let a : leb 1 i ≡ true = le-leb 1 i may.above in
      let c : leb i (super_at b.now).inodes ≡ true =
      le-leb i (super_at b.now).inodes (subst (λ (q : SuperBlock). i ≤ q.inodes) (sym o.at) may.within) in
      rw (a, c) refl

  pub geometry : IsGeometry (length b.now) (super_at b.now).blocks (super_at b.now).inodes
  geometry = let m = (mountable-law b.now).1 o.mountable in m.fits

  pub makes-from : (Y : Image) (x y : Pointer)
      → IsClaim p.world (step.Make d g name kind) (make_claims i (next_of k) x y)
      → inode Y i ≡ made_record kind (next_of k) (link_to d place.entry g)
      → Makes b.now Y p.world d g name kind place.entry (make_claims i (next_of k) x y)
  makes-from Y x y claim made = record {
    folder = ap (λ (r : Record). r.kind) rec ∙ may.directory.kind;
    generation = ap (λ (r : Record). r.generation) rec ∙ may.generation;
    agrees = agrees;
    place = place-here;
    claim = claim;
    spells = spelled;
    made = new-record Y i (next_of k) d place.entry g kind made;
  }

  -- The slot holds

  module _ (is_b : IsDisk b) (x : Pointer) (slot-is : place.slot ≡ HeldSlot x)
      (whole : length place.cell.payload ≡ 1024)
      (cell table before : Cell)
      (payload : cell.payload ≡ entered place.cell.payload place.entry
      (record { inode = i; generation = next_of k; name = name }))
      (tag : cell.tag ≡ place.cell.tag)
      (was : before ≡ cell_at b.now (table_block i))
      (written-table : IsTable before i (made_record kind (next_of k) (link_to d place.entry g)) table) where
    held : find b.now d (path_of (place.entry / 16)) ≡ answer.Holds x
    held = subst (λ (s : EntrySlot). IsEntrySlot b.now d
        (place.entry / 16) s) slot-is (may.slot tells)

    cell-was : place.cell ≡ cell_at b.now x.block
    cell-was = subst (λ (s : EntrySlot). IsSlotCell b.now s place.cell)
        slot-is (may.cell tells)

    area : is_data_block b.now x.block ≡ true
    area = (find-held b.now d (path_of (place.entry / 16)) x held).agrees.area

    has : HasRecord b.now i (made_record kind (next_of k) (link_to d place.entry g)) table
    has = record {
      range = in-table;
      here = written-table.here.here;
      others = λ j ne lt. written-table.here.others j ne lt
          ∙ ap (λ (z : Cell). record_of j z.payload) was;
    }

    here : cell_at (image_after ((x.block, cell) ∷ (table_block i, table) ∷ []) b.now) x.block ≡ cell
    here = write-in-slot b.now i x cell table _ geometry.fits geometry.table geometry.multiple area has

    table-here : cell_at (image_after ((x.block, cell) ∷ (table_block i, table) ∷ []) b.now) (table_block i) ≡ table
    table-here = write-in-table b.now i x cell table _ geometry.fits geometry.table geometry.multiple area has

    made-held : Makes b.now
        (image_after ((x.block, cell) ∷ (table_block i, table) ∷ []) b.now) p.world d g name kind place.entry
        (make_claims i (next_of k) null null)
    made-held = makes-from (image_after ((x.block, cell) ∷ (table_block i, table) ∷ []) b.now) null null
        (claims-none p.world d g name kind i (next_of k) inode-claim (needs-are ∙ ap slot_blocks slot-is))
        (write-record-new b.now i x cell table _ geometry.fits geometry.table geometry.multiple area has)

    writes-held : WritesInPlace b.now (image_after ((x.block, cell) ∷ (table_block i, table) ∷ []) b.now) d place.entry
        (make_claims i (next_of k) null null)
        name x
        ((x.block, cell) ∷ (table_block i, table) ∷ [])
    writes-held = record {
      entry = record {
        held = held;
        whole = sym (ap (λ (z : Cell). length z.payload) cell-was) ∙ whole;
        writes = record {
          super = write-super-stays b.now i x cell table _ geometry.fits geometry.table geometry.multiple area has;
          blocks = λ n data_n ne. write-data-stays b.now i x cell table _ geometry.fits geometry.table geometry.multiple
              area has n data_n ne;
          tag = ap (λ (z : Cell). tag_of z.tag) here ∙ ap tag_of (tag ∙ ap (λ (z : Cell). z.tag) cell-was);
          records = λ j ne.
              write-record-old b.now i x cell table _ geometry.fits geometry.table geometry.multiple area has j ne;
        };
        content = ap (λ (z : Cell). Bytes z.payload) here ∙ ap Bytes (payload
            ∙ ap (λ (z : Cell). put_bytes (64 * (place.entry % 16))
            (spelled_entry i (next_of k) name) z.payload) cell-was)
            ∙ sym (with-entry-put (Bytes (cell_at b.now x.block).payload) place.entry
            (spelled_entry i (next_of k) name) spelled.short);
      };
      tag = ap (λ (z : Cell). tag_of z.tag) table-here ∙ written-table.tag;
      each = λ n z one. each-one n z one;
    }
      where
        each-one : (n : ℕ) (z : Cell) → OneOf ((x.block, cell) ∷ (table_block i, table) ∷ []) n z
            → (z ≡ cell_at (image_after ((x.block, cell) ∷ (table_block i, table) ∷ []) b.now) n)
            × ((n ≡ x.block) ⊎ (n ≡ table_block i))
        each-one n z (inl one) = (
          one.1 ∙ sym (ap (cell_at (image_after ((x.block, cell) ∷ (table_block i, table) ∷ []) b.now)) one.0 ∙ here),
          inl one.0,
        )
        each-one n z (inr (inl one)) = (
          one.1 ∙ sym (ap (cell_at (image_after ((x.block, cell) ∷ (table_block i, table) ∷ []) b.now)) one.0
              ∙ table-here),
          inr
              one.0,
        )
        each-one n z (inr (inr none)) = absurd none

    pub held-made : IsMade b H p d g name kind place.entry (make_claims i (next_of k) null null)
        ((x.block, cell) ∷ (table_block i, table) ∷ []) 0
    held-made = record {
      it = made-held;
      ends = in-place-ends b k H p d g name kind place.entry (make_claims i (next_of k) null null)
          ((x.block, cell) ∷ (table_block i, table) ∷ []) is_b tells o made-held x writes-held;
      once = write-once b.now i x cell table _ geometry.fits geometry.table geometry.multiple area has;
      needs = needs-are ∙ ap slot_blocks slot-is;
    }
