-- What the cells of a Put into a slot without bytes are: that of the content and that of the table.
use Rattle.std.proofs.Common.{◌≡◌, ◌≢◌, ℕ, ◌<◌, true, false, List, Some, IsTrue, refl, sym, ap, ◌∙◌, subst}
use Rattle.nofs_ptrs.specs.Paths.{slot_limit, Path, path_of, slot_of, is_pointer_slot}
use Rattle.nofs_disk.specs.Disk.{DiskState, cell_at}
use Rattle.nofs_inode.specs.declared.inode.FileKind.TheVariants.{File}
use Rattle.nofs_disk.specs.declared.tag.Cell.{Cell}
use Rattle.nofs_disk.specs.declared.tag.Kind.TheVariants.{Content, Leaf}
use Rattle.nofs_disk.specs.declared.tag.Pointer.{Pointer}
use Rattle.nofs_inode.specs.declared.inode.Record.{Record}
use Rattle.nofs_ptrs.specs.Cells.{pointer_at}
use Rattle.nofs_inode.specs.InodeRecords.{record_of}
use Rattle.nofs_disk.specs.Tag.{tag_of}
use Rattle.nofs_model.specs.Geometry.{Image, inode}
use Rattle.nofs_model.specs.Slots.{value, value_in, kind_in, tag_for, find}
use Rattle.nofs_model.specs.Files.{files_in, agreed}
use Rattle.nofs_model.specs.declared.image.path.PathAnswer.{PathAnswer}
use Rattle.nofs_model.specs.declared.image.path.PathAnswer.TheVariants as answer
use Rattle.nofs_ptrs.specs.PathLaws.{slot_of-path_of}
use Rattle.nofs_model.proofs.OnSlots.Paths.{path_of-content}
use Rattle.nofs_history.specs.Meta.{is_bytes}
use Rattle.nofs_history.specs.Machine.{put_content}
use Rattle.nofs_state.specs.declared.books.maps.Books.{Books}
use Rattle.nofs_files.specs.Reads.{IsFile}
use Rattle.nofs_crashlaw.proofs.OnImages.Below.{live-stands}
use Rattle.nofs_state.proofs.OnBooks.Machine.{agreed-live}
use Rattle.nofs_state.proofs.OnWrites.Tables.{table_block}
use Rattle.nofs_files.proofs.OnPuts.Image.{IsPutFile}
use Rattle.nofs_files.proofs.OnPuts.Unchanged.{same-content}
use Rattle.nofs_files.specs.Puts.{IsContent, IsRecordCell}
use Rattle.nofs_files.specs.declared.puts.put.Put.{Put}
use Rattle.nofs_files.proofs.OnPuts.Rooms.{IsAsked}

-- a slot without bytes holds nothing
pub empty-held : (X : Image) (i slot : ℕ) (way : Path)
    → path_of slot ≡ way → is_bytes (value X i slot) ≡ false → (y : Pointer)
    → find X i way ≡ answer.Holds y → ⊥
empty-held X i slot way path e y held =
    let p : find X i (path_of slot) ≡ answer.Holds y = ap (λ (q : Path). find X i q) path ∙ held in
    let t : is_bytes (value X i slot) ≡ true = ap (λ (q : PathAnswer). is_bytes (value_in X q)) p in cc (t, e)

-- the tag of a slot of content, and of a block of pointers
pub content-tag : (X : Image) (i g slot stamp : ℕ) (way : Path) (r : Record) → inode X i ≡ r → r.kind ≡ Some File
    → r.generation ≡ g → path_of slot ≡ way
    → slot < slot_limit
    → tag_for X i way stamp ≡ record { kind = Content; inode = i; generation = g; slot = slot; stamp = stamp }
content-tag X i g slot stamp way r e kind gen path low = λ j. record {
  kind = kinds j;
  inode = i;
  generation = (ap (λ (q : Record). q.generation) e ∙ gen) j;
  slot = (ap slot_of (sym path) ∙ slot_of-path_of slot low) j;
  stamp = stamp;
}
  where
    kinds : kind_in (inode X i) way ≡ Content
    kinds = let t : is_pointer_slot way ≡ false = ap is_pointer_slot (sym path)
        ∙ path_of-content slot low in
        let q : (inode X i).kind ≡ Some File = ap (λ (q : Record). q.kind) e ∙ kind in rw (t, q) refl

pub pointers-tag : (X : Image) (i g stamp : ℕ) (a : Path) (r : Record)
    → inode X i ≡ r → r.generation ≡ g → is_pointer_slot a ≡ true
    → tag_for X i a stamp ≡ record { kind = Leaf; inode = i; generation = g; slot = slot_of a; stamp = stamp }
pointers-tag X i g stamp a r e gen points = λ j. record {
  kind = kinds j;
  inode = i;
  generation = (ap (λ (q : Record). q.generation) e ∙ gen) j;
  slot = slot_of a;
  stamp = stamp;
}
  where
    kinds : kind_in (inode X i) a ≡ Leaf
    kinds = rw points refl

-- the cell of the table that was read, with the new record in it
pub put-file : (d : DiskState) (k : Books) (p : Put) (r r' : Record) (way : Path) (c20 c2 : Cell) → IsTrue d.tells
    → IsFile d k.at p.inode p.generation r
    → agreed (files_in d.now) p.inode ≡ true → p.slot < slot_limit → path_of p.slot ≡ way
    → (IsTrue d.tells → c20 ≡ cell_at d.now (table_block p.inode))
    → IsRecordCell c20 p.inode r' c2 → IsPutFile d.now p.inode p.generation p.slot r r' way c2
put-file d k p r r' way c20 c2 t file agrees low path read table = record {
  path = path;
  range = low;
  rec = file.known.same t;
  kind = file.kind;
  generation = file.generation;
  agrees = agrees;
  has = record {
    range = (live-stands d.now p.inode (agreed-live d.now p.inode agrees)).range;
    here = table.here.here;
    others = λ j ne lt. table.here.others j ne lt ∙ ap (λ (q : Cell). record_of j q.payload) (read t);
  };
  tag_table = table.tag;
}

-- what each Put that claims knows of its content and its table
pub record ContentFacts (X : Image) (i g slot at : ℕ) (bytes : List ℕ) (r r' : Record) (way : Path) (x : Pointer)
    (c1 c2 : Cell) : Type 0 where
  pub file : IsPutFile X i g slot r r' way c2
  pub empty : is_bytes (value X i slot) ≡ false
  pub payload : c1.payload ≡ put_content (value X i slot) r.size slot at bytes
  pub tag : tag_of c1.tag ≡ Some (record { kind = Content; inode = i; generation = g; slot = slot; stamp = x.stamp })

module _ {X : Image} {i g slot at : ℕ} {bytes : List ℕ} {r r' : Record} {way : Path} {x : Pointer} {c1 c2 : Cell}
    (f : ContentFacts X i g slot at bytes r r' way x c1 c2) where
  -- its slot is that of its tag, and holds nothing
  pub new-tag : tag_of c1.tag ≡ Some (tag_for X i way x.stamp)
  new-tag = f.tag ∙ ap Some
      (sym (content-tag X i g slot x.stamp way r f.file.rec f.file.kind f.file.generation f.file.path f.file.range))

  pub holds-nothing : (y : Pointer) → find X i way ≡ answer.Holds y → ⊥
  holds-nothing y e = empty-held X i slot way f.file.path f.empty y e

pub content-facts : {d : DiskState} {k : Books} {p : Put} {r r' : Record} {m : ℕ} {way : Path} {x : Pointer}
    {c1 c20 c2 : Cell} → IsAsked d k p r m
    → path_of p.slot ≡ way → IsContent p r.size x.stamp c1
    → (IsTrue d.tells → c20 ≡ cell_at d.now (table_block p.inode)) → IsRecordCell c20 p.inode r' c2
    → IsTrue d.tells → agreed (files_in d.now) p.inode ≡ true
    → ContentFacts d.now p.inode p.generation p.slot p.at p.bytes.now r r' way x c1 c2
content-facts {d} {k} {p} {r} {r'} {m} {way} {x} {c1} {c20} {c2} a path content read table t agrees = record {
  file = put-file d k p r r' way c20 c2 t a.file agrees a.slot path read table;
  empty = a.empty t;
  payload = content.payload ∙ same-content (value d.now p.inode p.slot) r.size p.slot p.at p.bytes.now (a.empty t);
  tag = content.tag;
}

-- a cell with another pointer in one place
pub record OtherPointer (old new : Cell) (n : ℕ) (x : Pointer) : Type 0 where
  pub here : pointer_at new.payload n ≡ x
  pub others : (q : ℕ) → q ≢ n → q < 64 → pointer_at new.payload q ≡ pointer_at old.payload q
  pub tag : new.tag ≡ old.tag

-- a cell of the table by what its record is
pub recorded : {old new : Cell} {i : ℕ} {r q : Record} → q ≡ r → IsRecordCell old i q new → IsRecordCell old i r new
recorded {old} {new} {i} {r} {q} e cell = subst (λ (r : Record). IsRecordCell old i r new) e cell
