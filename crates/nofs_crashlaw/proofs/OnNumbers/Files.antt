-- The numbers in what a Put and a Resize write.
use Rattle.std.proofs.Common.{◌≡◌, ℕ, ◌<◌, inl, inr, Bool, true, false, cond, eqb, List, [], ◌∷◌, ◌++◌, Some, refl, sym}
use Rattle.std.proofs.Common.{ap, ◌∙◌, subst, arith, Contains, eqb-true}
use Rattle.std.proofs.lemmas.List.Elements.{Contains-append_left, Contains-append_right}
use Rattle.nofs_inode.specs.declared.inode.FileKind.TheVariants.{Directory as Folder, File}
use Rattle.nofs_disk.specs.declared.tag.Cell.{Cell}
use Rattle.nofs_inode.specs.declared.inode.FileKind.{FileKind}
use Rattle.nofs_disk.specs.declared.tag.Kind.TheVariants.{Content, Directory}
use Rattle.nofs_disk.specs.declared.tag.Pointer.{Pointer}
use Rattle.nofs_inode.specs.declared.inode.BackLink.{BackLink}
use Rattle.nofs_inode.specs.declared.inode.Record.{Record}
use Rattle.nofs_disk.specs.Tag.{tag_of}
use Rattle.nofs_ptrs.specs.Cells.{pointer_at}
use Rattle.nofs_inode.specs.InodeRecords.{is_live}
use Rattle.nofs_ptrs.specs.Paths.{slot_limit, Path, InRecord, Under, path_of, slot_of, is_pointer_slot, IsSlot}
use Rattle.nofs_model.specs.Geometry.{Image, inode}
use Rattle.nofs_disk.specs.Disk.{cell_at}
use Rattle.nofs_model.specs.Slots.{content_kind, kind_in, tag_for, find, pointer, record_pointer, IsAbove}
use Rattle.nofs_model.specs.Files.{FileState, is_folder}
use Rattle.nofs_model.specs.declared.image.path.PathAnswer.TheVariants as answer
use Rattle.nofs_model.proofs.OnSlots.Find.{find-held}
use Rattle.nofs_ptrs.specs.PathLaws.{path_of-slot}
use Rattle.nofs_model.proofs.OnSlots.Paths.{path_of-content, above-refl, above-slot}
use Rattle.nofs_history.specs.World.{World}
use Rattle.nofs_history.specs.Claims.{is_claimed, claimed_blocks}
use Rattle.nofs_history.specs.declared.machine.history.Claims.{Claims}
use Rattle.nofs_crashlaw.specs.Untouched.Frames.{Touches}
use Rattle.nofs_crashlaw.proofs.OnUntouched.Matches.{Matched, matched-file}
use Rattle.nofs_crashlaw.proofs.OnUntouched.Frames.{some-is}
use Rattle.nofs_crashlaw.proofs.OnFiles.Growth.{above-or-not}
use Rattle.nofs_crashlaw.proofs.OnFiles.Claims.{super-same}
use Rattle.nofs_crashlaw.specs.Maps.Fresh.{Numbered, CellNumbers}
use Rattle.nofs_crashlaw.specs.Maps.Moves.{IsClaimed}
use Rattle.nofs_crashlaw.specs.Maps.Pieces.{PointerFrom, Before, Empty, Claimed}
use Rattle.nofs_crashlaw.specs.Files.Puts.{PutLies, ClaimsPlaced}
use Rattle.nofs_crashlaw.specs.Files.Resizes.{is_cut, cut_at, ResizeLies}
use Rattle.nofs_crashlaw.proofs.OnUntouched.Agreement.{file-in}
use Rattle.nofs_crashlaw.specs.Numbers.Cells.{OldNumbers, CellFor, RecordWritten, AsBefore, Changed}
use Rattle.nofs_crashlaw.specs.Numbers.Files.{FileRecord, LawPutCells, LawPutRecord, LawResizeCells, LawResizeRecord}
use Rattle.nofs_crashlaw.proofs.OnNumbers.Cells.{law-content-numbers, law-pointer-numbers}

-- the block of one part of a claim
abbrev part : Pointer → List Pointer
part x = cond (is_claimed x) (x ∷ []) []

-- a claimed block is one of the claim
pub listed : (c : Claims) (y : Pointer) → IsClaimed c y → Contains (claimed_blocks c) y
listed c y h = elim h.1 [
  | inl e ↦ Contains-append_left (part c.cell ++ part c.leaf) (part c.top) y
      (Contains-append_left (part c.cell) (part c.leaf) y (one c.cell e))
  | inr r ↦ elim r [
    | inl e ↦ Contains-append_left (part c.cell ++ part c.leaf) (part c.top) y
        (Contains-append_right (part c.cell) (part c.leaf) y (one c.leaf e))
    | inr e ↦ Contains-append_right (part c.cell ++ part c.leaf) (part c.top) y (one c.top e)
  ]
]
  where
    one : (x : Pointer) → x ≡ y → Contains (part x) y
    one x e = subst (λ (q : Pointer). Contains (part q) y) (sym e)
        (subst (λ (b : Bool). Contains (cond b (y ∷ []) []) y) (sym h.0) (0, omega arith, refl))

-- a tag stays where kind and generation do
pub tag-same : (X Y : Image) (i : ℕ) (a : Path) (stamp : ℕ)
    → (inode Y i).kind ≡ (inode X i).kind → (inode Y i).generation ≡ (inode X i).generation
    → tag_for Y i a stamp ≡ tag_for X i a stamp
tag-same X Y i a stamp kind generation =
    λ j. record { kind = kinds j; inode = i; generation = generation j; slot = slot_of a; stamp = stamp }
  where
    kinds : kind_in (inode Y i) a ≡ kind_in (inode X i) a
    kinds = rw kind refl

-- a file's slots have content, and a directory's have entries
slots-have : (X : Image) (i k : ℕ) (f : FileState) → (inode X i).kind ≡ Some f.kind → k < slot_limit
    → kind_in (inode X i) (path_of k) ≡ cond (is_folder f.kind) Directory Content
slots-have X i k f is range = rw (path_of-content k range, is) (go f.kind)
  where
    go : (q : FileKind) → content_kind (Some q) ≡ cond (is_folder q) Directory Content
    go File = refl
    go Folder = refl

pub content-here : (X : Image) (i k : ℕ) (f : FileState) → (inode X i).kind ≡ Some f.kind
    → is_folder f.kind ≡ false → k < slot_limit
    → kind_in (inode X i) (path_of k) ≡ Content
content-here X i k f is file range = slots-have X i k f is range ∙ ap (λ (b : Bool). cond b Directory Content) file

pub entries-here : (X : Image) (d k : ℕ) (f : FileState) → (inode X d).kind ≡ Some f.kind
    → is_folder f.kind ≡ true → k < slot_limit
    → kind_in (inode X d) (path_of k) ≡ Directory
entries-here X d k f is folder range = slots-have X d k f is range ∙ ap (λ (b : Bool). cond b Directory Content) folder

-- the file's record at a moment
file-record : (W : World) (c : Claims) (X Y : Image) (i : ℕ) (r : Record) → is_live (inode X i) ≡ true
    → ((n : ℕ) → n < 10 → PointerFrom c X i (InRecord n) (record_pointer (inode Y i) n)) → FileRecord X Y i r
    → RecordWritten W c X i r
file-record W c X Y i r live from q = Changed (record {
  live = live;
  generation = q.generation;
  links = λ l has. inl (subst (λ (ls : List BackLink). Contains ls l) q.links has);
  pointers = λ n lt. elim (q.pointers n lt)
      [ inl x ↦ Before (sym x) | inr y ↦ subst (PointerFrom c X i (InRecord n)) (sym y) (from n lt) ];
})

-- all records, where one file alone is touched
all-records : (W : World) (c : Claims) (s : ℕ) (X Y : Image) (i : ℕ) → Touches s (λ j. eqb j i) X Y
    → ((r : Record) → FileRecord X Y i r → RecordWritten W c X i r) → FileRecord X Y i (inode Y i)
    → (j : ℕ) → RecordWritten W c X j (inode Y j)
all-records W c s X Y i touch own is j = go (eqb j i) refl
  where
    go : (t : Bool) → eqb j i ≡ t → RecordWritten W c X j (inode Y j)
    go true e = subst (λ (q : ℕ). RecordWritten W c X q (inode Y q)) (sym (eqb-true j i e)) (own (inode Y i) is)
    go false e = AsBefore (touch.records j e)

-- Put
module _ (W : World) (X Y : Image) (i g k at : ℕ) (bytes : List ℕ) (f : FileState) (s : ℕ)
    (places : Path → Pointer) (c : Claims)
    (o : OldNumbers W X) (p : PutLies W.files X Y i g k at bytes f s places)
    (placed : ClaimsPlaced c X i k places) where
  put-own : Matched W.files X i
  put-own = matched-file W.files X i p.files (some-is (W.files i) f p.is)

  place-from : (a : Path) → IsAbove a (path_of k) → PointerFrom c X i a (places a)
  place-from a h = elim (placed.each a h)
      [ inl held ↦ Before (find-held X i a (places a) held).same | inr new ↦ Claimed (listed c (places a) new.0) ]

  put-cell : (a : Path) → IsAbove a (path_of k) → CellFor c X i a (places a) (cell_at Y (places a).block)
  put-cell a h = record {
    live = put-own.live;
    slot = above-slot a (path_of k) h (path_of-slot k p.range);
    area = let z = sym (super-same X Y p.touches.super) in rw z (p.grows.area a h);
    tag = p.grows.tag a h ∙ ap Some (tag-same X Y i a (places a).stamp p.names.kind p.names.generation);
    from = place-from a h;
  }

  put-content : CellNumbers (Numbered W c) X (places (path_of k)).block (cell_at Y (places (path_of k)).block)
  put-content = law-content-numbers W c X i (path_of k) (places (path_of k)) (cell_at Y (places (path_of k)).block) o
      (put-cell (path_of k) (above-refl (path_of k)))
      (content-here X i k f (file-in W.files X i f p.files p.is).0 p.file p.range)

  put-pointers : (b : Path) → IsAbove b (path_of k)
      → is_pointer_slot b ≡ true → CellNumbers (Numbered W c) X (places b).block (cell_at Y (places b).block)
  put-pointers b h points =
      law-pointer-numbers W c X i b (places b) (cell_at Y (places b).block) o (put-cell b h) points
      (λ n lt. elim (above-or-not (Under b n) (path_of k)) [
        | inl on ↦ subst (PointerFrom c X i (Under b n)) (sym (p.grows.placed (Under b n) on))
            (place-from (Under b n) on)
        | inr off ↦ beside n lt off
      ])
    where
      beside : (n : ℕ) → n < 64 → (IsAbove (Under b n) (path_of k) → ⊥)
          → PointerFrom c X i (Under b n) (pointer_at (cell_at Y (places b).block).payload n)
      beside n lt off =
          elim (p.grows.beside b n (points, lt, above-slot b (path_of k) h (path_of-slot k p.range)) h off) [
            | inl kept ↦ (let px : pointer X i (Under b n) ≡ pointer_at (cell_at X (places b).block).payload n = let z =
                kept.0 in rw (z, pointer) refl in Before (px ∙ sym kept.1))
            | inr new ↦ Empty new.1
          ]

  put-record-from : (n : ℕ) → n < 10 → PointerFrom c X i (InRecord n) (record_pointer (inode Y i) n)
  put-record-from n lt = elim (above-or-not (InRecord n) (path_of k)) [
    | inl on ↦ subst (PointerFrom c X i (InRecord n)) (sym (p.grows.placed (InRecord n) on))
        (place-from (InRecord n) on)
    | inr off ↦ Before (sym (p.grows.record_stays n off))
  ]

  put-record : (r : Record) → FileRecord X Y i r → RecordWritten W c X i r
  put-record r q = file-record W c X Y i r put-own.live put-record-from q

pub law-put-cells : LawPutCells
law-put-cells W X Y i g k at bytes f s places c o p placed = (
  put-content W X Y i g k at bytes f s places c o p placed,
  put-pointers W X Y i g k at bytes f s places c o p placed,
)

pub law-put-record : LawPutRecord
law-put-record W X Y i g k at bytes f s places c o p placed =
    let own = put-record W X Y i g k at bytes f s places c o p placed in (
      own,
      all-records W c s X Y i p.touches own
          (record { generation = p.names.generation; links = p.names.links; pointers = λ n lt. inr refl }),
    )

-- Resize
module _ (W : World) (X Y : Image) (i g size : ℕ) (f : FileState) (s : ℕ) (c : Claims) (o : OldNumbers W X)
    (p : ResizeLies W.files X Y i g size f s) where
  resize-own : Matched W.files X i
  resize-own = matched-file W.files X i p.files (some-is (W.files i) f p.is)

  -- a block that held keeps its tag
  tag-kept : (a : Path) (y : Pointer) → IsSlot a → find X i a ≡ answer.Holds y
      → tag_of (cell_at Y y.block).tag ≡ tag_of (cell_at X y.block).tag
  tag-kept a y slot held = elim (p.touches.blocks y.block (find-held X i a y held).agrees.area) [
    | inl same ↦ ap (λ (q : Cell). tag_of q.tag) same
    | inr r ↦ elim r [ inl free ↦ absurd (free.0 i a y slot resize-own.agreed held refl) | inr own ↦ own.0 ]
  ]

  resize-cell : (a : Path) (y : Pointer) → IsSlot a → find X i a ≡ answer.Holds y
      → CellFor c X i a y (cell_at Y y.block)
  resize-cell a y slot held =
      let h = find-held X i a y held in record {
        live = resize-own.live;
        slot = slot;
        area = h.agrees.area;
        tag = tag-kept a y slot held ∙ h.agrees.tag;
        from = Before h.same;
      }

  resize-content : (k : ℕ) (y : Pointer) → k < slot_limit → find X i (path_of k) ≡ answer.Holds y
      → CellNumbers (Numbered W c) X y.block (cell_at Y y.block)
  resize-content k y range held = law-content-numbers W c X i (path_of k) y (cell_at Y y.block) o
      (resize-cell (path_of k) y (path_of-slot k range) held)
      (content-here X i k f (file-in W.files X i f p.files p.is).0 p.file range)

  resize-pointers : (b : Path) (y : Pointer) → IsSlot b → is_pointer_slot b ≡ true → is_cut (cut_at f size) b ≡ false
      → find X i b ≡ answer.Holds y → CellNumbers (Numbered W c) X y.block (cell_at Y y.block)
  resize-pointers b y slot points stays held =
      law-pointer-numbers W c X i b y (cell_at Y y.block) o (resize-cell b y slot held) points
      (λ n lt. go n (points, lt, slot) (is_cut (cut_at f size) (Under b n)) refl)
    where
      go : (n : ℕ) → IsSlot (Under b n) → (t : Bool) → is_cut (cut_at f size) (Under b n) ≡ t
          → PointerFrom c X i (Under b n) (pointer_at (cell_at Y y.block).payload n)
      go n at true e = Empty (p.cell_cut b n y at stays held e)
      go n at false e =
          let px : pointer X i (Under b n) ≡ pointer_at (cell_at X y.block).payload n = rw (held, pointer) refl in
          Before (px ∙ sym (p.cell_stays b n y at stays held e))

  resize-record-from : (n : ℕ) → n < 10 → PointerFrom c X i (InRecord n) (record_pointer (inode Y i) n)
  resize-record-from n lt = go (is_cut (cut_at f size) (InRecord n)) refl
    where
      go : (t : Bool)
          → is_cut (cut_at f size) (InRecord n) ≡ t → PointerFrom c X i (InRecord n) (record_pointer (inode Y i) n)
      go true e = Empty (p.record_cut n e)
      go false e = Before (sym (p.record_stays n e))

  resize-record : (r : Record) → FileRecord X Y i r → RecordWritten W c X i r
  resize-record r q = file-record W c X Y i r resize-own.live resize-record-from q

pub law-resize-cells : LawResizeCells
law-resize-cells W X Y i g size f s c o p =
    (resize-content W X Y i g size f s c o p, resize-pointers W X Y i g size f s c o p)

pub law-resize-record : LawResizeRecord
law-resize-record W X Y i g size f s c o p =
    let own = resize-record W X Y i g size f s c o p in (
      own,
      all-records W c s X Y i p.touches own
          (record { generation = p.names.generation; links = p.names.links; pointers = λ n lt. inr refl }),
    )
