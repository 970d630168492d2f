-- The directory's cell in a hole: a block is claimed for it, and a leaf where there is none.
use Rattle.std.proofs.Common.{◌≡◌, ◌≢◌, ℕ, ◌<◌, ◌≤◌, ◌⊎◌, inl, inr, Bool, true, false, eqb, leb, ◌||◌, Some, refl, sym}
use Rattle.std.proofs.Common.{ap, ap₂, ◌∙◌, subst, arith, eqb-true, eq-eqb, leb-true}
use Rattle.nofs_crashlaw.specs.Untouched.Frames.{SameIdentity, OldPointers, SameMeta}
use Rattle.nofs_model.proofs.OnSlots.Find.{find-held}
use Rattle.nofs_model.proofs.OnSlots.Paths.{path_of-content}
use Rattle.nofs_ptrs.specs.PathLaws.{path_of-slot_of}
use Rattle.nofs_crashlaw.proofs.OnUntouched.Matches.{matched-file}
use Rattle.nofs_crashlaw.proofs.OnUntouched.Frames.{some-is}
use Rattle.nofs_crashlaw.proofs.OnUntouched.Inodes.{one-owner, rewrites}
use Rattle.nofs_crashlaw.proofs.OnFiles.Growth.{on-path, off-path, value-on, value-off}
use Rattle.nofs_crashlaw.proofs.OnNames.Files.{touches-of, directory-file}
use Rattle.nofs_model.specs.declared.image.path.PathAnswer.TheVariants as answer
use Rattle.nofs_history.specs.Machine.{Given, files_after}
use Rattle.nofs_history.specs.History.{FilesMatch, SameFile}
use Rattle.nofs_disk.specs.declared.tag.Tag.{Tag}
use Rattle.nofs_disk.specs.declared.tag.Pointer.{Pointer}
use Rattle.nofs_inode.specs.declared.inode.Record.{Record}
use Rattle.nofs_disk.specs.Tag.{tag_of}
use Rattle.nofs_ptrs.specs.Cells.{pointer_at}
use Rattle.nofs_disk.specs.Pointer.{is_null}
use Rattle.nofs_ptrs.specs.Paths.{slot_limit, Path, InRecord, Under, leaf, path_of, slot_of, is_pointer_slot}
use Rattle.nofs_model.specs.Geometry.{Image, super_at, is_data_block, inode}
use Rattle.nofs_disk.specs.Disk.{cell_at}
use Rattle.nofs_model.specs.Files.{files_in, agreed, node_in, FileState, Files}
use Rattle.nofs_model.specs.Slots.{value, tag_for, find, record_pointer}
use Rattle.nofs_model.specs.Owners.{IsFree}
use Rattle.nofs_model.specs.declared.image.value.Value.{Value}
use Rattle.nofs_model.specs.declared.image.value.Value.TheVariants.{Bytes}
use Rattle.nofs_history.specs.Gives.{GivesCell}
use Rattle.nofs_crashlaw.specs.Files.Growth.{IsPlaced, Grows}
use Rattle.nofs_crashlaw.proofs.OnFiles.Claims.{test-above, above-test, not-null, fresh-tag, super-same}
use Rattle.nofs_crashlaw.specs.Names.OldEntries.{NameWrites}
use Rattle.nofs_crashlaw.specs.Names.NewEntries.{HoleInRecord, HoleUnderLeaf, HoleWithLeaf}

-- the directory's file, where its slots grow
pub directory-grown : (s : ℕ) (F : Files) (given : Given) (X Y : Image) (d i k : ℕ) (f : FileState) (v : Value)
    (at : Path → Pointer) → FilesMatch F X
    → F d ≡ Some f → k < slot_limit → OldPointers s X d
    → GivesCell given d f.generation k v → NameWrites s d i X Y → SameMeta X Y d → Grows s X Y d (path_of k) at
    → Bytes (cell_at Y (at (path_of k)).block).payload ≡ v → SameFile (files_after F given d) (files_in Y d)
directory-grown s F given X Y d i k f v at match is range old gives w meta r content =
    let own = matched-file F X d match (some-is (F d) f is) in
    let rw' = rewrites s (λ j. eqb j d || eqb j i) X Y (touches-of s d i X Y w) in
    let same : SameIdentity X Y d = record { live = own.live; kind = meta.kind; generation = meta.generation } in
    let off = off-path s X Y d rw' own.agreed same old
    (path_of k) at r.placed r.not_null r.area r.tag r.record_stays r.beside r.apart in
    directory-file F given X Y d k f v match is gives meta
    (value-on s X Y d rw' own.agreed same old
    (path_of k) at r.placed r.not_null r.area r.tag r.record_stays r.beside r.apart k refl ∙ content)
    (λ l lt ne. value-off s X Y d rw' own.agreed same old
    (path_of k) at r.placed r.not_null r.area r.tag r.record_stays r.beside r.apart k l refl range lt ne)
    (λ path slot above. ap node_in (on-path s X Y d rw' own.agreed same old (path_of k)
    at r.placed r.not_null r.area r.tag r.record_stays r.beside r.apart path (test-above path (path_of k) above)))
    (λ path slot q above. off path slot (λ h. elim (above-test path (path_of k) h) [
      | inl e ↦ (let c = path_of-content k range in let z : is_pointer_slot (path_of k) ≡ true =
          subst (λ (r : Path). is_pointer_slot r ≡ true) e q in cc (c, z))
      | inr l ↦ cc (l, above)
    ]))

pub record-hole-writes : (s : ℕ) (X Y : Image) (d i k : ℕ) (x : Pointer) → HoleInRecord s X Y d i k x
    → NameWrites s d i X Y
record-hole-writes s X Y d i k x h =
    record { super = h.super; records = h.records; blocks = λ b area. go b area (eqb b x.block) refl }
  where
    go : (b : ℕ) → is_data_block X b ≡ true → (t : Bool) → eqb b x.block ≡ t → (cell_at Y b ≡ cell_at X b)
        ⊎ ((IsFree X b × ((t : Tag) → tag_of (cell_at Y b).tag ≡ Some t → s ≤ t.stamp))
        ⊎ ((tag_of (cell_at Y b).tag ≡ tag_of (cell_at X b).tag)
        × ((path : Path) × (y : Pointer) × (find X d path ≡ answer.Holds y) × (y.block ≡ b))))
    go b area true e =
        let eb = sym (eqb-true b x.block e) in
        inr (inl (subst (λ (q : ℕ). IsFree X q × ((t : Tag) → tag_of (cell_at Y q).tag ≡ Some t → s ≤ t.stamp)) eb
        (h.cell.free, fresh-tag s X Y d (InRecord k) x h.cell)))
    go b area false e = inl (h.blocks b area (λ q. let t = eq-eqb b x.block q in cc (e, t)))

pub record-hole-grows : (s : ℕ) (X Y : Image) (d i k : ℕ) (x : Pointer)
    → k < 8 → agreed (files_in X) d ≡ true → HoleInRecord s X Y d i k x
    → Grows s X Y d (InRecord k) (λ a. x)
record-hole-grows s X Y d i k x lt owned h = record {
  placed = λ a e. subst (λ (q : Path). IsPlaced Y d (λ (r : Path). x) q) (sym e) h.pointer;
  not_null = λ a e. not-null X x h.cell.area;
  area = λ a e. let z = super-same X Y h.super in rw z h.cell.area;
  tag = λ a e. subst (λ (q : Path). tag_of (cell_at Y x.block).tag ≡ Some (tag_for Y d q x.stamp)) (sym e) h.cell.tag;
  record_stays = λ n off. h.pointers n (λ e. off (ap InRecord e));
  beside = λ b n slot e off. absurd (small k lt (subst (λ (q : Path). is_pointer_slot q ≡ true) e slot.0));
  apart = λ b y slot off e. h.blocks y.block
      (find-held X d b y e).agrees.area (λ eb. h.cell.free d b y slot owned e eb);
}
  where
    small : (k : ℕ) → k < 8 → leb 8 k ≡ true → ⊥
    small k lt e = let le = leb-true 8 k e in omega (arith, lt, le)

-- a slot under the leaf that holds: the leaf's cell is written in place
abbrev pub leaf_places : Pointer → Pointer → Path → Pointer
leaf_places y x (InRecord m) = y
leaf_places y x (Under a m) = x

on-leaf : (A : Path → Type 0) (n : ℕ) → A (Under leaf n) → A leaf → (a : Path) → (a ≡ Under leaf n) ⊎ (a ≡ leaf) → A a
on-leaf A n h j a (inl e) = subst A (sym e) h
on-leaf A n h j a (inr e) = subst A (sym e) j

under-not-pointer : (n : ℕ) → is_pointer_slot (Under leaf n) ≡ true → ⊥
under-not-pointer n e = cc

pub leaf-hole-grows : (s : ℕ) (X Y : Image) (d i n : ℕ) (x y : Pointer)
    → i ≢ d → agreed (files_in X) d ≡ true → HoleUnderLeaf s X Y d i n x y
    → Grows s X Y d (Under leaf n) (leaf_places y x)
leaf-hole-grows s X Y d i n x y apart owned h = record {
  placed = on-leaf (λ a. IsPlaced Y d (leaf_places y x) a) n h.pointer (ap (λ (r : Record). r.leaf) same ∙ hx.same);
  not_null = on-leaf (λ a. is_null (leaf_places y x a) ≡ false) n (not-null X x h.cell.area) hx.not_null;
  area = on-leaf (λ a. is_data_block Y (leaf_places y x a).block ≡ true) n (rw z h.cell.area) (rw z hx.agrees.area);
  tag = on-leaf (λ a. tag_of (cell_at Y (leaf_places y x a).block).tag ≡ Some (tag_for Y d a (leaf_places y x a).stamp))
      n h.cell.tag
      (h.tag ∙ hx.agrees.tag ∙ ap (λ (r : Record). Some (record {
        kind = Rattle.nofs_model.specs.Slots.kind_in r leaf;
        inode = d;
        generation =
            r.generation;
        slot = slot_of leaf;
        stamp = y.stamp;
      })) (sym same));
  record_stays = λ m off. ap (λ (r : Record). record_pointer r m) same;
  beside = λ b m slot above off. inl (elim above [
    | inl e ↦ absurd (under-not-pointer n (subst (λ (q : Path). is_pointer_slot q ≡ true) e slot.0))
    | inr e ↦ (
      subst (λ (q : Path). find X d q ≡ answer.Holds (leaf_places y x q)) (sym e) h.held,
      subst (λ (q : Path). pointer_at (cell_at Y (leaf_places y x q).block).payload m
          ≡ pointer_at (cell_at X (leaf_places y x q).block).payload m) (sym e)
          (h.pointers m (λ em. off (inl (ap₂ Under e em)))),
    )
  ]);
  apart = λ b w slot off e. h.blocks w.block (find-held X d b w e).agrees.area (λ eb. h.cell.free d b w slot owned e eb)
      (λ eb. off (inr (let o = one-owner X d d b leaf w y e h.held eb in
      sym (path_of-slot_of b slot) ∙ ap path_of o.1 ∙ path_of-slot_of leaf (omega arith))));
}
  where
    same : inode Y d ≡ inode X d
    same = h.records d (λ t. apart (sym t))

    hx : Rattle.nofs_model.proofs.OnSlots.Find.HoldsAt X d leaf y
    hx = find-held X d leaf y h.held

    z : super_at Y ≡ super_at X
    z = super-same X Y h.super

pub claimed-hole-grows : (s : ℕ) (X Y : Image) (d i n : ℕ) (x y : Pointer)
    → agreed (files_in X) d ≡ true → HoleWithLeaf s X Y d i n x y
    → Grows s X Y d (Under leaf n) (leaf_places y x)
claimed-hole-grows s X Y d i n x y owned h = record {
  placed = on-leaf (λ a. IsPlaced Y d (leaf_places y x) a) n h.pointer h.leaf_is;
  not_null = on-leaf (λ a. is_null (leaf_places y x a) ≡ false) n (not-null X x h.cell.area)
      (not-null X y h.above.area);
  area = on-leaf (λ a. is_data_block Y (leaf_places y x a).block ≡ true) n (rw z h.cell.area) (rw z h.above.area);
  tag = on-leaf (λ a. tag_of (cell_at Y (leaf_places y x a).block).tag ≡ Some (tag_for Y d a (leaf_places y x a).stamp))
      n h.cell.tag h.above.tag;
  record_stays = λ m off. h.others m (λ e. off (inr (ap InRecord e)));
  beside = λ b m slot above off. inr (elim above [
    | inl e ↦ absurd (under-not-pointer n (subst (λ (q : Path). is_pointer_slot q ≡ true) e slot.0))
    | inr e ↦ (
      subst (λ (q : Path). find X d q ≡ answer.Hole) (sym e) h.empty,
      subst (λ (q : Path). is_null (pointer_at (cell_at Y (leaf_places y x q).block).payload m) ≡ true) (sym e)
          (h.pointers m (λ em. off (inl (ap₂ Under e em)))),
    )
  ]);
  apart = λ b w slot off e. h.blocks w.block (find-held X d b w e).agrees.area (λ eb. h.cell.free d b w slot owned e eb)
      (λ eb. h.above.free d b w slot owned e eb);
}
  where
    z : super_at Y ≡ super_at X
    z = super-same X Y h.super
