-- The files of inodes that a step does not touch stay.
use Rattle.std.proofs.Common.{◌≡◌, ℕ, ◌<◌, inl, inr, Bool, true, false, Option, Some, None, refl, sym, ap, ◌∙◌, subst}
use Rattle.nofs_model.specs.declared.image.path.PathAnswer.{PathAnswer}
use Rattle.nofs_crashlaw.specs.Untouched.Frames.{Rewrites, SameIdentity, SamePointers, OldPointers, Touches}
use Rattle.nofs_model.proofs.OnSlots.Find.{find-held}
use Rattle.nofs_ptrs.specs.PathLaws.{path_of-slot}
use Rattle.nofs_crashlaw.proofs.OnUntouched.Frames.{frame}
use Rattle.nofs_model.specs.declared.image.path.PathAnswer.TheVariants as answer
use Rattle.nofs_history.specs.History.{SameFile}
use Rattle.nofs_disk.specs.declared.tag.Cell.{Cell}
use Rattle.nofs_inode.specs.declared.inode.FileKind.{FileKind}
use Rattle.nofs_disk.specs.declared.tag.Tag.{Tag}
use Rattle.nofs_disk.specs.declared.tag.Pointer.{Pointer}
use Rattle.nofs_inode.specs.declared.inode.Record.{Record}
use Rattle.nofs_disk.specs.Tag.{tag_of}
use Rattle.nofs_ptrs.specs.Cells.{pointer_at}
use Rattle.nofs_inode.specs.InodeRecords.{is_live}
use Rattle.nofs_ptrs.specs.Paths.{slot_limit, Path, InRecord, Under, path_of, slot_of, IsSlot}
use Rattle.nofs_model.specs.Geometry.{Image, inode}
use Rattle.nofs_disk.specs.Disk.{cell_at}
use Rattle.nofs_model.specs.Files.{files_in, agreed, node_in}
use Rattle.nofs_model.specs.Slots.{value, value_in, tag_for, find}
use Rattle.nofs_model.specs.declared.image.value.Value.{Value}

same-parts : (t u : Tag) → Some t ≡ Some u → (t.inode ≡ u.inode) × (t.slot ≡ u.slot)
same-parts t u e = let s : t ≡ u = cc e in (ap (λ (q : Tag). q.inode) s, ap (λ (q : Tag). q.slot) s)

-- a block has one owner
pub one-owner : (X : Image) (i j : ℕ) (a c : Path) (x y : Pointer) → find X i a ≡ answer.Holds x
    → find X j c ≡ answer.Holds y → x.block ≡ y.block
    → (i ≡ j) × (slot_of a ≡ slot_of c)
one-owner X i j a c x y ea ec same =
    let ta = (find-held X i a x ea).agrees.tag in
    let tc = (find-held X j c y ec).agrees.tag in
    let ta' : tag_of (cell_at X y.block).tag ≡ Some (tag_for X i a x.stamp) =
    subst (λ (b : ℕ). tag_of (cell_at X b).tag ≡ Some (tag_for X i a x.stamp)) same ta in
    let e : Some (tag_for X i a x.stamp) ≡ Some (tag_for X j c y.stamp) = sym ta' ∙ tc in
    same-parts (tag_for X i a x.stamp) (tag_for X j c y.stamp) e

module _ (s : ℕ) (touched : ℕ → Bool) (X Y : Image) (w : Touches s touched X Y) where
  pub rewrites : Rewrites s X Y
  rewrites = record {
    super = w.super;
    tags = λ b area. elim (w.blocks b area) [
      | inl same ↦ inl (ap (λ (c : Cell). tag_of c.tag) same)
      | inr r ↦ elim r [ inl free ↦ inr free | inr own ↦ inl own.0 ]
    ];
  }

  module _ (j : ℕ) (apart : touched j ≡ false) (owned : agreed (files_in X) j ≡ true) (old : OldPointers s X j) where
    same-record : inode Y j ≡ inode X j
    same-record = w.records j apart

    -- the blocks of an inode that is not touched stay
    same-cell : (path : Path) (y : Pointer) → IsSlot path → find X j path ≡ answer.Holds y
        → cell_at Y y.block ≡ cell_at X y.block
    same-cell path y slot e =
        let h = find-held X j path y e in
        elim (w.blocks y.block h.agrees.area) [
          | inl same ↦ same
          | inr r ↦ elim r [
            | inl free ↦ absurd (free.0 j path y slot owned e refl)
            | inr own ↦ absurd (not-mine own.1)
          ]
        ]
      where
        not-mine : ((i : ℕ) × (p : Path) × (x : Pointer) × (touched i ≡ true) × (find X i p ≡ answer.Holds x)
            × (x.block ≡ y.block)) → ⊥
        not-mine (i, p, x, t, ex, eb) =
            let o = one-owner X i j p path x y ex e eb in
            let t' : touched j ≡ true = subst (λ (q : ℕ). touched q ≡ true) o.0 t in
            cc (apart, t')

    same-pointers : (path : Path) → IsSlot path → SamePointers X Y j path
    same-pointers (InRecord n) slot = rw same-record refl
    same-pointers (Under a n) slot =
        (same-pointers a slot.2, λ y e. ap (λ (c : Cell). pointer_at c.payload n) (same-cell a y slot.2 e))

    live : is_live (inode X j) ≡ true → SameIdentity X Y j
    live l = record {
      live = l;
      kind = ap (λ (r : Record). r.kind) same-record;
      generation = ap (λ (r : Record). r.generation) same-record;
    }

    pub same-find : is_live (inode X j) ≡ true → (path : Path) → IsSlot path → find Y j path ≡ find X j path
    same-find l path slot = frame s X Y rewrites j owned (live l) path slot old (same-pointers path slot)

    pub same-value : is_live (inode X j) ≡ true → (k : ℕ) → k < slot_limit → value Y j k ≡ value X j k
    same-value l k lt = go (find X j (path_of k)) refl
      where
        go : (f : PathAnswer) → find X j (path_of k) ≡ f → value Y j k ≡ value X j k
        go answer.Hole e = let y : find Y j (path_of k) ≡ answer.Hole =
            same-find l (path_of k) (path_of-slot k lt) ∙ e in
            ap (λ (q : PathAnswer). value_in Y q) y ∙ sym (ap (λ (q : PathAnswer). value_in X q) e)
        go answer.Lost e = let y : find Y j (path_of k) ≡ answer.Lost =
            same-find l (path_of k) (path_of-slot k lt) ∙ e in
            ap (λ (q : PathAnswer). value_in Y q) y ∙ sym (ap (λ (q : PathAnswer). value_in X q) e)
        go (answer.Holds z) e =
            let y : find Y j (path_of k) ≡ answer.Holds z = same-find l (path_of k) (path_of-slot k lt) ∙ e in
            ap (λ (q : PathAnswer). value_in Y q) y
            ∙ ap (λ (c : Cell). Value.Bytes c.payload) (same-cell (path_of k) z (path_of-slot k lt) e)
            ∙ sym (ap (λ (q : PathAnswer). value_in X q) e)

    pub same-file : is_live (inode X j) ≡ true → SameFile (files_in X j) (files_in Y j)
    same-file l = go (inode X j).kind refl
      where
        go : (o : Option FileKind) → (inode X j).kind ≡ o → SameFile (files_in X j) (files_in Y j)
        go None e = absurd (let z : is_live (inode X j) ≡ false = rw e refl in cc (l, z))
        go (Some kind) e =
            let ey : (inode Y j).kind ≡ Some kind = ap (λ (r : Record). r.kind) same-record ∙ e in
            rw (e, ey, files_in) (record {
              generation = sym (ap (λ (r : Record). r.generation) same-record);
              kind = refl;
              size = sym (ap (λ (r : Record). r.size) same-record);
              links = sym (ap (λ (r : Record). r.links) same-record);
              values = λ k lt. sym (same-value l k lt);
              nodes = λ path slot p. ap node_in (sym (same-find l path slot));
            })
