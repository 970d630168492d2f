-- Slots of a file are cut off: each becomes empty, and every other stays. Pointers are asked of slots alone, not of
-- content.
use Rattle.std.proofs.Common.{◌≡◌, ◌≢◌, ℕ, Bool, true, false, refl, ap, ◌∙◌}
use Rattle.nofs_model.specs.declared.image.path.PathAnswer.{PathAnswer}
use Rattle.nofs_crashlaw.specs.Untouched.Frames.{Rewrites, SameIdentity, OldPointers}
use Rattle.nofs_model.proofs.OnSlots.Find.{judged-built-null}
use Rattle.nofs_crashlaw.proofs.OnUntouched.Frames.{judged-same}
use Rattle.nofs_crashlaw.proofs.OnFiles.Growth.{kept-under}
use Rattle.nofs_model.specs.declared.image.path.PathAnswer.TheVariants as answer
use Rattle.nofs_disk.specs.declared.tag.Pointer.{Pointer}
use Rattle.nofs_disk.specs.Pointer.{is_null}
use Rattle.nofs_ptrs.specs.Cells.{pointer_at}
use Rattle.nofs_model.specs.Geometry.{Image, inode}
use Rattle.nofs_disk.specs.Disk.{cell_at}
use Rattle.nofs_model.specs.Files.{files_in, agreed}
use Rattle.nofs_ptrs.specs.Paths.{Path, InRecord, Under, IsSlot}
use Rattle.nofs_model.specs.Slots.{judged, find, record_pointer}

module _ (s : ℕ) (X Y : Image) (i : ℕ) (w : Rewrites s X Y) (owned : agreed (files_in X) i ≡ true)
    (same : SameIdentity X Y i) (old : OldPointers s X i)
    (gone : Path → Bool)
    -- what lies under a slot that goes, goes
    (below : (b : Path) (n : ℕ) → gone b ≡ true → gone (Under b n) ≡ true)
    -- the pointers of what goes are null, and the others stay
    (record_cut : (n : ℕ) → gone (InRecord n) ≡ true → is_null (record_pointer (inode Y i) n) ≡ true)
    (record_stays : (n : ℕ) → gone (InRecord n) ≡ false → record_pointer (inode Y i) n ≡ record_pointer (inode X i) n)
    (cell_cut : (b : Path) (n : ℕ) (y : Pointer) → IsSlot (Under b n) → gone b ≡ false → find X i b ≡ answer.Holds y
    → gone (Under b n) ≡ true
    → is_null (pointer_at (cell_at Y y.block).payload n) ≡ true)
    (cell_stays : (b : Path) (n : ℕ) (y : Pointer) → IsSlot (Under b n) → gone b ≡ false → find X i b ≡ answer.Holds y
    → gone (Under b n) ≡ false
    → pointer_at (cell_at Y y.block).payload n ≡ pointer_at (cell_at X y.block).payload n)
    -- a slot above the cut that is damaged has nothing to cut
    (whole : (b : Path) (n : ℕ) → IsSlot (Under b n)
    → gone b ≡ false → gone (Under b n) ≡ true → find X i b ≢ answer.Lost) where
  pub both : (a : Path) → IsSlot a
      → (gone a ≡ true → find Y i a ≡ answer.Hole) × (gone a ≡ false → find Y i a ≡ find X i a)
  both (InRecord n) slot = (
    λ g. judged-built-null Y i (InRecord n) (record_pointer (inode Y i) n) (record_cut n g),
    λ g. ap (λ (x : Pointer). judged Y i (InRecord n) x) (record_stays n g)
        ∙ judged-same s X Y w i owned same (InRecord n) (record_pointer (inode X i) n)
        slot (old (InRecord n) slot) refl,
  )
  both (Under b n) slot = go (gone b) refl (find X i b) refl (both b slot.2)
    where
      go : (t : Bool) → gone b ≡ t → (f : PathAnswer) → find X i b ≡ f
          → (gone b ≡ true → find Y i b ≡ answer.Hole) × (gone b ≡ false → find Y i b ≡ find X i b)
          → (gone (Under b n) ≡ true → find Y i (Under b n) ≡ answer.Hole)
          × (gone (Under b n) ≡ false → find Y i (Under b n) ≡ find X i (Under b n))
      go true t f e ih =
          let y = ih.0 t in
          (λ g. rw (y, find) refl, λ g. let z = below b n t in absurd (cc (g, z)))
      go false t answer.Hole e ih =
          let y : find Y i b ≡ answer.Hole = ih.1 t ∙ e in
          (λ g. rw (y, find) refl, λ g. rw (e, y, find) refl)
      go false t answer.Lost e ih =
          let y : find Y i b ≡ answer.Lost = ih.1 t ∙ e in
          (λ g. absurd (whole b n slot t g e), λ g. rw (e, y, find) refl)
      go false t (answer.Holds z) e ih =
          let y : find Y i b ≡ answer.Holds z = ih.1 t ∙ e in (
            λ g. rw (y, find) (judged-built-null Y i (Under b n) (pointer_at (cell_at Y z.block).payload n)
                (cell_cut b n z slot t e g)),
            λ g. kept-under s X Y i w owned same old b n slot z e y (cell_stays b n z slot t e g),
          )
