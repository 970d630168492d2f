-- What is read of a base image, slot by slot and inode by inode, are its agreed files.
--
-- Slots whose block of pointers is missing are holes, and inodes that the image does not have are no files.
use Rattle.std.proofs.Common.{◌≡◌, ℕ, zero, suc, ◌+◌, ◌-◌, ◌/◌, ◌%◌, ◌<◌, ◌≤◌, inl, inr, Bool, true, false, cond, ltb}
use Rattle.std.proofs.Common.{leb, eqb, ◌&&◌, List, length, Option, Some, None, refl, sym, ap, ◌∙◌, arith, ltb-true}
use Rattle.std.proofs.Math.Path.{fun_ext}
use Rattle.std.specs.List.{slice_get}
use Rattle.std.proofs.lemmas.Option.{slice_get_past}
use Rattle.std.proofs.lemmas.Bool.{cases_lt, lt-leb}
use Rattle.std.proofs.lemmas.Bool.Decides.{nat_tests}
use Rattle.nofs_ptrs.specs.Paths.{slot_limit, Path, Under, path_of, leaf, top, child}
use Rattle.nofs_ptrs.specs.PathLaws.{path-leaf, path-far}
use Rattle.nofs_model.proofs.OnSlots.Find.{and-both, find-held}
use Rattle.nofs_inode.specs.declared.inode.FileKind.{FileKind}
use Rattle.nofs_disk.specs.Pointer.{null}
use Rattle.nofs_model.specs.Geometry.{inodes_of, blocks_of, first_data, IsMountable, IsSized, Image, inode, is_inode}
use Rattle.nofs_disk.specs.Disk.{cell_at}
use Rattle.nofs_model.specs.Files.{file_from, files_in, agreed}
use Rattle.nofs_model.specs.Slots.{value, value_in as value_found, find}
use Rattle.nofs_model.specs.declared.image.path.PathAnswer.{PathAnswer}
use Rattle.nofs_model.specs.declared.image.path.PathAnswer.TheVariants as answer
use Rattle.nofs_model.specs.declared.image.value.Value.TheVariants.{Hole, Bytes}
use Rattle.nofs_history.specs.Since.{agreed_files}
use Rattle.nofs_history.specs.Accepted.Files.{file_at, kept_files_of, kept_file, kept_files}
use Rattle.nofs_history.specs.Accepted.BaseFiles.{AreFiles}
use Rattle.nofs_history.specs.declared.accepted.files.file.FileNow.{FileNow}
use Rattle.nofs_history.specs.declared.accepted.files.file.FilesNow.{FilesNow}

-- Slots

-- no block of pointers stands in a slot of the record whose pointer is null
leaf-hole : (X : Image) (i : ℕ) → (inode X i).leaf ≡ null → find X i leaf ≡ answer.Hole
leaf-hole X i e = rw e refl

top-hole : (X : Image) (i : ℕ) → (inode X i).top ≡ null → find X i top ≡ answer.Hole
top-hole X i e = rw e refl

under-hole : (X : Image) (i n : ℕ) (above : Path)
    → find X i above ≡ answer.Hole → find X i (Under above n) ≡ answer.Hole
under-hole X i n above e = rw e refl

-- so the slots under it are holes
pub holes-behind-leaf : (X : Image) (i k : ℕ) → (inode X i).leaf ≡ null → 8 ≤ k → k < 72 → value X i k ≡ Hole
holes-behind-leaf X i k e low lt =
    let under = under-hole X i (k - 8) leaf (leaf-hole X i e) in
    ap (λ (path : Path). value_found X (find X i path)) (path-leaf k low lt) ∙ ap (value_found X) under

pub holes-behind-top : (X : Image) (i k : ℕ) → (inode X i).top ≡ null → 72 ≤ k → k < slot_limit → value X i k ≡ Hole
holes-behind-top X i k e low lt =
    let under = under-hole X i ((k - 72) % 64) (child ((k - 72) / 64))
    (under-hole X i ((k - 72) / 64) top (top-hole X i e)) in
    ap (λ (path : Path). value_found X (find X i path)) (path-far k low lt) ∙ ap (value_found X) under

-- bytes that a slot has are those of a block
pub value-sized : (X : Image) (i k : ℕ) (content : List ℕ) → IsMountable X → IsSized X → value X i k ≡ Bytes content
    → length content ≡ 1024
value-sized X i k content image sized e = go (find X i (path_of k)) refl e
  where
    go : (f : PathAnswer) → find X i (path_of k) ≡ f → value_found X f ≡ Bytes content → length content ≡ 1024
    go answer.Hole is b = cc
    go answer.Lost is b = cc
    go (answer.Holds x) is b =
        let area = and-both (leb (first_data X) x.block) (ltb x.block (blocks_of X))
        (find-held X i (path_of k) x is).agrees.area in
        let low : x.block < blocks_of X = ltb-true x.block (blocks_of X) area.1 in
        let below : x.block < length X = omega (arith, image.fits.fits) in
        let same : (cell_at X x.block).payload ≡ content = cc in
        ap length (sym same) ∙ (sized x.block below).payload.len

-- Files

-- an inode that is not agreed, or free, is no file
pub not-agreed : (X : Image) (i : ℕ) → agreed (files_in X) i ≡ false → agreed_files X i ≡ None
unfolding agreed_files
not-agreed X i e = rw e refl

pub free-inode : (X : Image) (i : ℕ) → (inode X i).kind ≡ None → agreed_files X i ≡ None
unfolding agreed_files
free-inode X i e = go (agreed (files_in X) i)
  where
    go : (t : Bool) → cond t (files_in X i) None ≡ None
    go true = rw e refl
    go false = refl

pub agreed-file : (X : Image) (i : ℕ) (kind : FileKind) → agreed (files_in X) i ≡ true → (inode X i).kind ≡ Some kind
    → agreed_files X i ≡ file_from X i (Some kind)
unfolding agreed_files
agreed-file X i kind e live = rw (e, live) refl

-- there is no inode 0, and none behind the last
no-inode : (X : Image) (i : ℕ) → is_inode X i ≡ false → agreed_files X i ≡ None
unfolding inode
no-inode X i e = free-inode X i (rw e refl)

-- an inode behind the last
behind : (k n : ℕ) → n ≤ k → (leb 1 (suc k) && leb (suc k) n) ≡ false
behind k n le = rw (lt-leb (suc k) n (omega arith)) (go (leb 1 (suc k)))
  where
    go : (t : Bool) → (t && false) ≡ false
    go true = refl
    go false = refl

-- an inode after inode 0
not-zero : (k : ℕ) → eqb (suc k) 0 ≡ false
not-zero k = grind (arith, nat_tests)

-- the files of all inodes are all agreed files
pub files-whole : (X : Image) (files : FilesNow) → AreFiles X (inodes_of X) files.files.items
    → kept_files (kept_files_of files) ≡ kept_files (agreed_files X)
files-whole X files are = fun_ext each
  where
    each : (i : ℕ) → kept_files (kept_files_of files) i ≡ kept_files (agreed_files X) i
    each zero = ap kept_file (sym (no-inode X 0 refl))
    each (suc k) =
        let back : suc k - 1 ≡ k = omega arith in
        let next : k + 1 ≡ suc k = omega arith in
        rw (not-zero k, back) (elim (cases_lt k (inodes_of X)) [
          | inl lt ↦ are.each k lt ∙ ap (kept_files (agreed_files X)) next
          | inr le ↦
              let past : slice_get files.files.items k ≡ None =
              slice_get_past files.files.items k (omega (arith, are.len)) in
              ap (λ (at : Option (Option FileNow)). kept_file (file_at at)) past
              ∙ ap kept_file (sym (no-inode X (suc k) (behind k (inodes_of X) le)))
        ])
