-- What a crash may leave at each moment, from one moment on.
use Rattle.std.specs.Prelude.{Option, ◌≡◌, ℕ, ◌+◌, ◌≤◌, ◌⊎◌, List, Result}
use Rattle.std.proofs.Common.{arith, subst, sym, inl, inr}
use Rattle.std.proofs.lemmas.Bool.{cases_lt}
use Rattle.nofs_disk.specs.declared.Failed.{Failed}
use Rattle.nofs_disk.specs.declared.tag.Cell.{Cell}
use Rattle.nofs_disk.specs.Disk.{WritesOut, DiskState, IsDisk, Picks, KeepsPast, Writes, Flushes}

-- at each moment from this one to the present one, a crash leaves only images with the property of that moment
pub record AtEach (P : ℕ → List Cell → Type 0) (from : ℕ) (disk : DiskState) : Type 0 where
  pub begun : from ≤ disk.moment
  pub each : (m : ℕ) (image : List Cell) → from ≤ m → m ≤ disk.moment → disk.left m image → P m image

-- a moment between two that differ by two
after : (old new m : ℕ) → new ≡ old + 2 → m ≤ new → (m ≤ old) ⊎ ((m ≡ old + 1) ⊎ (m ≡ new))
after old new m e le = elim (cases_lt m (old + 1)) [
  | inl low ↦ inl (omega arith)
  | inr high ↦ elim (cases_lt m (old + 2)) [ inl mid ↦ inr (inl (omega arith)) | inr top ↦ inr (inr (omega arith)) ]
]

-- a call that makes no moment goes on
pub AtEach-stays : (P : ℕ → List Cell → Type 0) (from : ℕ) (old new : DiskState) → KeepsPast old new
    → new.moment ≡ old.moment → AtEach P from old
    → AtEach P from new
AtEach-stays P from old new past same at = record {
  begun = let b = at.begun in omega arith;
  each = λ m image low high left. at.each m image low (omega arith) (past.no_more m image (omega arith) left);
}

-- a call that makes two moments goes on, where the images of these have the property
pub AtEach-moves : (P : ℕ → List Cell → Type 0) (from : ℕ) (old new : DiskState) → KeepsPast old new
    → new.moment ≡ old.moment + 2
    → ((image : List Cell) → new.left (old.moment + 1) image → P (old.moment + 1) image)
    → ((image : List Cell) → new.left new.moment image → P new.moment image)
    → AtEach P from old → AtEach P from new
AtEach-moves P from old new past moved during rest at = record {
  begun = let b = at.begun in omega arith;
  each = λ m image low high left. elim (after old.moment new.moment m moved high) [
    | inl before ↦ at.each m image low before (past.no_more m image before left)
    | inr (inl mid) ↦
        let F : ℕ → Type 0 = λ k. new.left k image → P k image in
        subst F (sym mid) (during image) left
    | inr (inr top) ↦
        let F : ℕ → Type 0 = λ k. new.left k image → P k image in
        subst F (sym top) (rest image) left
  ];
}

-- a write goes on where each image that picks from what it leaves has the property at the two moments that it makes
pub AtEach-writes : (P : ℕ → List Cell → Type 0) (from : ℕ)
    (old new : DiskState) {block : ℕ} {cell : Cell} {result : Result (Unit {0}) Failed}
    → IsDisk new → Writes old new block cell result
    → ((image : List Cell) → Picks new.may new.blocks image → P (old.moment + 1) image × P new.moment image)
    → AtEach P from old → AtEach P from new
AtEach-writes P from old new is w has at =
    AtEach-moves P from old new w.past w.moment (λ image left. (has image (w.during image left)).0)
    (λ image left. (has image (is.at_rest image left)).1) at

-- a flush goes on where each image that picks from what was there has the property at the moment during it, and each
-- that picks from what is left at its end
pub AtEach-flushes : (P : ℕ → List Cell → Type 0) (from : ℕ) (old new : DiskState) {result : Result (Unit {0}) Failed}
    → IsDisk new → Flushes old new result
    → ((image : List Cell) → Picks old.may old.blocks image → P (old.moment + 1) image)
    → ((image : List Cell) → Picks new.may new.blocks image → P new.moment image)
    → AtEach P from old → AtEach P from new
AtEach-flushes P from old new is f during rest at =
    AtEach-moves P from old new f.past f.moment (λ image left. during image (f.during image left))
    (λ image left. rest image (is.at_rest image left)) at

-- a write-out goes on where each image that picks from what is left has the property at the present moment
pub AtEach-writes_out : (P : ℕ → List Cell → Type 0) (from : ℕ)
    (old new : DiskState) {result : Result (Option ℕ) Failed}
    → IsDisk new → WritesOut old new result
    → ((image : List Cell) → Picks new.may new.blocks image → P new.moment image)
    → AtEach P from old → AtEach P from new
AtEach-writes_out P from old new is w rest at =
    let same = w.cells.moment in
    record {
      begun = let b = at.begun in omega arith;
      each = λ m image low high left. elim (cases_lt m old.moment) [
        | inl before ↦ at.each m image low (omega arith) (w.no_more m image before left)
        | inr now ↦
            let e : m ≡ new.moment = omega arith in
            let F : ℕ → Type 0 = λ k. new.left k image → P k image in
            subst F (sym e) (λ l. rest image (is.at_rest image l)) left
      ];
    }
