-- Whether two cells are one, and what follows from a fact that is only known to have a proof.
use Rattle.std.specs.Prelude.{◌≡◌, ℕ, nat_eq, ◌<◌, Bool, true, ◌&&◌, List, Contains, IsTrue, Result, refl}
use Rattle.std.specs.List.{list_any}
use Rattle.std.proofs.Common.{ap, ◌∙◌, inl, inr, subst, sym}
use Rattle.std.proofs.Math.Logic.{∥∥₁_elim, ∥∥₁_prop}
use Rattle.std.proofs.lemmas.Bool.{and_parts, and_from, cases_eq}
use Rattle.std.proofs.lemmas.List.{get_or_default}
use Rattle.std.proofs.lemmas.List.Folds.{Any-from_list_any, list_any_at}
use mathlib.Core.Bool.{Bool-set}
use native.Mathlib.Bridge.{le_prop}
use native.Mathlib.Nat.{ℕ_set}
use lib.Pointwise.{pointwise, bytes_decides}
use Rattle.nofs_disk.specs.declared.tag.Cell.{Cell}
use Rattle.nofs_disk.specs.declared.Failed.{Failed}
use Rattle.nofs_disk.specs.Disk.{DiskState, IsDisk, IsSizedCell, Picks, Writes, cell_at}
use Rattle.nofs_disk.specs.Number.{IsBytes, IsBytes-zeros}
use Rattle.nofs_disk.specs.Tag.{zero_cell}

-- whether two cells are one
abbrev pub same_cell : Cell → Cell → Bool
same_cell a b = pointwise nat_eq a.payload b.payload && pointwise nat_eq a.tag b.tag

pub same_cell-true : (a b : Cell) → same_cell a b ≡ true → a ≡ b
same_cell-true a b e =
    let parts = and_parts (pointwise nat_eq a.payload b.payload) (pointwise nat_eq a.tag b.tag) e in
    let payload = (bytes_decides a.payload b.payload).0 parts.0 in
    let tag = (bytes_decides a.tag b.tag).0 parts.1 in
    λ i. record { payload = payload i; tag = tag i }

pub same_cell-refl : (a : Cell) → same_cell a a ≡ true
same_cell-refl a = and_from (pointwise nat_eq a.payload a.payload) (pointwise nat_eq a.tag a.tag)
    ((bytes_decides a.payload a.payload).1 refl)
    ((bytes_decides a.tag a.tag).1 refl)

-- whether a cell is among these
abbrev pub has_cell : List Cell → Cell → Bool
has_cell cells c = list_any (λ x. same_cell x c) cells

pub has_cell-from : (cells : List Cell) (c : Cell) → Contains cells c → has_cell cells c ≡ true
has_cell-from cells c (k, low, is) =
    list_any_at (λ x. same_cell x c) cells k c low (ap (λ x. same_cell x c) is ∙ same_cell-refl c)

pub has_cell-true : (cells : List Cell) (c : Cell) → has_cell cells c ≡ true → Contains cells c
has_cell-true cells c e =
    let found = Any-from_list_any (λ x. same_cell x c) cells e in
    let is : found.1 ≡ c = same_cell-true found.1 c found.4 in
    (found.0, found.2, get_or_default cells found.0 c found.1 found.2 ∙ found.3 ∙ is)

-- a cell is among these where that is known to have a proof
pub Contains-known : (cells : List Cell) (c : Cell) → ∥ Contains cells c ∥₁ → Contains cells c
Contains-known cells c known = has_cell-true cells c (∥∥₁_elim known (Bool-set _ _) (has_cell-from cells c))

pub Picks-known : (may : ℕ → List Cell) (blocks : ℕ) (image : List Cell) → ∥ Picks may blocks image ∥₁
    → Picks may blocks image
Picks-known may blocks image known = record {
  len = ∥∥₁_elim known (ℕ_set _ _) (λ p. p.len);
  each = λ b low. Contains-known (may b) (cell_at image b) (∥∥₁_elim known (∥∥₁_prop) (λ p. ∣ p.each b low ∣₁));
}

-- bytes that are known to be so many are
pub IsBytes-known : (n : ℕ) (bytes : List ℕ) → ∥ IsBytes n bytes ∥₁ → IsBytes n bytes
IsBytes-known n bytes known =
    record { len = ∥∥₁_elim known (ℕ_set _ _) (λ b. b.len); each = λ k. ∥∥₁_elim known le_prop (λ b. b.each k) }

-- a cell that is known to be sized is
pub IsSizedCell-known : (c : Cell) → ∥ IsSizedCell c ∥₁ → IsSizedCell c
IsSizedCell-known c known = record {
  payload = IsBytes-known 1024 c.payload (∥∥₁_elim known ∥∥₁_prop (λ s. ∣ s.payload ∣₁));
  tag = IsBytes-known 32 c.tag (∥∥₁_elim known ∥∥₁_prop (λ s. ∣ s.tag ∣₁));
}

-- a cell of zeros is sized
pub IsSizedCell-zero : IsSizedCell zero_cell
unfolding zero_cell
IsSizedCell-zero = record { payload = IsBytes-zeros 1024; tag = IsBytes-zeros 32 }

-- each cell that a disk that tells gives is sized
pub now-sized : (d : DiskState) → IsDisk d → IsTrue d.tells
    → (block : ℕ) → block < d.blocks → IsSizedCell (cell_at d.now block)
now-sized d is tells block low = is.sized block (cell_at d.now block) (is.has_now block tells low)

-- each cell of an image that picks from what a disk may hold is sized
pub image-sized : (d : DiskState) → IsDisk d → (image : List Cell) → Picks d.may d.blocks image
    → (block : ℕ) → block < d.blocks
    → IsSizedCell (cell_at image block)
image-sized d is image picks block low = is.sized block (cell_at image block) (picks.each block low)

-- a cell that a write may leave is sized, where the one that was written is
pub writes-sized : (old new : DiskState) {block : ℕ} {cell : Cell} {result : Result (Unit {0}) Failed} → IsDisk old
    → IsSizedCell cell
    → Writes old new block cell result
    → (b : ℕ) (c : Cell) → Contains (new.may b) c → IsSizedCell c
writes-sized old new {block} {cell} is size w b c has = elim (cases_eq b block) [
  | inl same ↦ elim (w.may c (subst (λ (k : ℕ). Contains (new.may k) c) same has)) [
    | inl before ↦ is.sized block c before
    | inr e ↦ subst (λ (x : Cell). IsSizedCell x) (sym e) size
  ]
  | inr other ↦ is.sized b c (subst (λ (l : List Cell). Contains l c) (w.others b other) has)
]
