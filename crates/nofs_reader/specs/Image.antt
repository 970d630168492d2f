-- The image in the bytes of a file, and what contracts see of the disk that shows it.
use Rattle.std.specs.Prelude.{◌≡◌, ℕ, ◌+◌, ◌*◌, ◌/◌, ◌^◌, ◌<◌, Bool, true, false, List, [], ◌∷◌}
use Rattle.std.specs.Prelude.{nat_lt, Contains, slice_index, refl}
use Rattle.std.proofs.Common.{arith, zero, suc, sym, ap, ◌∙◌, subst, inl, inr, length}
use Rattle.std.proofs.lemmas.Bool.{cases_lt, le-ltb, lt-ltb}
use Rattle.nofs_disk.specs.CellsOfBytes.{IsSizedCell-cell_in, at-cells_in, cell_in, cells_in, length-cells_in}
use Rattle.nofs_disk.specs.declared.tag.Cell.{Cell}
use Rattle.nofs_disk.specs.Disk.{DiskState, IsDisk, IsSizedCell, cell_at}
use Rattle.nofs_model.specs.Geometry.{Image}
use Rattle.nofs_reader.specs.Layouts.{cell_bytes, is_told}
use Rattle.nofs_reader.specs.Bytes.{cell_bytes-byte}

-- the image in the bytes of a file: the cells of all 1,048,576 blocks. Those of a page that can't be told are taken as
-- zeros, which no call shows
abbrev pub image_of : List ℕ → Image
image_of bytes = cells_in (cell_bytes bytes)

-- a cell, where there is one: once where its page is told, and twice where it isn't, so that contracts see which are
abbrev pub cell_where : Bool → Bool → Cell → List Cell
cell_where true true cell = cell ∷ []
cell_where true false cell = cell ∷ cell ∷ []
cell_where false told cell = []

abbrev pub cells_left : List ℕ → ℕ → List Cell
cells_left bytes b = cell_where (nat_lt b 1048576) (is_told bytes (b / 3)) (cell_in (cell_bytes bytes) b)

-- what contracts see of the disk, of which so many writes and flushes were refused, and so many calls failed
abbrev pub image_disk : List ℕ → ℕ → ℕ → ℕ → DiskState
image_disk bytes refused spare faults = record {
  blocks = 1048576;
  moment = 2 * refused;
  spare = spare;
  faults = faults;
  tells = true;
  now = image_of bytes;
  may = cells_left bytes;
  was = λ m. image_of bytes;
  left = λ m X. X ≡ image_of bytes;
  dirty = [];
  holds_back = false;
}

-- the disk as it is first
abbrev pub disk_of : List ℕ → DiskState
disk_of bytes = image_disk bytes 0 0 0

one-of : (told : Bool) (cell : Cell) → Contains (cell_where true told cell) cell
one-of true cell = (0, omega arith, refl)
one-of false cell = (0, omega arith, refl)

may-now : (bytes : List ℕ) (b : ℕ) → b < 1048576 → Contains (cells_left bytes b) (cell_at (image_of bytes) b)
may-now bytes b low =
    subst (λ (c : Cell). Contains (cells_left bytes b) c) (sym (at-cells_in (cell_bytes bytes) b low))
    (subst (λ (t : Bool). Contains (cell_where t (is_told bytes (b / 3)) (cell_in (cell_bytes bytes) b))
    (cell_in (cell_bytes bytes) b)) (sym (lt-ltb b 1048576 low))
    (one-of (is_told bytes (b / 3)) (cell_in (cell_bytes bytes) b)))

none : {P : Type 0} (c : Cell) → Contains [] c → P
none c (k, low, is) = absurd (omega arith)

only-one : (told : Bool) (cell c : Cell) → Contains (cell_where true told cell) c → c ≡ cell
only-one true cell c (zero, low, is) = sym is
only-one true cell c (suc k, low, is) = absurd (omega arith)
only-one false cell c (zero, low, is) = sym is
only-one false cell c (suc zero, low, is) = sym is
only-one false cell c (suc (suc k), low, is) = absurd (omega arith)

may-only : (bytes : List ℕ) (b : ℕ) (c : Cell) → Contains (cells_left bytes b) c
    → (b < 1048576) × (c ≡ cell_in (cell_bytes bytes) b)
may-only bytes b c has = elim (cases_lt b 1048576) [
  | inl low ↦ (
    low,
    only-one (is_told bytes (b / 3)) (cell_in (cell_bytes bytes) b) c
        (subst (λ (t : Bool). Contains (cell_where t (is_told bytes (b / 3)) (cell_in (cell_bytes bytes) b)) c)
        (lt-ltb b 1048576 low) has),
  )
  | inr past ↦ none c
      (subst (λ (t : Bool). Contains (cell_where t (is_told bytes (b / 3)) (cell_in (cell_bytes bytes) b)) c)
      (le-ltb b 1048576 past) has)
]

pub image_disk-is : (bytes : List ℕ) (refused spare faults : ℕ) → 2 * spare + 2 * refused < 2 ^ 64 → faults < 2 ^ 64
    → ((k : ℕ) → slice_index bytes k < 256) → IsDisk (image_disk bytes refused spare faults)
image_disk-is bytes refused spare faults room counted small = record {
  room = room;
  counted = counted;
  whole = λ t. length-cells_in (cell_bytes bytes);
  has_now = λ b t low. may-now bytes b low;
  beyond = λ b c past has. let m = may-only bytes b c has in let l = m.0 in omega arith;
  sized = λ b c has. subst IsSizedCell (sym (may-only bytes b c has).1)
      (IsSizedCell-cell_in (cell_bytes bytes) b (cell_bytes-byte bytes small));
  at_rest = λ X left. record {
    len = ap length left ∙ length-cells_in (cell_bytes bytes);
    each = λ b low. subst (λ (Y : List Cell). Contains (cells_left bytes b) (cell_at Y b)) (sym left)
        (may-now bytes b low);
  };
}

-- disks that may hold the same cells have the same pages that can't be told
sizes : (low a b : Bool) (c d : Cell) → low ≡ true → length (cell_where low a c) ≡ length (cell_where low b d) → a ≡ b
sizes true true true c d l e = refl
sizes true false false c d l e = refl
sizes true true false c d l e = absurd (omega (arith, e))
sizes true false true c d l e = absurd (omega (arith, e))
sizes false a b c d l e = cc

pub told-same : (old new : List ℕ) (p : ℕ) → p < 349526 → cells_left new ≡ cells_left old
    → is_told new p ≡ is_told old p
told-same old new p low same =
    let at : 3 * p / 3 ≡ p = omega arith in
    sym (ap (is_told new) at)
    ∙ sizes (nat_lt (3 * p) 1048576) (is_told new (3 * p / 3)) (is_told old (3 * p / 3))
    (cell_in (cell_bytes new) (3 * p))
    (cell_in (cell_bytes old) (3 * p)) (lt-ltb (3 * p) 1048576 (omega arith))
    (λ i. length (same i (3 * p)))
    ∙ ap (is_told old) at
