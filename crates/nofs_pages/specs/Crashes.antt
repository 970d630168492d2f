-- What a crash may leave of a file of pages, and what it then is of its cells.
use Rattle.std.specs.Prelude.{◌≡◌, ℕ, ◌+◌, ◌*◌, ◌%◌, ◌^◌, ◌<◌, ◌≤◌, ◌⊎◌, IsFalse, List}
use Rattle.nofs_disk.specs.CellsOfBytes.{cell_in, part_of}
use Rattle.nofs_pages.specs.Pages.{sealed}
use Rattle.nofs_pages.specs.Singles.{HasSamePart, byte_in}
use Rattle.nofs_pages.specs.Twins.{IsTwinTold, is_twin, next_at, twin_byte, twin_sealed, version_of}
use Rattle.nofs_pages.specs.Views.{all_bytes}

-- of a file whose cells had these bytes at each moment since its last sync, a crash at this moment may leave these: of
-- each page what was durable, or what was made of its cells, as they were at a moment, whole
abbrev pub MayBeLeft : List ℕ → (ℕ → ℕ → ℕ) → ℕ → List ℕ → Type 0
MayBeLeft durable cells now crashed =
    (p : ℕ) → p < 349526 → HasSamePart (4096 * p) 4096 crashed durable
    ⊎ ((m : ℕ) × (m ≤ now)
    × (part_of crashed (4096 * p) 4096 ≡ sealed p (part_of (all_bytes (cells m)) (3168 * p) 3168)))

-- then each cell is what was durable, or what it was at a moment since; the bytes of the cells of a file are given
abbrev pub CellsAreWhole : (List ℕ → ℕ → ℕ) → List ℕ → (ℕ → ℕ → ℕ) → ℕ → List ℕ → Type 0
CellsAreWhole byte durable cells now crashed =
    (n : ℕ) → n < 1048576 → (cell_in (all_bytes (byte crashed)) n ≡ cell_in (all_bytes (byte durable)) n)
    ⊎ ((m : ℕ) × (m ≤ now) × (cell_in (all_bytes (byte crashed)) n ≡ cell_in (all_bytes (cells m)) n))

abbrev pub PagesKeepCells : Type 0
PagesKeepCells =
    (durable : List ℕ) (cells : ℕ → ℕ → ℕ) (now : ℕ) (crashed : List ℕ) → MayBeLeft durable cells now crashed
    → CellsAreWhole byte_in durable cells now crashed

-- of a place that was being written, with a version of a page whose cells had these bytes at each moment: it is what
-- was durable, or was made of the cells as they were at a moment, or is no told one, whatever bytes it has
abbrev pub IsLeftPlace : List ℕ → (ℕ → ℕ → ℕ) → ℕ → List ℕ → ℕ → ℕ → ℕ → Type 0
IsLeftPlace durable cells now crashed p version at =
    HasSamePart at 4096 crashed durable
    ⊎ (((m : ℕ) × (m ≤ now) × (version < 2 ^ 64)
    × (part_of crashed at 4096 ≡ twin_sealed p version (part_of (all_bytes (cells m)) (3168 * p) 3168)))
    ⊎ IsFalse (is_twin (version % 2) p (part_of crashed at 4096)))

-- of a file with two places for each page: the place that is current in what is durable stays
abbrev pub TwinMayBeLeft : List ℕ → (ℕ → ℕ → ℕ) → ℕ → List ℕ → Type 0
TwinMayBeLeft durable cells now crashed =
    (p : ℕ) → p < 349526
    → HasSamePart (8192 * p + 4096 * (version_of durable p % 2)) 4096 crashed durable
    × IsLeftPlace durable cells now crashed p (version_of durable p + 1) (next_at durable p)

abbrev pub TwinsKeepCells : Type 0
TwinsKeepCells =
    (durable : List ℕ) (cells : ℕ → ℕ → ℕ) (now : ℕ) (crashed : List ℕ) → TwinMayBeLeft durable cells now crashed
    → CellsAreWhole twin_byte durable cells now crashed

-- and a page that was told is told
abbrev pub TwinsStayTold : Type 0
TwinsStayTold =
    (durable : List ℕ) (cells : ℕ → ℕ → ℕ) (now : ℕ) (crashed : List ℕ) → TwinMayBeLeft durable cells now crashed
    → (p : ℕ) → p < 349526
    → IsTwinTold p (part_of durable (8192 * p) 4096) (part_of durable (8192 * p + 4096) 4096)
    → IsTwinTold p (part_of crashed (8192 * p) 4096) (part_of crashed (8192 * p + 4096) 4096)
