-- The disk of an image: its reads, and its writes, which are refused.
use Rattle.std.proofs.Common.{◌≡◌, ℕ, zero, suc, ◌+◌, ◌-◌, ◌<◌, ◌≤◌, List, [], ◌++◌, length, take, drop, Ok, Err, arith}
use Rattle.std.proofs.Common.{refl, sym, ap, ◌∙◌, inl, inr}
use Rattle.std.specs.Prelude.{slice_index}
use Rattle.std.proofs.Math.Seq.{get_or-append_right}
use Rattle.std.proofs.lemmas.Bool.{cases_lt}
use Rattle.std.proofs.lemmas.List.{drop-replicate, get_or-drop, get_or_append_left, get_or_past, length-append}
use Rattle.std.proofs.lemmas.List.{length-drop, take_all}
use Rattle.nofs_disk.specs.CellsOfBytes.{at-cells_in, cell_in, part-is, part_of}
use Rattle.nofs_disk.specs.declared.tag.Cell.{Cell}
use Rattle.nofs_disk.specs.Chains.{StaysButFaults-refl}
use Rattle.nofs_disk.specs.Disk.{Flushes, IsDisk, Reads, Rose, StaysButFaults, Writes}
use Rattle.nofs_disk.specs.Number.{length-zeros, put_bytes, zeros}
use Rattle.nofs_reader.specs.Image.{disk_of, image_disk, told-same}
use Rattle.nofs_reader.specs.Layouts.{IsBadPage, cell_bytes}
use Rattle.nofs_reader.specs.declared.layout.BadPage.{BadPage}

pub zeros-at : (n k : ℕ) → slice_index (zeros n) k ≡ 0
unfolding zeros
zeros-at zero k = get_or_past [] k 0 (omega arith)
zeros-at (suc n) zero = refl
zeros-at (suc n) (suc k) = zeros-at n k

zeros-behind : (m n : ℕ) → drop m (zeros n) ≡ zeros (n - m)
unfolding zeros
zeros-behind m n = drop-replicate m n 0

-- zeros alone, past the end
pub bytes-past : (bytes : List ℕ) (at n : ℕ) → length bytes ≤ at → zeros n ≡ part_of bytes at n
bytes-past bytes at n past =
    sym (part-is bytes (zeros n) at n (length-zeros n) (λ k low.
    get_or_past bytes (at + k) 0 (omega (arith, past)) ∙ sym (zeros-at n k)))

-- the last ones, with zeros behind them
bytes-last : (bytes : List ℕ) (at n : ℕ) → at ≤ length bytes → length bytes < at + n
    → put_bytes 0 (drop at bytes) (zeros n) ≡ part_of bytes at n
unfolding put_bytes
bytes-last bytes at n low short =
    let part : List ℕ = drop at bytes in
    let len = length-drop at bytes in
    let behind = zeros-behind (0 + length part) n in
    let size = length-append part (drop (0 + length part) (zeros n)) in
    let rest = ap length behind ∙ length-zeros (n - (0 + length part)) in
    sym (part-is bytes (part ++ drop (0 + length part) (zeros n)) at n (omega (arith, size, rest, len, short))
    (λ k small. elim (cases_lt k (length part)) [
      | inl inside ↦
          sym (get_or_append_left part (drop (0 + length part) (zeros n)) 0 k inside ∙ get_or-drop at bytes k 0)
      | inr past ↦
          get_or_past bytes (at + k) 0 (omega (arith, len, past))
          ∙ sym (get_or-append_right part (drop (0 + length part) (zeros n)) k 0 past
          ∙ ap (λ l. slice_index l (k - length part)) behind
          ∙ zeros-at (n - (0 + length part)) (k - length part))
    ]))

pub bytes-to_end : (bytes into was : List ℕ) (at n : ℕ) → at ≤ length bytes → length bytes < at + n → was ≡ zeros n
    → into ≡ put_bytes 0 (take (length bytes - at) (drop at bytes)) was → into ≡ part_of bytes at n
bytes-to_end bytes into was at n low short clear put =
    let len = length-drop at bytes in
    put ∙ ap (λ l. put_bytes 0 l was) (take_all (length bytes - at) (drop at bytes) (omega (arith, len)))
    ∙ ap (put_bytes 0 (drop at bytes)) clear ∙ bytes-last bytes at n low short

-- a read of a page that is told
pub reads : (bytes : List ℕ) (refused spare faults block : ℕ) (cell : Cell) → block < 1048576
    → cell ≡ cell_in (cell_bytes bytes) block
    → Reads (image_disk bytes refused spare faults) (image_disk bytes refused spare faults) block cell (Ok tt)
reads bytes refused spare faults block cell low is = record {
  stays = StaysButFaults-refl (image_disk bytes refused spare faults);
  cell = λ t. is ∙ sym (at-cells_in (cell_bytes bytes) block low);
  cause = tt;
  no_fault = refl;
}

-- and of one that isn't
pub reads-bad : (bytes : List ℕ) (refused spare faults more block : ℕ) (cell : Cell) → faults ≤ more
    → Rose faults more
    → Reads (image_disk bytes refused spare faults) (image_disk bytes refused spare more) block cell (Err (record {}))
reads-bad bytes refused spare faults more block cell risen rose = record {
  stays = record {
    disk = record { blocks = refl; tells = refl; holds_back = refl; faults = risen };
    past = record { was = λ m low. refl; no_more = λ m X low left. left; no_less = λ m X low left. left };
    cells = record { now = refl; may = refl; moment = refl };
    dirty = refl;
    spare = refl;
  };
  cell = tt;
  cause = rose;
  no_fault = tt;
}

-- a write that is refused
pub writes : (bytes : List ℕ) (refused spare faults more block : ℕ) (cell : Cell)
    → IsDisk (image_disk bytes refused spare faults) → 1 ≤ spare → faults ≤ more → Rose faults more
    → Writes (image_disk bytes refused spare faults) (image_disk bytes (refused + 1) (spare - 1) more) block cell
    (Err (record {}))
writes bytes refused spare faults more block cell is some risen rose = record {
  disk = record { blocks = refl; tells = refl; holds_back = refl; faults = risen };
  past = record { was = λ m low. refl; no_more = λ m X low left. left; no_less = λ m X low left. left };
  moment = omega arith;
  spare = omega arith;
  ok = tt;
  err = inl refl;
  may = λ c has. inl has;
  stays = λ c has. has;
  others = λ b other. refl;
  during = λ X left. is.at_rest X left;
  cause = rose;
  no_fault = tt;
  dirty = λ b other. (λ h. h, λ h. h);
  held = λ t. cc;
}

-- a flush that is refused
pub flushes : (bytes : List ℕ) (refused spare faults more : ℕ) → IsDisk (image_disk bytes refused spare faults)
    → 1 ≤ spare → faults ≤ more → Rose faults more
    → Flushes (image_disk bytes refused spare faults) (image_disk bytes (refused + 1) (spare - 1) more)
    (Err (record {}))
flushes bytes refused spare faults more is some risen rose = record {
  disk = record { blocks = refl; tells = refl; holds_back = refl; faults = risen };
  past = record { was = λ m low. refl; no_more = λ m X low left. left; no_less = λ m X low left. left };
  during = λ X left. is.at_rest X left;
  moment = omega arith;
  spare = omega arith;
  cause = rose;
  may = λ b c low has. has;
  dirty = λ b has. has;
  now = refl;
  err = refl;
  settled = tt;
  was = tt;
  clean = tt;
  no_fault = tt;
}

-- a disk of these bytes whose calls only read: where its faults rose, a read failed, of a page of these bytes
pub page-is-bad : (bytes is : List ℕ) (refused spare faults : ℕ) (bad : BadPage)
    → StaysButFaults (disk_of bytes) (image_disk is refused spare faults) → Rose 0 faults
    → (refused < faults → IsBadPage is bad) → IsBadPage bytes bad
page-is-bad bytes is refused spare faults bad stays rose noted =
    let still = stays.cells.moment in
    let found = noted (omega (arith, still, rose)) in
    record {
      range = found.range;
      untold = sym (told-same bytes is bad.number found.range stays.cells.may) ∙ found.untold;
    }
