-- The books after an inode or a block was claimed stay safe.
use Rattle.std.proofs.Common.{◌≡◌, ℕ, ◌+◌, ◌-◌, ◌/◌, ◌^◌, ◌<◌, ◌≤◌, inl, inr, Bool, true, false, List, length, Some}
use Rattle.std.proofs.Common.{sym, ap, ◌∙◌, arith}
use Rattle.std.specs.Prelude.{slice_set}
use Rattle.std.proofs.lemmas.Bool.{cases_eq}
use Rattle.std.proofs.lemmas.List.{length-set}
use Rattle.nofs_bits.specs.Bits.{is_set}
use Rattle.nofs_disk.specs.Disk.{DiskState}
use Rattle.nofs_state.specs.Books.Maps.{IsSafe, claimed_books, made_books}
use Rattle.nofs_state.specs.declared.books.maps.Books.{Books}
use Rattle.nofs_state.proofs.OnBooks.Bits.{set-here, set-other, set-length}

-- the books with other maps of blocks, of the same sizes, and another serial
pub blocks-safe : (d : DiskState) (k : Books) (free unknown : List Bool) (n : ℕ) → IsSafe d k
    → n ≤ 2 ^ 40 → length unknown ≡ k.at.blocks
    → length free ≡ k.at.blocks → ((q : ℕ) → is_set free q ≡ true → 1 + k.at.inodes / 4 ≤ q)
    → IsSafe d (record k { free_blocks = free; unknown_blocks = unknown; serial = n })
blocks-safe d k free unknown n s low unknown_size free_size in_area = record {
  at = s.at;
  mount = s.mount;
  serial = low;
  unknown_inodes = s.unknown_inodes;
  unknown_blocks = unknown_size;
  free_inodes = s.free_inodes;
  free_blocks = free_size;
  agreement = s.agreement;
  in_area = in_area;
}

pub claimed-safe : (d : DiskState) (k : Books) (b : ℕ) → b < k.at.blocks → k.serial < 2 ^ 40 → IsSafe d k
    → IsSafe d (claimed_books k b)
claimed-safe d k b within serial s =
    blocks-safe d k (slice_set k.free_blocks b false) k.unknown_blocks (k.serial + 1) s
    (omega (arith, serial)) s.unknown_blocks
    (set-length k.free_blocks b false ∙ s.free_blocks) area
  where
    area : (q : ℕ) → is_set (slice_set k.free_blocks b false) q ≡ true → 1 + k.at.inodes / 4 ≤ q
    area q t = elim (cases_eq q b) [
      | inl e ↦ absurd (let z : is_set (slice_set k.free_blocks b false) q ≡ false =
          ap (is_set (slice_set k.free_blocks b false)) e
          ∙ set-here k.free_blocks b false (let n = s.free_blocks in omega (arith, within, n)) in cc (t, z))
      | inr ne ↦ s.in_area q (sym (set-other k.free_blocks b q false ne) ∙ t)
    ]

pub made-safe : (d : DiskState) (k : Books) (i : ℕ) → k.serial < 2 ^ 40 → IsSafe d k → IsSafe d (made_books k i)
made-safe d k i serial s = record {
  at = s.at;
  mount = s.mount;
  serial = omega (arith, serial);
  unknown_inodes = s.unknown_inodes;
  free_inodes = set-length k.free_inodes (i - 1) false ∙ s.free_inodes;
  agreement = length-set k.agreement (i - 1) (Some true) ∙ s.agreement;
  unknown_blocks = s.unknown_blocks;
  free_blocks = s.free_blocks;
  in_area = s.in_area;
}
