-- The numbers of blocks and inodes with which a device is formatted.
use Rattle.std.specs.Prelude.{◌≡◌, ℕ, ◌+◌, ◌/◌, ◌%◌, ◌≤◌, ◌==◌, ◌||◌, if◌then◌else◌, Bool, true, false, not, nat_lt}
use Rattle.std.specs.Prelude.{min, max, Option, Some, None, is_none}
use Rattle.std.proofs.Common.{arith, refl, eqb, ltb}
use Rattle.std.proofs.lemmas.Bool.{eq-eqb, eqb-true, le-ltb, ltb-false, or_parts}
use Rattle.nofs_super.specs.declared.geometry.FormatFault.{FormatFault}
use Rattle.nofs_super.specs.declared.geometry.FormatFault.TheVariants.{TooSmall, TooLarge, NotMultiple}

-- the least number of blocks for these inodes
abbrev pub least_blocks : ℕ → ℕ
least_blocks inodes = max (2 + inodes / 4) 16

-- the most blocks on a device of this many
abbrev pub most_blocks : ℕ → ℕ
most_blocks device = min device 1048576

-- the number of inodes isn't a multiple of 4 from 4 to 65,536
abbrev pub bad_inodes : ℕ → Bool
bad_inodes inodes = not (inodes % 4 == 0) || nat_lt inodes 4 || nat_lt 65536 inodes

-- why a device of this many blocks isn't formatted with these numbers
unfoldable pub format_fault : ℕ → ℕ → ℕ → Option FormatFault
format_fault device blocks inodes =
    if bad_inodes inodes then Some (NotMultiple inodes)
    else if nat_lt blocks (least_blocks inodes) then Some (TooSmall (least_blocks inodes))
    else if nat_lt (most_blocks device) blocks then Some (TooLarge (most_blocks device))
    else None

-- whether a device of this many blocks is formatted with these numbers
unfoldable pub is_geometry : ℕ → ℕ → ℕ → Bool
is_geometry device blocks inodes = is_none (format_fault device blocks inodes)

-- numbers with which a device of this many blocks is formatted
pub record IsGeometry (device blocks inodes : ℕ) : Type 0 where
  pub multiple : inodes % 4 ≡ 0
  pub some_inodes : 4 ≤ inodes
  pub most_inodes : inodes ≤ 65536
  pub table : 2 + inodes / 4 ≤ blocks
  pub some_blocks : 16 ≤ blocks
  pub most_blocks : blocks ≤ 1048576
  pub fits : blocks ≤ device

-- on a device that holds the blocks, whatever device it was tested on
pub on_device : {blocks inodes : ℕ} (tested device : ℕ) → IsGeometry tested blocks inodes
    → blocks ≤ device → IsGeometry device blocks inodes
on_device tested device g fits = record {
  multiple = g.multiple;
  some_inodes = g.some_inodes;
  most_inodes = g.most_inodes;
  table = g.table;
  some_blocks = g.some_blocks;
  most_blocks = g.most_blocks;
  fits = fits;
}

not-false : (b : Bool) → not b ≡ false → b ≡ true
not-false true e = refl
not-false false e = cc

-- a format's test, and what it says
pub is_geometry-parts : (device blocks inodes : ℕ)
    → is_geometry device blocks inodes ≡ true → IsGeometry device blocks inodes
unfolding is_geometry format_fault
is_geometry-parts device blocks inodes e =
    go (bad_inodes inodes) refl (ltb blocks (least_blocks inodes)) refl (ltb (most_blocks device) blocks) refl e
  where
    go : (a : Bool) → bad_inodes inodes ≡ a → (b : Bool) → ltb blocks (least_blocks inodes) ≡ b → (c : Bool)
        → ltb (most_blocks device) blocks ≡ c
        → is_none (if a then Some (NotMultiple inodes) else if b then Some (TooSmall (least_blocks inodes))
        else if c then Some
        (TooLarge (most_blocks device)) else None) ≡ true → IsGeometry device blocks inodes
    go true ea b eb c ec e = cc
    go false ea true eb c ec e = cc
    go false ea false eb true ec e = cc
    go false ea false eb false ec e =
        let two = or_parts (not (eqb (inodes % 4) 0) || ltb inodes 4) (ltb 65536 inodes) ea in
        let one = or_parts (not (eqb (inodes % 4) 0)) (ltb inodes 4) two.0 in
        let least : max (2 + inodes / 4) 16 ≤ blocks = ltb-false blocks (least_blocks inodes) eb in
        let most : blocks ≤ min device 1048576 = ltb-false (most_blocks device) blocks ec in
        record {
          multiple = eqb-true (inodes % 4) 0 (not-false (eqb (inodes % 4) 0) one.0);
          some_inodes = ltb-false inodes 4 one.1;
          most_inodes = ltb-false 65536 inodes two.1;
          table = omega (arith, least);
          some_blocks = omega (arith, least);
          most_blocks = omega (arith, most);
          fits = omega (arith, most);
        }

pub is_geometry-from : (device blocks inodes : ℕ) → IsGeometry device blocks inodes
    → is_geometry device blocks inodes ≡ true
unfolding is_geometry format_fault
is_geometry-from device blocks inodes g =
    let table = g.table in let some = g.some_blocks in let most = g.most_blocks in let fits = g.fits in
    rw (
      eq-eqb (inodes % 4) 0 g.multiple,
      le-ltb inodes 4 g.some_inodes,
      le-ltb 65536 inodes g.most_inodes,
      le-ltb blocks (least_blocks inodes) (omega arith),
      le-ltb (most_blocks device) blocks (omega arith),
    )
