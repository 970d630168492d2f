-- The superblock with version 2: what spells it, and how little of an image it changes.
use Rattle.std.proofs.Common.{◌≡◌, ◌≢◌, ℕ, ◌^◌, ◌<◌, true, ◌&&◌, List, length, Some, refl, sym, ap, ◌∙◌, arith}
use Rattle.std.specs.Prelude.{slice_range, is_none, nat_eq}
use Rattle.std.proofs.lemmas.Bool.{and_parts}
use lib.Pointwise.{pointwise}
use Rattle.nofs_disk.specs.Number.{IsBytes, IsBytes-put_number, number_at, number_at-put_before, number_at-put_same}
use Rattle.nofs_disk.specs.Number.{put_number}
use Rattle.nofs_disk.specs.Parts.{range-put_behind, take-put_number}
use Rattle.nofs_disk.specs.Tag.{tag_bytes, tag_of}
use Rattle.nofs_super.specs.Format.{super_cell, super_payload}
use Rattle.nofs_super.specs.Spelling.{super_of-only, super_of-payload}
use Rattle.nofs_super.specs.Super.{CanMount, has_magic, is_version, magic, rest_fault, super_of, is_super, super_in}
use Rattle.nofs_disk.specs.declared.tag.Cell.{Cell}
use Rattle.nofs_super.specs.declared.superblock.SuperBlock.{SuperBlock}
use Rattle.nofs_model.specs.Geometry.{Image, super_at}
use Rattle.nofs_disk.specs.Disk.{cell_at}
use Rattle.nofs_model.proofs.OnGeometry.Super.{Spells, spells, super_tag, super-tag}
use Rattle.nofs_crashlaw.specs.Lives.{HasSuperCell}
use Rattle.nofs_upgrade.specs.Upgrades.{IsSecond, second, second_cell}

-- What a payload spells

pub spelled-of : (payload : List ℕ) (it : SuperBlock) → Spells payload it → super_of payload ≡ Some it
unfolding super_of
spelled-of payload it s = rw (s.spelled, s.numbers) refl

-- The version alone

module _ (payload : List ℕ) (it : SuperBlock) (len : length payload ≡ 1024) (s : Spells payload it) where
  changed : List ℕ
  changed = put_number 4 8 2 payload

  magic-kept : has_magic changed ≡ has_magic payload
  unfolding changed
  magic-kept = ap (λ l. pointwise nat_eq l magic) (take-put_number 4 8 2 8 payload (omega (arith, len)) (omega arith))

  rest-kept : rest_fault changed ≡ rest_fault payload
  unfolding changed
  rest-kept =
      let low : slice_range (put_number 4 8 2 payload) 12 16 ≡ slice_range payload 12 16 =
      range-put_behind 4 8 2 12 16 payload (omega (arith, len)) (omega arith) in
      let high : slice_range (put_number 4 8 2 payload) 40 1024 ≡ slice_range payload 40 1024 =
      range-put_behind 4 8 2 40 1024 payload (omega (arith, len)) (omega arith) in
      rw (low, high) refl

  numbers-kept : super_in changed ≡ second it
  unfolding changed super_in
  numbers-kept =
      let version : number_at 4 8 (put_number 4 8 2 payload) ≡ 2 =
      number_at-put_same 4 8 2 payload (omega arith) (omega (arith, len)) in
      let blocks : number_at 8 16 (put_number 4 8 2 payload) ≡ number_at 8 16 payload =
      number_at-put_before 4 8 8 16 2 payload (omega (arith, len)) (omega arith) in
      let inodes : number_at 8 24 (put_number 4 8 2 payload) ≡ number_at 8 24 payload =
      number_at-put_before 4 8 8 24 2 payload (omega (arith, len)) (omega arith) in
      let mount : number_at 8 32 (put_number 4 8 2 payload) ≡ number_at 8 32 payload =
      number_at-put_before 4 8 8 32 2 payload (omega (arith, len)) (omega arith) in
      rw (version, blocks, inodes, mount) (ap second s.numbers)

  changed-spelled : is_super changed ≡ true
  unfolding is_super
  changed-spelled =
      let one = and_parts (has_magic payload)
      (is_version (super_in payload).version && is_none (rest_fault payload)) s.spelled in
      let two = and_parts (is_version (super_in payload).version) (is_none (rest_fault payload)) one.1 in
      rw (magic-kept, rest-kept, numbers-kept, one.0, two.1) refl

  pub changed-spells : Spells (put_number 4 8 2 payload) (second it)
  unfolding changed
  changed-spells = record { spelled = changed-spelled; numbers = numbers-kept }

-- The cell that is written

two-small : 2 < 2 ^ 32
two-small = omega arith

module _ (blocks : ℕ) (it : SuperBlock) (can : CanMount blocks it) where
  pub second-spelled : super_of (super_cell (second it)).payload ≡ Some (second it)
  unfolding super_cell
  second-spelled =
      let b = can.geometry.most_blocks in
      let i = can.geometry.most_inodes in
      let m = can.mount in
      super_of-payload (second it) two-small (omega (arith, b)) (omega (arith, i)) (omega (arith, m)) refl

  second-spells : Spells (super_cell (second it)).payload (second it)
  second-spells = spells (super_cell (second it)).payload (second it) second-spelled

  -- the cell that is written is the one that was there, but for the version and the tag
  pub second-is : (c : Cell) → IsBytes 1024 c.payload → super_of c.payload ≡ Some it
      → super_cell (second it) ≡ second_cell c
  unfolding super_cell
  second-is c is spelled =
      let b = can.geometry.most_blocks in
      let i = can.geometry.most_inodes in
      let m = can.mount in
      let new = changed-spells c.payload it is.len (spells c.payload it spelled) in
      let same : put_number 4 8 2 c.payload ≡ super_payload (second it) =
      super_of-only (second it) two-small (omega (arith, b)) (omega (arith, i)) (omega (arith, m))
      (put_number 4 8 2 c.payload)
      (IsBytes-put_number 1024 4 8 2 c.payload (omega arith) is)
      (spelled-of (put_number 4 8 2 c.payload) (second it) new) in
      λ j. record { payload = sym same j; tag = tag_bytes super_tag }

  super-is : (X : Image) → cell_at X 0 ≡ super_cell (second it) → super_at X ≡ second it
  unfolding super_at
  super-is X e = ap (λ (c : Cell). super_in c.payload) e ∙ second-spells.numbers

  cell-is : (X : Image) → cell_at X 0 ≡ super_cell (second it) → HasSuperCell X
  cell-is X e = record {
    payload = ap (λ (c : Cell). is_super c.payload) e ∙ second-spells.spelled;
    tag = ap (λ (c : Cell). tag_of c.tag) e ∙ super-tag (second it);
  }

  -- an image with the cell that is written is the one before, but for the version and the tag
  pub second-of : (Z X : Image) → it.version ≡ 1 → length X ≡ length Z → ((b : ℕ) → b ≢ 0 → cell_at X b ≡ cell_at Z b)
      → IsBytes 1024 (cell_at Z 0).payload
      → super_of (cell_at Z 0).payload ≡ Some it → cell_at X 0 ≡ super_cell (second it) → IsSecond Z X
  unfolding super_at
  second-of Z X one size others is spelled ex =
      let sx = super-is X ex in
      let ez : super_at Z ≡ it = (spells (cell_at Z 0).payload it spelled).numbers in
      record {
        only = record { size = size; others = others; first = ex ∙ second-is (cell_at Z 0) is spelled };
        upgraded = record {
          only = record {
            size = size;
            others = others;
            blocks = ap (λ (q : SuperBlock). q.blocks) sx ∙ sym (ap (λ (q : SuperBlock). q.blocks) ez);
            inodes = ap (λ (q : SuperBlock). q.inodes) sx ∙ sym (ap (λ (q : SuperBlock). q.inodes) ez);
          };
          before = ap (λ (q : SuperBlock). q.version) ez ∙ one;
          after = ap (λ (q : SuperBlock). q.version) sx;
          mount = ap (λ (q : SuperBlock). q.mount) sx ∙ sym (ap (λ (q : SuperBlock). q.mount) ez);
        };
        spelled = cell-is X ex;
      }
