-- The disk after one cell of the data area was written.
use Rattle.std.proofs.Common.{◌≡◌, ◌≢◌, ℕ, ◌+◌, ◌-◌, ◌/◌, ◌%◌, ◌<◌, ◌≤◌, Bool, true, false, leb, ltb, ltb-true}
use Rattle.std.proofs.Common.{leb-true, ◌&&◌, [], ◌∷◌, length, refl, sym, ap, ◌∙◌, arith}
use Rattle.std.proofs.lemmas.List.{get_or-set_same, get_or-set_other}
use Rattle.nofs_disk.specs.Disk.{cell_at, no_cell}
use Rattle.nofs_disk.specs.declared.tag.Cell.{Cell}
use Rattle.nofs_disk.specs.declared.tag.Pointer.{Pointer}
use Rattle.nofs_super.specs.declared.superblock.SuperBlock.{SuperBlock}
use Rattle.nofs_inode.specs.InodeRecords.{record_at, free_record}
use Rattle.nofs_model.specs.Geometry.{Image, super_at, is_data_block, is_inode, inode}
use Rattle.nofs_model.proofs.OnSlots.Find.{and-both}
use Rattle.nofs_model.proofs.OnSound.Writes.{supers}
use Rattle.nofs_disk.specs.Order.{image_after}

in-table : (X : Image) (j : ℕ)
    → is_inode X j ≡ true → inode X j ≡ record_at (cell_at X (1 + (j - 1) / 4)).payload ((j - 1) % 4)
unfolding inode
in-table X j e = rw e refl

outside : (X : Image) (j : ℕ) → is_inode X j ≡ false → inode X j ≡ free_record
unfolding inode
outside X j e = rw e refl

-- where a block of the data area lies
pub data-place : (X : Image) (b : ℕ) → is_data_block X b ≡ true → (1 + (super_at X).inodes / 4 ≤ b)
    × (b < (super_at X).blocks)
data-place X b area =
    let p = and-both (leb (1 + (super_at X).inodes / 4) b) (ltb b (super_at X).blocks) area in
    (leb-true (1 + (super_at X).inodes / 4) b p.0, ltb-true b (super_at X).blocks p.1)

module _ (X : Image) (x : Pointer) (c : Cell) (whole : (super_at X).blocks ≤ length X)
    (quarters : (super_at X).inodes % 4 ≡ 0)
    (area : is_data_block X x.block ≡ true) where
  abbrev pub after : Image
  after = image_after ((x.block, c) ∷ []) X

  above : 1 + (super_at X).inodes / 4 ≤ x.block
  above = (data-place X x.block area).0

  below : x.block < (super_at X).blocks
  below = (data-place X x.block area).1

  pub here : cell_at after x.block ≡ c
  here = get_or-set_same X x.block c no_cell (let b = below in let w = whole in omega (arith, b, w))

  pub elsewhere : (b : ℕ) → b ≢ x.block → cell_at after b ≡ cell_at X b
  elsewhere b ne = get_or-set_other X x.block b c no_cell ne

  pub super-stays : cell_at after 0 ≡ cell_at X 0
  super-stays = elsewhere 0 (λ e. let a = above in omega (arith, a, e))

  pub records : (j : ℕ) → inode after j ≡ inode X j
  records j = go (is_inode X j) refl
    where
      range : is_inode after j ≡ is_inode X j
      range = ap (λ (q : SuperBlock). leb 1 j && leb j q.inodes) (supers X after super-stays)

      go : (b : Bool) → is_inode X j ≡ b → inode after j ≡ inode X j
      go false e = outside after j (range ∙ e) ∙ sym (outside X j e)
      go true e =
          let b = and-both (leb 1 j) (leb j (super_at X).inodes) e in
          let one = leb-true 1 j b.0 in
          let most = leb-true j (super_at X).inodes b.1 in
          in-table after j (range ∙ e) ∙ ap (λ (q : Cell). record_at q.payload ((j - 1) % 4))
          (elsewhere (1 + (j - 1) / 4) (λ n. let a = above in let q = quarters in omega (arith, a, one, most, q, n)))
          ∙ sym (in-table X j e)
