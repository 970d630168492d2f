-- What a raised mount number leaves of a sound image.
use Rattle.std.proofs.Common.{◌≡◌, ◌≢◌, ℕ, ◌<◌, true, ◌&&◌, List, length, set, ap, ◌∙◌, arith}
use Rattle.std.specs.Prelude.{is_none, slice_set}
use Rattle.std.proofs.lemmas.Bool.{and_parts}
use Rattle.std.proofs.lemmas.List.{get_or-set_same, get_or-set_other, length-set}
use Rattle.nofs_disk.specs.Disk.{no_cell, cell_at}
use Rattle.nofs_super.specs.Format.{super_cell, super_payload}
use Rattle.nofs_super.specs.Raise.{raised}
use Rattle.nofs_super.specs.Spelling.{super_of-payload}
use Rattle.nofs_super.specs.Super.{has_magic, is_version, rest_fault, super_in, is_super}
use Rattle.nofs_disk.specs.declared.tag.Cell.{Cell}
use Rattle.nofs_super.specs.declared.superblock.SuperBlock.{SuperBlock}
use Rattle.nofs_disk.specs.Tag.{tag_of}
use Rattle.nofs_model.specs.Geometry.{Image, super_at}
use Rattle.nofs_model.specs.Sound.{IsSound}
use Rattle.nofs_model.proofs.OnSound.Writes.{mountable-law}
use Rattle.nofs_model.proofs.OnGeometry.Super.{Spells, spells, version-small, super-tag}
use Rattle.nofs_crashlaw.specs.Lives.{HasSuperCell, Raised}

version-of : (payload : List ℕ) → is_super payload ≡ true → is_version (super_in payload).version ≡ true
unfolding is_super
version-of payload e =
    let numbers =
    (and_parts (has_magic payload) (is_version (super_in payload).version && is_none (rest_fault payload)) e).1 in
    (and_parts (is_version (super_in payload).version) (is_none (rest_fault payload)) numbers).0

-- the superblock of a sound image, raised
module _ (X : Image) (sound : IsSound X) where
  abbrev it : SuperBlock
  it = super_at X

  version : is_version it.version ≡ true
  unfolding super_at
  version = version-of (cell_at X 0).payload ((mountable-law X).1 sound.mountable).spelled

  raised-spells : Spells (super_cell (raised it)).payload (raised it)
  unfolding super_cell
  raised-spells =
      let g = ((mountable-law X).1 sound.mountable).fits in
      let b = g.most_blocks in
      let i = g.most_inodes in
      let m = sound.mount in
      spells (super_payload (raised it)) (raised it)
      (super_of-payload (raised it) (version-small it.version version) (omega (arith, b)) (omega (arith, i))
      (omega (arith, m)) version)

  pub some : 0 < length X
  some = let g = ((mountable-law X).1 sound.mountable).fits in let a = g.some_blocks in let b = g.fits in
      omega (arith, a, b)

  module _ (Y : Image) (first : cell_at Y 0 ≡ super_cell (raised it)) where
    numbers-are : super_at Y ≡ raised it
    unfolding super_at
    numbers-are = ap (λ (c : Cell). super_in c.payload) first ∙ raised-spells.numbers

    pub has-cell : HasSuperCell Y
    has-cell = record {
      payload = ap (λ (c : Cell). is_super c.payload) first ∙ raised-spells.spelled;
      tag = ap (λ (c : Cell). tag_of c.tag) first ∙ super-tag (raised it);
    }

    pub is-raised : length Y ≡ length X → ((b : ℕ) → b ≢ 0 → cell_at Y b ≡ cell_at X b) → Raised X Y
    is-raised size others = record {
      only = record {
        size = size;
        others = others;
        blocks = ap (λ (q : SuperBlock). q.blocks) numbers-are;
        inodes =
            ap (λ (q : SuperBlock). q.inodes) numbers-are;
      };
      version = ap (λ (q : SuperBlock). q.version) numbers-are;
      mount = ap (λ (q : SuperBlock). q.mount) numbers-are;
    }

  set-first : cell_at (set X 0 (super_cell (raised it))) 0 ≡ super_cell (raised it)
  set-first = get_or-set_same X 0 (super_cell (raised it)) no_cell some

  -- the image with this cell
  pub raised-of : (Y : Image) → Y ≡ slice_set X 0 (super_cell (raised it)) → Raised X Y
  raised-of Y e =
      is-raised Y (ap (λ (Z : Image). cell_at Z 0) e ∙ set-first)
      (ap (λ (Z : Image). length Z) e ∙ length-set X 0 (super_cell (raised it)))
      (λ b ne. ap (λ (Z : Image). cell_at Z b) e ∙ get_or-set_other X 0 b (super_cell (raised it)) no_cell ne)
