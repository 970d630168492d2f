-- What the cell of a superblock spells.
use Rattle.std.proofs.Common.{◌≡◌, ℕ, ◌^◌, ◌<◌, Bool, true, false, cond, ◌||◌, eqb, eqb-true, List, Some, None, refl}
use Rattle.std.proofs.Common.{arith}
use Rattle.nofs_disk.specs.OneSpelling.{SpellsTag-tag_bytes, tag_of-spells}
use Rattle.nofs_disk.specs.Tag.{tag_bytes, tag_of}
use Rattle.nofs_super.specs.Format.{super_cell}
use Rattle.nofs_super.specs.Super.{is_version, super_of, super_in, is_super}
use Rattle.nofs_disk.specs.declared.tag.Kind.TheVariants.{Super}
use Rattle.nofs_super.specs.declared.superblock.SuperBlock.{SuperBlock}
use Rattle.nofs_disk.specs.declared.tag.Tag.{Tag}

-- a payload that spells a superblock has its numbers
pub record Spells (payload : List ℕ) (it : SuperBlock) : Type 0 where
  pub spelled : is_super payload ≡ true
  pub numbers : super_in payload ≡ it

pub spells : (payload : List ℕ) (it : SuperBlock) → super_of payload ≡ Some it → Spells payload it
unfolding super_of
spells payload it e = go (is_super payload) refl e
  where
    some-super : (a b : SuperBlock) → Some a ≡ Some b → a ≡ b
    some-super a b h = cc h

    go : (b : Bool) → is_super payload ≡ b → cond b (Some (super_in payload)) None ≡ Some it → Spells payload it
    go true eb h = record { spelled = eb; numbers = some-super (super_in payload) it h }
    go false eb h = cc h

-- a version fits its four bytes
pub version-small : (v : ℕ) → is_version v ≡ true → v < 2 ^ 32
version-small v e = go (eqb v 1) refl (eqb v 2) refl e
  where
    go : (a : Bool) → eqb v 1 ≡ a → (b : Bool) → eqb v 2 ≡ b → (a || b) ≡ true → v < 2 ^ 32
    go true ea b eb h = let q = eqb-true v 1 ea in omega (arith, q)
    go false ea true eb h = let q = eqb-true v 2 eb in omega (arith, q)
    go false ea false eb h = cc

-- the tag of a superblock
abbrev pub super_tag : Tag
super_tag = record { kind = Super; inode = 0; generation = 0; slot = 0; stamp = 0 }

tag-spelled : tag_of (tag_bytes super_tag) ≡ Some super_tag
tag-spelled =
    tag_of-spells (tag_bytes super_tag) super_tag
    (SpellsTag-tag_bytes super_tag
    (record { inode = omega arith; generation = omega arith; slot = omega arith; stamp = omega arith }) tt)

pub super-tag : (it : SuperBlock) → tag_of (super_cell it).tag ≡ Some super_tag
unfolding super_cell
super-tag it = tag-spelled
