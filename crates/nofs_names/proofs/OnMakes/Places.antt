-- Where the blocks and the entry of a Make lie, and what its claims leave.
use Rattle.std.proofs.Common.{◌≡◌, ◌≢◌, ℕ, ◌+◌, ◌-◌, ◌*◌, ◌/◌, ◌^◌, ◌<◌, ◌≤◌, Bool, true, false, ltb, ltb-true, ◌||◌}
use Rattle.std.proofs.Common.{List, is_some, refl, ap, arith}
use Rattle.nofs_dirent.specs.Entries.{entry_limit}
use Rattle.nofs_bits.specs.Bits.{is_set}
use Rattle.nofs_disk.specs.Disk.{DiskState, StaysButFaults}
use Rattle.nofs_dirent.specs.Names.{NameOk}
use Rattle.nofs_inode.specs.InodeRecords.{HasRecordSpelling}
use Rattle.nofs_disk.specs.declared.tag.Pointer.{Pointer}
use Rattle.nofs_inode.specs.declared.inode.Record.{Record}
use Rattle.nofs_super.specs.declared.superblock.SuperBlock.{SuperBlock}
use Rattle.nofs_model.specs.Places.{InArea}
use Rattle.nofs_model.specs.declared.image.path.PathAnswer.TheVariants as answer
use Rattle.nofs_agree.specs.Reads.{KnowsDirectory}
use Rattle.nofs_state.specs.Books.Maps.{IsSafe, made_books}
use Rattle.nofs_state.specs.declared.books.maps.Books.{Books}
use Rattle.nofs_names.specs.Entries.Places.{AreFree, FitsSlot, slot_blocks}
use Rattle.nofs_names.specs.declared.entries.places.EntrySlot.{EntrySlot}
use Rattle.nofs_names.specs.declared.entries.places.EntrySlot.TheVariants.{Held as HeldSlot, Direct as DirectHole}
use Rattle.nofs_names.specs.declared.entries.places.EntrySlot.TheVariants.{UnderLeaf as HoleUnder, WithLeaf as HoleWith}
use Rattle.nofs_names.specs.Entries.Writes.{MayEnter}
use Rattle.nofs_names.specs.Makes.{is_raised}
use Rattle.nofs_names.proofs.OnSteps.Reads.{directory-on}
use Rattle.nofs_names.specs.declared.entries.writes.EntryPlace.{EntryPlace}

pub in-data : (at : SuperBlock) (x : Pointer) → InArea at (answer.Holds x) → 0 ≢ x.block
in-data at x area e = let a = area.0 in omega (arith, a, e)

pub free-above : (d : DiskState) (k : Books) (b : ℕ) → IsSafe d k → is_set k.free_blocks b ≡ true → 0 ≢ b
free-above d k b safe free e = let a = safe.in_area b free in omega (arith, a, e)

-- a free block is none of the first
pub free-positive : (d : DiskState) (k : Books) (b : ℕ) → IsSafe d k → is_set k.free_blocks b ≡ true → 0 < b
free-positive d k b safe free = let a = safe.in_area b free in omega (arith, a)

pub no-table : (i : ℕ) → 0 ≢ 1 + (i - 1) / 4
no-table i e = omega (arith, e)

-- the next stamp is not 0
pub raised-stamp : (k : Books) → is_raised k ≡ true → 1 ≤ k.at.mount * 2 ^ 40 + k.serial
raised-stamp k e = go (ltb 0 k.at.mount) refl (ltb 0 k.serial) refl e
  where
    go : (a : Bool) → ltb 0 k.at.mount ≡ a → (b : Bool)
        → ltb 0 k.serial ≡ b → (a || b) ≡ true → 1 ≤ k.at.mount * 2 ^ 40 + k.serial
    go true ea b eb t = let q = ltb-true 0 k.at.mount ea in omega (arith, q)
    go false ea true eb t = let q = ltb-true 0 k.serial eb in omega (arith, q)
    go false ea false eb t = cc t

pub few-blocks : (s : EntrySlot) → slot_blocks s ≤ 2
few-blocks (HeldSlot x) = omega arith
few-blocks DirectHole = omega arith
few-blocks (HoleUnder y) = omega arith
few-blocks HoleWith = omega arith

-- what the inode's claim leaves for the entry
pub may-enter : (old mid : DiskState) (k : Books) (d : ℕ) (dr : Record) (p : EntryPlace) (i : ℕ) (name : List ℕ)
    (new : Record) → StaysButFaults old mid
    → KnowsDirectory old k.at d dr.generation dr → p.entry < entry_limit → FitsSlot k.at (p.entry / 16) p.slot
    → AreFree k.free_blocks (slot_blocks p.slot) p.blocks
    → k.serial + 1 + slot_blocks p.slot ≤ 2 ^ 40 → is_raised k ≡ true → 1 ≤ i → i ≤ k.at.inodes → NameOk name
    → HasRecordSpelling new
    → MayEnter mid (made_books k i) d dr p.entry p.slot p.blocks
    (record { inode = i; generation = k.at.mount * 2 ^ 40 + k.serial; name = name }) new
may-enter old mid k d dr p i name new stays directory range fits free stamps raised above within ok spelling = record {
  directory = directory-on old mid stays k.at d dr.generation dr directory;
  range = range;
  fits = fits;
  free = free;
  stamps = stamps;
  one = above;
  most = within;
  spelling = record { inode = above; generation = raised-stamp k raised; name = ok };
  new_spelling = spelling;
}

-- the cells of the table lie on the disk
pub table-fits : (d : DiskState) (k : Books) (i : ℕ) → IsSafe d k → 1 ≤ i → i ≤ k.at.inodes → 1 + (i - 1) / 4 < d.blocks
table-fits d k i safe low high =
    let m = safe.at.geometry.multiple in
    let t = safe.at.geometry.table in
    let f = safe.at.geometry.fits in
    omega (arith, low, high, m, t, f)

pub directory-range : (d : DiskState) (at : SuperBlock) (i g : ℕ) (r : Record) → KnowsDirectory d at i g r
    → (1 ≤ i) × (i ≤ at.inodes)
directory-range d at i g r is = is.known.range (ap is_some is.kind)
