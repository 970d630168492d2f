-- Mounts of one device, with crashes and upgrades between them.
use Rattle.std.specs.Prelude.{◌≡◌, ◌≢◌, ◌⊎◌, ℕ, ◌<◌, ◌≤◌, IsTrue, Bool, true, false, List}
use Rattle.std.specs.Prelude.{[], ◌∷◌, ◌++◌, length, get_or, slice_set}
use Rattle.nofs_disk.specs.Disk.{DiskState, IsSameDisk, IsSettled, KeepsCells, Picks}
use Rattle.nofs_super.specs.Format.{IsFormatted, super_cell}
use Rattle.nofs_super.specs.Raise.{raised}
use Rattle.nofs_disk.specs.Pointer.{is_null}
use Rattle.nofs_ptrs.specs.Paths.{slot_limit}
use Rattle.nofs_model.specs.Geometry.{Image, inode, super_at}
use Rattle.nofs_model.specs.Slots.{record_pointer, value}
use Rattle.nofs_model.specs.declared.image.value.Value.TheVariants.{Bytes}
use Rattle.nofs_history.specs.Since.{agreed_files, is_generation}
use Rattle.nofs_history.specs.Faults.{has_fault}
use Rattle.nofs_history.specs.HistoryState.{HistoryState}
use Rattle.nofs_history.specs.Steps.{is_out_of_memory}
use Rattle.nofs_history.specs.declared.machine.history.Entry1.{Entry1}
use Rattle.nofs_history.specs.declared.machine.replies.Reply.{Reply}
use Rattle.nofs_history.specs.declared.machine.replies.Reply.TheVariants as reply
use Rattle.nofs_history.specs.declared.machine.steps.Step.TheVariants as step
use Rattle.nofs_history.specs.World.{World}
use Rattle.nofs_crashlaw.specs.Lives.{GivenBy, HasSuperCell, IsLife, Life, Lives, NextLife, Raised, Rising}
use Rattle.nofs_crashlaw.specs.Lives.{SameOrUpgraded, Upgraded, claimed_in}
use Rattle.nofs_shared.specs.Mount.End.{Ends}
use Rattle.nofs_shared.specs.Mount.Forms.{Forms}
use Rattle.nofs_shared.specs.Mount.Invariant.{IsSoundDisk}
use Rattle.nofs_shared.specs.Passes.Entries.{TellsStep}
use Rattle.nofs_upgrade.specs.Upgrades.{StaysOrUpgrades}

-- A mount that found a sound disk, and what it said at its end: `found` is the disk as the mount found it, `last` the
-- disk at its end
pub record Mount {D : Type 0} (state : D → DiskState) : Type 0 where
  pub found : D
  pub last : D
  pub first : ℕ
  pub history : HistoryState
  pub sound : ∥ IsSoundDisk (state found) ∥₁
  pub ends : ∥ Ends (state found) (state last) first history ∥₁

-- the disk that was found, with the mount number raised
abbrev pub base_of : {D : Type 0} {state : D → DiskState} → Mount state → Image
base_of {state = state} mount =
    slice_set (state mount.found).now 0 (super_cell (raised (super_at (state mount.found).now)))

-- its life, which ends in this world
abbrev pub life_in : {D : Type 0} {state : D → DiskState} → Mount state → World → Life
life_in mount W = record {
  base = base_of mount;
  first = mount.first;
  start = mount.history.start;
  history = mount.history.entries;
  end = W;
}

-- One mount after another

-- a crash of the mount may leave this image, at a moment since its flush or, where it made no step, at any
pub record Leaves {D : Type 0} {state : D → DiskState} (mount : Mount state) (X : Image) : Type 0 where
  pub moment : ℕ
  pub from : (state mount.found).moment ≤ moment
  pub to : moment ≤ (state mount.last).moment
  pub left : (state mount.last).left moment X
  pub flushed : (mount.history.start ≤ moment) ⊎ (mount.history.entries ≡ [])

-- Y is X, or X upgraded, with a superblock in block 0
abbrev pub SameOrSecond : Image → Image → Type 0
SameOrSecond X Y = (Y ≡ X) ⊎ (Upgraded X Y × HasSuperCell Y)

-- each image that the disk may hold is one that a crash of the mount may leave, which may be upgraded in between
abbrev pub ComesAfter : {D : Type 0} {state : D → DiskState} → Mount state → DiskState → Type 0
ComesAfter mount d = (Y : Image) → Picks d.may d.blocks Y → (X : Image) × Leaves mount X × SameOrSecond X Y

-- an image without contents whose mount number was not raised, as a format leaves it
pub record IsBlank (X : Image) : Type 0 where
  pub mount : (super_at X).mount ≡ 0
  pub empty : (i n : ℕ) → n < 10 → is_null (record_pointer (inode X i) n) ≡ true

-- each image that the disk may hold is such a one
abbrev pub IsBlankDisk : DiskState → Type 0
IsBlankDisk d = (X : Image) → Picks d.may d.blocks X → IsBlank X

-- A list of mounts, the last one first: the first of all found a formatted disk, each other one what a crash of the one
-- before may leave
abbrev pub Mounts : {D : Type 0} {state : D → DiskState} → List (Mount state) → Type 0
Mounts [] = Unit {0}
Mounts {state = state} (mount ∷ []) = IsBlankDisk (state mount.found)
Mounts {state = state} (mount ∷ before ∷ rest) = ComesAfter before (state mount.found) × Mounts (before ∷ rest)

-- What holds of them

-- the same lives, or one life more after them, without entries
abbrev pub OneEmptyMore : List Life → List Life → Type 0
OneEmptyMore rest lives = (lives ≡ rest) ⊎ ((l : Life) × (l.history ≡ []) × (lives ≡ l ∷ rest))

-- the lives of these mounts, in order: a mount without a step may have a life without entries in the place of its own,
-- or none
abbrev pub AreLives : {D : Type 0} {state : D → DiskState} → List (Mount state) → List Life → Type 0
AreLives [] lives = lives ≡ []
AreLives (mount ∷ mounts) lives = (rest : List Life) × AreLives mounts rest
    × (((W : World) × (lives ≡ life_in mount W ∷ rest)) ⊎ ((mount.history.entries ≡ []) × OneEmptyMore rest lives))

-- what these mounts claimed, in order
abbrev pub claimed_over : {D : Type 0} {state : D → DiskState} → List (Mount state) → List ℕ
claimed_over [] = []
claimed_over (mount ∷ mounts) = claimed_over mounts ++ claimed_in mount.history.entries

-- an entry of one of these mounts gave this content to slot k of (i, g)
abbrev pub GivenOver : {D : Type 0} {state : D → DiskState} → List (Mount state) → ℕ → ℕ → ℕ → List ℕ → Type 0
GivenOver [] i g k content = ⊥
GivenOver (mount ∷ mounts) i g k content =
    GivenBy (agreed_files (base_of mount)) mount.history.entries i g k (Bytes content) ⊎ GivenOver mounts i g k content

-- The laws

-- A mount is a life.
abbrev pub LawMountLife : {D : Type 0} → (D → DiskState) → Type 0
LawMountLife state = (mount : Mount state) → ∥ ((W : World) × IsLife (life_in mount W)) ∥₁

-- One that reads its disk as what a crash of another may leave since its flush is the life after it.
abbrev pub LawNextMount : {D : Type 0} → (D → DiskState) → Type 0
LawNextMount state =
    (before after : Mount state) (X : Image) (crash : Leaves before X) → before.history.start ≤ crash.moment
    → SameOrUpgraded X (state after.found).now
    → (W V : World) → ∥ NextLife (life_in before W) (life_in after V) ∥₁

-- the disk may hold this image, or one of which it is the raise
abbrev pub IsOfRaise : DiskState → Image → Type 0
IsOfRaise d X = Picks d.may d.blocks X ⊎ ((Y : Image) × Picks d.may d.blocks Y × Raised Y X × HasSuperCell X)

-- A crash inside the raise leaves an image that the disk could hold as it was found, or such a one with its mount
-- number one higher.
abbrev pub LawInRaise : {D : Type 0} → (D → DiskState) → Type 0
LawInRaise state = (mount : Mount state) (m : ℕ) (X : Image)
    → (state mount.found).moment ≤ m → m ≤ mount.history.start → (state mount.last).left m X
    → ∥ IsOfRaise (state mount.found) X ∥₁

-- A disk that tells and comes after a mount is found sound.
abbrev pub LawFoundSound : {D : Type 0} → (D → DiskState) → Type 0
LawFoundSound {D = D} state = (mount : Mount state) (d : D) → IsTrue (state d).tells → ComesAfter mount (state d)
    → ∥ IsSoundDisk (state d) ∥₁

-- What a format leaves on a disk that tells is blank.
abbrev pub LawFirstDisk : DiskState → DiskState → Type 0
LawFirstDisk old new = (blocks inodes : ℕ) → IsTrue old.tells → IsFormatted blocks inodes old new → IsSoundDisk new
    → IsBlankDisk new

-- A disk that holds one image, which a crash of the mount may leave, comes after the mount; it may be upgraded.
abbrev pub LawSettledAfter : {D : Type 0} → (D → DiskState) → Type 0
LawSettledAfter {D = D} state = (mount : Mount state) (d : D) (X : Image)
    → IsTrue (state d).tells → IsSettled (state d) → Leaves mount X
    → SameOrSecond X (state d).now → ComesAfter mount (state d)

-- So does one that comes after it when its cells stay.
abbrev pub LawKeptAfter : {D : Type 0} → (D → DiskState) → Type 0
LawKeptAfter {D = D} state = (mount : Mount state) (old new : D)
    → ComesAfter mount (state old) → IsSameDisk (state old) (state new) → KeepsCells (state old) (state new)
    → ComesAfter mount (state new)

-- the disk may hold this image after the upgrade, or a crash at a moment of it may leave the image
abbrev pub IsOfUpgrade : DiskState → DiskState → Image → Type 0
IsOfUpgrade old new X = Picks new.may new.blocks X ⊎ ((m : ℕ) × (old.moment ≤ m) × (m ≤ new.moment) × new.left m X)

-- And so does one that may hold what an upgrade of such a disk leaves, after it or in a crash of it.
abbrev pub LawUpgradedAfter : {D : Type 0} → (D → DiskState) → Type 0
LawUpgradedAfter {D = D} state = (mount : Mount state) (old new d : D) → ComesAfter mount (state old)
    → StaysOrUpgrades (state old) (state new)
    → ((X : Image) → Picks (state d).may (state d).blocks X → IsOfUpgrade (state old) (state new) X)
    → ComesAfter mount (state d)

-- Mounts with crashes between them are lives.
abbrev pub LawMountLives : {D : Type 0} → (D → DiskState) → Type 0
LawMountLives state = (mount : Mount state) (mounts : List (Mount state)) → Mounts (mount ∷ mounts)
    → ∥ ((W : World) × (lives : List Life) × AreLives mounts lives × Lives (life_in mount W ∷ lives)) ∥₁

-- No generation and no stamp is claimed twice over these mounts.
abbrev pub LawMountOnce : {D : Type 0} → (D → DiskState) → Type 0
LawMountOnce state = (mounts : List (Mount state)) → Mounts mounts
    → Rising 0 (claimed_over mounts) × ((a b d : ℕ) → a < b → b < length (claimed_over mounts)
    → get_or (claimed_over mounts) a d ≢ get_or (claimed_over mounts) b d)

-- Bytes in the base of a mount were given by an entry of an earlier one.
abbrev pub LawMountContents : {D : Type 0} → (D → DiskState) → Type 0
LawMountContents state = (later : List (Mount state)) (mount : Mount state) (earlier : List (Mount state))
    → Mounts (later ++ mount ∷ earlier)
    → (i g k : ℕ) (content : List ℕ) → k < slot_limit
    → is_generation (base_of mount) i g ≡ true → value (base_of mount) i k ≡ Bytes content
    → ∥ GivenOver earlier i g k content ∥₁

-- The last flush, over any disk: where a history of this form ends with a Flush of the whole disk that found memory,
-- and nothing failed in it, that flush was made
abbrev pub LawLastFlush : Type 0
LawLastFlush = (H K : List Entry1) (from to : ℕ) (last : Bool) (caller : ℕ) (r : Reply)
    → Forms from false K to last → TellsStep caller (step.Flush 0 0) H K r → is_out_of_memory r ≡ false
    → has_fault K ≡ false → r ≡ reply.Flushed
