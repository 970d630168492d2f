-- Runs with crashes between them.
use Rattle.std.specs.Prelude.{◌≡◌, ◌≢◌, ℕ, suc, ◌+◌, ◌^◌, ◌<◌, ◌≤◌, ◌⊎◌, true, Some, List, [], ◌∷◌, ◌++◌, length, map}
use Rattle.std.specs.Prelude.{get_or, if◌then◌else◌, ◌==◌, Contains}
use Rattle.nofs_history.specs.declared.machine.history.Claims.{Claims}
use Rattle.nofs_history.specs.declared.machine.history.Entry1.{Entry1}
use Rattle.nofs_history.specs.Machine.{given_by}
use Rattle.nofs_history.specs.Since.{agreed_files, files_along, values_given, is_generation}
use Rattle.nofs_history.specs.Allowed.{IsAllowed}
use Rattle.nofs_history.specs.World.{World, world_of}
use Rattle.nofs_history.specs.Claims.{claimed_blocks}
use Rattle.nofs_history.specs.Next.{Run}
use Rattle.nofs_history.specs.Good.{IsFresh}
use Rattle.nofs_disk.specs.declared.tag.Kind.TheVariants.{Super}
use Rattle.nofs_disk.specs.Pointer.{is_null}
use Rattle.nofs_disk.specs.Tag.{tag_of}
use Rattle.nofs_ptrs.specs.Paths.{slot_limit}
use Rattle.nofs_super.specs.Super.{is_super}
use Rattle.nofs_model.specs.Geometry.{Image, super_at, inode}
use Rattle.nofs_disk.specs.Disk.{cell_at}
use Rattle.nofs_model.specs.Slots.{record_pointer, value}
use Rattle.nofs_model.specs.Files.{Files, files_in, agreed}
use Rattle.nofs_model.specs.Owners.{is_used_inode, is_used_block}
use Rattle.nofs_model.specs.Sound.{IsSound}
use Rattle.nofs_model.specs.declared.image.value.Value.TheVariants.{Bytes}
use Rattle.nofs_model.specs.declared.image.value.Value.{Value}

-- A life: its base, which is the disk as the mount's flush left it, with the raised number; the entries until the
-- crash; and the world at its end. A life that ended inside the raise of its mount number has no entries.
pub record Life : Type 0 where
  pub base : Image
  pub first : ℕ
  pub start : ℕ
  pub history : List Entry1
  pub end : World

abbrev pub IsLife : Life → Type 0
IsLife l = Run l.start (world_of l.base l.first) l.history l.end

-- a formatted disk with its mount number raised to one
pub record IsNew (B : Image) : Type 0 where
  pub mount : (super_at B).mount ≡ 1
  pub empty : (i n : ℕ) → n < 10 → is_null (record_pointer (inode B i) n) ≡ true

-- Y differs from X in block 0 alone, and has as many blocks and inodes
pub record OnlySuper (X Y : Image) : Type 0 where
  pub size : length Y ≡ length X
  pub others : (b : ℕ) → b ≢ 0 → cell_at Y b ≡ cell_at X b
  pub blocks : (super_at Y).blocks ≡ (super_at X).blocks
  pub inodes : (super_at Y).inodes ≡ (super_at X).inodes

-- Y is X with its mount number one higher
pub record Raised (X Y : Image) : Type 0 where
  pub only : OnlySuper X Y
  pub version : (super_at Y).version ≡ (super_at X).version
  pub mount : (super_at Y).mount ≡ (super_at X).mount + 1

-- Y is X of version 1 with version 2
pub record Upgraded (X Y : Image) : Type 0 where
  pub only : OnlySuper X Y
  pub before : (super_at X).version ≡ 1
  pub after : (super_at Y).version ≡ 2
  pub mount : (super_at Y).mount ≡ (super_at X).mount

-- the image is X, or X upgraded
abbrev pub SameOrUpgraded : Image → Image → Type 0
SameOrUpgraded X Y = (Y ≡ X) ⊎ Upgraded X Y

-- the second life begins at an image that a crash of the first may leave, which may be upgraded in between
pub record NextLife (before after : Life) : Type 0 where
  pub moment : ℕ
  pub left : Image
  pub found : Image
  pub allowed : IsAllowed before.base before.history moment left
  pub between : SameOrUpgraded left found
  pub raised : Raised found after.base

-- a list of lives, the last one first
abbrev pub Lives : List Life → Type 0
Lives [] = Unit {0}
Lives (l ∷ []) = IsNew l.base × IsLife l
Lives (l ∷ k ∷ ls) = NextLife k l × IsLife l × Lives (k ∷ ls)

-- an entry of one of these lives gave this content to slot k of (i, g)
abbrev pub GivenIn : List Life → ℕ → ℕ → ℕ → List ℕ → Type 0
GivenIn [] i g k content = ⊥
GivenIn (l ∷ ls) i g k content = Contains (values_given (agreed_files l.base) l.history i g k) (Bytes content)
    ⊎ GivenIn ls i g k content

-- the generation and the stamps that were claimed, in order
abbrev pub numbers_of : Claims → List ℕ
numbers_of c = (if c.inode == 0 then [] else c.generation ∷ []) ++ map (λ x. x.stamp) (claimed_blocks c)

abbrev pub claimed_in : List Entry1 → List ℕ
claimed_in [] = []
claimed_in (e ∷ es) = numbers_of e.claims ++ claimed_in es

abbrev pub claimed_by : List Life → List ℕ
claimed_by [] = []
claimed_by (l ∷ ls) = claimed_by ls ++ claimed_in l.history

-- each number is above the ones before it
abbrev pub Rising : ℕ → List ℕ → Type 0
Rising low [] = Unit {0}
Rising low (x ∷ xs) = (low ≤ x) × Rising (suc x) xs

-- Bytes in a base were given by an entry of an earlier life.
abbrev pub LawLives : Type 0
LawLives = (later : List Life) (l : Life) (earlier : List Life) → Lives (later ++ l ∷ earlier)
    → (i g k : ℕ) (content : List ℕ) → k < slot_limit → is_generation l.base i g ≡ true
    → value l.base i k ≡ Bytes content → GivenIn earlier i g k content

-- No generation and no stamp is claimed twice, in all lives together.
abbrev pub LawOnce : Type 0
LawOnce = (ls : List Life) → Lives ls → Rising 0 (claimed_by ls) × ((a b d : ℕ) → a < b → b < length (claimed_by ls)
    → get_or (claimed_by ls) a d ≢ get_or (claimed_by ls) b d)

-- One entry, after those before it, gave this value.
pub record GivenBy (F : Files) (H : List Entry1) (i g k : ℕ) (v : Value) : Type 0 where
  pub before : List Entry1
  pub entry : Entry1
  pub after : List Entry1
  pub parts : H ≡ before ++ entry ∷ after
  pub gives : (given_by (files_along F before) entry).slots i g k ≡ Some v

abbrev pub LawGiven : Type 0
LawGiven = (F : Files) (H : List Entry1) (i g k : ℕ) (v : Value) → Contains (values_given F H i g k) v
    → GivenBy F H i g k v

-- block 0 is spelled as a superblock, payload and tag
pub record HasSuperCell (X : Image) : Type 0 where
  pub payload : is_super (cell_at X 0).payload ≡ true
  pub tag : tag_of (cell_at X 0).tag ≡ Some (record { kind = Super; inode = 0; generation = 0; slot = 0; stamp = 0 })

-- A base whose image before was sound is sound, and fresh for its first world.
abbrev pub LawBegin : Type 0
LawBegin = (X Y : Image) (first : ℕ) → IsSound X → Raised X Y → HasSuperCell Y → (super_at Y).mount < 2 ^ 24
    → IsSound Y × IsFresh (world_of Y first) Y (λ b. cell_at Y b ∷ [])

-- A sound image that is upgraded is sound.
abbrev pub LawUpgraded : Type 0
LawUpgraded = (X Y : Image) → IsSound X → Upgraded X Y → HasSuperCell Y → IsSound Y

-- What an image says of files, owners and verdicts, block 0 does not change.
pub record SaysTheSame (X Y : Image) : Type 0 where
  pub records : (i : ℕ) → inode Y i ≡ inode X i
  pub values : (i k : ℕ) → value Y i k ≡ value X i k
  pub files : (i : ℕ) → files_in Y i ≡ files_in X i
  pub agreed : (i : ℕ) → agreed (files_in Y) i ≡ agreed (files_in X) i
  pub inodes : (i : ℕ) → is_used_inode Y i ≡ is_used_inode X i
  pub blocks : (p : ℕ) → is_used_block Y p ≡ is_used_block X p

abbrev pub LawOnlySuper : Type 0
LawOnlySuper = (X Y : Image) → OnlySuper X Y → SaysTheSame X Y
