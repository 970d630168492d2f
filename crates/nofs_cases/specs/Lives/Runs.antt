-- Small instances of the laws of lives.
use Rattle.std.specs.Prelude.{◌≡◌, ℕ, true, List, [], ◌∷◌, ◌++◌, replicate}
use Rattle.nofs_model.specs.Geometry.{Image, is_mountable}
use Rattle.nofs_history.specs.World.{World, world_of}
use Rattle.nofs_history.specs.declared.machine.history.Entry1.{Entry1}
use Rattle.nofs_history.specs.declared.machine.steps.Step.{Step}
use Rattle.nofs_crashlaw.specs.Lives.{IsNew, Upgraded, Raised, Lives}
use Rattle.nofs_cases.specs.Disks.Images.{z, blank}

-- the superblock of 16 blocks and 4 inodes, version 1, mount number 1
abbrev pub super_bytes : List ℕ
super_bytes = 78 ∷ 111 ∷ 70 ∷ 83 ∷ 118 ∷ 48 ∷ 48 ∷ 49 ∷ 1 ∷ z 3 ++ z 4 ++ 16 ∷ z 7 ++ 4 ∷ z 7 ++ 1 ∷ z 7 ++ z 984

-- the root, of generation 1, and the label file, of generation 2, and two free records
abbrev pub table_bytes : List ℕ
table_bytes = 1 ∷ z 7 ++ 2 ∷ z 3 ++ z 244 ++ 2 ∷ z 7 ++ 1 ∷ z 3 ++ z 244 ++ z 512

-- a formatted disk whose mount number was raised to 1
abbrev pub disk : Image
disk = record { payload = super_bytes; tag = 5 ∷ z 31 } ∷ record { payload = table_bytes; tag = 4 ∷ z 15 ++ 1 ∷ z 15 }
    ∷ replicate 14 blank

abbrev pub NewDisk : Type 0
NewDisk = (is_mountable disk ≡ true) × IsNew disk

-- From a new disk any step can be taken, a crash may lose it, and after an upgrade the next life begins.
abbrev pub TwoLives : Type 0
TwoLives = (B found Y : Image) (s : Step) → IsNew B → Upgraded B found → Raised found Y
    → (e : Entry1) × (V : World) × (e.step ≡ s)
    × Lives (record { base = Y; first = 0; start = 4; history = []; end = world_of Y 0 } ∷ record {
      base = B;
      first = 0;
      start = 4;
      history = e ∷ [];
      end =
          V;
    } ∷ [])

-- A mount that ended inside its raise is a life with an empty history, and the next one begins at its base.
abbrev pub EarlyLife : Type 0
EarlyLife = (B Y : Image) → IsNew B → Raised B Y
    → Lives (record { base = Y; first = 0; start = 4; history = []; end = world_of Y 0 } ∷ record {
      base = B;
      first = 0;
      start = 4;
      history = [];
      end =
          world_of B 0;
    } ∷ [])
