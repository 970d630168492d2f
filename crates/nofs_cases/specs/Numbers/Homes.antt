-- Instances of the laws of homes and of numbers, each with all the premises of its law.
use Rattle.std.specs.Prelude.{◌≡◌, ◌^◌, [], ◌∷◌, Some, None}
use Rattle.nofs_inode.specs.declared.inode.FileKind.TheVariants.{File}
use Rattle.nofs_disk.specs.Pointer.{null}
use Rattle.nofs_model.specs.declared.image.value.Value.TheVariants.{Hole}
use Rattle.nofs_history.specs.Machine.{place_for}
use Rattle.nofs_history.specs.Claims.{IsClaim, no_claims}
use Rattle.nofs_history.specs.declared.machine.steps.Step.TheVariants as step
use Rattle.nofs_crashlaw.specs.Files.Puts.{PutLies, ClaimsPlaced}
use Rattle.nofs_crashlaw.specs.Homes.Entries.{EntryClaims}
use Rattle.nofs_crashlaw.specs.Numbers.Cells.{OldNumbers}
use Rattle.nofs_crashlaw.specs.Machine.Examples.{a, b}
use Rattle.nofs_cases.specs.Disks.Images.{first_image, put_image}
use Rattle.nofs_cases.specs.Disks.Worlds.{label_file, first_files, world, first_world, block_two}
use Rattle.nofs_cases.specs.Steps.Files.{put_places, put_claims}
use Rattle.nofs_cases.specs.Names.Disks.{name_image, name_files, link_files, name_world}
use Rattle.nofs_cases.specs.Names.Steps.{make_claims, MakeCase, RenameCase, LinkCase, DropNameCase, DropFileCase}

-- Homes

-- Make of a in the empty slot 0 of the root: the entry goes where the machine has it, into the claimed block.
abbrev pub MakeHomesCase : Type 0
MakeHomesCase = MakeCase × EntryClaims first_files make_claims 1 0 a (block_two 1) null
    × IsClaim first_world (step.Make 1 1 a File) make_claims

-- Link of b in entry 1, beside a: nothing is claimed.
abbrev pub LinkHomesCase : Type 0
LinkHomesCase = LinkCase × (place_for name_files 1 b ≡ Some 1)
    × IsClaim name_world (step.Link 1 1 b 3 (2 ^ 40)) no_claims

-- Rename of a to b.
abbrev pub RenameHomesCase : Type 0
RenameHomesCase = RenameCase × IsClaim name_world (step.Rename 1 1 a b) no_claims

-- Drop of b, where the file has another name.
abbrev pub DropNameHomesCase : Type 0
DropNameHomesCase = DropNameCase × IsClaim (world link_files (λ p. None) 2) (step.Drop 1 1 b) no_claims

-- Drop of a, the only name of its file.
abbrev pub DropFileHomesCase : Type 0
DropFileHomesCase = DropFileCase × IsClaim name_world (step.Drop 1 1 a) no_claims

-- Numbers

-- The same Make: each number on the formatted disk is below the next one.
abbrev pub MakeNumbersCase : Type 0
MakeNumbersCase = OldNumbers first_world first_image × MakeHomesCase

-- The same Link: so are those on the disk with one name.
abbrev pub LinkNumbersCase : Type 0
LinkNumbersCase = OldNumbers name_world name_image × LinkCase

-- The same Rename.
abbrev pub RenameNumbersCase : Type 0
RenameNumbersCase = OldNumbers name_world name_image × RenameCase

-- The same Drop.
abbrev pub DropNumbersCase : Type 0
DropNumbersCase = OldNumbers name_world name_image × DropFileCase

-- A Put of one byte, with a claimed block.
abbrev pub PutNumbersCase : Type 0
PutNumbersCase = OldNumbers first_world first_image
    × PutLies first_files first_image put_image 2 2 0 0 (7 ∷ []) (label_file 0 Hole) (2 ^ 40) put_places
    × ClaimsPlaced put_claims first_image 2 0 put_places
