-- What Link asks of its parts.
use Rattle.std.specs.Prelude.{◌≡◌, ℕ, ◌/◌, ◌<◌, Bool, true, not, List, [], ◌∷◌, ◌++◌, Option, Some, None, IsTrue}
use Rattle.std.specs.Prelude.{Result, Ok, Err, IfOk, IfErr, IfSome, OnOk, OnErr, slice_set}
use Rattle.nofs_disk.specs.Disk.{DiskState, StaysButFaults, Rose}
use Rattle.nofs_disk.specs.declared.Failed.{Failed}
use Rattle.nofs_inode.specs.declared.inode.FileKind.TheVariants as kind
use Rattle.nofs_dirent.specs.Entries.{entry_limit, spelled_entry}
use Rattle.nofs_dirent.specs.EntryLaws.{Spells}
use Rattle.nofs_dirent.specs.Names.{is_name}
use Rattle.nofs_inode.specs.declared.inode.BackLink.{BackLink}
use Rattle.nofs_dirent.specs.declared.entry.Entry.{Entry}
use Rattle.nofs_inode.specs.declared.inode.FileKind.{FileKind}
use Rattle.nofs_inode.specs.declared.inode.Record.{Record}
use Rattle.nofs_super.specs.declared.superblock.SuperBlock.{SuperBlock}
use Rattle.nofs_model.specs.Geometry.{Image}
use Rattle.nofs_model.specs.Files.{Files, files_in}
use Rattle.nofs_history.specs.Machine.{link_place, place_for}
use Rattle.nofs_history.specs.Search.{first_of}
use Rattle.nofs_history.specs.Machine as machine
use Rattle.nofs_history.specs.World.{World}
use Rattle.nofs_history.specs.Refusals.{directory_full, full, is_directory, not_directory, rows, serials_spent, stale}
use Rattle.nofs_history.specs.Refusals.{too_many_links}
use Rattle.nofs_history.specs.History.{FilesMatch}
use Rattle.nofs_history.specs.declared.machine.history.Entry1.{Entry1}
use Rattle.nofs_history.specs.declared.machine.steps.Step.{Step}
use Rattle.nofs_history.specs.declared.machine.steps.Step.TheVariants as step
use Rattle.nofs_history.specs.declared.machine.replies.Refusal.{Refusal}
use Rattle.nofs_history.specs.declared.machine.replies.Refusal.TheVariants as refusal
use Rattle.nofs_history.specs.declared.machine.replies.Reply.TheVariants as reply
use Rattle.nofs_agree.specs.Reads.{IsLast, KnowsDirectory, KnowsInode}
use Rattle.nofs_agree.specs.Chain.{AreTrue, is_agreed_link}
use Rattle.nofs_agree.specs.declared.reads.LastRead.{LastRead}
use Rattle.nofs_state.specs.Cores.Invariant.{IsOpen, Past}
use Rattle.nofs_state.specs.Cores.Steps.{Goes}
use Rattle.nofs_state.specs.declared.books.maps.Books.{Books}
use Rattle.nofs_names.specs.Entries.Places.{IsEntrySlot, IsSlotCell}
use Rattle.nofs_names.specs.Searches.Refusals.{Fails, IsThere, KnownTrue, PartPasses, exists_rows}
use Rattle.nofs_state.specs.Writes.Premises.{RowsPass}
use Rattle.nofs_state.specs.declared.writes.ends.Ended.{Ended}
use Rattle.nofs_names.specs.declared.searches.directories.NameIn.{NameIn}
use Rattle.nofs_names.specs.Renames.Parts.{done_answer}
use Rattle.nofs_names.specs.declared.entries.writes.EntryPlace.{EntryPlace}
use Rattle.nofs_names.specs.declared.links.new_name.Both.{Both}
use Rattle.nofs_names.specs.declared.links.new_name.NewName.{NewName}

-- the rows of a directory and a file, the directory's generation before the file's
abbrev pub both_rows : ℕ → ℕ → ℕ → ℕ → World → List (Option Refusal)
both_rows d g i of W = stale W d g ∷ stale W i of ∷ not_directory W d ∷ is_directory W i ∷ []

-- the record of a file was read
abbrev pub KnowsFile : DiskState → SuperBlock → ℕ → Record → Type 0
KnowsFile d at i r = KnowsInode d at i r × (r.kind ≡ Some kind.File)

-- a directory and a file are there
pub record AreBoth (d : DiskState) (at : SuperBlock) (i g j of : ℕ) (b : Both) : Type 0 where
  pub directory : KnowsDirectory d at i b.directory.generation b.directory
  pub file : KnowsFile d at j b.file
  pub generation : b.directory.generation ≡ g
  pub of_is : b.file.generation ≡ of

pub record OpensBoth (old new : DiskState) (k : Books) (d g i of : ℕ) (result : Result Both Refusal) : Type 0 where
  pub stays : StaysButFaults old new
  pub no_fault : OnOk result (new.faults ≡ old.faults)
  pub known : IfOk result (AreBoth new k.at d g i of)
  pub there : OnOk result (IsTrue old.tells → KnownTrue k old.now → IsThere d old.now × IsThere i old.now)
  pub passes : OnOk result (PartPasses old (KnownTrue k) (both_rows d g i of))
  pub refused : IfErr result (Fails old new (KnownTrue k) (both_rows d g i of))

-- both of these kinds
abbrev pub both_as : FileKind → FileKind → Record → Record → Result Both Refusal
both_as kind.File q d f = Err refusal.NotDirectory
both_as kind.Directory kind.Directory d f = Err refusal.IsDirectory
both_as kind.Directory kind.File d f = Ok (record { directory = d; file = f })

-- The place of the back link

-- the first place of a link that is no pair with an agreed directory
abbrev pub dead_place : Image → ℕ → List BackLink → Option ℕ
dead_place X i links = machine.place_for_link (λ link. not (is_agreed_link (files_in X) i link)) links 0

pub record TellsDeadPlace (old new : DiskState) (known : List (Option Bool)) (i : ℕ) (r : Record) (last : LastRead)
    (result : Result (Option ℕ) Failed)
    : Type 0 where
  pub stays : StaysButFaults old new
  pub no_fault : OnOk result (new.faults ≡ old.faults)
  pub range : IfOk result (λ o. IfSome o (λ b. b < 4))
  pub found : IfOk result (λ o. IsTrue old.tells → AreTrue old.now known → o ≡ dead_place old.now i r.links)
  pub kept : OnOk result (IsLast new last)
  pub cause : OnErr result (Rose old.faults new.faults)

abbrev pub place_or_many : Option ℕ → Result ℕ Refusal
place_or_many None = Err refusal.TooManyLinks
place_or_many (Some b) = Ok b

-- what the place of a back link is given
abbrev pub IsKnown : List (Option Bool) → ℕ → Image → Type 0
IsKnown known i X = AreTrue X known × IsThere i X

abbrev pub many_rows : ℕ → World → List (Option Refusal)
many_rows i W = too_many_links W i ∷ []

pub record FindsLinkPlace (old new : DiskState) (known : List (Option Bool)) (i : ℕ) (last : LastRead)
    (result : Result ℕ Refusal) : Type 0 where
  pub stays : StaysButFaults old new
  pub no_fault : OnOk result (new.faults ≡ old.faults)
  pub range : IfOk result (λ b. b < 4)
  pub found : IfOk result
      (λ b. IsTrue old.tells → IsKnown known i old.now → (F : Files) → FilesMatch F old.now → link_place F i ≡ Some b)
  pub kept : OnOk result (IsLast new last)
  pub refused : IfErr result (Fails old new (IsKnown known i) (many_rows i))

-- the record with a back link in a place
abbrev pub with_link : Record → ℕ → BackLink → Record
with_link r b link = record r { links = slice_set r.links b link }

-- Link, part by part

-- no row before these refuses
abbrev pub Leads : DiskState → Books → Step → (World → World → List (Option Refusal)) → Type 0
Leads d k s rest = IsTrue d.tells → (H : List Entry1) (p : Past) → IsOpen d k H p
    → (V : World) → first_of (rows p.world V s) ≡ first_of (rest p.world V)

-- the rows of blocks and stamps, those of a new entry before them, and those of its name and the back link
abbrev pub block_rows : Step → World → World → List (Option Refusal)
block_rows s W V = full W V s ∷ serials_spent W s ∷ []

abbrev pub place_rows : ℕ → List ℕ → World → List (Option Refusal)
place_rows d name W = directory_full W d name ∷ []

abbrev pub new_rows : ℕ → List ℕ → Step → World → World → List (Option Refusal)
new_rows d name s W V = place_rows d name W ++ block_rows s W V

abbrev pub named_rows : ℕ → List ℕ → ℕ → Step → World → World → List (Option Refusal)
named_rows d name i s W V = exists_rows d name W ++ (many_rows i W ++ new_rows d name s W V)

-- a directory and a file are there, and the name is one
pub record StandsLink (d : DiskState) (k : Books) (i g : ℕ) (name : List ℕ) (j of : ℕ) (b : Both) : Type 0 where
  pub known : AreBoth d k.at i g j of b
  pub there : IsTrue d.tells → KnownTrue k d.now → IsThere i d.now × IsThere j d.now
  pub name_is : is_name name ≡ true

-- the places of the entry and of the back link
abbrev pub PlaceIs : DiskState → Books → ℕ → List ℕ → ℕ → Type 0
PlaceIs d k i name e = IsTrue d.tells → (H : List Entry1) (p : Past) → IsOpen d k H p
    → place_for p.world.files i name ≡ Some e

abbrev pub SpotIs : DiskState → Books → ℕ → ℕ → Type 0
SpotIs d k j b = IsTrue d.tells → (H : List Entry1) (p : Past) → IsOpen d k H p → link_place p.world.files j ≡ Some b

-- the step, by what it was given and by the entry that it writes, and what it leaves and answers
abbrev pub link_step : NewName → Step
link_step new = step.Link new.at.directory new.at.generation new.at.name.now new.inode new.of

abbrev pub entry_step : NameIn → Entry → Step
entry_step at it = step.Link at.directory at.generation it.name it.inode it.generation

abbrev pub LinkEnds : DiskState → Books → DiskState → Books → Step → Ended → Type 0
LinkEnds old k new l s ended = Goes old k new l s ended.claims (done_answer reply.Linked ended.result)

abbrev pub LinkGoes : DiskState → Books → DiskState → Books → NewName → Ended → Type 0
LinkGoes old k new l name ended = LinkEnds old k new l (link_step name) ended

-- both places were found
pub record HasPlaces (d : DiskState) (k : Books) (new : NewName) (b e : ℕ) : Type 0 where
  pub place : PlaceIs d k new.at.directory new.at.name.now e
  pub entry : e < entry_limit
  pub spot : SpotIs d k new.inode b
  pub link : b < 4

-- what Link knows before it writes
pub record MayLink (b : DiskState) (k : Books) (d g : ℕ) (both : Both) (p : EntryPlace) (it : Entry)
    (spot : ℕ) : Type 0 where
  pub known : AreBoth b k.at d g it.inode it.generation both
  pub there : IsTrue b.tells → KnownTrue k b.now → IsThere d b.now × IsThere it.inode b.now
  pub place : PlaceIs b k d it.name p.entry
  pub link : SpotIs b k it.inode spot
  pub slot : IsTrue b.tells → IsEntrySlot b.now d (p.entry / 16) p.slot
  pub cell : IsTrue b.tells → IsSlotCell b.now p.slot p.cell
  pub spells : Spells (spelled_entry it.inode it.generation it.name) it
  pub rows : RowsPass b k (step.Link d g it.name it.inode it.generation)
