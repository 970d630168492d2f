-- Why a part of a step refuses, over any disk, and what the parts answer.
use Rattle.std.specs.Prelude.{◌≡◌, ℕ, ◌*◌, true, List, [], ◌∷◌, Option, Some, None, option_map, IsTrue, Result, Ok, Err}
use Rattle.std.specs.Prelude.{IfOk, IfErr, OnOk}
use Rattle.nofs_dirent.specs.Entries.{entry_limit}
use Rattle.nofs_disk.specs.Disk.{DiskState, StaysButFaults, Rose}
use Rattle.nofs_inode.specs.declared.inode.Record.{Record}
use Rattle.nofs_super.specs.declared.superblock.SuperBlock.{SuperBlock}
use Rattle.nofs_model.specs.Geometry.{Image}
use Rattle.nofs_model.specs.Files.{Files, files_in, agreed}
use Rattle.nofs_history.specs.Search.{first_of}
use Rattle.nofs_history.specs.World.{World}
use Rattle.nofs_history.specs.Steps.{InRange}
use Rattle.nofs_history.specs.Refusals.{stale, not_directory, missing, exists}
use Rattle.nofs_history.specs.History.{FilesMatch}
use Rattle.nofs_history.specs.declared.machine.replies.Refusal.{Refusal}
use Rattle.nofs_history.specs.declared.machine.replies.Refusal.TheVariants as refusal
use Rattle.nofs_history.specs.declared.machine.replies.Reply.{Reply}
use Rattle.nofs_history.specs.declared.machine.replies.Reply.TheVariants as reply
use Rattle.nofs_history.specs.declared.machine.replies.Found.{Found}
use Rattle.nofs_agree.specs.Reads.{IsLast, KnowsDirectory}
use Rattle.nofs_agree.specs.Chain.{AreTrue}
use Rattle.nofs_agree.specs.declared.reads.LastRead.{LastRead}
use Rattle.nofs_state.specs.Cores.Steps.{is_late}
use Rattle.nofs_state.specs.declared.books.maps.Books.{Books}
use Rattle.nofs_names.specs.Searches.Slots.{IsFoundEntry, KnowsPaired, Passed}
use Rattle.nofs_names.specs.declared.searches.slots.Paired.{Paired}
use Rattle.nofs_names.specs.declared.searches.slots.Unfound.{Unfound}
use Rattle.nofs_names.specs.declared.searches.slots.Searched.{Searched}
use Rattle.nofs_names.specs.declared.searches.slots.Searched.TheVariants as searched

-- a part of a step refuses: by the first of these rows of the machine, and then no read failed, or because one did
pub data Fails (old new : DiskState) (given : Image → Type 0) (rows : World → List (Option Refusal))
    (why : Refusal) : Type 0 where
  ByRow : is_late why ≡ true → InRange why → new.faults ≡ old.faults
      → (IsTrue old.tells → given old.now → (W : World) → FilesMatch W.files old.now → first_of (rows W) ≡ Some why)
      → Fails old new given rows why
  ByRead : why ≡ refusal.ReadFault → Rose old.faults new.faults → Fails old new given rows why

-- a part does not refuse: none of these rows comes
abbrev pub PartPasses : DiskState → (Image → Type 0) → (World → List (Option Refusal)) → Type 0
PartPasses old given rows = IsTrue old.tells → given old.now → (W : World) → FilesMatch W.files old.now
    → first_of (rows W) ≡ None

-- the inode is agreed
abbrev pub IsThere : ℕ → Image → Type 0
IsThere d X = agreed (files_in X) d ≡ true

-- those that are known to be agreed are
abbrev pub KnownTrue : Books → Image → Type 0
KnownTrue k X = AreTrue X k.agreement

-- the rows of a directory, and of a name that is looked for
abbrev pub directory_rows : ℕ → ℕ → World → List (Option Refusal)
directory_rows d g W = stale W d g ∷ not_directory W d ∷ []

abbrev pub missing_rows : ℕ → List ℕ → World → List (Option Refusal)
missing_rows d name W = missing W d name ∷ []

pub record OpensDirectory (old new : DiskState) (k : Books) (d g : ℕ) (last : LastRead)
    (result : Result Record Refusal) : Type 0 where
  pub stays : StaysButFaults old new
  pub no_fault : OnOk result (new.faults ≡ old.faults)
  pub directory : IfOk result (λ r. KnowsDirectory new k.at d r.generation r)
  pub generation : IfOk result (λ r. r.generation ≡ g)
  pub passes : IfOk result (λ r. PartPasses old (KnownTrue k) (directory_rows d g))
  pub there : IfOk result (λ r. IsTrue old.tells → KnownTrue k old.now → IsThere d old.now)
  pub kept : OnOk result (IsLast new last)
  pub refused : IfErr result (Fails old new (KnownTrue k) (directory_rows d g))

-- a name was looked for
pub record FindsPair (old new : DiskState) (at : SuperBlock) (d : ℕ) (name : List ℕ) (names records : LastRead)
    (result : Result Paired Refusal) : Type 0 where
  pub stays : StaysButFaults old new
  pub no_fault : OnOk result (new.faults ≡ old.faults)
  pub known : IfOk result (KnowsPaired new at)
  pub found : IfOk result
      (λ p. IsTrue old.tells → IsThere d old.now → (F : Files) → FilesMatch F old.now → IsFoundEntry F old.now d name p)
  pub kept : OnOk result (IsLast new names × IsLast new records)
  pub refused : IfErr result (Fails old new (IsThere d) (missing_rows d name))

-- why a name is not found, by what was seen of the directory
abbrev pub lost_in : Option ℕ → Option Refusal
lost_in slot = first_of (option_map refusal.LostSlot slot ∷ Some refusal.Missing ∷ [])

abbrev pub missing_in : Unfound → Option Refusal
missing_in seen = first_of (option_map refusal.LostEntry seen.dead ∷ option_map refusal.LostSlot seen.lost
    ∷ Some refusal.Missing ∷ [])

-- what a search gives as an answer
abbrev pub IsPairOf : Searched → Result Paired Refusal → Type 0
IsPairOf (searched.Found p) result = result ≡ Ok p
IsPairOf (searched.Unfound u) result = (why : Refusal) × (result ≡ Err why) × (Some why ≡ missing_in u)

-- a search whose name must find nothing
abbrev pub exists_rows : ℕ → List ℕ → World → List (Option Refusal)
exists_rows d name W = exists W d name ∷ []

abbrev pub unused_in : Searched → Result Unfound Refusal
unused_in (searched.Found p) = Err refusal.Exists
unused_in (searched.Unfound u) = Ok u

-- a name was found to be unused
pub record FindsNone (old new : DiskState) (d : ℕ) (name : List ℕ) (names records : LastRead)
    (result : Result Unfound Refusal) : Type 0 where
  pub stays : StaysButFaults old new
  pub no_fault : OnOk result (new.faults ≡ old.faults)
  pub seen : IfOk result (λ u. IsTrue old.tells → IsThere d old.now → (F : Files) → FilesMatch F old.now
      → Passed F d name true entry_limit 72 u)
  pub kept : OnOk result (IsLast new names × IsLast new records)
  pub refused : IfErr result (Fails old new (IsThere d) (exists_rows d name))

-- where a new entry goes, by what was seen of the directory
abbrev pub hole_place : Option ℕ → Option ℕ
hole_place hole = option_map (λ k. 16 * k) hole

abbrev pub place_of_entry : Unfound → Option ℕ
place_of_entry seen = first_of (seen.dead ∷ seen.empty ∷ hole_place seen.hole ∷ [])

abbrev pub look_answer : Result Found Refusal → Reply
look_answer (Ok it) = reply.Found it
look_answer (Err why) = reply.Refused why
