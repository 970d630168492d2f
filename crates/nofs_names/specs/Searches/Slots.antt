-- What a search of a directory answers, over any disk.
use Rattle.std.specs.Prelude.{◌≡◌, ℕ, ◌/◌, ◌<◌, ◌≤◌, Bool, true, ◌&&◌, ◌||◌, not, List, Option, Some, None}
use Rattle.std.specs.Prelude.{is_some, IsTrue, Result, IfOk, IfSome, OnOk, OnErr, if◌then◌else◌, nat_lt, ◌==◌}
use Rattle.std.specs.List.{list_any}
use Rattle.nofs_dirent.specs.Entries.{entry_limit}
use Rattle.nofs_disk.specs.declared.Failed.{Failed}
use Rattle.nofs_disk.specs.Disk.{DiskState, StaysButFaults, Rose}
use Rattle.nofs_inode.specs.declared.inode.FileKind.TheVariants as kind
use Rattle.nofs_inode.specs.declared.inode.BackLink.{BackLink}
use Rattle.nofs_dirent.specs.declared.entry.Entry.{Entry}
use Rattle.nofs_inode.specs.declared.inode.FileKind.{FileKind}
use Rattle.nofs_inode.specs.declared.inode.Record.{Record}
use Rattle.nofs_super.specs.declared.superblock.SuperBlock.{SuperBlock}
use Rattle.nofs_model.specs.Files.{is_record, Files, files_in, agreed, is_folder, entry_at}
use Rattle.nofs_model.specs.Geometry.{Image, inode}
use Rattle.nofs_history.specs.Meta.{is_bytes}
use Rattle.nofs_history.specs.Search.{least_from}
use Rattle.nofs_history.specs.Machine.{same_link}
use Rattle.nofs_history.specs.Machine as machine
use Rattle.nofs_history.specs.History.{FilesMatch}
use Rattle.nofs_agree.specs.Reads.{IsLast, KnowsInode}
use Rattle.nofs_agree.specs.declared.reads.LastRead.{LastRead}
use Rattle.nofs_names.specs.declared.searches.entries.Named.{Named}
use Rattle.nofs_names.specs.declared.searches.slots.Paired.{Paired}
use Rattle.nofs_names.specs.declared.searches.slots.Unfound.{Unfound}
use Rattle.nofs_names.specs.declared.searches.slots.Searched.{Searched}
use Rattle.nofs_names.specs.declared.searches.slots.Searched.TheVariants as searched

-- the inode that an entry names
abbrev pub named_in : Option Entry → Option Named
named_in None = None
named_in (Some it) = Some (record { inode = it.inode; generation = it.generation })

-- what an entry names is no zero
abbrev pub IsEntrySpelled : Named → Type 0
IsEntrySpelled named = (1 ≤ named.inode) × (1 ≤ named.generation)

-- the record may be that of an agreed inode, where the inode is the root or the label file
abbrev pub is_root_record : ℕ → Record → Bool
is_root_record i r = if i == 1 then is_record kind.Directory 1 r else (if i == 2 then is_record kind.File 2 r else true)

-- the record of a live inode answers an entry that names it: it has the back link to that entry, and is of the named
-- generation
abbrev pub answers : Record → FileKind → Named → BackLink → Bool
answers r kind named link = (r.generation == named.generation)
    && ((not (is_folder kind) || nat_lt link.generation r.generation)
    && (list_any (λ l. same_link l link) r.links && is_root_record named.inode r))

-- the kind of the inode that an entry names, where the two are a pair
abbrev pub paired_kind : Record → Named → BackLink → Option FileKind
paired_kind r named link = elim r.kind [ None ↦ None | Some k ↦ if answers r k named link then Some k else None ]

-- the first, or else the second
abbrev pub first_or : Option ℕ → Option ℕ → Option ℕ
first_or None o = o
first_or (Some x) o = Some x

abbrev pub where_true : Bool → ℕ → Option ℕ
where_true b n = if b then Some n else None

-- what an entry with the name is, by the record of the inode that it names: a pair, or none
abbrev pub IsNamed : Image → BackLink → Named → Option Paired → Type 0
IsNamed X link named None = paired_kind (inode X named.inode) named link ≡ None
IsNamed X link named (Some p) = (paired_kind (inode X named.inode) named link ≡ Some p.kind)
    × (inode X named.inode ≡ p.record) ×
    (p.inode ≡ named.inode) × (p.entry ≡ link.entry)

-- the record of what was found was read
abbrev pub KnowsPaired : DiskState → SuperBlock → Paired → Type 0
KnowsPaired d at p = KnowsInode d at p.inode p.record × (p.record.kind ≡ Some p.kind) × (1 ≤ p.inode)
    × (1 ≤ p.record.generation) × (p.entry < entry_limit)

-- what an entry with the name is
pub record SeesNamed (old new : DiskState) (at : SuperBlock) (link : BackLink) (named : Named) (last : LastRead)
    (result : Result (Option Paired) Failed) : Type 0 where
  pub stays : StaysButFaults old new
  pub no_fault : OnOk result (new.faults ≡ old.faults)
  pub known : IfOk result (λ it. IfSome it (KnowsPaired new at))
  pub seen : IfOk result (λ it. IsTrue old.tells → IsNamed old.now link named it)
  pub kept : OnOk result (IsLast new last)
  pub cause : OnErr result (Rose old.faults new.faults)

-- what was seen, with a place where the name is not: it is the first empty one, where one is wanted
abbrev pub other_seen : Bool → Option Entry → ℕ → Unfound → Unfound
other_seen w here e u = record u { empty = first_or u.empty (where_true (w && not (is_some here)) e) }

-- The tests of a search, entry by entry and slot by slot

abbrev pub finds : Files → ℕ → List ℕ → ℕ → Bool
finds F d name e = machine.entry_has_name F d name e && machine.is_paired F d e

abbrev pub is_dead : Files → ℕ → List ℕ → ℕ → Bool
is_dead F d name e = machine.entry_has_name F d name e && not (machine.is_paired F d e)

abbrev pub is_empty : Files → ℕ → ℕ → Bool
is_empty F d e = is_bytes (machine.value_of F d (e / 16)) && not (is_some (entry_at F d e))

abbrev pub is_lost_slot : Files → ℕ → ℕ → Bool
is_lost_slot F d k = machine.is_lost (machine.value_of F d k)

abbrev pub is_hole_slot : Files → ℕ → ℕ → Bool
is_hole_slot F d k = machine.is_hole (machine.value_of F d k)

-- the first n entries and the first k slots were passed: none finds a file, and these are the first of their kinds,
-- of empty places where one is wanted
pub record Passed (F : Files) (d : ℕ) (name : List ℕ) (w : Bool) (n k : ℕ) (u : Unfound) : Type 0 where
  pub none : least_from (finds F d name) 0 n ≡ None
  pub dead : least_from (is_dead F d name) 0 n ≡ u.dead
  pub empty : IsTrue w → least_from (is_empty F d) 0 n ≡ u.empty
  pub lost : least_from (is_lost_slot F d) 0 k ≡ u.lost
  pub hole : least_from (is_hole_slot F d) 0 k ≡ u.hole

-- each slot from this one on is a hole
abbrev pub with_holes : ℕ → Unfound → Unfound
with_holes k u = if nat_lt k 72 then record u { hole = first_or u.hole (Some k) } else u

-- an entry of the directory d that is a pair, and what it names
pub record IsPairFound (F : Files) (X : Image) (d : ℕ) (name : List ℕ) (p : Paired) : Type 0 where
  pub range : p.entry < entry_limit
  pub entry : Entry
  pub at : entry_at F d p.entry ≡ Some entry
  pub names : entry.inode ≡ p.inode
  pub named : entry.name ≡ name
  pub paired : machine.is_paired F d p.entry ≡ true
  pub agreed : agreed (files_in X) p.inode ≡ true
  pub generation : entry.generation ≡ p.record.generation

-- the pair of the name
pub record IsFoundEntry (F : Files) (X : Image) (d : ℕ) (name : List ℕ) (p : Paired) : Type 0 where
  pub found : machine.found F d name ≡ Some p.entry
  pub pair : IsPairFound F X d name p

-- after a slot: its pair of the name, or all its entries were passed
abbrev pub IsPast : Files → Image → ℕ → List ℕ → Bool → ℕ → ℕ → Unfound → Option Paired → Type 0
IsPast F X d name w n k v None = Passed F d name w n k v
IsPast F X d name w n k v (Some p) = IsFoundEntry F X d name p

-- a search from the first n entries and k slots on to the first m and l, over any files that match the disk
pub record SearchesOn (old new : DiskState) (at : SuperBlock) (d : ℕ) (name : List ℕ) (w : Bool) (n k m l : ℕ)
    (u v : Unfound) (last : LastRead)
    (result : Result (Option Paired) Failed) : Type 0 where
  pub stays : StaysButFaults old new
  pub no_fault : OnOk result (new.faults ≡ old.faults)
  pub known : IfOk result (λ it. IfSome it (KnowsPaired new at))
  pub past : IfOk result (λ it. IsTrue old.tells → (F : Files) → FilesMatch F old.now
      → agreed (files_in old.now) d ≡ true → Passed F d name w n k u
      → IsPast F old.now d name w m l v it)
  pub kept : OnOk result (IsLast new last)
  pub cause : OnErr result (Rose old.faults new.faults)

-- what a search of the whole directory answers
abbrev pub IsSearched : Files → Image → ℕ → List ℕ → Bool → Searched → Type 0
IsSearched F X d name w (searched.Found p) = IsFoundEntry F X d name p
IsSearched F X d name w (searched.Unfound u) = Passed F d name w entry_limit 72 u

abbrev pub KnowsSearched : DiskState → SuperBlock → Searched → Type 0
KnowsSearched d at (searched.Found p) = KnowsPaired d at p
KnowsSearched d at (searched.Unfound u) = Unit {0}

pub record Searches (old new : DiskState) (at : SuperBlock) (d : ℕ) (name : List ℕ) (w : Bool) (last next : LastRead)
    (result : Result Searched Failed) : Type 0 where
  pub stays : StaysButFaults old new
  pub no_fault : OnOk result (new.faults ≡ old.faults)
  pub known : IfOk result (KnowsSearched new at)
  pub answer : IfOk result (λ it. IsTrue old.tells → (F : Files) → FilesMatch F old.now
      → agreed (files_in old.now) d ≡ true → IsSearched F old.now d name w it)
  pub kept : OnOk result (IsLast new last × IsLast new next)
  pub cause : OnErr result (Rose old.faults new.faults)
