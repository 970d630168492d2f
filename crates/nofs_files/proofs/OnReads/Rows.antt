-- The rows of refusals that the steps on files share, in the words of the disk.
use Rattle.std.proofs.Common.{◌≡◌, ℕ, ◌<◌, ◌≤◌, Bool, true, false, cond, eqb, leb, List, [], ◌∷◌, Option, Some, None}
use Rattle.std.proofs.Common.{Result, Err, IfErr, refl, sym, ap, ◌∙◌, subst, arith}
use Rattle.std.proofs.lemmas.Bool.Decides.{nat_tests}
use Rattle.nofs_ptrs.specs.Paths.{slot_limit}
use Rattle.nofs_disk.specs.Disk.{DiskState, IsDisk}
use Rattle.nofs_inode.specs.declared.inode.FileKind.{FileKind}
use Rattle.nofs_inode.specs.declared.inode.Record.{Record}
use Rattle.nofs_super.specs.declared.superblock.SuperBlock.{SuperBlock}
use Rattle.nofs_inode.specs.declared.inode.FileKind.TheVariants.{File, Directory}
use Rattle.nofs_model.specs.Geometry.{Image, inode}
use Rattle.nofs_model.specs.Files.{files_in, file_from, agreed, FileState, Files, is_folder, is_kind}
use Rattle.nofs_model.specs.Slots.{value}
use Rattle.nofs_history.specs.Search.{first_of}
use Rattle.nofs_history.specs.Machine.{is_folder_at, value_of}
use Rattle.nofs_history.specs.World.{World}
use Rattle.nofs_history.specs.Claims.{no_claims}
use Rattle.nofs_history.specs.Refusals.{row, rows, stale, is_directory, too_large, slots}
use Rattle.nofs_history.specs.History.{FilesMatch, SameFile}
use Rattle.nofs_history.specs.declared.machine.history.Entry1.{Entry1}
use Rattle.nofs_history.specs.declared.machine.steps.Step.{Step}
use Rattle.nofs_history.specs.declared.machine.replies.Reply.TheVariants as reply
use Rattle.nofs_history.specs.declared.machine.replies.Refusal.{Refusal}
use Rattle.nofs_history.specs.declared.machine.replies.Refusal.TheVariants as refusal
use Rattle.nofs_agree.specs.declared.reads.LastRead.{LastRead}
use Rattle.nofs_crashlaw.proofs.OnUntouched.Agreement.{same-of}
use Rattle.nofs_crashlaw.proofs.OnUntouched.Matches.{matched-agreed}
use Rattle.nofs_state.specs.Books.Maps.{IsSafe}
use Rattle.nofs_state.specs.Cores.Invariant.{IsOpen, Past}
use Rattle.nofs_state.specs.Cores.Steps.{Goes}
use Rattle.nofs_state.specs.Inodes.Opened.{is_current, met_fault}
use Rattle.nofs_state.specs.declared.books.maps.Books.{Books}
use Rattle.nofs_state.proofs.OnCores.Replies.{goes-row, goes-read, open-files}
use Rattle.nofs_state.proofs.OnCores.SafeSteps.{late-plain, plain-no-fault}
use Rattle.nofs_state.proofs.OnCores.Refusals.{IsLate}
use Rattle.nofs_state.proofs.OnBooks.Machine.{are-agreed, stale-none, stale-some, agreed-live}
use Rattle.nofs_state.proofs.OnBooks.CurrentFiles.{current-agreed}
use Rattle.nofs_files.specs.Reads.{FileFails, FailsByRow, FailsByRead, OpensFile, file_row, slots_of}

folder-kind : (k : FileKind) → is_folder k ≡ is_kind Directory (Some k)
folder-kind File = refl
folder-kind Directory = refl

abbrev folder_in : Option FileState → Bool
folder_in o = elim o [ None ↦ false | Some f ↦ is_folder f.kind ]

-- whether a file is a directory
pub folder-is : (F : Files) (X : Image) (i : ℕ) → FilesMatch F X
    → agreed (files_in X) i ≡ true → is_folder_at F i ≡ is_kind Directory (inode X i).kind
folder-is F X i match a = go (inode X i).kind (F i) (same-of F X i match a)
  where
    go : (o : Option FileKind) (p : Option FileState) → SameFile p (file_from X i o) → folder_in p ≡ is_kind Directory o
    go None None s = refl
    go None (Some f) s = absurd s
    go (Some kind) None s = absurd s
    go (Some kind) (Some f) s = ap is_folder s.kind ∙ folder-kind kind

first-one : (o : Option Refusal) → first_of (o ∷ []) ≡ o
first-one None = refl
first-one (Some w) = refl

pub file-row-is : (W : World) (X : Image) (i g : ℕ) → FilesMatch W.files X
    → first_of (stale W i g ∷ is_directory W i ∷ []) ≡ file_row X i g
file-row-is W X i g match = go (is_current X i g) refl
  where
    go : (b : Bool) → is_current X i g ≡ b → first_of (stale W i g ∷ is_directory W i ∷ [])
        ≡ (cond b (row (is_kind Directory (inode X i).kind) refusal.IsDirectory) (Some refusal.Stale))
    go false e = rw (stale-some W X i g match e) refl
    go true e = rw (stale-none W X i g match e) (first-one (is_directory W i)
        ∙ ap (λ (b : Bool). row b refusal.IsDirectory) (folder-is W.files X i match (current-agreed X i g e)))

-- the value of a slot
pub value-is : (F : Files) (X : Image) (i k : ℕ) → FilesMatch F X
    → agreed (files_in X) i ≡ true → k < slot_limit → value_of F i k ≡ value X i k
value-is F X i k match a low =
    let m = matched-agreed F X i match (agreed-live X i a) a in
    rw (m.is, value_of) (m.values k low)

-- a slot beyond those that a file can have
pub large-some : (W : World) (k : ℕ) (at : SuperBlock)
    → W.version ≡ at.version → slots_of at ≤ k → too_large W k ≡ Some refusal.TooLarge
large-some W k at v h =
    let s : slots W ≡ slots_of at = ap (λ (n : ℕ). cond (eqb n 1) 72 slot_limit) v in
    let t : leb (slots W) k ≡ true = le-is (slots W) k (omega (arith, s, h)) in rw t refl
  where
    le-is : (a b : ℕ) → a ≤ b → leb a b ≡ true
    le-is a b h = grind (arith, nat_tests)

-- the same by the superblock
pub large-early : (k : ℕ) (at : SuperBlock) → slots_of at ≤ k → leb (slots_of at) k ≡ true
large-early k at h = le-is (slots_of at) k h
  where
    le-is : (a b : ℕ) → a ≤ b → leb a b ≡ true
    le-is a b h = grind (arith, nat_tests)

pub large-none : (W : World) (k : ℕ) (at : SuperBlock) → W.version ≡ at.version → k < slots_of at → too_large W k ≡ None
large-none W k at v h =
    let s : slots W ≡ slots_of at = ap (λ (n : ℕ). cond (eqb n 1) 72 slot_limit) v in
    let t : leb (slots W) k ≡ false = lt-is (slots W) k (omega (arith, s, h)) in rw t refl
  where
    lt-is : (a b : ℕ) → b < a → leb a b ≡ false
    lt-is a b h = grind (arith, nat_tests)

pub slots-most : (at : SuperBlock) (k : ℕ) → k < slots_of at → k < slot_limit
slots-most at k h = go (eqb at.version 1) h
  where
    go : (b : Bool) → k < (cond b 72 slot_limit) → k < slot_limit
    go true l = omega (arith, l)
    go false l = l

-- the file was not opened
pub goes-unfiled : (old new : DiskState) (k : Books) (s : Step) (i g : ℕ) (last : LastRead)
    (res : Result Record Refusal) (why : Refusal) → IsDisk old
    → IsSafe old k → k.stopped ≡ false → OpensFile old new k i g last res → res ≡ Err why
    → ((H : List Entry1) (p : Past) → IsOpen old k H p
    → first_of (stale p.world i g ∷ is_directory p.world i ∷ []) ≡ Some why
    → first_of (rows p.world p.world s) ≡ Some why)
    → ((H : List Entry1) (p : Past) → IsOpen old k H p → IsLate (first_of (rows p.world p.world s)))
    → Goes old k new k s no_claims (reply.Refused why)
goes-unfiled old new k s i g last res why is safe going opens e comes late = go
    (subst (λ (q : Result Record Refusal). IfErr q (FileFails old new k i g)) e opens.refused)
  where
    go : FileFails old new k i g why → Goes old k new k s no_claims (reply.Refused why)
    go (FailsByRow late-row range comes-row) = goes-row old new k s is safe opens.stays
        (opens.no_fault (ap met_fault e ∙ plain-no-fault why (late-plain why late-row))) why late-row range going
        (λ tells H p o. comes H p o
        (file-row-is p.world old.now i g (open-files old k H p o) ∙ comes-row tells (are-agreed old k H p safe o)))
    go (FailsByRead same rose) = subst (λ (w : Refusal). Goes old k new k s no_claims (reply.Refused w)) (sym same)
        (goes-read old new k s is safe opens.stays going rose (λ tells H p o. late H p o))
