-- The rows of a Resize.
use Rattle.std.proofs.Common.{◌≡◌, ◌≢◌, ℕ, ◌+◌, ◌-◌, ◌*◌, ◌<◌, ◌≤◌, Bool, true, false, cond, eqb, ltb, lt-ltb, ltb-true}
use Rattle.std.proofs.Common.{◌&&◌, List, [], ◌∷◌, Option, Some}
use Rattle.std.proofs.Common.{None, IsTrue, Result, Err, refl, sym, ap, ◌∙◌, subst, arith}
use Rattle.std.proofs.lemmas.Bool.Decides.{nat_tests}
use Rattle.nofs_ptrs.specs.Paths.{slot_limit, Path, InRecord, Under, is_pointer_slot, IsSlot}
use Rattle.nofs_disk.specs.Disk.{DiskState, IsDisk, StaysButFaults}
use Rattle.nofs_inode.specs.declared.inode.FileKind.TheVariants.{Directory}
use Rattle.nofs_inode.specs.declared.inode.Record.{Record}
use Rattle.nofs_super.specs.declared.superblock.SuperBlock.{SuperBlock}
use Rattle.nofs_model.specs.Geometry.{Image}
use Rattle.nofs_history.specs.Faults.{is_fault}
use Rattle.nofs_model.specs.Slots.{find}
use Rattle.nofs_model.specs.Files.{node_in, files_in, agreed, Files, is_kind}
use Rattle.nofs_model.specs.declared.image.path.PathAnswer.{PathAnswer}
use Rattle.nofs_model.specs.declared.image.path.PathAnswer.TheVariants as answer
use Rattle.nofs_history.specs.Search.{first_of}
use Rattle.nofs_history.specs.Machine.{is_folder_at, node_of, size_of}
use Rattle.nofs_history.specs.World.{World}
use Rattle.nofs_history.specs.Claims.{no_claims}
use Rattle.nofs_history.specs.Refusals.{row, rows, slots, stale, is_directory, is_damaged, lost_resize}
use Rattle.nofs_history.specs.History.{FilesMatch}
use Rattle.nofs_history.specs.declared.machine.history.Entry1.{Entry1}
use Rattle.nofs_history.specs.declared.machine.steps.Step.TheVariants as step
use Rattle.nofs_history.specs.declared.machine.replies.Reply.TheVariants as reply
use Rattle.nofs_history.specs.declared.machine.replies.Refusal.{Refusal}
use Rattle.nofs_history.specs.declared.machine.replies.Refusal.TheVariants as refusal
use Rattle.nofs_crashlaw.proofs.OnFiles.Given.{size-of}
use Rattle.nofs_crashlaw.proofs.OnUntouched.Matches.{Matched, matched-agreed}
use Rattle.nofs_crashlaw.proofs.OnUntouched.Agreement.{file-in}
use Rattle.nofs_state.proofs.OnCores.Replies.{goes-early, goes-row, goes-read, open-files}
use Rattle.nofs_state.proofs.OnCores.Refusals.{IsLate, AreLate, first-late, late-row}
use Rattle.nofs_state.proofs.OnBooks.Machine.{agreed-live, are-agreed, stale-none}
use Rattle.nofs_files.proofs.OnReads.Rows.{folder-is, goes-unfiled}
use Rattle.nofs_state.proofs.OnBooks.CurrentFiles.{current-agreed}
use Rattle.nofs_agree.specs.Chain.{AreTrue}
use Rattle.nofs_agree.specs.declared.reads.LastRead.{LastRead}
use Rattle.nofs_state.specs.Books.Maps.{IsSafe}
use Rattle.nofs_state.specs.Cores.Invariant.{IsOpen, Past}
use Rattle.nofs_state.specs.Cores.Steps.{Goes}
use Rattle.nofs_state.specs.Inodes.Opened.{is_current}
use Rattle.nofs_state.specs.declared.books.maps.Books.{Books}
use Rattle.nofs_files.specs.Reads.{IsFile, OpensFile, slots_of}
use Rattle.nofs_state.specs.Writes.Premises.{RowsPass}
use Rattle.nofs_files.specs.Resizes.{EdgeFails, LostLeaf, LostTop, LostChild, EdgeUnread, IsCutBlock, IsEdge}
use Rattle.nofs_files.specs.Resizes.{kept_slots, last_child}
use Rattle.nofs_files.specs.declared.resizes.cuts.NewCell.{NewCell}
use Rattle.nofs_files.specs.declared.resizes.cuts.Edge.{Edge}
use Rattle.nofs_files.proofs.OnResizes.Slots.{child-low}

-- A size that no file has

same-slots : (W : World) (at : SuperBlock) → W.version ≡ at.version → slots W ≡ slots_of at
same-slots W at v = ap (λ (n : ℕ). cond (eqb n 1) 72 slot_limit) v

-- the row of such a size
abbrev too_big : World → ℕ → Option Refusal
too_big W size = row (ltb (1024 * slots W) size) refusal.TooLarge

pub big-some : (W : World) (size : ℕ) (at : SuperBlock)
    → W.version ≡ at.version → 1024 * slots_of at < size → too_big W size ≡ Some refusal.TooLarge
big-some W size at v h = let s = same-slots W at v in
    let t : ltb (1024 * slots W) size ≡ true = lt-ltb (1024 * slots W) size (omega (arith, s, h)) in rw t
    refl

pub big-none : (W : World) (size : ℕ) (at : SuperBlock) → W.version ≡ at.version → size ≤ 1024 * slots_of at
    → too_big W size ≡ None
big-none W size at v h = let s = same-slots W at v in
    let t : ltb (1024 * slots W) size ≡ false = lt-no (1024 * slots W) size (omega (arith, s, h)) in rw t
    refl
  where
    lt-no : (a b : ℕ) → b ≤ a → ltb a b ≡ false
    lt-no a b l = grind (arith, nat_tests)

-- What is cut inside is lost

-- by how many slots stay, and by which blocks of pointers are damaged
abbrev lost_by : ℕ → Bool → Bool → Bool → Option Refusal
lost_by m leaf top child = first_of (row (ltb 8 m && leaf) (refusal.LostSlot 8)
    ∷ row (ltb 72 m && top) (refusal.LostSlot 72) ∷ row (ltb 72 m && child)
    (refusal.LostSlot (72 + 64 * last_child m)) ∷ [])

abbrev lost_at : Files → ℕ → ℕ → Option Refusal
lost_at F i m = lost_by m (is_damaged (node_of F i (InRecord 8))) (is_damaged (node_of F i (InRecord 9)))
    (is_damaged (node_of F i (Under (InRecord 9) (last_child m))))

lost-at : (W : World) (i size : ℕ) → lost_resize W i size ≡ lost_at W.files i (kept_slots (size_of W.files i) size)
lost-at W i size = refl

-- a slot in which this stands is damaged
abbrev is_lost_in : PathAnswer → Bool
is_lost_in q = is_damaged (node_in q)

off-leaf : (x : Bool) → (x && false) ≡ false
off-leaf true = refl
off-leaf false = refl

pub by-leaf : (m : ℕ) (top child : Bool) → 8 < m → lost_by m true top child ≡ Some (refusal.LostSlot 8)
by-leaf m top child h = let t = lt-ltb 8 m h in rw t refl

pub by-top : (m : ℕ) (child : Bool) → 72 < m → lost_by m false true child ≡ Some (refusal.LostSlot 72)
by-top m child h = let t = lt-ltb 72 m h in let e = off-leaf (ltb 8 m) in rw (e, t) refl

pub by-child : (m : ℕ) → 72 < m → lost_by m false false true ≡ Some (refusal.LostSlot (72 + 64 * last_child m))
by-child m h = let t = lt-ltb 72 m h in let e = off-leaf (ltb 8 m) in rw (e, t) refl

by-none : (m : ℕ) (leaf top child : Bool) → (8 < m → leaf ≡ false) → (72 < m → top ≡ false) → (72 < m → child ≡ false)
    → lost_by m leaf top child ≡ None
by-none m leaf top child a b c =
    let x : (ltb 8 m && leaf) ≡ false = off 8 leaf a in
    let y : (ltb 72 m && top) ≡ false = off 72 top b in
    let z : (ltb 72 m && child) ≡ false = off 72 child c in
    rw (x, y, z) refl
  where
    off : (n : ℕ) (w : Bool) → (n < m → w ≡ false) → (ltb n m && w) ≡ false
    off n w f = go (ltb n m) refl
      where
        go : (t : Bool) → ltb n m ≡ t → (t && w) ≡ false
        go true e = f (ltb-true n m e)
        go false e = refl

lost-is : (q : PathAnswer) → q ≡ answer.Lost → is_lost_in q ≡ true
lost-is q e = ap is_lost_in e

not-lost : (q : PathAnswer) → q ≢ answer.Lost → is_lost_in q ≡ false
not-lost answer.Hole n = refl
not-lost (answer.Holds x) n = refl
not-lost answer.Lost n = absurd (n refl)

cut-whole : (X : Image) (q : PathAnswer) (from : ℕ) (cut : Option NewCell) → IsCutBlock X q from cut → q ≢ answer.Lost
cut-whole X answer.Hole from cut c e = cc e
cut-whole X (answer.Holds x) from cut c e = cc e
cut-whole X answer.Lost from cut c e = c

-- such a row comes after a read
lost-late : (F : Files) (i m : ℕ) → IsLate (lost_at F i m)
lost-late F i m why e = first-late (row (ltb 8 m && is_damaged (node_of F i (InRecord 8))) (refusal.LostSlot 8) ∷ row
    (ltb 72 m && is_damaged (node_of F i (InRecord 9))) (refusal.LostSlot 72)
    ∷ row (ltb 72 m && is_damaged (node_of F i (Under (InRecord 9) (last_child m))))
    (refusal.LostSlot (72 + 64 * last_child m)) ∷ []) rows-late why e
  where
    rows-late : AreLate (row (ltb 8 m && is_damaged (node_of F i (InRecord 8))) (refusal.LostSlot 8)
        ∷ row (ltb 72 m && is_damaged (node_of F i (InRecord 9)))
        (refusal.LostSlot 72)
        ∷ row (ltb 72 m && is_damaged (node_of F i (Under (InRecord 9) (last_child m))))
        (refusal.LostSlot (72 + 64 * last_child m)) ∷ [])
    rows-late = (
      late-row (ltb 8 m && is_damaged (node_of F i (InRecord 8))) (refusal.LostSlot 8) refl,
      (
        late-row (ltb 72 m && is_damaged (node_of F i (InRecord 9))) (refusal.LostSlot 72) refl,
        (
          late-row (ltb 72 m && is_damaged (node_of F i (Under (InRecord 9) (last_child m))))
              (refusal.LostSlot (72 + 64 * last_child m)) refl,
          tt,
        ),
      ),
    )

module _ (d : DiskState) (k : Books) (i g size : ℕ) (r : Record) (is : IsDisk d) (safe : IsSafe d k)
    (going : k.stopped ≡ false) (file : IsFile d k.at i g r)
    (current : IsTrue d.tells → AreTrue d.now k.agreement → is_current d.now i g ≡ true)
    (fits : size ≤ 1024 * slots_of k.at) (most : kept_slots r.size size ≤ slot_limit) where
  module _ (tells : IsTrue d.tells) (H : List Entry1) (p : Past) (o : IsOpen d k H p) where
    match : FilesMatch p.world.files d.now
    match = open-files d k H p o

    now-current : is_current d.now i g ≡ true
    now-current = current tells (are-agreed d k H p safe o)

    agrees : agreed (files_in d.now) i ≡ true
    agrees = current-agreed d.now i g now-current

    own : Matched p.world.files d.now i
    own = matched-agreed p.world.files d.now i match (agreed-live d.now i agrees) agrees

    folder : is_folder_at p.world.files i ≡ false
    folder = folder-is p.world.files d.now i match agrees
        ∙ ap (λ (q : Record). is_kind Directory q.kind) (file.known.same tells) ∙ ap (is_kind Directory)
        file.kind

    old-size : size_of p.world.files i ≡ r.size
    old-size = size-of p.world.files i own.file own.is
        ∙ (file-in p.world.files d.now i own.file match own.is).1.size ∙ ap (λ (q : Record). q.size)
        (file.known.same tells)

    node : (a : Path) → IsSlot a → is_pointer_slot a ≡ true → node_of p.world.files i a ≡ node_in (find d.now i a)
    node a slot points = let e = own.is in
        rw (e, node_of) ((file-in p.world.files d.now i own.file match own.is).1.nodes a slot points)

    lost-rows : lost_resize p.world i size ≡ lost_by (kept_slots r.size size) (is_lost_in (find d.now i (InRecord 8)))
        (is_lost_in (find d.now i (InRecord 9)))
        (is_lost_in (find d.now i (Under (InRecord 9) (last_child (kept_slots r.size size)))))
    lost-rows = lost-at p.world i size ∙ ap (λ (n : ℕ). lost_at p.world.files i (kept_slots n size)) old-size
        ∙ (λ j. lost_by (kept_slots r.size size) (is_damaged (node (InRecord 8) (omega arith) refl j))
        (is_damaged (node (InRecord 9) (omega arith) refl j))
        (is_damaged (node (Under (InRecord 9) (last_child (kept_slots r.size size)))
        (refl, child-low (kept_slots r.size size) most, omega arith) refl
        j)))

    -- all but what is cut inside passes
    pub rows-are : (V : World) → first_of (rows p.world V (step.Resize i g size)) ≡ lost_resize p.world i size
    rows-are V =
        rw (big-none p.world size k.at o.says.version fits, stale-none p.world d.now i g match now-current, folder)
        (first-one (lost_resize p.world i size))
      where
        first-one : (w : Option Refusal) → first_of (w ∷ []) ≡ w
        first-one None = refl
        first-one (Some w) = refl

  -- no row comes
  pub rows-pass : (edge : Edge) → (IsTrue d.tells → IsEdge d.now i (kept_slots r.size size) edge)
      → RowsPass d k (step.Resize i g size)
  rows-pass edge is_edge tells H p o V =
      let e = is_edge tells in
      rows-are tells H p o V ∙ lost-rows tells H p o ∙ by-none (kept_slots r.size size) _ _ _
      (λ h. not-lost (find d.now i (InRecord 8)) (e.whole h))
      (λ h. not-lost (find d.now i (InRecord 9))
      (cut-whole d.now (find d.now i (InRecord 9)) (last_child (kept_slots r.size size) + 1) edge.above
      (e.far h).top))
      (λ h. not-lost (find d.now i (Under (InRecord 9) (last_child (kept_slots r.size size))))
      (cut-whole d.now (find d.now i (Under (InRecord 9) (last_child (kept_slots r.size size))))
      (kept_slots r.size size - (72 + 64 * last_child (kept_slots r.size size))) edge.below (e.far h).child))

  -- each row comes after a read
  pub late : (tells : IsTrue d.tells) (H : List Entry1) (p : Past) (o : IsOpen d k H p)
      → IsLate (first_of (rows p.world p.world (step.Resize i g size)))
  late tells H p o why e = lost-late p.world.files i (kept_slots (size_of p.world.files i) size) why
      (sym (rows-are tells H p o p.world ∙ lost-at p.world i size) ∙ e)

  abbrev no-fault : Refusal → Bool
  no-fault w = is_fault (reply.Refused w)

  -- what is cut inside is lost, or a read failed
  pub goes-unedged : (new : DiskState) (why : Refusal) → StaysButFaults d new
      → (is_fault (reply.Refused why) ≡ false → new.faults ≡ d.faults) → EdgeFails d new i (kept_slots r.size size) why
      → Goes d k new k (step.Resize i g size) no_claims (reply.Refused why)
  goes-unedged new why stays quiet (LostLeaf e lost) =
      subst (λ (w : Refusal). Goes d k new k (step.Resize i g size) no_claims (reply.Refused w)) (sym e)
      (goes-row d new k (step.Resize i g size) is safe stays (quiet (ap no-fault e))
      (refusal.LostSlot 8) refl tt going (λ tells H p o.
      let q = lost tells in
      rows-are tells H p o p.world ∙ lost-rows tells H p o
      ∙ ap (λ (b : Bool). lost_by (kept_slots r.size size) b (is_lost_in (find d.now i (InRecord 9)))
      (is_lost_in (find d.now i (Under (InRecord 9) (last_child (kept_slots r.size size))))))
      (lost-is (find d.now i (InRecord 8)) q.1)
      ∙ by-leaf (kept_slots r.size size) _ _ q.0))
  goes-unedged new why stays quiet (LostTop e lost) =
      subst (λ (w : Refusal). Goes d k new k (step.Resize i g size) no_claims (reply.Refused w)) (sym e)
      (goes-row d new k (step.Resize i g size) is safe stays (quiet (ap no-fault e))
      (refusal.LostSlot 72) refl tt going (λ tells H p o.
      let q = lost tells in
      rows-are tells H p o p.world ∙ lost-rows tells H p o
      ∙ (λ j. lost_by (kept_slots r.size size) (not-lost (find d.now i (InRecord 8)) q.1 j)
      (lost-is (find d.now i (InRecord 9)) q.2 j)
      (is_lost_in (find d.now i (Under (InRecord 9) (last_child (kept_slots r.size size))))))
      ∙ by-top (kept_slots r.size size) _ q.0))
  goes-unedged new why stays quiet (LostChild e lost) =
      subst (λ (w : Refusal). Goes d k new k (step.Resize i g size) no_claims (reply.Refused w)) (sym e)
      (goes-row d new k (step.Resize i g size) is safe stays (quiet (ap no-fault e))
      (refusal.LostSlot (72 + 64 * last_child (kept_slots r.size size))) refl tt going (λ tells H p o.
      let q = lost tells in
      rows-are tells H p o p.world ∙ lost-rows tells H p o
      ∙ (λ j. lost_by (kept_slots r.size size) (not-lost (find d.now i (InRecord 8)) q.1 j)
      (not-lost (find d.now i (InRecord 9)) q.2 j)
      (lost-is (find d.now i (Under (InRecord 9) (last_child (kept_slots r.size size)))) q.3 j))
      ∙ by-child (kept_slots r.size size) q.0))
  goes-unedged new why stays quiet (EdgeUnread e rose) =
      subst (λ (w : Refusal). Goes d k new k (step.Resize i g size) no_claims (reply.Refused w)) (sym e)
      (goes-read d new k (step.Resize i g size) is safe stays going rose (λ tells H p o. late tells H p o))

-- Before the file is opened

module _ (old : DiskState) (k : Books) (i g size : ℕ) (is : IsDisk old) (safe : IsSafe old k)
    (going : k.stopped ≡ false) where
  pub goes-too-big : (new : DiskState) → StaysButFaults old new → new.faults ≡ old.faults → 1024 * slots_of k.at < size
      → Goes old k new k (step.Resize i g size) no_claims (reply.Refused refusal.TooLarge)
  goes-too-big new stays same h =
      goes-early old new k (step.Resize i g size) is safe stays same refusal.TooLarge refl tt going
      (rw (lt-ltb (1024 * slots_of k.at) size h) refl)
      (λ tells H p o. rw (big-some p.world size k.at o.says.version h) refl)

  rows-start : (H : List Entry1) (p : Past) → IsOpen old k H p → size ≤ 1024 * slots_of k.at
      → first_of (rows p.world p.world (step.Resize i g size))
      ≡ first_of (stale p.world i g ∷ is_directory p.world i ∷ lost_resize p.world i size ∷ [])
  rows-start H p o fits = rw (big-none p.world size k.at o.says.version fits) refl

  before-lost : (a b c : Option Refusal) (why : Refusal) → first_of (a ∷ b ∷ []) ≡ Some why
      → first_of (a ∷ b ∷ c ∷ []) ≡ Some why
  before-lost (Some w) b c why e = e
  before-lost None (Some w) c why e = e
  before-lost None None c why e = cc e

  pub goes-unresized : (new : DiskState) (last : LastRead) (res : Result Record Refusal) (why : Refusal)
      → size ≤ 1024 * slots_of k.at
      → OpensFile old new k i g last res → res ≡ Err why
      → Goes old k new k (step.Resize i g size) no_claims (reply.Refused why)
  goes-unresized new last res why fits opens e =
      goes-unfiled old new k (step.Resize i g size) i g last res why is safe going opens e
      (λ H p o q. rows-start H p o fits
      ∙ before-lost (stale p.world i g) (is_directory p.world i) (lost_resize p.world i size) why q)
      (λ H p o w q. let all : AreLate (stale p.world i g ∷ is_directory p.world i ∷ lost_resize p.world i size ∷ []) = (
        late-row _ _ refl,
        (
          late-row _ _ refl,
          (
            (λ v f. lost-late p.world.files i (kept_slots (size_of p.world.files i) size) v
                (sym (lost-at p.world i size) ∙ f)),
            tt,
          ),
        ),
      ) in
      first-late (stale p.world i g ∷ is_directory p.world i ∷ lost_resize p.world i size ∷ []) all w
      (sym (rows-start H p o fits) ∙ q))
