-- The contract of Rename, from its parts.
use Rattle.std.proofs.Common.{◌≡◌, ℕ, ◌*◌, ◌/◌, ◌%◌, ◌<◌, inl, inr, Bool, true, false, List, [], ◌∷◌, length, IsTrue}
use Rattle.std.proofs.Common.{Result, Err, IfErr, refl, sym, ap, ◌∙◌, subst, arith}
use Rattle.nofs_disk.specs.Disk.{DiskState, IsDisk, StaysButFaults, cell_at}
use Rattle.nofs_disk.specs.Number.{put_bytes}
use Rattle.nofs_dirent.specs.EntryLaws.{Spells}
use Rattle.nofs_disk.specs.declared.tag.Cell.{Cell}
use Rattle.nofs_disk.specs.declared.tag.Pointer.{Pointer}
use Rattle.nofs_inode.specs.declared.inode.Record.{Record}
use Rattle.nofs_dirent.specs.Entries.{spelled_entry}
use Rattle.nofs_model.specs.Geometry.{Image}
use Rattle.nofs_ptrs.specs.Paths.{path_of}
use Rattle.nofs_model.specs.Slots.{find}
use Rattle.nofs_model.specs.Files.{files_in, agreed, Files}
use Rattle.nofs_model.specs.Places.{InArea}
use Rattle.nofs_model.specs.declared.image.path.PathAnswer.TheVariants as answer
use Rattle.nofs_history.specs.Claims.{no_claims}
use Rattle.nofs_history.specs.History.{FilesMatch}
use Rattle.nofs_history.specs.declared.machine.history.Entry1.{Entry1}
use Rattle.nofs_history.specs.declared.machine.steps.Step.TheVariants as step
use Rattle.nofs_history.specs.declared.machine.replies.Reply.TheVariants as reply
use Rattle.nofs_history.specs.declared.machine.replies.Refusal.{Refusal}
use Rattle.nofs_agree.specs.Reads.{KnowsDirectory}
use Rattle.nofs_agree.specs.declared.reads.LastRead.{LastRead}
use Rattle.nofs_agree.proofs.OnChain.{KnowsInode-on}
use Rattle.nofs_state.specs.Books.Maps.{IsSafe}
use Rattle.nofs_state.specs.Cores.Invariant.{IsOpen, Past}
use Rattle.nofs_state.specs.Cores.Steps.{Goes, entry}
use Rattle.nofs_state.specs.declared.books.maps.Books.{Books}
use Rattle.nofs_disk.specs.Order.{IsApart}
use Rattle.nofs_state.specs.Writes.Cells.{Stores}
use Rattle.nofs_names.specs.Searches.Slots.{IsFoundEntry}
use Rattle.nofs_names.specs.Searches.Refusals.{IsThere, KnownTrue}
use Rattle.nofs_names.specs.Renames.Parts.{FoundIn, HoldFails, HoldsSlot, done_answer}
use Rattle.nofs_state.specs.Writes.Premises.{RowsPass}
use Rattle.nofs_names.specs.declared.searches.slots.Paired.{Paired}
use Rattle.nofs_state.proofs.OnCores.Unchanged.{goes-after, open-back, reads-keep, safe-keeps}
use Rattle.nofs_state.proofs.OnCores.Replies.{goes-row, goes-read, open-files}
use Rattle.nofs_state.proofs.OnBooks.Machine.{are-agreed}
use Rattle.nofs_names.proofs.OnSteps.OpenMount.{stores-goes}
use Rattle.nofs_names.proofs.OnSearches.HeldSlots.{slot-holds}
use Rattle.nofs_names.proofs.OnRenames.Writes.{rename-follows, rename-step}

-- from the state before the write

pub renamed-goes : (b new : DiskState) (k l : Books) (d g : ℕ) (name other : List ℕ) (r : Record) (x : Pointer)
    (c : Cell) (q : Paired)
    (result : Result (Unit {0}) Refusal) → IsDisk b → IsDisk new → IsSafe b k → k.stopped ≡ false
    → KnowsDirectory b k.at d r.generation r → r.generation ≡ g → (IsTrue b.tells → KnownTrue k b.now → IsThere d b.now)
    → FoundIn b d name q → 0 < x.block
    → (IsTrue b.tells → find b.now d (path_of (q.entry / 16)) ≡ answer.Holds x)
    → (IsTrue b.tells → length (cell_at b.now x.block).payload ≡ 1024)
    → Spells (spelled_entry q.inode q.record.generation other)
    (record { inode = q.inode; generation = q.record.generation; name = other })
    → (IsTrue b.tells → c.payload ≡ put_bytes (64 * (q.entry % 16)) (spelled_entry q.inode q.record.generation other)
    (cell_at b.now x.block).payload)
    → (IsTrue b.tells → c.tag ≡ (cell_at b.now x.block).tag)
    → RowsPass b k (step.Rename d g name other) → Stores b k new l ((x.block, c) ∷ []) result
    → Goes b k new l (step.Rename d g name other) no_claims (done_answer reply.Renamed result)
renamed-goes b new k l d g name other r x c q result is_b is_new safe going directory gen there found-in positive held
    whole spells payload tag pass stores =
    stores-goes b new k k l (step.Rename d g name other) no_claims reply.Renamed
    ((x.block, c) ∷ []) result is_b is_new safe going safe
    (record { at = refl; history = refl; stopped = refl }) apart refl refl refl refl refl
    (λ tells H p o. record {
      step = rename-step b k H p d g name other r x c q is_b tells o (directory.known.same tells) directory.kind gen
          (agrees H p tells o) (pair H p tells o)
          (held tells) (whole tells) spells (payload tells) (tag tells);
      follows = rename-follows b k H p d g name other r x c q is_b tells o
          (directory.known.same tells) directory.kind gen (agrees H p tells o)
          (pair H p tells o) (held tells) (whole tells) spells (payload tells) (tag tells);
      answer = refl;
    }) pass stores
  where
    apart : IsApart ((x.block, c) ∷ []) 0
    apart = ((λ e. omega (arith, e, positive)), tt)

    agrees : (H : List Entry1) (p : Past) → IsTrue b.tells → IsOpen b k H p → agreed (files_in b.now) d ≡ true
    agrees H p tells o = there tells (are-agreed b k H p safe o)

    pair : (H : List Entry1) (p : Past) → IsTrue b.tells → IsOpen b k H p → IsFoundEntry p.world.files b.now d name q
    pair H p tells o = found-in tells (agrees H p tells o) p.world.files (open-files b k H p o)

-- from the state before the slot was found

module _ (old mid : DiskState) (k : Books) (d g : ℕ) (name other : List ℕ) (r : Record) (q : Paired)
    (is_old : IsDisk old) (safe : IsSafe old k)
    (going : k.stopped ≡ false)
    (directory : KnowsDirectory old k.at d r.generation r) (gen : r.generation ≡ g)
    (there : IsTrue old.tells → KnownTrue k old.now → IsThere d old.now)
    (found-in : FoundIn old d name q) (pass : RowsPass old k (step.Rename d g name other)) where
  now-in : StaysButFaults old mid → mid.now ≡ old.now
  now-in stays = stays.cells.now

  told : StaysButFaults old mid → IsTrue mid.tells → IsTrue old.tells
  told stays t = subst (λ (b : Bool). IsTrue b) stays.disk.tells t

  pub rename-ends : (new : DiskState) (l : Books) (x : Pointer) (before c : Cell) (result : Result (Unit {0}) Refusal)
      → IsDisk mid → IsDisk new
      → StaysButFaults old mid → mid.faults ≡ old.faults → InArea k.at (answer.Holds x)
      → (IsTrue old.tells → find old.now d (path_of (q.entry / 16)) ≡ answer.Holds x)
      → (IsTrue old.tells → before ≡ cell_at old.now x.block) → length before.payload ≡ 1024
      → Spells (spelled_entry q.inode q.record.generation other)
      (record { inode = q.inode; generation = q.record.generation; name = other })
      → c.payload ≡ put_bytes (64 * (q.entry % 16)) (spelled_entry q.inode q.record.generation other) before.payload
      → c.tag ≡ before.tag
      → Stores mid k new l ((x.block, c) ∷ []) result
      → Goes old k new l (step.Rename d g name other) no_claims (done_answer reply.Renamed result)
  rename-ends new l x before c result is_mid is_new stays same area held cell whole spells payload tag stores =
      goes-after old mid (reads-keep old mid stays) same new k l (step.Rename d g name other) no_claims
      (done_answer reply.Renamed result)
      (renamed-goes mid new k l d g name other r x c q result is_mid is_new
      (safe-keeps old mid (reads-keep old mid stays) k safe) going
      (record {
        known = KnowsInode-on old mid k.at d r stays directory.known;
        kind = directory.kind;
        generation = directory.generation;
      }) gen
      (λ t. subst (λ (X : Image). KnownTrue k X → IsThere d X) (sym (now-in stays)) (there (told stays t)))
      (λ t. subst (λ (X : Image). IsThere d X → (F : Files) → FilesMatch F X → IsFoundEntry F X d name q)
      (sym (now-in stays)) (found-in (told stays t)))
      (let a = area.0 in omega (arith, a))
      (λ t. subst (λ (X : Image). find X d (path_of (q.entry / 16)) ≡ answer.Holds x) (sym (now-in stays))
      (held (told stays t)))
      (λ t. sym (ap (λ (z : Cell). length z.payload) (was t)) ∙ whole)
      spells
      (λ t. payload ∙ ap (λ (z : Cell). put_bytes (64 * (q.entry % 16))
      (spelled_entry q.inode q.record.generation other) z.payload) (was t))
      (λ t. tag ∙ ap (λ (z : Cell). z.tag) (was t))
      (λ t H p o V. pass (told stays t) H p (open-back old mid (reads-keep old mid stays) k H p o) V) stores)
    where
      was : IsTrue mid.tells → before ≡ cell_at mid.now x.block
      was t = cell (told stays t) ∙ ap (λ (X : Image). cell_at X x.block) (sym (now-in stays))

  -- the slot was not found
  pub rename-unheld : (last : LastRead) (res : Result Pointer Refusal) (why : Refusal)
      → HoldsSlot old mid k.at d (q.entry / 16) last res → res ≡ Err why
      → Goes old k mid k (step.Rename d g name other) no_claims (reply.Refused why)
  rename-unheld last res why holds e =
      go (subst (λ (z : Result Pointer Refusal). IfErr z (HoldFails old mid d (q.entry / 16))) e holds.refused)
    where
      go : HoldFails old mid d (q.entry / 16) why
          → Goes old k mid k (step.Rename d g name other) no_claims (reply.Refused why)
      go (inl f) = goes-row old mid k (step.Rename d g name other) is_old safe holds.stays f.3 why f.0 f.1 going
          (λ t H p o.
          let a = there t (are-agreed old k H p safe o) in
          let h = slot-holds p.world.files old.now d name q (open-files old k H p o) a
          (found-in t a p.world.files (open-files old k H p o)) in
          absurd (f.2 t h.0 h.1))
      go (inr f) =
          subst (λ (w : Refusal). Goes old k mid k (step.Rename d g name other) no_claims (reply.Refused w)) (sym f.0)
          (goes-read old mid k (step.Rename d g name other) is_old safe holds.stays going f.1
          (λ t H p o w c. absurd (let n = pass t H p o p.world in cc (n, c))))
