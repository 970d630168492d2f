-- The contract of the writes of Drop where the inode has another name.
use Rattle.std.proofs.Common.{◌≡◌, ℕ, ◌/◌, ◌%◌, ◌<◌, Bool, true, false, cond, not, ◌&&◌, List, [], ◌∷◌, Option, Some}
use Rattle.std.proofs.Common.{None, IsTrue, Result, refl, sym, ap, ◌∙◌, subst}
use Rattle.std.specs.List.{list_any}
use Rattle.nofs_disk.specs.Disk.{DiskState, IsDisk, StaysButFaults, cell_at}
use Rattle.nofs_disk.specs.declared.tag.Cell.{Cell}
use Rattle.nofs_inode.specs.declared.inode.BackLink.{BackLink}
use Rattle.nofs_disk.specs.declared.tag.Pointer.{Pointer}
use Rattle.nofs_inode.specs.declared.inode.Record.{Record}
use Rattle.nofs_disk.specs.Tag.{tag_of}
use Rattle.nofs_model.specs.Geometry.{Image}
use Rattle.nofs_ptrs.specs.Paths.{path_of}
use Rattle.nofs_model.specs.Slots.{find}
use Rattle.nofs_model.specs.Files.{is_special, is_pair, FileState, Files}
use Rattle.nofs_model.specs.declared.image.path.PathAnswer.TheVariants as answer
use Rattle.nofs_history.specs.Meta.{Gone, Is, is_gone}
use Rattle.nofs_history.specs.Machine.{drop_meta, without_link, link_to}
use Rattle.nofs_history.specs.Claims.{no_claims}
use Rattle.nofs_history.specs.History.{FilesMatch}
use Rattle.nofs_history.specs.declared.machine.history.Entry1.{Entry1}
use Rattle.nofs_history.specs.declared.machine.steps.Step.TheVariants as step
use Rattle.nofs_history.specs.declared.machine.replies.Reply.TheVariants as reply
use Rattle.nofs_history.specs.declared.machine.replies.Refusal.{Refusal}
use Rattle.nofs_agree.specs.Reads.{KnowsInode, KnowsDirectory}
use Rattle.nofs_crashlaw.specs.Numbers.Cells.{table_tag}
use Rattle.nofs_state.specs.Books.Maps.{IsSafe}
use Rattle.nofs_state.specs.Cores.Invariant.{IsOpen, Past}
use Rattle.nofs_state.specs.Cores.Steps.{Goes, entry}
use Rattle.nofs_state.specs.declared.books.maps.Books.{Books}
use Rattle.nofs_state.specs.Writes.Cells.{Stores}
use Rattle.nofs_names.specs.Searches.Slots.{IsFoundEntry}
use Rattle.nofs_names.specs.Searches.Refusals.{IsThere, KnownTrue}
use Rattle.nofs_state.specs.Writes.Premises.{RowsPass, RecordIn}
use Rattle.nofs_names.specs.declared.searches.slots.Paired.{Paired}
use Rattle.nofs_state.proofs.OnCores.Unchanged.{goes-after, open-back, reads-keep, safe-keeps}
use Rattle.nofs_state.proofs.OnCores.Replies.{open-files}
use Rattle.nofs_state.proofs.OnBooks.Machine.{are-agreed}
use Rattle.nofs_state.proofs.OnWrites.Tables.{table_block}
use Rattle.nofs_names.specs.Renames.Parts.{FoundIn, done_answer}
use Rattle.nofs_names.specs.Drops.Parts.{ClearedIn, HasNoNames, KeepsName, relinked}
use Rattle.nofs_crashlaw.proofs.OnUntouched.Matches.{Matched}
use Rattle.nofs_names.proofs.OnDrops.Facts.{IsDropping, drop-apart, dropping-on, drops-in, is-dropping}
use Rattle.nofs_names.proofs.OnDrops.Writes.{Drops, its}
use Rattle.nofs_names.proofs.OnDrops.Endings.{kept-comes}
use Rattle.nofs_names.proofs.OnSteps.OpenMount.{NameComes, stores-goes}

-- the meta that stays, by the file
meta-of : (F : Files) (i : ℕ) (link : BackLink) (f : FileState) → F i ≡ Some f → is_gone (drop_meta F i link) ≡ false
    → drop_meta F i link ≡ Is f.kind f.size (without_link link f.links)
meta-of F i link f e stays =
    go (not (is_special i) && not (list_any (λ l. is_pair F i l) (without_link link f.links))) (as_file e)
    (sym (ap is_gone (as_file e)) ∙ stays)
  where
    as_file : F i ≡ Some f
        → drop_meta F i link
        ≡ cond (not (is_special i) && not (list_any (λ l. is_pair F i l) (without_link link f.links))) Gone
        (Is f.kind f.size (without_link link f.links))
    as_file e = ap (λ (o : Option FileState). elim o [
      | None ↦ Gone
      | Some q ↦ cond
          (not (is_special i) && not (list_any (λ l. is_pair F i l) (without_link link q.links))) Gone
          (Is q.kind q.size (without_link link q.links))
    ]) e

    go : (b : Bool) → drop_meta F i link ≡ cond b Gone (Is f.kind f.size (without_link link f.links))
        → is_gone (cond b Gone (Is f.kind f.size (without_link link f.links))) ≡ false
        → drop_meta F i link ≡ Is f.kind f.size (without_link link f.links)
    go true e h = cc h
    go false e h = e

pub dropped-goes : (b new : DiskState) (k l : Books) (d g : ℕ) (name : List ℕ) (r : Record) (x : Pointer)
    (c1 c2 : Cell) (q : Paired)
    (result : Result (Unit {0}) Refusal) → IsDisk b → IsDisk new → IsSafe b k
    → k.stopped ≡ false → IsDropping b k d g name r x c1 q → KeepsName b k d g q
    → (IsTrue b.tells
    → RecordIn (cell_at b.now (table_block q.inode)) q.inode (relinked q.record (link_to d q.entry g)) c2)
    → tag_of c2.tag ≡ Some (table_tag (table_block q.inode))
    → RowsPass b k (step.Drop d g name) → Stores b k new l ((x.block, c1) ∷ (table_block q.inode, c2) ∷ []) result
    → Goes b k new l (step.Drop d g name) no_claims (done_answer (reply.Dropped false) result)
dropped-goes b new k l d g name r x c1 c2 q result is_b is_new safe going it keeps table table-tag pass stores =
    stores-goes b new k k l (step.Drop d g name) no_claims (reply.Dropped false)
    ((x.block, c1) ∷ (table_block q.inode, c2) ∷ []) result is_b is_new safe going
    safe (record { at = refl; history = refl; stopped = refl })
    (drop-apart b k d g name r x c1 q it c2) refl refl refl refl refl comes pass stores
  where
    comes : (tells : IsTrue b.tells) (H : List Entry1) (p : Past) → IsOpen b k H p
        → NameComes b H p k (step.Drop d g name) no_claims (reply.Dropped false)
        ((x.block, c1) ∷ (table_block q.inode, c2) ∷ [])
    comes tells H p o = kept-comes b k H p d g name r x c1 c2 q
        (relinked q.record (link_to d q.entry g)) is_b tells o facts (it.known.same tells) kept refl
      where
        facts : Drops b p d g name r x c1 c2 q (relinked q.record (link_to d q.entry g))
        facts = drops-in b k d g name r x c1 q it H p tells safe o c2 (relinked q.record (link_to d q.entry g))
            (table tells) table-tag

        f : IsFoundEntry p.world.files b.now d name q
        f = facts.pair

        m : Matched p.world.files b.now q.inode
        m = its b k H p d g name r x c1 c2 q (relinked q.record (link_to d q.entry g)) is_b tells o facts

        kept : drop_meta p.world.files facts.pair.pair.entry.inode (link_to d q.entry g)
            ≡ Is m.file.kind m.file.size (without_link (link_to d q.entry g) m.file.links)
        kept = meta-of p.world.files f.pair.entry.inode (link_to d q.entry g) m.file
            (ap p.world.files f.pair.names ∙ m.is)
            (ap (λ (i : ℕ). is_gone (drop_meta p.world.files i (link_to d q.entry g))) f.pair.names
            ∙ keeps tells (are-agreed b k H p safe o) p.world.files (open-files b k H p o))

-- from the state before the table was read
pub drop-ends : (old mid new : DiskState) (k l : Books) (d g : ℕ) (name : List ℕ) (r : Record) (x : Pointer)
    (c1 before c2 : Cell) (q : Paired)
    (result : Result (Unit {0}) Refusal) → IsDisk mid → IsDisk new → StaysButFaults old mid → mid.faults ≡ old.faults
    → IsSafe old k → k.stopped ≡ false
    → KnowsDirectory old k.at d r.generation r
    → r.generation ≡ g → (IsTrue old.tells → KnownTrue k old.now → IsThere d old.now)
    → KnowsInode old k.at q.inode q.record → FoundIn old d name q → HasNoNames old q.inode
    → KeepsName old k d g q → 0 < x.block
    → (IsTrue old.tells → find old.now d (path_of (q.entry / 16)) ≡ answer.Holds x) → ClearedIn old x (q.entry % 16) c1
    → (IsTrue old.tells → before ≡ cell_at old.now (table_block q.inode))
    → RecordIn before q.inode (relinked q.record (link_to d q.entry g)) c2
    → tag_of c2.tag ≡ Some (table_tag (table_block q.inode))
    → RowsPass old k (step.Drop d g name) → Stores mid k new l ((x.block, c1) ∷ (table_block q.inode, c2) ∷ []) result
    → Goes old k new l (step.Drop d g name) no_claims (done_answer (reply.Dropped false) result)
drop-ends old mid new k l d g name r x c1 before c2 q result is_mid is_new stays same safe going directory gen there
    record-known found-in no_names keeps positive
    held cleared table record-in table-tag pass stores =
    let dropping = is-dropping old k d g name r x c1 q directory gen there record-known found-in no_names positive held
    cleared in
    goes-after old mid (reads-keep old mid stays) same new k l _ no_claims (done_answer (reply.Dropped false) result)
    (dropped-goes mid new k l d g name r x c1 c2 q result is_mid is_new
    (safe-keeps old mid (reads-keep old mid stays) k safe) going
    (dropping-on old k d g name r x c1 q dropping mid stays)
    (λ t all F m. keeps (told t) (subst (λ (X : Image). KnownTrue k X) now all) F
    (subst (λ (X : Image). FilesMatch F X) now m))
    (λ t. subst (λ (z : Cell). RecordIn z q.inode (relinked q.record (link_to d q.entry g)) c2)
    (table (told t) ∙ ap (λ (X : Image). cell_at X (table_block q.inode)) (sym now)) record-in)
    table-tag
    (λ t H p o V. pass (told t) H p (open-back old mid (reads-keep old mid stays) k H p o) V) stores)
  where
    now : mid.now ≡ old.now
    now = stays.cells.now

    told : IsTrue mid.tells → IsTrue old.tells
    told t = subst (λ (b : Bool). IsTrue b) stays.disk.tells t
