-- The contract of the writes of Drop where the inode goes.
use Rattle.std.proofs.Common.{◌≡◌, ℕ, ◌+◌, ◌-◌, ◌/◌, ◌%◌, ◌^◌, ◌<◌, ◌≤◌, ◌||◌, inl, inr, Bool, true, false, List, []}
use Rattle.std.proofs.Common.{◌∷◌, length, Some, IsTrue, Result, Ok, Err, refl, sym, ap, ◌∙◌, subst, subst₂, None}
use Rattle.std.proofs.lemmas.List.{length-set}
use Rattle.nofs_disk.specs.Disk.{DiskState, IsDisk, StaysButFaults, cell_at}
use Rattle.nofs_disk.specs.declared.tag.Cell.{Cell}
use Rattle.nofs_disk.specs.declared.tag.Pointer.{Pointer}
use Rattle.nofs_inode.specs.declared.inode.Record.{Record}
use Rattle.nofs_super.specs.declared.superblock.SuperBlock.{SuperBlock}
use Rattle.nofs_disk.specs.Tag.{tag_of}
use Rattle.nofs_inode.specs.InodeRecords.{is_live, free_record}
use Rattle.nofs_model.specs.Geometry.{Image}
use Rattle.nofs_ptrs.specs.Paths.{path_of}
use Rattle.nofs_model.specs.Slots.{find}
use Rattle.nofs_model.specs.Files.{files_in, agreed}
use Rattle.nofs_model.specs.Owners.{owner}
use Rattle.nofs_model.specs.declared.image.path.PathAnswer.TheVariants as answer
use Rattle.nofs_history.specs.Meta.{Meta, Gone, Is, is_gone}
use Rattle.nofs_history.specs.Machine.{drop_meta, link_to}
use Rattle.nofs_history.specs.Claims.{no_claims}
use Rattle.nofs_history.specs.History.{FilesMatch}
use Rattle.nofs_history.specs.declared.machine.history.Entry1.{Entry1}
use Rattle.nofs_history.specs.declared.machine.steps.Step.TheVariants as step
use Rattle.nofs_history.specs.declared.machine.replies.Reply.TheVariants as reply
use Rattle.nofs_history.specs.declared.machine.replies.Refusal.{Refusal}
use Rattle.nofs_history.specs.declared.machine.replies.Refusal.TheVariants as refusal
use Rattle.nofs_agree.specs.Reads.{KnowsInode, KnowsDirectory, IsAt}
use Rattle.nofs_crashlaw.specs.Numbers.Cells.{table_tag}
use Rattle.nofs_state.specs.Books.Maps.{IsSafe}
use Rattle.nofs_state.specs.Cores.Invariant.{IsOpen, Past}
use Rattle.nofs_state.specs.Cores.Steps.{Goes, entry}
use Rattle.nofs_state.specs.declared.books.maps.Books.{Books}
use Rattle.nofs_disk.specs.Order.{IsApart}
use Rattle.nofs_state.specs.Writes.Cells.{Stores, Stored, NotStored}
use Rattle.nofs_names.specs.Searches.Refusals.{IsThere, KnownTrue}
use Rattle.nofs_state.specs.Writes.Premises.{RowsPass, RecordIn}
use Rattle.nofs_names.specs.declared.searches.slots.Paired.{Paired}
use Rattle.nofs_bits.specs.Bits.{is_set}
use Rattle.std.proofs.lemmas.Bool.{cases_lt}
use Rattle.nofs_state.proofs.OnBooks.Bits.{set-length}
use Rattle.nofs_state.proofs.OnCores.Unchanged.{goes-after, open-back, reads-keep, safe-keeps}
use Rattle.nofs_state.proofs.OnCores.Replies.{open-files}
use Rattle.nofs_state.proofs.OnBooks.Machine.{are-agreed}
use Rattle.nofs_state.proofs.OnWrites.Tables.{table_block}
use Rattle.nofs_state.proofs.OnWrites.TwoWrites.{safe-writes}
use Rattle.nofs_names.specs.Renames.Parts.{FoundIn, done_answer}
use Rattle.nofs_names.specs.Drops.Parts.{ClearedIn, HasNoNames}
use Rattle.nofs_names.specs.Drops.Removal.{BlocksOf, FreedAs, LosesName, is_of}
use Rattle.nofs_names.proofs.OnDrops.Maps.{freed-from}
use Rattle.nofs_names.proofs.OnDrops.Freed.{Freed}
use Rattle.nofs_names.proofs.OnDrops.Facts.{IsDropping, drop-apart, dropping-on, drops-in, is-dropping}
use Rattle.nofs_names.proofs.OnDrops.Writes.{Drops}
use Rattle.nofs_names.proofs.OnDrops.Endings.{gone-comes, gone-step}
use Rattle.nofs_names.proofs.OnSteps.OpenMount.{done-goes, fault-goes}
use Rattle.std.proofs.Math.Bool.{or-false}

-- the maps after the removal have the sizes, too, and free blocks of the data area alone
pub safe-freed : (d : DiskState) (k l : Books) (i : ℕ) (freed : List Bool) → IsSafe d k → FreedAs k l i freed
    → length freed ≡ k.at.blocks
    → ((n : ℕ) → is_set freed n ≡ true → 1 + k.at.inodes / 4 ≤ n) → IsSafe d l
safe-freed d k l i freed s a size in_area = record {
  at = subst (λ (z : SuperBlock). IsAt d z) (sym a.at) s.at;
  mount = subst (λ (z : SuperBlock). z.mount < 2 ^ 24) (sym a.at) s.mount;
  serial = subst (λ (n : ℕ). n ≤ 2 ^ 40) (sym a.serial) s.serial;
  unknown_inodes = ap length a.unknown_inodes ∙ set-length k.unknown_inodes (i - 1) false
      ∙ s.unknown_inodes ∙ sym (ap (λ (z : SuperBlock). z.inodes) a.at);
  free_inodes = ap length a.free_inodes ∙ set-length k.free_inodes (i - 1) true
      ∙ s.free_inodes ∙ sym (ap (λ (z : SuperBlock). z.inodes) a.at);
  agreement = ap length a.agreement ∙ length-set k.agreement (i - 1) None
      ∙ s.agreement ∙ sym (ap (λ (z : SuperBlock). z.inodes) a.at);
  unknown_blocks = a.blocks.unknown_size ∙ s.unknown_blocks ∙ sym (ap (λ (z : SuperBlock). z.blocks) a.at);
  free_blocks = a.blocks.free_size ∙ s.free_blocks ∙ sym (ap (λ (z : SuperBlock). z.blocks) a.at);
  in_area = λ n t. subst (λ (z : SuperBlock). 1 + z.inodes / 4 ≤ n) (sym a.at) (elim (cases_lt n k.at.blocks) [
    | inl low ↦ by-bit n (is_set freed n) refl (sym (a.blocks.freeing n low) ∙ t)
    | inr high ↦ s.in_area n (sym (a.blocks.free_rest n high) ∙ t)
  ]);
}
  where
    by-bit : (n : ℕ) (b : Bool)
        → is_set freed n ≡ b → (is_set k.free_blocks n || is_set freed n) ≡ true → 1 + k.at.inodes / 4 ≤ n
    by-bit n true e t = in_area n e
    by-bit n false e t =
        s.in_area n (sym ((λ z. is_set k.free_blocks n || e z) ∙ or-false (is_set k.free_blocks n)) ∙ t)

pub removed-goes : (b new : DiskState) (k l : Books) (d g : ℕ) (name : List ℕ) (r : Record) (x : Pointer) (c1 c2 : Cell)
    (q : Paired) (freed : List Bool)
    → IsDisk b → IsDisk new → IsSafe b k → k.stopped ≡ false → IsDropping b k d g name r x c1 q
    → q.record.kind ≡ Some q.kind → LosesName b k d g q
    → (IsTrue b.tells → RecordIn (cell_at b.now (table_block q.inode)) q.inode free_record c2)
    → tag_of c2.tag ≡ Some (table_tag (table_block q.inode))
    → BlocksOf b k.at q.inode freed
    → RowsPass b k (step.Drop d g name) → (result : Result (Unit {0}) Refusal) (m : Books)
    → Stores b k new m ((x.block, c1) ∷ (table_block q.inode, c2) ∷ []) result
    → (result ≡ Ok tt → FreedAs m l q.inode freed)
    → ((why : Refusal) → result ≡ Err why → l ≡ m)
    → Goes b k new l (step.Drop d g name) no_claims (done_answer (reply.Dropped true) result)
removed-goes b new k l d g name r x c1 c2 q freed is_b is_new safe going it q-kind loses table table-tag blocks pass
    result m stores ok err = go stores
  where
    apart : IsApart ((x.block, c1) ∷ (table_block q.inode, c2) ∷ []) 0
    apart = drop-apart b k d g name r x c1 q it c2

    facts : (tells : IsTrue b.tells) (H : List Entry1) (p : Past) → IsOpen b k H p
        → Drops b p d g name r x c1 c2 q free_record
    facts tells H p o = drops-in b k d g name r x c1 q it H p tells safe o c2 free_record (table tells) table-tag

    gone : (tells : IsTrue b.tells) (H : List Entry1) (p : Past) (o : IsOpen b k H p)
        → drop_meta p.world.files (facts tells H p o).pair.pair.entry.inode (link_to d q.entry g) ≡ Gone
    gone tells H p o = is-gone (drop_meta p.world.files (facts tells H p o).pair.pair.entry.inode (link_to d q.entry g))
        (ap (λ (i : ℕ). is_gone (drop_meta p.world.files i (link_to d q.entry g))) (facts tells H p o).pair.pair.names
        ∙ loses tells (are-agreed b k H p safe o) p.world.files (open-files b k H p o))
      where
        is-gone : (w : Meta) → is_gone w ≡ true → w ≡ Gone
        is-gone Gone e = refl
        is-gone (Is kind size links) e = cc e

    -- the maps once the blocks are freed
    freed-now : (tells : IsTrue b.tells) (H : List Entry1) (p : Past) (o : IsOpen b k H p) → FreedAs k l q.inode freed
        → Freed k l (facts tells H p o).pair.pair.entry.inode
        (λ n. is_of (facts tells H p o).pair.pair.entry.inode (p.world.homes n))
    freed-now tells H p o a =
        subst (λ (i : ℕ). Freed k l i (λ n. is_of i (p.world.homes n))) (sym (facts tells H p o).pair.pair.names)
        (freed-from k l q.inode freed (λ n. is_of q.inode (p.world.homes n))
        (safe.unknown_inodes, safe.free_inodes) range.0 range.1 a
        (λ n low. blocks.owned tells (facts tells H p o).pair.pair.agreed n low
        ∙ ap (is_of q.inode) (sym (o.homes n (subst (λ (z : ℕ). n < z) (sym o.says.blocks) low))))
        (λ n high. ap (is_of q.inode) (o.homes_past n (subst (λ (z : ℕ). z ≤ n) (sym o.says.blocks) high))))
      where
        range : (1 ≤ q.inode) × (q.inode ≤ k.at.inodes)
        range = it.known.range (let e : is_live q.record ≡ true = rw q-kind refl in e)

    go : Stores b k new m ((x.block, c1) ∷ (table_block q.inode, c2) ∷ []) result
        → Goes b k new l (step.Drop d g name) no_claims (done_answer (reply.Dropped true) result)
    go (Stored writes same e) =
        let a : FreedAs k l q.inode freed = subst (λ (z : Books). FreedAs z l q.inode freed) same (ok e) in
        subst (λ (z : Result (Unit {0}) Refusal). Goes b k new l (step.Drop d g name) no_claims
        (done_answer (reply.Dropped true) z)) (sym e)
        (done-goes b new k l (step.Drop d g name) no_claims (reply.Dropped true)
        ((x.block, c1) ∷ (table_block q.inode, c2) ∷ []) is_b is_new safe going
        (safe-freed new k l q.inode freed
        (safe-writes b new k ((x.block, c1) ∷ (table_block q.inode, c2) ∷ []) (Ok tt) k.stopped writes apart safe)
        a blocks.size blocks.in_area)
        (record { at = a.at; history = a.history; stopped = a.stopped }) refl refl refl refl
        (λ tells H p o. gone-comes b k H p d g name r x c1 c2 q free_record is_b tells o (facts tells H p o)
        (it.known.same tells) (gone tells H p o) refl l
        (freed-now tells H p o a)) pass writes)
    go (NotStored f writes same e) =
        subst₂ (λ (z : Books) (w : Result (Unit {0}) Refusal). Goes b k new z (step.Drop d g name) no_claims
        (done_answer (reply.Dropped true) w)) (sym (err refusal.WriteFault e ∙ same)) (sym e)
        (fault-goes b new k k (step.Drop d g name) no_claims
        ((x.block, c1) ∷ (table_block q.inode, c2) ∷ []) f is_b safe going safe
        (record { at = refl; history = refl; stopped = refl }) apart refl refl
        (λ tells H p o. gone-step b k H p d g name r x c1 c2 q free_record is_b tells o (facts tells H p o)
        (it.known.same tells) (gone tells H p o) refl)
        pass writes)

-- from the state before the table was read
pub remove-ends : (old mid new : DiskState) (k m l : Books) (d g : ℕ) (name : List ℕ) (r : Record) (x : Pointer)
    (c1 before c2 : Cell) (q : Paired)
    (freed : List Bool) (result : Result (Unit {0}) Refusal) → IsDisk mid → IsDisk new → StaysButFaults old mid
    → mid.faults ≡ old.faults → IsSafe old k → k.stopped ≡ false
    → KnowsDirectory old k.at d r.generation r
    → r.generation ≡ g → (IsTrue old.tells → KnownTrue k old.now → IsThere d old.now)
    → KnowsInode old k.at q.inode q.record → q.record.kind ≡ Some q.kind → FoundIn old d name q → HasNoNames old q.inode
    → LosesName old k d g q → 0 < x.block
    → (IsTrue old.tells → find old.now d (path_of (q.entry / 16)) ≡ answer.Holds x) → ClearedIn old x (q.entry % 16) c1
    → (IsTrue old.tells → before ≡ cell_at old.now (table_block q.inode)) → RecordIn before q.inode free_record c2
    → tag_of c2.tag ≡ Some (table_tag (table_block q.inode)) → BlocksOf old k.at q.inode freed
    → RowsPass old k (step.Drop d g name) → Stores mid k new m ((x.block, c1) ∷ (table_block q.inode, c2) ∷ []) result
    → (result ≡ Ok tt → FreedAs m l q.inode freed) → ((why : Refusal) → result ≡ Err why → l ≡ m)
    → Goes old k new l (step.Drop d g name) no_claims (done_answer (reply.Dropped true) result)
remove-ends old mid new k m l d g name r x c1 before c2 q freed result is_mid is_new stays same safe going directory
    gen there record-known q-kind found-in
    no_names loses positive held cleared table record-in table-tag blocks pass stores ok err =
    let dropping = is-dropping old k d g name r x c1 q directory gen there record-known found-in no_names positive held
    cleared in
    goes-after old mid (reads-keep old mid stays) same new k l (step.Drop d g name) no_claims
    (done_answer (reply.Dropped true) result)
    (removed-goes mid new k l d g name r x c1 c2 q freed is_mid is_new
    (safe-keeps old mid (reads-keep old mid stays) k safe) going
    (dropping-on old k d g name r x c1 q dropping mid stays)
    q-kind
    (λ t all F w. loses (told t) (subst (λ (X : Image). KnownTrue k X) now all) F
    (subst (λ (X : Image). FilesMatch F X) now w))
    (λ t. subst (λ (z : Cell). RecordIn z q.inode free_record c2)
    (table (told t) ∙ ap (λ (X : Image). cell_at X (table_block q.inode)) (sym now)) record-in)
    table-tag
    (record {
      size = blocks.size;
      in_area = blocks.in_area;
      owned =
          λ t a n low. subst
          (λ (X : Image). agreed (files_in X) q.inode ≡ true → is_set freed n ≡ is_of q.inode (owner X n)) (sym now)
          (λ b. blocks.owned (told t) b n low) a;
    })
    (λ t H p o V. pass (told t) H p (open-back old mid (reads-keep old mid stays) k H p o) V) result m stores ok err)
  where
    now : mid.now ≡ old.now
    now = stays.cells.now

    told : IsTrue mid.tells → IsTrue old.tells
    told t = subst (λ (b : Bool). IsTrue b) stays.disk.tells t
