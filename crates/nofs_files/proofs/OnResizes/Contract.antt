-- The contract of a Resize from the state before its writes.
use Rattle.std.proofs.Common.{◌≡◌, ℕ, ◌+◌, ◌^◌, ◌≤◌, ◌⊎◌, Bool, true, false, List, [], ◌∷◌, length, Option, Some, None}
use Rattle.std.proofs.Common.{IsTrue, Result, Ok, Err, refl, sym, ap, ◌∙◌, subst, subst₂, arith}
use Rattle.std.specs.Prelude.{IfSome}
use Rattle.nofs_ptrs.specs.Paths.{slot_limit, path_of}
use Rattle.nofs_disk.specs.Disk.{DiskState, IsDisk, Rose, StaysButFaults, cell_at}
use Rattle.nofs_disk.specs.declared.tag.Cell.{Cell}
use Rattle.nofs_inode.specs.declared.inode.Record.{Record}
use Rattle.nofs_super.specs.declared.superblock.SuperBlock.{SuperBlock}
use Rattle.nofs_disk.specs.Tag.{tag_of}
use Rattle.nofs_model.specs.Geometry.{Image}
use Rattle.nofs_model.specs.Files.{files_in, agreed}
use Rattle.nofs_model.specs.Slots.{find}
use Rattle.nofs_history.specs.Machine.{gives}
use Rattle.nofs_history.specs.Claims.{no_claims}
use Rattle.nofs_history.specs.declared.machine.history.Entry1.{Entry1}
use Rattle.nofs_history.specs.declared.machine.steps.Step.TheVariants as step
use Rattle.nofs_history.specs.declared.machine.replies.Reply.TheVariants as reply
use Rattle.nofs_history.specs.declared.machine.replies.Refusal.{Refusal}
use Rattle.nofs_history.specs.declared.machine.replies.Refusal.TheVariants as refusal
use Rattle.nofs_agree.specs.Chain.{AreTrue}
use Rattle.nofs_agree.proofs.OnChain.{KnowsInode-on}
use Rattle.nofs_crashlaw.specs.Numbers.Cells.{table_tag}
use Rattle.nofs_state.specs.Cores.Invariant.{IsOpen, Past}
use Rattle.nofs_state.specs.Cores.Steps.{Goes, IsRow, WritesAlone, entry}
use Rattle.nofs_state.specs.Inodes.Opened.{is_current}
use Rattle.nofs_state.specs.Inodes.Blocks.{BlocksFreed, IsBlockAmong}
use Rattle.nofs_state.specs.declared.books.maps.Books.{Books}
use Rattle.nofs_disk.specs.Order.{IsApart}
use Rattle.nofs_state.specs.Writes.Cells.{Stores, Stored, NotStored}
use Rattle.nofs_state.specs.Writes.Premises.{RecordIn}
use Rattle.nofs_files.specs.Puts.{IsRecordCell}
use Rattle.nofs_state.proofs.OnCores.Done.{goes-done}
use Rattle.nofs_crashlaw.proofs.OnImages.Below.{live-stands}
use Rattle.nofs_state.proofs.OnCores.Faults.{goes-fault, stopped_world, stopped_books}
use Rattle.nofs_state.proofs.OnCores.Unchanged.{goes-after, open-back, reads-keep, safe-keeps}
use Rattle.nofs_state.proofs.OnCores.Replies.{goes-read}
use Rattle.nofs_state.proofs.OnBooks.Machine.{agreed-live, are-agreed}
use Rattle.nofs_state.proofs.OnWrites.Tables.{table_block}
use Rattle.nofs_state.proofs.OnWrites.TwoWrites.{safe-writes, writes-cells}
use Rattle.nofs_state.proofs.OnBooks.CurrentFiles.{current-agreed}
use Rattle.nofs_files.specs.Resizes.{CellInData, IsCutMap, IsEdge, IsTail, MayCut, cut_record, cut_writes, first_cut}
use Rattle.nofs_files.specs.Resizes.{kept_slots, maybe, resize_answer}
use Rattle.nofs_files.specs.declared.resizes.cuts.NewCell.{NewCell}
use Rattle.nofs_files.specs.declared.resizes.cuts.Edge.{Edge}
use Rattle.nofs_files.proofs.OnResizes.Writes.{Cuts}
use Rattle.nofs_files.proofs.OnResizes.Image.{Resizing, cut-once}
use Rattle.nofs_files.proofs.OnResizes.Counts.{cut-exact}
use Rattle.nofs_files.proofs.OnResizes.Maps.{safe-freed}
use Rattle.nofs_files.proofs.OnResizes.Proper.{claim}
use Rattle.nofs_files.proofs.OnResizes.Mount.{resize-done, resize-numbered, resize-proper}

maybe-apart : (at : SuperBlock) (w : Option NewCell) (ws : List (ℕ × Cell)) → IfSome w (CellInData at) → IsApart ws 0
    → IsApart (maybe w ws) 0
maybe-apart at None ws inside rest = rest
maybe-apart at (Some it) ws inside rest = ((λ e. let z = inside.0 in omega (arith, e, z)), rest)

maybe-length : (w : Option NewCell) (ws : List (ℕ × Cell)) (n : ℕ) → (1 ≤ length ws) × (length ws ≤ n)
    → (1 ≤ length (maybe w ws)) × (length (maybe w ws) ≤ n + 1)
maybe-length None ws n h = (h.0, (let q = h.1 in omega (arith, q)))
maybe-length (Some it) ws n h = ((omega arith), (let q = h.1 in omega (arith, q)))

cut-count : (tail : Option NewCell) (edge : Edge) (t : ℕ) (c2 : Cell) → (1 ≤ length (cut_writes tail edge t c2))
    × (length (cut_writes tail edge t c2) ≤ 4)
cut-count tail edge t c2 = maybe-length tail _ 3
    (maybe-length edge.below _ 2 (maybe-length edge.above ((t, c2) ∷ []) 1 (omega arith, omega arith)))

module _ (d new : DiskState) (k : Books) (i g size : ℕ) (r : Record) (tail : Option NewCell) (edge : Edge)
    (freed : List Bool) (c2 : Cell) (is_d : IsDisk d)
    (is_new : IsDisk new) (ready : MayCut d k i g size r tail edge freed)
    (table : IsTrue d.tells
    → RecordIn (cell_at d.now (table_block i)) i (cut_record r size (kept_slots r.size size)) c2)
    (table-tag : tag_of c2.tag ≡ Some (table_tag (table_block i))) where
  apart : IsApart (cut_writes tail edge (table_block i) c2) 0
  apart = maybe-apart k.at tail _ ready.tail_data (maybe-apart k.at edge.below _ ready.edge_data.below
      (maybe-apart k.at edge.above _ ready.edge_data.above ((λ e. omega (arith, e)), tt)))

  cuts : (H : List Entry1) (p : Past) → IsTrue d.tells → IsOpen d k H p → Cuts d.now i g size r tail edge c2
  cuts H p tells o = record {
    rec = ready.file.known.same tells;
    kind = ready.file.kind;
    generation = ready.file.generation;
    agrees = agrees;
    eight = ready.eight;
    old = ready.old;
    new = ready.new;
    tail_is = ready.tail_is tells;
    edge_is = ready.edge_is tells;
    has = record {
      range = (live-stands d.now i (agreed-live d.now i agrees)).range;
      here = (table tells).here;
      others = (table tells).others;
    };
    tag_table = table-tag;
  }
    where
      agrees : agreed (files_in d.now) i ≡ true
      agrees = current-agreed d.now i g (ready.current tells (are-agreed d k H p ready.safe o))

  abbrev resizing : (H : List Entry1) (p : Past) → IsTrue d.tells → IsOpen d k H p → Resizing
  resizing H p tells o = record {
    standing = record { old = d; k = k; H = H; p = p; is_old = is_d; tells = tells; o = o };
    i = i;
    g = g;
    size = size;
    r = r;
    tail = tail;
    edge = edge;
    c2 = c2;
    h = cuts H p tells o;
  }

  owes : IsTrue d.tells → (H : List Entry1) (p : Past) → IsOpen d k H p
      → IsRow p.world.files (step.Resize i g size) no_claims (cut_writes tail edge (table_block i) c2)
  owes tells H p o = record {
    once = cut-once (resizing H p tells o);
    exact = cut-exact (resizing H p tells o);
  }

  pub resized-goes : (l m : Books) (result : Result (Unit {0}) Refusal)
      → Stores d k new m (cut_writes tail edge (table_block i) c2) result
      → (result ≡ Ok tt → BlocksFreed m l freed) → ((why : Refusal) → result ≡ Err why → l ≡ m)
      → Goes d k new l (step.Resize i g size) no_claims (resize_answer result)
  unfolding gives
  resized-goes l m result (Stored writes same e) ok err =
      let a : BlocksFreed k l freed = subst (λ (z : Books). BlocksFreed z l freed) same (ok e) in
      let going : l.stopped ≡ false = ap (λ (b : Books). b.stopped) a.same ∙ ready.going in
      subst (λ (z : Result (Unit {0}) Refusal). Goes d k new l (step.Resize i g size) no_claims (resize_answer z))
      (sym e)
      (goes-done d new k l (step.Resize i g size) no_claims reply.Resized
      (cut_writes tail edge (table_block i) c2) is_d is_new ready.going
      (ap (λ (b : Books). b.at) a.same) (ap (λ (b : Books). b.history) a.same) going
      (safe-freed new k l freed (safe-writes d new k (cut_writes tail edge (table_block i) c2)
      (Ok tt) k.stopped writes apart ready.safe) a ready.map.size
      ready.map.in_area) refl writes.adds.disk writes.adds.past writes.later writes.no_fault
      (WritesAlone refl (writes-cells k (step.Resize i g size) no_claims writes
      (cut-count tail edge (table_block i) c2) owes)) ready.safe
      (λ tells H p o. resize-done (resizing H p tells o) new l freed ready.map a writes (ready.rows tells H p o)))
  resized-goes l m result (NotStored f writes same e) ok err = subst₂
      (λ (z : Books) (w : Result (Unit {0}) Refusal). Goes d k new z (step.Resize i g size) no_claims (resize_answer w))
      (sym (err refusal.WriteFault e ∙ same)) (sym e)
      (goes-fault d new k (stopped_books k)
      (step.Resize i g size) no_claims is_d ready.going refl refl refl writes.adds.disk writes.adds.past writes.cause
      writes.later (WritesAlone refl (writes-cells k (step.Resize i g size) no_claims writes
      (cut-count tail edge (table_block i) c2) owes)) ready.safe
      (safe-writes d new k (cut_writes tail edge (table_block i) c2) (Err f) true writes apart ready.safe)
      (λ tells H p o. resize-numbered (resizing H p tells o) new writes.adds)
      (λ tells caller H p o. (
        resize-proper (resizing H p tells o) new
            (entry caller d new (step.Resize i g size) no_claims (reply.Refused refusal.WriteFault)) refl writes.adds,
        ready.rows tells H p o (stopped_world p.world),
        refl,
        claim (resizing H p tells o),
      )))

-- a map of what is cut stays over reads
pub map-after : (old mid : DiskState) (k : Books) (i m : ℕ) (freed : List Bool) → StaysButFaults old mid
    → IsCutMap old k.at i m freed
    → IsCutMap mid k.at i m freed
map-after old mid k i m freed stays q = record {
  size = q.size;
  in_area = q.in_area;
  sound = λ t n s. subst (λ (X : Image). IsBlockAmong X i m slot_limit n
      ⊎ IsBlockAmong X i (first_cut m) (2 ^ 32 + 66) n) (sym now) (q.sound (told t) n s);
  contents = λ t n x from low held. q.contents (told t) n x from low
      (ap (λ (X : Image). find X i (path_of n)) (sym now) ∙ held);
  pointers = λ t n x from high held. q.pointers (told t) n x from high
      (ap (λ (X : Image). find X i (path_of n)) (sym now) ∙ held);
}
  where
    now : mid.now ≡ old.now
    now = stays.cells.now

    told : IsTrue mid.tells → IsTrue old.tells
    told t = subst (λ (b : Bool). IsTrue b) stays.disk.tells t

-- so does all that was read
pub ready-after : (old mid : DiskState) (k : Books) (i g size : ℕ) (r : Record) (tail : Option NewCell) (edge : Edge)
    (freed : List Bool)
    → StaysButFaults old mid → MayCut old k i g size r tail edge freed → MayCut mid k i g size r tail edge freed
ready-after old mid k i g size r tail edge freed stays q = record {
  safe = safe-keeps old mid (reads-keep old mid stays) k q.safe;
  going = q.going;
  file = record {
    known = KnowsInode-on old mid k.at i r stays q.file.known;
    kind = q.file.kind;
    generation = q.file.generation;
  };
  current = λ t a. subst (λ (X : Image). is_current X i g ≡ true) (sym now)
      (q.current (told t) (subst (λ (X : Image). AreTrue X k.agreement) now a));
  old = q.old;
  new = q.new;
  eight = q.eight;
  tail_data = q.tail_data;
  edge_data = q.edge_data;
  tail_is = λ t. subst (λ (X : Image). IsTail X i r.size size tail) (sym now) (q.tail_is (told t));
  edge_is = λ t. subst (λ (X : Image). IsEdge X i (kept_slots r.size size) edge) (sym now) (q.edge_is (told t));
  map = map-after old mid k i (kept_slots r.size size) freed stays q.map;
  rows = λ t H p o V. q.rows (told t) H p (open-back old mid (reads-keep old mid stays) k H p o) V;
}
  where
    now : mid.now ≡ old.now
    now = stays.cells.now

    told : IsTrue mid.tells → IsTrue old.tells
    told t = subst (λ (b : Bool). IsTrue b) stays.disk.tells t

-- from the state before the table was read
pub resize-ends : {old mid new : DiskState} {k l m : Books} {i g size t : ℕ} {r : Record} {tail : Option NewCell}
    {edge : Edge} {freed : List Bool}
    {before c2 : Cell} {result : Result (Unit {0}) Refusal} → IsDisk mid → IsDisk new → StaysButFaults old mid
    → mid.faults ≡ old.faults → MayCut old k i g size r tail edge freed
    → (IsTrue old.tells → before ≡ cell_at old.now (table_block i))
    → IsRecordCell before i (cut_record r size (kept_slots r.size size)) c2
    → t ≡ table_block i → Stores mid k new m (cut_writes tail edge t c2) result
    → (result ≡ Ok tt → BlocksFreed m l freed)
    → ((why : Refusal) → result ≡ Err why → l ≡ m)
    → Goes old k new l (step.Resize i g size) no_claims (resize_answer result)
resize-ends {old} {mid} {new} {k} {l} {m} {i} {g} {size} {t} {r} {tail} {edge} {freed} {before} {c2} {result} is_mid
    is_new stays same may read table at-table stores
    ok err =
    goes-after old mid (reads-keep old mid stays) same new k l (step.Resize i g size) no_claims (resize_answer result)
    (resized-goes mid new k i g size r tail edge freed c2 is_mid is_new
    (ready-after old mid k i g size r tail edge freed stays may)
    (λ t. subst (λ (c : Cell). RecordIn c i (cut_record r size (kept_slots r.size size)) c2)
    (read (subst (λ (b : Bool). IsTrue b) stays.disk.tells t)
    ∙ ap (λ (X : Image). cell_at X (table_block i)) (sym stays.cells.now)) table.here)
    table.tag l m result
    (subst (λ (n : ℕ). Stores mid k new m (cut_writes tail edge n c2) result) at-table stores) ok err)

-- the table was not read
pub resize-unread : {old new : DiskState} {k : Books} {i g size : ℕ} {r : Record} {tail : Option NewCell} {edge : Edge}
    {freed : List Bool} {why : Refusal}
    → IsDisk old → MayCut old k i g size r tail edge freed → StaysButFaults old new
    → (why ≡ refusal.ReadFault) × Rose old.faults new.faults
    → Goes old k new k (step.Resize i g size) no_claims (reply.Refused why)
resize-unread {old} {new} {k} {i} {g} {size} {r} {tail} {edge} {freed} {why} disk may stays (is, rose) =
    subst (λ (w : Refusal). Goes old k new k (step.Resize i g size) no_claims (reply.Refused w)) (sym is)
    (goes-read old new k (step.Resize i g size) disk may.safe stays may.going rose
    (λ tells H p o why e. absurd (let n = may.rows tells H p o p.world in cc (n, e))))
