-- A Resize reads all that it asks: what is known of the disk stays over each read, and each read that fails ends it.
use Rattle.std.proofs.Common.{◌≡◌, ℕ, ◌*◌, ◌≤◌, inl, inr, Bool, true, false, List, length, Option, None, IsTrue, Result}
use Rattle.std.proofs.Common.{Ok, Err, refl, sym, ap, ◌∙◌, subst, le_refl}
use Rattle.nofs_ptrs.specs.Paths.{slot_limit}
use Rattle.nofs_inode.specs.InodeRecords.{largest_size}
use Rattle.nofs_disk.specs.Disk.{DiskState, IsDisk, StaysButFaults}
use Rattle.nofs_disk.specs.Chains.{StaysButFaults-trans, Rose-within}
use Rattle.nofs_disk.specs.declared.Failed.{Failed}
use Rattle.nofs_inode.specs.declared.inode.Record.{Record}
use Rattle.nofs_super.specs.declared.superblock.SuperBlock.{SuperBlock}
use Rattle.nofs_model.specs.Geometry.{Image}
use Rattle.nofs_history.specs.Faults.{is_fault}
use Rattle.nofs_history.specs.Claims.{no_claims}
use Rattle.nofs_history.specs.declared.machine.steps.Step.TheVariants as step
use Rattle.nofs_history.specs.declared.machine.replies.Reply.TheVariants as reply
use Rattle.nofs_history.specs.declared.machine.replies.Refusal.{Refusal}
use Rattle.nofs_history.specs.declared.machine.replies.Refusal.TheVariants as refusal
use Rattle.nofs_agree.specs.Chain.{AreTrue}
use Rattle.nofs_agree.specs.declared.reads.LastRead.{LastRead}
use Rattle.nofs_agree.proofs.OnChain.{KnowsInode-on}
use Rattle.nofs_state.specs.Books.Maps.{IsSafe}
use Rattle.nofs_state.specs.Cores.Steps.{Goes}
use Rattle.nofs_state.specs.Inodes.Opened.{is_current}
use Rattle.nofs_state.specs.declared.books.maps.Books.{Books}
use Rattle.nofs_files.specs.Reads.{IsFile, OpensFile, slots_of}
use Rattle.nofs_state.specs.Writes.Premises.{RowsPass}
use Rattle.nofs_state.proofs.OnCores.Replies.{goes-read}
use Rattle.nofs_state.proofs.OnCores.Unchanged.{goes-after, goes-memory, open-back, reads-keep, safe-keeps}
use Rattle.nofs_files.specs.Resizes.{FindsEdge, FindsTail, IsCutMap, IsEdge, IsTail, MarksCut, MayCut, MayResize}
use Rattle.nofs_files.specs.Resizes.{kept_slots, resize_answer}
use Rattle.nofs_files.specs.declared.resizes.cuts.NewCell.{NewCell}
use Rattle.nofs_files.specs.declared.resizes.cuts.Edge.{Edge}
use Rattle.nofs_files.proofs.OnResizes.Contract.{map-after}
use Rattle.nofs_files.proofs.OnResizes.Rows.{rows-pass, late, goes-unedged}

-- for what does not ask which edge it is
pub no-edge : Edge
no-edge = record { below = None; above = None }

told-back : (old new : DiskState) → StaysButFaults old new → IsTrue new.tells → IsTrue old.tells
told-back old new stays t = subst (λ (b : Bool). IsTrue b) stays.disk.tells t

pub file-after : (old mid : DiskState) (at : SuperBlock) (i g : ℕ) (r : Record) → StaysButFaults old mid
    → IsFile old at i g r → IsFile mid at i g r
file-after old mid at i g r stays f =
    record { known = KnowsInode-on old mid at i r stays f.known; kind = f.kind; generation = f.generation }

pub current-after : (old mid : DiskState) (k : Books) (i g : ℕ) → StaysButFaults old mid
    → (IsTrue old.tells → AreTrue old.now k.agreement → is_current old.now i g ≡ true) → IsTrue mid.tells
    → AreTrue mid.now k.agreement
    → is_current mid.now i g ≡ true
current-after old mid k i g stays c t a = subst (λ (X : Image). is_current X i g ≡ true) (sym stays.cells.now)
    (c (told-back old mid stays t) (subst (λ (X : Image). AreTrue X k.agreement) stays.cells.now a))

-- what holds of the file that was opened
module _ (old mid : DiskState) (k : Books) (i g size : ℕ) (last : LastRead) (r : Record)
    (opens : OpensFile old mid k i g last (Ok r)) where
  pub opened-file : IsFile mid k.at i r.generation r
  opened-file = record { known = opens.file.known; kind = opens.file.kind; generation = refl }

  pub opened-current : IsTrue mid.tells → AreTrue mid.now k.agreement → is_current mid.now i r.generation ≡ true
  opened-current t a = subst (λ (n : ℕ). is_current mid.now i n ≡ true) (sym opens.file.generation)
      (current-after old mid k i g opens.stays opens.current t a)

  pub opened-may : IsSafe mid k → k.stopped ≡ false → size ≤ 1024 * slots_of k.at
      → size ≤ largest_size → MayResize mid k i r size
  opened-may safe going fits most =
      record { safe = safe; going = going; file = opened-file; current = opened-current; fits = fits; most = most }

  pub opened-goes : (new : DiskState) (l : Books) (result : Result (Unit {0}) Refusal)
      → Goes mid k new l (step.Resize i r.generation size) no_claims (resize_answer result)
      → Goes old k new l (step.Resize i g size) no_claims (resize_answer result)
  opened-goes new l result goes = goes-after old mid (reads-keep old mid opens.stays) (opens.no_fault refl) new k l
      (step.Resize i g size) no_claims (resize_answer result)
      (subst (λ (n : ℕ). Goes mid k new l (step.Resize i n size) no_claims (resize_answer result))
      opens.file.generation goes)

-- no more slots stay than there are
most-kept : (kk : ℕ) (r : Record) (size : ℕ) → kk ≤ slot_limit → kk ≡ kept_slots r.size size
    → kept_slots r.size size ≤ slot_limit
most-kept kk r size most ek = subst (λ (n : ℕ). n ≤ slot_limit) ek most

module _ {d a : DiskState} {k : Books} {i size kk : ℕ} {r : Record} {one : LastRead} (is : IsDisk d)
    (may : MayResize d k i r size)
    (most : kk ≤ slot_limit) (ek : kk ≡ kept_slots r.size size) where
  -- what is cut inside was not found
  pub ends-unedged : {why : Refusal} {result : Result Edge Refusal} → result ≡ Err why
      → FindsEdge d a k.at i kk one result
      → Goes d k a k (step.Resize i r.generation size) no_claims (reply.Refused why)
  ends-unedged {why} {result} e finds =
      let f : FindsEdge d a k.at i (kept_slots r.size size) one (Err why) = subst
      (λ (q : Result Edge Refusal). FindsEdge d a k.at i (kept_slots r.size size) one q) e
      (subst (λ (n : ℕ). FindsEdge d a k.at i n one result) ek finds)
      in
      goes-unedged d k i r.generation size r is may.safe may.going may.file may.current may.fits
      (most-kept kk r size most ek) a why f.stays f.no_fault f.refused

  module _ {edge : Edge} (finds : FindsEdge d a k.at i kk one (Ok edge)) where
    is-edge : IsTrue d.tells → IsEdge d.now i (kept_slots r.size size) edge
    is-edge t = subst (λ (n : ℕ). IsEdge d.now i n edge) ek (finds.edge t)

    -- there was no memory for the map, or it was not read
    pub ends-unmarked : {b : DiskState} {two : LastRead} {why : Refusal} {result : Result (List Bool) Refusal}
        → result ≡ Err why
        → MarksCut a b k.at i kk two result
        → Goes d k b k (step.Resize i r.generation size) no_claims (reply.Refused why)
    ends-unmarked {b} {two} {why} {result} e marks =
        go (subst (λ (q : Result (List Bool) Refusal). MarksCut a b k.at i kk two q) e marks)
      where
        go : MarksCut a b k.at i kk two (Err why)
            → Goes d k b k (step.Resize i r.generation size) no_claims (reply.Refused why)
        go m = elim m.refused [
          | inl memory ↦ subst
              (λ (w : Refusal). Goes d k b k (step.Resize i r.generation size) no_claims (reply.Refused w)) (sym memory)
              (goes-memory d b (reads-keep d b (StaysButFaults-trans d a b finds.stays m.stays))
              (m.no_fault (ap (λ (w : Refusal). is_fault (reply.Refused w)) memory) ∙ finds.no_fault refl) k
              (step.Resize i r.generation size) no_claims may.safe)
          | inr (unread, rose) ↦ subst
              (λ (w : Refusal). Goes d k b k (step.Resize i r.generation size) no_claims (reply.Refused w)) (sym unread)
              (goes-read d b k (step.Resize i r.generation size) is may.safe
              (StaysButFaults-trans d a b finds.stays m.stays) may.going
              (Rose-within d.faults a.faults b.faults b.faults finds.stays.disk.faults rose (le_refl b.faults))
              (λ tells H p o. late d k i r.generation size r is may.safe may.going may.file may.current may.fits
              (most-kept kk r size most ek) tells H p o))
        ]

    module _ {b : DiskState} {two : LastRead} {freed : List Bool} (marks : MarksCut a b k.at i kk two (Ok freed)) where
      two-reads : StaysButFaults d b
      two-reads = StaysButFaults-trans d a b finds.stays marks.stays

      -- the end of the content was not read
      pub ends-untailed : {new : DiskState} {three : LastRead} {failed : Failed}
          → FindsTail b new k.at i r.size size three (Err failed)
          → Goes d k new k (step.Resize i r.generation size) no_claims (reply.Refused refusal.ReadFault)
      ends-untailed {new} {three} {failed} tail = goes-read d new k (step.Resize i r.generation size) is may.safe
          (StaysButFaults-trans d b new two-reads tail.stays)
          may.going
          (Rose-within d.faults b.faults new.faults new.faults two-reads.disk.faults tail.cause (le_refl new.faults))
          (λ tells H p o. late d k i r.generation size r is may.safe may.going may.file may.current may.fits
          (most-kept kk r size most ek) tells H p o)

      module _ {mid : DiskState} {three : LastRead} {tail : Option NewCell}
          (finds-tail : FindsTail b mid k.at i r.size size three (Ok tail)) where
        pub all-reads : StaysButFaults d mid
        all-reads = StaysButFaults-trans d b mid two-reads finds-tail.stays

        told : IsTrue mid.tells → IsTrue d.tells
        told t = told-back d mid all-reads t

        pub cut-safe : IsSafe mid k
        cut-safe = safe-keeps d mid (reads-keep d mid all-reads) k may.safe

        pub cut-file : IsFile mid k.at i r.generation r
        cut-file = file-after d mid k.at i r.generation r all-reads may.file

        pub cut-current : IsTrue mid.tells → AreTrue mid.now k.agreement → is_current mid.now i r.generation ≡ true
        cut-current = current-after d mid k i r.generation all-reads may.current

        pub cut-ends : IsTrue mid.tells → IsTail mid.now i r.size size tail
        cut-ends t = subst (λ (X : Image). IsTail X i r.size size tail) (sym finds-tail.stays.cells.now)
            (finds-tail.tail (told-back b mid finds-tail.stays t))

        pub cut-edge : IsTrue mid.tells → IsEdge mid.now i (kept_slots r.size size) edge
        cut-edge t =
            subst (λ (X : Image). IsEdge X i (kept_slots r.size size) edge) (sym all-reads.cells.now) (is-edge (told t))

        pub cut-map : IsCutMap mid k.at i (kept_slots r.size size) freed
        cut-map = subst (λ (n : ℕ). IsCutMap mid k.at i n freed) ek
            (map-after b mid k i kk freed finds-tail.stays marks.map)

        pub cut-rows : RowsPass mid k (step.Resize i r.generation size)
        cut-rows t H p o V = rows-pass d k i r.generation size r is may.safe may.going may.file may.current may.fits
            (most-kept kk r size most ek) edge is-edge (told t) H p
            (open-back d mid (reads-keep d mid all-reads) k H p o) V

        pub may-cut : r.size ≤ largest_size → length r.direct ≡ 8 → MayCut mid k i r.generation size r tail edge freed
        may-cut old eight = record {
          safe = cut-safe;
          going = may.going;
          file = cut-file;
          current = cut-current;
          old = old;
          new = may.most;
          eight = eight;
          tail_data = finds-tail.area;
          edge_data = finds.area;
          tail_is = cut-ends;
          edge_is = cut-edge;
          map = cut-map;
          rows = cut-rows;
        }

        pub cut-goes : {new : DiskState} {l : Books} (result : Result (Unit {0}) Refusal)
            → Goes mid k new l (step.Resize i r.generation size) no_claims (resize_answer result)
            → Goes d k new l (step.Resize i r.generation size) no_claims (resize_answer result)
        cut-goes {new} {l} result goes = goes-after d mid (reads-keep d mid all-reads)
            (finds-tail.no_fault ∙ (marks.no_fault refl ∙ finds.no_fault refl)) new k l
            (step.Resize i r.generation size) no_claims (resize_answer result)
            goes
