-- The contract of Drop once its name is found, from its parts.
use Rattle.std.proofs.Common.{◌≡◌, ℕ, ◌/◌, ◌%◌, ◌*◌, ◌||◌, inl, inr, Bool, true, false, not, List, length, IsTrue}
use Rattle.std.proofs.Common.{Result, Ok, Err, IfErr, sym, ap, ◌∙◌, subst}
use Rattle.std.specs.List.{list_any}
use Rattle.nofs_disk.specs.Disk.{DiskState, IsDisk, StaysButFaults, Rose, cell_at}
use Rattle.nofs_disk.specs.Number.{put_bytes, zeros}
use Rattle.nofs_disk.specs.declared.tag.Cell.{Cell}
use Rattle.nofs_inode.specs.declared.inode.BackLink.{BackLink}
use Rattle.nofs_disk.specs.declared.tag.Pointer.{Pointer}
use Rattle.nofs_inode.specs.declared.inode.Record.{Record}
use Rattle.nofs_model.specs.Geometry.{Image}
use Rattle.nofs_model.specs.Files.{Files, files_in, agreed, is_special}
use Rattle.nofs_ptrs.specs.Paths.{path_of}
use Rattle.nofs_model.specs.Slots.{find}
use Rattle.nofs_model.specs.declared.image.path.PathAnswer.TheVariants as answer
use Rattle.nofs_history.specs.Meta.{is_gone}
use Rattle.nofs_history.specs.Machine.{drop_meta, link_to, without_link}
use Rattle.nofs_history.specs.Claims.{no_claims}
use Rattle.nofs_history.specs.History.{FilesMatch}
use Rattle.nofs_history.specs.declared.machine.steps.Step.TheVariants as step
use Rattle.nofs_history.specs.declared.machine.replies.Reply.TheVariants as reply
use Rattle.nofs_history.specs.declared.machine.replies.Refusal.{Refusal}
use Rattle.nofs_history.specs.declared.machine.replies.Refusal.TheVariants as refusal
use Rattle.nofs_history.specs.Faults.{is_fault}
use Rattle.nofs_crashlaw.proofs.OnUntouched.Matches.{matched-agreed}
use Rattle.nofs_agree.specs.Chain.{is_agreed_link}
use Rattle.nofs_agree.specs.declared.reads.LastRead.{LastRead}
use Rattle.nofs_state.specs.Books.Maps.{IsSafe}
use Rattle.nofs_state.specs.Cores.Steps.{Goes}
use Rattle.nofs_state.specs.declared.books.maps.Books.{Books}
use Rattle.nofs_state.specs.Inodes.Blocks.{MarkFails}
use Rattle.nofs_names.specs.Searches.Refusals.{KnownTrue}
use Rattle.nofs_names.specs.Renames.Parts.{HoldFails, HoldsSlot}
use Rattle.nofs_names.specs.Drops.Parts.{relinked}
use Rattle.nofs_names.specs.declared.searches.slots.Paired.{Paired}
use Rattle.nofs_state.proofs.OnCores.Unchanged.{goes-memory, reads-keep}
use Rattle.nofs_state.proofs.OnCores.Replies.{goes-row, goes-read, open-files}
use Rattle.nofs_state.proofs.OnBooks.Machine.{agreed-live, are-agreed}
use Rattle.nofs_names.proofs.OnSearches.HeldSlots.{slot-holds}
use Rattle.nofs_names.specs.Drops.OtherNames.{TellsKept}
use Rattle.nofs_names.specs.Drops.Answers.{ClearsEntry, MayDrop}
use Rattle.nofs_names.proofs.OnDrops.OtherNames.{keeps-is}

module _ (old mid : DiskState) (k : Books) (d g : ℕ) (name : List ℕ) (r : Record) (q : Paired) (is_old : IsDisk old)
    (safe : IsSafe old k)
    (going : k.stopped ≡ false) (may : MayDrop old k d g name r q) where
  -- a read failed
  pub drop-unread : StaysButFaults old mid → Rose old.faults mid.faults
      → Goes old k mid k (step.Drop d g name) no_claims (reply.Refused refusal.ReadFault)
  drop-unread stays rose = goes-read old mid k (step.Drop d g name) is_old safe stays going rose
      (λ t H p o w c. absurd (let n = may.rows t H p o p.world in cc (n, c)))

  -- the slot was not found
  pub drop-unheld : (last : LastRead) (res : Result Pointer Refusal) (why : Refusal)
      → HoldsSlot old mid k.at d (q.entry / 16) last res → res ≡ Err why
      → Goes old k mid k (step.Drop d g name) no_claims (reply.Refused why)
  drop-unheld last res why holds e =
      go (subst (λ (z : Result Pointer Refusal). IfErr z (HoldFails old mid d (q.entry / 16))) e holds.refused)
    where
      go : HoldFails old mid d (q.entry / 16) why → Goes old k mid k (step.Drop d g name) no_claims (reply.Refused why)
      go (inl f) = goes-row old mid k (step.Drop d g name) is_old safe holds.stays f.3 why f.0 f.1 going (λ t H p o.
          let a = may.there t (are-agreed old k H p safe o) in
          let h = slot-holds p.world.files old.now d name q (open-files old k H p o) a
          (may.found t a p.world.files (open-files old k H p o)) in
          absurd (f.2 t h.0 h.1))
      go (inr f) = subst (λ (w : Refusal). Goes old k mid k (step.Drop d g name) no_claims (reply.Refused w)) (sym f.0)
          (drop-unread holds.stays f.1)

  -- the blocks were not found
  pub drop-unowned : (why : Refusal) → StaysButFaults old mid
      → (is_fault (reply.Refused why) ≡ false → mid.faults ≡ old.faults) → MarkFails old mid why
      → Goes old k mid k (step.Drop d g name) no_claims (reply.Refused why)
  drop-unowned why stays quiet (inl e) =
      subst (λ (w : Refusal). Goes old k mid k (step.Drop d g name) no_claims (reply.Refused w)) (sym e)
      (goes-memory old mid (reads-keep old mid stays)
      (quiet (ap (λ (w : Refusal). is_fault (reply.Refused w)) e)) k (step.Drop d g name) no_claims safe)
  drop-unowned why stays quiet (inr f) =
      subst (λ (w : Refusal). Goes old k mid k (step.Drop d g name) no_claims (reply.Refused w)) (sym f.0)
      (drop-unread stays f.1)

  -- whether the inode goes
  pub drop-keeps : (links : List BackLink) (last : LastRead) (res b : Bool)
      → links ≡ (relinked q.record (link_to d q.entry g)).links
      → TellsKept old mid k.agreement q.inode links last (Ok res) → res ≡ b
      → IsTrue old.tells → KnownTrue k old.now → (F : Files) → FilesMatch F old.now
      → is_gone (drop_meta F q.inode (link_to d q.entry g)) ≡ not b
  drop-keeps links last res b el tells eb t all F match =
      let pair = may.found t (may.there t all) F match in
      let a : agreed (files_in old.now) q.inode ≡ true = pair.pair.agreed in
      let m = matched-agreed F old.now q.inode match (agreed-live old.now q.inode a) a in
      let same : m.file.links ≡ q.record.links = m.links ∙ ap (λ (z : Record). z.links) (may.known.0.same t) in
      let kept : b ≡ (is_special q.inode
      || list_any (is_agreed_link (files_in old.now) q.inode) (without_link (link_to d q.entry g) m.file.links)) =
      sym eb ∙ tells.found t all
      ∙ (λ j. is_special q.inode || list_any (is_agreed_link (files_in old.now) q.inode) (el j))
      ∙ (λ j. is_special q.inode
      || list_any (is_agreed_link (files_in old.now) q.inode) (without_link (link_to d q.entry g) (sym same j))) in
      keeps-is F old.now q.inode m.file (link_to d q.entry g) b match a m.is kept

  -- the cell of the entry without it
  pub drop-clears : (last : LastRead) (x : Pointer) (before c : Cell)
      → HoldsSlot old mid k.at d (q.entry / 16) last (Ok x) → last.cell ≡ before
      → length before.payload ≡ 1024 → c.payload ≡ put_bytes (64 * (q.entry % 16)) (zeros 64) before.payload
      → c.tag ≡ before.tag → ClearsEntry mid k d q x c
  drop-clears last x before c holds eb whole payload tag =
      let back : IsTrue mid.tells → IsTrue old.tells = λ t. subst (λ (b : Bool). IsTrue b) holds.stays.disk.tells t in
      let was : IsTrue mid.tells → before ≡ cell_at mid.now x.block = λ t. sym eb ∙ holds.cell (back t)
      ∙ ap (λ (X : Image). cell_at X x.block)
      (sym holds.stays.cells.now) in
      record {
        area = holds.area;
        held = λ t. subst (λ (X : Image). find X d (path_of (q.entry / 16)) ≡ answer.Holds x)
            (sym holds.stays.cells.now) (holds.held (back t));
        cleared = record {
          whole = λ t. sym (ap (λ (z : Cell). length z.payload) (was t)) ∙ whole;
          payload = λ t. payload ∙ ap (λ (z : Cell). put_bytes (64 * (q.entry % 16)) (zeros 64) z.payload) (was t);
          tag = λ t. tag ∙ ap (λ (z : Cell). z.tag) (was t);
        };
      }
