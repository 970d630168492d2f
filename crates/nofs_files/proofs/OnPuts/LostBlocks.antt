-- Blocks of pointers that are lost above a slot, and what a Put answers then.
use Rattle.std.proofs.Common.{◌≡◌, ℕ, ◌+◌, ◌-◌, ◌/◌, ◌%◌, ◌^◌, ◌<◌, ◌≤◌, Bool, true, false}
use Rattle.std.proofs.Common.{ltb, List, [], ◌∷◌, IsTrue, Err, inr, refl, sym, ap, ◌∙◌, subst, arith}
use Rattle.nofs_ptrs.specs.Paths.{slot_limit, Path, InRecord, Under, path_of, IsSlot}
use Rattle.nofs_disk.specs.Disk.{DiskState, IsDisk, StaysButFaults, Rose}
use Rattle.nofs_disk.specs.declared.tag.Pointer.{Pointer}
use Rattle.nofs_inode.specs.declared.inode.Record.{Record}
use Rattle.nofs_model.specs.Geometry.{Image}
use Rattle.nofs_model.specs.Slots.{find}
use Rattle.nofs_model.specs.Files.{files_in, agreed, Files, NodeState, Absent, Present, Damaged, node_in}
use Rattle.nofs_model.specs.declared.image.path.PathAnswer.{PathAnswer}
use Rattle.nofs_model.specs.declared.image.path.PathAnswer.TheVariants as answer
use Rattle.nofs_model.proofs.OnSlots.Find.{find-held}
use Rattle.nofs_ptrs.specs.PathLaws.{path-direct, path-far, path-leaf, path_of-slot}
use Rattle.nofs_model.proofs.OnSlots.Paths.{below-null}
use Rattle.nofs_history.specs.Search.{first_of}
use Rattle.nofs_history.specs.Machine.{node_of}
use Rattle.nofs_history.specs.World.{World, blocks_for, damaged_above, free_blocks, unverified_blocks, next_block}
use Rattle.nofs_history.specs.Claims.{no_claims}
use Rattle.nofs_history.specs.Refusals.{row, rows, full, serials_spent}
use Rattle.nofs_history.specs.History.{FilesMatch}
use Rattle.nofs_history.specs.declared.machine.history.Entry1.{Entry1}
use Rattle.nofs_history.specs.declared.machine.history.Claims.{Claims}
use Rattle.nofs_history.specs.declared.machine.steps.Step.{Step}
use Rattle.nofs_history.specs.declared.machine.steps.Step.TheVariants as step
use Rattle.nofs_history.specs.declared.machine.replies.Reply.{Reply}
use Rattle.nofs_history.specs.declared.machine.replies.Refusal.{Refusal}
use Rattle.nofs_history.specs.declared.machine.replies.Reply.TheVariants as reply
use Rattle.nofs_history.specs.declared.machine.replies.Refusal.TheVariants as refusal
use Rattle.nofs_agree.specs.Chain.{AreTrue}
use Rattle.nofs_agree.specs.declared.reads.LastRead.{LastRead}
use Rattle.nofs_state.specs.Books.Maps.{IsSafe}
use Rattle.nofs_state.specs.Inodes.Opened.{is_current}
use Rattle.nofs_state.specs.Cores.Invariant.{IsOpen, Past}
use Rattle.nofs_state.specs.Cores.Steps.{Goes}
use Rattle.nofs_state.specs.declared.books.maps.Books.{Books}
use Rattle.nofs_state.specs.declared.writes.ends.Ended.{Ended}
use Rattle.nofs_state.proofs.OnCores.Unchanged.{goes-after, open-back, reads-keep}
use Rattle.nofs_state.proofs.OnBooks.Machine.{are-agreed}
use Rattle.nofs_state.proofs.OnCores.Replies.{goes-row, goes-read, open-files}
use Rattle.nofs_state.proofs.OnCores.Refusals.{IsLate, first-late, late-row}
use Rattle.nofs_files.specs.Puts.{HeldAt, IsEmptySlot, IsFar, IsUnder, MayPut, RowsLead, RowsReach, RowsReachOf}
use Rattle.nofs_files.specs.Puts.{put_answer}
use Rattle.nofs_files.specs.declared.puts.put.Put.{Put}
use Rattle.nofs_state.proofs.OnBooks.CurrentFiles.{current-agreed}
use Rattle.nofs_files.proofs.OnPuts.Claims.{node-is}

-- what stands in the slot of a block of pointers is lost
abbrev pub is_ruined : NodeState → Bool
is_ruined Absent = false
is_ruined Present = false
is_ruined Damaged = true

module _ (F : Files) (X : Image) (i : ℕ) (match : FilesMatch F X) (agrees : agreed (files_in X) i ≡ true) where
  -- above a slot that holds, none is lost
  pub held-sound : (a : Path) {y : Pointer} → IsSlot a → find X i a ≡ answer.Holds y → damaged_above F i a ≡ false
  held-sound (InRecord n) s held = refl
  held-sound (Under b n) {y} s held =
      let up = (find-held X i (Under b n) y held).above in
      let z = held-sound b s.2 up.1 in
      let q : node_of F i b ≡ Present = node-is F X i match agrees b s.2 s.0 ∙ ap node_in up.1 in
      rw (z, q) refl

  -- one that stands under blocks that aren't lost
  pub ruined-above : (b : Path) (n : ℕ) → IsSlot (Under b n)
      → damaged_above F i b ≡ false → damaged_above F i (Under b n) ≡ is_ruined (node_in (find X i b))
  ruined-above b n s sound = rw (sound, node-is F X i match agrees b s.2 s.0) refl

  -- the top stands over a child
  pub top-lost : (j n : ℕ)
      → find X i (InRecord 9) ≡ answer.Lost → damaged_above F i (Under (Under (InRecord 9) j) n) ≡ true
  top-lost j n e =
      let q : node_of F i (InRecord 9) ≡ Damaged = node-is F X i match agrees (InRecord 9) (omega arith) refl
      ∙ ap node_in e in
      rw q refl

  pub top-missing : (j n : ℕ) → j < 64 → find X i (InRecord 9) ≡ answer.Hole
      → damaged_above F i (Under (Under (InRecord 9) j) n) ≡ false
  top-missing j n low e =
      let q : node_of F i (InRecord 9) ≡ Absent = node-is F X i match agrees (InRecord 9) (omega arith) refl
      ∙ ap node_in e in
      let null-child = below-null X i (InRecord 9) (Under (InRecord 9) j) (inr refl) e in
      let c : node_of F i (Under (InRecord 9) j) ≡ Absent =
      node-is F X i match agrees (Under (InRecord 9) j) (refl, low, omega arith) refl ∙ ap node_in null-child in
      rw (q, c) refl

  pub top-sound : (j : ℕ) {y : Pointer} → find X i (InRecord 9) ≡ answer.Holds y
      → damaged_above F i (Under (InRecord 9) j) ≡ false
  top-sound j e =
      let q : node_of F i (InRecord 9) ≡ Present = node-is F X i match agrees (InRecord 9) (omega arith) refl
      ∙ ap node_in e in
      rw q refl

-- why a block of pointers is lost in an open world, or isn't
abbrev DamageIs : DiskState → Books → ℕ → Path → Bool → Type 0
DamageIs d k i a t = IsTrue d.tells → (H : List Entry1) (p : Past) → IsOpen d k H p
    → damaged_above p.world.files i a ≡ t

-- the refusals and the reads of a step that was refused
pub ended : {old new : DiskState} {k l : Books} {s : Step} {r : Ended} {why : Refusal}
    → r ≡ record { claims = no_claims; result = Err why }
    → Goes old k new l s no_claims (reply.Refused why) → Goes old k new l s r.claims (put_answer r.result)
ended {old} {new} {k} {l} {s} e goes =
    subst (λ (r : Ended). Goes old k new l s r.claims (put_answer r.result)) (sym e) goes

-- a step after reads
pub after-reads : {old new end : DiskState} {k l : Books} {s : Step} {c : Claims} {r : Reply} → StaysButFaults old new
    → new.faults ≡ old.faults → Goes new k end l s c r → Goes old k end l s c r
after-reads {old} {new} {end} {k} {l} {s} {c} {r} stays same goes =
    goes-after old new (reads-keep old new stays) same end k l s c r goes

-- a Put that has passed all rows before that of lost blocks above
pub record IsReached (d : DiskState) (k : Books) (i g slot at : ℕ) (bytes : List ℕ) : Type 0 where
  pub disk : IsDisk d
  pub safe : IsSafe d k
  pub going : k.stopped ≡ false
  pub reach : RowsReach d k i g slot at bytes

pub reached : {d : DiskState} {k : Books} {p : Put} {r : Record} {read : LastRead} {writes : ℕ} → IsDisk d
    → MayPut d k p r read writes → RowsReachOf d k p
    → IsReached d k p.inode p.generation p.slot p.at p.bytes.now
reached disk may rows = record { disk = disk; safe = may.safe; going = may.going; reach = rows }

module _ {old : DiskState} {k : Books} {i g slot at : ℕ} {bytes : List ℕ} (f : IsReached old k i g slot at bytes) where
  abbrev put : Step
  put = step.Put i g slot at bytes

  late : IsTrue old.tells → (H : List Entry1) (p : Past) → IsOpen old k H p
      → IsLate (first_of (rows p.world p.world put))
  late tells H p o why e =
      let W : World = p.world in
      let n : ℕ = blocks_for W.files i slot in
      let lost : Bool = damaged_above W.files i (path_of slot) in
      first-late (row lost (refusal.LostSlot slot) ∷ full W W put ∷ serials_spent W put ∷ []) (
        late-row lost (refusal.LostSlot slot) refl,
        (
          late-row (ltb (free_blocks W) n) (refusal.Full n (free_blocks W) (unverified_blocks W) (next_block W)) refl,
          (late-row (ltb (2 ^ 40) (W.serial + 0 + n)) refusal.SerialsSpent refl, tt),
        ),
      ) why (sym (f.reach tells H p o W) ∙ e)

  -- a block above was not read
  pub goes-unread-above : {new : DiskState} → StaysButFaults old new → Rose old.faults new.faults
      → Goes old k new k put no_claims (reply.Refused refusal.ReadFault)
  goes-unread-above {new} stays rose = goes-read old new k put f.disk f.safe stays f.going rose late

  -- one is lost
  pub goes-lost-above : {new : DiskState} → StaysButFaults old new → new.faults ≡ old.faults
      → DamageIs old k i (path_of slot) true → Goes old k new k put no_claims (reply.Refused (refusal.LostSlot slot))
  goes-lost-above {new} stays same lost =
      goes-row old new k put f.disk f.safe stays same (refusal.LostSlot slot) refl tt f.going
      (λ tells H p o. let d = lost tells H p o in f.reach tells H p o p.world ∙ rw d refl)

  -- none is
  pub lead-above : {new : DiskState} → StaysButFaults old new → DamageIs old k i (path_of slot) false
      → RowsLead new k put
  lead-above {new} stays sound tells H p o V =
      let keep = reads-keep old new stays in
      let t = subst (λ (b : Bool). IsTrue b) keep.disk.tells tells in
      let q = open-back old new keep k H p o in
      let d = sound t H p q in
      f.reach t H p q V ∙ rw d refl

  -- the same at the moment after the reads
  pub reach-above : {new : DiskState} → StaysButFaults old new → RowsReach new k i g slot at bytes
  reach-above {new} stays tells H p o V =
      let keep = reads-keep old new stays in
      f.reach (subst (λ (b : Bool). IsTrue b) keep.disk.tells tells) H p (open-back old new keep k H p o) V

  -- a direct slot has none above it
  pub lead-direct : slot < 8 → RowsLead old k put
  lead-direct low tells H p o V = f.reach tells H p o V ∙ rw (path-direct slot low) refl

-- how a Put ends where a block above was not read, or is lost
module _ {old new : DiskState} {k : Books} {p : Put} {r : Record} {read : LastRead} {writes : ℕ} {e : Ended} where
  pub unread-ends : e ≡ record { claims = no_claims; result = Err refusal.ReadFault } → IsDisk old
      → MayPut old k p r read writes → RowsReachOf old k p → StaysButFaults old new → Rose old.faults new.faults
      → Goes old k new k (step.Put p.inode p.generation p.slot p.at p.bytes.now) e.claims (put_answer e.result)
  unread-ends is disk may rows stays rose = ended is (goes-unread-above (reached disk may rows) stays rose)

  pub lost-ends : e ≡ record { claims = no_claims; result = Err (refusal.LostSlot p.slot) } → IsDisk old
      → MayPut old k p r read writes → RowsReachOf old k p → StaysButFaults old new → new.faults ≡ old.faults
      → DamageIs old k p.inode (path_of p.slot) true
      → Goes old k new k (step.Put p.inode p.generation p.slot p.at p.bytes.now) e.claims (put_answer e.result)
  lost-ends is disk may rows stays same lost = ended is (goes-lost-above (reached disk may rows) stays same lost)

-- the file of a Put is there
pub record IsThere (d : DiskState) (k : Books) (i g : ℕ) : Type 0 where
  pub safe : IsSafe d k
  pub current : IsTrue d.tells → AreTrue d.now k.agreement → is_current d.now i g ≡ true

pub there : {d : DiskState} {k : Books} {p : Put} {r : Record} {read : LastRead} {writes : ℕ}
    → MayPut d k p r read writes → IsThere d k p.inode p.generation
there may = record { safe = may.safe; current = may.current }

module _ {old : DiskState} {k : Books} {i g : ℕ} (f : IsThere old k i g) where
  agrees : IsTrue old.tells → (H : List Entry1) (p : Past) → IsOpen old k H p → agreed (files_in old.now) i ≡ true
  agrees tells H p o = current-agreed old.now i g (f.current tells (are-agreed old k H p f.safe o))

  -- the damage above, from what was found next above
  pub ruin-is : (slot : ℕ) {b : Path} {n : ℕ} {a : PathAnswer} {t : Bool} → slot < slot_limit → path_of slot ≡ Under b n
      → DamageIs old k i b false
      → is_ruined (node_in a) ≡ t → (IsTrue old.tells → a ≡ find old.now i b) → DamageIs old k i (path_of slot) t
  ruin-is slot {b} {n} {a} {t} low path sound is found tells H p o =
      let slot-is : IsSlot (Under b n) = subst (λ (q : Path). IsSlot q) path (path_of-slot slot low) in
      ap (damaged_above p.world.files i) path
      ∙ ruined-above p.world.files old.now i (open-files old k H p o) (agrees tells H p o) b n slot-is
      (sound tells H p o)
      ∙ ap (λ (q : PathAnswer). is_ruined (node_in q)) (sym (found tells))
      ∙ is

  -- from what was found at the top
  pub top-ruins : (slot : ℕ) {j n : ℕ} → path_of slot ≡ Under (Under (InRecord 9) j) n
      → (IsTrue old.tells → answer.Lost ≡ find old.now i (InRecord 9)) → DamageIs old k i (path_of slot) true
  top-ruins slot {j} {n} path found tells H p o =
      ap (damaged_above p.world.files i) path
      ∙ top-lost p.world.files old.now i (open-files old k H p o) (agrees tells H p o) j n (sym (found tells))

  pub top-spares : (slot : ℕ) {j n : ℕ} → j < 64 → path_of slot ≡ Under (Under (InRecord 9) j) n
      → (IsTrue old.tells → answer.Hole ≡ find old.now i (InRecord 9)) → DamageIs old k i (path_of slot) false
  top-spares slot {j} {n} low path found tells H p o =
      ap (damaged_above p.world.files i) path
      ∙ top-missing p.world.files old.now i (open-files old k H p o) (agrees tells H p o) j n low (sym (found tells))

  pub child-sound : (j : ℕ) {y : Pointer} → (IsTrue old.tells → find old.now i (InRecord 9) ≡ answer.Holds y)
      → DamageIs old k i (Under (InRecord 9) j) false
  child-sound j held tells H p o =
      top-sound p.world.files old.now i (open-files old k H p o) (agrees tells H p o) j (held tells)

-- where the slots under the leaf stand, and those under the top
pub leaf-path : {slot : ℕ} → 8 ≤ slot → slot < 72 → IsUnder slot (InRecord 8) (slot - 8)
leaf-path {slot} from low = record { path = path-leaf slot from low; place = omega (arith, from, low) }

pub far-path : {slot : ℕ} → 72 ≤ slot → slot < slot_limit → IsFar slot ((slot - 72) / 64) ((slot - 72) % 64)
far-path {slot} from low =
    record { path = path-far slot from low; child = omega (arith, from, low); place = omega (arith) }

-- the damage above them, by what stands next above
module _ {d : DiskState} {k : Books} {p : Put} {r : Record} {read : LastRead} {writes : ℕ}
    (may : MayPut d k p r read writes) where
  pub leaf-ruin : {a : PathAnswer} {t : Bool} → 8 ≤ p.slot → p.slot < 72 → is_ruined (node_in a) ≡ t
      → (IsTrue d.tells → a ≡ find d.now p.inode (InRecord 8)) → DamageIs d k p.inode (path_of p.slot) t
  leaf-ruin from low is found =
      ruin-is (there may) p.slot (omega (arith, low)) (path-leaf p.slot from low) (λ t H q o. refl) is found

  pub child-ruin : {j n : ℕ} {y : Pointer} {a : PathAnswer} {t : Bool} → IsEmptySlot d p → IsFar p.slot j n
      → HeldAt d k p.inode (InRecord 9) y
      → is_ruined (node_in a) ≡ t → (IsTrue d.tells → a ≡ find d.now p.inode (Under (InRecord 9) j))
      → DamageIs d k p.inode (path_of p.slot) t
  child-ruin {j} empty far top is found =
      ruin-is (there may) p.slot empty.slot far.path (child-sound (there may) j top.held) is found
