-- The rows of a Put up to those of lost blocks above its slot.
use Rattle.std.proofs.Common.{◌≡◌, ℕ, ◌+◌, ◌<◌, ◌≤◌, Bool, true, false, ltb, eqb, ◌&&◌, ◌||◌, not, is_some, List, []}
use Rattle.std.proofs.Common.{◌∷◌, length, Option, Some, None}
use Rattle.std.proofs.Common.{IsTrue, Result, Ok, Err, ◌⊎◌, ◌^◌, inl, inr, refl, sym, ap, ◌∙◌, subst, arith, le_refl}
use Rattle.std.proofs.lemmas.Bool.Decides.{nat_tests}
use Rattle.std.proofs.Math.Bool.{and-false, or-false, or-true}
use Rattle.nofs_disk.specs.Disk.{DiskState, IsDisk, StaysButFaults}
use Rattle.nofs_disk.specs.Chains.{StaysButFaults-refl, StaysButFaults-trans, Rose-within}
use Rattle.nofs_disk.specs.declared.Failed.{Failed}
use Rattle.nofs_inode.specs.declared.inode.FileKind.TheVariants.{Directory}
use Rattle.nofs_disk.specs.declared.tag.Pointer.{Pointer}
use Rattle.nofs_inode.specs.declared.inode.Record.{Record}
use Rattle.nofs_model.specs.Geometry.{Image, inode}
use Rattle.nofs_ptrs.specs.Paths.{path_of}
use Rattle.nofs_model.specs.Slots.{find, value_in}
use Rattle.nofs_model.specs.Files.{agreed, files_in, is_kind}
use Rattle.nofs_model.specs.declared.image.path.PathAnswer.{PathAnswer}
use Rattle.nofs_model.specs.declared.image.path.PathAnswer.TheVariants as answer
use Rattle.nofs_history.specs.Search.{first_of}
use Rattle.nofs_history.specs.Machine.{size_of, value_of, generation_of, is_folder_at, is_lost}
use Rattle.nofs_history.specs.World.{World, blocks_for, damaged_above, free_blocks, unverified_blocks, next_block}
use Rattle.nofs_history.specs.Claims.{no_claims}
use Rattle.nofs_history.specs.declared.machine.history.Claims.{Claims}
use Rattle.nofs_history.specs.Meta.{is_bytes}
use Rattle.nofs_history.specs.Refusals.{row, rows, stale, is_directory, too_large, past_end, lost_under, full}
use Rattle.nofs_history.specs.Refusals.{serials_spent}
use Rattle.nofs_history.specs.declared.machine.history.Entry1.{Entry1}
use Rattle.nofs_history.specs.declared.machine.steps.Step.{Step}
use Rattle.nofs_history.specs.declared.machine.steps.Step.TheVariants as step
use Rattle.nofs_history.specs.declared.machine.replies.Reply.{Reply}
use Rattle.nofs_history.specs.declared.machine.replies.Reply.TheVariants as reply
use Rattle.nofs_history.specs.declared.machine.replies.Refusal.{Refusal}
use Rattle.nofs_history.specs.declared.machine.replies.Refusal.TheVariants as refusal
use Rattle.nofs_agree.specs.Path.{FindsSlot}
use Rattle.nofs_agree.specs.declared.reads.LastRead.{LastRead}
use Rattle.nofs_agree.proofs.OnChain.{told-on, record-of}
use Rattle.nofs_crashlaw.proofs.OnUntouched.Matches.{matched-agreed}
use Rattle.nofs_crashlaw.proofs.OnUntouched.Agreement.{file-in}
use Rattle.nofs_state.specs.Books.Maps.{IsSafe}
use Rattle.nofs_state.specs.Cores.Invariant.{IsOpen, Past}
use Rattle.nofs_state.specs.Cores.Steps.{Goes}
use Rattle.nofs_state.specs.declared.books.maps.Books.{Books}
use Rattle.nofs_state.specs.Writes.Premises.{RowsPass}
use Rattle.nofs_state.proofs.OnCores.Unchanged.{Keeping, reads-keep, open-back, goes-after}
use Rattle.nofs_state.proofs.OnBooks.Machine.{are-agreed, agreed-live, stale-none}
use Rattle.nofs_state.proofs.OnCores.Replies.{goes-row, goes-read, open-files, goes-early}
use Rattle.nofs_state.proofs.OnCores.Refusals.{IsLate, first-late, late-row}
use Rattle.nofs_files.specs.Reads.{OpensFile, slots_of}
use Rattle.nofs_files.specs.Puts.{RowsReach, is_bad_range, is_past_end, is_lost_under}
use Rattle.nofs_files.proofs.OnPuts.LostBlocks.{held-sound}
use Rattle.nofs_files.proofs.OnReads.Rows.{folder-is, goes-unfiled, large-none, large-some, large-early}
use Rattle.nofs_state.proofs.OnBooks.CurrentFiles.{current-agreed}
use Rattle.nofs_files.proofs.OnReads.Rows.{slots-most, value-is}
use Rattle.nofs_ptrs.specs.PathLaws.{path_of-slot}

skip2 : (a b : Option Refusal) (os : List (Option Refusal)) → a ≡ None → b ≡ None → first_of (a ∷ b ∷ os) ≡ first_of os
skip2 a b os ea eb = rw (ea, eb) refl

front2 : (a b : Option Refusal) (os : List (Option Refusal)) (w : Refusal) → first_of (a ∷ b ∷ []) ≡ Some w
    → first_of (a ∷ b ∷ os) ≡ Some w
front2 None None os w e = cc
front2 None (Some x) os w e = e
front2 (Some x) b os w e = e

not-less : (a b : ℕ) → b ≤ a → ltb a b ≡ false
not-less a b h = grind (arith, nat_tests)

-- a mount that has no failed write meets a Put
pub record IsBegun (d : DiskState) (k : Books) (i g slot at : ℕ) (bytes : List ℕ) : Type 0 where
  pub disk : IsDisk d
  pub safe : IsSafe d k
  pub going : k.stopped ≡ false

module _ {old : DiskState} {k : Books} {i g slot at : ℕ} {bytes : List ℕ} (f : IsBegun old k i g slot at bytes) where
  abbrev put : Step
  put = step.Put i g slot at bytes

  abbrev last_rows : World → World → List (Option Refusal)
  last_rows W V = past_end W i slot ∷ lost_under W i slot at bytes ∷ full W V put ∷ serials_spent W put ∷ []

  tail : World → World → List (Option Refusal)
  tail W V = stale W i g ∷ is_directory W i ∷ last_rows W V

  pub goes-bad : is_bad_range at (length bytes) ≡ true → Goes old k old k put no_claims (reply.Refused refusal.BadRange)
  goes-bad bad =
      goes-early old old k put f.disk f.safe (StaysButFaults-refl old) refl refusal.BadRange refl tt f.going
      (rw bad refl)
      (λ tells H p o. rw bad refl)

  pub goes-too-large : is_bad_range at (length bytes) ≡ false → slots_of k.at ≤ slot
      → Goes old k old k put no_claims (reply.Refused refusal.TooLarge)
  goes-too-large good high =
      goes-early old old k put f.disk f.safe (StaysButFaults-refl old) refl refusal.TooLarge refl tt f.going
      (rw (good, large-early slot k.at high) refl)
      (λ tells H p o. rw (good, large-some p.world slot k.at o.says.version high) refl)

  module _ (good : is_bad_range at (length bytes) ≡ false) {slots : ℕ} (all : slots ≡ slots_of k.at)
      (under : slot < slots) where
    low : slot < slots_of k.at
    low = subst (λ (n : ℕ). slot < n) all under

    front : (H : List Entry1) (p : Past) → IsOpen old k H p
        → (V : World) → first_of (rows p.world V put) ≡ first_of (tail p.world V)
    unfolding tail
    front H p o V =
        skip2 (row (is_bad_range at (length bytes)) refusal.BadRange) (too_large p.world slot) (tail p.world V)
        (rw good refl) (large-none p.world slot k.at o.says.version low)

    late : (H : List Entry1) (p : Past) → IsOpen old k H p → IsLate (first_of (rows p.world p.world put))
    unfolding tail
    late H p o why e =
        let W : World = p.world in
        let size : ℕ = size_of W.files i in
        let n : ℕ = blocks_for W.files i slot in
        let lost : Bool = is_lost (value_of W.files i slot) && is_lost_under size slot at (length bytes) in
        first-late (tail W W) (
          late-row (not (is_some (W.files i) && eqb (generation_of W.files i) g)) refusal.Stale refl,
          (
            late-row (is_folder_at W.files i) refusal.IsDirectory refl,
            (
              late-row (is_past_end size slot) refusal.PastEnd refl,
              (
                late-row (damaged_above W.files i (path_of slot) || lost) (refusal.LostSlot slot) refl,
                (
                  late-row (ltb (free_blocks W) n)
                      (refusal.Full n (free_blocks W) (unverified_blocks W) (next_block W)) refl,
                  (late-row (ltb (2 ^ 40) (W.serial + 0 + n)) refusal.SerialsSpent refl, tt),
                ),
              ),
            ),
          ),
        ) why (sym (front H p o p.world) ∙ e)

    pub goes-unopened-put : {new : DiskState} {last : LastRead} {res : Result Record Refusal} {why : Refusal}
        → OpensFile old new k i g last res → res ≡ Err why → Goes old k new k put no_claims (reply.Refused why)
    unfolding tail
    goes-unopened-put {new} {last} {res} {why} opens e =
        goes-unfiled old new k put i g last res why f.disk f.safe f.going opens e
        (λ H p o q. front H p o p.world
        ∙ front2 (stale p.world i g) (is_directory p.world i) (last_rows p.world p.world) why q) late

    module _ {mid : DiskState} {last : LastRead} {r : Record} (opens : OpensFile old mid k i g last (Ok r)) where
      rec : IsTrue old.tells → inode old.now i ≡ r
      rec tells = record-of old mid k.at i r opens.stays opens.file.known tells

      agrees : (H : List Entry1) (p : Past) → IsTrue old.tells → IsOpen old k H p → agreed (files_in old.now) i ≡ true
      agrees H p tells o = current-agreed old.now i g (opens.current tells (are-agreed old k H p f.safe o))

      size-is : (H : List Entry1) (p : Past) → IsTrue old.tells → IsOpen old k H p → size_of p.world.files i ≡ r.size
      size-is H p tells o =
          let a = agrees H p tells o in
          let match = open-files old k H p o in
          let m = matched-agreed p.world.files old.now i match (agreed-live old.now i a) a in
          let s = (file-in p.world.files old.now i m.file match m.is).1 in
          rw (m.is, size_of) (s.size ∙ ap (λ (q : Record). q.size) (rec tells))

      opened : (H : List Entry1) (p : Past) → IsTrue old.tells → IsOpen old k H p → (V : World)
          → first_of (rows p.world V put) ≡ first_of (last_rows p.world V)
      unfolding tail
      opened H p tells o V =
          let match = open-files old k H p o in
          let a = agrees H p tells o in
          let kind = ap (λ (q : Record). q.kind) (rec tells) ∙ opens.file.kind in
          let folder : is_folder_at p.world.files i ≡ false = folder-is p.world.files old.now i match a
          ∙ ap (λ q. is_kind Directory q) kind in
          front H p o V ∙ skip2 (stale p.world i g) (is_directory p.world i) (last_rows p.world V)
          (stale-none p.world old.now i g match (opens.current tells (are-agreed old k H p f.safe o))) (rw folder refl)

      past-is : (t : Bool) → is_past_end r.size slot ≡ t → (H : List Entry1) (p : Past) → IsTrue old.tells
          → IsOpen old k H p
          → is_past_end (size_of p.world.files i) slot ≡ t
      past-is t e H p tells o = ap (λ (n : ℕ). is_past_end n slot) (size-is H p tells o) ∙ e

      pub goes-past-end : is_past_end r.size slot ≡ true
          → Goes old k mid k put no_claims (reply.Refused refusal.PastEnd)
      goes-past-end past =
          goes-row old mid k put f.disk f.safe opens.stays (opens.no_fault refl) refusal.PastEnd refl tt f.going
          (λ tells H p o. opened H p tells o p.world ∙ (let t = past-is true past H p tells o in rw t refl))

      pub goes-unread : {new : DiskState} {next : LastRead} {e : Failed}
          → FindsSlot mid new k.at (λ X. find X i (path_of slot)) next (Err e)
          → Goes old k new k put no_claims (reply.Refused refusal.ReadFault)
      goes-unread {new} finds =
          goes-read old new k put f.disk f.safe (StaysButFaults-trans old mid new opens.stays finds.stays) f.going
          (Rose-within old.faults mid.faults new.faults new.faults opens.stays.disk.faults finds.cause
          (le_refl new.faults)) (λ tells H p o. late H p o)

      module _ {new : DiskState} {next : LastRead} {a : PathAnswer}
          (finds : FindsSlot mid new k.at (λ X. find X i (path_of slot)) next (Ok a))
          (inside : is_past_end r.size slot ≡ false) where
        found : IsTrue old.tells → a ≡ find old.now i (path_of slot)
        found tells = subst (λ (X : Image). a ≡ find X i (path_of slot)) opens.stays.cells.now
            (finds.found (told-on old mid opens.stays tells))

        value-found : (H : List Entry1) (p : Past) → IsTrue old.tells → IsOpen old k H p
            → value_of p.world.files i slot ≡ value_in old.now a
        value-found H p tells o =
            value-is p.world.files old.now i slot (open-files old k H p o) (agrees H p tells o)
            (slots-most k.at slot low)
            ∙ ap (value_in old.now) (sym (found tells))

        within : (H : List Entry1) (p : Past) → IsTrue old.tells → IsOpen old k H p → (V : World)
            → first_of (rows p.world V put)
            ≡ first_of (lost_under p.world i slot at bytes ∷ full p.world V put ∷ serials_spent p.world put ∷ [])
        within H p tells o V = opened H p tells o V ∙ (let t = past-is false inside H p tells o in rw t refl)

        under-is : (t : Bool) → is_lost_under r.size slot at (length bytes) ≡ t → (H : List Entry1) (p : Past)
            → IsTrue old.tells → IsOpen old k H p
            → is_lost_under (size_of p.world.files i) slot at (length bytes) ≡ t
        under-is t e H p tells o = ap (λ (n : ℕ). is_lost_under n slot at (length bytes)) (size-is H p tells o) ∙ e

        stays : StaysButFaults old new
        stays = StaysButFaults-trans old mid new opens.stays finds.stays

        pub goes-lost : a ≡ answer.Lost → is_lost_under r.size slot at (length bytes) ≡ true
            → Goes old k new k put no_claims (reply.Refused (refusal.LostSlot slot))
        goes-lost lost under = goes-row old new k put f.disk f.safe stays (finds.no_fault ∙ opens.no_fault refl)
            (refusal.LostSlot slot) refl tt f.going
            (λ tells H p o.
            let v : is_lost (value_of p.world.files i slot) ≡ true =
            ap is_lost (value-found H p tells o ∙ ap (value_in old.now) lost) in
            let u = under-is true under H p tells o in
            within H p tells o p.world ∙ rw (v, u, or-true) refl)

        -- where the slot is there, or lost and wholly covered
        rows-reach : (is_lost (value_in old.now a) ≡ false) ⊎ (is_lost_under r.size slot at (length bytes) ≡ false)
            → RowsReach old k i g slot at bytes
        rows-reach why tells H p o V = within H p tells o V ∙ elim why [
          | inl here ↦ (let v : is_lost (value_of p.world.files i slot) ≡ false = ap is_lost (value-found H p tells o)
              ∙ here in rw (v, or-false) refl)
          | inr covered ↦ (let u = under-is false covered H p tells o in rw (u, and-false, or-false) refl)
        ]

        keep : Keeping old new
        keep = reads-keep old new stays

        -- the same at the moment after the reads
        pub reach-after : (is_lost (value_in old.now a) ≡ false) ⊎ (is_lost_under r.size slot at (length bytes) ≡ false)
            → RowsReach new k i g slot at bytes
        reach-after why tells H p o V =
            rows-reach why (subst (λ (b : Bool). IsTrue b) keep.disk.tells tells) H p (open-back old new keep k H p o) V

        pub reach-hole : a ≡ answer.Hole → RowsReach new k i g slot at bytes
        reach-hole e = reach-after (inl (ap (λ (q : PathAnswer). is_lost (value_in old.now q)) e))

        -- where the slot holds, no block and no stamp is asked for, and what is above holds
        pub pass-after : {x : Pointer} → a ≡ answer.Holds x → RowsPass new k put
        pass-after e tells H p o V =
            let t = subst (λ (b : Bool). IsTrue b) keep.disk.tells tells in
            let q = open-back old new keep k H p o in
            let most = slots-most k.at slot low in
            let v : is_bytes (value_of p.world.files i slot) ≡ true =
            ap is_bytes (value-found H p t q ∙ ap (value_in old.now) e) in
            let d : damaged_above p.world.files i (path_of slot) ≡ false =
            held-sound p.world.files old.now i (open-files old k H p q) (agrees H p t q) (path_of slot)
            (path_of-slot slot most) (sym (found t) ∙ e) in
            let n : blocks_for p.world.files i slot ≡ 0 = rw v refl in
            let serial = o.says.serial in
            let most-serial = f.safe.serial in
            let few = not-less (free_blocks p.world) (blocks_for p.world.files i slot) (omega (arith, n)) in
            let left = not-less (2 ^ 40) (p.world.serial + 0 + blocks_for p.world.files i slot)
            (omega (arith, n, serial, most-serial)) in
            reach-after (inl (ap (λ (q : PathAnswer). is_lost (value_in old.now q)) e)) tells H p o V
            ∙ rw (d, few, left) refl

-- a step after two rows of reads
pub after : {old mid new end : DiskState} {k l : Books} {s : Step} {c : Claims} {r : Reply} → StaysButFaults old mid
    → StaysButFaults mid new → new.faults ≡ old.faults → Goes new k end l s c r → Goes old k end l s c r
after {old} {mid} {new} {end} {k} {l} {s} {c} {r} opened found same goes =
    goes-after old new (reads-keep old new (StaysButFaults-trans old mid new opened found)) same end k l s c r goes
