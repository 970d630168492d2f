-- The rows of free blocks and stamps for a Put that asks for any number of blocks.
use Rattle.std.proofs.Common.{◌≡◌, ℕ, ◌+◌, ◌<◌, ◌≤◌, ◌^◌, Bool, true, false, ltb, List, Option, None, Some, IsTrue}
use Rattle.std.proofs.Common.{refl, sym, ◌∙◌, arith, le_refl, subst}
use Rattle.std.specs.Prelude.{IfSome}
use Rattle.std.proofs.lemmas.Bool.{le-ltb}
use Rattle.std.proofs.lemmas.Bool.Decides.{nat_tests}
use Rattle.std.proofs.lemmas.List.Sums.{count_by-le-length}
use Rattle.nofs_bits.specs.Bits.{count_set}
use Rattle.nofs_ptrs.specs.Paths.{slot_limit}
use Rattle.nofs_disk.specs.Disk.{DiskState, IsDisk, StaysButFaults, Rose}
use Rattle.nofs_disk.specs.Chains.{Rose-within, StaysButFaults-refl, StaysButFaults-trans}
use Rattle.nofs_inode.specs.declared.inode.Record.{Record}
use Rattle.nofs_model.specs.Slots.{value}
use Rattle.nofs_history.specs.Meta.{is_bytes}
use Rattle.nofs_history.specs.World.{blocks_for, free_blocks}
use Rattle.nofs_history.specs.Claims.{no_claims}
use Rattle.nofs_history.specs.declared.machine.history.Entry1.{Entry1}
use Rattle.nofs_history.specs.declared.machine.steps.Step.{Step}
use Rattle.nofs_history.specs.declared.machine.replies.Reply.TheVariants as reply
use Rattle.nofs_history.specs.declared.machine.replies.Refusal.{Refusal}
use Rattle.nofs_history.specs.declared.machine.replies.Refusal.TheVariants as refusal
use Rattle.nofs_agree.specs.Chain.{AreTrue}
use Rattle.nofs_agree.specs.declared.reads.LastRead.{LastRead}
use Rattle.nofs_state.specs.Books.Maps.{IsSafe}
use Rattle.nofs_state.specs.Inodes.Opened.{is_current}
use Rattle.nofs_state.specs.Cores.Invariant.{IsOpen, Past}
use Rattle.nofs_state.specs.Cores.Steps.{Goes}
use Rattle.nofs_state.specs.declared.books.maps.Books.{Books}
use Rattle.nofs_state.specs.Writes.Premises.{RowsPass}
use Rattle.nofs_state.proofs.OnBooks.Counts.{free-count, unknown-count}
use Rattle.nofs_state.proofs.OnCores.Replies.{goes-read, goes-row}
use Rattle.nofs_state.proofs.OnBooks.Free.{three-free, two-free}
use Rattle.nofs_files.specs.Reads.{IsFile}
use Rattle.nofs_files.specs.Puts.{AreThreeFree, AreTwoFree, HasRoom, MayPut, NoRoom, RowsLead, StampsSpent, TooFull}
use Rattle.nofs_files.specs.Puts.{step_of_put}
use Rattle.nofs_files.specs.declared.puts.claims.ThreeBlocks.{ThreeBlocks}
use Rattle.nofs_files.specs.declared.puts.claims.TwoBlocks.{TwoBlocks}
use Rattle.nofs_files.specs.declared.puts.put.Put.{Put}
use Rattle.nofs_files.proofs.OnPuts.Rows.{IsBegun}

less : (a b : ℕ) → a < b → ltb a b ≡ true
less a b h = grind (arith, nat_tests)

-- the count of unknown blocks fits its number
few-unknown : (d : DiskState) (k : Books) → IsSafe d k → count_set k.unknown_blocks < 2 ^ 64
few-unknown d k safe =
    let c = count_by-le-length (λ bit. bit) k.unknown_blocks in let l = safe.unknown_blocks in
    let m = safe.at.geometry.most_blocks in omega (arith, c, l, m)

-- where two were found, or three, there are as many
pub some-two : (bits : List Bool) (found : Option TwoBlocks) → IfSome found (λ x. AreTwoFree bits x.first x.second)
    → IfSome found (λ x. 2 ≤ count_set bits)
some-two bits None f = tt
some-two bits (Some x) f = two-free bits x.first x.second f.order f.range f.first f.second

pub some-three : (bits : List Bool) (found : Option ThreeBlocks)
    → IfSome found (λ x. AreThreeFree bits x.first x.second x.third)
    → IfSome found (λ x. 3 ≤ count_set bits)
some-three bits None f = tt
some-three bits (Some x) f = let t = f.two in
    three-free bits x.first x.second x.third t.order f.order f.range t.first t.second f.third

-- a Put of an opened file into a slot without bytes asks for m blocks, and only the rows of blocks and stamps can
-- refuse it
pub record IsAsked (d : DiskState) (k : Books) (p : Put) (r : Record) (m : ℕ) : Type 0 where
  pub disk : IsDisk d
  pub safe : IsSafe d k
  pub going : k.stopped ≡ false
  pub file : IsFile d k.at p.inode p.generation r
  pub current : IsTrue d.tells → AreTrue d.now k.agreement → is_current d.now p.inode p.generation ≡ true
  pub slot : p.slot < slot_limit
  pub empty : IsTrue d.tells → is_bytes (value d.now p.inode p.slot) ≡ false
  pub needs : IsTrue d.tells → (H : List Entry1) (q : Past) → IsOpen d k H q
      → blocks_for q.world.files p.inode p.slot ≡ m
  pub lead : RowsLead d k (step_of_put p)

module _ {d : DiskState} {k : Books} {p : Put} {r : Record} {m : ℕ} (a : IsAsked d k p r m) where
  abbrev put : Step
  put = step_of_put p

  enough : m ≤ count_set k.free_blocks → IsTrue d.tells → (H : List Entry1) (q : Past) → IsOpen d k H q
      → ltb (free_blocks q.world) (blocks_for q.world.files p.inode p.slot) ≡ false
  enough le tells H q o =
      let n = a.needs tells H q o in
      let f : count_set k.free_blocks ≡ free_blocks q.world = free-count d k q.world a.safe o.says in
      le-ltb (free_blocks q.world) (blocks_for q.world.files p.inode p.slot) (omega (arith, n, f, le))

  -- there are too few of one or the other
  pub goes-no-room : {why : Refusal} → NoRoom k m why → Goes d k d k put no_claims (reply.Refused why)
  goes-no-room {why} (TooFull lt full) =
      subst (λ (w : Refusal). Goes d k d k put no_claims (reply.Refused w)) (sym full.same)
      (goes-row d d k put a.disk a.safe (StaysButFaults-refl d) refl
      (refusal.Full m (count_set k.free_blocks) (count_set k.unknown_blocks) full.next) refl
      (few-unknown d k a.safe) a.going
      (λ tells H q o.
      let n = a.needs tells H q o in
      let f : count_set k.free_blocks ≡ free_blocks q.world = free-count d k q.world a.safe o.says in
      let few : ltb (free_blocks q.world) (blocks_for q.world.files p.inode p.slot) ≡ true = less (free_blocks q.world)
      (blocks_for q.world.files p.inode p.slot) (omega (arith, n, f, lt)) in
      a.lead tells H q o q.world
      ∙ rw few (λ j. Some (refusal.Full (n j) (sym f j) (sym (unknown-count d k q.world a.safe o.says) j)
      (sym (full.is_next q.world o.says a.safe.unknown_blocks) j)))))
  goes-no-room {why} (StampsSpent le spent same) =
      subst (λ (w : Refusal). Goes d k d k put no_claims (reply.Refused w)) (sym same)
      (goes-row d d k put a.disk a.safe (StaysButFaults-refl d) refl refusal.SerialsSpent refl tt a.going
      (λ tells H q o.
      let n = a.needs tells H q o in
      let e = enough le tells H q o in
      let t : ltb (2 ^ 40) (q.world.serial + 0 + blocks_for q.world.files p.inode p.slot) ≡ true = less (2 ^ 40)
      (q.world.serial + 0 + blocks_for q.world.files p.inode p.slot)
      (let s = o.says.serial in omega (arith, n, s, spent)) in
      a.lead tells H q o q.world ∙ rw (e, t) refl))

  -- both are there
  pub rows-pass : HasRoom k m → RowsPass d k put
  rows-pass room tells H q o V =
      let n = a.needs tells H q o in
      let left = room.stamps in
      let e = enough room.blocks tells H q o in
      let t : ltb (2 ^ 40) (q.world.serial + 0 + blocks_for q.world.files p.inode p.slot) ≡ false = le-ltb (2 ^ 40)
      (q.world.serial + 0 + blocks_for q.world.files p.inode p.slot)
      (let s = o.says.serial in omega (arith, n, s, left)) in
      a.lead tells H q o V ∙ rw (e, t) refl

  -- and a read fails
  pub goes-unread-late : HasRoom k m → {new : DiskState} → StaysButFaults d new → Rose d.faults new.faults
      → Goes d k new k put no_claims (reply.Refused refusal.ReadFault)
  goes-unread-late room {new} stays rose = goes-read d new k put a.disk a.safe stays a.going rose
      (λ tells H q o why e. absurd (let n = rows-pass room tells H q o q.world in cc (n, e)))

  pub goes-untabled : HasRoom k m → {mid new : DiskState} {why : Refusal} → StaysButFaults d mid
      → StaysButFaults mid new
      → (why ≡ refusal.ReadFault) × Rose mid.faults new.faults → Goes d k new k put no_claims (reply.Refused why)
  goes-untabled room {mid} {new} {why} before after (is, rose) =
      subst (λ (w : Refusal). Goes d k new k put no_claims (reply.Refused w)) (sym is)
      (goes-unread-late room (StaysButFaults-trans d mid new before after)
      (Rose-within d.faults mid.faults new.faults new.faults before.disk.faults rose (le_refl new.faults)))

-- a Put is met by a mount that goes on
pub begun : (p : Put) {d : DiskState} {k : Books} → IsDisk d → IsSafe d k
    → k.stopped ≡ false → IsBegun d k p.inode p.generation p.slot p.at p.bytes.now
begun p disk safe going = record { disk = disk; safe = safe; going = going }

-- after all rows a failed read of the table alone refuses
pub goes-unpassed : {d new : DiskState} {k : Books} {p : Put} {r : Record} {read : LastRead} {writes : ℕ}
    {why : Refusal} → IsDisk d
    → MayPut d k p r read writes → RowsPass d k (step_of_put p) → StaysButFaults d new
    → (why ≡ refusal.ReadFault) × Rose d.faults new.faults
    → Goes d k new k (step_of_put p) no_claims (reply.Refused why)
goes-unpassed {d} {new} {k} {p} {r} {read} {writes} {why} disk may pass stays (is, rose) =
    subst (λ (w : Refusal). Goes d k new k (step_of_put p) no_claims (reply.Refused w)) (sym is)
    (goes-read d new k (step_of_put p) disk may.safe stays may.going rose
    (λ tells H q o why e. absurd (let n = pass tells H q o q.world in cc (n, e))))
