-- The exits of a step that writes nothing: each makes its contract.
use Rattle.std.proofs.Common.{◌≡◌, ℕ, ◌+◌, ◌≤◌, ◌⊎◌, inl, inr, Bool, true, false, cond, ltb, List, Option, Some, None}
use Rattle.std.proofs.Common.{IsTrue, refl, sym, ap, ◌∙◌, subst, arith}
use Rattle.std.proofs.lemmas.Bool.{cases_lt}
use Rattle.nofs_disk.specs.Disk.{DiskState, IsDisk, StaysButFaults, Rose}
use Rattle.nofs_disk.specs.Pointer.{null}
use Rattle.nofs_model.specs.Geometry.{Image}
use Rattle.nofs_model.specs.Files.{Files}
use Rattle.nofs_model.specs.Owners.{Home}
use Rattle.nofs_model.proofs.OnOwners.Slots.{owner-holds, owner-slot}
use Rattle.nofs_model.proofs.OnSlots.Paths.{path_of-number}
use Rattle.nofs_history.specs.Search.{first_of}
use Rattle.nofs_history.specs.Machine.{gives, files_after, is_write_fault, is_refused}
use Rattle.nofs_history.specs.World.{World, inodes_needed, blocks_needed}
use Rattle.nofs_history.specs.Claims.{no_claims, next_stamp, cell_slot, homes_after, has_block, claimed_home, IsClaim}
use Rattle.nofs_history.specs.Claims.{IsBlockClaim, IsInodeClaim, Unclaimed, NoInode}
use Rattle.nofs_history.specs.Refusals.{rows, reads_nothing}
use Rattle.nofs_history.specs.Answers.{reply_of}
use Rattle.nofs_history.specs.Since.{is_flushed}
use Rattle.nofs_history.specs.History.{FilesMatch}
use Rattle.nofs_history.specs.Next.{Keeps, Learns, Next, AfterFault, ByRow, Done, ByRead, sees_inode, sees_block}
use Rattle.nofs_history.specs.Steps.{is_out_of_memory, InRange}
use Rattle.nofs_history.specs.declared.machine.history.Claims.{Claims}
use Rattle.nofs_history.specs.declared.machine.history.Entry1.{Entry1}
use Rattle.nofs_history.specs.declared.machine.steps.Step.{Step}
use Rattle.nofs_history.specs.declared.machine.replies.Reply.{Reply}
use Rattle.nofs_history.specs.declared.machine.replies.Reply.TheVariants as reply
use Rattle.nofs_history.specs.declared.machine.replies.Refusal.{Refusal}
use Rattle.nofs_history.specs.declared.machine.replies.Refusal.TheVariants as refusal
use Rattle.nofs_crashlaw.specs.Maps.Homes.{HomesMatch}
use Rattle.nofs_crashlaw.proofs.OnMaps.Homes.{holds-has}
use Rattle.nofs_crashlaw.proofs.OnHistories.FlushStage.{files-stay}
use Rattle.nofs_state.specs.Books.Maps.{IsSafe}
use Rattle.nofs_state.specs.Cores.Invariant.{IsOpen, IsStopped, Past, Sounds}
use Rattle.nofs_state.specs.Cores.Steps.{Goes, IsReading, IsSafeStep, LeavesDisk, entry, is_late, is_plain}
use Rattle.nofs_history.specs.Writes.{makes_calls}
use Rattle.nofs_state.specs.declared.books.maps.Books.{Books}
use Rattle.nofs_state.proofs.OnCores.NoWrites.{IsIdle, follows-idle, stopped-idle}
use Rattle.nofs_state.proofs.OnBooks.Safe.{reads-keep, safe-keeps}
use Rattle.nofs_state.proofs.OnCores.SafeSteps.{accepted-fault, accepted-given, accepted-memory, after-read}
use Rattle.nofs_state.proofs.OnCores.SafeSteps.{plain-fault, plain-memory}
use Rattle.nofs_state.proofs.OnCores.SafeSteps.{late-given, late-plain, row-given}
use Rattle.nofs_state.specs.Cores.Early.{IsByGiven, refused_early}
use Rattle.nofs_state.proofs.OnCores.SafeSteps.{safely-answer, safely-goes, safely-read, safely-row, safely-stopped}
use Rattle.nofs_state.proofs.OnWrites.NoWrites.{sounds-keep}

pub keeps-all : (W : World) → Keeps W W
keeps-all W =
    record { version = refl; blocks = refl; inodes = refl; mount = refl; serial = refl; files = refl; homes = refl }

-- Nothing more becomes known, whether the machine stops or not: what a See step that was done examines is known before
pub learns-known : (W : World) (s : Step) (done stop : Bool)
    → (done ≡ true → (i : ℕ) → sees_inode s i ≡ true → W.known_inodes i ≡ true)
    → (done ≡ true → (p : ℕ) → sees_block s p ≡ true → W.known_blocks p ≡ true)
    → Learns W s done (record W { stopped = stop })
learns-known W s done stop inodes blocks = record {
  inodes_stay = λ i k. k;
  blocks_stay = λ p k. k;
  inodes_change = λ i ne. absurd (ne refl);
  blocks_change = λ p ne. absurd (ne refl);
  inode_seen = inodes;
  block_seen = blocks;
  inodes_why = λ i k. inl k;
  blocks_why = λ p k. inl k;
}

pub nothing-learned : (W : World) (s : Step) (stop : Bool) → Learns W s false (record W { stopped = stop })
nothing-learned W s stop = learns-known W s false stop (λ t. cc t) (λ t. cc t)

-- the machine's files are those of the disk
pub open-files : (d : DiskState) (k : Books) (H : List Entry1) (p : Past) → IsOpen d k H p
    → FilesMatch p.world.files d.now
open-files d k H p o = subst (λ (F : Files). FilesMatch F d.now) (sym o.files) o.stage.ready.files

-- Homes stay where nothing is claimed and the files stay

-- each used block is that of a slot that has its block
pub home-has : (W : World) (X : Image) → FilesMatch W.files X → HomesMatch W X
    → ((b : ℕ) → W.blocks ≤ b → W.homes b ≡ None) → (p : ℕ) (h : Home)
    → W.homes p ≡ Some h → has_block W.files h ≡ true
home-has W X match homes past p h e = elim (cases_lt p W.blocks) [
  | inl low ↦
      let o = sym (homes p low) ∙ e in
      let holds = owner-holds X p h.inode h.slot o in
      let number = path_of-number h.slot (owner-slot X p h.inode h.slot o) in
      holds-has W.files X match h.inode h.slot holds.0 number.0 holds.1 holds.2
  | inr high ↦ absurd (let n = past p high in cc (n, e))
]

pub homes-stay : (W : World) (X : Image) (s : Step) → FilesMatch W.files X → HomesMatch W X
    → ((b : ℕ) → W.blocks ≤ b → W.homes b ≡ None)
    → cell_slot W.files s ≡ None → homes_after W s no_claims W.files ≡ W.homes
homes-stay W X s match homes past slot = λ j p. at p j
  where
    go : (p : ℕ) (o : Option Home) → W.homes p ≡ o
        → (elim o as (λ (_ : Option Home). Option Home)
        [ None ↦ None | Some home ↦ cond (has_block W.files home) (Some home) None ]) ≡ o
    go p None e = refl
    go p (Some h) e = rw (home-has W X match homes past p h e) refl

    none : (p : ℕ) → claimed_home W.files s no_claims p ≡ None
    none p = rw (slot, claimed_home) refl

    at : (p : ℕ) → homes_after W s no_claims W.files p ≡ W.homes p
    at p = rw (none p, homes_after) (go p (W.homes p) refl)

-- Entries that refuse

pub refused-idle : (F : Files) (e : Entry1) (why : Refusal) → e.reply ≡ reply.Refused why
    → is_write_fault (reply.Refused why) ≡ false → IsIdle F e
refused-idle F e why is safe =
    let fault : is_write_fault e.reply ≡ false = ap is_write_fault is ∙ safe in
    let refused : is_refused e.reply ≡ true = ap is_refused is in
    record {
      given = rw (refused, fault) refl;
      files = rw refused refl;
      no_flush = ap is_flushed is;
      no_fault = fault;
    }

-- a failed read
pub by-read : (W : World) (e : Entry1)
    → W.stopped ≡ false → ((why : Refusal) → first_of (rows W W e.step) ≡ Some why → reads_nothing why ≡ false)
    → e.reply ≡ reply.Refused refusal.ReadFault → e.claims ≡ no_claims → Next W e W
by-read W e going late is none = go (first_of (rows W W e.step)) refl
  where
    go : (o : Option Refusal) → first_of (rows W W e.step) ≡ o → Next W e W
    go None eo = ByRead going eo is none (keeps-all W) going (nothing-learned W e.step W.stopped)
    go (Some why) eo =
        ByRow why going eo (inr (is, late why eo)) none (keeps-all W) going (nothing-learned W e.step W.stopped)

-- the claim of a step that needs nothing
pub no-claim : (W : World) (s : Step) → inodes_needed s ≡ 0 → ((F : Files) → blocks_needed F s ≡ 0)
    → IsClaim W s no_claims
no-claim W s no_inode no_block = record {
  inode = subst (λ (n : ℕ). IsInodeClaim W (next_stamp W) no_claims (ltb 0 n)) (sym no_inode) (NoInode refl refl);
  cell = subst (λ (n : ℕ). IsBlockClaim W (next_stamp W + inodes_needed s) null (ltb 0 n)) (sym (no_block W.files))
      (Unclaimed refl);
  leaf = subst (λ (n : ℕ). IsBlockClaim W (next_stamp W + inodes_needed s + 1) null (ltb 1 n)) (sym (no_block W.files))
      (Unclaimed refl);
  top = subst (λ (n : ℕ). IsBlockClaim W (next_stamp W + inodes_needed s + 2) null (ltb 2 n)) (sym (no_block W.files))
      (Unclaimed refl);
  apart = tt;
}

-- an answer of a step that reads alone
pub by-answer : (W : World) (X : Image) (e : Entry1) → W.stopped ≡ false → FilesMatch W.files X → HomesMatch W X
    → ((b : ℕ) → W.blocks ≤ b → W.homes b ≡ None)
    → IsReading e.step
    → first_of (rows W W e.step) ≡ None → e.reply ≡ reply_of W e.step e.claims → e.claims ≡ no_claims → Next W e W
by-answer W X e going match homes past reads none is claims =
    Done going none is claim files homes-are serial (refl, refl, refl, refl, going) learned
  where
    claim : IsClaim W e.step e.claims
    claim = subst (λ (c : Claims). IsClaim W e.step c) (sym claims) (no-claim W e.step reads.no_inode reads.no_block)

    files : W.files ≡ files_after W.files (gives W.files e.step e.claims)
    files = sym (ap (λ (c : Claims). files_after W.files (gives W.files e.step c)) claims
        ∙ ap (λ g. files_after W.files g) (reads.gives W.files)
        ∙ files-stay W.files)

    homes-are : W.homes ≡ homes_after W e.step e.claims W.files
    homes-are = sym (ap (λ (c : Claims). homes_after W e.step c W.files) claims
        ∙ homes-stay W X e.step match homes past (reads.no_slot W.files))

    serial : W.serial ≡ W.serial + inodes_needed e.step + blocks_needed W.files e.step
    serial = let a = reads.no_inode in let b = reads.no_block W.files in omega (arith, a, b)

    learned : Learns W e.step true W
    learned = learns-known W e.step true W.stopped (λ t i q. absurd (let z = reads.sees_no_inode i in cc (q, z)))
        (λ t p q. absurd (let z = reads.sees_no_block p in cc (q, z)))

no-flush : (r : Reply) → makes_calls r ≡ false → is_flushed r ≡ false
no-flush reply.Flushed e = cc e
no-flush _ e = refl

-- The contracts, exit by exit

pub safe-on : (old new : DiskState) (k : Books) → StaysButFaults old new → IsSafe old k → IsSafe new k
safe-on old new k stays = safe-keeps old new (reads-keep old new stays) k

module _ (old new : DiskState) (k : Books) (s : Step) (is : IsDisk old) (safe : IsSafe old k)
    (stays : StaysButFaults old new) where
  -- what is sound stays so over the reads
  sound : IsTrue old.tells → (H : List Entry1) (p : Past) → IsOpen old k H p ⊎ IsStopped old k H p
      → (from : ℕ) → Sounds from old → Sounds from new
  sound tells H p o from q = sounds-keep from old new stays.disk stays.past stays.cells q

  -- the mount is stopped
  pub goes-stopped : new.faults ≡ old.faults → k.stopped ≡ true
      → Goes old k new k s no_claims (reply.Refused refusal.Stopped)
  goes-stopped same stopped =
      safely-goes old new k k s no_claims (reply.Refused refusal.Stopped)
      (safely-stopped old new k safe stays same stopped) (after-read k.at s refusal.Stopped refl)
      (LeavesDisk refl stays.cells stays.dirty) sound
      (λ tells caller H p o. absurd (let g = o.going in cc (g, stopped)))
      (λ tells caller H p o. record {
        none = λ t. absurd (cc);
        done = λ n. stopped-idle old new k k H p
            (entry caller old new s no_claims (reply.Refused refusal.Stopped)) stays refl refl refl o refl refl refl
            (AfterFault o.world_stopped refl refl refl) stopped;
        next = λ n. AfterFault o.world_stopped refl refl refl;
      })

  -- the mount goes on, with an entry that changes nothing
  goes-idle : (r : Reply)
      → is_out_of_memory r ≡ false → makes_calls r ≡ false → k.stopped ≡ false → IsSafeStep old k new k r
      → IsByGiven k.at s r
      → (IsTrue old.tells → (H : List Entry1) (p : Past) → IsOpen old k H p → p.world.stopped ≡ false → (caller : ℕ)
      → IsIdle p.world.files (entry caller old new s no_claims r)
      × Next p.world (entry caller old new s no_claims r) p.world)
      → Goes old k new k s no_claims r
  goes-idle r memory quick going safely early idle =
      safely-goes old new k k s no_claims r safely early (LeavesDisk quick stays.cells stays.dirty) sound
      (λ tells caller H p o.
      let e : Entry1 = entry caller old new s no_claims r in
      let i = idle tells H p o (o.says.stopped ∙ going) caller in
      follows-idle old new k k H p e stays refl refl refl p.world is tells o i.0 i.1
      (keeps-all p.world) o.says refl going memory)
      (λ tells caller H p o. absurd (let t = o.stopped in cc (t, going)))

  -- a refusal by a row of the machine, before any read or after one
  goes-refused : new.faults ≡ old.faults → (why : Refusal) → is_plain why ≡ true → InRange why
      → IsByGiven k.at s (reply.Refused why) → k.stopped ≡ false
      → (IsTrue old.tells → (H : List Entry1) (p : Past) → IsOpen old k H p
      → first_of (rows p.world p.world s) ≡ Some why)
      → Goes old k new k s no_claims (reply.Refused why)
  goes-refused same why plain range early going comes = goes-idle (reply.Refused why) (plain-memory why plain)
      (plain-fault why plain) going (safely-row old new k safe stays same why plain range going) early
      (λ tells H p o runs caller. (
        refused-idle p.world.files (entry caller old new s no_claims (reply.Refused why)) why refl
            (plain-fault why plain),
        ByRow why runs (comes tells H p o) (inl refl) refl (keeps-all p.world) runs
            (nothing-learned p.world s p.world.stopped),
      ))

  -- by a row that comes after a read
  pub goes-row : new.faults ≡ old.faults → (why : Refusal) → is_late why ≡ true → InRange why → k.stopped ≡ false
      → (IsTrue old.tells → (H : List Entry1) (p : Past) → IsOpen old k H p
      → first_of (rows p.world p.world s) ≡ Some why)
      → Goes old k new k s no_claims (reply.Refused why)
  goes-row same why late range going comes =
      goes-refused same why (late-plain why late) range (late-given k.at s why late) going comes

  -- by one that needs no disk
  pub goes-early : new.faults ≡ old.faults → (why : Refusal) → is_plain why ≡ true → InRange why → k.stopped ≡ false
      → refused_early k.at s ≡ Some why
      → (IsTrue old.tells → (H : List Entry1) (p : Past) → IsOpen old k H p
      → first_of (rows p.world p.world s) ≡ Some why)
      → Goes old k new k s no_claims (reply.Refused why)
  goes-early same why plain range going early comes =
      goes-refused same why plain range (row-given k.at s why early) going comes

  -- a read failed
  pub goes-read : k.stopped ≡ false → Rose old.faults new.faults
      → (IsTrue old.tells → (H : List Entry1) (p : Past) → IsOpen old k H p
      → (why : Refusal) → first_of (rows p.world p.world s) ≡ Some why
      → reads_nothing why ≡ false)
      → Goes old k new k s no_claims (reply.Refused refusal.ReadFault)
  goes-read going rose late =
      goes-idle (reply.Refused refusal.ReadFault) refl refl going (safely-read old new k safe stays going rose)
      (after-read k.at s refusal.ReadFault refl)
      (λ tells H p o runs caller.
      let e : Entry1 = entry caller old new s no_claims (reply.Refused refusal.ReadFault) in
      (refused-idle p.world.files e refusal.ReadFault refl refl, by-read p.world e runs (late tells H p o) refl refl))

  -- an answer
  pub goes-answer : new.faults ≡ old.faults → (r : Reply) → is_refused r ≡ false → makes_calls r ≡ false → IsReading s
      → k.stopped ≡ false
      → (IsTrue old.tells → (H : List Entry1) (p : Past) → IsOpen old k H p
      → (first_of (rows p.world p.world s) ≡ None) × (r ≡ reply_of p.world s no_claims))
      → Goes old k new k s no_claims r
  goes-answer same r accepted none reads going comes = goes-idle r (accepted-memory r accepted) none going
      (safely-answer old new k safe stays same r accepted (no-flush r none) going)
      (accepted-given k.at s r accepted)
      (λ tells H p o runs caller.
      let e : Entry1 = entry caller old new s no_claims r in
      let c = comes tells H p o in (
        record {
          given = rw accepted (reads.gives p.world.files);
          files = rw accepted
              (ap (λ g. files_after p.world.files g) (reads.gives p.world.files) ∙ files-stay p.world.files);
          no_flush = no-flush r none;
          no_fault = accepted-fault r accepted;
        },
        by-answer p.world old.now e runs (open-files old k H p o) o.homes o.homes_past reads c.0 c.1 refl,
      ))
