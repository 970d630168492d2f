-- At the end of a session in which no call of the device failed the machine's verdicts are those of the disk.
use Rattle.std.proofs.Common.{◌≡◌, ℕ, ◌-◌, ◌/◌, ◌<◌, Bool, true, false, ◌||◌, not, leb, List, [], ◌∷◌, ◌++◌, is_some}
use Rattle.std.proofs.Common.{◌⊎◌, inl, inr, refl, sym, ap, ◌∙◌, subst, arith}
use Rattle.nofs_disk.specs.Disk.{DiskState}
use Rattle.nofs_super.specs.Raise.{raised}
use Rattle.nofs_super.specs.declared.superblock.SuperBlock.{SuperBlock}
use Rattle.nofs_model.specs.Geometry.{Image, super_at}
use Rattle.nofs_model.specs.Files.{Files, is_special}
use Rattle.nofs_history.specs.declared.machine.callers.TheConstants.{BLOCK_SWEEPER, INODE_SWEEPER}
use Rattle.nofs_history.specs.Good.{IsGood}
use Rattle.nofs_history.specs.History.{FilesMatch, NoWriteFault}
use Rattle.nofs_history.specs.Machine.{is_write_fault}
use Rattle.nofs_history.specs.Faults.{is_fault, has_fault}
use Rattle.nofs_history.specs.Next.{Run}
use Rattle.nofs_history.specs.World.{World, world_of}
use Rattle.nofs_history.specs.declared.machine.history.Entry1.{Entry1}
use Rattle.nofs_history.specs.declared.machine.replies.Reply.{Reply}
use Rattle.nofs_history.specs.declared.machine.replies.Reply.TheVariants as reply
use Rattle.nofs_history.specs.declared.machine.replies.Refusal.TheVariants as refusal
use Rattle.nofs_history.specs.declared.machine.steps.Step.TheVariants as step
use Rattle.nofs_crashlaw.proofs.OnMaps.Homes.{law-good}
use Rattle.nofs_racelaw.specs.Laws.{SameState}
use Rattle.nofs_racelaw.proofs.OneRun.{law-one-run}
use Rattle.nofs_state.specs.Cores.Invariant.{IsOpen, IsStopped, Past}
use Rattle.nofs_state.specs.declared.books.maps.Books.{Books}
use Rattle.nofs_shared.specs.Mount.End.{Contents}
use Rattle.nofs_shared.specs.Mount.Forms.{Forms}
use Rattle.nofs_shared.specs.Mount.Invariant.{IsMount, IsSoundDisk}
use Rattle.nofs_shared.specs.Mount.Entries.{AddsStep}
use Rattle.nofs_shared.proofs.OnLaws.LastFlush.{last-flush}
use Rattle.nofs_shared.proofs.OnMount.End.{mount-ends}
use Rattle.nofs_client.specs.declared.task.commands.Command.{Command}
use Rattle.nofs_client.specs.declared.task.lines.Line.{Line}
use Rattle.nofs_history.specs.declared.machine.steps.ElementKind.TheVariants.{Inode, Block}
use Rattle.nofs_history.specs.Callers.{steps_by}
use Rattle.nofs_workers.specs.Sweep.{Sweeps}
use Rattle.nofs_tool.specs.Session.Serve.{IsClosed, IsFlushed, IsSessionRun}
use Rattle.nofs_tool.specs.Session.Whole.{Finished, IsWholeScan, ShowsDisk}
use Rattle.nofs_tool.proofs.OnSession.Known.{blocks-seen, has-added, inodes-seen, no-fault, run-goes}

pub not-write : (r : Reply) → is_fault r ≡ false → is_write_fault r ≡ false
not-write (reply.Refused refusal.WriteFault) e = absurd (cc e)
not-write _ e = refl

pub or-none : (a b : Bool) → b ≡ false → (a || b) ≡ a
or-none true b e = refl
or-none false b e = e

-- where no call of the device failed, the mount is not stopped
still-going : (es : List Entry1) (moment end : ℕ) (stopped last : Bool) → Forms moment stopped es end last
    → has_fault es ≡ false → last ≡ stopped
still-going [] moment end stopped last f ok = f.1
still-going (e ∷ es) moment end stopped last f ok =
    let none = no-fault (is_fault e.reply) (has_fault es) ok in
    still-going es e.to end (stopped || is_write_fault e.reply) last f.1 none.1
    ∙ or-none stopped (is_write_fault e.reply) (not-write e.reply none.0)

-- where no write failed, it is not
unwritten-going : (es : List Entry1) (moment end : ℕ) (stopped last : Bool) → Forms moment stopped es end last
    → NoWriteFault es → last ≡ stopped
unwritten-going [] moment end stopped last f none = f.1
unwritten-going (e ∷ es) moment end stopped last f none =
    unwritten-going es e.to end (stopped || is_write_fault e.reply) last f.1 none.1
    ∙ or-none stopped (is_write_fault e.reply) none.0

same-world : (W V : World) → V ≡ W → SameState W V
same-world W V e = record {
  blocks = ap (λ (q : World). q.blocks) e;
  inodes = ap (λ (q : World). q.inodes) e;
  files = ap (λ (q : World). q.files) e;
  homes = ap (λ (q : World). q.homes) e;
}

not-both : (a b : Bool) → not a ≡ not b → a ≡ b
not-both true true e = refl
not-both true false e = absurd (cc e)
not-both false true e = absurd (cc e)
not-both false false e = refl

module _ (found d : DiskState) (first : ℕ) (k : Books) (m : IsMount found d first k) where
  pub open-still : (p : Past) → has_fault k.history.entries ≡ false → IsOpen d k k.history.entries p
      ⊎ IsStopped d k k.history.entries p
      → IsOpen d k k.history.entries p
  open-still p ok (inl o) = o
  open-still p ok (inr s) = absurd
      (let going = still-going k.history.entries k.history.start d.moment false k.stopped m.forms ok in let stopped =
      s.stopped in cc (going, stopped))

  pub open-unwritten : (p : Past) → NoWriteFault k.history.entries
      → IsOpen d k k.history.entries p ⊎ IsStopped d k k.history.entries p → IsOpen d k k.history.entries p
  open-unwritten p none (inl o) = o
  open-unwritten p none (inr s) = absurd
      (let going = unwritten-going k.history.entries k.history.start d.moment false k.stopped m.forms none in
      let stopped = s.stopped in cc (going, stopped))

  -- so does a world in which all is known say what the disk says
  good : (p : Past) → IsOpen d k k.history.entries p
      → IsGood (record p.world { known_inodes = λ i. true; known_blocks = λ p. true }) (λ i. true)
      (λ i. not (is_special i || is_some (p.world.files i)))
      (λ p. true)
      (λ b. not (leb b (p.world.inodes / 4) || is_some (p.world.homes b))) d.now
  good p o = law-good (record p.world { known_inodes = λ i. true; known_blocks = λ p. true }) d.now (record {
    version = o.says.version ∙ sym (ap (λ (s : SuperBlock). s.version) o.at);
    blocks = o.says.blocks ∙ sym (ap (λ (s : SuperBlock). s.blocks) o.at);
    inodes = o.says.inodes ∙ sym (ap (λ (s : SuperBlock). s.inodes) o.at);
    mount = o.says.mount ∙ sym (ap (λ (s : SuperBlock). s.mount) o.at);
  }) (subst (λ (F : Files). FilesMatch F d.now) (sym o.files) o.stage.ready.files) o.homes

  pub shows-past : (q : IsSoundDisk found)
      → has_fault k.history.entries ≡ false → ShowsDisk (raised (super_at found.now)) (m.stands q).past.world d.now
  shows-past q ok =
      let s = m.stands q in
      let o = open-still s.past ok s.now in
      let g = good s.past o in
      let blocks : s.past.world.blocks ≡ (raised (super_at found.now)).blocks =
      o.says.blocks ∙ ap (λ (x : SuperBlock). x.blocks) s.raised in
      record {
        numbers = o.at ∙ s.raised;
        inodes = o.says.inodes ∙ ap (λ (x : SuperBlock). x.inodes) s.raised;
        blocks = blocks;
        used_inodes = λ i. not-both _ _ (g.inode_verdicts i refl);
        used_blocks = λ p low. not-both _ _ (g.block_verdicts p (subst (λ (n : ℕ). p < n) (sym blocks) low) refl);
      }

  shows-disk : IsSoundDisk found → has_fault k.history.entries ≡ false → (c : Contents found d first k.history)
      → ShowsDisk (raised (super_at found.now)) c.world d.now
  shows-disk q ok c =
      let s = m.stands q in
      let o = open-still s.past ok s.now in
      let past = shows-past q ok in
      let base : s.past.base ≡ c.base = s.base ∙ sym c.base_was in
      let begins : world_of s.past.base s.past.first ≡ world_of c.base first = λ j. world_of (base j) (s.serial j) in
      let same : SameState s.past.world c.world =
      law-one-run k.history.entries k.history.start k.history.start (world_of s.past.base s.past.first)
      (world_of c.base first) s.past.world c.world
      (same-world (world_of s.past.base s.past.first) (world_of c.base first) (sym begins)) o.run.run c.run in
      record {
        numbers = past.numbers;
        inodes = same.inodes ∙ past.inodes;
        blocks = same.blocks ∙ past.blocks;
        used_inodes = λ i. (λ j. is_special i || is_some (same.files j i)) ∙ past.used_inodes i;
        used_blocks = λ p low. (λ j. leb p (same.inodes j / 4) || is_some (same.homes j p)) ∙ past.used_blocks p low;
      }

  pub mount-finishes : Finished found d first k.history
  mount-finishes = record {
    ends = mount-ends found d first k m;
    shows = λ q ok. shows-disk q ok ((mount-ends found d first k m).contents q);
  }

world-going : (B : Image) (first : ℕ) → (world_of B first).stopped ≡ false
unfolding world_of
world-going B first = refl

-- the sweeps have seen all: each element was examined before the last flush
module _ (at : SuperBlock) (served H : List Entry1) (flush : Reply)
    (closes : AddsStep 0 (step.Flush 0 0) flush served H)
    (inodes_seen : Sweeps (λ place item. item ≡ place) Inode 0 at.inodes false [] (steps_by INODE_SWEEPER served))
    (blocks_seen : Sweeps (λ place item. item ≡ at.blocks - 1 - place) Block 0 at.blocks false []
    (steps_by BLOCK_SWEEPER served)) where
  pub whole-by : (start first : ℕ) (B : Image) (V : World) (X : Image) → Run start (world_of B first) H V
      → has_fault H ≡ false → ShowsDisk at V X
      → IsWholeScan V X
  whole-by start first B V X r ok shows =
      let g = run-goes H start (world_of B first) V r (world-going B first) ok in
      let inodes : (super_at X).inodes ≡ at.inodes = ap (λ (s : SuperBlock). s.inodes) shows.numbers in
      let blocks : (super_at X).blocks ≡ at.blocks = ap (λ (s : SuperBlock). s.blocks) shows.numbers in
      let same_inodes = g.inodes in
      let same_blocks = g.blocks in
      let at_inodes = shows.inodes in
      let at_blocks = shows.blocks in
      record {
        known_inodes = λ i low high. g.sees_inodes i
            (has-added 0 (step.Flush 0 0) (step.SeeInode i) flush served H closes
            (inodes-seen served at.inodes i inodes_seen low (omega (arith, high, inodes))))
            low (omega (arith, high, inodes, same_inodes, at_inodes));
        known_blocks = λ p low. g.sees_blocks p
            (has-added 0 (step.Flush 0 0) (step.SeeBlock p) flush served H closes
            (blocks-seen served at.blocks p blocks_seen (omega (arith, low, blocks))))
            (omega (arith, low, blocks, same_blocks, at_blocks));
        used_inodes = λ i low high. shows.used_inodes i;
        used_blocks = λ p low. shows.used_blocks p (omega (arith, low, blocks));
      }

pub whole-scan : (scripts : List (List Command)) (at : SuperBlock) (lines : List (List Line)) (H : List Entry1)
    (start first : ℕ) (B : Image) (V : World)
    (X : Image)
    → IsSessionRun scripts at.inodes at.blocks false lines H → Run start (world_of B first) H V
    → has_fault H ≡ false → ShowsDisk at V X → IsWholeScan V X
whole-scan scripts at lines H start first B V X run =
    whole-by at run.served H run.flush run.closes.adds run.team.inodes_seen run.team.blocks_seen start first B V X

-- the last flush was made where no entry has a fault, over any disk, and the device is settled then
pub flushed-end : (d : DiskState) (H : List Entry1) (from to : ℕ) (stopped : Bool) → Forms from false H to stopped
    → IsClosed d H → has_fault H ≡ false → IsFlushed d H
flushed-end d H from to stopped forms c ok =
    let made : c.flush ≡ reply.Flushed =
    last-flush c.served H from to stopped 0 c.flush forms c.closes c.made ok in
    let (x, whole, caller, asks, answer) = c.closes.adds.one c.made in
    record {
      served = c.served;
      last = x;
      ends = whole;
      caller = caller;
      asks = asks;
      answer = answer ∙ made;
      settled = c.settled made;
    }
