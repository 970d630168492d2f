use Rattle.std.proofs.Common.{arith, rules}
use Rattle.nofs_salvage.proofs.OnWalk.Steps.{reads-none, reads-on, answered-both}
use Rattle.nofs_salvage.proofs.OnWalk.Directories.{walked-none}
use Rattle.nofs_salvage.proofs.OnWalk.Refusals.{right-none, right-on}
use Rattle.nofs_salvage.proofs.OnWalk.Asks.{met-on}
use Rattle.nofs_salvage.proofs.walk.directories.note_folder.Goals as goal

pub loop-slot-init : goal.loop-slot-init
loop-slot-init g c = record {
  reads = reads-none _;
  goes = g.met.S.Steps.goes_none _;
  below = omega arith;
  walked = λ W a. walked-none W (g.R.NameRule.picks c.args.filter.now.rule) c.args.at.inode c.args.findings.now
      c.new-seen.result c.new-seen.ensures;
  there = λ W a low. absurd (omega arith);
  right = λ W a ask. right-none W.files _;
  folders = λ W a f. f;
  asks = λ first asks at. asks;
  met = λ first asks at met. met;
}

pub loop-slot-preserved : goal.loop-slot-preserved
loop-slot-preserved g c =
    let inv = c.loop-slot.invariant in record {
      reads = reads-on _ _ _ _ inv.reads c.in_ok-slot.ensures.reads;
      goes = g.met.S.Steps.goes_on _ _ _ inv.goes c.note_next.ensures.goes;
      below = c.in_ok-slot.ensures.slots.later.1;
      walked = λ W a.
          let both = answered-both W _ _ _ _ _ inv.reads c.in_ok-slot.ensures.reads a in
          c.in_ok-slot.ensures.slots.walked W c.args.findings.now (inv.walked W both.0) both.1;
      there = λ W a low.
          let both = answered-both W _ _ _ _ _ inv.reads c.in_ok-slot.ensures.reads a in
          c.in_ok-slot.ensures.slots.there W both.1;
      right = λ W a ask.
          let both = answered-both W _ _ _ _ _ inv.reads c.in_ok-slot.ensures.reads a in
          right-on W _ _ _ _ _ inv.reads c.in_ok-slot.ensures.reads a (λ b. inv.right W b ask)
          (λ b. c.in_ok-slot.ensures.right W c.args.findings.now (inv.walked W both.0) b ask);
      folders = λ W a f.
          let both = answered-both W _ _ _ _ _ inv.reads c.in_ok-slot.ensures.reads a in
          c.in_ok-slot.ensures.slots.folders W c.args.findings.now (inv.walked W both.0) both.1
          (inv.folders W both.0 f);
      asks = λ first asks at. c.in_ok-slot.ensures.asks first (inv.asks first asks at)
          (met-on first _ _ _ c.args.at inv.reads at);
      met = λ first asks at met. c.in_ok-slot.ensures.slots.met first (inv.asks first asks at)
          (met-on first _ _ _ c.args.at inv.reads at)
          (inv.met first asks at met);
    }

pub returns-in_err-slot-clause-reads : goal.returns-in_err-slot-clause-reads
returns-in_err-slot-clause-reads g c = reads-on _ _ _ _ c.loop-slot.invariant.reads (search rules)

pub returns-in_err-slot-clause-right : goal.returns-in_err-slot-clause-right
returns-in_err-slot-clause-right g c = λ W a ask.
    let inv = c.loop-slot.invariant in
    let both = answered-both W _ _ _ _ _ inv.reads c.note_next.ensures.reads a in
    right-on W _ _ _ _ _ inv.reads c.note_next.ensures.reads a (λ b. inv.right W b ask)
    (λ b. c.note_next.ensures.right W c.args.findings.now (inv.walked W both.0) b ask)

pub returns-in_err-slot-clause-asks : goal.returns-in_err-slot-clause-asks
returns-in_err-slot-clause-asks g c = λ first asks at.
    let inv = c.loop-slot.invariant in
    c.note_next.ensures.asks first (inv.asks first asks at) (met-on first _ _ _ c.args.at inv.reads at)
