use Rattle.std.proofs.Common.{◌≤◌, refl, arith, rules}
use Rattle.nofs_salvage.specs.Walk.Steps.{MakesReads, refusal_by}
use Rattle.nofs_salvage.proofs.OnWalk.Steps.{reads-on, answered-both}
use Rattle.nofs_salvage.proofs.OnWalk.Directories.{walked-names, walked-lost, walked-end}
use Rattle.nofs_salvage.specs.Report.Losses.{lines_below}
use Rattle.nofs_salvage.proofs.OnWalk.Lines.{names-told, names-right}
use Rattle.nofs_salvage.proofs.OnWalk.Asks.{all-met-on}
use Rattle.nofs_salvage.proofs.walk.directories.note_next.Goals as goal

pub returns-in_err-note_lines-in-Names-clause-reads : goal.returns-in_err-note_lines-in-Names-clause-reads
returns-in_err-note_lines-in-Names-clause-reads g c =
    let last : MakesReads (g.S.Steps.made c.list.new.steps) (g.S.Steps.made c.note_lines.new.steps)
    (refusal_by c.from_residual-in_err-note_lines-in-Names.result) = search rules in
    reads-on _ _ _ _ c.in_ok-listed.ensures.reads last

pub returns-in_ok-note_lines-in-Names-clause-reads : goal.returns-in_ok-note_lines-in-Names-clause-reads
returns-in_ok-note_lines-in-Names-clause-reads g c =
    reads-on _ _ _ _ c.in_ok-listed.ensures.reads c.in_ok-note_lines-in-Names.ensures.reads

pub returns-in_ok-note_lines-in-Names-clause-slots : goal.returns-in_ok-note_lines-in-Names-clause-slots
returns-in_ok-note_lines-in-Names-clause-slots g c =
    let picks = g.R.NameRule.picks c.args.filter.now.rule in
    let held = c.in-Names.held in
    let listed = c.in_ok-listed.ensures in
    let lines = c.in_ok-note_lines-in-Names.ensures in record {
      later = c.slot_behind.ensures.later;
      walked = λ W start w a.
          let both = answered-both W _ _ _ _ _ listed.reads lines.reads a in
          walked-names W picks c.args.at.inode start c.args.slot held c.slot_behind.result c.in-Names.lines
          c.args.findings.now c.note_lines.new.findings
          c.args.seen.now c.note_lines.new.seen c.slot_behind.ensures.is
          (rw c.in-Names.is at (listed.listed W both.0)) w
          (λ earlier s. lines.lines.noted W earlier s both.1) lines.lines.names;
      there = λ W a. listed.there W (answered-both W _ _ _ _ _ listed.reads lines.reads a).0;
      folders = λ W start w a f.
          let both = answered-both W _ _ _ _ _ listed.reads lines.reads a in
          let told = names-told W picks c.args.at.inode start c.args.slot held c.in-Names.lines c.args.findings.now
          c.args.seen.now _ c.in-Names.is
          listed.part w (listed.listed W both.0) in
          lines.lines.folders W (lines_below W.files c.args.at.inode held) told.0 both.1 told.1 f;
      met = λ first asks at met. lines.lines.met first (listed.asks first asks at)
          (rw c.in-Names.is at (listed.gives first asks))
          (all-met-on first _ _ _ c.args.findings.now.tree listed.reads met);
    }

pub returns-in_ok-push-in-LostNames-clause-slots : goal.returns-in_ok-push-in-LostNames-clause-slots
returns-in_ok-push-in-LostNames-clause-slots g c =
    let listed = c.in_ok-listed.ensures in record {
      later = c.slot_behind-in-LostNames.ensures.later;
      walked = λ W start w a. walked-lost W
          (g.R.NameRule.picks c.args.filter.now.rule) c.args.at.inode start c.args.slot c.in-LostNames.held
          c.slot_behind-in-LostNames.result c.args.findings.now
          (record { report = c.push.new.self; tree = c.args.findings.now.tree }) c.args.seen.now
          c.slot_behind-in-LostNames.ensures.is
          (rw c.in-LostNames.is at (listed.listed W a)) w c.in_ok-push-in-LostNames.ensures.appended refl;
      there = λ W a. listed.there W a;
      folders = λ W start w a f. f;
      met = λ first asks at met. all-met-on first _ _ _ c.args.findings.now.tree listed.reads met;
    }

pub returns-in-NoMore-clause-slots : goal.returns-in-NoMore-clause-slots
returns-in-NoMore-clause-slots g c =
    let low : c.args.slot ≤ 72 = omega (arith, c.requires.slot) in
    let listed = c.in_ok-listed.ensures in record {
      later = (c.requires.slot, omega arith);
      walked = λ W start w a. walked-end W (g.R.NameRule.picks c.args.filter.now.rule) c.args.at.inode start c.args.slot
          c.args.findings.now c.args.seen.now
          low (rw c.in-NoMore.is at (listed.listed W a)) w;
      there = λ W a. listed.there W a;
      folders = λ W start w a f. f;
      met = λ first asks at met. all-met-on first _ _ _ c.args.findings.now.tree listed.reads met;
    }

pub returns-in_err-note_lines-in-Names-clause-right : goal.returns-in_err-note_lines-in-Names-clause-right
returns-in_err-note_lines-in-Names-clause-right g c = λ W start w a ask.
    names-right W _ _ _ _ _ _ _ _ _ c.in-Names.is c.in_ok-listed.ensures.part w _ _ _ _ _ c.in_ok-listed.ensures.reads
    c.note_lines.ensures.reads a (λ b. c.in_ok-listed.ensures.listed W b) (λ b. c.in_ok-listed.ensures.right W b ask)
    (λ s t b. c.note_lines.ensures.right W (lines_below W.files c.args.at.inode c.in-Names.held) s b ask t)

pub returns-in_ok-note_lines-in-Names-clause-right : goal.returns-in_ok-note_lines-in-Names-clause-right
returns-in_ok-note_lines-in-Names-clause-right g c = λ W start w a ask.
    names-right W _ _ _ _ _ _ _ _ _ c.in-Names.is c.in_ok-listed.ensures.part w _ _ _ _ _ c.in_ok-listed.ensures.reads
    c.note_lines.ensures.reads a (λ b. c.in_ok-listed.ensures.listed W b) (λ b. c.in_ok-listed.ensures.right W b ask)
    (λ s t b. c.note_lines.ensures.right W (lines_below W.files c.args.at.inode c.in-Names.held) s b ask t)

pub returns-in_err-note_lines-in-Names-clause-asks : goal.returns-in_err-note_lines-in-Names-clause-asks
returns-in_err-note_lines-in-Names-clause-asks g c =
    λ first asks met. c.note_lines.ensures.asks first (c.in_ok-listed.ensures.asks first asks met)
    (rw c.in-Names.is at (c.in_ok-listed.ensures.gives first asks))

pub returns-in_ok-note_lines-in-Names-clause-asks : goal.returns-in_ok-note_lines-in-Names-clause-asks
returns-in_ok-note_lines-in-Names-clause-asks g c =
    λ first asks met. c.note_lines.ensures.asks first (c.in_ok-listed.ensures.asks first asks met)
    (rw c.in-Names.is at (c.in_ok-listed.ensures.gives first asks))
