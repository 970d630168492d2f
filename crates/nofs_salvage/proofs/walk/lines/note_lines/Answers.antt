use Rattle.std.proofs.Common.{◌≡◌, ◌+◌, ◌++◌, take, rules}
use Rattle.nofs_salvage.proofs.OnWalk.Steps.{reads-none, reads-on, answered-both}
use Rattle.nofs_salvage.proofs.OnReport.Findings.{is-at, lines-none, lines-on, seen-none, seen-on}
use Rattle.nofs_salvage.proofs.OnWalk.Refusals.{right-none, right-on}
use Rattle.nofs_salvage.proofs.OnWalk.Lines.{told-at}
use Rattle.nofs_salvage.proofs.OnWalk.Asks.{given-at}
use Rattle.nofs_salvage.proofs.walk.lines.note_lines.Goals as goal

pub loop-line-init : goal.loop-line-init
loop-line-init g c = record {
  reads = reads-none _;
  goes = g.met.S.Steps.goes_none _;
  names = λ earlier h. seen-none c.args.seen.now earlier h;
  noted = λ W earlier h a. lines-none W
      (g.R.NameRule.picks c.args.filter.now.rule) c.args.at.inode earlier c.args.findings.now;
  right = λ W earlier h a ask told. right-none W.files _;
  folders = λ W earlier h a told f. f;
  asks = λ first asks given. asks;
  met = λ first asks given met. met;
}

pub returns-in_err-note_line-clause-reads : goal.returns-in_err-note_line-clause-reads
returns-in_err-note_line-clause-reads g c = reads-on _ _ _ _ c.loop-line.invariant.reads (search rules)

pub loop-line-preserved : goal.loop-line-preserved
loop-line-preserved g c =
    let lines = c.args.lines.now in
    let i = c.loop-line.line-index in
    let item = c.line-item.result in
    let inv = c.loop-line.invariant in
    let here = is-at lines i item (rw c.as_slice-line-items.ensures at c.loop-line-test.true)
    (rw c.as_slice-line-items.ensures at c.line-item.is) in record {
      reads = reads-on _ _ _ _ inv.reads c.in_ok-note_line.ensures.reads;
      goes = g.met.S.Steps.goes_on _ _ _ inv.goes c.note_line.ensures.goes;
      names = λ earlier h. seen-on c.note_line.new.seen earlier (take i lines) (take (i + 1) lines) item here.front
          (c.in_ok-note_line.ensures.names (earlier ++ take i lines) (inv.names earlier h));
      noted = λ W earlier h a.
          let both = answered-both W _ _ _ _ _ inv.reads c.in_ok-note_line.ensures.reads a in
          let picks = g.R.NameRule.picks c.args.filter.now.rule in
          let wanted : c.picks-wanted.result ≡ picks item.name = rw c.as_slice.ensures at c.picks-wanted.ensures in
          lines-on W picks c.args.at.inode earlier (take i lines) (take (i + 1) lines) item _ _ _ here.front
          (inv.noted W earlier h both.0)
          (c.in_ok-note_line.ensures.noted W picks (earlier ++ take i lines) wanted (inv.names earlier h) both.1);
      right = λ W earlier h a ask told. right-on W _ _ _ _ _ inv.reads c.in_ok-note_line.ensures.reads a
          (λ b. inv.right W earlier h b ask told)
          (λ b. c.in_ok-note_line.ensures.right W (earlier ++ take i lines) (inv.names earlier h) b ask
          (told-at W.files c.args.at.inode i earlier lines item here.front told));
      folders = λ W earlier h a told f.
          let both = answered-both W _ _ _ _ _ inv.reads c.in_ok-note_line.ensures.reads a in
          c.in_ok-note_line.ensures.folders W (earlier ++ take i lines) (inv.names earlier h) both.1
          (told-at W.files c.args.at.inode i earlier lines item here.front told)
          (inv.folders W earlier h both.0 told f);
      asks = λ first asks given. c.in_ok-note_line.ensures.asks first (inv.asks first asks given)
          (given-at first _ _ _ c.args.at lines i item here.below here.is inv.reads given);
      met = λ first asks given met. c.in_ok-note_line.ensures.met first (inv.asks first asks given)
          (inv.met first asks given met);
    }

pub returns-in_err-note_line-clause-right : goal.returns-in_err-note_line-clause-right
returns-in_err-note_line-clause-right g c = λ W earlier h a ask told.
    let lines = c.args.lines.now in
    let i = c.loop-line.line-index in
    let inv = c.loop-line.invariant in
    let here = is-at lines i c.line-item.result (rw c.as_slice-line-items.ensures at c.loop-line-test.true)
    (rw c.as_slice-line-items.ensures at c.line-item.is) in
    right-on W _ _ _ _ _ inv.reads c.note_line.ensures.reads a (λ b. inv.right W earlier h b ask told)
    (λ b. c.note_line.ensures.right W (earlier ++ take i lines) (inv.names earlier h) b ask
    (told-at W.files c.args.at.inode i earlier lines c.line-item.result here.front told))

pub returns-in_err-note_line-clause-asks : goal.returns-in_err-note_line-clause-asks
returns-in_err-note_line-clause-asks g c = λ first asks given.
    let inv = c.loop-line.invariant in
    c.note_line.ensures.asks first (inv.asks first asks given)
    (given-at first _ _ _ c.args.at c.args.lines.now c.loop-line.line-index c.line-item.result
    (rw c.as_slice-line-items.ensures at c.loop-line-test.true)
    (rw c.as_slice-line-items.ensures at c.line-item.is) inv.reads given)
