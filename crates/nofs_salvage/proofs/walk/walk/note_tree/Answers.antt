use Rattle.std.proofs.Common.{◌≡◌, ◌≤◌, ◌^◌, None, inl, map, refl, sym, ap, ◌∙◌, arith, rules}
use Rattle.nofs_salvage.specs.Report.Inodes.{inode_of}
use Rattle.nofs_salvage.proofs.OnWalk.Steps.{reads-none, reads-on, answered-both}
use Rattle.nofs_salvage.proofs.OnReport.Trees.{grown-none, grown-on, grown-end, none-left}
use Rattle.nofs_salvage.proofs.OnWalk.Refusals.{right-none, right-on}
use Rattle.nofs_salvage.proofs.OnReport.Inodes.{folders-root, folder-at, rooted-on, rooted-end}
use Rattle.nofs_salvage.proofs.OnWalk.Asks.{met-root, met-at}
use Rattle.nofs_salvage.proofs.walk.walk.note_tree.Goals as goal

pub loop-directory-init : goal.loop-directory-init
loop-directory-init g c = record {
  reads = reads-none _;
  goes = g.met.S.Steps.goes_none _;
  grown = λ W a. grown-none W (g.R.NameRule.picks c.args.filter.now.rule) c.args.findings.now
      (ap (map inode_of) c.requires.root);
  right = λ W roots a. right-none W.files _;
  folders = λ W roots a. folders-root W.files c.args.findings.now.tree roots c.requires.root;
  rooted = λ W a. inl (refl, c.requires.root);
  asks = λ first asks. asks;
  met = λ first asks. met-root first _ c.args.findings.now.tree asks c.requires.root;
}

pub returns-in_err-note_folder-clause-reads : goal.returns-in_err-note_folder-clause-reads
returns-in_err-note_folder-clause-reads g c = reads-on _ _ _ _ c.loop-directory.invariant.reads (search rules)

pub loop-directory-preserved : goal.loop-directory-preserved
loop-directory-preserved g c =
    let inv = c.loop-directory.invariant in record {
      reads = reads-on _ _ _ _ inv.reads c.in_ok-note_folder.ensures.reads;
      goes = g.met.S.Steps.goes_on _ _ _ inv.goes c.note_folder.ensures.goes;
      grown = λ W a.
          let both = answered-both W _ _ _ _ _ inv.reads c.in_ok-note_folder.ensures.reads a in
          grown-on W (g.R.NameRule.picks c.args.filter.now.rule) c.loop-directory.at c.in-Some.directory.inode
          c.args.findings.now.report
          c.loop-directory.findings c.note_folder.new.findings
          (inv.grown W both.0) (sym c.in-Some.ensures.is) (c.in_ok-note_folder.ensures.folder.noted W both.1);
      right = λ W roots a.
          let both = answered-both W _ _ _ _ _ inv.reads c.in_ok-note_folder.ensures.reads a in
          right-on W _ _ _ _ _ inv.reads c.in_ok-note_folder.ensures.reads a (λ b. inv.right W roots b)
          (λ b. c.in_ok-note_folder.ensures.right W b
          (folder-at W.files c.loop-directory.findings.tree c.loop-directory.at c.in-Some.directory
          (sym c.in-Some.ensures.handle) (inv.folders W roots both.0)));
      folders = λ W roots a.
          let both = answered-both W _ _ _ _ _ inv.reads c.in_ok-note_folder.ensures.reads a in
          c.in_ok-note_folder.ensures.folder.folders W both.1 (inv.folders W roots both.0);
      rooted = λ W a.
          let both = answered-both W _ _ _ _ _ inv.reads c.in_ok-note_folder.ensures.reads a in
          rooted-on W.files c.loop-directory.at c.loop-directory.findings.tree c.note_folder.new.findings.tree
          c.in-Some.directory
          (sym c.in-Some.ensures.handle) (c.in_ok-note_folder.ensures.folder.there W both.1) (inv.rooted W both.0);
      asks = λ first asks. c.in_ok-note_folder.ensures.asks first (inv.asks first asks)
          (met-at first _ c.loop-directory.findings.tree c.loop-directory.at c.in-Some.directory
          (sym c.in-Some.ensures.handle) (inv.met first asks));
      met = λ first asks. c.in_ok-note_folder.ensures.folder.met first (inv.asks first asks)
          (met-at first _ c.loop-directory.findings.tree c.loop-directory.at c.in-Some.directory
          (sym c.in-Some.ensures.handle) (inv.met first asks))
          (inv.met first asks);
    }

pub returns-clause-tree : goal.returns-clause-tree
returns-clause-tree g c =
    let low : c.loop-directory.at ≤ 2 ^ 64 = omega arith in
    let none : c.get.result ≡ None = c.in_default.is in
    let inv = c.loop-directory.invariant in record {
      noted = λ W a. grown-end W (g.R.NameRule.picks c.args.filter.now.rule) c.loop-directory.at
          c.args.findings.now.report c.loop-directory.findings low
          (inv.grown W a) (none-left c.get.result inode_of _ c.get.ensures.is none);
      there = λ W a. rooted-end W.files c.loop-directory.at c.loop-directory.findings.tree
          (sym c.get.ensures.handle ∙ none) (inv.rooted W a);
    }

pub returns-in_err-note_folder-clause-right : goal.returns-in_err-note_folder-clause-right
returns-in_err-note_folder-clause-right g c = λ W roots a.
    let inv = c.loop-directory.invariant in
    let both = answered-both W _ _ _ _ _ inv.reads c.note_folder.ensures.reads a in
    right-on W _ _ _ _ _ inv.reads c.note_folder.ensures.reads a (λ b. inv.right W roots b)
    (λ b. c.note_folder.ensures.right W b
    (folder-at W.files c.loop-directory.findings.tree c.loop-directory.at c.in-Some.directory
    (sym c.in-Some.ensures.handle) (inv.folders W roots both.0)))

pub returns-in_err-note_folder-clause-asks : goal.returns-in_err-note_folder-clause-asks
returns-in_err-note_folder-clause-asks g c = λ first asks.
    let inv = c.loop-directory.invariant in
    c.note_folder.ensures.asks first (inv.asks first asks)
    (met-at first _ c.loop-directory.findings.tree c.loop-directory.at c.in-Some.directory
    (sym c.in-Some.ensures.handle) (inv.met first asks))
