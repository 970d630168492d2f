use Rattle.std.proofs.Common.{refl, true, false}
use Rattle.nofs_salvage.proofs.OnWalk.Steps.{reads-on, answered-both}
use Rattle.nofs_salvage.proofs.OnWalk.Slots.{on-ok}
use Rattle.nofs_salvage.proofs.OnReport.Findings.{found-losses, pair-file}
use Rattle.nofs_salvage.proofs.OnWalk.Refusals.{right-none, right-on, ask-found}
use Rattle.nofs_salvage.proofs.OnReport.Inodes.{folders-on}
use Rattle.nofs_salvage.proofs.OnWalk.Asks.{all-met-on, met-with}
use Rattle.nofs_salvage.proofs.walk.lines.note_pair.Goals as goal

pub returns-else-wanted-clause-right : goal.returns-else-wanted-clause-right
returns-else-wanted-clause-right g c = λ W a ask leads. right-none W.files _

pub returns-in_ok-add-in-Directory-clause-folders : goal.returns-in_ok-add-in-Directory-clause-folders
returns-in_ok-add-in-Directory-clause-folders g c = λ W a leads h.
    let there = c.in_ok-directory-in-Directory.ensures in
    folders-on W.files c.in_ok-directory-in-Directory.directory c.args.findings.now.tree c.add.new.self
    c.in_ok-add-in-Directory.ensures.handles
    (ask-found W.files c.args.at.inode c.args.line.now.name c.args.line.now.name true
    c.in_ok-directory-in-Directory.directory refl
    (rw c.in-Directory.is at leads) (there.found W a) (there.there W a)) h

pub returns-in_ok-add-in-Directory-clause-met : goal.returns-in_ok-add-in-Directory-clause-met
returns-in_ok-add-in-Directory-clause-met g c = λ first asks met.
    let there = c.in_ok-directory-in-Directory.ensures in
    met-with first _ c.in_ok-directory-in-Directory.directory c.args.findings.now.tree c.add.new.self
    c.in_ok-add-in-Directory.ensures.handles
    (there.met first asks) (all-met-on first _ _ _ c.args.findings.now.tree there.reads met)

pub returns-in_ok-file-in-File-clause-reads : goal.returns-in_ok-file-in-File-clause-reads
returns-in_ok-file-in-File-clause-reads g c =
    reads-on _ _ _ _ c.in_ok-file-in-File.ensures.reads c.note_file.ensures.reads

pub returns-in_ok-file-in-File-clause-noted : goal.returns-in_ok-file-in-File-clause-noted
returns-in_ok-file-in-File-clause-noted g c = on-ok c.note_file.result (λ h W a.
    let both = answered-both W _ _ _ _ _ c.in_ok-file-in-File.ensures.reads c.note_file.ensures.reads a in
    pair-file W c.args.wanted c.args.at.inode c.args.line.now c.args.findings.now _ c.in-File.is
    c.if-wanted.true (record {
      report = found-losses W c.args.at.inode c.in_ok-file-in-File.file.inode c.args.line.now.name _ _
          (c.in_ok-file-in-File.ensures.found W both.0)
          (h W both.1);
      tree = refl;
    })) c.note_file.ensures.noted

pub returns-in_ok-file-in-File-clause-right : goal.returns-in_ok-file-in-File-clause-right
returns-in_ok-file-in-File-clause-right g c = λ W a ask leads.
    let there = c.in_ok-file-in-File.ensures in
    let name = c.args.line.now.name in
    let both = answered-both W _ _ _ _ _ there.reads c.note_file.ensures.reads a in
    right-on W _ _ _ _ _ there.reads c.note_file.ensures.reads a
    (λ b. there.right W false b ask (rw c.in-File.is at leads))
    (λ b. c.note_file.ensures.right W b
    (ask-found W.files c.args.at.inode name name false c.in_ok-file-in-File.file refl (rw c.in-File.is at leads)
    (there.found W both.0) (there.there W both.0)))

pub returns-in_ok-file-in-File-clause-met : goal.returns-in_ok-file-in-File-clause-met
returns-in_ok-file-in-File-clause-met g c = on-ok c.note_file.result (λ h first asks met.
    all-met-on first _ _ _ c.args.findings.now.tree
    (reads-on _ _ _ _ c.in_ok-file-in-File.ensures.reads c.note_file.ensures.reads) met)
    c.note_file.ensures.noted
