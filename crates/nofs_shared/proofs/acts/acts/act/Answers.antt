use Rattle.std.proofs.Common.{◌≡◌, true, sym, subst₂}
use Rattle.nofs_disk.specs.Disk.{IsSettled}
use Rattle.nofs_history.specs.declared.machine.steps.Step.{Step}
use Rattle.nofs_shared.specs.Mount.Flushes.{Settles, is_whole_answer, names_whole}
use Rattle.nofs_state.specs.Cores.FirstRows.{RefusesEarly}
use Rattle.nofs_shared.specs.declared.acts.acted.Acted.{Acted}
use Rattle.nofs_shared.proofs.OnActs.Contents.{flush-answers, flush-settles}
use Rattle.nofs_shared.proofs.OnMount.Given.{early-block, early-inode}
use Rattle.nofs_shared.proofs.acts.acts.act.Goals as goal

pub returns-in-Flush-clause-settled : goal.returns-in-Flush-clause-settled
returns-in-Flush-clause-settled g c = subst₂ (λ (s : Step) (a : Acted). Settles s a.reply
    (g.D.Disk.state c.flush.new.core.disk))
    (sym c.in-Flush.is) (sym c.flushed.ensures.is)
    (flush-settles (IsSettled (g.D.Disk.state c.flush.new.core.disk)) c.flush.result c.flush.ensures.settled)

pub returns-in-Flush-clause-whole : goal.returns-in-Flush-clause-whole
returns-in-Flush-clause-whole g c = subst₂ (λ (s : Step) (a : Acted).
    names_whole s ≡ true → is_whole_answer a.reply ≡ true)
    (sym c.in-Flush.is) (sym c.flushed.ensures.is)
    (λ whole. flush-answers c.flush.result (c.flush.ensures.whole whole))

pub returns-in-SeeInode-clause-early : goal.returns-in-SeeInode-clause-early
returns-in-SeeInode-clause-early g c = subst₂ (λ (s : Step) (a : Acted). RefusesEarly c.args.core.now.books s a.reply)
    (sym c.in-SeeInode.is) (sym c.seen.ensures.is)
    (early-inode c.args.core.now.books c.in-SeeInode.inode c.see_inode.result c.see_inode.ensures.range)

pub returns-in-SeeBlock-clause-early : goal.returns-in-SeeBlock-clause-early
returns-in-SeeBlock-clause-early g c = subst₂ (λ (s : Step) (a : Acted). RefusesEarly c.args.core.now.books s a.reply)
    (sym c.in-SeeBlock.is) (sym c.seen-in-SeeBlock.ensures.is)
    (early-block c.args.core.now.books c.in-SeeBlock.block c.see_block.result c.see_block.ensures.range)
