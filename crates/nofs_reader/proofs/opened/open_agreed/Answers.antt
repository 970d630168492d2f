use Rattle.std.proofs.Common.{Option, refl, sym, ap, ◌∙◌, subst}
use Rattle.nofs_reader.specs.Answers.{IsRefused, kind_unread}
use Rattle.nofs_reader.specs.declared.opened.Unread.{Unread}
use Rattle.nofs_reader.proofs.OnReads.{unread-as}
use Rattle.nofs_reader.proofs.opened.open_agreed.Goals as goal

pub returns-in-Ok-clause-unread : goal.returns-in-Ok-clause-unread
returns-in-Ok-clause-unread c =
    unread-as c.args.bytes.now c.args.wanted c.args.inode c.args.at c.args.«record» c.requires.known c.requires.agreed
    ∙ c.in-Ok.ensures.unread c.args.bytes.now

pub returns-in-Ok-clause-opened : goal.returns-in-Ok-clause-opened
returns-in-Ok-clause-opened c = record {
  inode = refl;
  known = c.requires.known;
  agreed = c.requires.agreed;
  kind = c.in-Ok.ensures.kind;
  wanted = sym (ap (kind_unread c.args.wanted) c.in-Ok.ensures.kind) ∙ c.in-Ok.ensures.unread c.args.bytes.now;
}

pub returns-in-Err-clause-unread : goal.returns-in-Err-clause-unread
returns-in-Err-clause-unread c =
    subst (λ (w : Option Unread). IsRefused c.args.bytes.now w c.in-Err.why)
    (sym (unread-as c.args.bytes.now c.args.wanted c.args.inode c.args.at c.args.«record» c.requires.known
    c.requires.agreed)) (c.in-Err.ensures.unread c.args.bytes.now)
