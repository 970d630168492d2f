use Rattle.std.proofs.Common.{Option, sym, subst}
use Rattle.nofs_inode.specs.declared.inode.FileKind.{FileKind}
use Rattle.nofs_reader.specs.Answers.{IsAnswered, kind_unread}
use Rattle.nofs_reader.proofs.opened.wanted_kind.Goals as goal

pub returns-in-Some-clause-unread : goal.returns-in-Some-clause-unread
returns-in-Some-clause-unread c = λ bytes.
    subst (λ (k : Option FileKind). IsAnswered bytes (kind_unread c.args.wanted k) c.wanted_live.result)
    (sym c.in-Some.is) (c.wanted_live.ensures.unread bytes)
