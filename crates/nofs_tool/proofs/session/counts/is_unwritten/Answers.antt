use Rattle.std.proofs.Common.{◌∙◌, ◌||◌, Bool, ◌+◌, sym, ap, drop}
use Rattle.nofs_tool.specs.Session.Counts.{has_write_fault}
use Rattle.nofs_tool.proofs.OnSession.Counts.{is-there, write-fault-at}
use Rattle.nofs_tool.proofs.session.counts.is_unwritten.Goals as goal

pub returns-in-None : goal.returns-in-None
returns-in-None c = absurd (is-there c.args.history.now.entries c.args.at c.requires (sym c.in-None.ensures))

pub returns-in-Some : goal.returns-in-Some
returns-in-Some c =
    let rest = has_write_fault (drop (c.args.at + 1) c.args.history.now.entries) in
    write-fault-at c.args.history.now.entries c.args.at c.in-Some.entry.now (sym c.in-Some.ensures)
    ∙ ap (λ (b : Bool). b || rest) (sym c.is_write_fault.ensures)
