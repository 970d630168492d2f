use Rattle.std.proofs.Common.{sym}
use Rattle.nofs_gen.specs.Replay.{replayed_file}
use Rattle.nofs_gen.proofs.OnReplays.{is-there, pass-entry}
use Rattle.nofs_gen.proofs.replays.after_place.Goals as goal

pub returns-in-None : goal.returns-in-None
returns-in-None c = absurd (is-there c.args.history.now.entries c.args.at c.requires (sym c.in-None.ensures))

pub returns-in-Some : goal.returns-in-Some
returns-in-Some c =
    pass-entry c.args.wanted.now.inode c.args.wanted.now.generation (replayed_file c.args.file) c.take.result
    c.args.history.now.entries c.args.at c.in-Some.entry.now (sym c.in-Some.ensures) c.take.ensures
