use Rattle.std.proofs.Common.{rules, ◌≡◌, min}
use Rattle.nofs_history.specs.Machine.{slots_in}
use Rattle.nofs_gen.specs.Replay.{replayed_file}
use Rattle.nofs_gen.proofs.OnFile.{resized-is}
use Rattle.nofs_gen.proofs.file.Replayed.resized.Goals as goal

pub returns : goal.returns
returns c =
    let slots : c.min-slots.result ≡ min (slots_in c.args.self.size) (slots_in c.args.size) = search rules in
    resized-is (replayed_file c.args.self) c.args.size c.min-slots.result c.trim_end.new.self.values.items
    c.truncate.new.self.items c.pad.new.values.items
    c.in_ok-trim_end.ensures.values c.truncate.ensures.items slots c.in_ok-pad.ensures
