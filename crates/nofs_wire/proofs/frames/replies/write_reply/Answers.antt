use Rattle.std.proofs.Common.{◌≡◌, ◌-◌, ◌∙◌, length, arith}
use Rattle.std.proofs.lemmas.Grind.{common_steps}
use Rattle.nofs_wire.specs.Frames.Replies.{body_bytes, reply_bytes}
use Rattle.nofs_wire.proofs.OnFrames.Lengths.{length_behind, framed}
use Rattle.nofs_wire.proofs.frames.replies.write_reply.Goals as goal

pub overflow_sub-size : goal.overflow_sub-size
overflow_sub-size c =
    let long = length_behind 0 c.write_parts.new.out.items (body_bytes c.args.reply.now) c.in_ok-write_parts.ensures in
    grind (arith, common_steps, long)

pub overflow_cast-size : goal.overflow_cast-size
overflow_cast-size c =
    let long = length_behind 0 c.write_parts.new.out.items (body_bytes c.args.reply.now) c.in_ok-write_parts.ensures in
    grind (arith, common_steps, long, c.requires.short)

pub close-requires : goal.close-requires
close-requires c =
    let long = length_behind 0 c.write_parts.new.out.items (body_bytes c.args.reply.now) c.in_ok-write_parts.ensures in
    grind (arith, common_steps, long)

pub returns : goal.returns
unfolding reply_bytes
returns c =
    let items = c.write_parts.new.out.items in
    let long = length_behind 0 items (body_bytes c.args.reply.now) c.in_ok-write_parts.ensures in
    let size : c.len-size.result - 4 ≡ length (body_bytes c.args.reply.now) = grind (arith, common_steps, long) in
    c.close.ensures ∙ framed 0 (c.len-size.result - 4) items
    (body_bytes c.args.reply.now) c.in_ok-write_parts.ensures size
