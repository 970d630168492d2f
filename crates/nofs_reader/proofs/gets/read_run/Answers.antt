use Rattle.std.proofs.Common.{◌+◌, ◌*◌, ◌||◌, not, length, refl, sym, ap, ◌∙◌}
use Rattle.std.specs.Prelude.{slice_range}
use Rattle.nofs_reader.specs.Gets.{is_bytes, value_as}
use Rattle.nofs_reader.proofs.OnGets.{rest-ends, run-begins, run-goes, wanted-or-bare}
use Rattle.nofs_reader.proofs.gets.read_run.Goals as goal

pub loop-slots-init : goal.loop-slots-init
loop-slots-init c =
    run-begins c.args.bytes.now c.args.it.now.inode c.args.from c.min-most.result (length c.args.into.now)
    c.in_ok-kind.kind c.read_slot.new.into c.args.into.now c.read_slot.new.last
    c.in_ok-kind.ensures.behind c.in_ok-kind.ensures.kept c.in_ok-kind.ensures.last
    c.in_ok-kind.ensures.len c.requires.room c.requires.from c.min-most.ensures
    (c.in_ok-kind.ensures.value refl)

pub loop-slots-preserved : goal.loop-slots-preserved
loop-slots-preserved c =
    run-goes c.args.bytes.now c.args.it.now.inode c.args.from c.min-most.result (length c.args.into.now)
    c.in_ok-kind.kind c.loop-slots.into c.read_slot-in-loop-slots.new.into c.args.into.now c.loop-slots.last
    c.read_slot-in-loop-slots.new.last
    c.loop-slots.slots c.loop-slots.invariant c.loop-slots-test.true c.in-Ok.ensures.behind
    (λ e. c.in-Ok.ensures.unwanted (c.has_bytes-wants.ensures ∙ e)) c.in-Ok.ensures.last
    c.in-Ok.ensures.len c.in-Ok.ensures.before
    (c.in-Ok.ensures.value
    (ap (λ b. b || not (is_bytes c.in-Ok.next)) c.has_bytes-wants.ensures
    ∙ wanted-or-bare c.in_ok-kind.kind c.in-Ok.next (sym (c.if-not-is_same.ensures.same refl)))
    ∙ ap (λ k. value_as k (slice_range c.read_slot-in-loop-slots.new.into (1024 * c.loop-slots.slots)
    (1024 * c.loop-slots.slots + 1024))) (c.if-not-is_same.ensures.same refl))

pub returns-clause-rest : goal.returns-clause-rest
returns-clause-rest c =
    rest-ends c.args.bytes.now c.args.it.now.inode c.args.from c.min-most.result (length c.args.into.now)
    c.in_ok-kind.kind c.loop-slots.into c.loop-slots.last c.loop-slots.slots c.args.into.now c.loop-slots.invariant
    c.loop-slots-test.false
