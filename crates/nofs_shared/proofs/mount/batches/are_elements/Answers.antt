use Rattle.std.proofs.Common.{subst}
use Rattle.std.specs.Prelude.{All}
use Rattle.std.proofs.lemmas.List.{take_all}
use Rattle.std.proofs.lemmas.List.Elements.{All-get_or, All-more}
use Rattle.nofs_scan.specs.Steps.Elements.{HasElement}
use Rattle.nofs_shared.proofs.mount.batches.are_elements.Goals as goal

pub loop-place-preserved : goal.loop-place-preserved
loop-place-preserved c = All-more (HasElement c.args.kind c.args.at.now) c.args.items.now c.loop-place.place 0
    c.loop-place-test.true c.loop-place.invariant
    (c.is_beyond.ensures.on c.if-is_beyond.false)

pub returns-clause-all : goal.returns-clause-all
returns-clause-all c = λ e. subst (All (HasElement c.args.kind c.args.at.now))
    (take_all c.loop-place.place c.args.items.now c.loop-place-test.false)
    c.loop-place.invariant

pub returns-then-is_beyond-clause-some : goal.returns-then-is_beyond-clause-some
returns-then-is_beyond-clause-some c = λ e all.
    c.is_beyond.ensures.off c.if-is_beyond.true (All-get_or (HasElement c.args.kind c.args.at.now)
    c.args.items.now c.loop-place.place 0 c.loop-place-test.true all)
