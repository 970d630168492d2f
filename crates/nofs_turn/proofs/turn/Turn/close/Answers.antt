use Rattle.std.proofs.Common.{rules, ◌≡◌, ◌∙◌, sym, subst, Option, Some, None, arith}
use Rattle.std.specs.Slots.{slots_items}
use mathlib.Core.Option.{some-injective}
use Rattle.nofs_turn.specs.Passes.{Closes}
use Rattle.nofs_turn.specs.Turn.{view_of}
use Rattle.nofs_turn.proofs.OnRule.Seats.{Found, ends}
use Rattle.nofs_turn.proofs.turn.Turn.close.Goals as goal

pub unreachable-requires : goal.unreachable-requires
unreachable-requires g c =
    let v = view_of c.args.pass in
    let z : Found g.V.Kept.entries g.V.Kept.fixed v (slots_items c.close_with-closed.result.slots) =
    ends _ _ _ _ _ c.args.pass.seat.id v _ _ (search rules) (omega (arith, c.requires.of.1))
    (search rules) c.close_with-closed.ensures.values.2 in
    let e : ◌≡◌ {A = Option g.row.V.Denot} (Some z.0) None = some-injective _ _ (sym z.1 ∙ c.take.ensures.value)
    ∙ c.in_default.is in
    cc

pub returns-clause-closed : goal.returns-clause-closed
returns-clause-closed g c =
    let v = view_of c.args.pass in
    let all : v.stands ≡ v.seats = omega (arith, c.requires.of.1) in
    let z : Found g.V.Kept.entries g.V.Kept.fixed v (slots_items c.close_with-closed.result.slots) =
    ends _ _ _ _ _ c.args.pass.seat.id v _ _ (search rules) all (search rules) c.close_with-closed.ensures.values.2 in
    let e : ◌≡◌ {A = Option g.row.V.Denot} (Some z.0) (Some c.in-Some.value) =
    some-injective _ _ (sym z.1 ∙ c.take.ensures.value) ∙ c.in-Some.is in
    let same : z.0 ≡ c.in-Some.value = cc in
    (subst (λ x. Closes g.V.Kept.entries g.V.Kept.fixed v x) same z.2, all)
