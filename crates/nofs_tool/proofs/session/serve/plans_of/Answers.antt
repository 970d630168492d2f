use Rattle.std.proofs.Common.{rules, ◌≡◌, ◌∙◌, ◌++◌, eqb-true, true, length, map, vec_len, sym, ap, append-nil}
use Rattle.nofs_shared.proofs.OnPasses.Sessions.{nil-of}
use Rattle.nofs_tool.proofs.OnSession.Serve.{plans-formed}
use Rattle.nofs_tool.proofs.session.serve.plans_of.Goals as goal

pub returns-clause-formed : goal.returns-clause-formed
returns-clause-formed c =
    let empty : c.is_empty.result ≡ true = search rules in
    let none_left : vec_len c.loop-plans.scripts ≡ 0 =
    eqb-true (vec_len c.loop-plans.scripts) 0 (sym c.is_empty.ensures ∙ empty) in
    let long : vec_len c.loop-plans.scripts ≡ length c.loop-plans.scripts.items = search rules in
    let none = nil-of c.loop-plans.scripts.items (sym long ∙ none_left) in
    let made = map (λ p. p.commands) c.loop-plans.plans.items in
    let whole : made ≡ c.args.session = sym (append-nil made)
    ∙ (ap (λ l. made ++ l) (sym none) ∙ c.loop-plans.invariant) in
    plans-formed (λ p. p.commands) c.loop-plans.plans.items c.args.session c.requires whole
