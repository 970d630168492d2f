use Rattle.std.proofs.Common.{◌≡◌, ◌||◌, not, map, sym, ap, ◌∙◌, subst}
use Rattle.nofs_tool.specs.Session.Serve.{IsSessionRun}
use Rattle.nofs_tool.proofs.OnSession.Serve.{run-closed}
use Rattle.nofs_tool.proofs.session.serve.serve_and_close.Goals as goal
use Rattle.nofs_tool.proofs.session.serve.serve_and_close.Goals.{then-out_of_memory, else-out_of_memory}

pub returns-clause-ran : goal.returns-clause-ran
returns-clause-ran g c =
    let scripts = map (λ p. p.commands) c.args.plans.items in
    let at = c.args.mount.core.books.at in
    let lines = c.serve_users-mount.result.lines.items in
    let before = c.args.mount.core.books.history.entries in
    let served = c.serve_users-mount.result.mount.core.books.history.entries in
    let all = c.close-closed.new.mount.core.books.history.entries in
    let out = c.serve_users-mount.result.out_of_memory in
    let closed = c.close-closed.result in
    let adds = c.close-closed.ensures.adds in
    let short : (out || not closed) ≡ c.if-out_of_memory.result = elim c.if-out_of_memory.branch [
      | then-out_of_memory w ↦ ap (λ b. b || not closed) w.if-out_of_memory.true
          ∙ (sym w.if-out_of_memory.true ∙ sym w.result-is)
      | else-out_of_memory w ↦ ap (λ b. b || not closed) w.if-out_of_memory.false ∙ sym w.result-is
    ] in
    subst (λ b. IsSessionRun scripts at.inodes at.blocks b lines all) short
    (run-closed scripts at.inodes at.blocks out closed lines before served all adds.0 c.requires.new
    c.serve_users-mount.ensures.served (c.serve_users-mount.ensures.swept c.requires.new) adds.1 adds.2)
