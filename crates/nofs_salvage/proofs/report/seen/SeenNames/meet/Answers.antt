use Rattle.std.proofs.Common.{ap, ◌∙◌, ◌||◌, not, bytes_eq}
use Rattle.std.specs.List.{list_any}
use Rattle.nofs_salvage.proofs.OnReport.Seen.{any-same, any-insert}
use Rattle.nofs_salvage.proofs.report.seen.SeenNames.meet.Goals as goal

pub returns-clause-fresh : goal.returns-clause-fresh
returns-clause-fresh c =
    c.in_ok-fresh.ensures.added ∙ ap not (any-same (λ k. k.items) c.in_ok-key.key.items c.args.self.now.names.keys)
    ∙ ap (λ n. not (list_any (λ k. bytes_eq n k.items) c.args.self.now.names.keys)) c.in_ok-key.ensures.items

pub returns-clause-met : goal.returns-clause-met
returns-clause-met c = λ other. ap (λ ks. list_any (λ k. bytes_eq other k.items) ks) c.in_ok-fresh.ensures.keys
    ∙ any-insert (λ k. k.items) c.args.self.now.names.keys c.in_ok-key.key other
    ∙ ap (λ n. bytes_eq other n || list_any (λ k. bytes_eq other k.items) c.args.self.now.names.keys)
    c.in_ok-key.ensures.items
