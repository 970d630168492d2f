use Rattle.std.proofs.Common.{◌≡◌, ap, sym, ◌∙◌, None, Some}
use Rattle.nofs_inode.specs.declared.inode.Record.{Record}
use Rattle.nofs_model.specs.Geometry.{inode}
use Rattle.nofs_history.specs.Accepted.Files.{kept_file}
use Rattle.nofs_history.proofs.OnAccepted.BaseFiles.{agreed-file, free-inode, not-agreed}
use Rattle.nofs_history.proofs.accepted.base.read_file.Goals as goal

pub returns-then-not-agreed : goal.returns-then-not-agreed
returns-then-not-agreed c =
    ap kept_file (sym (not-agreed c.args.base.now c.args.inode (sym c.agreed.ensures ∙ c.if-not-agreed.true)))

pub returns-in-None : goal.returns-in-None
returns-in-None c =
    let kind : (inode c.args.base.now c.args.inode).kind ≡ None =
    ap (λ (r : Record). r.kind) (sym c.read_inode-it.ensures) ∙ c.in-None.is in
    ap kept_file (sym (free-inode c.args.base.now c.args.inode kind))

pub returns-in_ok-live_file-in-Some : goal.returns-in_ok-live_file-in-Some
returns-in_ok-live_file-in-Some c =
    let kind : (inode c.args.base.now c.args.inode).kind ≡ Some c.in-Some.kind =
    ap (λ (r : Record). r.kind) (sym c.read_inode-it.ensures) ∙ c.in-Some.is in
    c.in_ok-live_file-in-Some.ensures
    ∙ ap kept_file
    (sym (agreed-file c.args.base.now c.args.inode c.in-Some.kind (sym c.agreed.ensures ∙ c.if-not-agreed.false) kind))
