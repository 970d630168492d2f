use Rattle.std.proofs.Common.{ℕ, subst}
use Rattle.nofs_history.specs.Accepted.BaseFiles.{AreFiles}
use Rattle.nofs_history.proofs.OnAccepted.BaseFiles.{files-whole}
use Rattle.nofs_history.proofs.accepted.base.files_at.Goals as goal

pub returns : goal.returns
returns c =
    let files = c.in_ok-files.files in
    files-whole c.args.base.now (record { files = files })
    (subst (λ (n : ℕ). AreFiles c.args.base.now n files.items) c.inodes_of.ensures c.in_ok-files.ensures)
