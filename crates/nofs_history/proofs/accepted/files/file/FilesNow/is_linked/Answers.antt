use Rattle.std.proofs.Common.{◌≡◌, Bool, IfOk, sym, subst}
use Rattle.nofs_model.specs.Files as files
use Rattle.nofs_history.specs.Accepted.Files.{kept_files_of}
use Rattle.nofs_history.proofs.Links.{any_same}
use Rattle.nofs_history.proofs.accepted.files.file.FilesNow.is_linked.Goals as goal

pub returns : goal.returns
returns c = subst (λ (b : Bool). IfOk c.has_pair.result (λ is. is ≡ b))
    (sym (any_same (λ l. files.is_pair (kept_files_of c.args.self.now) c.args.inode l) c.args.link.now
    (files.links_of (kept_files_of c.args.self.now) c.args.inode)))
    c.has_pair.ensures
