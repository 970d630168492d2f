use Rattle.std.proofs.Common.{refl, sym, ◌∙◌}
use Rattle.nofs_disk.specs.Chains.{StaysButFaults-refl}
use Rattle.nofs_state.specs.Books.Verdicts.{Stood}
use Rattle.nofs_state.proofs.cores.mounted_disk.Core.verify_inode.Goals as goal

pub returns-in-Some : goal.returns-in-Some
returns-in-Some g c = Stood c.in-Some.used (sym c.verdict_of_inode.ensures ∙ c.in-Some.is)
    (StaysButFaults-refl (g.D.Disk.state c.args.self.now.disk)) refl refl refl
