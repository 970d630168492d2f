use Rattle.std.proofs.lemmas.Bool.Decides.{Decides-at}
use Rattle.nofs_dirent.specs.Names.{is_name}
use Rattle.nofs_dirent.specs.NameLaws.{is_name-Decides}
use Rattle.nofs_dirent.proofs.name.name_ok.Goals as goal

pub returns-clause-fact : goal.returns-clause-fact
returns-clause-fact c =
    Decides-at c.is_name.result (is_name c.args.name.now) c.is_name.ensures (is_name-Decides c.args.name.now)
