use Rattle.std.proofs.Common.{ℕ, ◌+◌, Bool, refl, sym, subst}
use Rattle.std.proofs.Math.Logic.{∥∥₁_elim, ∥∥₁_prop}
use Rattle.nofs_scan.specs.Steps.Elements.{see_step, verdict_at}
use Rattle.nofs_shared.specs.Acts.Sees.{FindsRoom}
use Rattle.nofs_shared.specs.Mount.Commits.{IsCommit}
use Rattle.nofs_shared.specs.Passes.Entries.{TellsStep}
use Rattle.nofs_shared.proofs.OnActs.Room.{finds-room}
use Rattle.nofs_shared.proofs.OnMount.Looks.{item-at, items-length}
use Rattle.nofs_shared.proofs.mount.serves.MountServes.settle.Goals as goal

pub returns-clause-tells : goal.returns-clause-tells
returns-clause-tells g c =
    subst (λ (i : ℕ). TellsStep c.args.caller (see_step c.args.found.now.kind i)
    c.args.self.now.core.books.history.entries c.commit.new.self.core.books.history.entries c.commit.result)
    (sym (item-at c.args.found.now.verdicts c.args.at
    (items-length c.args.found.now.verdicts c.args.at c.requires.within)))
    c.commit.ensures.tells

pub returns-clause-room : goal.returns-clause-room
returns-clause-room g c =
    subst (λ (i : ℕ). FindsRoom (c.args.self.now.core.books.at.inodes + c.args.self.now.core.books.at.blocks)
    c.args.caller (see_step c.args.found.now.kind i) c.args.self.now.core.books.history.entries c.commit.result)
    (sym (item-at c.args.found.now.verdicts c.args.at
    (items-length c.args.found.now.verdicts c.args.at c.requires.within)))
    (finds-room c.args.caller (see_step c.args.found.now.kind (verdict_at c.args.found.now.verdicts c.args.at).item)
    c.commit.result c.args.self.now.core.books.history.entries c.args.self.now.kept c.commit.new.self.kept
    (c.args.self.now.core.books.at.inodes + c.args.self.now.core.books.at.blocks) c.commit.ensures.kept
    c.args.self.now.taken)

pub returns-clause-commits : goal.returns-clause-commits
returns-clause-commits g c =
    ∥∥₁_elim c.args.self.now.stands ∥∥₁_prop (λ m. ∥∥₁_elim c.commit.ensures.commits ∥∥₁_prop (λ q. ∣ record {
      met = c.args.self.now.core.disk;
      before = c.args.self.now.core.books;
      after = c.commit.new.self.core.books;
      stood = m;
      history = refl;
      commit = subst (λ (b : Bool). IsCommit (g.D.Disk.state c.args.self.now.found.value)
          (g.D.Disk.state c.args.self.now.core.disk) c.args.self.now.core.books
          c.commit.new.self.core.books c.args.found.now.kind
          (verdict_at c.args.found.now.verdicts c.args.at).item b c.commit.result) c.requires.used q;
    } ∣₁))
