use Rattle.std.proofs.Common.{refl, sym}
use Rattle.nofs_disk.specs.Chains.{StaysButFaults-refl}
use Rattle.nofs_names.specs.Searches.Directories.{ByStop, ByName}
use Rattle.nofs_names.proofs.OnSearches.Directories.{named-open}
use Rattle.nofs_names.proofs.searches.directories.open_named.Goals as goal

pub returns-then-books : goal.returns-then-books
returns-then-books g c = record {
  stays = StaysButFaults-refl (g.D.Disk.state c.args.disk.now);
  no_fault = tt;
  going = tt;
  name_is = tt;
  good = tt;
  opened = tt;
  refused = ByStop c.if-books.true refl refl;
}

pub returns-then-not-name_ok : goal.returns-then-not-name_ok
returns-then-not-name_ok g c = record {
  stays = StaysButFaults-refl (g.D.Disk.state c.args.disk.now);
  no_fault = tt;
  going = tt;
  name_is = tt;
  good = tt;
  opened = tt;
  refused = ByName c.if-books.false (sym c.if-not-name_ok.ensures.value) refl refl;
}

pub returns : goal.returns
returns g c = named-open (g.D.Disk.state c.args.disk.now)
    (g.D.Disk.state c.open_directory.new.disk) c.args.books.now c.args.at c.open_directory.new.last
    c.if-books.false (sym c.if-not-name_ok.ensures.value)
    (c.if-not-name_ok.ensures.fact.0 refl) c.open_directory.result c.open_directory.ensures
