-- The directory of a name that a step gives.
use Rattle.std.specs.Prelude.{◌≡◌, true, false, Result, Ok, Err, IfOk, IfErr, OnOk}
use Rattle.nofs_disk.specs.Disk.{DiskState, StaysButFaults}
use Rattle.nofs_dirent.specs.Names.{NameOk, is_name}
use Rattle.nofs_inode.specs.declared.inode.Record.{Record}
use Rattle.nofs_history.specs.declared.machine.replies.Refusal.{Refusal}
use Rattle.nofs_history.specs.declared.machine.replies.Refusal.TheVariants as refusal
use Rattle.nofs_agree.specs.declared.reads.LastRead.{LastRead}
use Rattle.nofs_state.specs.declared.books.maps.Books.{Books}
use Rattle.nofs_names.specs.Searches.Refusals.{OpensDirectory}
use Rattle.nofs_names.specs.declared.searches.directories.NameIn.{NameIn}

-- why the directory of a name is not opened
pub data NamedFails (old new : DiskState) (k : Books) (at : NameIn) (why : Refusal) : Type 0 where
  ByStop : k.stopped ≡ true → new.faults ≡ old.faults → why ≡ refusal.Stopped → NamedFails old new k at why
  ByName : k.stopped ≡ false → is_name at.name.now ≡ false → new.faults ≡ old.faults → why ≡ refusal.BadName
      → NamedFails old new k at why
  ByOpening : k.stopped ≡ false → is_name at.name.now ≡ true → (last : LastRead)
      → OpensDirectory old new k at.directory at.generation last (Err why)
      → NamedFails old new k at why

pub record OpensNamed (old new : DiskState) (k : Books) (at : NameIn) (last : LastRead)
    (result : Result Record Refusal) : Type 0 where
  pub stays : StaysButFaults old new
  pub no_fault : OnOk result (new.faults ≡ old.faults)
  pub going : OnOk result (k.stopped ≡ false)
  pub name_is : OnOk result (is_name at.name.now ≡ true)
  pub good : OnOk result (NameOk at.name.now)
  pub opened : IfOk result (λ r. OpensDirectory old new k at.directory at.generation last (Ok r))
  pub refused : IfErr result (NamedFails old new k at)
