-- The directory of a name: it is opened, or the step goes as its refusal.
use Rattle.std.proofs.Common.{◌≡◌, true, false, Result, Ok, Err, sym, subst, Some, None, ap}
use Rattle.nofs_disk.specs.Disk.{DiskState, IsDisk, StaysButFaults}
use Rattle.nofs_dirent.specs.Names.{NameOk, is_name}
use Rattle.nofs_inode.specs.declared.inode.Record.{Record}
use Rattle.nofs_history.specs.Claims.{no_claims}
use Rattle.nofs_history.specs.declared.machine.replies.Refusal.{Refusal}
use Rattle.nofs_history.specs.declared.machine.replies.Refusal.TheVariants as refusal
use Rattle.nofs_history.specs.declared.machine.replies.Reply.TheVariants as reply
use Rattle.nofs_history.specs.declared.machine.steps.Step.{Step}
use Rattle.nofs_agree.specs.declared.reads.LastRead.{LastRead}
use Rattle.nofs_state.specs.Books.Maps.{IsSafe}
use Rattle.nofs_state.specs.Cores.Steps.{Goes}
use Rattle.nofs_state.specs.declared.books.maps.Books.{Books}
use Rattle.nofs_state.proofs.OnCores.Unchanged.{goes-after, reads-keep, safe-keeps}
use Rattle.nofs_state.proofs.OnCores.Replies.{goes-stopped}
use Rattle.nofs_state.proofs.OnCores.FirstRows.{early-comes, early-none, early-stopped}
use Rattle.nofs_state.specs.Cores.Early.{refused_early}
use Rattle.nofs_state.specs.Cores.FirstRows.{RefusesEarly}
use Rattle.nofs_names.specs.Searches.Directories.{NamedFails, OpensNamed, ByStop, ByName, ByOpening}
use Rattle.nofs_names.specs.Searches.Refusals.{OpensDirectory}
use Rattle.nofs_names.specs.declared.searches.directories.NameIn.{NameIn}

-- the directory of a name was not opened: what is left to the step is its own answer to a bad name and to a part that
-- refuses
pub unopened-goes : (old new : DiskState) (k : Books) (at : NameIn) (why : Refusal) (s : Step) → IsDisk old
    → IsSafe old k → StaysButFaults old new
    → (IsSafe new k
    → k.stopped ≡ false → is_name at.name.now ≡ false → Goes new k new k s no_claims (reply.Refused refusal.BadName))
    → (k.stopped ≡ false → is_name at.name.now ≡ true → (last : LastRead)
    → OpensDirectory old new k at.directory at.generation last (Err why)
    → Goes old k new k s no_claims (reply.Refused why))
    → NamedFails old new k at why → Goes old k new k s no_claims (reply.Refused why)
unopened-goes old new k at why s is safe stays bad unopened (ByStop stopped same e) =
    subst (λ (w : Refusal). Goes old k new k s no_claims (reply.Refused w)) (sym e)
    (goes-stopped old new k s is safe stays same stopped)
unopened-goes old new k at why s is safe stays bad unopened (ByName going none same e) =
    subst (λ (w : Refusal). Goes old k new k s no_claims (reply.Refused w)) (sym e)
    (goes-after old new (reads-keep old new stays) same new k k s no_claims (reply.Refused refusal.BadName)
    (bad (safe-keeps old new (reads-keep old new stays) k safe) going none))
unopened-goes old new k at why s is safe stays bad unopened (ByOpening going good last opens) =
    unopened going good last opens

-- the directory of a name is opened
pub named-open : (old new : DiskState) (k : Books) (at : NameIn) (last : LastRead)
    → k.stopped ≡ false → is_name at.name.now ≡ true
    → NameOk at.name.now → (res : Result Record Refusal) → OpensDirectory old new k at.directory at.generation last res
    → OpensNamed old new k at last res
named-open old new k at last going is good (Ok r) opens =
    record {
      stays = opens.stays;
      no_fault = opens.no_fault;
      going = going;
      name_is = is;
      good = good;
      opened = opens;
      refused = tt;
    }
named-open old new k at last going is good (Err why) opens =
    record {
      stays = opens.stays;
      no_fault = tt;
      going = tt;
      name_is = tt;
      good = tt;
      opened = tt;
      refused = ByOpening going is last opens;
    }

-- a step whose name is tested first, over any disk
pub named-early : (old new : DiskState) (k : Books) (at : NameIn) (why : Refusal) (s : Step)
    → (is_name at.name.now ≡ false → refused_early k.at s ≡ Some refusal.BadName)
    → (is_name at.name.now ≡ true → refused_early k.at s ≡ None)
    → NamedFails old new k at why → RefusesEarly k s (reply.Refused why)
named-early old new k at why s bad good (ByStop stopped same e) = early-stopped k s (reply.Refused why) stopped
named-early old new k at why s bad good (ByName going none same e) =
    early-comes k s (reply.Refused why) refusal.BadName (bad none) (ap reply.Refused e)
named-early old new k at why s bad good (ByOpening going is last opens) =
    early-none k s (reply.Refused why) (good is)
