-- The calls of a disk that gathers are those of the disk below.
use Rattle.std.proofs.Common.{◌≡◌, ℕ, ◌+◌, Bool, true, false, List, [], refl, Result, Err}
use Rattle.std.specs.Prelude.{◌↔◌, Contains, if◌then◌else◌}
use Rattle.nofs_disk.specs.declared.Failed.{Failed}
use Rattle.nofs_disk.specs.declared.tag.Cell.{Cell}
use Rattle.nofs_disk.specs.Disk.{DiskState, Flushes, IsSameDisk, KeepsPast, Writes}
use Rattle.nofs_cache.specs.Gathered.{gathered_state}

-- what holds of the blocks below holds of those that are there to be written out
both_dirty : (gathers : Bool) (old new : List ℕ) (n : ℕ) → (Contains new n ↔ Contains old n)
    → Contains (if gathers then [] else new) n ↔ Contains (if gathers then [] else old) n
both_dirty true old new n same = (λ has. has, λ has. has)
both_dirty false old new n same = same

less_dirty : (gathers : Bool) (old new : List ℕ) (n : ℕ) → (Contains new n → Contains old n)
    → Contains (if gathers then [] else new) n → Contains (if gathers then [] else old) n
less_dirty true old new n less = λ has. has
less_dirty false old new n less = less

module _ (old new : DiskState) (gathers : Bool) (before after : ℕ) where
  same_disk : IsSameDisk old new → IsSameDisk (gathered_state old gathers before) (gathered_state new gathers after)
  same_disk same = record { blocks = same.blocks; tells = same.tells; holds_back = refl; faults = same.faults }

  same_past : KeepsPast old new → KeepsPast (gathered_state old gathers before) (gathered_state new gathers after)
  same_past past = record { was = past.was; no_more = past.no_more; no_less = past.no_less }

  pub gathered_writes : (block : ℕ) (cell : Cell) (result : Result (Unit {0}) Failed) → after + 1 ≡ before
      → Writes old new block cell result
      → Writes (gathered_state old gathers before) (gathered_state new gathers after) block cell result
  gathered_writes block cell result one w = record {
    disk = same_disk w.disk;
    past = same_past w.past;
    moment = w.moment;
    spare = one;
    ok = w.ok;
    err = w.err;
    may = w.may;
    stays = w.stays;
    others = w.others;
    during = w.during;
    cause = w.cause;
    no_fault = w.no_fault;
    dirty = λ b apart. both_dirty gathers old.dirty new.dirty b (w.dirty b apart);
    held = λ holds. absurd (cc (holds));
  }

  pub gathered_flush_failed : (failed : Failed) → after + 1 ≡ before → Flushes old new (Err failed)
      → Flushes (gathered_state old gathers before) (gathered_state new gathers after) (Err failed)
  gathered_flush_failed failed one f = record {
    disk = same_disk f.disk;
    past = same_past f.past;
    moment = f.moment;
    spare = one;
    now = f.now;
    may = f.may;
    settled = f.settled;
    was = f.was;
    clean = tt;
    err = f.err;
    dirty = λ b. less_dirty gathers old.dirty new.dirty b (f.dirty b);
    during = f.during;
    cause = f.cause;
    no_fault = f.no_fault;
  }
