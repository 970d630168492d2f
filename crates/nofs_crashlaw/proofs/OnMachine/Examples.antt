-- The examples, computed.
use Rattle.std.proofs.Common.{true, refl}
use Rattle.nofs_disk.specs.Number.{number_at, put_number, put_bytes, zeros}
use Rattle.nofs_dirent.specs.Entries.{entry_of, entry_fields, spelled_entry}
use Rattle.nofs_dirent.specs.Names.{is_name}
use Rattle.nofs_ptrs.specs.Paths.{path_of, slot_of}
use Rattle.nofs_history.specs.Search.{count_below, least_from}
use Rattle.nofs_history.specs.Machine.{found, first_dead, first_lost_slot, place_for, link_place, gives, with_entry}
use Rattle.nofs_history.specs.Machine.{put_content, trimmed}
use Rattle.nofs_history.specs.Answers.{lines_in_slot}
use Rattle.nofs_history.specs.Claims.{Unclaimed, NoInode}
use Rattle.nofs_history.specs.Next.{ByRead, ByWrite}
use Rattle.nofs_history.specs.declared.machine.steps.Step.TheVariants as step
use Rattle.nofs_crashlaw.proofs.OnMachine.Total.{nothing-learned, nothing-learned-at}
use Rattle.nofs_crashlaw.specs.Machine.Examples.{AreShown, empty, name_examples, new_names, contents, large_files}
use Rattle.nofs_crashlaw.specs.Machine.Examples.{elements, FailedRead, FailedFlush}
use Rattle.nofs_crashlaw.specs.Machine.Examples.{GivenToSlot}

pub all-shown : AreShown name_examples × AreShown new_names × AreShown contents × AreShown large_files
    × AreShown elements
unfolding number_at put_number put_bytes zeros entry_of entry_fields spelled_entry is_name path_of slot_of count_below
    least_from found first_dead
    first_lost_slot place_for link_place gives with_entry put_content trimmed lines_in_slot
all-shown = (refl, refl, refl, refl, refl)

pub failed-read : FailedRead
failed-read = ByRead refl refl refl refl
    (record { version = refl; blocks = refl; inodes = refl; mount = refl; serial = refl; files = refl; homes = refl })
    refl
    (nothing-learned empty (step.Get 2 2 0))

pub failed-flush : FailedFlush
failed-flush = ByWrite refl refl refl refl
    (record {
      inode = NoInode refl refl;
      cell = Unclaimed refl;
      leaf = Unclaimed refl;
      top = Unclaimed refl;
      apart = tt;
    })
    (record { version = refl; blocks = refl; inodes = refl; mount = refl; serial = refl; files = refl; homes = refl })
    refl
    (nothing-learned-at empty true (step.Flush 0 0))

pub given-to-slot : GivenToSlot
unfolding number_at put_number put_bytes zeros entry_of entry_fields spelled_entry is_name path_of slot_of count_below
    least_from found first_dead
    first_lost_slot place_for link_place gives with_entry put_content trimmed lines_in_slot
given-to-slot = refl
