use Rattle.std.proofs.Common.{[], ◌∷◌, Some, refl}
use Rattle.nofs_disk.specs.Pointer.{null}
use Rattle.nofs_disk.specs.declared.tag.Pointer.{Pointer}
use Rattle.nofs_inode.specs.InodeRecords.{no_link}
use Rattle.nofs_inode.specs.RecordLaws.{HasRecordSpelling-from}
use Rattle.nofs_inode.specs.declared.inode.FileKind.TheVariants.{File}
use Rattle.nofs_inode.specs.declared.inode.BackLink.{BackLink}
use Rattle.nofs_inode.specs.declared.inode.Record.{Record}
use Rattle.nofs_test_formats.proofs.tests.inode.label_file_cell.Goals as goal

pub write_record-requires-clause-spelling : goal.write_record-requires-clause-spelling
write_record-requires-clause-spelling g =
    let pointer : Pointer = record { block = 5; stamp = 1099511627785 } in
    let link : BackLink = record { directory = 1; entry = 0; generation = 1 } in
    let file : Record = record {
      generation = 2;
      kind = Some File;
      links = no_link ∷ no_link ∷ no_link ∷ link ∷ [];
      size = 3;
      direct = pointer ∷ null ∷ null ∷ null ∷ null ∷ null ∷ null ∷ null ∷ [];
      leaf = pointer;
      top = null;
    } in
    HasRecordSpelling-from file refl refl refl
