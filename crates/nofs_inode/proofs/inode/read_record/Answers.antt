use Rattle.nofs_inode.specs.OtherRecords.{IfSome-one, IfSome-spelling}
use Rattle.nofs_inode.proofs.inode.read_record.Goals as goal

pub returns : goal.returns
returns c = record {
  value = c.spelled_record.ensures;
  spelling = IfSome-spelling c.args.index c.args.payload.now c.spelled_record.result c.spelled_record.ensures;
  one_spelling =
      IfSome-one c.args.index c.args.payload.now c.spelled_record.result c.fits-payload c.spelled_record.ensures;
}
