use Rattle.nofs_filedisk.proofs.OnFiledisk.Present.{present-out, present-partly}
use Rattle.nofs_filedisk.proofs.contents.Contents.put_run.Goals as goal

pub returns-in-Ok-clause-all : goal.returns-in-Ok-clause-all
returns-in-Ok-clause-all g c tells now p =
    present-out (g.B.Positioned.state c.args.self.now.file).bytes (g.B.Positioned.state c.write_part.new.file).bytes
    c.bytes.result.now c.args.self.now.run now c.bytes.ensures.value (c.in-Ok.ensures.put tells) p

pub returns-in-Err-clause-stays : goal.returns-in-Err-clause-stays
returns-in-Err-clause-stays g c tells now p =
    present-partly (g.B.Positioned.state c.args.self.now.file).bytes (g.B.Positioned.state c.write_part.new.file).bytes
    c.bytes.result.now c.args.self.now.run now c.bytes.ensures.value (c.in-Err.ensures.err tells) p
