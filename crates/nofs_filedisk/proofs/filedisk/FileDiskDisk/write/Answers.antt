use Rattle.std.proofs.Common.{◌-◌, arith}
use Rattle.nofs_filedisk.specs.Past.{file_calls}
use Rattle.nofs_filedisk.proofs.OnFiledisk.Calls.{write_does, write_holds, write_leaves}
use Rattle.nofs_filedisk.proofs.filedisk.FileDiskDisk.write.Goals as goal

pub invariant_of-self : goal.invariant_of-self
invariant_of-self g c =
    let old = c.args.self.now in
    let did = c.write-result in
    write_holds (g.B.Positioned.state old.contents.file) (g.B.Positioned.state did.new.self.file)
    (g.B.Positioned.state old.first.value) old.contents.run did.new.self.run (file_calls old.past.value) old.moment
    old.spare old.made old.room old.sized old.present old.lasting did.ensures.keeps.tells
    c.requires.spare c.args.block c.args.cell.now c.is_ok.result did.result c.is_ok.ensures.value
    c.note_sizes.ensures did.ensures.takes
    did.ensures.stays did.ensures.keeps.durable
    (rw (← c.of.ensures) c.add.ensures)

pub returns-clause-writes : goal.returns-clause-writes
returns-clause-writes g c =
    let old = c.args.self.now in
    let did = c.write-result in
    let some = c.requires.spare in
    rw (c.add.ensures, c.of.ensures)
    (write_does (g.B.Positioned.state old.contents.file) (g.B.Positioned.state did.new.self.file)
    (g.B.Positioned.state old.first.value)
    (file_calls old.past.value) old.spare (old.spare - 1)
    (omega arith) did.ensures.keeps.tells did.ensures.keeps.faults did.result c.is_ok.result
    c.is_ok.ensures.value did.ensures.cause did.ensures.no_fault c.args.block c.args.cell.now c.requires.block)

pub returns-clause-leaves : goal.returns-clause-leaves
returns-clause-leaves g c =
    let old = c.args.self.now in
    rw (c.add.ensures, c.of.ensures) (λ image.
    write_leaves (g.B.Positioned.state c.write-result.new.self.file) (g.B.Positioned.state old.first.value)
    (file_calls old.past.value) (old.spare - 1) image
    c.args.block c.args.cell.now c.is_ok.result)
