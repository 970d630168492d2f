use Rattle.std.proofs.Common.{◌-◌, arith}
use Rattle.nofs_filedisk.specs.Past.{file_calls}
use Rattle.nofs_filedisk.proofs.OnFiledisk.Calls.{flush_does, flush_holds, flush_lasts, flush_leaves}
use Rattle.nofs_filedisk.proofs.filedisk.FileDiskDisk.flush.Goals as goal

pub invariant_of-self : goal.invariant_of-self
invariant_of-self g c =
    let old = c.args.self.now in
    let did = c.flush-result in
    flush_holds (g.B.Positioned.state old.contents.file) (g.B.Positioned.state did.new.self.file)
    (g.B.Positioned.state old.first.value) old.contents.run
    did.new.self.run (file_calls old.past.value) old.moment old.spare old.made old.room old.sized old.present
    old.lasting did.ensures.tells c.requires
    c.is_ok.result did.result c.is_ok.ensures.value did.ensures.stays did.ensures.none did.ensures.durable
    did.ensures.undone c.add.ensures

pub returns-clause-flushes : goal.returns-clause-flushes
returns-clause-flushes g c =
    let old = c.args.self.now in
    let did = c.flush-result in
    let some = c.requires in
    rw c.add.ensures
    (flush_does (g.B.Positioned.state old.contents.file) (g.B.Positioned.state did.new.self.file)
    (g.B.Positioned.state old.first.value)
    (file_calls old.past.value) old.spare (old.spare - 1)
    (omega arith) did.ensures.tells did.ensures.faults did.result c.is_ok.result
    c.is_ok.ensures.value did.ensures.cause did.ensures.no_fault)

pub returns-clause-lasts : goal.returns-clause-lasts
returns-clause-lasts g c =
    let old = c.args.self.now in
    let did = c.flush-result in
    flush_lasts (g.B.Positioned.state old.contents.file) (g.B.Positioned.state did.new.self.file)
    (g.B.Positioned.state old.first.value) old.contents.run
    did.new.self.run (file_calls old.past.value) old.moment old.spare old.made old.room old.sized old.present
    old.lasting did.ensures.tells
    c.is_ok.result did.result did.ensures.stays c.add.ensures did.ensures.none did.ensures.durable

pub returns-clause-leaves : goal.returns-clause-leaves
returns-clause-leaves g c =
    let old = c.args.self.now in
    rw c.add.ensures (λ image.
    flush_leaves (g.B.Positioned.state old.contents.file) (g.B.Positioned.state old.first.value)
    (file_calls old.past.value) old.spare image
    c.is_ok.result)
