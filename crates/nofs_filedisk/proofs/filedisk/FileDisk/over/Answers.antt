use Rattle.std.proofs.Common.{arith, ap, length}
use Rattle.nofs_filedisk.specs.Past.{file_calls}
use Rattle.nofs_filedisk.proofs.OnFiledisk.Start.{start_lasting, start_now, start_present, start_settled, start_sized}
use Rattle.nofs_filedisk.proofs.filedisk.FileDisk.over.Goals as goal

pub invariant_of-result : goal.invariant_of-result
invariant_of-result g c =
    let file = c.args.file in
    let calls = file_calls c.start-past.result.value in
    let none = c.start-past.ensures in
    let len = ap length none in
    rw (c.of-first.ensures, c.in_ok-over.ensures.file) (record {
      made = omega arith;
      room = omega arith;
      sized = start_sized (g.B.Positioned.state file) calls (g.met.B.Positioned.is_file file) none;
      present = λ tells.
          start_present (g.B.Positioned.state file) c.in_ok-over.field-0.run calls none c.in_ok-over.ensures.none;
      lasting = start_lasting (g.B.Positioned.state file) calls c.requires none;
    })

pub returns-clause-now : goal.returns-clause-now
returns-clause-now g c = rw c.of-first.ensures (start_now (g.B.Positioned.state c.args.file)
    (file_calls c.start-past.result.value) c.start-past.ensures)

pub returns-clause-settled : goal.returns-clause-settled
returns-clause-settled g c =
    rw c.of-first.ensures (start_settled (g.B.Positioned.state c.args.file)
    (file_calls c.start-past.result.value) 0 c.start-past.ensures)
