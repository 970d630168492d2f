use Rattle.std.proofs.Common.{arith}
use Rattle.nofs_pages.proofs.OnTwinStores.{puts-none, puts-twins}
use Rattle.nofs_pages.proofs.twin.TwinPageStore.put.Goals as goal

pub returns-in-Ok-clause-puts : goal.returns-in-Ok-clause-puts
returns-in-Ok-clause-puts g c =
    let did = c.in-Ok.ensures in
    let old = c.args.self.now in
    let new = c.put_row.new.self in
    puts-twins (g.B.Positioned.state old.file) (g.B.Positioned.state new.file) old.faults new.faults c.args.first
    c.args.count c.args.areas.now c.requires.place did.keeps did.writes did.twins did.faults

pub returns-in-Err-clause-puts : goal.returns-in-Err-clause-puts
returns-in-Err-clause-puts g c =
    let did = c.in-Err.ensures in
    let old = c.args.self.now in
    let new = c.put_row.new.self in
    let same = did.faults in
    let cause = c.failed.ensures.cause in
    let counted = old.counted in
    rw c.failed.ensures.file
    (puts-none (g.B.Positioned.state old.file) (g.B.Positioned.state new.file) old.faults c.failed.new.self.faults
    c.args.first c.args.count c.args.areas.now c.requires.place did.keeps did.writes c.failed.result
    (omega (arith, same, cause)) (omega (arith, same, cause, counted)))
