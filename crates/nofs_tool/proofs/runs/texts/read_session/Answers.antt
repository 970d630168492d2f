use Rattle.std.proofs.Common.{◌≡◌, ◌+◌, ◌≤◌, ◌++◌, IfOk, arith, length-append, subst}
use Rattle.std.proofs.KnownBytes.{Consumes-trans}
use Rattle.std.proofs.lemmas.Grind.{common_steps}
use Rattle.nofs_tool.proofs.runs.texts.read_session.Goals as goal

pub loop-taken-preserved : goal.loop-taken-preserved
loop-taken-preserved g c =
    let before = c.loop-taken.invariant.0 in
    let next = c.in_ok-count.ensures in
    let read = next.read in
    let taken = c.loop-taken.taken in
    let same : (taken + 1) + c.in_ok-count.count ≡ taken + c.in_ok-count.count + 1 = omega arith in (
      (
        before.0 ++ read.0,
        Consumes-trans _ _ _ _ _ before.1 read.1,
        omega (arith, length-append before.0 read.0, before.2, read.2),
        read.3 before.0 before.3,
      ),
      subst (λ n. IfOk c.in_ok-count.next.reading (λ reader. reader.number ≤ n))
          same
          (next.number (taken + 1) c.loop-taken.invariant.1),
      grind (arith, common_steps),
      search,
      omega (arith, next.later, c.loop-taken.invariant.4),
    )
