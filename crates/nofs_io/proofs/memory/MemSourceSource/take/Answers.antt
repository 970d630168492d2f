use Rattle.std.proofs.Common.{arith, drop}
use Rattle.std.proofs.lemmas.Grind.{common_steps}
use Rattle.nofs_io.proofs.Bytes.{moved_front, ended}
use Rattle.nofs_io.proofs.memory.MemSourceSource.take.Goals as goal

pub returns-clause-takes : goal.returns-clause-takes
returns-clause-takes c =
    let at = c.self.inside.at in
    let bytes = c.self.inside.bytes.items in
    let n = c.min-count.result in
    let front = moved_front bytes c.copy_from_slice.new.self (drop n c.args.into.now) at n (grind (arith, common_steps))
    (grind (arith, common_steps)) in
    record {
      within = grind (arith, common_steps);
      bytes = (
        grind (arith, front),
        λ none room. ended bytes at n c.min-most.result 0 (grind arith) (grind (arith, common_steps)) none,
      );
      cause = grind (arith, common_steps);
    }
