use Rattle.std.proofs.Common.{arith}
use Rattle.nofs_state.proofs.OnBooks.Counts.{none-free}
use Rattle.nofs_files.proofs.puts.claims.one_block.Goals as goal

pub with_stamps-requires-clause-none : goal.with_stamps-requires-clause-none
with_stamps-requires-clause-none c e =
    let z = none-free c.args.books.now.free_blocks (c.least_free_block.ensures.none e) in omega (arith, z)
