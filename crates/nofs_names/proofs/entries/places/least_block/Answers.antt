use Rattle.std.proofs.Common.{arith, refl}
use Rattle.nofs_state.proofs.OnBooks.Counts.{none-free}
use Rattle.nofs_names.proofs.entries.places.least_block.Goals as goal

pub returns-in-None-clause-none : goal.returns-in-None-clause-none
returns-in-None-clause-none c e = let z = none-free c.args.books.now.free_blocks (c.in-None.ensures.none refl) in
    omega (arith, z)
