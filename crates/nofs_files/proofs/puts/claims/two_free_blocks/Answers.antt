use Rattle.std.proofs.Common.{refl, arith}
use Rattle.nofs_state.proofs.OnBooks.Free.{one-free}
use Rattle.nofs_state.proofs.OnBooks.Counts.{none-free}
use Rattle.nofs_files.proofs.puts.claims.two_free_blocks.Goals as goal

pub returns-in-None-clause-none : goal.returns-in-None-clause-none
returns-in-None-clause-none c e = let z = none-free c.args.books.now.free_blocks (c.in-None.ensures.none refl) in
    omega (arith, z)

pub returns-in-None-next_set-clause-none : goal.returns-in-None-next_set-clause-none
returns-in-None-next_set-clause-none c e = let z = one-free c.args.books.now.free_blocks c.in-Some.first
    c.in-Some.ensures.found.1 c.in-Some.ensures.found.2 c.in-Some.ensures.least
    (c.in-None-next_set.ensures.none refl) in
    omega (arith, z)
