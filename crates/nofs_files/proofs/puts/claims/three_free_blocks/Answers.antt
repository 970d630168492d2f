use Rattle.std.proofs.Common.{refl, arith}
use Rattle.nofs_state.proofs.OnBooks.Free.{just-two}
use Rattle.nofs_files.proofs.puts.claims.three_free_blocks.Goals as goal

pub returns-in-None-next_set-clause-none : goal.returns-in-None-next_set-clause-none
returns-in-None-next_set-clause-none c e =
    let f = c.in-Some.ensures.found in
    let z = just-two c.args.books.now.free_blocks c.in-Some.two.first c.in-Some.two.second f.order f.range f.first
    f.second f.before f.between
    (c.in-None-next_set.ensures.none refl) in omega (arith, z)
