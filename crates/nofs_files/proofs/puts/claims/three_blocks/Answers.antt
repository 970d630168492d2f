use Rattle.nofs_files.proofs.OnPuts.Rooms.{some-three}
use Rattle.nofs_files.proofs.puts.claims.three_blocks.Goals as goal

pub with_stamps-requires-clause-some : goal.with_stamps-requires-clause-some
with_stamps-requires-clause-some c =
    some-three c.args.books.now.free_blocks c.three_free_blocks.result c.three_free_blocks.ensures.found
