use Rattle.nofs_files.proofs.OnPuts.Rooms.{some-two}
use Rattle.nofs_files.proofs.puts.claims.two_blocks.Goals as goal

pub with_stamps-requires-clause-some : goal.with_stamps-requires-clause-some
with_stamps-requires-clause-some c =
    some-two c.args.books.now.free_blocks c.two_free_blocks.result c.two_free_blocks.ensures.found
