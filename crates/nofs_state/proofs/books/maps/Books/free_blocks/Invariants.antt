use Rattle.std.proofs.Common.{false, length, replicate, take}
use Rattle.nofs_state.specs.Inodes.Blocks.{BlocksFreed, with_all}
use Rattle.nofs_state.proofs.books.maps.Books.free_blocks.Given as goal

abbrev pub invariant-loop-block : goal.invariant-loop-block
invariant-loop-block l =
    BlocksFreed l.fn.self l.self (with_all (replicate (length l.freed) false) (take l.block-index l.block-items))
