use Rattle.std.proofs.Common.{List, Bool, ◌∙◌, ap, arith, false, length, replicate, subst}
use Rattle.nofs_state.specs.Inodes.Blocks.{BlocksFreed, with_all}
use Rattle.nofs_state.proofs.OnBooks.Moved.{freed-begins, freed-turn, in-map, take-whole}
use Rattle.nofs_state.proofs.books.maps.Books.free_blocks.Goals as goal

pub loop-block-init : goal.loop-block-init
loop-block-init c = freed-begins c.args.self.now (length c.args.freed.now)

pub free_block-requires-clause-unknown : goal.free_block-requires-clause-unknown
free_block-requires-clause-unknown c =
    in-map (c.as_slice-block-items.ensures.within c.loop-block.block-index 0 c.loop-block-test.true)
    c.requires.freed c.loop-block.invariant.blocks.unknown_size c.requires.unknown

pub free_block-requires-clause-free : goal.free_block-requires-clause-free
free_block-requires-clause-free c =
    in-map (c.as_slice-block-items.ensures.within c.loop-block.block-index 0 c.loop-block-test.true)
    c.requires.freed c.loop-block.invariant.blocks.free_size c.requires.free

pub loop-block-preserved : goal.loop-block-preserved
loop-block-preserved c = freed-turn c.args.self.now c.loop-block.self c.free_block.new.self
    (length c.args.freed.now) c.loop-block.block-index
    c.as_slice-block-items.result.now c.loop-block.invariant c.loop-block-test.true
    c.as_slice-block-items.ensures.within c.requires.freed c.requires.free
    c.requires.unknown c.free_block.ensures

pub returns : goal.returns
returns c =
    let all = take-whole c.as_slice-block-items.result.now c.loop-block.block-index
    (let t = c.loop-block-test.false in omega (arith, t)) in
    subst (λ (z : List Bool). BlocksFreed c.args.self.now c.loop-block.self z)
    (ap (with_all (replicate (length c.args.freed.now) false)) all ∙ c.as_slice-block-items.ensures.marks)
    c.loop-block.invariant
