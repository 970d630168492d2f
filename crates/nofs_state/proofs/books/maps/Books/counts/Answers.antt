use Rattle.std.proofs.Common.{◌-◌, min, ◌∙◌}
use Rattle.nofs_history.specs.World.{free_blocks, free_inodes, unverified_blocks, unverified_inodes}
use Rattle.nofs_state.specs.Books.Counts.{used_blocks, used_inodes}
use Rattle.nofs_state.proofs.OnBooks.Sums.{all-blocks, all-inodes, free-blocks-count, free-inodes-count, split-is}
use Rattle.nofs_state.proofs.OnBooks.Sums.{unknown-blocks-count}
use Rattle.nofs_state.proofs.OnBooks.Sums.{unknown-inodes-count}
use Rattle.nofs_state.proofs.books.maps.Books.counts.Goals as goal

pub returns-clause-machine : goal.returns-clause-machine
returns-clause-machine c = λ W says.
    let k = c.args.self.now in
    let i = c.parts_of-inodes in
    let b = c.parts_of-blocks in
    let fi = free-inodes-count k W says c.requires.free_inodes in
    let ui = unknown-inodes-count k W says c.requires.inodes in
    let fb = free-blocks-count k W says c.requires.free_blocks in
    let ub = unknown-blocks-count k W says c.requires.blocks in
    let inodes = split-is k.at.inodes i.result.used i.result.free i.result.unchecked (used_inodes W) (free_inodes W)
    (unverified_inodes W)
    (all-inodes W ∙ says.inodes)
    (i.ensures.unchecked ∙ ui) (i.ensures.free ∙ (λ j. min (fi j) (k.at.inodes - ui j))) i.ensures.whole in
    let blocks = split-is k.at.blocks b.result.used b.result.free b.result.unchecked (used_blocks W) (free_blocks W)
    (unverified_blocks W)
    (all-blocks W ∙ says.blocks)
    (b.ensures.unchecked ∙ ub) (b.ensures.free ∙ (λ j. min (fb j) (k.at.blocks - ub j))) b.ensures.whole in (
      record { used = inodes.0; free = inodes.1; unchecked = inodes.2 },
      record { used = blocks.0; free = blocks.1; unchecked = blocks.2 },
    )
