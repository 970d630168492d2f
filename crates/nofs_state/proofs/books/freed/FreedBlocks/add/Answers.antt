use Rattle.std.proofs.Common.{◌≡◌, ◌<◌, ◌∙◌, ℕ, List, ap, arith, false, length, replicate, slice_set, subst, sym, true}
use Rattle.std.specs.List.{All}
use Rattle.nofs_state.specs.Inodes.Blocks.{with_all}
use Rattle.nofs_state.proofs.OnBooks.Moved.{below-more, with-last, with-size}
use Rattle.nofs_state.proofs.books.freed.FreedBlocks.add.Goals as goal

pub invariant_of-self-2 : goal.invariant_of-self-2
invariant_of-self-2 c =
    let size : length c.args.self.now ≡ c.self.inside.bound = sym (ap length c.self.view_is)
    ∙ with-size c.self.inside.bound c.self.inside.blocks.items in
    let low : c.args.block < c.self.inside.bound = (let r = c.requires in omega (arith, r, size)) in
    subst (λ (l : List ℕ). All (λ b. b < c.self.inside.bound) l) (sym c.in_ok-push.ensures.items)
    (below-more c.self.inside.bound c.self.inside.blocks.items c.args.block c.self.invariant low)

pub returns-clause-added : goal.returns-clause-added
returns-clause-added c =
    ap (with_all (replicate c.self.inside.bound false)) c.in_ok-push.ensures.items
    ∙ (with-last (replicate c.self.inside.bound false) c.self.inside.blocks.items c.args.block
    ∙ ap (λ m. slice_set m c.args.block true) c.self.view_is)
