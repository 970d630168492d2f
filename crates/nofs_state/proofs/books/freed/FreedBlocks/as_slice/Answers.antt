use Rattle.std.proofs.Common.{◌<◌, ℕ, List, ◌∙◌, ap, false, length, replicate, subst, sym}
use Rattle.std.specs.List.{All}
use Rattle.nofs_state.specs.Inodes.Blocks.{with_all}
use Rattle.nofs_state.proofs.OnBooks.Moved.{with-size}
use Rattle.nofs_state.proofs.books.freed.FreedBlocks.as_slice.Goals as goal

pub returns-clause-marks : goal.returns-clause-marks
returns-clause-marks c =
    let size = sym (ap length c.self.view_is) ∙ with-size c.self.inside.bound c.self.inside.blocks.items in
    ap (λ n. with_all (replicate n false) c.deref.result.now) size
    ∙ ap (with_all (replicate c.self.inside.bound false)) c.deref.ensures.value ∙ c.self.view_is

pub returns-clause-within : goal.returns-clause-within
returns-clause-within c =
    let size = sym (ap length c.self.view_is) ∙ with-size c.self.inside.bound c.self.inside.blocks.items in
    subst (λ (n : ℕ). All (λ b. b < n) c.deref.result.now) (sym size)
    (subst (λ (l : List ℕ). All (λ b. b < c.self.inside.bound) l) (sym c.deref.ensures.value) c.self.invariant)
