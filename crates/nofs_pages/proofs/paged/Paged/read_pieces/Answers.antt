use Rattle.std.proofs.Common.{◌≡◌, ◌+◌, ◌*◌, ◌/◌, arith, subst, ℕ}
use Rattle.std.specs.Prelude.{IfOk, IfSome, IsTrue}
use Rattle.nofs_pages.specs.Views.{HasTold, ReadsCells, byte_over}
use Rattle.nofs_pages.proofs.paged.Paged.read_pieces.Goals as goal

pub returns-then-are_whole-clause-part : goal.returns-then-are_whole-clause-part
returns-then-are_whole-clause-part g c =
    let old = g.S.PageStore.state c.args.self.now.store in
    let none = c.are_whole.ensures.offset c.if-are_whole.true in
    let same : 3168 * c.args.first ≡ 3168 * c.args.first + c.args.offset = omega (arith, none) in
    let F : ℕ → Type 0 = λ at. IfOk c.read_whole.result (λ told. IfSome told (λ n. IsTrue old.tells
    → ReadsCells (byte_over old.bytes c.args.self.now.row) at c.args.count c.read_whole.new.into)) in
    subst F same c.read_whole.ensures.part

pub returns-then-are_whole-clause-told : goal.returns-then-are_whole-clause-told
returns-then-are_whole-clause-told g c =
    let new = c.read_whole.new.self in
    let none = c.are_whole.ensures.offset c.if-are_whole.true in
    let same : (c.args.count + 3167) / 3168 ≡ (c.args.offset + c.args.count + 3167) / 3168 = omega (arith, none) in
    let F : ℕ → Type 0 = λ pages. IfOk c.read_whole.result (λ told. IfSome told (λ n.
    HasTold (g.S.PageStore.told new.store) new.row c.args.first pages)) in
    subst F same c.read_whole.ensures.told
