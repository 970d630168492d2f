use Rattle.std.proofs.Common.{◌≡◌, ap, ◌∙◌, inl, inr}
use Rattle.std.proofs.lemmas.Bool.{cases_lt}
use Rattle.nofs_inode.specs.declared.inode.Record.{Record}
use Rattle.nofs_disk.specs.Pointer.{null}
use Rattle.nofs_history.proofs.OnAccepted.BaseFiles.{holes-behind-leaf, holes-behind-top}
use Rattle.nofs_history.proofs.accepted.base.slot_count.Goals as goal

pub returns-then-not-is_null-2-clause-holes : goal.returns-then-not-is_null-2-clause-holes
returns-then-not-is_null-2-clause-holes c = λ X i k is low lt.
    let top : c.args.it.now.top ≡ null = c.is_null.ensures.fact.0 c.if-not-is_null.false in
    holes-behind-top X i k (ap (λ (r : Record). r.top) is ∙ top) low lt

pub returns-else-not-is_null-2-clause-holes : goal.returns-else-not-is_null-2-clause-holes
returns-else-not-is_null-2-clause-holes c = λ X i k is low lt.
    let top : c.args.it.now.top ≡ null = c.is_null.ensures.fact.0 c.if-not-is_null.false in
    let leaf : c.args.it.now.leaf ≡ null = c.is_null-else-not-is_null.ensures.fact.0 c.if-not-is_null-2.false in
    elim (cases_lt k 72) [
      | inl near ↦ holes-behind-leaf X i k (ap (λ (r : Record). r.leaf) is ∙ leaf) low near
      | inr far ↦ holes-behind-top X i k (ap (λ (r : Record). r.top) is ∙ top) far lt
    ]
