use Rattle.std.proofs.Common.{◌∙◌}
use Rattle.nofs_state.proofs.OnBooks.Counts.{next-is}
use Rattle.nofs_state.proofs.books.maps.Books.next_block.Goals as goal

pub returns : goal.returns
returns c = λ W says fits. c.or_zero.ensures ∙ next-is c.args.self.now W fits says c.next_set.result
    c.next_set.ensures.found c.next_set.ensures.least
    c.next_set.ensures.none
