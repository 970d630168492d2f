use Rattle.std.proofs.Common.{refl}
use Rattle.nofs_state.proofs.OnBooks.Counts.{next-inode-is, no-next-inode}
use Rattle.nofs_state.proofs.books.maps.Books.next_inode.Goals as goal

pub returns-in-None-clause-next : goal.returns-in-None-clause-next
returns-in-None-clause-next c = λ W says fits. no-next-inode c.args.self.now W fits says (c.in-None.ensures.none refl)

pub returns-in-Some-clause-next : goal.returns-in-Some-clause-next
returns-in-Some-clause-next c = λ W says fits.
    next-inode-is c.args.self.now W fits says c.in-Some.place c.in-Some.ensures.found.1 c.in-Some.ensures.found.2
    c.in-Some.ensures.least
