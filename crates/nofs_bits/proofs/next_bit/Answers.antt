use Rattle.std.proofs.Common.{arith}
use Rattle.nofs_bits.proofs.Words.{lowest_from, none_from}
use Rattle.nofs_bits.proofs.next_bit.Goals as goal

pub returns-then-rest-eq0-clause-none : goal.returns-then-rest-eq0-clause-none
returns-then-rest-eq0-clause-none c none i low within = none_from c.args.word c.args.first i c.if-rest-eq0.true low

pub returns-clause-found : goal.returns-clause-found
returns-clause-found c =
    let lowest = lowest_from c.args.word c.args.first (omega arith) (omega arith) (omega arith) in
    (lowest.low, lowest.within, lowest.there)

pub returns-clause-least : goal.returns-clause-least
returns-clause-least c =
    let lowest = lowest_from c.args.word c.args.first (omega arith) (omega arith) (omega arith) in
    lowest.least
