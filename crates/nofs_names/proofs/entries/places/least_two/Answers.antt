use Rattle.std.proofs.Common.{◌<◌, arith, refl}
use Rattle.nofs_state.proofs.OnBooks.Counts.{none-free}
use Rattle.nofs_state.proofs.OnBooks.Free.{one-free, two-free}
use Rattle.nofs_names.proofs.entries.places.least_two.Goals as goal

pub returns-in-None-clause-none : goal.returns-in-None-clause-none
returns-in-None-clause-none c e = let z = none-free c.args.books.now.free_blocks (c.in-None.ensures.none refl) in
    omega (arith, z)

pub returns-in-None-next_set-clause-none : goal.returns-in-None-next_set-clause-none
returns-in-None-next_set-clause-none c e =
    let f = c.in-Some.ensures.found in
    let z = one-free c.args.books.now.free_blocks c.in-Some.cell f.1 f.2 c.in-Some.ensures.least
    (c.in-None-next_set.ensures.none refl) in omega (arith, z)

pub returns-in-Some-next_set-clause-found : goal.returns-in-Some-next_set-clause-found
returns-in-Some-next_set-clause-found c =
    let f = c.in-Some.ensures.found in
    let s = c.in-Some-next_set.ensures.found in
    let low = s.0 in
    let order : c.in-Some.cell < c.in-Some-next_set.leaf = omega (arith, low) in
    record {
      cell = λ h. (f.2, f.1);
      leaf = λ h. (s.2, s.1, order);
      count = two-free c.args.books.now.free_blocks c.in-Some.cell c.in-Some-next_set.leaf order s.1 f.2 s.2;
    }
