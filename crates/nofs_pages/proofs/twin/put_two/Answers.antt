use Rattle.std.proofs.Common.{◌*◌, ◌+◌, ◌%◌, ◌≤◌, ◌<◌, ◌⊎◌, ◌∙◌, arith, take, ℕ}
use Rattle.nofs_pages.proofs.OnBench.{two-has, two-writes}
use Rattle.nofs_pages.proofs.OnPairs.{apart-of, known-after, known-kept-one, known-none, known-noted, knows-two}
use Rattle.nofs_pages.proofs.OnViews.{whole-partly}
use Rattle.nofs_pages.proofs.twin.put_two.Goals as goal

pub returns-in_err-write_places-clause-writes : goal.returns-in_err-write_places-clause-writes
returns-in_err-write_places-clause-writes g c tells =
    let p = c.args.number in
    let odd = c.requires.touch.odd in
    let even = c.requires.touch.even in
    let one = c.take-one.ensures.result in
    let two = c.take-two.ensures.result ∙ c.take-one.ensures.others (p + 1) (λ e. omega (arith, e)) in
    two-writes (g.B.Positioned.state c.args.file.now).bytes (g.B.Positioned.state c.write_places.new.file).bytes
    c.args.bench.now.places.items c.seal.new.self.places.items c.seal-2.new.self.places.items p c.take-one.result
    c.take-two.result c.args.areas.now c.requires.number (omega arith) (omega arith)
    (one ∙ c.requires.known tells p (omega (arith, odd)))
    (two ∙ c.requires.known tells (p + 1) c.requires.touch.known) (omega (arith, one, odd)) (omega (arith, two, even))
    c.args.bench.now.places_size c.seal.new.self.places_size c.seal-2.new.self.places_size c.seal.ensures
    c.seal-2.ensures (c.in_err-write_places.ensures.err tells)

pub returns-clause-writes : goal.returns-clause-writes
returns-clause-writes g c tells =
    let old = g.B.Positioned.state c.args.file.now in
    let new = g.B.Positioned.state c.write_places.new.file in
    let p = c.args.number in
    let at = 8192 * p + 4096 * (c.take-one.result % 2) in
    let odd = c.requires.touch.odd in
    let even = c.requires.touch.even in
    let one = c.take-one.ensures.result in
    let two = c.take-two.ensures.result ∙ c.take-one.ensures.others (p + 1) (λ e. omega (arith, e)) in
    two-writes old.bytes new.bytes
    c.args.bench.now.places.items c.seal.new.self.places.items c.seal-2.new.self.places.items p c.take-one.result
    c.take-two.result c.args.areas.now c.requires.number (omega arith) (omega arith)
    (one ∙ c.requires.known tells p (omega (arith, odd)))
    (two ∙ c.requires.known tells (p + 1) c.requires.touch.known) (omega (arith, one, odd)) (omega (arith, two, even))
    c.args.bench.now.places_size c.seal.new.self.places_size c.seal-2.new.self.places_size c.seal.ensures
    c.seal-2.ensures (whole-partly at (take (4096 * 2) c.seal-2.new.self.places.items) old.bytes new.bytes
    (c.in_ok-write_places.ensures.put tells))

pub returns-clause-twins : goal.returns-clause-twins
returns-clause-twins g c tells =
    let p = c.args.number in
    let odd = c.requires.touch.odd in
    let even = c.requires.touch.even in
    let one = c.take-one.ensures.result in
    let two = c.take-two.ensures.result ∙ c.take-one.ensures.others (p + 1) (λ e. omega (arith, e)) in
    two-has (g.B.Positioned.state c.args.file.now).bytes (g.B.Positioned.state c.write_places.new.file).bytes
    c.args.bench.now.places.items c.seal.new.self.places.items c.seal-2.new.self.places.items p c.take-one.result
    c.take-two.result c.args.areas.now c.requires.number (omega arith) (omega arith)
    (one ∙ c.requires.known tells p (omega (arith, odd)))
    (two ∙ c.requires.known tells (p + 1) c.requires.touch.known) (omega (arith, one, odd)) (omega (arith, two, even))
    c.args.bench.now.places_size c.seal.new.self.places_size c.seal-2.new.self.places_size c.seal.ensures
    c.seal-2.ensures (c.in_ok-write_places.ensures.put tells)

pub returns-in_err-write_places-clause-known : goal.returns-in_err-write_places-clause-known
returns-in_err-write_places-clause-known g c =
    let old = g.B.Positioned.state c.args.file.now in
    let new = g.B.Positioned.state c.write_places.new.file in
    let p = c.args.number in
    let taken = c.take-two.new.self in
    known-after old new c.args.versions.now taken p 2 c.args.areas.now c.in_err-write_places.ensures.keeps
    (returns-in_err-write_places-clause-writes g c) c.requires.known
    (λ (q : ℕ) (apart : (q < p) ⊎ (p + 2 ≤ q)).
    c.take-two.ensures.others q (apart-of p 2 (p + 1) q (omega arith) (omega arith) apart)
    ∙ c.take-one.ensures.others q (apart-of p 2 p q (omega arith) (omega arith) apart))
    (λ tells. knows-two new.bytes taken p
    (known-none taken new.bytes p (c.take-two.ensures.others p (λ e. omega (arith, e)) ∙ c.take-one.ensures.here))
    (known-none taken new.bytes (p + 1) c.take-two.ensures.here))

pub returns-clause-known : goal.returns-clause-known
returns-clause-known g c =
    let old = g.B.Positioned.state c.args.file.now in
    let new = g.B.Positioned.state c.write_places.new.file in
    let p = c.args.number in
    let areas = c.args.areas.now in
    let odd = c.requires.touch.odd in
    let one = c.take-one.ensures.result in
    let two = c.take-two.ensures.result ∙ c.take-one.ensures.others (p + 1) (λ e. omega (arith, e)) in
    let first = c.note.new.self in
    let second = c.note-2.new.self in
    known-after old new c.args.versions.now second p 2 areas c.in_ok-write_places.ensures.keeps
    (returns-clause-writes g c) c.requires.known
    (λ (q : ℕ) (apart : (q < p) ⊎ (p + 2 ≤ q)).
    let other = apart-of p 2 p q (omega arith) (omega arith) apart in
    let other_two = apart-of p 2 (p + 1) q (omega arith) (omega arith) apart in
    c.note-2.ensures.others q other_two ∙ c.note.ensures.others q other
    ∙ c.take-two.ensures.others q other_two ∙ c.take-one.ensures.others q other)
    (λ tells.
    let writes = returns-clause-writes g c tells in
    let has = returns-clause-twins g c tells in
    knows-two new.bytes second p
    (known-kept-one first second new.bytes p (c.note-2.ensures.others p (λ e. omega (arith, e)))
    (known-noted first old.bytes new.bytes p 2 0 p c.take-one.result areas c.requires.number writes has (omega arith)
    (omega arith) (one ∙ c.requires.known tells p (omega (arith, odd))) c.note.ensures.here))
    (known-noted second old.bytes new.bytes p 2 1 (p + 1) c.take-two.result areas c.requires.number writes has
    (omega arith) (omega arith) (two ∙ c.requires.known tells (p + 1) c.requires.touch.known) c.note-2.ensures.here))
