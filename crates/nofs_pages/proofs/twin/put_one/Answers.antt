use Rattle.std.proofs.Common.{◌*◌, ◌+◌, ◌%◌, ◌≤◌, ◌<◌, ◌⊎◌, ◌∙◌, arith, take, ℕ}
use Rattle.nofs_pages.proofs.OnBench.{one-has, one-writes}
use Rattle.nofs_pages.proofs.OnPairs.{apart-of, known-after, known-none, known-noted, knows-one}
use Rattle.nofs_pages.proofs.OnViews.{whole-partly}
use Rattle.nofs_pages.proofs.twin.put_one.Goals as goal

pub returns-in_err-write_places-clause-writes : goal.returns-in_err-write_places-clause-writes
returns-in_err-write_places-clause-writes g c tells =
    let taken = c.take-version.ensures.result in
    one-writes (g.B.Positioned.state c.args.file.now).bytes (g.B.Positioned.state c.write_places.new.file).bytes
    c.args.bench.now.places.items c.seal.new.self.places.items c.args.number c.take-version.result c.args.areas.now
    c.requires.number (omega arith)
    (taken ∙ c.requires.known tells c.args.number (omega (arith, taken, c.if-version-eq0.false)))
    c.args.bench.now.places_size c.seal.new.self.places_size c.seal.ensures (c.in_err-write_places.ensures.err tells)

pub returns-clause-writes : goal.returns-clause-writes
returns-clause-writes g c tells =
    let old = g.B.Positioned.state c.args.file.now in
    let new = g.B.Positioned.state c.write_places.new.file in
    let version = c.take-version.result in
    let taken = c.take-version.ensures.result in
    let at = 8192 * c.args.number + 4096 * (version % 2) in
    one-writes old.bytes new.bytes c.args.bench.now.places.items c.seal.new.self.places.items c.args.number version
    c.args.areas.now c.requires.number (omega arith)
    (taken ∙ c.requires.known tells c.args.number (omega (arith, taken, c.if-version-eq0.false)))
    c.args.bench.now.places_size c.seal.new.self.places_size c.seal.ensures
    (whole-partly at (take (4096 * 1) c.seal.new.self.places.items) old.bytes new.bytes
    (c.in_ok-write_places.ensures.put tells))

pub returns-clause-twins : goal.returns-clause-twins
returns-clause-twins g c tells =
    let taken = c.take-version.ensures.result in
    one-has (g.B.Positioned.state c.args.file.now).bytes (g.B.Positioned.state c.write_places.new.file).bytes
    c.args.bench.now.places.items c.seal.new.self.places.items c.args.number c.take-version.result c.args.areas.now
    c.requires.number (omega arith)
    (taken ∙ c.requires.known tells c.args.number (omega (arith, taken, c.if-version-eq0.false)))
    c.args.bench.now.places_size c.seal.new.self.places_size c.seal.ensures (c.in_ok-write_places.ensures.put tells)

pub returns-in_err-write_places-clause-known : goal.returns-in_err-write_places-clause-known
returns-in_err-write_places-clause-known g c =
    let old = g.B.Positioned.state c.args.file.now in
    let new = g.B.Positioned.state c.write_places.new.file in
    let p = c.args.number in
    let taken = c.take-version.new.self in
    known-after old new c.args.versions.now taken p 1 c.args.areas.now c.in_err-write_places.ensures.keeps
    (returns-in_err-write_places-clause-writes g c) c.requires.known
    (λ (q : ℕ) (apart : (q < p) ⊎ (p + 1 ≤ q)).
    c.take-version.ensures.others q (apart-of p 1 p q (omega arith) (omega arith) apart))
    (λ tells. knows-one new.bytes taken p (known-none taken new.bytes p c.take-version.ensures.here))

pub returns-clause-known : goal.returns-clause-known
returns-clause-known g c =
    let old = g.B.Positioned.state c.args.file.now in
    let new = g.B.Positioned.state c.write_places.new.file in
    let p = c.args.number in
    let version = c.take-version.result in
    let taken = c.take-version.ensures.result in
    let noted = c.note.new.self in
    known-after old new c.args.versions.now noted p 1 c.args.areas.now c.in_ok-write_places.ensures.keeps
    (returns-clause-writes g c) c.requires.known
    (λ (q : ℕ) (apart : (q < p) ⊎ (p + 1 ≤ q)).
    c.note.ensures.others q (apart-of p 1 p q (omega arith) (omega arith) apart)
    ∙ c.take-version.ensures.others q (apart-of p 1 p q (omega arith) (omega arith) apart))
    (λ tells. knows-one new.bytes noted p (known-noted noted old.bytes new.bytes p 1 0 p version c.args.areas.now
    (omega arith) (returns-clause-writes g c tells) (returns-clause-twins g c tells) (omega arith) (omega arith)
    (taken ∙ c.requires.known tells p (omega (arith, taken, c.if-version-eq0.false))) c.note.ensures.here))
