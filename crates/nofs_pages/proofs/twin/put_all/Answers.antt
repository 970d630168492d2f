use Rattle.std.proofs.Common.{◌*◌, ◌+◌, ◌-◌, ◌∙◌, ◌<◌, arith, drop, length, take, ℕ}
use Rattle.nofs_pages.proofs.OnTwins.{has-next, part-rest, writes-more, writes-next}
use Rattle.nofs_pages.proofs.twin.put_all.Goals as goal

pub returns-in_err-at-clause-writes : goal.returns-in_err-at-clause-writes
returns-in_err-at-clause-writes g c tells =
    let old = g.B.Positioned.state c.args.file.now in
    let mid = g.B.Positioned.state c.loop-at.file in
    let new = g.B.Positioned.state c.put_next.new.file in
    let at = c.loop-at.at in
    let more = c.args.count - at in
    let inv = c.loop-at.invariant in
    let areas = c.args.areas.now in
    writes-more old.bytes new.bytes c.args.first (at + more) c.args.count areas (omega arith)
    (writes-next old.bytes mid.bytes new.bytes c.args.first at more areas
    (take (length areas - 3168 * at) (drop (3168 * at) areas))
    (λ (j : ℕ) (low : j < more). part-rest areas at j)
    (inv.writes tells) (c.in_err-at.ensures.err (inv.keeps.tells ∙ tells)))

pub loop-at-preserved : goal.loop-at-preserved
loop-at-preserved g c =
    let old = g.B.Positioned.state c.args.file.now in
    let mid = g.B.Positioned.state c.loop-at.file in
    let new = g.B.Positioned.state c.put_next.new.file in
    let at = c.loop-at.at in
    let more = c.in_ok-at.field-0 in
    let inv = c.loop-at.invariant in
    let did = c.in_ok-at.ensures in
    let areas = c.args.areas.now in
    let rest = take (length areas - 3168 * at) (drop (3168 * at) areas) in
    let before = inv.keeps.faults in
    let then = did.keeps.faults in
    let low = did.some.0 in
    let high = did.some.1 in
    let cut = λ (j : ℕ) (low : j < more). part-rest areas at j in
    record {
      within = omega (arith, low, high);
      keeps = record {
        tells = did.keeps.tells ∙ inv.keeps.tells;
        faults = omega (arith, before, then);
        durable = did.keeps.durable ∙ inv.keeps.durable;
      };
      known = did.known;
      writes = λ tells. writes-next old.bytes mid.bytes new.bytes c.args.first at more areas rest cut
          (inv.writes tells) (did.writes (inv.keeps.tells ∙ tells));
      twins = λ tells. has-next old.bytes mid.bytes new.bytes c.args.first at more areas rest cut
          (inv.writes tells) (did.writes (inv.keeps.tells ∙ tells)) (inv.twins tells)
          (did.twins (inv.keeps.tells ∙ tells));
    }
