use Rattle.std.proofs.Common.{◌∙◌, arith}
use Rattle.nofs_pages.proofs.OnPairs.{areas-next, learns-next, length-next, told-next}
use Rattle.nofs_pages.proofs.place.open_pairs.Goals as goal

pub loop-at-preserved : goal.loop-at-preserved
loop-at-preserved c =
    let raw = c.args.raw.now in
    let inv = c.loop-at.invariant in
    let len = inv.len in
    let did = c.in-Some.ensures in
    let old = c.args.into.now in
    let new = c.open_pair.new.into in
    record {
      len = length-next raw c.args.first c.loop-at.at c.args.to old c.loop-at.into new (omega arith)
          (omega (arith, len)) inv.areas
          did.area ∙ len;
      areas = areas-next raw c.args.first c.loop-at.at c.args.to old c.loop-at.into new (omega arith)
          (omega (arith, len)) inv.areas
          did.area;
      told = λ fresh. told-next raw c.args.first c.loop-at.at (omega arith) (inv.told fresh) (did.told fresh);
      learns = learns-next raw c.args.first c.loop-at.at c.in-Some.version c.args.versions.now
          c.loop-at.versions c.note.new.self
          (omega arith) inv.learns did.version c.note.ensures.here c.note.ensures.others;
    }
