use Rattle.std.proofs.Common.{rules, refl, ap, ◌≡◌, ◌∙◌, ◌∷◌, ◌++◌, [], arith, length}
use Rattle.nofs_tool.specs.Drill.{gets_from}
use Rattle.nofs_tool.proofs.OnDrill.Reads.{adds-get, adds-init, adds-nothing, begun, failed, first-slots}
use Rattle.nofs_tool.proofs.OnDrill.Reads.{gets-readings, long-more}
use Rattle.nofs_tool.proofs.drill.reads.read_slots.Goals as goal

pub loop-slot-init : goal.loop-slot-init
loop-slot-init g c = record {
  long = ap length c.new-replies.ensures.items;
  adds = adds-init c.args.found _ _ c.new-replies.ensures.items;
  found_same = refl;
  first_same = refl;
}

pub loop-slot-preserved : goal.loop-slot-preserved
loop-slot-preserved g c =
    let so_far = c.loop-slot.invariant in
    let one = c.in_ok-ask.ensures in
    let pushed = c.in_ok-push.ensures.items in
    record {
      long = long-more _ _ _ _ pushed so_far.long;
      adds = adds-get c.args.found c.loop-slot.slot _ _ _ _ _ _ pushed so_far.long so_far.adds one.reads;
      found_same = one.same.0 ∙ so_far.found_same;
      first_same = one.same.1 ∙ so_far.first_same;
    }

pub returns-in_err-ask-clause-reads : goal.returns-in_err-ask-clause-reads
returns-in_err-ask-clause-reads g c =
    let so_far = c.loop-slot.invariant in
    let low = c.loop-slot-test.true in
    let long = so_far.long in
    failed _ _ _ _ _ _ c.from_residual.ensures.1 (first-slots c.args.found _ _ _ _ (omega (arith, long, low))
    (adds-nothing _ _ _ _ so_far.adds (begun _ _ _ _ _ c.in_err-ask.ensures.reads)))

pub returns-in_err-push-clause-reads : goal.returns-in_err-push-clause-reads
returns-in_err-push-clause-reads g c =
    let so_far = c.loop-slot.invariant in
    let rs = c.loop-slot.replies.items in
    let r = c.in_ok-ask.field-0 in
    let low = c.loop-slot-test.true in
    let long = long-more rs (rs ++ r ∷ []) r _ refl so_far.long in
    failed _ _ _ _ _ _ c.from_residual-in_err-push.ensures.1
    (first-slots c.args.found _ (rs ++ r ∷ []) _ _ (omega (arith, long, low))
    (adds-get c.args.found c.loop-slot.slot rs (rs ++ r ∷ []) r _ _ _ refl so_far.long so_far.adds
    c.in_ok-ask.ensures.reads))

pub returns-clause-reads : goal.returns-clause-reads
returns-clause-reads g c =
    let so_far = c.loop-slot.invariant in
    let all : c.loop-slot.slot ≡ c.args.count = search rules in
    record {
      made = gets_from c.args.found 0 c.loop-slot.replies.items;
      adds = so_far.adds;
      readings = gets-readings c.args.found 0 c.loop-slot.replies.items;
      read = (so_far.long ∙ all, refl);
    }
