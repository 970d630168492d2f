use Rattle.std.proofs.Common.{◌∙◌, arith, refl, subst}
use Rattle.std.specs.Prelude.{slice_index}
use Rattle.std.proofs.lemmas.List.Sorted.{length_permutation}
use Rattle.std.proofs.lemmas.List.{length-map}
use Rattle.nofs_cache.specs.declared.dirty.cells.DirtyBlocks.{DirtyBlocks}
use Rattle.nofs_cache.specs.Cached.{WritesDirty}
use Rattle.nofs_cache.specs.Dirty.Blocks.{entries_of, order_of}
use Rattle.nofs_cache.specs.Dirty.Entries.{AreAmong, AreLeft}
use Rattle.nofs_cache.proofs.OnDirty.{own_slotted, rising_left}
use Rattle.nofs_cache.proofs.OnCached.Forgotten.{all_forgotten, below_next, below_stays, dirty_no_fault, dirty_stays}
use Rattle.nofs_cache.proofs.OnCached.Forgotten.{first_forgotten}
use Rattle.nofs_cache.proofs.OnCached.WritesBelow.{WrittenBack-refl, WrittenBack-trans}
use Rattle.nofs_cache.proofs.dirty.writes.write_back_all.Goals as goal

pub loop-place-init : goal.loop-place-init
loop-place-init g c = (
  refl,
  WrittenBack-refl _ _,
  record { each = λ i k low k_low at in_range. absurd (omega arith) },
  omega arith,
  refl,
  omega arith,
)

pub write_dirty-requires-clause-place : goal.write_dirty-requires-clause-place
write_dirty-requires-clause-place g c =
    let same = c.loop-place.invariant.0 in
    let as_many = length_permutation _ _ c.requires.order.same in
    let long = length-map (entries_of c.args.dirty.now) (λ e. e.block) in
    let end = c.len-place-end.ensures in
    let low = c.loop-place-test.true in
    rw same (omega arith)

pub forget_first-requires-clause-places : goal.forget_first-requires-clause-places
forget_first-requires-clause-places g c =
    let same = c.loop-place.invariant.0 in
    let as_many = length_permutation _ _ c.requires.order.same in
    let long = length-map (entries_of c.args.dirty.now) (λ e. e.block) in
    let end = c.len-place-end.ensures in
    let low = c.loop-place-test.true in
    rw same (omega arith)

pub returns-in-Err-clause-writes_back : goal.returns-in-Err-clause-writes_back
returns-in-Err-clause-writes_back g c =
    let before = c.loop-place.invariant in
    let d = c.args.dirty.now in
    let old = g.D.Disk.state c.loop-place.under in
    let new = g.D.Disk.state c.write_dirty.new.under in
    let after = entries_of c.forget_first.new.dirty in
    let place = c.loop-place.place in
    let F : DirtyBlocks → Type 0 = λ x. WritesDirty old new (entries_of x) (slice_index (order_of x) place)
    c.write_dirty.result in
    let G : DirtyBlocks → Type 0 = λ x. AreLeft after (order_of x) place in
    let H : DirtyBlocks → Type 0 = λ x. AreAmong after (entries_of x) in
    let wrote = subst F before.0 c.write_dirty.ensures in
    WrittenBack-trans _ _ _ _ _ _
    (WrittenBack-trans _ _ _ _ _ _ before.1
    (dirty_stays old new (entries_of d) _ c.write_dirty.result wrote (g.met.D.Disk.is_disk c.write_dirty.new.under)))
    (first_forgotten new (entries_of d) after (order_of d) place c.requires.order
    (below_stays old new (entries_of d) (order_of d) place c.write_dirty.result c.in-Err.failed
    (own_slotted d.slots.items (entries_of d) d.placed) c.in-Err.is wrote before.2)
    (subst G before.0 c.forget_first.ensures.left) (subst H before.0 c.forget_first.ensures.among))

pub returns-in-Err-clause-rising : goal.returns-in-Err-clause-rising
returns-in-Err-clause-rising g c =
    let d = c.args.dirty.now in
    let after = entries_of c.forget_first.new.dirty in
    let G : DirtyBlocks → Type 0 = λ x. AreLeft after (order_of x) c.loop-place.place in
    rising_left (entries_of d) after (order_of d) c.loop-place.place c.requires.order
    (subst G c.loop-place.invariant.0 c.forget_first.ensures.left)

pub loop-place-preserved : goal.loop-place-preserved
loop-place-preserved g c =
    let before = c.loop-place.invariant in
    let d = c.args.dirty.now in
    let old = g.D.Disk.state c.loop-place.under in
    let new = g.D.Disk.state c.write_dirty.new.under in
    let place = c.loop-place.place in
    let F : DirtyBlocks → Type 0 = λ x. WritesDirty old new (entries_of x) (slice_index (order_of x) place)
    c.write_dirty.result in
    let wrote = subst F before.0 c.write_dirty.ensures in
    let room = before.3 in
    let less_room = wrote.writes.spare in
    let calls = before.5 in
    let one_more = wrote.writes.moment in (
      before.0,
      WrittenBack-trans _ _ _ _ _ _ before.1
          (dirty_stays old new (entries_of d) _ c.write_dirty.result wrote
          (g.met.D.Disk.is_disk c.write_dirty.new.under)),
      below_next old new (entries_of d) (order_of d) place c.write_dirty.result _
          (own_slotted d.slots.items (entries_of d) d.placed) c.in-Ok.is wrote before.2,
      omega arith,
      dirty_no_fault old new (entries_of d) _ c.write_dirty.result _ c.in-Ok.is wrote ∙ before.4,
      omega arith,
    )

pub returns-clause-writes_back : goal.returns-clause-writes_back
returns-clause-writes_back g c =
    let before = c.loop-place.invariant in
    let d = c.args.dirty.now in
    let as_many = length_permutation _ _ c.requires.order.same in
    let long = length-map (entries_of d) (λ e. e.block) in
    let end = c.len-place-end.ensures in
    let past = c.loop-place-test.false in
    rw c.clear.ensures.entries
    (WrittenBack-trans _ _ _ _ _ _ before.1
    (all_forgotten (g.D.Disk.state c.loop-place.under) (entries_of d) (order_of d) c.loop-place.place c.requires.order
    (omega arith) before.2))
