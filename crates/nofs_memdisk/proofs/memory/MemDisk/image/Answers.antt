use Rattle.std.proofs.Common.{arith, ◌≡◌, ◌<◌, ◌∙◌, ℕ, List, sym, ap, get_or, length, subst}
use Rattle.std.proofs.lemmas.List.{length-set}
use Rattle.nofs_disk.specs.declared.tag.Cell.{Cell}
use Rattle.nofs_disk.specs.Disk.{IsSizedCell, cell_at}
use Rattle.nofs_versions.specs.Memory.{held_after, picked, within}
use Rattle.nofs_versions.proofs.OnSearch.{picked_more}
use Rattle.nofs_versions.proofs.OnMemory.Sizes.{sized_now, sized_set}
use Rattle.nofs_memdisk.proofs.memory.MemDisk.image.Goals as goal

pub loop-pick-init : goal.loop-pick-init
loop-pick-init c =
    let self = c.args.self.now in
    let base = c.in_ok-base.ensures.items_if_clones_equal (λ x y h. h) ∙ c.deref.ensures.value ∙ self.present in
    let Sized : List Cell → Type 0 = λ l. (b : ℕ) → b < length l → IsSizedCell (cell_at l b) in
    let len : length (held_after self.base.items self.calls.items).now ≡ length self.base.items =
    sym (ap length self.present) ∙ self.whole in (
      ap (λ l. picked (within (length self.base.items) (held_after self.base.items self.calls.items).may) l
          c.args.picks.now) base,
      ap length base ∙ len,
      subst Sized (sym base) (λ b low. sized_now self.base.items self.calls.items self.sized b (omega arith)),
    )

pub loop-pick-preserved : goal.loop-pick-preserved
loop-pick-preserved c =
    let i = c.loop-pick.invariant in
    let self = c.args.self.now in
    let may = within (length self.base.items) (held_after self.base.items self.calls.items).may in
    let len = length-set c.loop-pick.base.items
    (get_or c.args.picks.now c.loop-pick.pick-index _).block c.version.result in (
      picked_more may c.loop-pick.base.items c.args.picks.now c.loop-pick.pick-index _ c.version.result
          c.loop-pick-test.true c.version.ensures.value ∙ i.0,
      len ∙ i.1,
      sized_set c.loop-pick.base.items _ c.version.result c.version.ensures.sized i.2,
    )
