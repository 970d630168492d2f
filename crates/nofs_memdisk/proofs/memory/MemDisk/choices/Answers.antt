use Rattle.std.proofs.Common.{arith, ◌∙◌, refl}
use Rattle.nofs_versions.specs.Memory.{held_after}
use Rattle.nofs_versions.proofs.OnSearch.{count_seen}
use Rattle.nofs_versions.proofs.OnMemory.Images.{leaves_rest}
use Rattle.nofs_memdisk.proofs.memory.MemDisk.choices.Goals as goal

pub loop-call-init : goal.loop-call-init
unfolding held_after
loop-call-init c = (refl, omega arith)

pub loop-call-preserved : goal.loop-call-preserved
loop-call-preserved c =
    let v = c.choices_after-count.ensures in
    let t = c.loop-call-test.true in
    let e = c.deref-call-items.ensures in (
      v.value ∙ count_seen c.args.self.now.base.items _ c.args.self.now.calls.items c.loop-call.call-index c.args.block
          c.loop-call.count _ e.value t
          c.loop-call.invariant.0,
      let m = c.loop-call.invariant.1 in omega arith,
    )

pub returns-clause-leaves : goal.returns-clause-leaves
returns-clause-leaves c image picks =
    leaves_rest c.args.self.now.start c.args.self.now.base.items c.args.self.now.calls.items image picks
