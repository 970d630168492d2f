use Rattle.std.proofs.Common.{ap, arith, not, refl, sym, ◌∙◌}
use Rattle.nofs_memdisk.specs.Parts.{parts_of}
use Rattle.nofs_versions.proofs.OnMemory.Calls.{flushes}
use Rattle.nofs_memdisk.proofs.OnMemory.Calls.{flush_holds}
use Rattle.nofs_versions.proofs.OnMemory.Images.{leaves_flush}
use Rattle.nofs_memdisk.proofs.OnMemory.Parts.{counted_none, counted_some, made_flush, next-rises}
use Rattle.nofs_memdisk.proofs.memory.MemDiskDisk.flush.Goals as goal

pub invariant_of-self : goal.invariant_of-self
invariant_of-self c =
    flush_holds c.args.self.now c.requires c.keep.ensures.capacity c.args.self.now.counted _ c.keep.ensures.calls refl

pub invariant_of-self-else-settles : goal.invariant_of-self-else-settles
invariant_of-self-else-settles c =
    let old = c.args.self.now in
    let rises = next-rises old.faults c.count_fault.new.faults old.counted c.count_fault.ensures in
    flush_holds old c.requires c.keep.ensures.capacity rises.2 _ c.keep.ensures.calls refl

pub returns-then-settles-clause-does : goal.returns-then-settles-clause-does
returns-then-settles-clause-does c =
    let old = c.args.self.now in
    rw c.keep.ensures.calls
    (flushes old.start old.base.items old.calls.items _ _ _ _ _ _ (omega arith) (omega arith) c.if-settles.true tt refl)

pub returns-else-settles-clause-does : goal.returns-else-settles-clause-does
returns-else-settles-clause-does c =
    let old = c.args.self.now in
    let rises = next-rises old.faults c.count_fault.new.faults old.counted c.count_fault.ensures in
    rw c.keep.ensures.calls (flushes old.start old.base.items old.calls.items _ _ _ _ _ _ (omega arith) rises.0 tt
    (c.if-settles.false, rises.1) tt)

pub returns-then-settles-clause-made : goal.returns-then-settles-clause-made
returns-then-settles-clause-made c =
    made_flush (parts_of c.args.self.now) _ c.deref.ensures.value
    c.fault_at.ensures c.is_none-settles.ensures c.keep.ensures.calls
    c.saturating_add-self.ensures (sym
    (counted_none c.fault_at.result _ (c.is_none-settles.ensures ∙ ap not c.if-settles.true)))

pub returns-then-settles-clause-leaves : goal.returns-then-settles-clause-leaves
returns-then-settles-clause-leaves c image picks = rw c.keep.ensures.calls (leaves_flush _ _ _ _ image picks)

pub returns-else-settles-clause-made : goal.returns-else-settles-clause-made
returns-else-settles-clause-made c =
    made_flush (parts_of c.args.self.now) _ c.deref.ensures.value
    c.fault_at.ensures c.is_none-settles.ensures c.keep.ensures.calls
    c.saturating_add-self.ensures (c.count_fault.ensures ∙ sym
    (counted_some c.fault_at.result _ (c.is_none-settles.ensures ∙ ap not c.if-settles.false)))

pub returns-else-settles-clause-leaves : goal.returns-else-settles-clause-leaves
returns-else-settles-clause-leaves c image picks = rw c.keep.ensures.calls (leaves_flush _ _ _ _ image picks)
