use Rattle.std.proofs.Common.{arith, refl, sym, ◌∙◌}
use Rattle.nofs_memdisk.specs.Parts.{parts_of}
use Rattle.nofs_versions.proofs.OnMemory.Calls.{writes}
use Rattle.nofs_memdisk.proofs.OnMemory.Calls.{write_holds}
use Rattle.nofs_versions.proofs.OnMemory.Images.{leaves_write}
use Rattle.nofs_memdisk.proofs.OnMemory.Parts.{counted_none, counted_some, made_write, next-rises, taken_if_none}
use Rattle.nofs_memdisk.proofs.memory.MemDiskDisk.write.Goals as goal

pub invariant_of-self : goal.invariant_of-self
invariant_of-self c =
    let old = c.args.self.now in
    write_holds old c.requires.spare c.keep.ensures.capacity
    (next-rises old.faults c.count_fault.new.faults old.counted c.count_fault.ensures).2 _ _ _ c.keep.ensures.calls
    c.put.ensures c.note_sizes.ensures

pub invariant_of-self-else-is_some : goal.invariant_of-self-else-is_some
invariant_of-self-else-is_some c =
    let old = c.args.self.now in
    write_holds old c.requires.spare c.keep.ensures.capacity old.counted _ _ _ c.keep.ensures.calls
    c.put.ensures c.note_sizes.ensures

pub returns-then-is_some-clause-does : goal.returns-then-is_some-clause-does
returns-then-is_some-clause-does c =
    let old = c.args.self.now in
    let rises = next-rises old.faults c.count_fault.new.faults old.counted c.count_fault.ensures in
    rw c.keep.ensures.calls (writes old.start old.base.items old.calls.items _ _ _ _ _ _ _ _ c.requires.block
    (omega arith) rises.0 tt rises.1 tt)

pub returns-clause-does : goal.returns-clause-does
returns-clause-does c =
    let old = c.args.self.now in
    let taken = c.unwrap_or-taken.ensures ∙ taken_if_none c.fault_at-fault.result
    (sym c.is_some.ensures ∙ c.if-is_some.false) in
    rw c.keep.ensures.calls (writes old.start old.base.items old.calls.items _ _ _ _ _ _ _ _ c.requires.block
    (omega arith) (omega arith) taken tt refl)

pub returns-then-is_some-clause-made : goal.returns-then-is_some-clause-made
returns-then-is_some-clause-made c =
    made_write (parts_of c.args.self.now) _ _ _ c.deref.ensures.value
    c.fault_at-fault.ensures c.unwrap_or-taken.ensures c.keep.ensures.calls
    c.saturating_add-self.ensures (c.count_fault.ensures ∙ sym
    (counted_some c.fault_at-fault.result _ (sym c.is_some.ensures ∙ c.if-is_some.true)))

pub returns-clause-made : goal.returns-clause-made
returns-clause-made c =
    made_write (parts_of c.args.self.now) _ _ _ c.deref.ensures.value
    c.fault_at-fault.ensures c.unwrap_or-taken.ensures c.keep.ensures.calls
    c.saturating_add-self.ensures (sym
    (counted_none c.fault_at-fault.result _ (sym c.is_some.ensures ∙ c.if-is_some.false)))

pub returns-then-is_some-clause-leaves : goal.returns-then-is_some-clause-leaves
returns-then-is_some-clause-leaves c = rw c.keep.ensures.calls (leaves_write _ _ _ _ _ _)

pub returns-clause-leaves : goal.returns-clause-leaves
returns-clause-leaves c = rw c.keep.ensures.calls (leaves_write _ _ _ _ _ _)
