use Rattle.std.proofs.Common.{◌∙◌, refl, sym, inr, arith, ap}
use Rattle.nofs_disk.specs.Chains.{StaysButFaults-refl}
use Rattle.nofs_history.specs.declared.machine.replies.Refusal.TheVariants as refusal
use Rattle.nofs_history.specs.declared.machine.steps.Step.TheVariants as step
use Rattle.nofs_state.proofs.OnCores.Replies.{goes-stopped}
use Rattle.nofs_state.proofs.OnCores.FirstRows.{early-comes, early-none, early-stopped}
use Rattle.nofs_state.specs.declared.writes.ends.Ended.{Ended}
use Rattle.nofs_files.proofs.OnPuts.LostBlocks.{ended}
use Rattle.nofs_files.proofs.OnPuts.Rows.{after, goes-bad, goes-lost, goes-past-end, goes-too-large}
use Rattle.nofs_files.proofs.OnPuts.Rows.{goes-unopened-put, goes-unread, pass-after}
use Rattle.nofs_files.proofs.OnPuts.Rows.{reach-after, reach-hole}
use Rattle.nofs_files.proofs.OnPuts.Rooms.{begun}
use Rattle.nofs_files.proofs.puts.steps.put_with_room.Goals as goal
use Rattle.nofs_files.specs.Puts.{put_answer, step_of_put}
use Rattle.nofs_files.proofs.OnReads.FirstRows.{put-bad, put-large, put-passes}

pub returns-then-core-clause-goes : goal.returns-then-core-clause-goes
returns-then-core-clause-goes g c = ended c.refused.ensures
    (goes-stopped (g.D.Disk.state c.args.core.now.disk) (g.D.Disk.state c.args.core.now.disk) c.args.core.now.books
    (step.Put c.args.put.now.inode c.args.put.now.generation c.args.put.now.slot c.args.put.now.at
    c.args.put.now.bytes.now)
    (g.met.D.Disk.is_disk c.args.core.now.disk) c.requires.safe
    (StaysButFaults-refl (g.D.Disk.state c.args.core.now.disk)) refl c.if-core.true)

pub returns-then-is_bad_range-clause-goes : goal.returns-then-is_bad_range-clause-goes
returns-then-is_bad_range-clause-goes g c = ended c.refused-then-is_bad_range.ensures
    (goes-bad (begun c.args.put.now (g.met.D.Disk.is_disk c.args.core.now.disk) c.requires.safe c.if-core.false)
    (sym c.is_bad_range.ensures ∙ c.if-is_bad_range.true))

pub returns-then-put-slots_of-clause-goes : goal.returns-then-put-slots_of-clause-goes
returns-then-put-slots_of-clause-goes g c = ended c.refused-then-put-slots_of.ensures
    (goes-too-large (begun c.args.put.now (g.met.D.Disk.is_disk c.args.core.now.disk) c.requires.safe c.if-core.false)
    (sym c.is_bad_range.ensures ∙ c.if-is_bad_range.false)
    (let e = c.slots_of.ensures in let h = c.if-put-slots_of.true in omega (arith, e, h)))

pub returns-in-Err-clause-goes : goal.returns-in-Err-clause-goes
returns-in-Err-clause-goes g c = ended c.refused-in-Err.ensures
    (goes-unopened-put
    (begun c.args.put.now (g.met.D.Disk.is_disk c.args.core.now.disk) c.requires.safe c.if-core.false)
    (sym c.is_bad_range.ensures ∙ c.if-is_bad_range.false) c.slots_of.ensures c.if-put-slots_of.false
    c.open_file.ensures c.in-Err.is)

pub returns-then-is_past_end-clause-goes : goal.returns-then-is_past_end-clause-goes
returns-then-is_past_end-clause-goes g c = ended c.refused-then-is_past_end.ensures
    (goes-past-end (begun c.args.put.now (g.met.D.Disk.is_disk c.args.core.now.disk) c.requires.safe c.if-core.false)
    (sym c.is_bad_range.ensures ∙ c.if-is_bad_range.false) c.slots_of.ensures c.if-put-slots_of.false
    c.in-Ok.ensures (sym c.is_past_end.ensures ∙ c.if-is_past_end.true))

pub returns-in-Err-find_content-clause-goes : goal.returns-in-Err-find_content-clause-goes
returns-in-Err-find_content-clause-goes g c = ended c.refused-in-Err-find_content.ensures
    (goes-unread (begun c.args.put.now (g.met.D.Disk.is_disk c.args.core.now.disk) c.requires.safe c.if-core.false)
    (sym c.is_bad_range.ensures ∙ c.if-is_bad_range.false) c.slots_of.ensures c.if-put-slots_of.false
    c.in-Ok.ensures c.in-Err-find_content.ensures)

pub put_in_place-requires-clause-rows : goal.put_in_place-requires-clause-rows
put_in_place-requires-clause-rows g c =
    pass-after (begun c.args.put.now (g.met.D.Disk.is_disk c.args.core.now.disk) c.requires.safe c.if-core.false)
    (sym c.is_bad_range.ensures ∙ c.if-is_bad_range.false) c.slots_of.ensures c.if-put-slots_of.false
    c.in-Ok.ensures c.in-Ok-find_content.ensures (sym c.is_past_end.ensures ∙ c.if-is_past_end.false) c.in-Holds.is

pub returns-then-is_lost_under-clause-goes : goal.returns-then-is_lost_under-clause-goes
returns-then-is_lost_under-clause-goes g c = ended c.refused-then-is_lost_under.ensures
    (goes-lost (begun c.args.put.now (g.met.D.Disk.is_disk c.args.core.now.disk) c.requires.safe c.if-core.false)
    (sym c.is_bad_range.ensures ∙ c.if-is_bad_range.false) c.slots_of.ensures c.if-put-slots_of.false
    c.in-Ok.ensures c.in-Ok-find_content.ensures (sym c.is_past_end.ensures ∙ c.if-is_past_end.false) c.in-Lost.is
    (sym c.is_lost_under.ensures ∙ c.if-is_lost_under.true))

pub put_new_block-requires-in-Lost-clause-rows : goal.put_new_block-requires-in-Lost-clause-rows
put_new_block-requires-in-Lost-clause-rows g c =
    reach-after (begun c.args.put.now (g.met.D.Disk.is_disk c.args.core.now.disk) c.requires.safe c.if-core.false)
    (sym c.is_bad_range.ensures ∙ c.if-is_bad_range.false) c.slots_of.ensures c.if-put-slots_of.false
    c.in-Ok.ensures c.in-Ok-find_content.ensures (sym c.is_past_end.ensures ∙ c.if-is_past_end.false)
    (inr (sym c.is_lost_under.ensures ∙ c.if-is_lost_under.false))

pub returns-in-Holds-clause-goes : goal.returns-in-Holds-clause-goes
returns-in-Holds-clause-goes g c =
    after c.open_file.ensures.stays c.find_content.ensures.stays
    (c.in-Ok-find_content.ensures.no_fault ∙ c.in-Ok.ensures.no_fault refl)
    c.put_in_place.ensures

pub returns-in-Hole-clause-goes : goal.returns-in-Hole-clause-goes
returns-in-Hole-clause-goes g c =
    after c.open_file.ensures.stays c.find_content.ensures.stays
    (c.in-Ok-find_content.ensures.no_fault ∙ c.in-Ok.ensures.no_fault refl)
    c.put_new_block.ensures

pub returns-else-is_lost_under-clause-goes : goal.returns-else-is_lost_under-clause-goes
returns-else-is_lost_under-clause-goes g c =
    after c.open_file.ensures.stays c.find_content.ensures.stays
    (c.in-Ok-find_content.ensures.no_fault ∙ c.in-Ok.ensures.no_fault refl)
    c.put_new_block-in-Lost.ensures

pub put_new_block-requires-clause-rows : goal.put_new_block-requires-clause-rows
put_new_block-requires-clause-rows g c =
    reach-hole (begun c.args.put.now (g.met.D.Disk.is_disk c.args.core.now.disk) c.requires.safe c.if-core.false)
    (sym c.is_bad_range.ensures ∙ c.if-is_bad_range.false) c.slots_of.ensures c.if-put-slots_of.false
    c.in-Ok.ensures c.in-Ok-find_content.ensures (sym c.is_past_end.ensures ∙ c.if-is_past_end.false) c.in-Hole.is

-- what needs no disk to be refused
pub returns-then-core-clause-early : goal.returns-then-core-clause-early
returns-then-core-clause-early g c =
    early-stopped c.args.core.now.books (step_of_put c.args.put.now) (put_answer c.refused.result.result) c.if-core.true

pub returns-then-is_bad_range-clause-early : goal.returns-then-is_bad_range-clause-early
returns-then-is_bad_range-clause-early g c =
    early-comes c.args.core.now.books (step_of_put c.args.put.now)
    (put_answer c.refused-then-is_bad_range.result.result) refusal.BadRange
    (put-bad c.args.core.now.books.at c.args.put.now.inode c.args.put.now.generation c.args.put.now.slot
    c.args.put.now.at c.args.put.now.bytes.now (sym c.is_bad_range.ensures ∙ c.if-is_bad_range.true))
    (ap (λ (e : Ended). put_answer e.result) c.refused-then-is_bad_range.ensures)

pub returns-then-put-slots_of-clause-early : goal.returns-then-put-slots_of-clause-early
returns-then-put-slots_of-clause-early g c =
    early-comes c.args.core.now.books (step_of_put c.args.put.now)
    (put_answer c.refused-then-put-slots_of.result.result) refusal.TooLarge
    (put-large c.args.core.now.books.at c.args.put.now.inode c.args.put.now.generation c.args.put.now.slot
    c.args.put.now.at c.args.put.now.bytes.now (sym c.is_bad_range.ensures ∙ c.if-is_bad_range.false)
    (let e = c.slots_of.ensures in let h = c.if-put-slots_of.true in omega (arith, e, h)))
    (ap (λ (e : Ended). put_answer e.result) c.refused-then-put-slots_of.ensures)

pub returns-in-Err-clause-early : goal.returns-in-Err-clause-early
returns-in-Err-clause-early g c =
    early-none c.args.core.now.books (step_of_put c.args.put.now) (put_answer c.refused-in-Err.result.result)
    (put-passes c.args.core.now.books.at c.args.put.now.inode c.args.put.now.generation c.args.put.now.slot
    c.args.put.now.at c.args.put.now.bytes.now (sym c.is_bad_range.ensures ∙ c.if-is_bad_range.false)
    (let e = c.slots_of.ensures in let h = c.if-put-slots_of.false in omega (arith, e, h)))

pub returns-then-is_past_end-clause-early : goal.returns-then-is_past_end-clause-early
returns-then-is_past_end-clause-early g c =
    early-none c.args.core.now.books (step_of_put c.args.put.now) (put_answer c.refused-then-is_past_end.result.result)
    (put-passes c.args.core.now.books.at c.args.put.now.inode c.args.put.now.generation c.args.put.now.slot
    c.args.put.now.at c.args.put.now.bytes.now (sym c.is_bad_range.ensures ∙ c.if-is_bad_range.false)
    (let e = c.slots_of.ensures in let h = c.if-put-slots_of.false in omega (arith, e, h)))

pub returns-in-Err-find_content-clause-early : goal.returns-in-Err-find_content-clause-early
returns-in-Err-find_content-clause-early g c =
    early-none c.args.core.now.books (step_of_put c.args.put.now)
    (put_answer c.refused-in-Err-find_content.result.result)
    (put-passes c.args.core.now.books.at c.args.put.now.inode c.args.put.now.generation c.args.put.now.slot
    c.args.put.now.at c.args.put.now.bytes.now (sym c.is_bad_range.ensures ∙ c.if-is_bad_range.false)
    (let e = c.slots_of.ensures in let h = c.if-put-slots_of.false in omega (arith, e, h)))

pub returns-then-is_lost_under-clause-early : goal.returns-then-is_lost_under-clause-early
returns-then-is_lost_under-clause-early g c =
    early-none c.args.core.now.books (step_of_put c.args.put.now)
    (put_answer c.refused-then-is_lost_under.result.result)
    (put-passes c.args.core.now.books.at c.args.put.now.inode c.args.put.now.generation c.args.put.now.slot
    c.args.put.now.at c.args.put.now.bytes.now (sym c.is_bad_range.ensures ∙ c.if-is_bad_range.false)
    (let e = c.slots_of.ensures in let h = c.if-put-slots_of.false in omega (arith, e, h)))

pub returns-in-Holds-clause-early : goal.returns-in-Holds-clause-early
returns-in-Holds-clause-early g c =
    early-none c.args.core.now.books (step_of_put c.args.put.now) (put_answer c.put_in_place.result.result)
    (put-passes c.args.core.now.books.at c.args.put.now.inode c.args.put.now.generation c.args.put.now.slot
    c.args.put.now.at c.args.put.now.bytes.now (sym c.is_bad_range.ensures ∙ c.if-is_bad_range.false)
    (let e = c.slots_of.ensures in let h = c.if-put-slots_of.false in omega (arith, e, h)))

pub returns-in-Hole-clause-early : goal.returns-in-Hole-clause-early
returns-in-Hole-clause-early g c =
    early-none c.args.core.now.books (step_of_put c.args.put.now) (put_answer c.put_new_block.result.result)
    (put-passes c.args.core.now.books.at c.args.put.now.inode c.args.put.now.generation c.args.put.now.slot
    c.args.put.now.at c.args.put.now.bytes.now (sym c.is_bad_range.ensures ∙ c.if-is_bad_range.false)
    (let e = c.slots_of.ensures in let h = c.if-put-slots_of.false in omega (arith, e, h)))

pub returns-else-is_lost_under-clause-early : goal.returns-else-is_lost_under-clause-early
returns-else-is_lost_under-clause-early g c =
    early-none c.args.core.now.books (step_of_put c.args.put.now) (put_answer c.put_new_block-in-Lost.result.result)
    (put-passes c.args.core.now.books.at c.args.put.now.inode c.args.put.now.generation c.args.put.now.slot
    c.args.put.now.at c.args.put.now.bytes.now (sym c.is_bad_range.ensures ∙ c.if-is_bad_range.false)
    (let e = c.slots_of.ensures in let h = c.if-put-slots_of.false in omega (arith, e, h)))
