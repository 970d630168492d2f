-- The last slot, with zeros behind the old end.
use Rattle.std.proofs.Common.{◌≡◌, IfOk, subst, Option, ◌∙◌, min}
use Rattle.nofs_model.specs.declared.image.value.Value.{Value}
use Rattle.nofs_history.specs.Machine as machine
use Rattle.nofs_history.specs.Accepted.Files.{kept_files_of}
use Rattle.nofs_history.proofs.OnAccepted.Resized.{end-given}
use Rattle.nofs_history.proofs.accepted.given.slots.size_given.Goals as goal

pub returns-then-old-ne0 : goal.returns-then-old-ne0
returns-then-old-ne0 c =
    let slots : c.min-slots.result ≡ min
    (machine.slots_in (machine.size_of (kept_files_of c.args.files.now) c.args.inode)) (machine.slots_in c.args.size) =
    c.min-slots.ensures ∙ (let a = c.slots_in.ensures in let o = c.size-old.ensures in let b = c.slots_in-2.ensures in
    (λ j. min (a j) (b j))
    ∙ (λ j. min (machine.slots_in (o j)) (machine.slots_in c.args.size))) in
    subst (λ (o : Option Value). IfOk c.end_given.result (λ it. it ≡ o))
    (end-given c.size-old.result
    (machine.size_of (kept_files_of c.args.files.now) c.args.inode) c.args.size c.args.slot c.min-slots.result
    (machine.value_of (kept_files_of c.args.files.now) c.args.inode c.args.slot) c.size-old.ensures slots
    c.if-slots-slot.false c.if-old-size.true
    c.if-slot-slots.true c.if-old-ne0.true)
    c.end_given.ensures
