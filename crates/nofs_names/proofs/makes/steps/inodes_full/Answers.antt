use Rattle.std.proofs.Common.{ℕ, ap}
use Rattle.nofs_history.specs.declared.machine.replies.Refusal.TheVariants as refusal
use Rattle.nofs_names.proofs.makes.steps.inodes_full.Goals as goal

pub returns : goal.returns
returns c = (
  c.next_inode.result,
  ap (λ (n : ℕ). refusal.InodesFull n c.next_inode.result) c.count.ensures,
  c.next_inode.ensures.range,
  λ W s fits.
      c.next_inode.ensures.next W s fits,
)
