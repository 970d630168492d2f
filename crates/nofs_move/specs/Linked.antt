-- Which of the steps of one run of a move are which.
use Rattle.std.specs.Prelude.{◌≡◌, ◌≢◌, ℕ, ◌<◌, ◌⊎◌, Bool, true, false, ◌&&◌, ◌||◌, not, List, length, Some, slice_get}
use Rattle.nofs_inode.specs.declared.inode.FileKind.{FileKind}
use Rattle.nofs_history.specs.Machine.{is_refused, is_write_fault}
use Rattle.nofs_history.specs.Steps.{Made}
use Rattle.nofs_history.specs.declared.machine.steps.Step.{Step}
use Rattle.nofs_history.specs.declared.machine.steps.Step.TheVariants as step
use Rattle.nofs_history.specs.declared.machine.replies.Reply.{Reply}
use Rattle.nofs_history.specs.declared.machine.replies.Reply.TheVariants as reply
use Rattle.nofs_client.specs.declared.task.commands.Path.{Path}
use Rattle.nofs_client.specs.Task.Places.{last_name}

-- whether a step never changes a file or a directory
abbrev pub only_looks : Step → Bool
only_looks (step.Look d g name) = true
only_looks (step.Flush i g) = true
only_looks (step.SeeInode i) = true
only_looks (step.SeeBlock p) = true
only_looks _ = false

-- whether a step that was made changed nothing: it never does, or it was refused before any write
abbrev pub is_idle : Made → Bool
is_idle m = only_looks m.0 || (is_refused m.1 && not (is_write_fault m.1))

-- after Link the second flush succeeded, and Drop came after it, whatever it was answered
pub record DropMade (made : List Made) (link second drop d dg : ℕ) (name : List ℕ) (i g : ℕ) : Type 0 where
  pub after_link : link < second
  pub before_drop : second < drop
  pub flushed : slice_get made second ≡ Some (step.Flush i g, reply.Flushed)
  pub answer : Reply
  pub dropped : slice_get made drop ≡ Some (step.Drop d dg name, answer)

-- The steps of a move that linked its file, each by its number among them, counted from 0: the Look that found the file
-- (i, g) by its old name in (d, dg), the first flush, the Link of the new name in (d2, dg2), and, where they came, the
-- second flush and Drop
pub record LinkedSteps (from to : Path) (made : List Made) : Type 0 where
  pub d : ℕ
  pub dg : ℕ
  pub d2 : ℕ
  pub dg2 : ℕ
  pub i : ℕ
  pub g : ℕ
  pub kind : FileKind
  pub look : ℕ
  pub flush : ℕ
  pub link : ℕ
  pub second : ℕ
  pub drop : ℕ
  pub flush_after : look < flush
  pub link_after : flush < link
  pub looked : slice_get made look
      ≡ Some (step.Look d dg (last_name from), reply.Found (record { inode = i; generation = g; kind = kind }))
  pub flushed : slice_get made flush ≡ Some (step.Flush i g, reply.Flushed)
  pub linked : slice_get made link ≡ Some (step.Link d2 dg2 (last_name to) i g, reply.Linked)
  -- Drop has not come, and `drop` is past the last step; or it came after the second flush
  pub ends : (drop ≡ length made) ⊎ DropMade made link second drop d dg (last_name from) i g
  -- each other step after Look changed nothing: a Look of the new path, an examination, a flush, or one that was
  -- refused
  pub others : (k : ℕ) (m : Made) → look < k → slice_get made k ≡ Some m → k ≢ link → k ≢ drop → is_idle m ≡ true
