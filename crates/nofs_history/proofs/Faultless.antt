-- No refusal that a row names is a fault of the device, and no answer is.
use Rattle.std.proofs.Common.{◌≡◌, ℕ, ◌-◌, Bool, true, false, cond, not, List, Option, Some, None, refl}
use Rattle.nofs_dirent.specs.declared.entry.Entry.{Entry}
use Rattle.nofs_model.specs.Files.{FileState, entry_at}
use Rattle.nofs_model.specs.declared.image.value.Value.{Value}
use Rattle.nofs_model.specs.declared.image.value.Value.TheVariants.{Hole, Bytes, Lost}
use Rattle.nofs_history.specs.Search.{least_from, first_of}
use Rattle.nofs_history.specs.Machine.{found, value_of, is_hole, is_lost, link_to, generation_of}
use Rattle.nofs_history.specs.Faults.{is_fault}
use Rattle.nofs_history.specs.World.{World}
use Rattle.nofs_history.specs.Refusals.{rows}
use Rattle.nofs_history.specs.Answers.{found_file, found_entry, found_reply, dropped_entry, dropped_reply}
use Rattle.nofs_history.specs.Answers.{lines_in_slot, listed_reply, got_reply, stat_file, reply_of}
use Rattle.nofs_history.specs.declared.machine.history.Claims.{Claims}
use Rattle.nofs_history.specs.declared.machine.replies.NameLine.{NameLine}
use Rattle.nofs_history.specs.declared.machine.steps.Step.{Step}
use Rattle.nofs_history.specs.declared.machine.steps.Step.TheVariants as step
use Rattle.nofs_history.specs.declared.machine.replies.Reply.TheVariants as reply
use Rattle.nofs_history.specs.declared.machine.replies.Refusal.{Refusal}
use Rattle.nofs_history.specs.declared.machine.replies.Refusal.TheVariants as refusal
use Rattle.nofs_history.proofs.Rows.{Such, AllSuch, IsNamed, first-such, all-such, rows-named}

-- No row is a fault of the device

-- not a fault
abbrev pub NoFault : Refusal → Type 0
NoFault why = is_fault (reply.Refused why) ≡ false

abbrev pub FaultFree : Option Refusal → Type 0
FaultFree o = Such NoFault o

pub first-free : (os : List (Option Refusal)) → AllSuch NoFault os → FaultFree (first_of os)
first-free os a = first-such NoFault os a

named-free : (V : World) (why : Refusal) → IsNamed V why → NoFault why
named-free V refusal.ReadFault n = absurd n
named-free V refusal.WriteFault n = absurd n
named-free V _ n = refl

pub rows-free : (W V : World) (s : Step) → AllSuch NoFault (rows W V s)
rows-free W V s = all-such (IsNamed V) NoFault (named-free V) (rows W V s) (rows-named W V s)

-- nor is an answer

listed : (lost : Bool) (k : ℕ) (names : List NameLine)
    → is_fault (cond lost (reply.LostNames k) (reply.Names k names)) ≡ false
listed true k names = refl
listed false k names = refl

pub answer-free : (W : World) (s : Step) (c : Claims) → is_fault (reply_of W s c) ≡ false
answer-free W (step.Look d g name) c = from (found W.files d name)
  where
    file : (i : ℕ) (o : Option FileState) → is_fault (found_file i o) ≡ false
    file i None = refl
    file i (Some f) = refl

    entry : (o : Option Entry) → is_fault (found_entry W.files o) ≡ false
    entry None = refl
    entry (Some e) = file e.inode (W.files e.inode)

    from : (o : Option ℕ) → is_fault (found_reply W.files d o) ≡ false
    from None = refl
    from (Some e) = entry (entry_at W.files d e)
answer-free W (step.Make d g name kind) c = refl
answer-free W (step.Link d g name i of) c = refl
answer-free W (step.Drop d g name) c = from (found W.files d name)
  where
    entry : (e : ℕ) (o : Option Entry)
        → is_fault (dropped_entry W.files (link_to d e (generation_of W.files d)) o) ≡ false
    entry e None = refl
    entry e (Some x) = refl

    from : (o : Option ℕ) → is_fault (dropped_reply W.files d o) ≡ false
    from None = refl
    from (Some e) = entry e (entry_at W.files d e)
answer-free W (step.Rename d g old new) c = refl
answer-free W (step.List d g k) c = from (least_from (λ l. not (is_hole (value_of W.files d l))) k (72 - k))
  where
    from : (o : Option ℕ) → is_fault (listed_reply W.files d o) ≡ false
    from None = refl
    from (Some l) = listed (is_lost (value_of W.files d l)) l (lines_in_slot W.files d l)
answer-free W (step.Get i g k) c = go (value_of W.files i k)
  where
    go : (v : Value) → is_fault (got_reply v) ≡ false
    go Hole = refl
    go (Bytes content) = refl
    go Lost = refl
answer-free W (step.Put i g k at bytes) c = refl
answer-free W (step.Resize i g size) c = refl
answer-free W (step.Stat i g) c = go (W.files i)
  where
    go : (o : Option FileState) → is_fault (stat_file W.files i o) ≡ false
    go None = refl
    go (Some f) = refl
answer-free W (step.Flush i g) c = refl
answer-free W (step.SeeInode i) c = refl
answer-free W (step.SeeBlock p) c = refl
