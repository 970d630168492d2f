-- The steps whose replies have the content of a slot, and those that found no memory.
use Rattle.std.proofs.Common.{◌≡◌, ◌⊎◌, inl, inr, ℕ, true, false, List, refl, subst}
use Rattle.std.specs.Prelude.{Result, Ok, Err, OnOk}
use Rattle.nofs_disk.specs.Disk.{DiskState}
use Rattle.nofs_history.specs.Claims.{no_claims}
use Rattle.nofs_history.specs.Faults.{is_fault}
use Rattle.nofs_history.specs.Steps.{Fits, is_out_of_memory}
use Rattle.nofs_history.specs.declared.machine.history.Claims.{Claims}
use Rattle.nofs_history.specs.declared.machine.replies.Reply.{Reply}
use Rattle.nofs_history.specs.declared.machine.replies.Refusal.TheVariants as refusal
use Rattle.nofs_state.specs.Cores.Steps.{Goes}
use Rattle.nofs_state.specs.declared.books.maps.Books.{Books}
use Rattle.nofs_history.specs.declared.machine.replies.NameLine.{NameLine}
use Rattle.nofs_history.specs.declared.machine.replies.Refusal.{Refusal}
use Rattle.nofs_history.specs.declared.machine.replies.Reply.TheVariants as reply
use Rattle.nofs_history.specs.declared.machine.steps.Step.{Step}
use Rattle.nofs_history.specs.declared.machine.steps.Step.TheVariants as step
use Rattle.nofs_files.specs.Reads.{answers_whole, flush_answer}
use Rattle.nofs_shared.specs.Acts.Contents.{reads_content}
use Rattle.nofs_shared.specs.Acts.Sees.{is_see}
use Rattle.nofs_shared.specs.Mount.Flushes.{is_whole_answer}

-- names answer a List, and bytes a Get
pub names-read : (s : Step) (k : ℕ) (lines : List NameLine) → Fits s (reply.Names k lines) → reads_content s ≡ true
names-read (step.List d g from) k lines fits = refl
names-read (step.Get i g at) k lines fits = refl
names-read _ k lines fits = absurd fits

pub bytes-read : (s : Step) (bytes : List ℕ) → Fits s (reply.Bytes bytes) → reads_content s ≡ true
bytes-read (step.List d g from) bytes fits = refl
bytes-read (step.Get i g at) bytes fits = refl
bytes-read _ bytes fits = absurd fits

-- a step that examines an element is none of these
pub see-reads-none : (s : Step) → is_see s ≡ true → reads_content s ≡ true → ⊥
see-reads-none (step.SeeInode i) see reads = cc reads
see-reads-none (step.SeeBlock b) see reads = cc reads
see-reads-none _ see reads = cc see

-- and memory is not wanting for it
pub see-has-memory : (s : Step) (r : Reply) → is_see s ≡ true → (is_see s ≡ true → is_out_of_memory r ≡ false)
    → ((reads_content s ≡ true) × (is_fault r ≡ false)) ⊎ (is_out_of_memory r ≡ true) → ⊥
see-has-memory s r see has (inl reads) = see-reads-none s see reads.0
see-has-memory s r see has (inr mem) = let had = has see in cc (had, mem)

-- a step without memory, or without memory for its entry, goes as one that found none
memory-is : (r : Reply) → is_out_of_memory r ≡ true → r ≡ reply.Refused refusal.OutOfMemory
memory-is (reply.Refused refusal.OutOfMemory) e = refl
memory-is _ e = cc e

pub goes-unmade : (old new : DiskState) (k l : Books) (s : Step) (c : Claims) (r : Reply) → Goes old k new l s c r
    → (reads_content s ≡ true → is_fault r ≡ false → Goes old k new l s no_claims (reply.Refused refusal.OutOfMemory))
    → ((reads_content s ≡ true) × (is_fault r ≡ false)) ⊎ (is_out_of_memory r ≡ true)
    → (of : Claims) × Goes old k new l s of (reply.Refused refusal.OutOfMemory)
goes-unmade old new k l s c r goes reads (inl content) = (no_claims, reads content.0 content.1)
goes-unmade old new k l s c r goes reads (inr mem) =
    (c, subst (λ (x : Reply). Goes old k new l s c x) (memory-is r mem) goes)

-- a Flush that was made has settled the disk
pub flush-settles : (P : Type 0) (done : Result (Unit {0}) Refusal) → OnOk done P → flush_answer done ≡ reply.Flushed
    → P
flush-settles P (Ok u) settled is = settled
flush-settles P (Err why) settled is = absurd (cc is)

-- and one of the whole disk was made, or failed, or found no memory, or the mount is stopped
pub flush-answers : (done : Result (Unit {0}) Refusal) → answers_whole done ≡ true
    → is_whole_answer (flush_answer done) ≡ true
flush-answers (Ok u) e = refl
flush-answers (Err refusal.WriteFault) e = refl
flush-answers (Err refusal.OutOfMemory) e = refl
flush-answers (Err refusal.Stopped) e = refl
flush-answers (Err _) e = absurd (cc e)
