-- Examples of steps and their answers, as they were worked by hand.
use Rattle.std.specs.Prelude.{◌≡◌, ℕ, ◌+◌, ◌^◌, true, false, List, [], ◌∷◌, ◌++◌, Some, None, if◌then◌else◌, map}
use Rattle.std.specs.Prelude.{nat_le, nat_lt, replicate}
use Rattle.nofs_ptrs.specs.Paths.{slot_limit}
use Rattle.nofs_disk.specs.Pointer.{null}
use Rattle.nofs_inode.specs.declared.inode.FileKind.TheVariants.{File}
use Rattle.nofs_dirent.specs.Entries.{spelled_entry}
use Rattle.nofs_model.specs.Files.{FileState}
use Rattle.nofs_model.specs.declared.image.value.Value.TheVariants.{Hole, Bytes, Lost}
use Rattle.nofs_history.specs.Machine.{link_to}
use Rattle.nofs_history.specs.World.{World}
use Rattle.nofs_history.specs.Claims.{no_claims}
use Rattle.nofs_history.specs.Since.{values_given}
use Rattle.nofs_history.specs.Next.{Next}
use Rattle.nofs_history.specs.declared.machine.history.Claims.{Claims}
use Rattle.nofs_history.specs.declared.machine.steps.Step.{Step}
use Rattle.nofs_history.specs.declared.machine.steps.Step.TheVariants as step
use Rattle.nofs_history.specs.declared.machine.replies.Reply.{Reply}
use Rattle.nofs_history.specs.declared.machine.replies.Reply.TheVariants as reply
use Rattle.nofs_history.specs.declared.machine.replies.Refusal.TheVariants as refusal
use Rattle.nofs_crashlaw.specs.Machine.Worlds.{links, no_links, first_slot, cell, directory, file, files}
use Rattle.nofs_crashlaw.specs.Machine.Worlds.{example_world, first_child_damaged, answer, world_after, without_claims}

-- in this world this step with these claims is answered so
pub record Example : Type 0 where
  pub world : World
  pub step : Step
  pub claims : Claims
  pub reply : Reply

abbrev pub example : World → Step → Reply → Example
example W s r = record { world = W; step = s; claims = no_claims; reply = r }

-- each of them is answered so
abbrev pub AreShown : List Example → Type 0
AreShown es = map (λ (e : Example). answer e.world e.step e.claims) es ≡ map (λ (e : Example). e.reply) es

-- The generation of inode 3 and that of inode 4
abbrev pub S3 : ℕ
S3 = 2 ^ 40 + 1

abbrev pub S4 : ℕ
S4 = 2 ^ 40 + 2

-- names
abbrev pub a : List ℕ
a = 97 ∷ []

abbrev pub b : List ℕ
b = 98 ∷ []

abbrev pub c : List ℕ
c = 99 ∷ []

-- the label file without content, and with some sizes and slots
abbrev pub label : FileState
label = file 2 no_links 0 (λ k. Hole)

abbrev pub named : FileState
named = file S3 (links (link_to 1 0 1) (link_to 0 0 0)) 0 (λ k. Hole)

-- a disk as it is made
abbrev pub empty : World
empty = example_world (files (λ k. Hole) label None None)

-- one file, /a
abbrev pub one : World
one = example_world (files (first_slot (cell (spelled_entry 3 S3 a))) label (Some named) None)

-- a name that leads to no file
abbrev pub dead : World
dead = example_world (files (first_slot (cell (spelled_entry 3 S3 a))) label None None)

-- one name twice
abbrev pub twice : World
twice = example_world (files (first_slot (cell (spelled_entry 3 S3 a ++ spelled_entry 4 S4 a))) label
    (Some (file S3 (links (link_to 1 0 1) (link_to 0 0 0)) 1 (λ k. Hole)))
    (Some (file S4 (links (link_to 1 1 1) (link_to 0 0 0)) 2 (λ k. Hole))))

-- a directory /a with the file /a/b in it
abbrev pub nested : World
nested = example_world (files (first_slot (cell (spelled_entry 3 S3 a))) label
    (Some (directory S3 (links (link_to 1 0 1) (link_to 0 0 0)) (first_slot (cell (spelled_entry 4 S4 b)))))
    (Some (file S4 (links (link_to 3 0 S3) (link_to 0 0 0)) 0 (λ k. Hole))))

-- a second back link that no entry has
abbrev pub stray : World
stray = example_world (files (first_slot (cell (spelled_entry 3 S3 a))) label
    (Some (file S3 (links (link_to 1 0 1) (link_to 1 1 1)) 0 (λ k. Hole))) None)

-- a file with all four names
abbrev pub four : World
four = example_world (files (first_slot (cell (spelled_entry 3 S3 a ++ spelled_entry 3 S3 b ++ spelled_entry 3 S3 c
    ++ spelled_entry 3 S3 (100 ∷ [])))) label
    (Some (file S3 (link_to 1 0 1 ∷ link_to 1 1 1 ∷ link_to 1 2 1 ∷ link_to 1 3 1 ∷ []) 0 (λ k. Hole))) None)

-- the root's slots are lost
abbrev pub broken : World
broken = example_world (files (λ k. Lost) label None None)

-- Names

abbrev pub name_examples : List Example
name_examples =
    example one (step.Look 1 1 a) (reply.Found (record { inode = 3; generation = S3; kind = File }))
    ∷ example one (step.Look 1 1 b) (reply.Refused refusal.Missing)
    ∷ example one (step.Look 3 S3 a) (reply.Refused refusal.NotDirectory)
    ∷ example one (step.Look 1 2 a) (reply.Refused refusal.Stale)
    ∷ example one (step.Look 1 1 (46 ∷ [])) (reply.Refused refusal.BadName)
    ∷ example dead (step.Look 1 1 a) (reply.Refused (refusal.LostEntry 0))
    ∷ example broken (step.Look 1 1 a) (reply.Refused (refusal.LostSlot 0))
    ∷ example twice (step.Look 1 1 a) (reply.Found (record { inode = 3; generation = S3; kind = File }))
    ∷ example (world_after twice (step.Drop 1 1 a) no_claims) (step.Look 1 1 a)
    (reply.Found (record { inode = 4; generation = S4; kind = File }))
    ∷ example nested (step.Look 3 S3 b) (reply.Found (record { inode = 4; generation = S4; kind = File }))
    ∷ example one (step.Drop 1 1 a) (reply.Dropped true)
    ∷ example stray (step.Drop 1 1 a) (reply.Dropped true)
    ∷ example four (step.Drop 1 1 a) (reply.Dropped false)
    ∷ example nested (step.Drop 1 1 a) (reply.Refused refusal.NotEmpty)
    ∷ example one (step.Rename 1 1 a a) (reply.Refused refusal.Exists)
    ∷ example one (step.Rename 1 1 b a) (reply.Refused refusal.Missing)
    ∷ example one (step.Rename 1 1 a (47 ∷ [])) (reply.Refused refusal.BadName)
    ∷ example (world_after one (step.Rename 1 1 a b) no_claims) (step.Look 1 1 b)
    (reply.Found (record { inode = 3; generation = S3; kind = File }))
    ∷ example one (step.List 1 1 0) (reply.Names 0 (record { name = a; kind = File; dead = false } ∷ []))
    ∷ example dead (step.List 1 1 0) (reply.Names 0 (record { name = a; kind = File; dead = true } ∷ []))
    ∷ example broken (step.List 1 1 3) (reply.LostNames 3)
    ∷ example one (step.List 1 1 1) reply.NoMore
    ∷ example one (step.List 1 1 72) reply.NoMore
    ∷ []

-- New names

abbrev pub new_names : List Example
new_names =
    record {
      world = one;
      step = step.Make 1 1 b File;
      claims = record { inode = 4; generation = 2 ^ 40 + 10; cell = null; leaf = null; top = null };
      reply =
          reply.Made 4 (2 ^ 40 + 10);
    }
    ∷ example one (step.Make 1 1 a File) (reply.Refused refusal.Exists)
    ∷ example broken (step.Make 1 1 a File) (reply.Refused refusal.DirectoryFull)
    ∷ example (record one { known_inodes = λ i. false }) (step.Make 1 1 b File)
    (reply.Refused (refusal.InodesFull 16 1))
    ∷ example (record one { serial = 2 ^ 40 }) (step.Make 1 1 b File) (reply.Refused refusal.SerialsSpent)
    ∷ example one (step.Link 1 1 b 3 S3) reply.Linked
    ∷ example (world_after one (step.Link 1 1 b 3 S3) no_claims) (step.Stat 3 S3)
    (reply.Stat (record { kind = File; size = 0; links = 2 }))
    ∷ example one (step.Link 1 1 b 2 2) (reply.Refused refusal.TooManyLinks)
    ∷ example four (step.Link 1 1 (101 ∷ []) 3 S3) (reply.Refused refusal.TooManyLinks)
    ∷ example one (step.Link 1 1 b 1 1) (reply.Refused refusal.IsDirectory)
    ∷ example one (step.Link 1 1 a 2 2) (reply.Refused refusal.Exists)
    ∷ []

-- Contents

-- the label file with 1,025 bytes: a slot of content and a hole
abbrev pub short : World
short = example_world (files (λ k. Hole) (file 2 no_links 1025 (first_slot (cell (1 ∷ 2 ∷ 3 ∷ [])))) None None)

-- its two slots are lost
abbrev pub torn : World
torn = example_world (files (λ k. Hole) (file 2 no_links 1025 (λ k. Lost)) None None)

abbrev pub contents : List Example
contents =
    example empty (step.Get 2 2 0) reply.Hole
    ∷ example short (step.Get 2 2 0) (reply.Bytes (1 ∷ 2 ∷ 3 ∷ replicate 1021 0))
    ∷ example torn (step.Get 2 2 0) reply.Lost
    ∷ example empty (step.Get 2 2 72) (reply.Refused refusal.TooLarge)
    ∷ example empty (step.Get 1 1 0) (reply.Refused refusal.IsDirectory)
    ∷ example empty (step.Get 2 3 0) (reply.Refused refusal.Stale)
    ∷ example short (step.Put 2 2 0 0 (9 ∷ [])) reply.Stored
    ∷ example (world_after short (step.Put 2 2 0 0 (9 ∷ [])) no_claims) (step.Get 2 2 0)
    (reply.Bytes (9 ∷ 2 ∷ 3 ∷ replicate 1021 0))
    ∷ example empty (step.Put 2 2 0 1024 (1 ∷ [])) (reply.Refused refusal.BadRange)
    ∷ example empty (step.Put 2 2 0 0 []) (reply.Refused refusal.BadRange)
    ∷ example empty (step.Put 2 2 2 0 (1 ∷ [])) (reply.Refused refusal.PastEnd)
    ∷ example short (step.Put 2 2 2 0 (1 ∷ [])) (reply.Refused refusal.PastEnd)
    ∷ example torn (step.Put 2 2 0 0 (1 ∷ [])) (reply.Refused (refusal.LostSlot 0))
    ∷ example torn (step.Put 2 2 1 0 (1 ∷ [])) reply.Stored
    ∷ example (record empty { known_blocks = λ p. nat_lt p 8 }) (step.Put 2 2 0 0 (1 ∷ []))
    (reply.Refused (refusal.Full 1 0 56 8))
    ∷ example short (step.Resize 2 2 73728) reply.Resized
    ∷ example short (step.Resize 2 2 73729) (reply.Refused refusal.TooLarge)
    ∷ example (world_after short (step.Resize 2 2 0) no_claims) (step.Get 2 2 0) reply.Hole
    ∷ example (world_after (world_after short (step.Resize 2 2 2) no_claims) (step.Resize 2 2 9) no_claims)
    (step.Get 2 2 0)
    (reply.Bytes (1 ∷ 2 ∷ replicate 1022 0))
    ∷ example short (step.Stat 2 2) (reply.Stat (record { kind = File; size = 1025; links = 0 }))
    ∷ []

-- Large files

-- version 2, where a file has up to 4,168 slots
abbrev pub large : World
large = record empty { version = 2 }

-- a file of 80,000 bytes whose first child is damaged, with all below it lost
abbrev pub damaged : World
damaged = record empty {
  version = 2;
  files = files (λ k. Hole)
      (record (file 2 no_links 80000 (λ k. if nat_le 72 k then (if nat_lt k 136 then Lost else Hole) else Hole)) {
        nodes =
            first_child_damaged;
      }) None None;
}

abbrev pub large_files : List Example
large_files =
    example large (step.Resize 2 2 80000) reply.Resized
    ∷ example (world_after large (step.Resize 2 2 80000) no_claims) (step.Put 2 2 78 127 (7 ∷ [])) reply.Stored
    ∷ example large (step.Resize 2 2 4268033) (reply.Refused refusal.TooLarge)
    ∷ example large (step.Put 2 2 slot_limit 0 (1 ∷ [])) (reply.Refused refusal.TooLarge)
    ∷ example damaged (step.Get 2 2 78) reply.Lost
    ∷ example damaged (step.Resize 2 2 80001) (reply.Refused (refusal.LostSlot 72))
    ∷ example damaged (step.Resize 2 2 100) reply.Resized
    ∷ []

-- The whole disk

abbrev pub elements : List Example
elements =
    example empty (step.Flush 0 0) reply.Flushed
    ∷ example empty (step.Flush 3 S3) (reply.Refused refusal.Stale)
    ∷ example (record empty { stopped = true }) (step.Flush 0 0) (reply.Refused refusal.Stopped)
    ∷ example one (step.SeeInode 3) (reply.Seen true)
    ∷ example one (step.SeeInode 4) (reply.Seen false)
    ∷ example one (step.SeeInode 2) (reply.Seen true)
    ∷ example one (step.SeeInode 17) (reply.Refused refusal.BadRange)
    ∷ example one (step.SeeBlock 4) (reply.Seen true)
    ∷ example one (step.SeeBlock 7) (reply.Seen true)
    ∷ example one (step.SeeBlock 8) (reply.Seen false)
    ∷ example one (step.SeeBlock 64) (reply.Refused refusal.BadRange)
    ∷ []

-- Failing calls of the device

-- a read fails, and all stays
abbrev pub FailedRead : Type 0
FailedRead = Next empty (without_claims (step.Get 2 2 0) (reply.Refused refusal.ReadFault)) empty

-- a flush fails, and the mount is stopped
abbrev pub FailedFlush : Type 0
FailedFlush =
    Next empty (without_claims (step.Flush 0 0) (reply.Refused refusal.WriteFault)) (record empty { stopped = true })

-- Accepted values

-- a size of 5,000, and a byte at 2,048: a hole and then bytes are given to slot 2
abbrev pub GivenToSlot : Type 0
GivenToSlot = values_given empty.files
    (without_claims (step.Resize 2 2 5000) reply.Resized
    ∷ without_claims (step.Put 2 2 2 0 (255 ∷ [])) reply.Stored ∷ [])
    2 2 2 ≡ Hole ∷ Bytes (255 ∷ replicate 1023 0) ∷ []
