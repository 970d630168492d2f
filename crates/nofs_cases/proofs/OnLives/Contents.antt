-- A Put, a crash, and the next mount.
use Rattle.std.proofs.Common.{◌≡◌, ◌≢◌, ℕ, zero, suc, ◌+◌, ◌/◌, ◌^◌, ◌<◌, inl, inr, Bool, true, false, cond, eqb, leb}
use Rattle.std.proofs.Common.{◌&&◌, ◌||◌, [], ◌∷◌, Option, Some, None, is_some, refl, sym, ap, ◌∙◌, subst, arith}
use Rattle.nofs_disk.specs.Adds.{Adds}
use Rattle.nofs_inode.specs.declared.inode.FileKind.TheVariants.{File, Directory}
use Rattle.nofs_inode.specs.declared.inode.Record.{Record}
use Rattle.nofs_super.specs.declared.superblock.SuperBlock.{SuperBlock}
use Rattle.nofs_disk.specs.Number.{number_at}
use Rattle.nofs_disk.specs.Pointer.{is_null}
use Rattle.nofs_inode.specs.InodeRecords.{is_live}
use Rattle.nofs_disk.specs.Disk.{cell_at}
use Rattle.nofs_model.specs.Geometry.{super_at, inode}
use Rattle.nofs_super.specs.Super.{super_in}
use Rattle.nofs_ptrs.specs.Paths.{Path, InRecord, Under, path_of}
use Rattle.nofs_model.specs.Slots.{record_pointer, find, value, value_in}
use Rattle.nofs_model.specs.Files.{node_in, Absent, is_special, Files, FileState}
use Rattle.nofs_model.specs.Owners.{owner}
use Rattle.nofs_model.specs.declared.image.path.PathAnswer.{PathAnswer}
use Rattle.nofs_model.specs.declared.image.path.PathAnswer.TheVariants as answer
use Rattle.nofs_model.specs.declared.image.value.Value.{Value}
use Rattle.nofs_model.specs.declared.image.value.Value.TheVariants.{Hole, Bytes}
use Rattle.nofs_model.proofs.OnSlots.Find.{judged-built-null}
use Rattle.nofs_history.specs.Meta.{Is}
use Rattle.nofs_history.specs.Marks.{Mark, mark_at}
use Rattle.nofs_history.specs.Machine.{gives, given_by, put_given, files_by, file_after, filled, after_meta, is_at}
use Rattle.nofs_history.specs.Machine.{meta_with}
use Rattle.nofs_history.specs.Since.{agreed_files, is_generation}
use Rattle.nofs_history.specs.Allowed.{IsAllowed}
use Rattle.nofs_history.specs.Search.{count_below, first_of}
use Rattle.nofs_history.specs.World.{World, world_of, uses_inode, uses_block}
use Rattle.nofs_history.specs.Claims.{homes_after, claimed_home, NoInode, Claimed, Unclaimed}
use Rattle.nofs_history.specs.Next.{Next, Done, Run}
use Rattle.nofs_crashlaw.specs.Images.Proper.{Proper}
use Rattle.nofs_crashlaw.specs.Images.Moments.{during}
use Rattle.nofs_crashlaw.specs.Lives.{OnlySuper, Raised}
use Rattle.nofs_crashlaw.proofs.OnLives.OnlySuper.{law-only-super}
use Rattle.nofs_crashlaw.specs.Histories.Stage.{AddsProper, Lasts}
use Rattle.nofs_crashlaw.proofs.OnHistories.FlushStage.{files-stay}
use Rattle.nofs_crashlaw.proofs.OnHistories.Stages.{law-lasts, law-idle-stage}
use Rattle.nofs_crashlaw.specs.Machine.Worlds.{first_slot}
use Rattle.nofs_cases.specs.Disks.Images.{z, blank, first_table, first_image, put_table, put_block, put_image}
use Rattle.nofs_cases.specs.Disks.Worlds.{first_files, block_two}
use Rattle.nofs_cases.specs.Steps.Maps.{put_entry, put_may}
use Rattle.nofs_cases.proofs.OnDisks.Images.{numbers-are}
use Rattle.nofs_cases.proofs.OnDisks.Slots.{others-null, unowned}
use Rattle.nofs_cases.proofs.OnDisks.Matches.{agreed-file, none-is, first-value}
use Rattle.nofs_cases.proofs.OnSteps.Files.{first-inode, first-plain, first-free, first-root, first-label, put-inode}
use Rattle.nofs_cases.proofs.OnSteps.Files.{put-plain, put-holds, put-claim, no-pointer}
use Rattle.nofs_cases.specs.Crashes.Put.{see_block_entry, still, put_state}
use Rattle.nofs_cases.specs.Numbers.Verdicts.{mounted}
use Rattle.nofs_cases.specs.Lives.Contents.{seen_block, put_seen, next_base, BytesCase}
use Rattle.nofs_cases.proofs.OnLives.Runs.{new-disk}
use Rattle.nofs_cases.proofs.OnCrashes.Put.{still-disk, within}
use Rattle.nofs_cases.proofs.OnCrashes.Stages.{put-adds, idle-stage-case}
use Rattle.nofs_cases.proofs.OnNumbers.Verdicts.{or-left, or-right, or-split}

-- The world of the base

-- nothing stands on any path
find-any : (i : ℕ) (p : Path) → find first_image i p ≡ answer.Hole
find-any i (InRecord zero) = judged-built-null first_image i (InRecord 0) (record_pointer (inode first_image i) 0)
    (ap (λ (r : Record). is_null (record_pointer r 0)) (first-plain i) ∙ ap is_null (no-pointer i))
find-any i (InRecord (suc m)) =
    judged-built-null first_image i (InRecord (suc m)) (record_pointer (inode first_image i) (suc m))
    (others-null (inode first_image i) _ (first-plain i) m)
find-any i (Under p n) = rw (find-any i p, find) refl

any-value : (i k : ℕ) → value first_image i k ≡ first_slot Hole k
any-value i k = ap (λ (f : PathAnswer). value_in first_image f) (find-any i (path_of k)) ∙ sym (go (eqb k 0))
  where
    go : (b : Bool) → cond {A = Value} b Hole Hole ≡ Hole
    go true = refl
    go false = refl

any-node : (i : ℕ) (p : Path) → node_in (find first_image i p) ≡ Absent
any-node i p = ap node_in (find-any i p)

each-file : (i : ℕ) → agreed_files first_image i ≡ first_files i
each-file zero = none-is first_image 0 (ap (λ (r : Record). r.kind) (first-inode 0))
each-file (suc zero) = agreed-file first_image 1 Directory (ap (λ (r : Record). r.kind) (first-inode 1)) first-root
    ∙ (λ j. Some (record {
      generation = (first-inode 1 j).generation;
      kind =
          Directory;
      size = (first-inode 1 j).size;
      links = (first-inode 1 j).links;
      values = λ k. any-value 1 k j;
      nodes = λ p. any-node 1 p j;
    }))
each-file (suc (suc zero)) = agreed-file first_image 2 File (ap (λ (r : Record). r.kind) (first-inode 2)) first-label
    ∙ (λ j. Some (record {
      generation = (first-inode 2 j).generation;
      kind = File;
      size = (first-inode 2 j).size;
      links = (first-inode 2 j).links;
      values =
          λ k. any-value 2 k j;
      nodes = λ p. any-node 2 p j;
    }))
each-file (suc (suc (suc n))) = none-is first_image (suc (suc (suc n))) (free n) ∙ sym (beyond n)
  where
    free : (n : ℕ) → (inode first_image (suc (suc (suc n)))).kind ≡ None
    free zero = ap (λ (r : Record). r.kind) (first-inode 3)
    free (suc n) = ap (λ (r : Record). r.kind) (first-inode (suc (suc (suc (suc n)))))

    apart : (n k : ℕ) → k < 3 → eqb (suc (suc (suc n))) k ≡ false
    apart n k lt = grind (arith, lt)

    none-either : (b : Bool) → cond {A = Option FileState} b None None ≡ None
    none-either true = refl
    none-either false = refl

    beyond : (n : ℕ) → first_files (suc (suc (suc n))) ≡ None
    beyond n = rw (apart n 1 (omega arith), apart n 2 (omega arith)) (none-either (eqb (suc (suc (suc n))) 3))

files-are : agreed_files first_image ≡ first_files
files-are = λ j i. each-file i j

homes-are : owner first_image ≡ (λ p. None)
homes-are = λ j p. unowned first_image p (first-free p) j

world-is : world_of first_image 0 ≡ mounted
unfolding world_of
world-is = λ j. record {
  version = (numbers-are first_table blank blank j).version;
  blocks = (numbers-are first_table blank blank j).blocks;
  inodes = (numbers-are first_table blank blank j).inodes;
  mount = (numbers-are first_table blank blank j).mount;
  serial = 0;
  stopped = false;
  files = files-are j;
  homes = homes-are j;
  known_inodes = λ i. is_special i;
  known_blocks = λ p. leb p ((numbers-are first_table blank blank j).inodes / 4);
}

-- The two steps

see-next : Next mounted see_block_entry seen_block
unfolding gives
see-next = Done refl refl refl (record {
  inode = NoInode refl refl;
  cell = Unclaimed refl;
  leaf = Unclaimed refl;
  top = Unclaimed refl;
  apart = tt;
})
    (sym (files-stay first_files)) refl refl (refl, refl, refl, refl, refl) (record {
      inodes_stay = λ i k. k;
      blocks_stay = λ p k. or-left (leb p 1) (eqb p 2) k;
      inodes_change = λ i ne. absurd (ne refl);
      blocks_change = λ p ne. absurd (ne refl);
      inode_seen = λ t i s. cc s;
      block_seen = λ t p s. or-right (leb p 1) (eqb p 2) s;
      inodes_why = λ i k. inl k;
      blocks_why = λ p k. elim (or-split (leb p 1) (eqb p 2) k) [ inl a ↦ inl a | inr b ↦ inr (inr (inr (refl, b))) ];
    })

-- a Put makes no file, and removes none
kept : (i : ℕ) (o : Option FileState) → is_some (file_after (put_given first_files 2 2 0 0 (7 ∷ [])) i o) ≡ is_some o
kept i None = refl
kept i (Some f) = go (is_at 2 2 i f.generation)
  where
    go : (b : Bool) → is_some (after_meta (cond b (Some (meta_with first_files 2 (λ f. Is f.kind 1 f.links))) None)
        (filled (put_given first_files 2 2 0 0 (7 ∷ [])) i f)) ≡ true
    go true = refl
    go false = refl

same-inodes : (i : ℕ) → uses_inode put_seen i ≡ uses_inode seen_block i
unfolding gives
same-inodes i = ap (λ (b : Bool). is_special i || b) (kept i (first_files i))

other-blocks : (p : ℕ) → eqb p 2 ≡ false → uses_block put_seen p ≡ uses_block seen_block p
other-blocks p e = rw (e, homes_after, claimed_home, first_of) refl

put-next : Next seen_block put_entry put_seen
unfolding path_of count_below
put-next = Done refl refl refl (record {
  inode = NoInode refl refl;
  cell = Claimed refl (omega arith) refl;
  leaf = Unclaimed refl;
  top =
      Unclaimed refl;
  apart = put-claim.apart;
}) refl refl refl (refl, refl, refl, refl, refl) (record {
  inodes_stay = λ i k. k;
  blocks_stay = λ p k. k;
  inodes_change = λ i ne. absurd (ne (same-inodes i));
  blocks_change = λ p ne. changed p (eqb p 2) refl ne;
  inode_seen = λ t i s. cc s;
  block_seen = λ t p s. cc s;
  inodes_why = λ i k. inl k;
  blocks_why = λ p k. inl k;
})
  where
    changed : (p : ℕ) (b : Bool) → eqb p 2 ≡ b → uses_block put_seen p ≢ uses_block seen_block p
        → (leb p 1 || eqb p 2) ≡ true
    changed p true e ne = or-right (leb p 1) (eqb p 2) e
    changed p false e ne = absurd (ne (other-blocks p e))

first-life : Run 0 (world_of first_image 0) (see_block_entry ∷ put_entry ∷ []) put_seen
first-life = (
  seen_block,
  refl,
  omega arith,
  (λ t. cc t),
  subst (λ (W : World). Next W see_block_entry seen_block) (sym world-is) see-next,
  (put_seen, refl, omega arith, (λ t. cc t), put-next, refl),
)

-- The crash

-- the look changes neither the mark nor the files
same-mark : mark_at first_image (see_block_entry ∷ []) 1 first_image (2 ^ 40)
    ≡ mark_at first_image [] 1 first_image (2 ^ 40)
unfolding gives
same-mark = refl

same-files : files_by (agreed_files first_image) see_block_entry ≡ agreed_files first_image
same-files = idle-stage-case.2

adds-after : AddsProper first_image (see_block_entry ∷ []) put_entry first_image (2 ^ 40) (still 0 8) put_state
adds-after =
    subst (λ (F : Files). Adds (Proper
    (during (mark_at first_image (see_block_entry ∷ []) 1 first_image (2 ^ 40)) (given_by F put_entry)) first_image)
    (still 0 8) put_state) (sym same-files)
    (subst (λ (m : Mark). Adds (Proper (during m (given_by (agreed_files first_image) put_entry)) first_image)
    (still 0 8) put_state) (sym same-mark) put-adds)

lasts : Lasts first_image (see_block_entry ∷ put_entry ∷ []) first_image (2 ^ 40) 0 put_state
lasts = law-lasts (still 0 8) put_state first_image (see_block_entry ∷ []) put_entry first_image (2 ^ 40) 0 (2 ^ 40)
    (record {
      stage = law-idle-stage (still 0 8) (still 0 8) first_image [] see_block_entry first_image (2 ^ 40) 0 (2 ^ 40)
          idle-stage-case.0 idle-stage-case.1 idle-stage-case.2;
      disk = still-disk 0 8 (omega arith);
      tells = refl;
      from = refl;
      to = refl;
      no_flush = refl;
    }) adds-after

put-allowed : IsAllowed first_image (see_block_entry ∷ put_entry ∷ []) 4 put_image
put-allowed = lasts.images.each 4 put_image (omega arith) (omega arith)
    (record { len = refl; each = λ b lt. within put_may b (cell_at put_image b) lt (1, omega arith, refl) })

-- The next base

next-numbers : super_at next_base ≡ record { version = 1; blocks = 16; inodes = 4; mount = 2 }
unfolding super_at super_in number_at
next-numbers = refl

put-numbers : super_at put_image ≡ record { version = 1; blocks = 16; inodes = 4; mount = 1 }
put-numbers = numbers-are put_table (put_block 7) blank

next-only : OnlySuper put_image next_base
next-only = record {
  size = refl;
  others = others;
  blocks = ap (λ (n : SuperBlock). n.blocks) next-numbers ∙ sym (ap (λ (n : SuperBlock). n.blocks) put-numbers);
  inodes = ap (λ (n : SuperBlock). n.inodes) next-numbers ∙ sym (ap (λ (n : SuperBlock). n.inodes) put-numbers);
}
  where
    others : (b : ℕ) → b ≢ 0 → cell_at next_base b ≡ cell_at put_image b
    others zero ne = absurd (ne refl)
    others (suc b) ne = refl

next-raised : Raised put_image next_base
next-raised = record {
  only = next-only;
  version = ap (λ (n : SuperBlock). n.version) next-numbers ∙ sym (ap (λ (n : SuperBlock). n.version) put-numbers);
  mount = ap (λ (n : SuperBlock). n.mount) next-numbers ∙ sym (ap (λ (n : SuperBlock). n.mount + 1) put-numbers);
}

next-label : inode next_base 2 ≡ inode put_image 2
next-label = (law-only-super put_image next_base next-only).records 2

next-value : value next_base 2 0 ≡ Bytes (7 ∷ z 1023)
next-value = (law-only-super put_image next_base next-only).values 2 0
    ∙ sym (first-value put_image 2 (block_two 0) (put-plain 7 2) (put-holds 7) 0 (omega arith))

next-live : is_generation next_base 2 2 ≡ true
next-live = ap (λ (r : Record). is_live r && eqb r.generation 2) (next-label ∙ put-inode 7 2)

pub bytes-case : BytesCase
bytes-case = (
  (
    record {
      moment = 4;
      left = put_image;
      found = put_image;
      allowed = put-allowed;
      between = inl refl;
      raised = next-raised;
    },
    refl,
    (new-disk.1, first-life),
  ),
  next-live,
  next-value,
)
