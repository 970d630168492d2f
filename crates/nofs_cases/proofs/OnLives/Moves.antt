-- A durable move on the disk with one name is a run of the machine.
use Rattle.std.proofs.Common.{◌≡◌, ℕ, ◌+◌, ◌/◌, ◌^◌, ◌<◌, ◌≤◌, Bool, true, false, leb, ltb}
use Rattle.std.proofs.Common.{List, [], ◌∷◌, ◌++◌, Option, None, refl, sym, ap, ◌∙◌, subst, arith}
use Rattle.nofs_inode.specs.declared.inode.FileKind.TheVariants.{File, Directory as Folder}
use Rattle.nofs_disk.specs.Number.{put_number, put_bytes, zeros, number_at}
use Rattle.nofs_dirent.specs.Entries.{entry_of, entry_fields, spelled_entry}
use Rattle.nofs_disk.specs.Pointer.{null}
use Rattle.nofs_dirent.specs.Names.{is_name}
use Rattle.nofs_model.specs.Geometry.{inode}
use Rattle.nofs_ptrs.specs.Paths.{path_of}
use Rattle.nofs_model.specs.Files.{Files, is_pair, is_special}
use Rattle.nofs_model.specs.Owners.{owner, Home}
use Rattle.nofs_model.specs.declared.image.value.Value.TheVariants.{Hole, Bytes}
use Rattle.nofs_history.specs.Search.{first_of, least_from}
use Rattle.nofs_history.specs.Machine.{gives, link_given, found, first_dead, place_for, link_place, with_entry, link_to}
use Rattle.nofs_history.specs.Machine.{files_after}
use Rattle.nofs_history.specs.World.{World, world_of, inodes_needed, blocks_needed, free_blocks, unverified_blocks}
use Rattle.nofs_history.specs.World.{next_block}
use Rattle.nofs_history.specs.Refusals.{rows, row}
use Rattle.nofs_history.specs.Answers.{reply_of}
use Rattle.nofs_history.specs.Claims.{no_claims, next_stamp, IsBlockClaim, IsInodeClaim, IsClaim, NoInode, Unclaimed}
use Rattle.nofs_history.specs.Claims.{homes_after}
use Rattle.nofs_history.specs.declared.machine.history.Claims.{Claims}
use Rattle.nofs_history.specs.Next.{Next, Done, Run, takes_time}
use Rattle.nofs_history.specs.declared.machine.history.Entry1.{Entry1}
use Rattle.nofs_history.specs.declared.machine.steps.Step.TheVariants as step
use Rattle.nofs_history.specs.declared.machine.replies.Reply.TheVariants as reply
use Rattle.nofs_history.specs.declared.machine.replies.Refusal.TheVariants as refusal
use Rattle.nofs_crashlaw.proofs.OnMachine.Total.{later, learns}
use Rattle.nofs_crashlaw.proofs.OnHistories.FlushStage.{files-stay}
use Rattle.nofs_crashlaw.specs.Runs.Bases.{IsHistory}
use Rattle.nofs_crashlaw.specs.Paths.Moves.{IsAlone}
use Rattle.nofs_crashlaw.proofs.OnPaths.Alone.{law-alone}
use Rattle.nofs_crashlaw.specs.Machine.Examples.{a, b}
use Rattle.nofs_cases.specs.Disks.Images.{z, blank}
use Rattle.nofs_cases.specs.Disks.Worlds.{world_known, block_two, entry_of_step}
use Rattle.nofs_cases.proofs.OnDisks.Images.{root_record, numbers-are}
use Rattle.nofs_cases.specs.Names.Disks.{short_entry_bytes, root_block, name_table, name_image, one_link}
use Rattle.nofs_cases.proofs.OnNames.Roots.{file_record}
use Rattle.nofs_cases.specs.Lives.Moves.{look_entry, first_flush, link_entry, second_flush, drop_entry, move_entries}
use Rattle.nofs_cases.specs.Lives.Moves.{move_history, DirectoryCase, PairCase, MoveCase}
use Rattle.nofs_cases.proofs.OnLives.MoveFiles.{name-base, file_here, move_files, each-file, files-are}

-- Its worlds

-- with these files, homes and verdicts
abbrev world_with : Files → (ℕ → Option Home) → (ℕ → Bool) → (ℕ → Bool) → World
world_with F homes inodes blocks = world_known F homes 2 inodes blocks

world-is : world_of name_image 2 ≡ world_with move_files (owner name_image) (λ i. is_special i) (λ p. leb p 1)
unfolding world_of
world-is =
    let n = numbers-are name_table (root_block (short_entry_bytes 97 ++ z 960)) blank in
    λ j. record {
      version = (n j).version;
      blocks = (n j).blocks;
      inodes = (n j).inodes;
      mount = (n j).mount;
      serial = 2;
      stopped = false;
      files = files-are j;
      homes = owner name_image;
      known_inodes = λ i. is_special i;
      known_blocks = λ p. leb p ((n j).inodes / 4);
    }

-- an entry leads from each world with files F to one with files G
abbrev Leads : Files → Entry1 → Files → Type 0
Leads F e G = (homes : ℕ → Option Home) (inodes blocks : ℕ → Bool)
    → (homes2 : ℕ → Option Home) × (inodes2 : ℕ → Bool) × (blocks2 : ℕ → Bool)
    × Next (world_with F homes inodes blocks) e (world_with G homes2 inodes2 blocks2)

-- a step that claims nothing, and is done
done : (F G : Files) (e : Entry1) (homes : ℕ → Option Home) (inodes blocks : ℕ → Bool)
    → e.claims ≡ no_claims → files_after F (gives F e.step no_claims) ≡ G
    → inodes_needed e.step ≡ 0 → blocks_needed F e.step ≡ 0
    → first_of (rows (world_with F homes inodes blocks)
    (later (world_with F homes inodes blocks) e.step no_claims) e.step) ≡ None
    → e.reply ≡ reply_of (world_with F homes inodes blocks) e.step no_claims
    → (homes2 : ℕ → Option Home) × (inodes2 : ℕ → Bool) × (blocks2 : ℕ → Bool)
    × Next (world_with F homes inodes blocks) e (world_with G homes2 inodes2 blocks2)
done F G e homes inodes blocks claims same no_inode no_block none answer =
    let W : World = world_with F homes inodes blocks in
    let V : World = later W e.step no_claims in
    let claim : IsClaim W e.step no_claims = record {
      inode = subst (λ (n : ℕ). IsInodeClaim W (next_stamp W) no_claims (ltb 0 n)) (sym no_inode) (NoInode refl refl);
      cell = subst (λ (n : ℕ). IsBlockClaim W (next_stamp W + inodes_needed e.step) null (ltb 0 n)) (sym no_block)
          (Unclaimed refl);
      leaf = subst (λ (n : ℕ). IsBlockClaim W (next_stamp W + inodes_needed e.step + 1) null (ltb 1 n)) (sym no_block)
          (Unclaimed refl);
      top = subst (λ (n : ℕ). IsBlockClaim W (next_stamp W + inodes_needed e.step + 2) null (ltb 2 n)) (sym no_block)
          (Unclaimed refl);
      apart = tt;
    } in
    let next : Next W e V = Done refl none (answer ∙ ap (reply_of W e.step) (sym claims))
    (subst (λ (c : Claims). IsClaim W e.step c) (sym claims) claim)
    (ap (λ (c : Claims). files_after F (gives F e.step c)) (sym claims))
    (ap (λ (c : Claims). homes_after W e.step c V.files) (sym claims)) refl
    (refl, refl, refl, refl, refl) (learns W e.step no_claims) in
    let serial : W.serial + inodes_needed e.step + blocks_needed F e.step ≡ 2 = omega (arith, no_inode, no_block) in (
      V.homes,
      V.known_inodes,
      V.known_blocks,
      subst (λ (U : World). Next W e U) (λ j. record V { files = same j; serial = serial j }) next,
    )

-- Its steps

look-leads : Leads move_files look_entry move_files
unfolding gives found least_from entry_of entry_fields number_at is_name
look-leads homes inodes blocks =
    done move_files move_files look_entry homes inodes blocks refl (files-stay move_files) refl refl refl refl

flush-leads : (F : Files) (e : Entry1)
    → e ≡ entry_of_step (step.Flush 0 0) reply.Flushed no_claims e.from e.to → Leads F e F
unfolding gives
flush-leads F e is homes inodes blocks =
    subst (λ (q : Entry1). (homes2 : ℕ → Option Home) × (inodes2 : ℕ → Bool) × (blocks2 : ℕ → Bool)
    × Next (world_with F homes inodes blocks) q (world_with F homes2 inodes2 blocks2)) (sym is)
    (done F F (entry_of_step (step.Flush 0 0) reply.Flushed no_claims e.from e.to) homes inodes blocks refl
    (files-stay F) refl refl refl refl)

-- the files after the Link, whose entry goes into entry 1, and its back link into place 1
abbrev linked_files : Files
linked_files = files_after move_files (link_given move_files 1 1 b 3 (2 ^ 40) 1 1)

link-gives : gives move_files (step.Link 1 1 b 3 (2 ^ 40)) no_claims ≡ link_given move_files 1 1 b 3 (2 ^ 40) 1 1
unfolding gives place_for first_dead least_from link_place entry_of entry_fields number_at is_name
link-gives = refl

link-blocks : blocks_needed move_files (step.Link 1 1 b 3 (2 ^ 40)) ≡ 0
unfolding place_for first_dead least_from path_of entry_of entry_fields number_at is_name
link-blocks = refl

-- no count is below 0
not-less : (n : ℕ) → ltb n 0 ≡ false
not-less n = grind arith

link-rows : (homes : ℕ → Option Home) (inodes blocks : ℕ → Bool) (V : World)
    → first_of (rows (world_with move_files homes inodes blocks) V (step.Link 1 1 b 3 (2 ^ 40))) ≡ None
unfolding found place_for first_dead least_from link_place path_of entry_of entry_fields number_at is_name
link-rows homes inodes blocks V =
    ap (λ (t : Bool).
    first_of (row t (refusal.Full 0 (free_blocks V) (unverified_blocks V) (next_block V)) ∷ None ∷ []))
    (not-less (free_blocks (world_with move_files homes inodes blocks)))

link-leads : Leads move_files link_entry linked_files
link-leads homes inodes blocks =
    done move_files linked_files link_entry homes inodes blocks refl
    (ap (files_after move_files) link-gives) refl link-blocks
    (link-rows homes inodes blocks
    (later (world_with move_files homes inodes blocks) (step.Link 1 1 b 3 (2 ^ 40)) no_claims)) refl

-- the files after the Drop
abbrev dropped_files : Files
dropped_files = files_after linked_files (gives linked_files (step.Drop 1 1 a) no_claims)

drop-leads : Leads linked_files drop_entry dropped_files
unfolding found least_from with_entry spelled_entry put_number put_bytes zeros entry_of entry_fields number_at is_name
drop-leads homes inodes blocks =
    done linked_files dropped_files drop_entry homes inodes blocks refl refl refl refl refl refl

-- The history

-- entries that lead from each world with files F to one with files G, from moment n on
abbrev LeadOn : ℕ → Files → List Entry1 → Files → Type 0
LeadOn n F es G = (homes : ℕ → Option Home) (inodes blocks : ℕ → Bool)
    → (homes2 : ℕ → Option Home) × (inodes2 : ℕ → Bool) × (blocks2 : ℕ → Bool)
    × Run n (world_with F homes inodes blocks) es (world_with G homes2 inodes2 blocks2)

-- an entry, and those behind it
leads-on : (n : ℕ) (F G K : Files) (e : Entry1) (es : List Entry1) → Leads F e G
    → e.from ≡ n → e.from ≤ e.to → (takes_time e.reply ≡ true → e.from < e.to)
    → LeadOn e.to G es K → LeadOn n F (e ∷ es) K
leads-on n F G K e es leads at le takes rest homes inodes blocks =
    let k = leads homes inodes blocks in
    let r = rest k.0 k.1 k.2 in
    (r.0, r.1, r.2, (world_with G k.0 k.1 k.2, at, le, takes, k.3, r.3))

moves : LeadOn 0 move_files move_entries dropped_files
moves =
    leads-on 0 move_files move_files dropped_files look_entry
    (first_flush ∷ link_entry ∷ second_flush ∷ drop_entry ∷ []) look-leads refl (omega arith)
    (λ t. cc t)
    (leads-on look_entry.to move_files move_files dropped_files first_flush
    (link_entry ∷ second_flush ∷ drop_entry ∷ [])
    (flush-leads move_files first_flush refl)
    refl (omega arith) (λ t. omega arith)
    (leads-on first_flush.to move_files linked_files dropped_files link_entry
    (second_flush ∷ drop_entry ∷ []) link-leads refl (omega arith) (λ t. cc t)
    (leads-on link_entry.to linked_files linked_files dropped_files second_flush (drop_entry ∷ [])
    (flush-leads linked_files second_flush refl) refl
    (omega arith)
    (λ t. omega arith)
    (leads-on second_flush.to linked_files dropped_files dropped_files drop_entry [] drop-leads refl
    (omega arith) (λ t. cc t)
    (λ homes inodes blocks. (homes, inodes, blocks, refl))))))

move-run : (V : World) × Run 0 (world_of name_image 2) move_entries V
move-run =
    let r = moves (owner name_image) (λ i. is_special i) (λ p. leb p 1) in
    let V : World = world_with dropped_files r.0 r.1 r.2 in
    (V, subst (λ (W : World). Run 0 W move_entries V) (sym world-is) r.3)

pub move-is-history : IsHistory name_image move_history
move-is-history = record { first = 2; base = name-base; world = move-run.0; run = move-run.1 }

pub directory-case : DirectoryCase
directory-case = (
  move-is-history,
  refl,
  record {
    file = file_here 1 (root_record (block_two 1)) Folder (Bytes (short_entry_bytes 97 ++ z 960));
    is = each-file 1;
    generation = refl;
    folder = refl;
  },
  λ e. cc e,
)

name-pair : is_pair move_files 3 (link_to 1 0 1) ≡ true
unfolding entry_of entry_fields number_at is_name
name-pair = refl

pub pair-case : PairCase
pair-case = (
  move-is-history,
  refl,
  record {
    file = file_here 3 (file_record one_link) File Hole;
    is = each-file 3;
    generation = refl;
    at = refl;
    pair = subst (λ (F : Files). is_pair F 3 (link_to 1 0 1) ≡ true) (sym files-are) name-pair;
  },
  λ of name e f. cc e,
)

abbrev move-alone : IsAlone move_entries 1 1 a 1 1 b 3 (2 ^ 40) File
move-alone = record {
  look = look_entry;
  first = first_flush;
  link = link_entry;
  second = second_flush;
  drop = drop_entry;
  parts = refl;
  looks = refl;
  finds = refl;
  flushes = refl;
  links = refl;
  linked = refl;
  flushes_again = refl;
  drops = refl;
  before = [];
}

pub move-case : MoveCase
move-case = (
  move-is-history,
  move-alone,
  law-alone name_image move_history 1 1 a 1 1 b 3 (2 ^ 40) File move-is-history move-alone,
)
