-- What the steps on names leave of a disk whose root has one block of entries, or gets its first.
use Rattle.std.proofs.Common.{◌≡◌, ◌≢◌, ℕ, ◌/◌, ◌^◌, ◌<◌, true, false, List, Some, None, length, refl, sym, ap, ◌∙◌}
use Rattle.std.proofs.Common.{arith}
use Rattle.nofs_inode.specs.declared.inode.FileKind.TheVariants.{File}
use Rattle.nofs_disk.specs.declared.tag.Cell.{Cell}
use Rattle.nofs_inode.specs.declared.inode.BackLink.{BackLink}
use Rattle.nofs_disk.specs.declared.tag.Pointer.{Pointer}
use Rattle.nofs_inode.specs.declared.inode.Record.{Record}
use Rattle.nofs_dirent.specs.Entries.{spelled_entry, entry_limit}
use Rattle.nofs_disk.specs.Pointer.{null, is_null}
use Rattle.nofs_dirent.specs.EntryLaws.{Spells}
use Rattle.nofs_model.specs.Geometry.{Image, is_data_block, inode}
use Rattle.nofs_disk.specs.Disk.{cell_at}
use Rattle.nofs_ptrs.specs.Paths.{InRecord, path_of}
use Rattle.nofs_model.specs.Slots.{find, record_pointer}
use Rattle.nofs_model.specs.Files.{Files, entry_at}
use Rattle.nofs_model.specs.declared.image.value.Value.{Value}
use Rattle.nofs_model.specs.declared.image.value.Value.TheVariants.{Bytes}
use Rattle.nofs_history.specs.Machine.{zero_bytes, with_entry, is_paired, link_to, set_link}
use Rattle.nofs_history.specs.History.{FilesMatch}
use Rattle.nofs_crashlaw.specs.Untouched.Frames.{OldPointers}
use Rattle.nofs_crashlaw.specs.Files.Growth.{ClaimedCell}
use Rattle.nofs_crashlaw.specs.Names.OldEntries.{InPlace, Relinked, DropLies}
use Rattle.nofs_crashlaw.specs.Names.NewEntries.{IsNewRecord, first_links, HoleInRecord, MakeLies, LinkLies}
use Rattle.nofs_crashlaw.specs.Names.NewEntries.{EntryInPlace}
use Rattle.nofs_crashlaw.specs.Machine.Examples.{a, b}
use Rattle.nofs_cases.specs.Disks.Images.{blank, image_of}
use Rattle.nofs_cases.specs.Disks.Worlds.{root_file, block_two}
use Rattle.nofs_cases.proofs.OnDisks.Images.{plain, nth, root_record, label_record, HasRecords, inode-is}
use Rattle.nofs_cases.proofs.OnDisks.Slots.{IsPlain, no-pointers}
use Rattle.nofs_cases.proofs.OnDisks.Steps.{each-block, but-three, but-one-and-three, same-meta}
use Rattle.nofs_cases.specs.Names.Disks.{root_block, third_file, one_link}
use Rattle.nofs_cases.specs.Names.Steps.{entry_named}
use Rattle.nofs_cases.proofs.OnNames.Roots.{file_record, root-holds}

-- Records

pub new-record : (Y : Image) (i g : ℕ) (links : List BackLink) → inode Y i ≡ plain g (Some File) links 0 null
    → IsNewRecord Y i g File links
new-record Y i g links e = record {
  kind_is = ap (λ (r : Record). r.kind) e;
  generation = ap (λ (r : Record). r.generation) e;
  size = ap (λ (r : Record). r.size) e;
  links = ap (λ (r : Record). r.links) e;
  pointers = λ n lt. ap (λ (r : Record). is_null (record_pointer r n)) e
      ∙ no-pointers (plain g (Some File) links 0 null) refl n;
}

pub relinked : (X Y : Image) (i : ℕ) (r : Record) (links : List BackLink) → inode X i ≡ r → inode Y i ≡ record r {
  links = links;
} → Relinked X Y i links
relinked X Y i r links before after = record {
  kind = ap (λ (q : Record). q.kind) after ∙ sym (ap (λ (q : Record). q.kind) before);
  generation = ap (λ (q : Record). q.generation) after ∙ sym (ap (λ (q : Record). q.generation) before);
  size = ap (λ (q : Record). q.size) after ∙ sym (ap (λ (q : Record). q.size) before);
  links = ap (λ (q : Record). q.links) after;
  pointers = λ n lt. ap (λ (q : Record). record_pointer q n) after
      ∙ sym (ap (λ (q : Record). record_pointer q n) before);
}

-- Blocks

-- an entry is written in the block of the root, and the record of inode i changes
module _ (t u : Cell) (old new : List ℕ) (c d : Record)
    (h : HasRecords t (root_record (block_two 1)) (label_record 0 null) c)
    (k : HasRecords u (root_record (block_two 1)) (label_record 0 null) d) where
  pub root-writes : (i : ℕ)
      → ((j : ℕ) → j ≢ i → nth (root_record (block_two 1)) (label_record 0 null) d j ≡ nth (root_record (block_two 1))
      (label_record 0 null) c j)
      → InPlace (image_of t (root_block old) blank) (image_of u (root_block new) blank) (block_two 1) i
  root-writes i others = record {
    super = refl;
    blocks = each-block (λ p. p ≢ 2 → cell_at (image_of u (root_block new) blank) p
        ≡ cell_at (image_of t (root_block old) blank) p) t (root_block old) blank
        (λ ne. absurd (ne refl)) (λ ne. refl) (λ n ne. refl);
    tag = refl;
    records = λ j ne. inode-is u (root_block new) blank (root_record (block_two 1))
        (label_record 0 null) d k j ∙ others j ne
        ∙ sym (inode-is t (root_block old) blank (root_record (block_two 1)) (label_record 0 null) c h j);
  }

  pub in-place : IsPlain c null → (n : ℕ) (bytes : List ℕ) → path_of (n / 16) ≡ InRecord 0
      → length old ≡ 1024 → Bytes new ≡ with_entry (Bytes old) n bytes
      → EntryInPlace (image_of t (root_block old) blank) (image_of u (root_block new) blank) 1 n 3 bytes (block_two 1)
  in-place is n bytes slot whole content = record {
    held = ap (find (image_of t (root_block old) blank) 1) slot ∙ root-holds t old c h is;
    whole = whole;
    writes = root-writes 3 (but-three (root_record (block_two 1)) (label_record 0 null) d c);
    content = content;
  }

-- slot k of the root gets a block, and the record of inode 3 changes
module _ (t x y u v w : Cell) (q r c d : Record) (before : HasRecords t q (label_record 0 null) c)
    (after : HasRecords u r (label_record 0 null) d) where
  pub hole-in-record : (s k : ℕ) (p : Pointer) → r ≡ record q { direct = r.direct; leaf = r.leaf; top = r.top }
      → ClaimedCell s (image_of t x y) (image_of u v w) 1 (InRecord k) p
      → ((b : ℕ) → is_data_block (image_of t x y) b ≡ true → b ≢ p.block
      → cell_at (image_of u v w) b ≡ cell_at (image_of t x y) b)
      → record_pointer r k ≡ p → ((n : ℕ) → n ≢ k → record_pointer r n ≡ record_pointer q n)
      → HoleInRecord s (image_of t x y) (image_of u v w) 1 3 k p
  hole-in-record s k p alike cell blocks pointer pointers = record {
    super = refl;
    records = λ j n1 n3. is-after j ∙ but-one-and-three r q (label_record 0 null) d c j n1 n3 ∙ sym (is-before j);
    cell = cell;
    blocks = blocks;
    meta = same-meta (image_of t x y) (image_of u v w) 1 q r (is-before 1) (is-after 1) alike;
    pointer = ap (λ (o : Record). record_pointer o k) (is-after 1) ∙ pointer;
    pointers = λ n ne. ap (λ (o : Record). record_pointer o n) (is-after 1) ∙ pointers n ne
        ∙ sym (ap (λ (o : Record). record_pointer o n) (is-before 1));
  }
    where
      is-before : (j : ℕ) → inode (image_of t x y) j ≡ nth q (label_record 0 null) c j
      is-before j = inode-is t x y q (label_record 0 null) c before j

      is-after : (j : ℕ) → inode (image_of u v w) j ≡ nth r (label_record 0 null) d j
      is-after j = inode-is u v w r (label_record 0 null) d after j

-- Steps

-- what a step on names finds: the machine's files are those of the disk, the root has this value in slot 0, and each
-- stamp is below s
pub record IsReady (F : Files) (X : Image) (v : Value) (s : ℕ) : Type 0 where
  pub files : FilesMatch F X
  pub root : F 1 ≡ Some (root_file v)
  pub old : (j : ℕ) → OldPointers s X j

module _ (F : Files) (X Y : Image) (v : Value) (n s : ℕ) (ready : IsReady F X v s) where
  -- Make of a, as inode 3
  pub make-lies : (g : ℕ) (x y : Pointer) → F 3 ≡ None → n < entry_limit → is_paired F 1 n ≡ false → 1 < g
      → Spells (spelled_entry 3 g a) (record { inode = 3; generation = g; name = a })
      → inode Y 3 ≡ plain g (Some File) (first_links 1 n 1) 0 null
      → MakeLies F X Y 1 1 n s a File
      (record { inode = 3; generation = g; cell = x; leaf = y; top = null }) (root_file v)
  make-lies g x y none range unpaired young spells made = record {
    files = ready.files;
    is = ready.root;
    old = λ j some. ready.old j;
    generation = refl;
    folder = refl;
    range = range;
    unpaired = unpaired;
    made = new-record Y 3 g (first_links 1 n 1) made;
    none = none;
    plain = refl;
    young = young;
    spells = spells;
  }

  -- Link of b to inode 3, which has the name a
  pub link-lies : Spells (spelled_entry 3 (2 ^ 40) b) (entry_named b) → F 3 ≡ Some (third_file one_link)
      → n < entry_limit → is_paired F 1 n ≡ false
      → inode X 3 ≡ file_record one_link → inode Y 3 ≡ file_record (set_link one_link 1 (link_to 1 n 1))
      → LinkLies F X Y 1 1 n 3 (2 ^ 40) 1 s b (root_file v) (third_file one_link)
  link-lies spells is range unpaired before after = record {
    old = λ j some. ready.old j;
    files = ready.files;
    is = ready.root;
    generation = refl;
    folder = refl;
    range = range;
    unpaired = unpaired;
    place = omega arith;
    is_file = is;
    of_is = refl;
    file = refl;
    plain = refl;
    linked = relinked X Y 3 (file_record one_link) (set_link one_link 1 (link_to 1 n 1)) before after;
    spells = spells;
  }

  -- Drop of a name of inode 3, whose entry is cleared in place
  pub drop-lies : (name : List ℕ) (links : List BackLink) → entry_at F 1 n ≡ Some (entry_named name)
      → is_paired F 1 n ≡ true → F 3 ≡ Some (third_file links)
      → EntryInPlace X Y 1 n 3 (zero_bytes 64) (block_two 1)
      → DropLies F X Y 1 1 n s (root_file v) (third_file links) (block_two 1) (entry_named name)
  drop-lies name links found paired is cleared = record {
    generation = refl;
    files = ready.files;
    is = ready.root;
    old = λ j some. ready.old j;
    held = cleared.held;
    whole = cleared.whole;
    content = cleared.content;
    writes = cleared.writes;
    no_names = λ f. cc f;
    found = found;
    paired = paired;
    named = is;
  }
