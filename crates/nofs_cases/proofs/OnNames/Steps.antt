-- Steps on names on a disk with one name.
use Rattle.std.proofs.Common.{◌≡◌, ◌≢◌, ℕ, zero, suc, ◌+◌, ◌^◌, ◌≤◌, ◌⊎◌, inl, inr, false, ◌++◌, Option, Some, IfSome}
use Rattle.std.proofs.Common.{refl, sym, ap, ◌∙◌, subst, arith}
use Rattle.nofs_disk.specs.Number.{put_number, put_bytes, zeros, number_at}
use Rattle.nofs_dirent.specs.declared.entry.Entry.{Entry}
use Rattle.nofs_disk.specs.declared.tag.Tag.{Tag}
use Rattle.nofs_disk.specs.declared.tag.Pointer.{Pointer}
use Rattle.nofs_inode.specs.declared.inode.Record.{Record}
use Rattle.nofs_disk.specs.Tag.{tag_of}
use Rattle.nofs_disk.specs.Pointer.{null}
use Rattle.nofs_dirent.specs.Entries.{entry_of, entry_fields, spelled_entry}
use Rattle.nofs_inode.specs.InodeRecords.{free_record}
use Rattle.nofs_dirent.specs.EntryLaws.{Spells}
use Rattle.nofs_dirent.specs.Names.{is_name}
use Rattle.nofs_disk.specs.Disk.{cell_at}
use Rattle.nofs_model.specs.Geometry.{inode}
use Rattle.nofs_ptrs.specs.Paths.{Path, InRecord, path_of}
use Rattle.nofs_model.specs.Slots.{find, record_pointer}
use Rattle.nofs_model.specs.Files.{agreed}
use Rattle.nofs_model.specs.Owners.{IsFree}
use Rattle.nofs_model.specs.declared.image.path.PathAnswer.TheVariants as answer
use Rattle.nofs_model.specs.declared.image.value.Value.TheVariants.{Hole, Bytes}
use Rattle.nofs_history.specs.Machine.{with_entry, is_paired}
use Rattle.nofs_history.specs.History.{FilesMatch}
use Rattle.nofs_history.specs.Claims.{no_claims, NoInode, Unclaimed}
use Rattle.nofs_crashlaw.specs.Maps.Moves.{HeldMove}
use Rattle.nofs_crashlaw.specs.Maps.Fresh.{Numbered, Generation}
use Rattle.nofs_crashlaw.specs.Names.OldEntries.{NameWrites}
use Rattle.nofs_crashlaw.proofs.OnNames.OldLaws.{law-rename}
use Rattle.nofs_crashlaw.specs.Names.NewEntries.{HoleInRecord, Direct}
use Rattle.nofs_crashlaw.specs.Machine.Examples.{a, b}
use Rattle.nofs_cases.specs.Disks.Images.{z, blank, first_table, first_image}
use Rattle.nofs_cases.specs.Disks.Worlds.{root_file, first_files, first_world, block_two}
use Rattle.nofs_cases.specs.Names.Disks.{short_entry_bytes, root_block, name_table, name_image, rename_image}
use Rattle.nofs_cases.specs.Names.Disks.{link_table, link_image, drop_table}
use Rattle.nofs_cases.specs.Names.Disks.{drop_image, one_link, two_links, name_files, link_files}
use Rattle.nofs_cases.specs.Names.Steps.{entry_named, make_claims, MakeCase, BareCase, RenameCase, EntriesCase}
use Rattle.nofs_cases.specs.Names.Steps.{NameHomesCase, LinkCase, DropNameCase, DropFileCase}
use Rattle.nofs_cases.proofs.OnDisks.Images.{nth, root_record, label_record, first-records, data-two}
use Rattle.nofs_cases.proofs.OnDisks.Slots.{empty, held-is}
use Rattle.nofs_cases.proofs.OnDisks.Steps.{each-block}
use Rattle.nofs_cases.proofs.OnSteps.Files.{first-empty, first-free, first-match, first-old}
use Rattle.nofs_cases.proofs.OnNames.Roots.{file_record, name-records, link-records, drop-records, root-inode}
use Rattle.nofs_cases.proofs.OnNames.Roots.{root-plain, root-slot, root-holds, one-agreed}
use Rattle.nofs_cases.proofs.OnNames.Roots.{root-old, root-match, first-entry, first-of-two}
use Rattle.nofs_cases.proofs.OnDisks.Entries.{no-entries}
use Rattle.nofs_cases.proofs.OnNames.RootSteps.{IsReady, root-writes, in-place, hole-in-record, relinked, make-lies}
use Rattle.nofs_cases.proofs.OnNames.RootSteps.{link-lies, drop-lies}

-- The bytes of entries

pub spells-a : Spells (spelled_entry 3 (2 ^ 40) a) (entry_named a)
unfolding spelled_entry put_number put_bytes zeros entry_of entry_fields number_at is_name
spells-a = record { short = refl; reads = refl }

pub spells-b : Spells (spelled_entry 3 (2 ^ 40) b) (entry_named b)
unfolding spelled_entry put_number put_bytes zeros entry_of entry_fields number_at is_name
spells-b = record { short = refl; reads = refl }

pub written-a : with_entry Hole 0 (spelled_entry 3 (2 ^ 40) a) ≡ Bytes (short_entry_bytes 97 ++ z 960)
unfolding with_entry spelled_entry put_number put_bytes zeros
written-a = refl

renamed : with_entry (Bytes (short_entry_bytes 97 ++ z 960)) 0 (spelled_entry 3 (2 ^ 40) b)
    ≡ Bytes (short_entry_bytes 98 ++ z 960)
unfolding with_entry spelled_entry put_number put_bytes zeros
renamed = refl

pub linked : with_entry (Bytes (short_entry_bytes 97 ++ z 960)) 1 (spelled_entry 3 (2 ^ 40) b)
    ≡ Bytes (short_entry_bytes 97 ++ short_entry_bytes 98 ++ z 896)
unfolding with_entry spelled_entry put_number put_bytes zeros
linked = refl

second-cleared : with_entry (Bytes (short_entry_bytes 97 ++ short_entry_bytes 98 ++ z 896)) 1 (z 64)
    ≡ Bytes (short_entry_bytes 97 ++ z 960)
unfolding with_entry
second-cleared = refl

first-cleared : with_entry (Bytes (short_entry_bytes 97 ++ z 960)) 0 (z 64) ≡ Bytes (z 1024)
unfolding with_entry
first-cleared = refl

-- The disks

pub name-inode : (i : ℕ)
    → inode name_image i ≡ nth (root_record (block_two 1)) (label_record 0 null) (file_record one_link) i
name-inode i = root-inode name_table (short_entry_bytes 97 ++ z 960) (file_record one_link) name-records refl i

link-inode : (i : ℕ)
    → inode link_image i ≡ nth (root_record (block_two 1)) (label_record 0 null) (file_record two_links) i
link-inode i = root-inode link_table (short_entry_bytes 97 ++ short_entry_bytes 98 ++ z 896)
    (file_record two_links) link-records refl i

pub drop-inode : (i : ℕ) → inode drop_image i ≡ nth (root_record (block_two 1)) (label_record 0 null) free_record i
drop-inode i = root-inode drop_table (z 1024) free_record drop-records refl i

-- what the steps find

pub first-ready : IsReady first_files first_image Hole (2 ^ 40)
first-ready = record { files = first-match; root = refl; old = first-old (2 ^ 40) (omega arith) }

name-match : FilesMatch name_files name_image
name-match =
    root-match name_table (short_entry_bytes 97 ++ z 960) one_link name-records (0, omega arith, refl) first-entry

name-ready : IsReady name_files name_image (Bytes (short_entry_bytes 97 ++ z 960)) (2 ^ 40 + 2)
name-ready = record {
  files = name-match;
  root = refl;
  old = root-old name_table (short_entry_bytes 97 ++ z 960) (file_record one_link) name-records refl;
}

link-ready : IsReady link_files link_image (Bytes (short_entry_bytes 97 ++ short_entry_bytes 98 ++ z 896)) (2 ^ 40 + 2)
link-ready = record {
  files = root-match link_table (short_entry_bytes 97 ++ short_entry_bytes 98 ++ z 896) two_links link-records
      (0, omega arith, refl) first-of-two;
  root = refl;
  old = root-old link_table (short_entry_bytes 97 ++ short_entry_bytes 98 ++ z 896)
      (file_record two_links) link-records refl;
}

-- Make

in-hole : HoleInRecord (2 ^ 40) first_image name_image 1 3 0 (block_two 1)
in-hole = hole-in-record first_table blank blank name_table (root_block (short_entry_bytes 97 ++ z 960)) blank
    (root_record null) (root_record (block_two 1))
    free_record (file_record one_link) first-records name-records (2 ^ 40) 0 (block_two 1) refl
    (record {
      free = first-free 2;
      area = data-two first_table blank blank;
      fresh = omega arith;
      tag = root-slot name_table (short_entry_bytes 97 ++ z 960) (file_record one_link) name-records refl;
    })
    (each-block (λ p. p ≢ 2 → cell_at name_image p ≡ cell_at first_image p) first_table blank blank
    (λ ne. absurd (ne refl)) (λ ne. refl) (λ n ne. refl))
    refl pointers
  where
    pointers : (n : ℕ) → n ≢ 0 → record_pointer (root_record (block_two 1)) n ≡ record_pointer (root_record null) n
    pointers zero ne = absurd (ne refl)
    pointers (suc m) ne = refl

pub make-case : MakeCase
unfolding path_of
make-case = (
  make-lies first_files first_image name_image Hole 0 (2 ^ 40) first-ready (2 ^ 40) (block_two 1) null refl
      (omega arith) refl (omega arith) spells-a
      (name-inode 3),
  record {
    empty = first-empty 1 (InRecord 0) (omega arith);
    claimed = Direct (omega arith) in-hole;
    content = sym written-a;
  },
)

pub bare-case : BareCase
bare-case p slot = empty name_image 3
    (root-plain name_table (short_entry_bytes 97 ++ z 960) (file_record one_link) name-records refl 3) p slot

-- Rename

pub name-holds : find name_image 1 (InRecord 0) ≡ answer.Holds (block_two 1)
name-holds = root-holds name_table (short_entry_bytes 97 ++ z 960) (file_record one_link) name-records refl

rename-inode : (i : ℕ) → inode rename_image i ≡ inode name_image i
rename-inode i = root-inode name_table (short_entry_bytes 98 ++ z 960) (file_record one_link) name-records refl i
    ∙ sym (name-inode i)

pub rename-case : RenameCase
unfolding path_of entry_of entry_fields number_at is_name
rename-case = record {
  files = name-match;
  is = refl;
  generation = refl;
  found = refl;
  old = λ j some. name-ready.old j;
  held = name-holds;
  whole = refl;
  spells = spells-b;
  content = sym renamed;
  writes = root-writes name_table name_table (short_entry_bytes 97 ++ z 960) (short_entry_bytes 98 ++ z 960)
      (file_record one_link) (file_record one_link)
      name-records name-records 0 (λ j ne. refl);
}

-- what holds after the Rename held before
rename-held : HeldMove no_claims name_image rename_image 1
rename-held p y slot agreed h =
    let d = held-is rename_image 1 (block_two 1)
    (root-plain name_table (short_entry_bytes 98 ++ z 960) (file_record one_link) name-records refl 1)
    p y slot h in
    let first : find name_image 1 p ≡ answer.Holds (block_two 1) =
    subst (λ (q : Path). find name_image 1 q ≡ answer.Holds (block_two 1)) (sym d.0) name-holds in
    inl (
      one-agreed name_table (short_entry_bytes 97 ++ z 960) (file_record one_link) name-records refl,
      first ∙ ap answer.Holds d.1,
    )

-- a block as the Rename may leave it
abbrev RenamedBlock : ℕ → Type 0
RenamedBlock p = (cell_at rename_image p ≡ cell_at name_image p)
    ⊎ ((IsFree name_image p × ((t : Tag) → tag_of (cell_at rename_image p).tag ≡ Some t → 2 ^ 40 + 2 ≤ t.stamp))
    ⊎ ((tag_of (cell_at rename_image p).tag ≡ tag_of (cell_at name_image p).tag)
    × ((path : Path) × (x : Pointer) × (find name_image 1 path ≡ answer.Holds x) × (x.block ≡ p))))

rename-writes : NameWrites (2 ^ 40 + 2) 1 1 name_image rename_image
rename-writes = record {
  super = refl;
  records = λ j n1 n2. rename-inode j;
  blocks = each-block (λ p. RenamedBlock p) name_table (root_block (short_entry_bytes 97 ++ z 960)) blank
      (inr (inr (refl, (InRecord 0, block_two 1, name-holds, refl)))) (inl refl) (λ n. inl refl);
}

pub name-homes-case : NameHomesCase
unfolding entry_of entry_fields number_at is_name
name-homes-case = record {
  claim = record {
    cell = Unclaimed refl;
    leaf = Unclaimed refl;
    top = Unclaimed refl;
    apart = tt;
    inode = NoInode refl refl;
  };
  writes = rename-writes;
  before = name-match;
  after = (law-rename name_files name_image rename_image 1 1 0 (2 ^ 40 + 2) b
      (root_file (Bytes (short_entry_bytes 97 ++ z 960))) (block_two 1)
      (entry_named a) rename-case).1;
  old = λ j some. name-ready.old j;
  born = λ j n1 n2. refl;
  stand = λ at e. cc e;
  directory = rename-held;
  inode = rename-held;
}

-- Link

unpaired : is_paired name_files 1 1 ≡ false
unfolding entry_of entry_fields number_at is_name
unpaired = refl

pub link-case : LinkCase
unfolding path_of
link-case = (
  link-lies name_files name_image link_image (Bytes (short_entry_bytes 97 ++ z 960)) 1
      (2 ^ 40 + 2) name-ready spells-b refl (omega arith) unpaired
      (name-inode 3)
      (link-inode 3),
  in-place name_table link_table (short_entry_bytes 97 ++ z 960) (short_entry_bytes 97 ++ short_entry_bytes 98 ++ z 896)
      (file_record one_link)
      (file_record two_links) name-records link-records refl 1 (spelled_entry 3 (2 ^ 40) b) refl refl (sym linked),
)

-- Drop

pub drop-name-case : DropNameCase
unfolding path_of entry_of entry_fields number_at is_name
drop-name-case = (
  drop-lies link_files link_image name_image (Bytes (short_entry_bytes 97 ++ short_entry_bytes 98 ++ z 896)) 1
      (2 ^ 40 + 2) link-ready b two_links refl refl
      refl
      (in-place link_table name_table (short_entry_bytes 97 ++ short_entry_bytes 98 ++ z 896)
      (short_entry_bytes 97 ++ z 960) (file_record two_links)
      (file_record one_link) link-records name-records refl 1 (z 64) refl refl (sym second-cleared)),
  refl,
  relinked link_image name_image 3 (file_record two_links) one_link (link-inode 3) (name-inode 3),
)

pub drop-file-case : DropFileCase
unfolding path_of entry_of entry_fields number_at is_name
drop-file-case = (
  drop-lies name_files name_image drop_image (Bytes (short_entry_bytes 97 ++ z 960)) 0
      (2 ^ 40 + 2) name-ready a one_link refl refl refl
      (in-place name_table drop_table (short_entry_bytes 97 ++ z 960) (z 1024)
      (file_record one_link) free_record name-records drop-records refl 0 (z 64) refl
      refl
      (sym first-cleared)),
  refl,
  ap (λ (r : Record). r.kind) (drop-inode 3),
)

-- Entries

pub entries-case : EntriesCase
entries-case = (
  refl,
  spells-a.short,
  written-a,
  subst (λ (o : Option Entry). IfSome o (λ n. Numbered first_world make_claims n.generation)) (sym spells-a.reads)
      (Generation (λ e. omega (arith, e)) refl),
  λ j lt. subst (λ (o : Option Entry). IfSome o (λ n. Numbered first_world make_claims n.generation))
      (sym (no-entries j lt)) tt,
)
