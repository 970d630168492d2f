-- The root of the formatted disk, and a disk with one name.
use Rattle.std.proofs.Common.{Option, ◌≡◌, ◌^◌, ℕ, Bool, true, false, cond, eqb, List, [], ◌∷◌, ◌++◌, Some, is_some}
use Rattle.std.proofs.Common.{refl, sym, ap, ◌∙◌, subst, arith, Contains}
use Rattle.nofs_inode.specs.declared.inode.FileKind.TheVariants.{File, Directory}
use Rattle.nofs_inode.specs.declared.inode.Record.{Record}
use Rattle.nofs_dirent.specs.declared.entry.Entry.{Entry}
use Rattle.nofs_disk.specs.Pointer.{null}
use Rattle.nofs_inode.specs.InodeRecords.{is_live}
use Rattle.nofs_model.specs.Geometry.{Image, inode}
use Rattle.nofs_model.specs.Files.{files_in, agreed, names, FileState}
use Rattle.nofs_model.specs.Slots.{value}
use Rattle.nofs_model.specs.declared.image.value.Value.{Value}
use Rattle.nofs_model.specs.declared.image.value.Value.TheVariants.{Bytes}
use Rattle.nofs_history.specs.Meta.{Meta, Is, meta_of}
use Rattle.nofs_history.specs.Machine.{link_to}
use Rattle.nofs_history.specs.Since.{agreed_files, since, since_meta, stands, is_generation, last_in}
use Rattle.nofs_history.specs.Allowed.{IsAllowed, IsFolderMeta, SureLink, meta_link}
use Rattle.nofs_crashlaw.proofs.OnMaps.Fresh.{sole-is}
use Rattle.nofs_crashlaw.proofs.OnUntouched.Matches.{gen-of}
use Rattle.nofs_crashlaw.proofs.OnHistories.Unflushed.{law-unflushed}
use Rattle.nofs_crashlaw.specs.Paths.Names.{SureChain, SureName, SureRoot, SureEntry}
use Rattle.nofs_crashlaw.specs.Machine.Worlds.{no_links}
use Rattle.nofs_crashlaw.specs.Machine.Examples.{a}
use Rattle.nofs_cases.specs.Disks.Images.{z, first_image}
use Rattle.nofs_cases.specs.Disks.Worlds.{block_two}
use Rattle.nofs_cases.specs.Names.Disks.{short_entry_bytes, name_table, name_image, one_link}
use Rattle.nofs_cases.proofs.OnDisks.Matches.{agreed-file, first-value}
use Rattle.nofs_cases.proofs.OnDisks.Images.{nth, root_record, label_record}
use Rattle.nofs_cases.proofs.OnNames.Roots.{file_record, name-records, root-inode, root-plain, root-holds, one-agreed}
use Rattle.nofs_cases.proofs.OnNames.Roots.{three-agreed, first-entry}
use Rattle.nofs_cases.proofs.OnSteps.Files.{first-inode, first-root}
use Rattle.nofs_cases.specs.Lives.Paths.{RootCase, NamePathCase}

-- an agreed file of the base stands before any entry
pub base-stands : (B : Image) (i g : ℕ) (f : FileState) → agreed_files B i ≡ Some f
    → f.generation ≡ g → stands B [] 0 i g ≡ true
base-stands B i g f is e = rw (ap is_some is, gen-of (agreed_files B) i f is, e, same g) refl
  where
    same : (g : ℕ) → eqb g g ≡ true
    same g = grind arith

-- its meta is the one that may be read
pub base-meta : (B : Image) (i g : ℕ) (r : Record)
    → inode B i ≡ r → is_live r ≡ true → r.generation ≡ g → since_meta B [] 0 i g ≡ meta_of r ∷ []
base-meta B i g r e live own =
    let live' : is_live (inode B i) ≡ true = ap is_live e ∙ live in
    let is : is_generation B i g ≡ true = rw (live', ap (λ (q : Record). q.generation) e ∙ own, same g) refl in
    ap (λ (b : Bool). last_in (cond b (meta_of (inode B i) ∷ []) [] ++ []) ++ []) is
    ∙ ap (λ (q : Record). meta_of q ∷ []) e
  where
    same : (g : ℕ) → eqb g g ≡ true
    same g = grind arith

pub root-case : RootCase
root-case = (
  law-unflushed first_image [] 0 refl,
  SureRoot
      (base-stands first_image 1 1 _
      (agreed-file first_image 1 Directory (ap (λ (r : Record). r.kind) (first-inode 1)) first-root)
      (ap (λ (r : Record). r.generation) (first-inode 1)))
      (λ meta has. subst IsFolderMeta (sole-is (Is Directory 0 no_links) meta
      (subst (λ (ms : List Meta). Contains ms meta) (base-meta first_image 1 1 _ (first-inode 1) refl refl) has)) refl),
)

-- so is its value
pub base-since : (B : Image) (i g k : ℕ) (r : Record)
    → inode B i ≡ r → is_live r ≡ true → r.generation ≡ g → since B [] 0 i g k ≡ value B i k ∷ []
base-since B i g k r e live own =
    let live' : is_live (inode B i) ≡ true = ap is_live e ∙ live in
    let is : is_generation B i g ≡ true = rw (live', ap (λ (q : Record). q.generation) e ∙ own, same g) refl in
    ap (λ (b : Bool). last_in (cond b (value B i k ∷ []) [] ++ []) ++ []) is
  where
    same : (g : ℕ) → eqb g g ≡ true
    same g = grind arith

-- A disk with one name

name-inode : (i : ℕ)
    → inode name_image i ≡ nth (root_record (block_two 1)) (label_record 0 null) (file_record one_link) i
name-inode i = root-inode name_table (short_entry_bytes 97 ++ z 960) (file_record one_link) name-records refl i

name-root : agreed (files_in name_image) 1 ≡ true
name-root = one-agreed name_table (short_entry_bytes 97 ++ z 960) (file_record one_link) name-records refl

name-file : agreed (files_in name_image) 3 ≡ true
name-file = three-agreed name_table (short_entry_bytes 97 ++ z 960) one_link name-records
    (0, omega arith, refl) first-entry

name-value : value name_image 1 0 ≡ Bytes (short_entry_bytes 97 ++ z 960)
name-value = sym (first-value name_image 1 (block_two 1)
    (root-plain name_table (short_entry_bytes 97 ++ z 960) (file_record one_link) name-records refl 1)
    (root-holds name_table (short_entry_bytes 97 ++ z 960) (file_record one_link) name-records refl) 0 (omega arith))

root-stands : stands name_image [] 0 1 1 ≡ true
root-stands = base-stands name_image 1 1 _
    (agreed-file name_image 1 Directory (ap (λ (r : Record). r.kind) (name-inode 1)) name-root)
    (ap (λ (r : Record). r.generation) (name-inode 1))

file-stands : stands name_image [] 0 3 (2 ^ 40) ≡ true
file-stands = base-stands name_image 3 (2 ^ 40) _
    (agreed-file name_image 3 File (ap (λ (r : Record). r.kind) (name-inode 3)) name-file)
    (ap (λ (r : Record). r.generation) (name-inode 3))

root-metas : (meta : Meta) → Contains (since_meta name_image [] 0 1 1) meta → IsFolderMeta meta
root-metas meta has = subst IsFolderMeta (sole-is (Is Directory 0 no_links) meta
    (subst (λ (ms : List Meta). Contains ms meta) (base-meta name_image 1 1 _ (name-inode 1) refl refl) has)) refl

file-metas : (meta : Meta) → Contains (since_meta name_image [] 0 3 (2 ^ 40)) meta → Is File 0 one_link ≡ meta
file-metas meta has = sole-is (Is File 0 one_link) meta (subst (λ (ms : List Meta). Contains ms meta)
    (base-meta name_image 3 (2 ^ 40) _ (name-inode 3) refl refl) has)

not-folder : (meta : Meta) → Is File 0 one_link ≡ meta → IsFolderMeta meta → ⊥
not-folder meta e f =
    let h : false ≡ true = subst IsFolderMeta (sym e) f in
    cc h

only-value : (v : Value) → Contains (since name_image [] 0 1 1 0) v → v ≡ Bytes (short_entry_bytes 97 ++ z 960)
only-value v has =
    let e : value name_image 1 0 ≡ v = sole-is (value name_image 1 0) v
    (subst (λ (vs : List Value). Contains vs v) (base-since name_image 1 1 0 _ (name-inode 1) refl refl) has) in
    sym e ∙ name-value

sure-link : SureLink name_image [] 0 3 (2 ^ 40) 0 (link_to 1 0 1)
sure-link = record {
  file_stands = file-stands;
  directory_stands = root-stands;
  folders = root-metas;
  older = λ meta has f. absurd (not-folder meta (file-metas meta has) f);
  linked = λ meta has none. subst (λ (q : Meta). meta_link q 0 none ≡ link_to 1 0 1) (file-metas meta has) refl;
  range = omega arith;
  cell = λ v has. (
    short_entry_bytes 97 ++ z 960,
    only-value v has,
    subst (λ (o : Option Entry). names o 3 (2 ^ 40) ≡ true) (sym first-entry) refl,
  );
}

sure : SureName name_image [] 0 3 (2 ^ 40) 0 (link_to 1 0 1) a
sure = record { sure = sure-link; entry = λ v has. (short_entry_bytes 97 ++ z 960, only-value v has, first-entry) }

root-chain : SureChain name_image [] 0 1
root-chain = SureRoot root-stands root-metas

-- without an entry the base may be left
first-allowed : IsAllowed name_image [] 0 name_image
first-allowed = law-unflushed name_image [] 0 refl

pub name-path-case : NamePathCase
name-path-case = (
  first-allowed,
  root-chain,
  sure,
  SureEntry (2 ^ 40) 0 (link_to 1 0 1) refl sure-link root-chain,
)
