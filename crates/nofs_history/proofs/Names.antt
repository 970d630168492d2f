-- A name that every version since the mark agrees on is a pair in each image.
use Rattle.std.proofs.Common.{◌≡◌, ℕ, ◌/◌, ◌%◌, ◌<◌, inl, inr, true, ltb, ◌||◌, not, List, Option, Some, None, is_some}
use Rattle.std.proofs.Common.{refl, subst, arith, Contains, lt-ltb, eq-eqb}
use Rattle.nofs_history.specs.Meta.{Gone, Is, meta_of, is_bytes, MayRead}
use Rattle.nofs_history.specs.declared.machine.history.Entry1.{Entry1}
use Rattle.nofs_history.specs.Since.{since, since_meta}
use Rattle.nofs_history.specs.Allowed.{HasVersions, IsFolderMeta, NamesStay}
use Rattle.nofs_inode.specs.declared.inode.FileKind.{FileKind}
use Rattle.nofs_inode.specs.declared.inode.FileKind.TheVariants.{File, Directory as Folder}
use Rattle.nofs_inode.specs.declared.inode.BackLink.{BackLink}
use Rattle.nofs_inode.specs.declared.inode.Record.{Record}
use Rattle.nofs_inode.specs.InodeRecords.{is_live}
use Rattle.nofs_dirent.specs.Entries.{entry_in, entry_limit}
use Rattle.nofs_ptrs.specs.Paths.{slot_limit}
use Rattle.nofs_model.specs.Geometry.{Image, inode}
use Rattle.nofs_model.specs.Slots.{value}
use Rattle.nofs_model.specs.Files.{files_in, is_folder, entry_in_file, entry_at, names, is_a, is_pair}
use Rattle.nofs_model.specs.declared.image.value.Value.{Value}
use Rattle.nofs_model.specs.declared.image.value.Value.TheVariants.{Bytes}

-- the kind of a folder's record
pub folder-kind : (r : Record) → IsFolderMeta (meta_of r) → r.kind ≡ Some Folder
folder-kind r h = go r.kind refl h
  where
    go : (o : Option FileKind) → r.kind ≡ o → IsFolderMeta (elim o [ None ↦ Gone | Some kind ↦ Is kind r.size r.links ])
        → r.kind ≡ Some Folder
    go None e f = absurd f
    go (Some File) e f = cc
    go (Some Folder) e f = e

-- what stands as bytes is bytes
pub is-bytes-of : (v : Value) (P : List ℕ → Type 0) → (content : List ℕ) × (v ≡ Bytes content) × P content
    → is_bytes v ≡ true
is-bytes-of v P (c, e, p) = rw e

-- the parts of a pair
pair-built : (X : Image) (i g : ℕ) (link : BackLink) (content : List ℕ)
    → is_live (inode X i) ≡ true → (inode X i).generation ≡ g
    → (inode X link.directory).kind ≡ Some Folder
    → (inode X link.directory).generation ≡ link.generation → link.entry < entry_limit
    → value X link.directory (link.entry / 16) ≡ Bytes content → names (entry_in content (link.entry % 16)) i g ≡ true
    → ((inode X i).kind ≡ Some Folder → link.generation < g) → is_pair (files_in X) i link ≡ true
pair-built X i g link content live gen dk dg lt v n older = go (inode X i).kind refl live
  where
    entry : entry_at (files_in X) link.directory link.entry ≡ entry_in content (link.entry % 16)
    entry = rw (dk, entry_in_file, files_in) (rw (lt-ltb link.entry entry_limit lt, v) refl)

    folder : is_a Folder link.generation (files_in X link.directory) ≡ true
    folder = rw (dk, files_in) (eq-eqb (inode X link.directory).generation link.generation dg)

    named : names (entry_at (files_in X) link.directory link.entry) i (inode X i).generation ≡ true
    named = rw (entry, gen) n

    last : (kind : FileKind) → (inode X i).kind ≡ Some kind
        → (not (is_folder kind) || ltb link.generation (inode X i).generation) ≡ true
    last File e = refl
    last Folder e = rw gen (lt-ltb link.generation g (older e))

    go : (o : Option FileKind) → (inode X i).kind ≡ o → is_some o ≡ true → is_pair (files_in X) i link ≡ true
    go None e h = cc
    go (Some kind) e h = rw (e, files_in) (rw (folder, named, last kind e) refl)

pub names-stay : (B : Image) (H : List Entry1) (m : ℕ) (X : Image) → HasVersions B H m X → NamesStay B H m X
names-stay B H m X a i g b link sure =
    let ri = a.records i g sure.file_stands in
    let rd = a.records link.directory link.generation sure.directory_stands in
    let mi : Contains (since_meta B H m i g) (meta_of (inode X i)) =
    subst (λ (q : ℕ). Contains (since_meta B H m i q) (meta_of (inode X i))) ri.1 (a.metas i ri.0) in
    let md : Contains (since_meta B H m link.directory link.generation) (meta_of (inode X link.directory)) =
    subst (λ (q : ℕ). Contains (since_meta B H m link.directory q) (meta_of (inode X link.directory))) rd.1
    (a.metas link.directory rd.0) in
    let dk = folder-kind (inode X link.directory) (sure.folders (meta_of (inode X link.directory)) md) in
    let k : ℕ = link.entry / 16 in
    let lt = sure.range in
    let lk : link.entry / 16 < slot_limit = omega (arith, lt) in
    let not_lost = a.sure link.directory link.generation (link.entry / 16) sure.directory_stands lk
    (λ v c. is-bytes-of v (λ (content : List ℕ). names (entry_in content (link.entry % 16)) i g ≡ true)
    (sure.cell v c)) in
    let may0 = a.values link.directory (link.entry / 16) rd.0 lk in
    let may : MayRead (since B H m link.directory link.generation (link.entry / 16))
    (value X link.directory (link.entry / 16)) =
    subst (λ (q : ℕ). MayRead (since B H m link.directory q (link.entry / 16))
    (value X link.directory (link.entry / 16))) rd.1 may0 in
    let has : Contains (since B H m link.directory link.generation (link.entry / 16))
    (value X link.directory (link.entry / 16)) =
    elim may [ inl l ↦ absurd (not_lost l) | inr c ↦ c ] in
    let (content, v, n) = sure.cell (value X link.directory (link.entry / 16)) has in (
      sure.linked (meta_of (inode X i)) mi,
      pair-built X i g link content ri.0 ri.1 dk rd.1 sure.range v n
          (λ e. sure.older (meta_of (inode X i)) mi (folder-meta (inode X i) e)),
    )
  where
    folder-meta : (r : Record) → r.kind ≡ Some Folder → IsFolderMeta (meta_of r)
    folder-meta r e = rw e refl
