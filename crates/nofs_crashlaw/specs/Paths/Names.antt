-- Which name finds which file, in an image and in every version since the last flush.
use Rattle.std.specs.Prelude.{◌≡◌, ℕ, ◌/◌, ◌%◌, true, false, List, Some, Contains}
use Rattle.nofs_inode.specs.declared.inode.BackLink.{BackLink}
use Rattle.nofs_dirent.specs.declared.entry.Entry.{Entry}
use Rattle.nofs_dirent.specs.Entries.{entry_in}
use Rattle.nofs_model.specs.Geometry.{Image, inode}
use Rattle.nofs_model.specs.Files.{files_in, agreed, entry_at, is_pair, links_of, is_special}
use Rattle.nofs_model.specs.declared.image.value.Value.{Value}
use Rattle.nofs_model.specs.declared.image.value.Value.TheVariants.{Bytes}
use Rattle.nofs_history.specs.Meta.{Meta}
use Rattle.nofs_history.specs.Since.{since, since_meta, stands}
use Rattle.nofs_history.specs.Allowed.{IsAllowed, IsFolderMeta, SureLink}
use Rattle.nofs_history.specs.declared.machine.history.Entry1.{Entry1}

-- in directory (d, dg), which is agreed, an entry with this name is a pair of (i, g)
pub record Finds (X : Image) (d dg : ℕ) (name : List ℕ) (i g : ℕ) : Type 0 where
  pub agreed : agreed (files_in X) d ≡ true
  pub directory : (inode X d).generation ≡ dg
  pub file : (inode X i).generation ≡ g
  pub link : BackLink
  pub leads : link.directory ≡ d
  pub has : Contains (links_of (files_in X) i) link
  pub pair : is_pair (files_in X) i link ≡ true
  pub entry : Entry
  pub found : entry_at (files_in X) d link.entry ≡ Some entry
  pub named : entry.name ≡ name

-- each version since the mark has this name of (i, g): its back link in place b, and the entry
pub record SureName (B : Image) (H : List Entry1) (m i g b : ℕ) (link : BackLink) (name : List ℕ) : Type 0 where
  pub sure : SureLink B H m i g b link
  pub open sure use *
  pub entry : (v : Value) → Contains (since B H m link.directory link.generation (link.entry / 16)) v
      → (content : List ℕ) × (v ≡ Bytes content)
      × (entry_in content (link.entry % 16) ≡ Some (record { inode = i; generation = g; name = name }))

-- names that every version has lead from the root to this inode
pub data SureChain (B : Image) (H : List Entry1) (m : ℕ) : ℕ → Type 0 where
  SureRoot : stands B H m 1 1 ≡ true → ((meta : Meta) → Contains (since_meta B H m 1 1) meta → IsFolderMeta meta)
      → SureChain B H m 1
  SureEntry : {i : ℕ} (g b : ℕ) (link : BackLink) → is_special i ≡ false → SureLink B H m i g b link
      → SureChain B H m link.directory → SureChain B H m i

-- Such an inode is agreed in each image that a crash may leave. A directory on the way may get other names.
abbrev pub LawSureChain : Type 0
LawSureChain = (B : Image) (H : List Entry1) (m : ℕ) (X : Image) (i : ℕ) → IsAllowed B H m X → SureChain B H m i
    → agreed (files_in X) i ≡ true

-- And a name in it that every version has finds its file.
abbrev pub LawSureName : Type 0
LawSureName = (B : Image) (H : List Entry1) (m : ℕ) (X : Image) (i g b : ℕ) (link : BackLink) (name : List ℕ)
    → IsAllowed B H m X → SureChain B H m link.directory → SureName B H m i g b link name
    → Finds X link.directory link.generation name i g
