-- The files of an image have roots: inode 1 is agreed as a directory alone, and inode 2 as a file.
use Rattle.std.proofs.Common.{◌≡◌, Bool, true, false, ◌&&◌, ◌||◌, not, if◌then◌else◌, Option, Some, None, is_some, refl}
use Rattle.std.proofs.Common.{sym, ap, ◌∙◌}
use Rattle.nofs_inode.specs.declared.inode.FileKind.TheVariants.{File, Directory as Folder}
use Rattle.nofs_model.specs.Geometry.{Image}
use Rattle.nofs_model.specs.Files.{FileState, Files, files_in, is_folder, is_a, agreed}
use Rattle.nofs_history.specs.Since.{agreed_files}
use Rattle.nofs_history.specs.History.{FilesMatch, SameFile}
use Rattle.nofs_salvage.specs.Walk.Refusals.{HasRoots}

left-of : (a b : Bool) → (a && b) ≡ true → a ≡ true
left-of true b h = refl
left-of false b h = h

or-false : (b : Bool) → (b || false) ≡ true → b ≡ true
or-false true h = refl
or-false false h = h

agreed-root : (F : Files) → agreed F 1 ≡ true → is_a Folder 1 (F 1) ≡ true
unfolding agreed
agreed-root F h = or-false (is_a Folder 1 (F 1)) (or-false (is_a Folder 1 (F 1) || false) h)

agreed-label : (F : Files) → agreed F 2 ≡ true → is_a File 2 (F 2) ≡ true
unfolding agreed
agreed-label F h = or-false (is_a File 2 (F 2)) h

folder-kind : (h : FileState) → is_a Folder 1 (Some h) ≡ true → is_folder h.kind ≡ true
folder-kind h is = left-of (is_folder h.kind) _ is

file-kind : (h : FileState) → is_a File 2 (Some h) ≡ true → is_folder h.kind ≡ false
file-kind h is = flip (is_folder h.kind) (left-of (not (is_folder h.kind)) _ is)
  where
    flip : (b : Bool) → not b ≡ true → b ≡ false
    flip false x = refl
    flip true x = absurd (cc x)

-- a file that the image says is of a kind is so
same-kind : (a b : Option FileState) (t : Bool) (g : Option FileState) (kind : Bool) → SameFile a b
    → b ≡ (if t then g else None)
    → ((h : FileState) → t ≡ true → g ≡ Some h → is_folder h.kind ≡ kind)
    → is_some a ≡ true → elim a [ None ↦ false | Some f ↦ is_folder f.kind ] ≡ kind
same-kind None b t g kind same is says some = absurd (cc some)
same-kind (Some f) None t g kind same is says some = absurd same
same-kind (Some f) (Some h) true g kind same is says some = ap is_folder same.kind ∙ says h refl (sym is)
same-kind (Some f) (Some h) false g kind same is says some = absurd (cc is)

opened : (X : Image) (i : _) → agreed_files X i ≡ (if agreed (files_in X) i then files_in X i else None)
unfolding agreed_files
opened X i = refl

-- the files that match an image
pub matched-roots : (F : Files) (X : Image) → FilesMatch F X → HasRoots F
matched-roots F X match = (
  (λ there. same-kind (F 1) (agreed_files X 1) (agreed (files_in X) 1) (files_in X 1) true (match 1) (opened X 1)
      (λ h so is. folder-kind h (ap (is_a Folder 1) (sym is) ∙ agreed-root (files_in X) so))
      (left-of (is_some (F 1)) _ there)),
  (λ there. same-kind (F 2) (agreed_files X 2) (agreed (files_in X) 2) (files_in X 2) false (match 2) (opened X 2)
      (λ h so is. file-kind h (ap (is_a File 2) (sym is) ∙ agreed-label (files_in X) so))
      (left-of (is_some (F 2)) _ there)),
)
