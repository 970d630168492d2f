-- Where the machine's files are those of an image, each file is an agreed inode, and each agreed inode a file.
use Rattle.std.proofs.Common.{◌≡◌, ℕ, ◌<◌, ◌⊎◌, inl, inr, Bool, true, false, cond, Option, Some, None, is_some, refl}
use Rattle.std.proofs.Common.{subst}
use Rattle.nofs_crashlaw.proofs.OnLives.Era.{meta_of_file}
use Rattle.nofs_history.specs.Meta.{meta_of}
use Rattle.nofs_history.specs.Machine.{generation_of}
use Rattle.nofs_history.specs.Since.{agreed_files}
use Rattle.nofs_history.specs.History.{FilesMatch, SameFile}
use Rattle.nofs_inode.specs.declared.inode.FileKind.{FileKind}
use Rattle.nofs_inode.specs.InodeRecords.{is_live}
use Rattle.nofs_ptrs.specs.Paths.{slot_limit}
use Rattle.nofs_model.specs.Geometry.{Image, inode}
use Rattle.nofs_model.specs.Files.{file_from, files_in, agreed, FileState, Files}
use Rattle.nofs_model.specs.Slots.{value}

pub agreed-files-is : (X : Image) (i : ℕ) → agreed_files X i ≡ cond (agreed (files_in X) i) (files_in X i) None
unfolding agreed_files
agreed-files-is X i = refl

pub gen-of : (F : Files) (i : ℕ) (f : FileState) → F i ≡ Some f → generation_of F i ≡ f.generation
gen-of F i f e = rw (e, generation_of) refl

-- the machine's file of an inode, where the image has it agreed
pub record Matched (F : Files) (X : Image) (i : ℕ) : Type 0 where
  pub file : FileState
  pub is : F i ≡ Some file
  pub live : is_live (inode X i) ≡ true
  pub agreed : agreed (files_in X) i ≡ true
  pub generation : file.generation ≡ (inode X i).generation
  pub meta : meta_of_file file ≡ meta_of (inode X i)
  pub links : file.links ≡ (inode X i).links
  pub values : (k : ℕ) → k < slot_limit → file.values k ≡ value X i k

matched-from : (F : Files) (X : Image) (i : ℕ) → FilesMatch F X
    → (o : Option FileState) → F i ≡ o → (a : Bool) → agreed (files_in X) i ≡ a
    → (k : Option FileKind) → (inode X i).kind ≡ k
    → SameFile o (cond a (file_from X i k) None)
    → (is_some o ≡ true) ⊎ ((is_live (inode X i) ≡ true) × (a ≡ true)) → Matched F X i
matched-from F X i match None eo false ea k ek same one = elim one [ inl e ↦ cc e | inr e ↦ cc e.1 ]
matched-from F X i match None eo true ea None ek same one = elim one [ inl e ↦ cc e | inr e ↦ absurd (dead e.0) ]
  where
    dead : is_live (inode X i) ≡ true → ⊥
    dead e = let z : is_live (inode X i) ≡ false = rw ek in cc (z, e)
matched-from F X i match None eo true ea (Some kind) ek same one = absurd same
matched-from F X i match (Some f) eo false ea k ek same one = absurd same
matched-from F X i match (Some f) eo true ea None ek same one = absurd same
matched-from F X i match (Some f) eo true ea (Some kind) ek same one = record {
  file = f;
  is = eo;
  live = rw ek;
  agreed = ea;
  generation = same.generation;
  meta = rw (same.kind, same.size, same.links, ek, meta_of);
  links = same.links;
  values = same.values;
}

agreed-file : (X : Image) (i : ℕ)
    → agreed_files X i ≡ cond (agreed (files_in X) i) (file_from X i (inode X i).kind) None
unfolding agreed_files
agreed-file X i = refl

pub matched-file : (F : Files) (X : Image) (i : ℕ) → FilesMatch F X → is_some (F i) ≡ true → Matched F X i
matched-file F X i match e = matched-from F X i match (F i) refl (agreed (files_in X) i) refl (inode X i).kind refl
    (subst (λ (o : Option FileState). SameFile (F i) o) (agreed-file X i) (match i)) (inl e)

pub matched-agreed : (F : Files) (X : Image) (i : ℕ) → FilesMatch F X
    → is_live (inode X i) ≡ true → agreed (files_in X) i ≡ true → Matched F X i
matched-agreed F X i match live a =
    matched-from F X i match (F i) refl (agreed (files_in X) i) refl (inode X i).kind refl
    (subst (λ (o : Option FileState). SameFile (F i) o) (agreed-file X i) (match i)) (inr (live, a))
