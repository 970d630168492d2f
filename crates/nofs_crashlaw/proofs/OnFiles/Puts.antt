-- A Put at any depth: the files after it, and the homes of what it claims.
use Rattle.std.proofs.Common.{◌≡◌, ◌≢◌, ℕ, ◌<◌, inl, inr, true, false, eqb, List, refl, sym, ap, ◌∙◌, subst, eqb-true}
use Rattle.nofs_disk.specs.declared.tag.Pointer.{Pointer}
use Rattle.nofs_ptrs.specs.Paths.{slot_limit, Path, path_of, is_pointer_slot, IsSlot}
use Rattle.nofs_model.specs.Geometry.{Image}
use Rattle.nofs_model.specs.Files.{files_in, agreed, node_in, FileState, Files}
use Rattle.nofs_model.specs.Slots.{value, find, IsAbove}
use Rattle.nofs_model.specs.Owners.{Home, home_at}
use Rattle.nofs_model.specs.declared.image.value.Value.TheVariants.{Bytes}
use Rattle.nofs_model.specs.declared.image.path.PathAnswer.TheVariants as answer
use Rattle.nofs_model.proofs.OnSlots.Paths.{path_of-content, above-refl}
use Rattle.nofs_history.specs.Machine.{put_given, put_content, files_after, lies_above}
use Rattle.nofs_history.specs.History.{FilesMatch}
use Rattle.nofs_history.specs.declared.machine.steps.Step.TheVariants as step
use Rattle.nofs_crashlaw.proofs.OnUntouched.Matches.{matched-file}
use Rattle.nofs_crashlaw.proofs.OnUntouched.Frames.{some-is}
use Rattle.nofs_crashlaw.proofs.OnUntouched.Agreement.{some-alike}
use Rattle.nofs_crashlaw.proofs.OnFiles.Growth.{on-path, off-path, value-on, value-off}
use Rattle.nofs_crashlaw.proofs.OnFiles.Claims.{test-above, above-test}
use Rattle.nofs_crashlaw.specs.Maps.Moves.{ClaimsStand, HeldMove}
use Rattle.nofs_crashlaw.proofs.OnMaps.Homes.{uses-inode}
use Rattle.nofs_crashlaw.proofs.OnMaps.Moves.{law-move, law-grow}
use Rattle.nofs_crashlaw.specs.Files.Puts.{PutLies, LawPutFiles, LawPutHomes}
use Rattle.nofs_crashlaw.proofs.OnFiles.OneFile.{OwnFile, touched-file, files, one-file}
use Rattle.nofs_crashlaw.proofs.OnFiles.PutFile.{put-made, put-gives, put-own}

module _ (F : Files) (X Y : Image) (i g k at : ℕ) (bytes : List ℕ) (f : FileState) (s : ℕ) (places : Path → Pointer)
    (p : PutLies F X Y i g k at bytes f s places) where
  its : OwnFile F X Y i s
  its = touched-file F X Y i s f p.files p.is p.touches p.names

  open its use {own, changes, same}

  pub on : (a : Path) → IsAbove a (path_of k) → find Y i a ≡ answer.Holds (places a)
  on = on-path s X Y i changes own.agreed same (p.old i (some-is (F i) f p.is)) (path_of k)
      places p.grows.placed p.grows.not_null p.grows.area p.grows.tag p.grows.record_stays p.grows.beside p.grows.apart

  pub off : (a : Path) → IsSlot a → (IsAbove a (path_of k) → ⊥) → find Y i a ≡ find X i a
  off = off-path s X Y i changes own.agreed same (p.old i (some-is (F i) f p.is)) (path_of k)
      places p.grows.placed p.grows.not_null p.grows.area p.grows.tag p.grows.record_stays p.grows.beside p.grows.apart

  here : value Y i k ≡ Bytes (put_content (f.values k) f.size k at bytes)
  here = value-on s X Y i changes own.agreed same (p.old i (some-is (F i) f p.is)) (path_of k)
      places p.grows.placed p.grows.not_null p.grows.area p.grows.tag p.grows.record_stays p.grows.beside p.grows.apart
      k refl ∙ ap Bytes p.content

  beside : (l : ℕ) → l < slot_limit → l ≢ k → value Y i l ≡ value X i l
  beside l lt ne = value-off s X Y i changes own.agreed same (p.old i (some-is (F i) f p.is)) (path_of k)
      places p.grows.placed p.grows.not_null p.grows.area p.grows.tag p.grows.record_stays p.grows.beside p.grows.apart
      k l refl p.range lt ne

  apart : (path : Path)
      → is_pointer_slot path ≡ true → lies_above path (path_of k) ≡ false → IsAbove path (path_of k) → ⊥
  apart path q above h = elim (above-test path (path_of k) h) [
    | inl e ↦ (let c = path_of-content k p.range in let z : is_pointer_slot (path_of k) ≡ true =
        subst (λ (r : Path). is_pointer_slot r ≡ true) e q in cc (c, z))
    | inr l ↦ cc (l, above)
  ]

  pub put-file : FilesMatch (files_after F (put_given F i g k at bytes)) Y
  put-file = one-file F (put_given F i g k at bytes) X Y i s f
      (put-made F i g k at bytes f p.is p.generation p.file) p.files
      (put-gives F i g k at bytes f p.is p.generation p.file) p.touches p.names p.old
      (put-own F i g k at bytes f p.is p.generation p.file X Y p.files p.names p.size here beside
      (λ path slot above. ap node_in (on path (test-above path (path_of k) above)))
      (λ path slot q above. off path slot (apart path q above)))

  -- what is agreed after it was agreed before
  pub as-before : (j : ℕ) → agreed (files_in Y) j ≡ agreed (files_in X) j
  as-before j =
      let own' = put-own F i g k at bytes f p.is p.generation p.file X Y p.files p.names p.size here beside
      (λ path slot above. ap node_in (on path (test-above path (path_of k) above)))
      (λ path slot q above. off path slot (apart path q above)) in
      sym (uses-inode (files_after F (put_given F i g k at bytes)) Y put-file j)
      ∙ sym (some-alike (F j) (files_after F (put_given F i g k at bytes) j)
      (files F (put_given F i g k at bytes) X Y i s f (put-made F i g k at bytes f p.is p.generation p.file) p.files
      (put-gives F i g k at bytes f p.is p.generation p.file) p.touches p.names p.old own' j))
      ∙ uses-inode F X p.files j

pub law-put-files : LawPutFiles
law-put-files F X Y i g k at bytes f s places p = put-file F X Y i g k at bytes f s places p

pub law-put-homes : LawPutHomes
law-put-homes W X Y i g k at bytes f s places c p claim placed =
    law-move W (step.Put i g k at bytes) c s (λ j. eqb j i) X Y claim p.touches
    (λ j a. p.old j (uses-inode W.files X p.files j ∙ a))
    (λ home e. let same : home_at i k ≡ home = cc e in subst (λ (h : Home). ClaimsStand c Y h) same stand)
    (λ j t a. sym (as-before W.files X Y i g k at bytes f s places p j) ∙ a)
    (λ j t. subst (λ (q : ℕ). HeldMove c X Y q) (sym (eqb-true j i t)) moved)
  where
    there : agreed (files_in X) i ≡ true
    there = (matched-file W.files X i p.files (some-is (W.files i) f p.is)).agreed

    moved : HeldMove c X Y i
    moved = law-grow c X Y i (path_of k) places there (on W.files X Y i g k at bytes f s places p)
        (off W.files X Y i g k at bytes f s places p) placed.each

    stand : ClaimsStand c Y (home_at i k)
    stand = record {
      agreed = as-before W.files X Y i g k at bytes f s places p i ∙ there;
      range = p.range;
      cell = λ e. on W.files X Y i g k at bytes f s places p (path_of k) (above-refl (path_of k))
          ∙ ap answer.Holds (placed.cell e);
      leaf = λ e. let l = placed.leaf e in on W.files X Y i g k at bytes f s places p _ l.0 ∙ ap answer.Holds l.1;
      top = λ e. let l = placed.top e in on W.files X Y i g k at bytes f s places p _ l.0 ∙ ap answer.Holds l.1;
    }
