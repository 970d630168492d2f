-- A flush makes a new mark.
use Rattle.std.proofs.Common.{◌≡◌, ℕ, ◌%◌, ◌<◌, inl, inr, Bool, true, false, eqb, ◌&&◌, List, [], ◌∷◌, Some, is_some}
use Rattle.std.proofs.Common.{refl, sym, ap, ◌∙◌, subst, subst₂, arith, Contains, eqb-true, eq-eqb}
use Rattle.nofs_crashlaw.specs.Images.Reasons.{IsMark}
use Rattle.nofs_model.proofs.OnSlots.Find.{and-both}
use Rattle.nofs_crashlaw.proofs.OnLives.Era.{IsCurrent, current-accepted}
use Rattle.nofs_crashlaw.proofs.OnUntouched.Matches.{Matched, matched-file, matched-agreed, gen-of}
use Rattle.nofs_history.specs.Meta.{Meta, meta_of, MayRead}
use Rattle.nofs_history.specs.declared.machine.history.Entry1.{Entry1}
use Rattle.nofs_history.specs.Machine.{generation_of}
use Rattle.nofs_history.specs.Since.{agreed_files, files_along, accepted_of, accepted_meta_of, last_in, is_generation}
use Rattle.nofs_history.specs.History.{FilesMatch, NoWriteFault}
use Rattle.nofs_history.specs.Marks.{new_mark}
use Rattle.nofs_history.specs.Steady.{Untouched, SteadyRest}
use Rattle.nofs_disk.specs.declared.tag.Tag.{Tag}
use Rattle.nofs_inode.specs.InodeRecords.{is_live}
use Rattle.nofs_disk.specs.Tag.{tag_of}
use Rattle.nofs_ptrs.specs.Paths.{slot_limit}
use Rattle.nofs_model.specs.Geometry.{Image, super_at, is_data_block, inode}
use Rattle.nofs_disk.specs.Disk.{cell_at}
use Rattle.nofs_model.specs.Files.{files_in, agreed, Files}
use Rattle.nofs_model.specs.Slots.{value}
use Rattle.nofs_model.specs.declared.image.value.Value.{Value}

only : {A : Type 0} → (xs : List A) (v : A) → xs ≡ v ∷ [] → Contains xs v
only xs v e = subst (λ (ys : List _). Contains ys v) (sym e) (0, omega arith, refl)

module _ (B : Image) (H : List Entry1) (X : Image) (stamps : ℕ) (ok : NoWriteFault H)
    (match : FilesMatch (files_along (agreed_files B) H) X)
    (rest : SteadyRest B H X) where
  F : Files
  F = files_along (agreed_files B) H

  now : IsCurrent (files_along (agreed_files B) H) (λ i g k. accepted_of B H i g k) (λ i g. accepted_meta_of B H i g)
  now = current-accepted B H ok

  base-value : (i : ℕ) → Untouched B H X i
      → (k : ℕ) → last_in (accepted_of B H i (inode X i).generation k) ≡ value B i k ∷ []
  base-value i u k =
      let g : is_generation B i (inode X i).generation ≡ true =
      rw (u.live, eq-eqb (inode B i).generation (inode X i).generation u.generation) in
      rw (g, u.no_value k) refl

  base-meta : (i : ℕ) → Untouched B H X i
      → last_in (accepted_meta_of B H i (inode X i).generation) ≡ meta_of (inode B i) ∷ []
  base-meta i u =
      let g : is_generation B i (inode X i).generation ≡ true =
      rw (u.live, eq-eqb (inode B i).generation (inode X i).generation u.generation) in
      rw (g, u.no_meta) refl

  values : (i k : ℕ) → is_live (inode X i) ≡ true → k < slot_limit
      → MayRead (last_in (accepted_of B H i (inode X i).generation k)) (value X i k)
  values i k live lt = go (agreed (files_in X) i) refl
    where
      go : (a : Bool)
          → agreed (files_in X) i ≡ a → MayRead (last_in (accepted_of B H i (inode X i).generation k)) (value X i k)
      go true ea =
          let m = matched-agreed (files_along (agreed_files B) H) X i match live ea in
          let e0 : last_in (accepted_of B H i m.file.generation k) ≡ m.file.values k ∷ [] =
          now.values i m.file m.is k in
          let e1 : last_in (accepted_of B H i (inode X i).generation k) ≡ value X i k ∷ [] =
          subst₂ (λ (g : ℕ) (v : Value). last_in (accepted_of B H i g k) ≡ v ∷ []) m.generation (m.values k lt) e0 in
          inr (only (last_in (accepted_of B H i (inode X i).generation k)) (value X i k) e1)
      go false ea =
          let u = rest i live ea in
          elim (u.values k lt) [
            | inl same ↦ inr (only (last_in (accepted_of B H i (inode X i).generation k)) (value X i k)
                (base-value i u k ∙ ap (λ (v : Value). v ∷ []) (sym same)))
            | inr lost ↦ inl lost
          ]

  metas : (i : ℕ) → is_live (inode X i) ≡ true
      → Contains (last_in (accepted_meta_of B H i (inode X i).generation)) (meta_of (inode X i))
  metas i live = go (agreed (files_in X) i) refl
    where
      go : (a : Bool) → agreed (files_in X) i ≡ a
          → Contains (last_in (accepted_meta_of B H i (inode X i).generation)) (meta_of (inode X i))
      go true ea =
          let m = matched-agreed (files_along (agreed_files B) H) X i match live ea in
          only (last_in (accepted_meta_of B H i (inode X i).generation)) (meta_of (inode X i))
          (subst₂ (λ (g : ℕ) (v : Meta). last_in (accepted_meta_of B H i g) ≡ v ∷ []) m.generation m.meta
          (now.meta i m.file m.is))
      go false ea =
          let u = rest i live ea in
          only (last_in (accepted_meta_of B H i (inode X i).generation)) (meta_of (inode X i))
          (base-meta i u ∙ ap (λ (v : Meta). v ∷ []) (sym u.meta))

  stands-file : (i g : ℕ) → (is_some (files_along (agreed_files B) H i)
      && (eqb (generation_of (files_along (agreed_files B) H) i) g)) ≡ true
      → (m : Matched (files_along (agreed_files B) H) X i) × (m.file.generation ≡ g)
  stands-file i g e =
      let a = and-both (is_some (files_along (agreed_files B) H i))
      (eqb (generation_of (files_along (agreed_files B) H) i) g) e in
      let m = matched-file (files_along (agreed_files B) H) X i match a.0 in
      let s : generation_of (files_along (agreed_files B) H) i ≡ m.file.generation =
      gen-of (files_along (agreed_files B) H) i m.file m.is in
      (m, sym s ∙ eqb-true (generation_of (files_along (agreed_files B) H) i) g a.1)

  pub flushed : 0 < stamps → (super_at X).inodes % 4 ≡ 0
      → ((i : ℕ) → is_live (inode X i) ≡ true → (inode X i).generation < stamps)
      → ((b : ℕ) (t : Tag) → is_data_block X b ≡ true → tag_of (cell_at X b).tag ≡ Some t → t.stamp < stamps)
      → IsMark (new_mark B H X stamps)
  flushed positive quarters young below = record {
    positive = positive;
    quarters = quarters;
    values = values;
    metas = metas;
    young = young;
    stood = λ i g e. (stands-file i g e).0.live;
    stood_generation = λ i g e. let s = stands-file i g e in sym s.0.generation ∙ s.1;
    stood_values = λ i g k e lt.
        let s = stands-file i g e in
        only (last_in (accepted_of B H i g k)) (value X i k)
        (subst₂ (λ (q : ℕ) (v : Value). last_in (accepted_of B H i q k) ≡ v ∷ []) s.1 (s.0.values k lt)
        (now.values i s.0.file s.0.is k));
    below = below;
  }
