-- Until a flush has succeeded, the base is among what a crash may leave.
use Rattle.std.proofs.Common.{◌≡◌, ◌≢◌, ℕ, true, false, cond, eqb, ◌&&◌, not, List, [], ◌∷◌, ◌++◌, take, Option, Some}
use Rattle.std.proofs.Common.{None, is_some, inr, refl, sym, ap, ◌∙◌, subst, arith, Contains, eqb-true, eq-eqb}
use Rattle.std.specs.List.{list_any}
use Rattle.std.proofs.lemmas.List.Elements.{Contains-append_left}
use Rattle.nofs_crashlaw.specs.Histories.Laws.{LawUnflushed}
use Rattle.nofs_history.proofs.Names.{names-stay}
use Rattle.nofs_model.proofs.OnSlots.Find.{and-both}
use Rattle.nofs_crashlaw.proofs.OnUntouched.Matches.{matched-file, gen-of}
use Rattle.nofs_history.specs.Meta.{Meta, meta_of, is_bytes, is_gone}
use Rattle.nofs_history.specs.declared.machine.history.Entry1.{Entry1}
use Rattle.nofs_history.specs.Machine.{generation_of}
use Rattle.nofs_history.specs.History.{SameFile, FilesMatch}
use Rattle.nofs_history.specs.Since.{agreed_files, files_along, accepted_of, accepted_meta_of}
use Rattle.nofs_history.specs.Since.{last_in, is_generation, mark}
use Rattle.nofs_history.specs.Since.{before_mark, since_mark, files_at_mark, values_given, metas_given, since}
use Rattle.nofs_history.specs.Since.{since_meta, stands, IsSure}
use Rattle.nofs_history.specs.Allowed.{HasVersions}
use Rattle.nofs_inode.specs.InodeRecords.{is_live}
use Rattle.nofs_model.specs.Geometry.{Image, inode}
use Rattle.nofs_model.specs.Slots.{value}
use Rattle.nofs_model.specs.Files.{FileState, Files}
use Rattle.nofs_model.specs.declared.image.value.Value.{Value}
use Rattle.nofs_model.specs.declared.image.value.Value.TheVariants.{Lost}

same-itself : (o : Option FileState) → SameFile o o
same-itself None = tt
same-itself (Some f) = record {
  generation = refl;
  kind = refl;
  size = refl;
  links = refl;
  values = λ k lt. refl;
  nodes = λ path is points. refl;
}

-- the files of an image are its files
pub self-match : (B : Image) → FilesMatch (agreed_files B) B
self-match B i = same-itself (agreed_files B i)

module _ (B : Image) (H : List Entry1) (m : ℕ) (none : mark H m ≡ 0) where
  before : before_mark H m ≡ []
  before = ap (λ (n : ℕ). take n H) none

  is-of : (i : ℕ) → is_live (inode B i) ≡ true → is_generation B i (inode B i).generation ≡ true
  is-of i live = λ j. live j && eq-eqb (inode B i).generation (inode B i).generation refl j

  has-value : (i k : ℕ) → is_live (inode B i) ≡ true → Contains (since B H m i (inode B i).generation k) (value B i k)
  has-value i k live =
      let e : last_in (accepted_of B (before_mark H m) i (inode B i).generation k) ≡ value B i k ∷ [] =
      (λ j. last_in (accepted_of B (before j) i (inode B i).generation k))
      ∙ (λ j. last_in (cond (is-of i live j) (value B i k ∷ []) [] ++ [])) in
      Contains-append_left (last_in (accepted_of B (before_mark H m) i (inode B i).generation k))
      (values_given (files_at_mark B H m) (since_mark H m) i (inode B i).generation k) (value B i k)
      (subst (λ (vs : List Value). Contains vs (value B i k)) (sym e) (0, omega arith, refl))

  has-meta : (i : ℕ)
      → is_live (inode B i) ≡ true → Contains (since_meta B H m i (inode B i).generation) (meta_of (inode B i))
  has-meta i live =
      let e : last_in (accepted_meta_of B (before_mark H m) i (inode B i).generation) ≡ meta_of (inode B i) ∷ [] =
      (λ j. last_in (accepted_meta_of B (before j) i (inode B i).generation))
      ∙ (λ j. last_in (cond (is-of i live j) (meta_of (inode B i) ∷ []) [] ++ [])) in
      Contains-append_left (last_in (accepted_meta_of B (before_mark H m) i (inode B i).generation))
      (metas_given (files_at_mark B H m) (since_mark H m) i (inode B i).generation) (meta_of (inode B i))
      (subst (λ (vs : List Meta). Contains vs (meta_of (inode B i))) (sym e) (0, omega arith, refl))

  files-now : files_at_mark B H m ≡ agreed_files B
  files-now = ap (λ (es : List Entry1). files_along (agreed_files B) es) before

  -- what stands is an agreed file of the base
  stood : (i g : ℕ) → stands B H m i g ≡ true → (is_some (agreed_files B i) ≡ true)
      × (generation_of (agreed_files B) i ≡ g)
  stood i g s =
      let a = and-both (is_some (files_at_mark B H m i)) (eqb (generation_of (files_at_mark B H m) i) g
      && not (list_any is_gone (metas_given (files_at_mark B H m) (since_mark H m) i g))) s in
      let b = and-both (eqb (generation_of (files_at_mark B H m) i) g)
      (not (list_any is_gone (metas_given (files_at_mark B H m) (since_mark H m) i g)))
      a.1 in (
        subst (λ (F : Files). is_some (F i) ≡ true) files-now a.0,
        eqb-true (generation_of (agreed_files B) i) g
            (subst (λ (F : Files). eqb (generation_of F i) g ≡ true) files-now b.0),
      )

  in-base : (i g : ℕ) → stands B H m i g ≡ true → (is_live (inode B i) ≡ true) × ((inode B i).generation ≡ g)
  in-base i g s =
      let t = stood i g s in
      let f = matched-file (agreed_files B) B i (self-match B) t.0 in
      (f.live, sym f.generation ∙ sym (gen-of (agreed_files B) i f.file f.is) ∙ t.1)

  not-lost : (i g k : ℕ) → stands B H m i g ≡ true → IsSure B H m i g k → value B i k ≢ Lost
  not-lost i g k s sure lost =
      let b = in-base i g s in
      let here : Contains (since B H m i g k) (value B i k) =
      subst (λ (q : ℕ). Contains (since B H m i q k) (value B i k)) b.1 (has-value i k b.0) in
      let t = sure (value B i k) here in
      let f : is_bytes (value B i k) ≡ false = ap is_bytes lost in
      cc (t, f)

versions : (B : Image) (H : List Entry1) (m : ℕ) → mark H m ≡ 0 → HasVersions B H m B
versions B H m none = record {
  super = refl;
  metas = has-meta B H m none;
  values = λ i k live lt. inr (has-value B H m none i k live);
  records = in-base B H m none;
  sure = λ i g k s lt sure. not-lost B H m none i g k s sure;
}

pub law-unflushed : LawUnflushed
law-unflushed B H m none =
    record { len = refl; versions = versions B H m none; names = names-stay B H m B (versions B H m none) }
