-- Files after what is given to one inode of one generation.
use Rattle.std.proofs.Common.{◌≡◌, ℕ, Bool, true, false, ◌&&◌, cond, eqb, Option, Some, None, unwrap_or, refl, sym, ap}
use Rattle.std.proofs.Common.{◌∙◌, eqb-true, eq-eqb, ne_eqb}
use Rattle.nofs_model.specs.Files.{FileState, Files}
use Rattle.nofs_model.specs.declared.image.value.Value.{Value}
use Rattle.nofs_history.specs.Meta.{Meta, Gone, Is}
use Rattle.nofs_history.specs.Machine.{Given, is_at, cell_given, meta_given, no_meta, resize_given, filled, after_meta}
use Rattle.nofs_history.specs.Machine.{file_after, born_file}
use Rattle.nofs_history.specs.Machine.{files_after}
use Rattle.nofs_history.specs.Accepted.Files.{kept_file, kept_files, with_file, has_generation}
use Rattle.nofs_history.specs.Accepted.Taken.{metas_alone}
use Rattle.nofs_history.proofs.OnAccepted.Alike.{ends, held, ends-after}

-- nothing is given to other inodes and generations
pub record IsAimed (a : Given) (i g : ℕ) : Type 0 where
  pub born : (j : ℕ) → a.born j ≡ None
  pub slots : (j h k : ℕ) → is_at i g j h ≡ false → a.slots j h k ≡ None
  pub metas : (j h : ℕ) → is_at i g j h ≡ false → a.metas j h ≡ None

pub cell-aimed : (i g k : ℕ) (v : Value) → IsAimed (cell_given i g k v no_meta) i g
cell-aimed i g k v = record { born = λ j. refl; slots = λ j h l e. rw e refl; metas = λ j h e. refl }

pub resize-aimed : (F : Files) (i g size : ℕ) → IsAimed (resize_given F i g size) i g
resize-aimed F i g size = record { born = λ j. refl; slots = λ j h l e. rw e refl; metas = λ j h e. rw e refl }

pub meta-aimed : (i g : ℕ) (m : Meta) → IsAimed (metas_alone (meta_given i g m)) i g
meta-aimed i g m = record { born = λ j. refl; slots = λ j h l e. refl; metas = λ j h e. rw e refl }

-- a file to which nothing is given
quiet : (a : Given) (j : ℕ) (o : Option FileState) → a.born j ≡ None → ((f : FileState) → o ≡ Some f
    → ((k : ℕ) → a.slots j f.generation k ≡ None) × (a.metas j f.generation ≡ None))
    → kept_file (file_after a j (born_file (a.born j) o)) ≡ kept_file o
quiet a j o born none = rw born (go o none)
  where
    go : (p : Option FileState)
        → ((f : FileState) → p ≡ Some f → ((k : ℕ) → a.slots j f.generation k ≡ None) × (a.metas j f.generation ≡ None))
        → kept_file (file_after a j p) ≡ kept_file p
    go None q = refl
    go (Some f) q =
        let n = q f refl in
        ends-after a j (a.metas j f.generation) f
        ∙ (λ t. ends (n.1 t) f.generation f.kind f.size f.links (held (λ k. unwrap_or (n.0 k t) (f.values k))))

elsewhere : (i g j h : ℕ) → eqb i j ≡ false → is_at i g j h ≡ false
elsewhere i g j h e = rw e refl

-- where the inode has no file of this generation, all stay
pub aimed-missing : (F : Files) (a : Given) (i g : ℕ) → IsAimed a i g
    → has_generation F i g ≡ false → kept_files F ≡ kept_files (files_after F a)
aimed-missing F a i g aimed missing = sym (λ t j. quiet a j (F j) (aimed.born j) (λ f e. let n = other j f e in
    ((λ k. aimed.slots j f.generation k n), aimed.metas j f.generation n)) t)
  where
    other : (j : ℕ) (f : FileState) → F j ≡ Some f → is_at i g j f.generation ≡ false
    other j f e = go (eqb i j) refl
      where
        go : (b : Bool) → eqb i j ≡ b → (b && eqb g f.generation) ≡ false
        go false s = refl
        go true s =
            let same = eqb-true i j s in
            let there : F i ≡ Some f = ap F same ∙ e in
            let no : eqb f.generation g ≡ false = sym
            (ap (λ (o : Option FileState). elim o as (λ x. Bool) [ None ↦ false | Some q ↦ eqb q.generation g ]) there)
            ∙ missing in
            ne_eqb g f.generation (λ q. absurd (cc (no, eq-eqb f.generation g (sym q))))

-- a file taken out and put back changed
pub aimed-there : (F : Files) (a : Given) (i g : ℕ) (f f' : FileState) → IsAimed a i g → F i ≡ Some f
    → kept_file (file_after a i (Some f)) ≡ kept_file (Some f')
    → kept_files (with_file (with_file F i None) i (Some f')) ≡ kept_files (files_after F a)
aimed-there F a i g f f' aimed there same = λ t j. go j (eqb i j) refl t
  where
    go : (j : ℕ) (b : Bool) → eqb i j ≡ b → kept_file (cond (eqb i j) (Some f') (cond (eqb i j) None (F j)))
        ≡ kept_file (file_after a j (born_file (a.born j) (F j)))
    go j true e =
        let s = eqb-true i j e in
        let here : F j ≡ Some f = ap F (sym s) ∙ there in
        let b = aimed.born j in
        rw (e, here, b) (sym same ∙ ap (λ (n : ℕ). kept_file (file_after a n (Some f))) s)
    go j false e = rw e (sym (quiet a j (F j) (aimed.born j)
        (λ h q. (
          (λ k. aimed.slots j h.generation k (elsewhere i g j h.generation e)),
          aimed.metas j h.generation (elsewhere i g j h.generation e),
        ))))

-- a file taken out for good
pub aimed-gone : (F : Files) (a : Given) (i g : ℕ) (f : FileState) → IsAimed a i g → F i ≡ Some f
    → file_after a i (Some f) ≡ None
    → kept_files (with_file F i None) ≡ kept_files (files_after F a)
aimed-gone F a i g f aimed there gone = λ t j. go j (eqb i j) refl t
  where
    go : (j : ℕ) (b : Bool)
        → eqb i j ≡ b → kept_file (cond (eqb i j) None (F j)) ≡ kept_file (file_after a j (born_file (a.born j) (F j)))
    go j true e =
        let s = eqb-true i j e in
        let here : F j ≡ Some f = ap F (sym s) ∙ there in
        let b = aimed.born j in
        rw (e, here, b) (ap kept_file (sym gone) ∙ ap (λ (n : ℕ). kept_file (file_after a n (Some f))) s)
    go j false e = rw e (sym (quiet a j (F j) (aimed.born j)
        (λ h q. (
          (λ k. aimed.slots j h.generation k (elsewhere i g j h.generation e)),
          aimed.metas j h.generation (elsewhere i g j h.generation e),
        ))))

-- metas first, then a cell
pub cell-last : (F : Files) (i g k : ℕ) (v : Value) (metas : ℕ → ℕ → Option Meta)
    → files_after F (cell_given i g k v metas)
    ≡ files_after (files_after F (metas_alone metas)) (cell_given i g k v no_meta)
cell-last F i g k v metas = λ t j. go j (F j) t
  where
    after : (j : ℕ) (f : FileState) (m : Option Meta) → after_meta m (filled (cell_given i g k v metas) j f)
        ≡ file_after (cell_given i g k v no_meta) j (after_meta m (filled (metas_alone metas) j f))
    after j f None = refl
    after j f (Some Gone) = refl
    after j f (Some (Is kind size links)) = refl

    go : (j : ℕ) (o : Option FileState)
        → file_after (cell_given i g k v metas) j o ≡ file_after (cell_given i g k v no_meta) j
        (file_after (metas_alone metas) j o)
    go j None = refl
    go j (Some f) = after j f (metas j f.generation)
