-- What becomes of files by what is given: nothing, a meta and a cell, a cell and a new file.
use Rattle.std.proofs.Common.{◌≡◌, ℕ, Bool, true, false, cond, eqb, [], ◌∷◌, Option, Some, None, unwrap_or, refl, sym}
use Rattle.std.proofs.Common.{ap, ◌∙◌, eqb-true}
use Rattle.std.proofs.Common.{eq-eqb, ne_eqb}
use Rattle.std.proofs.lemmas.Bool.{eqb-false}
use Rattle.nofs_model.specs.Files.{FileState, Files}
use Rattle.nofs_model.specs.declared.image.value.Value.{Value}
use Rattle.nofs_model.specs.declared.image.value.Value.TheVariants.{Hole}
use Rattle.nofs_history.specs.Meta.{Meta, Is}
use Rattle.nofs_history.specs.Machine.{Given, nothing, link_to, cell_given, no_meta, file_after, born_file, new_file}
use Rattle.nofs_history.specs.Machine.{files_after}
use Rattle.nofs_history.specs.Accepted.Files.{kept_file, kept_files, with_file}
use Rattle.nofs_history.specs.Accepted.Taken.{metas_alone, made_file}
use Rattle.nofs_history.specs.Accepted.Given.{with_birth}
use Rattle.nofs_history.specs.declared.accepted.given.given.Birth.{Birth}
use Rattle.nofs_history.proofs.OnAccepted.Alike.{ends, held, ends-after, after-same, same-given}
use Rattle.nofs_history.proofs.OnAccepted.Aimed.{cell-last}

pub nothing_after : (F : Files) → kept_files F ≡ kept_files (files_after F nothing)
nothing_after F = λ j i. go i (F i) j
  where
    go : (i : ℕ) (o : Option FileState) → kept_file o ≡ kept_file (file_after nothing i o)
    go i None = refl
    go i (Some f) = refl

pub meta_and_cell : (F M N : Files) (i g k : ℕ) (v : Value) (metas : ℕ → ℕ → Option Meta)
    → kept_files M ≡ kept_files (files_after F (metas_alone metas))
    → kept_files N ≡ kept_files (files_after M (cell_given i g k v no_meta))
    → kept_files N ≡ kept_files (files_after F (cell_given i g k v metas))
meta_and_cell F M N i g k v metas first second =
    second
    ∙ after-same M (files_after F (metas_alone metas)) first (cell_given i g k v no_meta) (cell_given i g k v no_meta)
    (same-given (cell_given i g k v no_meta))
    ∙ ap kept_files (sym (cell-last F i g k v metas))

-- A cell, and then a new file

-- a birth beside a cell
abbrev born_beside : ℕ → ℕ → ℕ → Value → Birth → Given
born_beside d g k v it = with_birth (cell_given d g k v no_meta) it

-- the new file is a file without content
birth-there : (d g k : ℕ) (v : Value) (it : Birth) (j : ℕ) → eqb it.inode j ≡ true
    → kept_file (Some (made_file it.generation it.kind it.link))
    ≡ kept_file (file_after (born_beside d g k v it) j (Some (new_file it.generation)))
birth-there d g k v it j q =
    let r = eq-eqb j it.inode (sym (eqb-true it.inode j q)) in
    let h = eq-eqb it.generation it.generation refl in
    let m : (born_beside d g k v it).metas j it.generation
    ≡ Some (Is it.kind 0 (it.link ∷ link_to 0 0 0 ∷ link_to 0 0 0 ∷ link_to 0 0 0 ∷ [])) =
    rw (r, h) refl in
    let s : (l : ℕ) → (born_beside d g k v it).slots j it.generation l ≡ Some Hole = λ l. rw (q, h) refl in
    sym (ends-after (born_beside d g k v it) j ((born_beside d g k v it).metas j it.generation) (new_file it.generation)
    ∙ (λ t. ends (m t) it.generation (new_file it.generation).kind 0 [] (held (λ l. unwrap_or (s l t) Hole))))

-- to another inode goes what the cell alone gives
birth-elsewhere : (d g k : ℕ) (v : Value) (it : Birth) (j : ℕ)
    → eqb it.inode j ≡ false → eqb j it.inode ≡ false → (o : Option FileState)
    → kept_file (file_after (cell_given d g k v no_meta) j o) ≡ kept_file (file_after (born_beside d g k v it) j o)
birth-elsewhere d g k v it j q r None = refl
birth-elsewhere d g k v it j q r (Some f) =
    let m : (born_beside d g k v it).metas j f.generation ≡ None = rw r refl in
    let n = sym m in
    let slot : (l : ℕ) → (cell_given d g k v no_meta).slots j f.generation l
    ≡ (born_beside d g k v it).slots j f.generation l = λ l. rw q refl in
    ends-after (cell_given d g k v no_meta) j None f
    ∙ (λ t. ends (n t) f.generation f.kind f.size f.links (held (λ l. unwrap_or (slot l t) (f.values l))))
    ∙ sym (ends-after (born_beside d g k v it) j ((born_beside d g k v it).metas j f.generation) f)

pub cell_and_birth : (F M N : Files) (d g k : ℕ) (v : Value) (it : Birth) (made : FileState)
    → kept_files M ≡ kept_files (files_after F (cell_given d g k v no_meta)) → N ≡ with_file M it.inode (Some made)
    → made ≡ made_file it.generation it.kind it.link
    → kept_files N ≡ kept_files (files_after F (born_beside d g k v it))
cell_and_birth F M N d g k v it made cell back is =
    ap kept_files (back ∙ ap (λ (h : FileState). with_file M it.inode (Some h)) is)
    ∙ (λ t j. at j (eqb it.inode j) refl t)
  where
    at : (j : ℕ) (b : Bool) → eqb it.inode j ≡ b
        → kept_file (cond (eqb it.inode j) (Some (made_file it.generation it.kind it.link)) (M j))
        ≡ kept_file (files_after F (born_beside d g k v it) j)
    at j true q =
        let r = eq-eqb j it.inode (sym (eqb-true it.inode j q)) in
        let b : (born_beside d g k v it).born j ≡ Some it.generation = rw r refl in
        ap (λ (t : Bool). kept_file (cond t (Some (made_file it.generation it.kind it.link)) (M j))) q
        ∙ birth-there d g k v it j q
        ∙ ap (λ (n : Option ℕ). kept_file (file_after (born_beside d g k v it) j (born_file n (F j)))) (sym b)
    at j false q =
        let r = ne_eqb j it.inode (λ p. eqb-false it.inode j q (sym p)) in
        let b : (born_beside d g k v it).born j ≡ None = rw r refl in
        ap (λ (t : Bool). kept_file (cond t (Some (made_file it.generation it.kind it.link)) (M j))) q
        ∙ (λ t. cell t j)
        ∙ birth-elsewhere d g k v it j q r (F j)
        ∙ ap (λ (n : Option ℕ). kept_file (file_after (born_beside d g k v it) j (born_file n (F j)))) (sym b)
