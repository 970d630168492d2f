-- What is given to a file, and small facts of blocks and slots that each step needs.
use Rattle.std.proofs.Common.{◌≡◌, ◌≢◌, ℕ, ◌+◌, ◌<◌, ◌≤◌, inl, inr, Bool, true, false}
use Rattle.std.proofs.Common.{ltb, ◌||◌, Option, Some, None, unwrap_or, refl, sym, ap, ◌∙◌, subst, arith}
use Rattle.std.proofs.Common.{eq-eqb, leb, leb-true, ◌-◌, ◌/◌, ◌%◌}
use Rattle.nofs_crashlaw.specs.Images.Proper.{IsContentKind}
use Rattle.nofs_model.proofs.OnSlots.Find.{and-both, find-held}
use Rattle.nofs_crashlaw.specs.Untouched.Frames.{SameMeta}
use Rattle.nofs_crashlaw.proofs.OnFiles.Growth.{same_path-true}
use Rattle.nofs_model.specs.declared.image.path.PathAnswer.TheVariants as answer
use Rattle.nofs_history.specs.Meta.{Meta}
use Rattle.nofs_history.specs.Machine.{Given, is_at, filled, after_meta, born_file, file_after, files_after, value_of}
use Rattle.nofs_history.specs.Machine.{size_of, lies_above, same_path}
use Rattle.nofs_history.specs.History.{SameFile}
use Rattle.nofs_inode.specs.declared.inode.FileKind.{FileKind}
use Rattle.nofs_inode.specs.declared.inode.FileKind.TheVariants.{File, Directory as Folder}
use Rattle.nofs_inode.specs.declared.inode.Record.{Record}
use Rattle.nofs_disk.specs.declared.tag.Pointer.{Pointer}
use Rattle.nofs_disk.specs.declared.tag.Kind.TheVariants.{Content, Directory}
use Rattle.nofs_model.specs.Geometry.{Image, super_at, is_data_block, inode, is_inode}
use Rattle.nofs_ptrs.specs.Paths.{Path, InRecord, Under}
use Rattle.nofs_model.specs.Slots.{find}
use Rattle.nofs_model.specs.Files.{NodeState, FileState, Files, is_folder}
use Rattle.nofs_model.specs.declared.image.value.Value.{Value}

-- a file to which nothing is given stays
pub given-elsewhere : (F : Files) (given : Given) (j : ℕ) → given.born j ≡ None → ((g k : ℕ) → given.slots j g k ≡ None)
    → ((g : ℕ) (path : Path) → given.nodes j g path ≡ None) → ((g : ℕ) → given.metas j g ≡ None)
    → SameFile (files_after F given j) (F j)
given-elsewhere F given j born slots nodes metas =
    subst (λ (b : Option ℕ). SameFile (file_after given j (born_file b (F j))) (F j)) (sym born) (go (F j))
  where
    go : (o : Option FileState) → SameFile (file_after given j o) o
    go None = tt
    go (Some f) = subst (λ (m : Option Meta). SameFile (after_meta m (filled given j f)) (Some f))
        (sym (metas f.generation)) (record {
          generation = refl;
          kind = refl;
          size = refl;
          links = refl;
          values = λ k lt. ap (λ (v : Option Value). unwrap_or v (f.values k)) (slots f.generation k);
          nodes = λ path s p. ap (λ (v : Option NodeState). unwrap_or v (f.nodes path)) (nodes f.generation path);
        })

pub same-trans : (o p q : Option FileState) → SameFile o p → SameFile p q → SameFile o q
same-trans None None None h j = tt
same-trans None None (Some c) h j = absurd j
same-trans None (Some b) q h j = absurd h
same-trans (Some a) None q h j = absurd h
same-trans (Some a) (Some b) None h j = absurd j
same-trans (Some a) (Some b) (Some c) h j = record {
  generation = h.generation ∙ j.generation;
  kind = h.kind ∙ j.kind;
  size = h.size ∙ j.size;
  links =
      h.links ∙ j.links;
  values = λ k lt. h.values k lt ∙ j.values k lt;
  nodes = λ path s p. h.nodes path s p ∙ j.nodes path s p;
}

pub content-kind : (o : Option FileKind)
    → IsContentKind (elim o [ None ↦ Content | Some kind ↦ elim kind [ File ↦ Content | Folder ↦ Directory ] ])
content-kind None = inl refl
content-kind (Some File) = inl refl
content-kind (Some Folder) = inr refl

-- a file is no directory
pub file-apart : (F : Files) (i d : ℕ) (f h : FileState) → F i ≡ Some h → F d ≡ Some f
    → is_folder h.kind ≡ false → is_folder f.kind ≡ true → i ≢ d
file-apart F i d f h is_i is file folder t =
    let at : F d ≡ Some h = subst (λ (q : ℕ). F q ≡ Some h) t is_i in
    let same : f ≡ h = cc (at, is) in
    let z : is_folder h.kind ≡ true = subst (λ (q : FileState). is_folder q.kind ≡ true) same folder in cc (z, file)

-- where no file is, none is a directory
pub none-apart : (F : Files) (i d : ℕ) (f : FileState) → F i ≡ None → F d ≡ Some f → i ≢ d
none-apart F i d f none is t = let at : F d ≡ None = subst (λ (q : ℕ). F q ≡ None) t none in cc (at, is)

-- the meta of a record that stays
pub meta-stays : (X Y : Image) (j : ℕ) → inode Y j ≡ inode X j → SameMeta X Y j
meta-stays X Y j same = record {
  kind = ap (λ (r : Record). r.kind) same;
  generation = ap (λ (r : Record). r.generation) same;
  size = ap (λ (r : Record). r.size) same;
  links = ap (λ (r : Record). r.links) same;
}

pub at-itself : (i g : ℕ) → is_at i g i g ≡ true
at-itself i g = rw (eq-eqb i i refl, eq-eqb g g refl) refl

pub value-of : (F : Files) (i : ℕ) (f : FileState) → F i ≡ Some f → (k : ℕ) → value_of F i k ≡ f.values k
value-of F i f e k = rw (e, value_of) refl

pub size-of : (F : Files) (i : ℕ) (f : FileState) → F i ≡ Some f → size_of F i ≡ f.size
size-of F i f e = rw (e, size_of) refl

pub not-table : (X : Image) (b i : ℕ)
    → (super_at X).inodes % 4 ≡ 0 → is_data_block X b ≡ true → is_inode X i ≡ true → 1 + (i - 1) / 4 ≡ b → ⊥
not-table X b i q area range e =
    let first = leb-true (1 + (super_at X).inodes / 4) b
    (and-both (leb (1 + (super_at X).inodes / 4) b) (ltb b (super_at X).blocks) area).0 in
    let both = and-both (leb 1 i) (leb i (super_at X).inodes) range in
    let low : 1 ≤ i = leb-true 1 i both.0 in
    let high : i ≤ (super_at X).inodes = leb-true i (super_at X).inodes both.1 in
    omega (arith, first, low, high, e, q)

pub data-positive : (X : Image) (b : ℕ) → is_data_block X b ≡ true → 0 < b
data-positive X b area = let first = leb-true (1 + (super_at X).inodes / 4) b
    (and-both (leb (1 + (super_at X).inodes / 4) b) (ltb b (super_at X).blocks) area).0 in omega (arith, first)

pub lies-held : (X : Image) (i : ℕ) (a p : Path) (x : Pointer) → lies_above a p ≡ true → find X i p ≡ answer.Holds x
    → (y : Pointer) × (find X i a ≡ answer.Holds y)
lies-held X i a (InRecord n) x e h = cc
lies-held X i a (Under b n) x e h =
    let up = (find-held X i (Under b n) x h).above in
    go (same_path a b) refl (λ l. lies-held X i a b up.0 l up.1) up e
  where
    go : (t : Bool) → same_path a b ≡ t → (lies_above a b ≡ true → (y : Pointer) × (find X i a ≡ answer.Holds y))
        → (y : Pointer) × (find X i b ≡ answer.Holds y)
        → (t || lies_above a b) ≡ true → (y : Pointer) × (find X i a ≡ answer.Holds y)
    go true et ih up l = (up.0, subst (λ (q : Path). find X i q ≡ answer.Holds up.0) (sym (same_path-true a b et)) up.1)
    go false et ih up l = ih l
