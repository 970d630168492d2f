-- Agreement depends on kinds, generations, links and the cells of directories alone.
use Rattle.std.proofs.Common.{◌≡◌, ℕ, ◌/◌, ◌<◌, Bool, true, false, cond, eqb, ltb, ◌&&◌, ◌||◌, List, Option, Some, None}
use Rattle.std.proofs.Common.{is_some, refl, sym, ap, ◌∙◌, subst, arith, Contains, ltb-true, eqb-true}
use Rattle.nofs_inode.specs.declared.inode.FileKind.TheVariants.{Directory as Folder, File}
use Rattle.nofs_model.proofs.OnFiles.Chains.{pair-of, agreed-holds, holds-agreed}
use Rattle.nofs_crashlaw.proofs.OnUntouched.Matches.{matched-file, matched-agreed, agreed-files-is}
use Rattle.nofs_crashlaw.proofs.OnUntouched.Frames.{some-is, files-match}
use Rattle.nofs_history.specs.Since.{agreed_files}
use Rattle.nofs_history.specs.History.{FilesMatch, SameFile}
use Rattle.nofs_inode.specs.declared.inode.FileKind.{FileKind}
use Rattle.nofs_inode.specs.declared.inode.BackLink.{BackLink}
use Rattle.nofs_inode.specs.InodeRecords.{is_live}
use Rattle.nofs_dirent.specs.Entries.{entry_limit}
use Rattle.nofs_model.specs.Geometry.{Image, inode}
use Rattle.nofs_model.specs.Files.{file_from, files_in, agreed, Agreed, root, linked, FileState, Files}
use Rattle.nofs_model.specs.Files.{is_folder, entry_held}
use Rattle.nofs_model.specs.Files.{entry_in_file, pairs, is_a, is_pair, links_in_file, links_of, is_root, is_special}
use Rattle.nofs_model.specs.declared.image.value.Value.{Value}

-- none of two is there, or both are and are related
abbrev pub Both : {A : Type 0} → (A → A → Type 0) → Option A → Option A → Type 0
Both R None None = Unit {0}
Both R None (Some b) = ⊥
Both R (Some a) None = ⊥
Both R (Some a) (Some b) = R a b

-- what is the same of related ones is the same of both
pub both-same : {A B : Type 0} (R : A → A → Type 0) (f : Option A → B) → ((a b : A) → R a b → f (Some a) ≡ f (Some b))
    → (o p : Option A) → Both R o p
    → f o ≡ f p
both-same R f same None None h = refl
both-same R f same None (Some b) h = absurd h
both-same R f same (Some a) None h = absurd h
both-same R f same (Some a) (Some b) h = same a b h

both-sym : {A : Type 0} (R : A → A → Type 0) → ((a b : A) → R a b → R b a) → (o p : Option A) → Both R o p → Both R p o
both-sym R back None None h = tt
both-sym R back None (Some b) h = absurd h
both-sym R back (Some a) None h = absurd h
both-sym R back (Some a) (Some b) h = back a b h

both-trans : {A : Type 0} (R : A → A → Type 0) → ((a b c : A) → R a b → R b c → R a c) → (o p q : Option A) → Both R o p
    → Both R p q → Both R o q
both-trans R on None None q h j = j
both-trans R on None (Some b) q h j = absurd h
both-trans R on (Some a) None q h j = absurd h
both-trans R on (Some a) (Some b) None h j = absurd j
both-trans R on (Some a) (Some b) (Some c) h j = on a b c h j

-- two files that a pair can't tell apart
abbrev pub AlikeFiles : FileState → FileState → Type 0
AlikeFiles a b = record {
  generation : a.generation ≡ b.generation;
  kind : a.kind ≡ b.kind;
  links : a.links ≡ b.links;
  cells : is_folder a.kind ≡ true → (k : ℕ) → k < 72 → a.values k ≡ b.values k;
}

abbrev pub Alike : Option FileState → Option FileState → Type 0
Alike = Both AlikeFiles

-- two files of one kind and generation, with the same links
abbrev pub KinFiles : FileState → FileState → Type 0
KinFiles a b = record { generation : a.generation ≡ b.generation; kind : a.kind ≡ b.kind; links : a.links ≡ b.links }

abbrev pub Kin : Option FileState → Option FileState → Type 0
Kin = Both KinFiles

pub same-alike : (o p : Option FileState) → SameFile o p → Alike o p
same-alike None None h = tt
same-alike None (Some b) h = absurd h
same-alike (Some a) None h = absurd h
same-alike (Some a) (Some b) h =
    record { generation = h.generation; kind = h.kind; links = h.links; cells = λ d k lt. h.values k (omega arith) }

pub alike-sym : (o p : Option FileState) → Alike o p → Alike p o
alike-sym = both-sym AlikeFiles (λ a b h. record {
  generation = sym h.generation;
  kind = sym h.kind;
  links = sym h.links;
  cells = λ d k lt. sym (h.cells (subst (λ (q : FileKind). is_folder q ≡ true) (sym h.kind) d) k lt);
})

pub alike-trans : (o p q : Option FileState) → Alike o p → Alike p q → Alike o q
alike-trans = both-trans AlikeFiles (λ a b c h j. record {
  generation = h.generation ∙ j.generation;
  kind = h.kind ∙ j.kind;
  links = h.links ∙ j.links;
  cells = λ d k lt. h.cells d k lt ∙ j.cells (subst (λ (q : FileKind). is_folder q ≡ true) h.kind d) k lt;
})

pub kin-sym : (o p : Option FileState) → Kin o p → Kin p o
kin-sym = both-sym KinFiles (λ a b h. record { generation = sym h.generation; kind = sym h.kind; links = sym h.links })

pub entry-alike : (o p : Option FileState) (e : ℕ) → Alike o p → entry_in_file o e ≡ entry_in_file p e
entry-alike None None e h = refl
entry-alike None (Some b) e h = absurd h
entry-alike (Some a) None e h = absurd h
entry-alike (Some a) (Some b) e h = rw (sym h.kind) (inside (is_folder a.kind) refl (ltb e entry_limit) refl)
  where
    inside : (x : Bool) → is_folder a.kind ≡ x → (y : Bool) → ltb e entry_limit ≡ y
        → cond (x && y) (entry_held (a.values (e / 16)) e) None ≡ cond (x && y) (entry_held (b.values (e / 16)) e) None
    inside false ex y ey = refl
    inside true ex false ey = refl
    inside true ex true ey =
        let lt : e < entry_limit = ltb-true e entry_limit ey in
        let k : e / 16 < 72 = omega (arith, lt) in
        ap (λ (v : Value). entry_held v e) (h.cells ex (e / 16) k)

-- one kind and generation
same-a : (q : FileKind) (a b : FileState) (g : ℕ)
    → a.kind ≡ b.kind → a.generation ≡ b.generation → is_a q g (Some a) ≡ is_a q g (Some b)
same-a Folder a b g kind generation = rw (kind, generation)
same-a File a b g kind generation = rw (kind, generation)

pub a-alike : (q : FileKind) (o p : Option FileState) (g : ℕ) → Alike o p → is_a q g o ≡ is_a q g p
a-alike q o p g = both-same AlikeFiles (is_a q g) (λ a b h. same-a q a b g h.kind h.generation) o p

pub a-kin : (q : FileKind) (o p : Option FileState) (g : ℕ) → Kin o p → is_a q g o ≡ is_a q g p
a-kin q o p g = both-same KinFiles (is_a q g) (λ a b h. same-a q a b g h.kind h.generation) o p

pairs-kin : (o p u v : Option FileState) (i : ℕ) (link : BackLink) → Kin o p → Alike u v
    → pairs o u i link ≡ pairs p v i link
pairs-kin None None u v i link own up = refl
pairs-kin None (Some b) u v i link own up = absurd own
pairs-kin (Some a) None u v i link own up = absurd own
pairs-kin (Some a) (Some b) u v i link own up =
    rw (entry-alike u v link.entry up, a-alike Folder u v link.generation up, own.kind, own.generation)

alike-kin : (o p : Option FileState) → Alike o p → Kin o p
alike-kin None None h = tt
alike-kin None (Some b) h = absurd h
alike-kin (Some a) None h = absurd h
alike-kin (Some a) (Some b) h = record { generation = h.generation; kind = h.kind; links = h.links }

pub pairs-alike : (o p u v : Option FileState) (i : ℕ) (link : BackLink) → Alike o p → Alike u v
    → pairs o u i link ≡ pairs p v i link
pairs-alike o p u v i link own up = pairs-kin o p u v i link (alike-kin o p own) up

pub links-kin : (o p : Option FileState) → Kin o p → links_in_file o ≡ links_in_file p
links-kin = both-same KinFiles links_in_file (λ a b h. h.links)

links-alike : (o p : Option FileState) → Alike o p → links_in_file o ≡ links_in_file p
links-alike = both-same AlikeFiles links_in_file (λ a b h. h.links)

pub some-alike : (o p : Option FileState) → Alike o p → is_some o ≡ is_some p
some-alike = both-same AlikeFiles is_some (λ a b h. refl)

root-alike : (F G : Files) → ((i : ℕ) → Alike (F i) (G i)) → (i : ℕ) → is_root F i ≡ is_root G i
root-alike F G h i = rw (a-alike Folder (F 1) (G 1) 1 (h 1), a-alike File (F 2) (G 2) 2 (h 2))

-- files that are alike agree alike
pub agreed-alike : (F G : Files) → ((i : ℕ) → Alike (F i) (G i)) → (i : ℕ) → Agreed F i → Agreed G i
agreed-alike F G h i (root r) = root (sym (root-alike F G h i) ∙ r)
agreed-alike F G h i (linked link plain has pair up) =
    linked link plain (subst (λ (ls : List BackLink). Contains ls link) (links-alike (F i) (G i) (h i)) has)
    (sym (pairs-alike (F i) (G i) (F link.directory) (G link.directory) i link (h i) (h link.directory)) ∙ pair)
    (agreed-alike F G h link.directory up)

pub agreed-same : (F G : Files) → ((i : ℕ) → Alike (F i) (G i)) → (i : ℕ) → agreed F i ≡ agreed G i
agreed-same F G h i = go (agreed F i) refl (agreed G i) refl
  where
    go : (a : Bool) → agreed F i ≡ a → (b : Bool) → agreed G i ≡ b → agreed F i ≡ agreed G i
    go true ea b eb = let g = holds-agreed G i (agreed-alike F G h i (agreed-holds F i ea)) in ea ∙ sym g
    go false ea false eb = ea ∙ sym eb
    go false ea true eb =
        let f = holds-agreed F i (agreed-alike G F (λ j. alike-sym (F j) (G j) (h j)) i (agreed-holds G i eb)) in
        absurd (cc (ea, f))

is-a-some : (q : FileKind) (g : ℕ) (o : Option FileState) → is_a q g o ≡ true → is_some o ≡ true
is-a-some q g None e = cc
is-a-some q g (Some f) e = refl

-- what is agreed is there
pub agreed-some : (F : Files) (i : ℕ) → Agreed F i → is_some (F i) ≡ true
agreed-some F i (root r) = go (eqb i 1) refl (eqb i 2) refl (is_a Folder 1 (F 1)) refl (is_a File 2 (F 2)) refl r
  where
    go : (p : Bool) → eqb i 1 ≡ p → (q : Bool) → eqb i 2 ≡ q → (a : Bool) → is_a Folder 1 (F 1) ≡ a → (b : Bool)
        → is_a File 2 (F 2) ≡ b
        → ((p && a) || (q && b)) ≡ true → is_some (F i) ≡ true
    go true ep q eq true ea b eb e =
        subst (λ (j : ℕ). is_some (F j) ≡ true) (sym (eqb-true i 1 ep)) (is-a-some Folder 1 (F 1) ea)
    go true ep true eq false ea true eb e =
        subst (λ (j : ℕ). is_some (F j) ≡ true) (sym (eqb-true i 2 eq)) (is-a-some File 2 (F 2) eb)
    go true ep true eq false ea false eb e = cc
    go true ep false eq false ea b eb e = cc
    go false ep true eq a ea true eb e =
        subst (λ (j : ℕ). is_some (F j) ≡ true) (sym (eqb-true i 2 eq)) (is-a-some File 2 (F 2) eb)
    go false ep true eq a ea false eb e = cc
    go false ep false eq a ea b eb e = cc
agreed-some F i (linked link plain has pair up) = let p = pair-of F i link pair in some-is (F i) p.own p.own_is

pub live-some : (X : Image) (i : ℕ) → is_some (files_in X i) ≡ true → is_live (inode X i) ≡ true
live-some X i e = go (inode X i).kind refl e
  where
    go : (k : Option FileKind) → (inode X i).kind ≡ k → is_some (file_from X i k) ≡ true → is_live (inode X i) ≡ true
    go None ek h = cc
    go (Some kind) ek h = rw ek refl

pub same-of : (F : Files) (X : Image) (i : ℕ) → FilesMatch F X
    → agreed (files_in X) i ≡ true → SameFile (F i) (files_in X i)
same-of F X i match a = subst (λ (o : Option FileState). SameFile (F i) o) (opened X i ∙ rw a refl) (match i)
  where
    opened : (X : Image) (i : ℕ) → agreed_files X i ≡ cond (agreed (files_in X) i) (files_in X i) None
    opened X i = agreed-files-is X i

-- the machine's file of an inode, in the image
pub file-in : (F : Files) (X : Image) (i : ℕ) (f : FileState) → FilesMatch F X → F i ≡ Some f
    → ((inode X i).kind ≡ Some f.kind) × SameFile (Some f) (file_from X i (Some f.kind))
file-in F X i f match is =
    let own = matched-file F X i match (some-is (F i) f is) in
    let same = subst (λ (o : Option FileState). SameFile o (files_in X i)) is (same-of F X i match own.agreed) in
    let k = go (inode X i).kind refl same in
    (k, subst (λ (q : Option FileKind). SameFile (Some f) (file_from X i q)) k same)
  where
    go : (o : Option FileKind) → (inode X i).kind ≡ o → SameFile (Some f) (file_from X i o)
        → (inode X i).kind ≡ Some f.kind
    go None e h = absurd h
    go (Some kind) e h = e ∙ ap Some (sym h.kind)

-- the machine's files are agreed among themselves
pub agreed-machine : (F : Files) (X : Image) → FilesMatch F X → (i : ℕ) → Agreed (files_in X) i → Agreed F i
agreed-machine F X match i (root r) = root (go (eqb i 1) refl (eqb i 2) refl r)
  where
    first : eqb i 1 ≡ true → is_root (files_in X) i ≡ true → is_a Folder 1 (F 1) ≡ is_a Folder 1 (files_in X 1)
    first e r = a-alike Folder (F 1) (files_in X 1) 1 (same-alike (F 1) (files_in X 1)
        (same-of F X 1 match
        (subst (λ (j : ℕ). agreed (files_in X) j ≡ true) (eqb-true i 1 e) (holds-agreed (files_in X) i (root r)))))

    second : eqb i 2 ≡ true → is_root (files_in X) i ≡ true → is_a File 2 (F 2) ≡ is_a File 2 (files_in X 2)
    second e r = a-alike File (F 2) (files_in X 2) 2 (same-alike (F 2) (files_in X 2)
        (same-of F X 2 match
        (subst (λ (j : ℕ). agreed (files_in X) j ≡ true) (eqb-true i 2 e) (holds-agreed (files_in X) i (root r)))))

    go : (p : Bool) → eqb i 1 ≡ p → (q : Bool) → eqb i 2 ≡ q → is_root (files_in X) i ≡ true → is_root F i ≡ true
    go true ep true eq r = rw (first ep r, second eq r) r
    go true ep false eq r = rw (first ep r, eq) (rw eq at r)
    go false ep true eq r = rw (second eq r, ep) (rw ep at r)
    go false ep false eq r = rw (ep, eq) (rw (ep, eq) at r)
agreed-machine F X match i (linked link plain has pair up) =
    let own = same-of F X i match (holds-agreed (files_in X) i (linked link plain has pair up)) in
    let parent = same-of F X link.directory match (holds-agreed (files_in X) link.directory up) in
    let e = pairs-alike (F i) (files_in X i) (F link.directory) (files_in X link.directory) i link
    (same-alike (F i) (files_in X i) own)
    (same-alike (F link.directory) (files_in X link.directory) parent) in
    let l = links-alike (F i) (files_in X i) (same-alike (F i) (files_in X i) own) in
    linked link plain (subst (λ (ls : List BackLink). Contains ls link) (sym l) has) (e ∙ pair)
    (agreed-machine F X match link.directory up)

-- A step that leaves agreement alone: what is agreed goes over to the new files, and what is not keeps its kind,
-- generation and links.
module _ (F E : Files) (X Y : Image) (match : FilesMatch F X) (files : (i : ℕ) → Alike (F i) (E i))
    (same : (i : ℕ) → is_some (E i) ≡ true → SameFile (E i) (files_in Y i))
    (rest : (i : ℕ) → is_some (F i) ≡ false → Kin (files_in X i) (files_in Y i)) where
  in-image : (i : ℕ) → is_some (F i) ≡ true → agreed (files_in X) i ≡ true
  in-image i e = (matched-file F X i match e).agreed

  not-agreed : (i : ℕ) → is_some (F i) ≡ false → agreed (files_in X) i ≡ true → ⊥
  not-agreed i e a =
      let m = matched-agreed F X i match
      (live-some X i (agreed-some (files_in X) i (agreed-holds (files_in X) i a))) a in
      let s = some-is (F i) m.file m.is in
      cc (e, s)

  back : (i : ℕ) → is_some (E i) ≡ false → is_some (F i) ≡ false
  back i e = some-alike (F i) (E i) (files i) ∙ e

  self : (i : ℕ) → is_some (E i) ≡ true → Agreed E i
  self i e =
      let s : is_some (F i) ≡ true = some-alike (F i) (E i) (files i) ∙ e in
      agreed-alike F E files i (agreed-machine F X match i (agreed-holds (files_in X) i (in-image i s)))

  no-root : (i : ℕ) → is_some (E i) ≡ false → is_root (files_in Y) i ≡ false
  no-root i e = go (is_root (files_in Y) i) refl (eqb i 1) refl (eqb i 2) refl
    where
      kin : (j : ℕ) → i ≡ j → Kin (files_in X j) (files_in Y j)
      kin j ij = subst (λ (q : ℕ). Kin (files_in X q) (files_in Y q)) ij (rest i (back i e))

      go : (b : Bool) → is_root (files_in Y) i ≡ b → (p : Bool) → eqb i 1 ≡ p → (q : Bool)
          → eqb i 2 ≡ q → is_root (files_in Y) i ≡ false
      go false eb p ep q eq = eb
      go true eb false ep false eq = absurd (let z : is_root (files_in Y) i ≡ false = rw (ep, eq) refl in cc (eb, z))
      go true eb true ep false eq =
          let k = a-kin Folder (files_in X 1) (files_in Y 1) 1 (kin 1 (eqb-true i 1 ep)) in
          let r : is_root (files_in X) i ≡ true = rw (k, eq) (rw eq at eb) in
          absurd (not-agreed i (back i e) (holds-agreed (files_in X) i (root r)))
      go true eb false ep true eq =
          let k = a-kin File (files_in X 2) (files_in Y 2) 2 (kin 2 (eqb-true i 2 eq)) in
          let r : is_root (files_in X) i ≡ true = rw (k, ep) (rw ep at eb) in
          absurd (not-agreed i (back i e) (holds-agreed (files_in X) i (root r)))
      go true eb true ep true eq = absurd (let a = eqb-true i 1 ep in let b = eqb-true i 2 eq in omega (arith, a, b))

  no-pair : (i : ℕ) (link : BackLink) → is_special i ≡ false → is_some (E i) ≡ false → is_some (E link.directory) ≡ true
      → Contains (links_of (files_in Y) i) link → is_pair (files_in Y) i link ≡ false
  no-pair i link plain e d has = go (is_pair (files_in Y) i link) refl
    where
      go : (b : Bool) → is_pair (files_in Y) i link ≡ b → is_pair (files_in Y) i link ≡ false
      go false eb = eb
      go true eb =
          let k = rest i (back i e) in
          let fd : is_some (F link.directory) ≡ true =
          some-alike (F link.directory) (E link.directory) (files link.directory) ∙ d in
          let ad = in-image link.directory fd in
          let x : Alike (files_in X link.directory) (F link.directory) =
          alike-sym (F link.directory) (files_in X link.directory)
          (same-alike (F link.directory) (files_in X link.directory) (same-of F X link.directory match ad)) in
          let y : Alike (E link.directory) (files_in Y link.directory) =
          same-alike (E link.directory) (files_in Y link.directory) (same link.directory d) in
          let xy : Alike (files_in X link.directory) (files_in Y link.directory) =
          alike-trans (files_in X link.directory) (F link.directory) (files_in Y link.directory) x
          (alike-trans (F link.directory) (E link.directory) (files_in Y link.directory) (files link.directory) y) in
          let p = pairs-kin (files_in X i) (files_in Y i) (files_in X link.directory)
          (files_in Y link.directory) i link k xy in
          let l = links-kin (files_in X i) (files_in Y i) k in
          let a : Agreed (files_in X) i =
          linked link plain (subst (λ (ls : List BackLink). Contains ls link) (sym l) has) (p ∙ eb)
          (agreed-holds (files_in X) link.directory ad) in
          absurd (not-agreed i (back i e) (holds-agreed (files_in X) i a))

  pub match-alike : FilesMatch E Y
  match-alike = files-match E Y same self no-root no-pair
