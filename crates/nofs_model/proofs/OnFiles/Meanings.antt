-- An entry, a pair and an agreed inode are what the computing words say.
use Rattle.std.proofs.Common.{◌≡◌, ◌≢◌, ℕ, ◌/◌, ◌<◌, ◌⊎◌, inl, inr, Bool, true, false, cond, eqb, ltb, ◌&&◌, ◌||◌, not}
use Rattle.std.proofs.Common.{List, Option, Some, None, is_some}
use Rattle.std.proofs.Common.{refl, sym, ap, ◌∙◌, subst, Contains, eqb-true, eq-eqb, ne_eqb, ltb-true, lt-ltb}
use Rattle.nofs_inode.specs.declared.inode.FileKind.TheVariants.{File, Directory as Folder}
use Rattle.nofs_inode.specs.declared.inode.FileKind.{FileKind}
use Rattle.nofs_inode.specs.declared.inode.BackLink.{BackLink}
use Rattle.nofs_dirent.specs.declared.entry.Entry.{Entry}
use Rattle.nofs_inode.specs.InodeRecords.{is_live}
use Rattle.nofs_dirent.specs.Entries.{entry_limit}
use Rattle.nofs_model.specs.Geometry.{Image, inode}
use Rattle.nofs_disk.specs.Disk.{cell_at}
use Rattle.nofs_ptrs.specs.Paths.{path_of}
use Rattle.nofs_model.specs.Slots.{find, value, value_in}
use Rattle.nofs_model.specs.Files.{FileState, file_from, files_in, is_folder, entry_held}
use Rattle.nofs_model.specs.Files.{entry_in_file, names, is_a, pairs, is_pair, links_of, links_in_file, is_root}
use Rattle.nofs_model.specs.Files.{is_special, agreed, Agreed, root, linked}
use Rattle.nofs_model.specs.Definitions.{bytes, IsEntry, IsPair, IsAgreed, the_root, the_label, named, LawPairs}
use Rattle.nofs_model.specs.declared.image.path.PathAnswer.{PathAnswer}
use Rattle.nofs_model.specs.declared.image.path.PathAnswer.TheVariants as answer
use Rattle.nofs_model.specs.declared.image.value.Value.{Value}
use Rattle.nofs_model.specs.declared.image.value.Value.TheVariants.{Bytes}
use Rattle.nofs_model.proofs.OnSlots.Find.{and-both}
use Rattle.nofs_model.proofs.OnFiles.Chains.{agreed-holds, holds-agreed, agreed-is}
use Rattle.nofs_model.proofs.OnSlots.Meanings.{fact-value, find-holds}

-- the file of a record with this kind
file-is : (X : Image) (i : ℕ) (k : Option FileKind) → (inode X i).kind ≡ k → files_in X i ≡ file_from X i k
file-is X i k e = ap (file_from X i) e

entry-fact : (X : Image) (d e : ℕ) (it : Entry) → IsEntry X d e it → entry_in_file (files_in X d) e ≡ Some it
entry-fact X d e it h =
    let v : value X d (e / 16) ≡ Bytes (cell_at X h.pointer.block).payload =
    fact-value X d (e / 16) (Bytes (cell_at X h.pointer.block).payload) (bytes h.pointer h.holds) in
    let inside : entry_in_file (file_from X d (Some Folder)) e ≡ entry_held (value X d (e / 16)) e =
    rw (lt-ltb e entry_limit h.range) refl in
    ap (λ (o : Option FileState). entry_in_file o e) (file-is X d (Some Folder) h.directory)
    ∙ inside ∙ ap (λ (q : Value). entry_held q e) v ∙ h.spelled

fact-entry : (X : Image) (d e : ℕ) (it : Entry) → entry_in_file (files_in X d) e ≡ Some it → IsEntry X d e it
fact-entry X d e it h = by-kind (inode X d).kind refl h
  where
    by-find : (inode X d).kind ≡ Some Folder
        → e < entry_limit → (f : PathAnswer) → find X d (path_of (e / 16)) ≡ f → entry_held (value_in X f) e ≡ Some it
        → IsEntry X d e it
    by-find k lt answer.Hole ef q = cc
    by-find k lt answer.Lost ef q = cc
    by-find k lt (answer.Holds x) ef q =
        record { directory = k; range = lt; pointer = x; holds = find-holds X d (path_of (e / 16)) x ef; spelled = q }

    by-range : (inode X d).kind ≡ Some Folder
        → (b : Bool) → ltb e entry_limit ≡ b → cond b (entry_held (value X d (e / 16)) e) None ≡ Some it
        → IsEntry X d e it
    by-range k true eb q = by-find k (ltb-true e entry_limit eb) (find X d (path_of (e / 16))) refl q
    by-range k false eb q = cc

    by-kind : (k : Option FileKind) → (inode X d).kind ≡ k → entry_in_file (file_from X d k) e ≡ Some it
        → IsEntry X d e it
    by-kind None ek q = cc
    by-kind (Some File) ek q = cc
    by-kind (Some Folder) ek q = by-range ek (ltb e entry_limit) refl q

-- the rule for directories, as a test and as a fact
older-test : (k : FileKind) (g h : ℕ) → (k ≡ Folder → g < h) → (not (is_folder k) || ltb g h) ≡ true
older-test File g h f = refl
older-test Folder g h f = lt-ltb g h (f refl)

older-fact : (k : FileKind) (g h : ℕ) → (not (is_folder k) || ltb g h) ≡ true → k ≡ Folder → g < h
older-fact File g h e s = cc
older-fact Folder g h e s = ltb-true g h e

some-kind : (a b : FileKind) → Some a ≡ Some b → a ≡ b
some-kind a b e = cc e

names-test : (o : Option Entry) (it : Entry) (i g : ℕ) → o ≡ Some it
    → it.inode ≡ i → it.generation ≡ g → names o i g ≡ true
names-test o it i g e ei eg = ap (λ (q : Option Entry). names q i g) e
    ∙ rw (eq-eqb it.inode i ei, eq-eqb it.generation g eg) refl

pub pair-test : (X : Image) (i : ℕ) (link : BackLink) → IsPair X i link → is_pair (files_in X) i link ≡ true
pair-test X i link h = by-kind (inode X i).kind refl
  where
    by-kind : (k : Option FileKind) → (inode X i).kind ≡ k → is_pair (files_in X) i link ≡ true
    by-kind None ek = cc (ap is_some ek, h.live)
    by-kind (Some k) ek =
        let own = file-is X i (Some k) ek in
        let parent = file-is X link.directory (Some Folder) h.there.directory in
        let named : names (entry_in_file (files_in X link.directory) link.entry) i (inode X i).generation ≡ true =
        names-test (entry_in_file (files_in X link.directory) link.entry) h.entry i (inode X i).generation
        (entry-fact X link.directory link.entry h.entry h.there) h.names_inode h.names_generation in
        let named' : names (entry_in_file (file_from X link.directory (Some Folder)) link.entry) i
        (inode X i).generation ≡ true =
        subst (λ (o : Option FileState). names (entry_in_file o link.entry) i
        (inode X i).generation ≡ true) parent named in
        let older = older-test k link.generation (inode X i).generation (λ s. h.older (ek ∙ ap Some s)) in
        let whole : pairs (file_from X i (Some k)) (file_from X link.directory (Some Folder)) i link ≡ true =
        rw (eq-eqb (inode X link.directory).generation link.generation h.generation, named', older) refl in
        ap (λ (o : Option FileState). pairs o (files_in X link.directory) i link) own
        ∙ ap (λ (o : Option FileState). pairs (file_from X i (Some k)) o i link) parent ∙ whole

-- what an entry that names an inode is
named-by : (o : Option Entry) (i g : ℕ) → names o i g ≡ true → (it : Entry) × (o ≡ Some it) × (it.inode ≡ i)
    × (it.generation ≡ g)
named-by None i g e = cc
named-by (Some it) i g e =
    let p = and-both (eqb it.inode i) (eqb it.generation g) e in
    (it, refl, eqb-true it.inode i p.0, eqb-true it.generation g p.1)

pub test-pair : (X : Image) (i : ℕ) (link : BackLink) → is_pair (files_in X) i link ≡ true → IsPair X i link
test-pair X i link h = by-own (inode X i).kind refl h
  where
    by-parent : (k : FileKind) → (inode X i).kind ≡ Some k → (d : Option FileKind) → (inode X link.directory).kind ≡ d
        → pairs (file_from X i (Some k)) (file_from X link.directory d) i link ≡ true → IsPair X i link
    by-parent k ek None ed q = cc
    by-parent k ek (Some File) ed q = cc
    by-parent k ek (Some Folder) ed q =
        let a = and-both (eqb (inode X link.directory).generation link.generation)
        (names (entry_in_file (file_from X link.directory (Some Folder)) link.entry) i (inode X i).generation
        && (not (is_folder k) || ltb link.generation (inode X i).generation)) q in
        let b = and-both
        (names (entry_in_file (file_from X link.directory (Some Folder)) link.entry) i (inode X i).generation)
        (not (is_folder k) || ltb link.generation (inode X i).generation) a.1 in
        let (it, there, ei, eg) = named-by (entry_in_file (file_from X link.directory (Some Folder)) link.entry) i
        (inode X i).generation b.0 in
        let parent = file-is X link.directory (Some Folder) ed in
        record {
          live = ap is_some ek;
          generation = eqb-true (inode X link.directory).generation link.generation a.0;
          entry = it;
          there = fact-entry X link.directory link.entry it
              (ap (λ (o : Option FileState). entry_in_file o link.entry) parent ∙ there);
          names_inode = ei;
          names_generation = eg;
          older = λ s. older-fact k link.generation (inode X i).generation b.1 (some-kind k Folder (sym ek ∙ s));
        }

    by-own : (k : Option FileKind)
        → (inode X i).kind ≡ k → pairs (file_from X i k) (files_in X link.directory) i link ≡ true → IsPair X i link
    by-own None ek q = cc
    by-own (Some k) ek q = by-parent k ek (inode X link.directory).kind refl q

-- agreed inodes

special-not : (i : ℕ) → i ≢ 1 → i ≢ 2 → is_special i ≡ false
special-not i a b = rw (ne_eqb i 1 a, ne_eqb i 2 b) refl

not-special : (i : ℕ) → is_special i ≡ false → (i ≢ 1) × (i ≢ 2)
not-special i e = (λ a. cc (rw (eq-eqb i 1 a) at e), λ b. two b)
  where
    two : i ≡ 2 → ⊥
    two b = let z : is_special 2 ≡ false = subst (λ (q : ℕ). is_special q ≡ false) b e in cc z

pair-live : (X : Image) (i : ℕ) → is_live (inode X i) ≡ true → links_of (files_in X) i ≡ (inode X i).links
pair-live X i l = go (inode X i).kind refl
  where
    go : (k : Option FileKind) → (inode X i).kind ≡ k → links_of (files_in X) i ≡ (inode X i).links
    go None e = cc (ap is_some e, l)
    go (Some k) e = ap links_in_file (file-is X i (Some k) e)

pub agreed-relation : (X : Image) (i : ℕ) → IsAgreed X i → Agreed (files_in X) i
agreed-relation X _ (the_root k g) =
    let one : is_a Folder 1 (files_in X 1) ≡ true = ap (is_a Folder 1) (file-is X 1 (Some Folder) k)
    ∙ eq-eqb (inode X 1).generation 1 g in
    root (rw one refl)
agreed-relation X _ (the_label k g) =
    let one : is_a File 2 (files_in X 2) ≡ true = ap (is_a File 2) (file-is X 2 (Some File) k)
    ∙ eq-eqb (inode X 2).generation 2 g in
    root one
agreed-relation X i (named link a b there pair up) =
    linked link (special-not i a b)
    (subst (λ (q : List BackLink). Contains q link) (sym (pair-live X i pair.live)) there) (pair-test X i link pair)
    (agreed-relation X link.directory up)

or-cases : (a b : Bool) → (a || b) ≡ true → (a ≡ true) ⊎ (b ≡ true)
or-cases true b e = inl refl
or-cases false b e = inr e

kind-of : (X : Image) (i : ℕ) (kind : FileKind) (g : ℕ)
    → is_a kind g (files_in X i) ≡ true → ((inode X i).kind ≡ Some kind) × ((inode X i).generation ≡ g)
kind-of X i kind g e = go kind (inode X i).kind refl e
  where
    go : (kind : FileKind) (k : Option FileKind) → (inode X i).kind ≡ k → is_a kind g (file_from X i k) ≡ true
        → ((inode X i).kind ≡ Some kind) × ((inode X i).generation ≡ g)
    go Folder None ek q = cc
    go File None ek q = cc
    go Folder (Some Folder) ek q = (ek, eqb-true (inode X i).generation g q)
    go Folder (Some File) ek q = cc
    go File (Some Folder) ek q = cc
    go File (Some File) ek q = (ek, eqb-true (inode X i).generation g q)

root-agreed : (X : Image) (i : ℕ) → is_root (files_in X) i ≡ true → IsAgreed X i
root-agreed X i e =
    elim (or-cases ((eqb i 1) && is_a Folder 1 (files_in X 1)) ((eqb i 2) && is_a File 2 (files_in X 2)) e) [
      | inl q ↦
          let p = and-both (eqb i 1) (is_a Folder 1 (files_in X 1)) q in
          let k = kind-of X 1 Folder 1 p.1 in
          subst (λ (j : ℕ). IsAgreed X j) (sym (eqb-true i 1 p.0)) (the_root k.0 k.1)
      | inr q ↦
          let p = and-both (eqb i 2) (is_a File 2 (files_in X 2)) q in
          let k = kind-of X 2 File 2 p.1 in
          subst (λ (j : ℕ). IsAgreed X j) (sym (eqb-true i 2 p.0)) (the_label k.0 k.1)
    ]

pub relation-agreed : (X : Image) (i : ℕ) → Agreed (files_in X) i → IsAgreed X i
relation-agreed X i (root r) = root-agreed X i r
relation-agreed X i (linked link plain there pair up) =
    let p = test-pair X i link pair in
    let n = not-special i plain in
    named link n.0 n.1 (subst (λ (q : List BackLink). Contains q link) (pair-live X i p.live) there) p
    (relation-agreed X link.directory up)

pub agreed-fact : (X : Image) (i : ℕ) → agreed (files_in X) i ≡ true → IsAgreed X i
agreed-fact X i e = relation-agreed X i (agreed-holds (files_in X) i e)

pub fact-agreed : (X : Image) (i : ℕ) → IsAgreed X i → agreed (files_in X) i ≡ true
fact-agreed X i h = holds-agreed (files_in X) i (agreed-relation X i h)

pub names-law : LawPairs
names-law = record {
  equation = agreed-is;
  least = λ F i. (holds-agreed F i, agreed-holds F i);
  pairs = λ X i link. (pair-test X i link, test-pair X i link);
  agreed = λ X i. (fact-agreed X i, agreed-fact X i);
}
