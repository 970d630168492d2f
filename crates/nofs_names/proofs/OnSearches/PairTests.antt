-- The test of an entry on the disk is that of the machine.
use Rattle.std.proofs.Common.{◌≡◌, ℕ, Bool, true, false, cond, eqb, ltb, ◌&&◌, ◌||◌, not, Option, Some, None, is_some}
use Rattle.std.proofs.Common.{Contains, refl, sym, ap, ◌∙◌, subst, arith, eqb-true, eq-eqb}
use Rattle.std.specs.List.{list_any}
use Rattle.std.proofs.lemmas.Bool.{and_parts}
use Rattle.std.proofs.lemmas.Bool.Decides.{nat_tests}
use Rattle.nofs_inode.specs.declared.inode.FileKind.TheVariants.{File, Directory as Folder}
use Rattle.nofs_inode.specs.declared.inode.BackLink.{BackLink}
use Rattle.nofs_dirent.specs.declared.entry.Entry.{Entry}
use Rattle.nofs_inode.specs.declared.inode.FileKind.{FileKind}
use Rattle.nofs_inode.specs.declared.inode.Record.{Record}
use Rattle.nofs_model.specs.Files.{is_record, file_from, files_in, agreed, Agreed, root, linked, FileState, Files}
use Rattle.nofs_model.specs.Geometry.{Image, inode}
use Rattle.nofs_model.specs.Files.{is_folder, entry_at}
use Rattle.nofs_model.specs.Files.{entry_in_file, names, pairs, is_pair, links_in_file, links_of, is_root, is_special}
use Rattle.nofs_model.specs.Files.{is_a, node_in}
use Rattle.nofs_model.specs.Slots.{value, find}
use Rattle.nofs_model.proofs.OnFiles.Chains.{agreed-holds, holds-agreed, any-true}
use Rattle.nofs_history.specs.Machine.{same_link, link_to, generation_of, is_paired}
use Rattle.nofs_history.specs.History.{FilesMatch, SameFile}
use Rattle.nofs_history.proofs.Links.{any_same}
use Rattle.nofs_crashlaw.proofs.OnUntouched.Matches.{matched-agreed, agreed-files-is}
use Rattle.nofs_crashlaw.proofs.OnUntouched.Agreement.{entry-alike, same-of, same-alike}
use Rattle.nofs_state.proofs.OnBooks.Machine.{agreed-live}
use Rattle.nofs_names.specs.Searches.Slots.{answers, is_root_record, paired_kind}
use Rattle.nofs_names.specs.declared.searches.entries.Named.{Named}

abbrev pub named_by : Entry → Named
named_by it = record { inode = it.inode; generation = it.generation }

-- the record of an agreed root or label file
root-record : (X : Image) (i : ℕ) (r : Record)
    → inode X i ≡ r → is_special i ≡ true → is_root (files_in X) i ≡ is_root_record i r
root-record X i r e s = go (eqb i 1) refl (eqb i 2) refl s
  where
    folder : (j : ℕ) (g : ℕ) (k : Option FileKind)
        → is_a Folder g (file_from X j k) ≡ is_record Folder g (record (inode X j) { kind = k })
    folder j g None = refl
    folder j g (Some File) = refl
    folder j g (Some Folder) = refl

    file : (j : ℕ) (g : ℕ) (k : Option FileKind)
        → is_a File g (file_from X j k) ≡ is_record File g (record (inode X j) { kind = k })
    file j g None = refl
    file j g (Some File) = refl
    file j g (Some Folder) = refl

    one : eqb i 1 ≡ true → is_a Folder 1 (files_in X 1) ≡ is_record Folder 1 r
    one e1 = folder 1 1 (inode X 1).kind ∙ ap (is_record Folder 1) (ap (inode X) (sym (eqb-true i 1 e1)) ∙ e)

    two : eqb i 2 ≡ true → is_a File 2 (files_in X 2) ≡ is_record File 2 r
    two e2 = file 2 2 (inode X 2).kind ∙ ap (is_record File 2) (ap (inode X) (sym (eqb-true i 2 e2)) ∙ e)

    or-false : (b : Bool) → (b || false) ≡ b
    or-false true = refl
    or-false false = refl

    go : (a : Bool) → eqb i 1 ≡ a → (b : Bool)
        → eqb i 2 ≡ b → (a || b) ≡ true → is_root (files_in X) i ≡ is_root_record i r
    go true ea true eb h = absurd (let x = eqb-true i 1 ea in let y = eqb-true i 2 eb in omega (arith, x, y))
    go true ea false eb h = rw (ea, eb) (or-false _ ∙ one ea)
    go false ea true eb h = rw (ea, eb) (two eb)
    go false ea false eb h = cc

plain-record : (i : ℕ) (r : Record) → is_special i ≡ false → is_root_record i r ≡ true
plain-record i r e = go (eqb i 1) refl (eqb i 2) refl e
  where
    go : (a : Bool) → eqb i 1 ≡ a → (b : Bool) → eqb i 2 ≡ b → (a || b) ≡ false → is_root_record i r ≡ true
    go true ea b eb h = cc
    go false ea true eb h = cc
    go false ea false eb h = rw (ea, eb) refl

-- an agreed root or label file has its record
allowed-record : (X : Image) (i : ℕ) (r : Record)
    → inode X i ≡ r → agreed (files_in X) i ≡ true → is_root_record i r ≡ true
allowed-record X i r e a = go (is_special i) refl (agreed-holds (files_in X) i a)
  where
    go : (b : Bool) → is_special i ≡ b → Agreed (files_in X) i → is_root_record i r ≡ true
    go false es h = plain-record i r es
    go true es (root q) = sym (root-record X i r e es) ∙ q
    go true es (linked link plain has pair up) = absurd (cc (es, plain))

-- a pair with a directory whose entry is given
pairs-are : (f fd : FileState) (i d e g : ℕ) (it : Entry)
    → is_folder fd.kind ≡ true → fd.generation ≡ g → entry_in_file (Some fd) e ≡ Some it → it.inode ≡ i
    → pairs (Some f) (Some fd) i (link_to d e g)
    ≡ (eqb it.generation f.generation && (not (is_folder f.kind) || ltb g f.generation))
pairs-are f fd i d e g it folder gen entry names_it =
    let n : names (entry_in_file (Some fd) e) i f.generation ≡ eqb it.generation f.generation =
    ap (λ (o : Option Entry). names o i f.generation) entry ∙ rw (eq-eqb it.inode i names_it) refl in
    let a : (is_folder fd.kind && eqb fd.generation g) ≡ true = (λ j. folder j && eq-eqb fd.generation g gen j) in
    (λ j. a j && (n j && (not (is_folder f.kind) || ltb g f.generation)))

eqb-turn : (a b : ℕ) → eqb a b ≡ eqb b a
eqb-turn a b = grind (arith, nat_tests)

shuffle : (h g o : Bool) → (h && (g && o)) ≡ (g && (o && (h && true)))
shuffle true true true = refl
shuffle true true false = refl
shuffle true false o = refl
shuffle false true true = refl
shuffle false true false = refl
shuffle false false o = refl

same-is : (a b : BackLink) → same_link a b ≡ true → a ≡ b
same-is a b e =
    let p = and_parts (eqb a.directory b.directory) (eqb a.entry b.entry && eqb a.generation b.generation) e in
    let q = and_parts (eqb a.entry b.entry) (eqb a.generation b.generation) p.1 in λ j. record {
      directory = eqb-true a.directory b.directory p.0 j;
      entry = eqb-true a.entry b.entry q.0 j;
      generation = eqb-true a.generation b.generation q.1 j;
    }

some-if : (b : Bool) (k : FileKind) → is_some (cond b (Some k) None) ≡ b
some-if true k = refl
some-if false k = refl

-- the kind of an agreed inode's file
pub kind-of : (F : Files) (X : Image) (i : ℕ) (f : FileState) → FilesMatch F X
    → agreed (files_in X) i ≡ true → F i ≡ Some f → (inode X i).kind ≡ Some f.kind
kind-of F X i f match a e =
    go (inode X i).kind (subst (λ (o : Option FileState). SameFile o (files_in X i)) e (same-of F X i match a))
  where
    go : (o : Option FileKind) → SameFile (Some f) (file_from X i o) → o ≡ Some f.kind
    go None s = absurd s
    go (Some k) s = ap Some (sym s.kind)

abbrev file_of : Image → ℕ → FileKind → FileState
file_of X i kind = let r = inode X i in
    record {
      generation = r.generation;
      kind = kind;
      size = r.size;
      links = r.links;
      values = value X i;
      nodes = λ path. node_in (find X i path);
    }

same-none : (o : Option FileState) → SameFile o None → o ≡ None
same-none None s = refl
same-none (Some f) s = absurd s

pub not-there : (F : Files) (X : Image) (i : ℕ) → FilesMatch F X → agreed (files_in X) i ≡ false → F i ≡ None
not-there F X i match e =
    same-none (F i) (subst (λ (o : Option FileState). SameFile (F i) o) (agreed-files-is X i ∙ rw e refl) (match i))

abbrev by_kind : Record → Named → BackLink → Option FileKind → Option FileKind
by_kind r named link o = elim o [ None ↦ None | Some k ↦ cond (answers r k named link) (Some k) None ]

abbrev paired_by : Files → ℕ → ℕ → Option Entry → Bool
paired_by F d e o = elim o [
  | None ↦ false
  | Some entry ↦ list_any (λ link. same_link link (link_to d e (generation_of F d)) && is_pair F entry.inode link)
      (links_of F entry.inode)
]

module _ (F : Files) (X : Image) (d e : ℕ) (dr : Record) (match : FilesMatch F X) (a : agreed (files_in X) d ≡ true)
    (same : inode X d ≡ dr)
    (folder : dr.kind ≡ Some Folder) where
  abbrev pub dir-file : FileState
  dir-file = (matched-agreed F X d match (agreed-live X d a) a).file

  pub dir-is : F d ≡ Some dir-file
  dir-is = (matched-agreed F X d match (agreed-live X d a) a).is

  pub dir-generation : dir-file.generation ≡ dr.generation
  dir-generation =
      (matched-agreed F X d match (agreed-live X d a) a).generation ∙ ap (λ (q : Record). q.generation) same

  pub dir-folder : is_folder dir-file.kind ≡ true
  dir-folder =
      let k : Some dir-file.kind ≡ Some Folder = sym (kind-of F X d dir-file match a dir-is)
      ∙ ap (λ (q : Record). q.kind) same ∙ folder in
      let s : dir-file.kind ≡ Folder = cc k in ap is_folder s

  module _ (it : Entry) (at : entry_at F d e ≡ Some it) where
    abbrev link : BackLink
    link = link_to d e dr.generation

    abbrev i : ℕ
    i = it.inode

    tested : is_paired F d e ≡ (list_any (λ l. same_link l link) (links_of F i) && is_pair F i link)
    tested =
        ap (paired_by F d e) at
        ∙ (let g : generation_of F d ≡ dr.generation = rw (dir-is, generation_of) dir-generation in
        (λ j. list_any (λ l. same_link l (link_to d e (g j)) && is_pair F i l) (links_of F i)))
        ∙ any_same (λ l. is_pair F i l) link (links_of F i)

    entry-in-file : entry_in_file (Some dir-file) e ≡ Some it
    entry-in-file = ap (λ (o : Option FileState). entry_in_file o e) (sym dir-is) ∙ at

    -- the inode is agreed
    by-agreed : agreed (files_in X) i ≡ true → (r : Record)
        → inode X i ≡ r → is_some (paired_kind r (named_by it) link) ≡ is_paired F d e
    by-agreed ai r er =
        let m = matched-agreed F X i match (agreed-live X i ai) ai in
        let f = m.file in
        let k : r.kind ≡ Some f.kind = ap (λ (q : Record). q.kind) (sym er) ∙ kind-of F X i f match ai m.is in
        let g : f.generation ≡ r.generation = m.generation ∙ ap (λ (q : Record). q.generation) er in
        let ls : links_of F i ≡ r.links = ap links_in_file m.is ∙ m.links ∙ ap (λ (q : Record). q.links) er in
        let p : is_pair F i link
        ≡ (eqb it.generation f.generation && (not (is_folder f.kind) || ltb dr.generation f.generation)) =
        (λ j. pairs (m.is j) (dir-is j) i link)
        ∙ pairs-are f dir-file i d e dr.generation it dir-folder dir-generation entry-in-file refl in
        let right : is_some (paired_kind r (named_by it) link) ≡ answers r f.kind (named_by it) link =
        ap (λ (o : Option FileKind). is_some (by_kind r (named_by it) link o)) k
        ∙ some-if (answers r f.kind (named_by it) link) f.kind in
        let allowed : is_root_record i r ≡ true = allowed-record X i r er ai in
        let gens : eqb it.generation f.generation ≡ eqb r.generation it.generation = ap (eqb it.generation) g
        ∙ eqb-turn it.generation r.generation in
        right
        ∙ ap (λ (b : Bool). eqb r.generation it.generation &&
        ((not (is_folder f.kind) || ltb dr.generation r.generation) && (list_any (λ l. same_link l link) r.links && b)))
        allowed
        ∙ sym (shuffle (list_any (λ l. same_link l link) r.links) (eqb r.generation it.generation)
        (not (is_folder f.kind) || ltb dr.generation r.generation))
        ∙ sym (tested ∙ (λ j. list_any (λ l. same_link l link) (ls j) && p j)
        ∙ (λ j. list_any (λ l. same_link l link) r.links
        && (gens j && (not (is_folder f.kind) || ltb dr.generation (g j)))))

    kinded : (r : Record) (o : Option FileKind) → r.kind ≡ o → is_some (by_kind r (named_by it) link o) ≡ true
        → (k : FileKind) × (r.kind ≡ Some k) × (answers r k (named_by it) link ≡ true)
    kinded r None eo e = cc
    kinded r (Some k) eo e = (k, eo, sym (some-if (answers r k (named_by it) link) k) ∙ e)

    -- a record that answers is that of an agreed inode
    agrees : (r : Record) → inode X i ≡ r → (k : FileKind) → r.kind ≡ Some k
        → answers r k (named_by it) link ≡ true → agreed (files_in X) i ≡ true
    agrees r er k ek t =
        let p = and_parts (eqb r.generation it.generation) ((not (is_folder k) || ltb dr.generation r.generation)
        && (list_any (λ l. same_link l link) r.links && is_root_record i r)) t in
        let q = and_parts (not (is_folder k) || ltb dr.generation r.generation)
        (list_any (λ l. same_link l link) r.links && is_root_record i r) p.1 in
        let w = and_parts (list_any (λ l. same_link l link) r.links) (is_root_record i r) q.1 in
        let (l, has, same_l) = any-true (λ l. same_link l link) r.links w.0 in
        let there : Contains (inode X i).links link =
        subst (λ (x : BackLink). Contains (inode X i).links x) (same-is l link same_l)
        (subst (λ (x : Record). Contains x.links l) (sym er) has) in
        let own : files_in X i ≡ Some (file_of X i k) = ap (file_from X i) (ap (λ (x : Record). x.kind) er ∙ ek) in
        let parent : files_in X d ≡ Some (file_of X d Folder) =
        ap (file_from X d) (ap (λ (x : Record). x.kind) same ∙ folder) in
        let entry : entry_in_file (Some (file_of X d Folder)) e ≡ Some it =
        ap (λ (o : Option FileState). entry_in_file o e) (sym parent)
        ∙ sym (entry-alike (F d) (files_in X d) e (same-alike (F d) (files_in X d) (same-of F X d match a))) ∙ at in
        let gen : (inode X d).generation ≡ dr.generation = ap (λ (x : Record). x.generation) same in
        let gi : (inode X i).generation ≡ r.generation = ap (λ (x : Record). x.generation) er in
        let value : is_pair (files_in X) i link ≡ (eqb it.generation (inode X i).generation
        && (not (is_folder k) || ltb dr.generation (inode X i).generation)) =
        (λ j. pairs (own j) (parent j) i link)
        ∙ pairs-are (file_of X i k) (file_of X d Folder) i d e dr.generation it refl gen entry refl in
        let g : eqb it.generation (inode X i).generation ≡ true = ap (eqb it.generation) gi
        ∙ eqb-turn it.generation r.generation ∙ p.0 in
        let o : (not (is_folder k) || ltb dr.generation (inode X i).generation) ≡ true =
        ap (λ (n : ℕ). not (is_folder k) || ltb dr.generation n) gi ∙ q.0 in
        let pair : is_pair (files_in X) i link ≡ true = value ∙ (λ j. g j && o j) in
        let has_links : Contains (links_of (files_in X) i) link =
        subst (λ (o : Option FileState). Contains (links_in_file o) link) (sym own) there in
        by-special (is_special i) refl w.1 has_links pair
      where
        by-special : (b : Bool) → is_special i ≡ b → is_root_record i r ≡ true → Contains (links_of (files_in X) i) link
            → is_pair (files_in X) i link ≡ true
            → agreed (files_in X) i ≡ true
        by-special true es rr has pair = holds-agreed (files_in X) i (root (root-record X i r er es ∙ rr))
        by-special false es rr has pair =
            holds-agreed (files_in X) i (linked link es has pair (agreed-holds (files_in X) d a))

    by-dead : agreed (files_in X) i ≡ false → (r : Record)
        → inode X i ≡ r → is_some (paired_kind r (named_by it) link) ≡ is_paired F d e
    by-dead na r er = go (is_some (paired_kind r (named_by it) link)) refl ∙ sym none
      where
        none : is_paired F d e ≡ false
        none = tested ∙ ap (λ (o : Option FileState). list_any (λ l. same_link l link) (links_in_file o)
            && is_pair F i link) (not-there F X i match na)

        go : (b : Bool)
            → is_some (paired_kind r (named_by it) link) ≡ b → is_some (paired_kind r (named_by it) link) ≡ false
        go false e = e
        go true e = absurd (let (k, ek, t) = kinded r r.kind refl e in let yes = agrees r er k ek t in cc (yes, na))

    -- the test of the record is that of the machine
    pub paired-is : (r : Record) → inode X i ≡ r → is_some (paired_kind r (named_by it) link) ≡ is_paired F d e
    paired-is r er = go (agreed (files_in X) i) refl
      where
        go : (b : Bool) → agreed (files_in X) i ≡ b → is_some (paired_kind r (named_by it) link) ≡ is_paired F d e
        go true ai = by-agreed ai r er
        go false na = by-dead na r er

    -- and the inode of a pair is agreed
    pub paired-agreed : (r : Record) (k : FileKind) → inode X i ≡ r → paired_kind r (named_by it) link ≡ Some k
        → (agreed (files_in X) i ≡ true) × (r.kind ≡ Some k) × (it.generation ≡ r.generation)
    paired-agreed r k er e =
        let (q, ek, t) = kinded r r.kind refl (ap is_some e) in
        let s : Some q ≡ Some k = sym (ap (by_kind r (named_by it) link) ek ∙ (λ j. cond (t j) (Some q) None)) ∙ e in
        let g = and_parts (eqb r.generation it.generation) ((not (is_folder q) || ltb dr.generation r.generation)
        && (list_any (λ l. same_link l link) r.links && is_root_record i r)) t in
        (agrees r er q ek t, ek ∙ s, sym (eqb-true r.generation it.generation g.0))
