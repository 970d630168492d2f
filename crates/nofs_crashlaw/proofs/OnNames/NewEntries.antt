-- A step that writes a new entry: Link and Make, in a slot that holds or in a hole.
use Rattle.std.proofs.Common.{◌≡◌, ◌≢◌, ℕ, ◌/◌, ◌%◌, ◌<◌, ◌≤◌, inr, Bool, true, false, cond, eqb, ltb, ◌&&◌, ◌||◌, not}
use Rattle.std.proofs.Common.{List, ◌++◌, option_to_list, Option}
use Rattle.std.proofs.Common.{Some, None, is_some, unwrap_or, refl, sym, ap, ◌∙◌, subst, subst₂, Contains, eqb-true}
use Rattle.std.proofs.Common.{eq-eqb, lt-ltb}
use Rattle.std.proofs.lemmas.List.Elements.{Contains-push}
use Rattle.nofs_inode.specs.declared.inode.FileKind.TheVariants.{Directory as Folder}
use Rattle.nofs_model.specs.declared.image.path.PathAnswer.{PathAnswer}
use Rattle.nofs_crashlaw.specs.Images.Proper.{RecordProper, Made}
use Rattle.nofs_crashlaw.specs.Images.Moments.{during, is_removal}
use Rattle.nofs_crashlaw.specs.Untouched.Frames.{OldPointers}
use Rattle.nofs_model.proofs.OnSlots.Find.{judged-built-null}
use Rattle.nofs_ptrs.specs.PathLaws.{path_of-slot}
use Rattle.nofs_crashlaw.proofs.OnUntouched.Matches.{matched-file}
use Rattle.nofs_crashlaw.proofs.OnUntouched.Frames.{some-is}
use Rattle.nofs_crashlaw.proofs.OnNames.Files.{linked_state, linked-now, linked-file, find-stays, value-stays}
use Rattle.nofs_crashlaw.proofs.OnNames.Steps.{match-names, entry-new, folder-after, unpaired-away, file-lone}
use Rattle.nofs_model.specs.declared.image.path.PathAnswer.TheVariants as answer
use Rattle.nofs_history.specs.Meta.{Meta, Is, meta_of}
use Rattle.nofs_history.specs.Marks.{Mark}
use Rattle.nofs_history.specs.Machine.{Given, filled, files_after, file_after, after_meta, born_file, new_file, link_to}
use Rattle.nofs_history.specs.Machine.{is_paired}
use Rattle.nofs_history.specs.History.{FilesMatch, SameFile}
use Rattle.nofs_inode.specs.declared.inode.FileKind.{FileKind}
use Rattle.nofs_inode.specs.declared.inode.BackLink.{BackLink}
use Rattle.nofs_dirent.specs.declared.entry.Entry.{Entry}
use Rattle.nofs_inode.specs.declared.inode.Record.{Record}
use Rattle.nofs_disk.specs.Pointer.{is_null}
use Rattle.nofs_dirent.specs.Entries.{entry_limit}
use Rattle.nofs_model.specs.Geometry.{Image, inode}
use Rattle.nofs_model.specs.Files.{file_from, files_in, node_in, FileState, Files}
use Rattle.nofs_model.specs.Slots.{value_in, find, record_pointer}
use Rattle.nofs_ptrs.specs.Paths.{Path, InRecord, Under, path_of, IsSlot}
use Rattle.nofs_model.specs.Files.{NodeState, Absent, is_folder, entry_held, entry_in_file, pairs, names, is_a, is_pair}
use Rattle.nofs_model.specs.Files.{is_special, links_in_file}
use Rattle.nofs_model.specs.declared.image.value.Value.{Value}
use Rattle.nofs_model.specs.declared.image.value.Value.TheVariants.{Hole}
use Rattle.nofs_history.specs.Gives.{GivesNothing, GivesCell, GivesMeta, GivesBirth}
use Rattle.nofs_crashlaw.specs.Names.OldEntries.{Relinked, NameWrites}
use Rattle.nofs_crashlaw.specs.Names.NewEntries.{IsNewRecord}

pub all-null : (Y : Image) (i : ℕ) → ((n : ℕ) → n < 10 → is_null (record_pointer (inode Y i) n) ≡ true)
    → (path : Path) → IsSlot path
    → find Y i path ≡ answer.Hole
all-null Y i null (InRecord n) slot = judged-built-null Y i (InRecord n) (record_pointer (inode Y i) n) (null n slot)
all-null Y i null (Under a n) slot = let up = all-null Y i null a slot.2 in rw (up, find) refl

abbrev pub born_state : Given → ℕ → ℕ → FileKind → List BackLink → FileState
born_state given i g kind links = record (filled given i (new_file g)) { kind = kind; links = links }

pub birth-is : (F : Files) (given : Given) (i g : ℕ) (kind : FileKind) (links : List BackLink)
    → GivesBirth given i g kind links
    → files_after F given i ≡ Some (born_state given i g kind links)
birth-is F given i g kind links b = ap (λ (o : Option ℕ). file_after given i (born_file o (F i))) b.born
    ∙ ap (λ (o : Option Meta). after_meta o (filled given i (new_file g))) b.metas

pub birth-file : (F : Files) (given : Given) (Y : Image) (i g : ℕ) (kind : FileKind) (links : List BackLink)
    → GivesBirth given i g kind links
    → IsNewRecord Y i g kind links → SameFile (files_after F given i) (files_in Y i)
birth-file F given Y i g kind links b r =
    subst₂ (λ (o : Option FileState) (q : Option FileKind). SameFile o (file_from Y i q))
    (sym (birth-is F given i g kind links b)) (sym r.kind_is) (record {
      generation = sym r.generation;
      kind = refl;
      size = sym r.size;
      links = sym r.links;
      values = λ k lt. ap (λ (o : Option Value). unwrap_or o Hole) (b.slots k)
          ∙ sym (ap (λ (q : PathAnswer). value_in Y q) (all-null Y i r.pointers (path_of k) (path_of-slot k lt)));
      nodes = λ path slot p. ap (λ (o : Option NodeState). unwrap_or o Absent) (b.nodes path)
          ∙ sym (ap node_in (all-null Y i r.pointers path slot));
    })

-- the new record is proper
pub birth-proper : (m : Mark) (given : Given) (X Y : Image) (i g : ℕ) (kind : FileKind) (links : List BackLink)
    → GivesBirth given i g kind links
    → IsNewRecord Y i g kind links → m.stamps ≤ g → ((q : ℕ) → m.stands i q ≡ false)
    → RecordProper (during m given) X i (inode Y i)
birth-proper m given X Y i g kind links b r fresh none = Made
    (subst (λ (q : ℕ). m.stamps ≤ q) (sym r.generation) fresh)
    (λ q. ap (λ (t : Bool). t && not (is_removal (given.metas i q))) (none q))
    (subst₂ (λ (q : ℕ) (u : Meta). Contains ((during m given).metas i q) u) (sym r.generation)
    (sym (meta-is (inode Y i) kind 0 links r.kind_is r.size r.links))
    (subst (λ (o : Option Meta). Contains (m.metas i g ++ option_to_list o) (Is kind 0 links)) (sym b.metas)
    (Contains-push (m.metas i g) (Is kind 0 links))))
    r.pointers
    (λ k lt. subst (λ (q : ℕ). Contains ((during m given).since i q k) Hole) (sym r.generation)
    (subst (λ (o : Option Value). Contains (m.since i g k ++ option_to_list o) Hole) (sym (b.slots k))
    (Contains-push (m.since i g k) Hole)))
  where
    meta-is : (r : Record) (kind : FileKind) (size : ℕ) (links : List BackLink) → r.kind ≡ Some kind
        → r.size ≡ size → r.links ≡ links
        → meta_of r ≡ Is kind size links
    meta-is r kind size links ek es el = rw (ek, es, el, meta_of) refl

module _ (F : Files) (given : Given) (X Y : Image) (d e i s : ℕ) (f : FileState) (v : Value) (entry : Entry)
    (match : FilesMatch F X) (is : F d ≡ Some f) (folder : is_folder f.kind ≡ true)
    (range : e < entry_limit) (apart : i ≢ d)
    (gives : GivesCell given d f.generation (e / 16) v)
    (nothing : (j : ℕ) → j ≢ d → j ≢ i → GivesNothing given j)
    (stay : (l : ℕ) → l % 16 ≢ e % 16 → l / 16 ≡ e / 16 → entry_held v l ≡ entry_held (f.values (e / 16)) l)
    -- the entry names inode i, and stood for no pair
    (comes : entry_held v e ≡ Some entry) (names_it : entry.inode ≡ i) (unpaired : is_paired F d e ≡ false)
    (plain : is_special i ≡ false)
    (w : NameWrites s d i X Y) (old : (j : ℕ) → is_some (F j) ≡ true → OldPointers s X j)
    (directory : SameFile (files_after F given d) (files_in Y d)) where
  named : (j q : ℕ) → j ≢ i → names (entry_held v e) j q ≡ false
  named j q ne = ap (λ (o : Option Entry). names o j q) comes ∙ go (eqb entry.inode j) refl
    where
      go : (b : Bool) → eqb entry.inode j ≡ b → (eqb entry.inode j && eqb entry.generation q) ≡ false
      go true t = absurd (ne (sym (eqb-true entry.inode j t) ∙ names_it))
      go false t = rw t refl

  -- the new link is a pair
  new-pair : (own : is_some (files_after F given i) ≡ true → SameFile (files_after F given i) (files_in Y i))
      (q : FileState)
      → files_after F given i ≡ Some q
      → q.generation ≡ entry.generation → (is_folder q.kind ≡ true → f.generation < q.generation)
      → is_pair (files_after F given) i (link_to d e f.generation) ≡ true
  new-pair own q at gen older =
      ap (λ (o : Option FileState). pairs o (files_after F given d) i (link_to d e f.generation)) at
      ∙ all (is_a Folder f.generation (files_after F given d))
      (names (entry_in_file (files_after F given d) e) i q.generation) (is_folder q.kind)
      refl is-folder is-named
    where
      is-folder : is_a Folder f.generation (files_after F given d) ≡ true
      is-folder =
          sym (folder-after F given X Y d e i s f v match is apart gives nothing stay w old directory own f.generation)
          ∙ ap (λ (o : Option FileState). is_a Folder f.generation o) is
          ∙ rw (folder, eq-eqb f.generation f.generation refl) refl

      is-named : names (entry_in_file (files_after F given d) e) i q.generation ≡ true
      is-named = ap (λ (o : Option Entry). names o i q.generation)
          (entry-new F given X Y d e i s f v match is apart gives nothing stay w old directory own folder range ∙ comes)
          ∙ rw (eq-eqb entry.inode i names_it, eq-eqb entry.generation q.generation (sym gen)) refl

      all : (a b c : Bool)
          → is_folder q.kind ≡ c → a ≡ true → b ≡ true → (a && (b && (not c || ltb f.generation q.generation))) ≡ true
      all true true true ec ea eb = lt-ltb f.generation q.generation (older ec)
      all true true false ec ea eb = refl
      all true false c ec ea eb = cc
      all false b c ec ea eb = cc

  -- Link: the inode is a file, and gets a link
  pub link-matches : (h : FileState) (links : List BackLink) → F i ≡ Some h
      → is_folder h.kind ≡ false → h.generation ≡ entry.generation
      → GivesMeta given i h.generation (Is h.kind h.size links) → Relinked X Y i links
      → Contains links (link_to d e f.generation)
      → FilesMatch (files_after F given) Y
  link-matches h links is_i file gen meta r has =
      match-names F given X Y d e i s f v match is apart gives nothing stay w old directory (λ some. own)
      folder range
      (λ j link ne. unpaired-away F d e unpaired j link)
      (λ j link ne there. file-lone F i (λ q eq. let same : h ≡ q = cc (eq, is_i) in
      subst (λ (u : FileState). is_folder u.kind ≡ false) same file) j link)
      named
      (λ fi ei k. record {
        is = λ q. ap (λ (o : Option FileState). is_a Folder q o) is_i
            ∙ sym (ap (λ (o : Option FileState). is_a Folder q o) now);
        names = λ j q. ap (λ (o : Option Entry). names o j q) (entries-own k);
      })
      (λ none. absurd (let t = some-is (F i) h is_i in cc (t, none)))
      (λ some. inr (
        link_to d e f.generation,
        plain,
        subst (λ (ls : List BackLink). Contains ls (link_to d e f.generation)) (sym (ap links_in_file now)) has,
        new-pair (λ t. own) (linked_state given i h links) now gen (λ t. absurd (cc (t, file))),
        (λ t. apart (sym t)),
        some-is (F d) f is,
      ))
      (λ none. absurd (let t = some-is (files_after F given i) (linked_state given i h links) now in cc (t, none)))
    where
      now : files_after F given i ≡ Some (linked_state given i h links)
      now = linked-now F given i h links is_i meta

      own : SameFile (files_after F given i) (files_in Y i)
      own =
          let m = matched-file F X i match (some-is (F i) h is_i) in
          let o = old i (some-is (F i) h is_i) in
          linked-file F given X Y i h links match is_i meta r.kind r.generation r.size r.links
          (find-stays s d i X Y w apart m.agreed o
          (record { live = m.live; kind = r.kind; generation = r.generation }) r.pointers)
          (value-stays s d i X Y w apart m.agreed o
          (record { live = m.live; kind = r.kind; generation = r.generation }) r.pointers)

      entries-own : (k : ℕ) → entry_in_file (F i) k ≡ entry_in_file (files_after F given i) k
      entries-own k = ap (λ (o : Option FileState). entry_in_file o k) is_i
          ∙ ap (λ (u : Value). cond (is_folder h.kind && ltb k entry_limit) (entry_held u k) None)
          (sym (ap (λ (o : Option Value). unwrap_or o (h.values (k / 16))) (meta.slots (k / 16))))
          ∙ sym (ap (λ (o : Option FileState). entry_in_file o k) now)

  -- Make: the inode is new
  pub make-matches : (g : ℕ) (kind : FileKind) (links : List BackLink)
      → F i ≡ None → g ≡ entry.generation → f.generation < g
      → GivesBirth given i g kind links → IsNewRecord Y i g kind links → Contains links (link_to d e f.generation)
      → FilesMatch (files_after F given) Y
  make-matches g kind links is_i gen young b r has =
      match-names F given X Y d e i s f v match is apart gives nothing stay w old directory
      (λ some. birth-file F given Y i g kind links b r) folder range
      (λ j link ne. unpaired-away F d e unpaired j link)
      (λ j link ne there. file-lone F i (λ q eq. absurd (cc (eq, is_i))) j link)
      named
      (λ fi. absurd (some-none (F i) is_i fi))
      (λ none k j q. ap (λ (o : Option FileState). names (entry_in_file o k) j q) now
      ∙ no-entries k j q (is_folder kind) (ltb k entry_limit))
      (λ some. inr (
        link_to d e f.generation,
        plain,
        subst (λ (ls : List BackLink). Contains ls (link_to d e f.generation)) (sym (ap links_in_file now)) has,
        new-pair (λ t. birth-file F given Y i g kind links b r) (born_state given i g kind links) now gen (λ t. young),
        (λ t. apart (sym t)),
        some-is (F d) f is,
      ))
      (λ none. absurd (let t = some-is (files_after F given i) (born_state given i g kind links) now in cc (t, none)))
    where
      some-none : (o : Option FileState) → o ≡ None → is_some o ≡ true → ⊥
      some-none None a c = cc
      some-none (Some q) a c = cc

      now : files_after F given i ≡ Some (born_state given i g kind links)
      now = birth-is F given i g kind links b

      no-entries : (k j q : ℕ) (x y : Bool)
          → names (cond (x && y) (entry_held (unwrap_or (given.slots i g (k / 16)) Hole) k) None) j q ≡ false
      no-entries k j q true true =
          ap (λ (o : Option Value). names (entry_held (unwrap_or o Hole) k) j q) (b.slots (k / 16))
      no-entries k j q true false = refl
      no-entries k j q false y = refl
