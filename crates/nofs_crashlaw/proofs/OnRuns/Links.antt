-- A back link that leads to an entry of a directory, over one entry of a run.
use Rattle.std.proofs.Common.{◌≡◌, ℕ, ◌/◌, ◌^◌, ◌<◌, Bool, true, false, cond, eqb, ltb, ◌&&◌, ◌||◌, not, List, []}
use Rattle.std.proofs.Common.{length, Option, Some, None, unwrap_or}
use Rattle.std.proofs.Common.{refl, sym, ap, ◌∙◌, subst, eqb-true, eq-eqb, lt-ltb, Contains}
use Rattle.nofs_dirent.specs.Entries.{entry_limit}
use Rattle.nofs_inode.specs.declared.inode.FileKind.{FileKind}
use Rattle.nofs_inode.specs.declared.inode.FileKind.TheVariants.{File, Directory as Folder}
use Rattle.nofs_inode.specs.declared.inode.BackLink.{BackLink}
use Rattle.nofs_dirent.specs.declared.entry.Entry.{Entry}
use Rattle.nofs_model.specs.Files.{Files, FileState, Agreed, is_folder, entry_in_file, entry_at, entry_held, names}
use Rattle.nofs_model.specs.Files.{is_a, is_pair, links_of}
use Rattle.nofs_model.specs.declared.image.value.Value.{Value}
use Rattle.nofs_model.proofs.OnSlots.Find.{and-both}
use Rattle.nofs_model.proofs.OnFiles.Chains.{PairOf, pair-of}
use Rattle.nofs_history.specs.Meta.{Meta, Gone, Is}
use Rattle.nofs_history.specs.Search.{first_of}
use Rattle.nofs_history.specs.Machine.{Given, nothing, gives, found, bytes_in, is_paired, filled, after_meta, born_file}
use Rattle.nofs_history.specs.Machine.{file_after, files_after, is_refused, is_write_fault, given_by}
use Rattle.nofs_history.specs.World.{World}
use Rattle.nofs_history.specs.Refusals.{rows}
use Rattle.nofs_history.specs.Claims.{IsClaim, next_stamp}
use Rattle.nofs_history.specs.Next.{Next}
use Rattle.nofs_history.specs.declared.machine.history.Entry1.{Entry1}
use Rattle.nofs_history.specs.declared.machine.steps.Step.TheVariants as step
use Rattle.nofs_crashlaw.proofs.OnNames.Renames.{entry-parts}
use Rattle.nofs_crashlaw.proofs.OnNames.Steps.{pair-paired}
use Rattle.nofs_crashlaw.specs.Runs.Pairs.{HasAt, Filled, IsDirectory}
use Rattle.nofs_crashlaw.proofs.OnRuns.Places.{at-contains}
use Rattle.nofs_crashlaw.proofs.OnRuns.Acts.{Acts, Idle, Acting, acts, files-next}
use Rattle.nofs_crashlaw.proofs.OnRuns.Gives.{folder-metas, not-born, OfKind, given-kind}
use Rattle.nofs_crashlaw.proofs.OnRuns.PairEntries.{Spelled}
use Rattle.nofs_crashlaw.proofs.OnRuns.PairLinks.{AtMeta, link-kept}

-- What holds of the machine's files between two entries

pub record IsSane (W : World) : Type 0 where
  pub inodes : W.inodes < 2 ^ 32
  pub mount : W.mount < 2 ^ 24
  pub positive : 0 < next_stamp W
  pub bottom : W.files 0 ≡ None
  pub numbers : (i : ℕ) (f : FileState) → W.files i ≡ Some f → Spelled i f.generation
  pub young : (i : ℕ) (f : FileState) → W.files i ≡ Some f → f.generation < next_stamp W
  pub whole : (i : ℕ) (f : FileState) → W.files i ≡ Some f
      → is_folder f.kind ≡ true → (k : ℕ) → length (bytes_in (f.values k)) ≡ 1024
  pub rooted : (i : ℕ) (f : FileState) → W.files i ≡ Some f → is_folder f.kind ≡ true → Agreed W.files i

-- place b of the file (i, g) has this back link, and the entry to which it leads is one that passes, which names (i, g)
pub record Linked (E : Entry → Type 0) (F : Files) (i g b : ℕ) (link : BackLink) : Type 0 where
  pub file : FileState
  pub is : F i ≡ Some file
  pub generation : file.generation ≡ g
  pub at : HasAt file.links b link
  pub parent : IsDirectory F link.directory link.generation
  pub older : is_folder file.kind ≡ true → link.generation < g
  pub entry : Entry
  pub there : entry_at F link.directory link.entry ≡ Some entry
  pub passes : E entry
  pub names_inode : entry.inode ≡ i
  pub names_generation : entry.generation ≡ g

pub linked-pair : (E : Entry → Type 0) (F : Files) (i g b : ℕ) (link : BackLink) → Linked E F i g b link
    → is_pair F i link ≡ true
linked-pair E F i g b link l = rw l.is (rw (folder, named, last l.file.kind refl) refl)
  where
    folder : is_a Folder link.generation (F link.directory) ≡ true
    folder = let p = l.parent in let e = eq-eqb p.file.generation link.generation p.generation in let k = p.folder in
        rw p.is (rw (k, e) refl)

    named : names (entry_in_file (F link.directory) link.entry) i l.file.generation ≡ true
    named = let a = eq-eqb l.entry.inode i l.names_inode in let c =
        eq-eqb l.entry.generation l.file.generation (l.names_generation ∙ sym l.generation) in
        rw l.there (rw (a, c) refl)

    last : (kind : FileKind)
        → l.file.kind ≡ kind → (not (is_folder kind) || ltb link.generation l.file.generation) ≡ true
    last File e = refl
    last Folder e = rw l.generation (lt-ltb link.generation g (l.older (ap is_folder e)))

pub pair-linked : (F : Files) (i g b : ℕ) (f : FileState) (link : BackLink) → F i ≡ Some f
    → f.generation ≡ g → HasAt f.links b link
    → is_pair F i link ≡ true → Linked (λ x. (x.inode ≡ i) × (x.generation ≡ g)) F i g b link
pair-linked F i g b f link is gen at pair = record {
  file = f;
  is = is;
  generation = gen;
  at = at;
  parent = record { file = p.parent; is = p.parent_is; generation = p.parent_generation; folder = p.parent_folder };
  older = λ k. subst (λ (n : ℕ). link.generation < n) (ap (λ (q : FileState). q.generation) same ∙ gen)
      (p.older (ap (λ (q : FileState). is_folder q.kind) same ∙ k));
  entry = n.0;
  there = n.1;
  passes = (n.2, n.3 ∙ gen);
  names_inode = n.2;
  names_generation = n.3 ∙ gen;
}
  where
    p : PairOf F i link
    p = pair-of F i link pair

    same : p.own ≡ f
    same = let a = p.own_is in cc (a, is)

    named : names (entry_at F link.directory link.entry) i f.generation ≡ true
    named = parts (is_a Folder link.generation (F link.directory))
        (names (entry_at F link.directory link.entry) i f.generation)
        (not (is_folder f.kind) || ltb link.generation f.generation) (rw is at pair)
      where
        parts : (x y z : Bool) → (x && (y && z)) ≡ true → y ≡ true
        parts true true z e = refl
        parts true false z e = cc e
        parts false y z e = cc e

    n : (x : Entry) × (entry_at F link.directory link.entry ≡ Some x) × (x.inode ≡ i) × (x.generation ≡ f.generation)
    n = go (entry_at F link.directory link.entry) refl named
      where
        go : (o : Option Entry) → entry_at F link.directory link.entry ≡ o → names o i f.generation ≡ true
            → (x : Entry) × (entry_at F link.directory link.entry ≡ Some x) × (x.inode ≡ i)
            × (x.generation ≡ f.generation)
        go None eo e = cc e
        go (Some x) eo e = let a = and-both (eqb x.inode i) (eqb x.generation f.generation) e in
            (x, eo, eqb-true x.inode i a.0, eqb-true x.generation f.generation a.1)

-- its entry is the other half of the back link
pub linked-paired : (E : Entry → Type 0) (F : Files) (i g b : ℕ) (link : BackLink) → Linked E F i g b link
    → is_paired F link.directory link.entry ≡ true
linked-paired E F i g b link l = pair-paired F i link
    (subst (λ (ls : List BackLink). Contains ls link) (sym links) (at-contains l.file.links b link l.at))
    (linked-pair E F i g b link l)
  where
    links : links_of F i ≡ l.file.links
    links = ap (λ (o : Option FileState). elim o [ None ↦ [] | Some q ↦ q.links ]) l.is

pub linked-range : (E : Entry → Type 0) (F : Files) (i g b : ℕ) (link : BackLink) → Linked E F i g b link
    → link.entry < entry_limit
linked-range E F i g b link l = (entry-parts (F link.directory) l.parent.file link.entry l.entry l.parent.is l.there).1

pub linked-filled : (E : Entry → Type 0) (F : Files) (i g b : ℕ) (link : BackLink) → Linked E F i g b link
    → Filled F link.directory
linked-filled E F i g b link l = (
  link.entry,
  (entry-parts (F link.directory) l.parent.file link.entry l.entry l.parent.is l.there).1,
  linked-paired E F i g b link l,
)

-- What an entry gives to it, and leaves of it

-- a file after what is given
pub after-file : (F : Files) (given : Given) (i : ℕ) (f : FileState) → F i ≡ Some f → given.born i ≡ None
    → files_after F given i ≡ after_meta (given.metas i f.generation) (filled given i f)
after-file F given i f is born = ap (λ (o : Option ℕ). file_after given i (born_file o (F i))) born
    ∙ ap (λ (o : Option FileState). file_after given i o) is

-- the directory gets no meta, the file one with the link, and the entry's slot a cell with an entry that passes
pub record Stays (E : Entry → Type 0) (given : Given) (i g b : ℕ) (link : BackLink) : Type 0 where
  pub metas : AtMeta b link (given.metas i g)
  pub older : (kind : FileKind) (size : ℕ) (links : List BackLink) → given.metas i g ≡ Some (Is kind size links)
      → is_folder kind ≡ true → link.generation < g
  pub directory : given.metas link.directory link.generation ≡ None
  pub cell : (v : Value) → given.slots link.directory link.generation (link.entry / 16) ≡ Some v
      → (x : Entry) × (entry_held v link.entry ≡ Some x) × E x

-- what passes names (i, g)
abbrev pub NamesOnly : (Entry → Type 0) → ℕ → ℕ → Type 0
NamesOnly E i g = (x : Entry) → E x → (x.inode ≡ i) × (x.generation ≡ g)

-- a directory that gets no meta stays one, with the same links
pub directory-after : (F : Files) (given : Given) (d g : ℕ) (p : IsDirectory F d g)
    → given.born d ≡ None → given.metas d g ≡ None
    → files_after F given d ≡ Some (filled given d p.file)
directory-after F given d g p born none =
    after-file F given d p.file p.is born ∙ ap (λ (o : Option Meta). after_meta o (filled given d p.file))
    (ap (λ (q : ℕ). given.metas d q) p.generation ∙ none)

module _ (E : Entry → Type 0) (F : Files) (given : Given) (i g b : ℕ) (link : BackLink) (only : NamesOnly E i g)
    (l : Linked E F i g b link)
    (stays : Stays E given i g b link)
    (own_born : given.born i ≡ None) (parent_born : given.born link.directory ≡ None) where
  file-after : (f : FileState) × (files_after F given i ≡ Some f) × (f.generation ≡ g) × HasAt f.links b link
      × (is_folder f.kind ≡ true → link.generation < g)
  file-after =
      let e = after-file F given i l.file l.is own_born
      ∙ ap (λ (q : ℕ). after_meta (given.metas i q) (filled given i l.file)) l.generation in
      go (given.metas i g) refl stays.metas e
    where
      go : (o : Option Meta) → given.metas i g ≡ o → AtMeta b link o
          → files_after F given i ≡ after_meta o (filled given i l.file)
          → (f : FileState) × (files_after F given i ≡ Some f) × (f.generation ≡ g) × HasAt f.links b link
          × (is_folder f.kind ≡ true → link.generation < g)
      go None eo at e = (filled given i l.file, e, l.generation, l.at, l.older)
      go (Some Gone) eo at e = absurd at
      go (Some (Is kind size links)) eo at e = (_, e, l.generation, at, stays.older kind size links eo)

  cell-after : (x : Entry)
      × (entry_held (unwrap_or (given.slots link.directory l.parent.file.generation (link.entry / 16))
      (l.parent.file.values (link.entry / 16))) link.entry ≡ Some x) × E x
  cell-after = go (given.slots link.directory l.parent.file.generation (link.entry / 16))
      (ap (λ (q : ℕ). given.slots link.directory q (link.entry / 16)) l.parent.generation)
    where
      go : (o : Option Value) → o ≡ given.slots link.directory link.generation (link.entry / 16)
          → (x : Entry) × (entry_held (unwrap_or o (l.parent.file.values (link.entry / 16))) link.entry ≡ Some x) × E x
      go None e =
          (l.entry, (entry-parts (F link.directory) l.parent.file link.entry l.entry l.parent.is l.there).2, l.passes)
      go (Some v) e = stays.cell v (sym e)

  -- it is still linked after what is given
  pub linked-after : Linked E (files_after F given) i g b link
  linked-after =
      let f = file-after in
      let x = cell-after in
      let d = directory-after F given link.directory link.generation l.parent parent_born stays.directory in
      let n = only x.0 x.2 in
      let range = (entry-parts (F link.directory) l.parent.file link.entry l.entry l.parent.is l.there).1 in
      record {
        file = f.0;
        is = f.1;
        generation = f.2;
        at = f.3;
        parent = record {
          file = filled given link.directory l.parent.file;
          is = d;
          generation = l.parent.generation;
          folder = l.parent.folder;
        };
        older = f.4;
        entry = x.0;
        there = ap (λ (o : Option FileState). entry_in_file o link.entry) d ∙ inside range x.1;
        passes = x.2;
        names_inode = n.0;
        names_generation = n.1;
      }
    where
      inside : {y : Entry} → link.entry < entry_limit
          → entry_held ((filled given link.directory l.parent.file).values (link.entry / 16)) link.entry ≡ Some y
          → entry_in_file (Some (filled given link.directory l.parent.file)) link.entry ≡ Some y
      inside lt h = let k = l.parent.folder in rw (k, lt-ltb link.entry entry_limit lt) h

module _ (E : Entry → Type 0) (W V : World) (e : Entry1) (i g b : ℕ) (link : BackLink) (only : NamesOnly E i g)
    (sane : IsSane W) (next : Next W e V)
    (l : Linked E W.files i g b link)
    -- no Drop of the entry is done, and where its slot gets a cell, the entry passes
    (undropped : (V' : World) → given_by W.files e ≡ gives W.files e.step e.claims
    → first_of (rows W V' e.step) ≡ None → IsClaim W e.step e.claims
    → (of : ℕ) (name : List ℕ) → e.step ≡ step.Drop link.directory of name
    → found W.files link.directory name ≡ Some link.entry → ⊥)
    (keeps : (v : Value) → (given_by W.files e).slots link.directory link.generation (link.entry / 16) ≡ Some v
    → (x : Entry) × (entry_held v link.entry ≡ Some x) × E x) where
  pair : is_pair W.files i link ≡ true
  pair = linked-pair E W.files i g b link l

  acting : (V' : World) → given_by W.files e ≡ gives W.files e.step e.claims
      → first_of (rows W V' e.step) ≡ None → IsClaim W e.step e.claims
      → Stays E (given_by W.files e) i g b link
  acting V' same row claim = record {
    metas = subst (λ (x : Given). AtMeta b link (x.metas i g)) (sym same)
        (subst (λ (q : ℕ). AtMeta b link ((gives W.files e.step e.claims).metas i q)) l.generation
        (link-kept W V' e.claims i b l.file link sane.bottom l.is l.at pair e.step row claim
        (undropped V' same row claim)));
    older = λ kind size links h folder.
        let k : kind ≡ l.file.kind = of-kind kind size links ((given_by W.files e).metas i g)
        (subst (λ (x : Given). OfKind l.file.kind (x.metas i g)) (sym same)
        (subst (λ (q : ℕ). OfKind l.file.kind ((gives W.files e.step e.claims).metas i q)) l.generation
        (given-kind W e.claims e.step claim i l.file l.is))) h in
        l.older (ap is_folder (sym k) ∙ folder);
    directory = ap (λ (x : Given). x.metas link.directory link.generation) same
        ∙ ap (λ (q : ℕ). (gives W.files e.step e.claims).metas link.directory q) (sym l.parent.generation)
        ∙ folder-metas W V' e.claims e.step row claim link.directory l.parent.file l.parent.is l.parent.folder
        (λ q. linked-filled E W.files i g b link l);
    cell = keeps;
  }
    where
      of-kind : (other : FileKind) (size : ℕ) (links : List BackLink) (o : Option Meta) → OfKind l.file.kind o
          → o ≡ Some (Is other size links)
          → other ≡ l.file.kind
      of-kind other size links o h e = subst (λ (p : Option Meta). OfKind l.file.kind p) e h

  idle : given_by W.files e ≡ nothing → Stays E (given_by W.files e) i g b link
  idle same = record {
    metas = subst (λ (x : Given). AtMeta b link (x.metas i g)) (sym same) tt;
    older = λ kind size links h folder.
        absurd (let z : (given_by W.files e).metas i g ≡ None = ap (λ (x : Given). x.metas i g) same in cc (z, h));
    directory = ap (λ (x : Given). x.metas link.directory link.generation) same;
    cell = keeps;
  }

  pub step-stays : Stays E (given_by W.files e) i g b link
  step-stays = go (acts W V e next)
    where
      go : Acts W e → Stays E (given_by W.files e) i g b link
      go (Idle same) = idle same
      go (Acting V' same row claim) = acting V' same row claim

  -- and after the entry it is still there
  pub step-linked : Linked E V.files i g b link
  step-linked =
      subst (λ (F : Files). Linked E F i g b link) (sym (files-next W V e next)) (go (is_refused e.reply) refl)
    where
      born : (j : ℕ) (f : FileState) → W.files j ≡ Some f → (given_by W.files e).born j ≡ None
      born j f is = by (acts W V e next)
        where
          by : Acts W e → (given_by W.files e).born j ≡ None
          by (Idle same) = ap (λ (x : Given). x.born j) same
          by (Acting V' same row claim) = ap (λ (x : Given). x.born j) same ∙ not-born W V' e.claims e.step claim j f is

      done : is_refused e.reply ≡ false → given_by W.files e ≡ gives W.files e.step e.claims
      done r = ap (λ (t : Bool). cond (not t || is_write_fault e.reply) (gives W.files e.step e.claims) nothing) r

      go : (t : Bool) → is_refused e.reply ≡ t
          → Linked E (cond t W.files (files_after W.files (gives W.files e.step e.claims))) i g b link
      go true r = l
      go false r = subst (λ (x : Given). Linked E (files_after W.files x) i g b link) (done r)
          (linked-after E W.files (given_by W.files e) i g b link only l step-stays (born i l.file l.is)
          (born link.directory l.parent.file l.parent.is))
