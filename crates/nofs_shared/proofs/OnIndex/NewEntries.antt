-- What a step leaves that makes one entry and one back link, and that a Link makes one new name, which finds its file.
use Rattle.std.proofs.Common.{Contains, List, None, Option, Some, ap, arith, cond, false, is_some, length, ltb, not}
use Rattle.std.proofs.Common.{refl, subst, subst₂, sym, true, ℕ, ◌%◌, ◌&&◌, ◌/◌, ◌∙◌, ◌≡◌, ◌≢◌}
use Rattle.std.specs.Prelude.{unwrap_or}
use Rattle.nofs_dirent.specs.Entries.{entry_limit, spelled_entry}
use Rattle.nofs_dirent.specs.declared.entry.Entry.{Entry}
use Rattle.nofs_inode.specs.declared.inode.BackLink.{BackLink}
use Rattle.nofs_inode.specs.declared.inode.FileKind.TheVariants.{Directory as Folder, File}
use Rattle.nofs_inode.specs.declared.inode.FileKind.{FileKind}
use Rattle.nofs_model.specs.Files.{FileState, Files, entry_at, entry_held, entry_in_file, is_folder}
use Rattle.nofs_model.specs.declared.image.value.Value.TheVariants.{Bytes, Hole, Lost}
use Rattle.nofs_model.specs.declared.image.value.Value.{Value}
use Rattle.nofs_history.specs.Answers.{reply_of}
use Rattle.nofs_history.specs.Claims.{IsClaim}
use Rattle.nofs_history.specs.Machine.{Given, bytes_in, files_after, filled, found, gives, is_paired, is_refused}
use Rattle.nofs_history.specs.Machine.{link_given, no_meta, place_for, value_of, with_entry}
use Rattle.nofs_history.specs.Next.{Next}
use Rattle.nofs_history.specs.Refusals.{bad_name, directory_full, rows}
use Rattle.nofs_history.specs.Search.{first_of}
use Rattle.nofs_history.specs.World.{World}
use Rattle.nofs_history.specs.declared.machine.history.Entry1.{Entry1}
use Rattle.nofs_history.specs.declared.machine.replies.Refusal.TheVariants as refusal
use Rattle.nofs_history.specs.declared.machine.steps.Step.TheVariants as step
use Rattle.nofs_history.specs.declared.machine.steps.Step.{Step}
use Rattle.nofs_crashlaw.specs.Paths.Moves.{named_entry}
use Rattle.nofs_crashlaw.specs.Runs.Pairs.{IsDirectory, is_drop}
use Rattle.nofs_crashlaw.proofs.OnFiles.Given.{value-of}
use Rattle.nofs_crashlaw.proofs.OnLives.Era.{gives-birth}
use Rattle.nofs_crashlaw.proofs.OnNames.EntryCells.{entry-there}
use Rattle.nofs_crashlaw.proofs.OnNames.Premises.{link-gives, no-entry-unpaired, place-unpaired}
use Rattle.nofs_crashlaw.proofs.OnPaths.Links.{link-asks, link-linked}
use Rattle.nofs_crashlaw.proofs.OnPaths.Looks.{Only}
use Rattle.nofs_crashlaw.proofs.OnRuns.Acts.{accepted-acts}
use Rattle.nofs_crashlaw.proofs.OnRuns.Chains.{Names}
use Rattle.nofs_crashlaw.proofs.OnRuns.Gives.{folder-at, folder-metas, given-kind, none-at, not-born, row-none}
use Rattle.nofs_crashlaw.proofs.OnRuns.Links.{IsSane, directory-after, linked-paired, pair-linked}
use Rattle.nofs_crashlaw.proofs.OnRuns.PairEntries.{entry-slot, short-entry}
use Rattle.nofs_crashlaw.proofs.OnRuns.Places.{contains-at}
use Rattle.nofs_crashlaw.proofs.OnRuns.Sane.{After, New, Old, after}
use Rattle.nofs_crashlaw.proofs.OnRuns.StepLinks.{directory-next, done, link-next}
use Rattle.nofs_shared.specs.Index.Names.{Finds}
use Rattle.nofs_shared.proofs.OnIndex.Learned.{linked-finds}
use Rattle.nofs_shared.proofs.OnIndex.NewNames.{IsNewName, WasLink, pair-file}
use Rattle.nofs_shared.proofs.OnIndex.WasLinks.{link-was}

-- Cells

-- an entry beside the one that is written stays
entry-beside : (old : Value) (e l : ℕ) (bytes : List ℕ) → length (bytes_in old) ≡ 1024 → length bytes ≡ 64
    → l % 16 ≢ e % 16 → entry_held (with_entry old e bytes) l ≡ entry_held old l
unfolding with_entry
entry-beside (Bytes c) e l bytes whole short ne = entry-there (Bytes c) e l bytes whole short (λ z. cc z) ne
entry-beside Hole e l bytes whole short ne = entry-there Hole e l bytes whole short (λ z. cc z) ne
entry-beside Lost e l bytes whole short ne = entry-there Hole e l bytes whole short (λ z. cc z) ne

-- where a cell is given to what has a file, it has these bytes at this place
abbrev pub OneEntry : Files → Given → ℕ → ℕ → List ℕ → Type 0
OneEntry F given dir place bytes = (d k : ℕ) (f : FileState) (v : Value) → F d ≡ Some f
    → given.slots d f.generation k ≡ Some v
    → (dir ≡ d) × (place / 16 ≡ k) × (with_entry (value_of F dir (place / 16)) place bytes ≡ v)

-- The new entry

pub same-file : (o : Option FileState) (a b : FileState) → o ≡ Some a → o ≡ Some b → a ≡ b
same-file o a b x y = cc (x, y)

file-kind : (k : FileKind) → is_folder k ≡ false → k ≡ File
file-kind File e = refl
file-kind Folder e = cc e

pub some-place : (o : Option ℕ) → not (is_some o) ≡ false → (p : ℕ) × (o ≡ Some p)
some-place None h = cc h
some-place (Some p) h = (p, refl)

module _ (W V : World) (e : Entry1) (sane : IsSane W) (next : Next W e V) (ok : is_refused e.reply ≡ false)
    (undropped : is_drop e.step ≡ true → ⊥) where
  -- a directory after the step
  pub directory : (d g : ℕ) (at : IsDirectory W.files d g)
      → V.files d ≡ Some (filled (gives W.files e.step e.claims) d at.file)
  directory d g at =
      let a = accepted-acts W V e next ok in
      let none = ap (λ (q : ℕ). (gives W.files e.step e.claims).metas d q) (sym at.generation)
      ∙ folder-metas W V e.claims e.step a.0 a.1 d at.file at.is at.folder (λ q. absurd (undropped q)) in
      ap (λ (F : Files). F d) (done W V e sane next ok)
      ∙ directory-after W.files (gives W.files e.step e.claims) d g at
      (not-born W V e.claims e.step a.1 d at.file at.is) none

  beside : (dir place : ℕ) (bytes : List ℕ) → length bytes ≡ 64
      → OneEntry W.files (gives W.files e.step e.claims) dir place bytes
      → (d g q : ℕ) → IsDirectory W.files d g → (d ≡ dir → q ≡ place → ⊥)
      → entry_at V.files d q ≡ entry_at W.files d q
  beside dir place bytes short one d g q at apart =
      ap (λ (o : Option FileState). entry_in_file o q) (directory d g at)
      ∙ ap (λ (x : Option Entry). cond (is_folder at.file.kind && ltb q entry_limit) x None)
      (held ((gives W.files e.step e.claims).slots d at.file.generation (q / 16)) refl)
      ∙ sym (ap (λ (o : Option FileState). entry_in_file o q) at.is)
    where
      held : (o : Option Value) → (gives W.files e.step e.claims).slots d at.file.generation (q / 16) ≡ o
          → entry_held (unwrap_or o (at.file.values (q / 16))) q ≡ entry_held (at.file.values (q / 16)) q
      held None eo = refl
      held (Some v) eo =
          let parts = one d (q / 16) at.file v at.is eo in
          let slot = parts.1 in
          let same : value_of W.files dir (place / 16) ≡ at.file.values (q / 16) =
          (λ t. value_of W.files (parts.0 t) (slot t)) ∙ value-of W.files d at.file at.is (q / 16) in
          let ne : q % 16 ≢ place % 16 = λ z. apart (sym parts.0) (omega (arith, slot, z)) in
          ap (λ (u : Value). entry_held u q) (sym parts.2 ∙ ap (λ (u : Value). with_entry u place bytes) same)
          ∙ entry-beside (at.file.values (q / 16)) place q bytes
          (sane.whole d at.file at.is at.folder (q / 16)) short ne

  pairs-stay : (d q : ℕ) → is_paired W.files d q ≡ true → is_paired V.files d q ≡ true
  pairs-stay d q paired = go (entry_at W.files d q) refl
    where
      go : (o : Option Entry) → entry_at W.files d q ≡ o → is_paired V.files d q ≡ true
      go None eo = absurd (let z = no-entry-unpaired W.files d q eo in cc (z, paired))
      go (Some x) eo =
          let p = pair-file W.files d q x eo paired in
          let at = contains-at p.file.links p.link p.has in
          let l = pair-linked W.files x.inode p.file.generation at.0 p.file p.link p.is refl at.1 p.pair in
          let n = link-next W V e sane next x.inode p.file.generation at.0 p.link l
          (λ of name es ef. undropped (ap is_drop es)) in
          subst₂ (λ (a b : ℕ). is_paired V.files a b ≡ true) p.directory p.entry
          (linked-paired (λ y. Names x.inode p.file.generation y) V.files x.inode p.file.generation at.0 p.link n)

  -- a file keeps its kind
  kept-kind : (j : ℕ) (f h : FileState) → W.files j ≡ Some f → V.files j ≡ Some h → h.kind ≡ f.kind
  kept-kind j f h is now =
      let a = accepted-acts W V e next ok in
      go a.1 (after W.files (gives W.files e.step e.claims) j h (gives-birth W.files e.step e.claims)
      (λ q at. given-kind W e.claims e.step a.1 j q at)
      (sym (ap (λ (F : Files). F j) (done W V e sane next ok)) ∙ now))
    where
      go : IsClaim W e.step e.claims → After W.files (gives W.files e.step e.claims) j h → h.kind ≡ f.kind
      go claim (Old q was gen kind values alive) =
          let same : q ≡ f = same-file (W.files j) q f was is in kind ∙ ap (λ (x : FileState). x.kind) same
      go claim (New g born gen values metas) =
          absurd (let z = not-born W V e.claims e.step claim j f is in cc (born, z))

  -- a new name, where no more than one entry and one link are new
  pub new-name : (dir place i of : ℕ) (name : List ℕ) → bad_name name ≡ None
      → OneEntry W.files (gives W.files e.step e.claims) dir place (spelled_entry i of name)
      → place_for W.files dir name ≡ Some place → is_some (found W.files dir name) ≡ false
      → entry_at V.files dir place ≡ Some (named_entry i of name)
      → ((j g : ℕ) (h : FileState) (link : BackLink) → V.files j ≡ Some h → Contains h.links link
      → IsDirectory W.files link.directory g → (link.directory ≡ dir → link.entry ≡ place → ⊥)
      → WasLink W.files j h link)
      → IsNewName W.files V.files dir place name
  new-name dir place i of name good one ep free there was = record {
    free = free;
    unpaired = place-unpaired W.files dir name place ep;
    entry = named_entry i of name;
    there = there;
    named = refl;
    directories = λ d g at. directory-next W V e sane next d g at (λ q. absurd (undropped q));
    beside = beside dir place (spelled_entry i of name) (short-entry i of name good) one;
    pairs_stay = pairs-stay;
    was = was;
  }

-- a Link's new name, and the file that it finds
pub link-new : (W V : World) (e : Entry1) (dir g i of : ℕ) (name : List ℕ) → IsSane W → Next W e V
    → is_refused e.reply ≡ false → e.step ≡ step.Link dir g name i of
    → (p : ℕ) × IsNewName W.files V.files dir p name
    × Finds V.files dir g name (record { inode = i; generation = of; kind = File })
link-new W V e dir g i of name sane next ok es =
    let a = accepted-acts W V e next ok in
    let r : first_of (rows W V (step.Link dir g name i of)) ≡ None =
    subst (λ (s : Step). first_of (rows W V s) ≡ None) es a.0 in
    let asks = link-asks W V dir g name i of r in
    let at = some-place (place_for W.files dir name) (row-none _ refusal.DirectoryFull
    (none-at (rows W V (step.Link dir g name i of)) r 7 (directory_full W dir name) refl)) in
    let p = at.0 in
    let given : gives W.files e.step e.claims ≡ link_given W.files dir g name i of p asks.place =
    ap (λ (s : Step). gives W.files s e.claims) es
    ∙ link-gives W.files dir g name i of e.claims p asks.place at.1 asks.is_place in
    let files : V.files ≡ files_after W.files (link_given W.files dir g name i of p asks.place) =
    done W V e sane next ok ∙ ap (λ (x : Given). files_after W.files x) given in
    let l = link-linked W V e dir g i of p name sane next es
    (a.2 ∙ ap (λ (s : Step). reply_of W s e.claims) es) at.1 in
    let new : IsNewName W.files V.files dir p name = new-name W V e sane next ok undropped dir p i of name asks.good
    (λ d k f v is q. entry-slot W.files dir g p (spelled_entry i of name) no_meta d f.generation k v
    (sym (ap (λ (x : Given). x.slots d f.generation k) given) ∙ q))
    at.1 l.2 (l.1.there ∙ ap Some l.1.passes)
    (λ j q h link is has dir' apart. link-was W.files dir g p j name h link has apart i of asks.place
    (sym (ap (λ (F : Files). F j) files) ∙ is)) in
    let kind : l.1.file.kind ≡ File = kept-kind W V e sane next ok undropped i asks.own.file l.1.file asks.own.is l.1.is
    ∙ file-kind asks.own.file.kind (sym (folder-at W.files i asks.own.file asks.own.is) ∙ asks.file) in (
      p,
      new,
      linked-finds (λ x. Only (named_entry i of name) x) W.files V.files dir g p i of l.0 name File new
          asks.parent asks.good l.1 kind,
    )
  where
    undropped : is_drop e.step ≡ true → ⊥
    undropped q = let z : is_drop e.step ≡ false = ap is_drop es in cc (q, z)
