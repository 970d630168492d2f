-- The names of a moved file: what Link asks, and that the new name leads to its file.
use Rattle.std.proofs.Common.{◌≡◌, ℕ, ◌/◌, ◌<◌, true, false, cond, eqb, not, List, [], length, Option, Some, None}
use Rattle.std.proofs.Common.{is_some, unwrap_or, refl, sym, ap, ◌∙◌, subst, eq-eqb, lt-ltb}
use Rattle.nofs_inode.specs.declared.inode.BackLink.{BackLink}
use Rattle.nofs_dirent.specs.Entries.{spelled_entry, entry_limit}
use Rattle.nofs_model.specs.Files.{Files, FileState, is_folder, entry_in_file, entry_held, links_of}
use Rattle.nofs_model.specs.declared.image.value.Value.{Value}
use Rattle.nofs_history.specs.Meta.{Meta, Gone, Is}
use Rattle.nofs_history.specs.Search.{first_of}
use Rattle.nofs_history.specs.Machine.{Given, gives, found, place_for, link_place, is_folder_at, value_of}
use Rattle.nofs_history.specs.Machine.{bytes_in, with_entry, link_to, set_link, filled, after_meta, files_after}
use Rattle.nofs_history.specs.Machine.{link_given, is_refused}
use Rattle.nofs_history.specs.World.{World}
use Rattle.nofs_history.specs.Refusals.{row, rows, stale, not_directory, exists, too_many_links, bad_name}
use Rattle.nofs_history.specs.Claims.{IsClaim}
use Rattle.nofs_history.specs.Next.{Next}
use Rattle.nofs_history.specs.declared.machine.history.Claims.{Claims}
use Rattle.nofs_history.specs.declared.machine.history.Entry1.{Entry1}
use Rattle.nofs_history.specs.declared.machine.steps.Step.{Step}
use Rattle.nofs_history.specs.declared.machine.steps.Step.TheVariants as step
use Rattle.nofs_history.specs.declared.machine.replies.Reply.TheVariants as reply
use Rattle.nofs_history.specs.declared.machine.replies.Refusal.TheVariants as refusal
use Rattle.nofs_crashlaw.proofs.OnFiles.Given.{value-of, at-itself}
use Rattle.nofs_crashlaw.proofs.OnNames.Premises.{link-gives, link-place-parts}
use Rattle.nofs_crashlaw.specs.Runs.Pairs.{HasAt, IsDirectory}
use Rattle.nofs_crashlaw.proofs.OnRuns.Places.{set-here}
use Rattle.nofs_crashlaw.proofs.OnRuns.Acts.{acts, accepted-acts, files-next}
use Rattle.nofs_crashlaw.proofs.OnRuns.Gives.{none-at, row-none, folder-at, folder-metas, not-born, link-file}
use Rattle.nofs_crashlaw.proofs.OnRuns.PairEntries.{Spelled, read-back}
use Rattle.nofs_crashlaw.proofs.OnRuns.Links.{IsSane, Linked, after-file, directory-after}
use Rattle.nofs_crashlaw.proofs.OnRuns.Directories.{IsLive, live-row, directory-row, place-range}
use Rattle.nofs_crashlaw.specs.Paths.Moves.{named_entry}
use Rattle.nofs_crashlaw.proofs.OnPaths.Looks.{Only}

-- What Link makes

-- what Link asks
pub record LinkAsks (W : World) (d g : ℕ) (name : List ℕ) (i of : ℕ) : Type 0 where
  pub parent : IsDirectory W.files d g
  pub own : IsLive W.files i of
  pub file : is_folder_at W.files i ≡ false
  pub free : is_some (found W.files d name) ≡ false
  pub place : ℕ
  pub is_place : link_place W.files i ≡ Some place
  pub good : bad_name name ≡ None

pub link-asks : (W V : World) (d g : ℕ) (name : List ℕ) (i of : ℕ)
    → first_of (rows W V (step.Link d g name i of)) ≡ None → LinkAsks W d g name i of
link-asks W V d g name i of r =
    let many = place (link_place W.files i) refl (row-none (not (is_some (link_place W.files i))) refusal.TooManyLinks
    (none-at (rows W V (step.Link d g name i of)) r 6 (too_many_links W i) refl)) in
    record {
      parent = directory-row W d g (none-at (rows W V (step.Link d g name i of)) r 1 (stale W d g) refl)
          (none-at (rows W V (step.Link d g name i of)) r 3 (not_directory W d) refl);
      own = live-row W i of (none-at (rows W V (step.Link d g name i of)) r 2 (stale W i of) refl);
      file = link-file W V d g name i of r;
      free = row-none (is_some (found W.files d name)) refusal.Exists
          (none-at (rows W V (step.Link d g name i of)) r 5 (exists W d name) refl);
      place = many.0;
      is_place = many.1;
      good = none-at (rows W V (step.Link d g name i of)) r 0 (bad_name name) refl;
    }
  where
    place : (o : Option ℕ) → link_place W.files i ≡ o → not (is_some (link_place W.files i)) ≡ false → (b : ℕ)
        × (link_place W.files i ≡ Some b)
    place None eo h = absurd (cc (rw eo at h))
    place (Some b) eo h = (b, eo)

module _ (W V : World) (c : Claims) (d g i of p : ℕ) (name : List ℕ) (sane : IsSane W)
    (row : first_of (rows W V (step.Link d g name i of)) ≡ None)
    (claim : IsClaim W (step.Link d g name i of) c)
    (asks : LinkAsks W d g name i of) (ep : place_for W.files d name ≡ Some p) (given : Given)
    (given_is : given ≡ gives W.files (step.Link d g name i of) c)
  where
    is-link : given ≡ link_given W.files d g name i of p asks.place
    is-link = given_is ∙ link-gives W.files d g name i of c p asks.place ep asks.is_place

    meta : given.metas i asks.own.file.generation
        ≡ Some (Is asks.own.file.kind asks.own.file.size (set_link asks.own.file.links asks.place (link_to d p g)))
    meta =
        let same = at-itself i of in
        let is = asks.own.is in
        ap (λ (q : ℕ). given.metas i q) asks.own.generation ∙ ap (λ (x : Given). x.metas i of) is-link
        ∙ rw same (ap (λ (o : Option FileState).
        Some (elim o [ None ↦ Gone | Some f ↦ Is f.kind f.size (set_link f.links asks.place (link_to d p g)) ])) is)

    room : asks.place < length asks.own.file.links
    room =
        let lt = (link-place-parts W.files i asks.place asks.is_place).1 in
        let same : links_of W.files i ≡ asks.own.file.links =
        ap (λ (o : Option FileState). elim o [ None ↦ [] | Some q ↦ q.links ]) asks.own.is in
        subst (λ (ls : List BackLink). asks.place < length ls) same lt

    born : (j : ℕ) (f : FileState) → W.files j ≡ Some f → given.born j ≡ None
    born j f is = ap (λ (x : Given). x.born j) given_is ∙ not-born W V c (step.Link d g name i of) claim j f is

    own : (f : FileState) × (files_after W.files given i ≡ Some f) × (f.generation ≡ of)
        × HasAt f.links asks.place (link_to d p g) ×
        (f.kind ≡ asks.own.file.kind)
    own = (
      record {
        generation = asks.own.file.generation;
        kind = asks.own.file.kind;
        size = asks.own.file.size;
        links =
            set_link asks.own.file.links asks.place (link_to d p g);
        values = (filled given i asks.own.file).values;
        nodes = (filled given i asks.own.file).nodes;
      },
      after-file W.files given i asks.own.file asks.own.is (born i asks.own.file asks.own.is)
          ∙ ap (λ (o : Option Meta). after_meta o (filled given i asks.own.file)) meta,
      asks.own.generation,
      set-here asks.own.file.links asks.place (link_to d p g) room,
      refl,
    )

    parent : files_after W.files given d ≡ Some (filled given d asks.parent.file)
    parent = directory-after W.files given d g asks.parent (born d asks.parent.file asks.parent.is)
        (ap (λ (q : ℕ). given.metas d q) (sym asks.parent.generation)
        ∙ ap (λ (x : Given). x.metas d asks.parent.file.generation) given_is
        ∙ folder-metas W V c (step.Link d g name i of) row claim d asks.parent.file asks.parent.is asks.parent.folder
        (λ q. absurd (cc q)))

    slot : given.slots d asks.parent.file.generation (p / 16)
        ≡ Some (with_entry (value_of W.files d (p / 16)) p (spelled_entry i of name))
    slot =
        let same = at-itself d g in
        let k = eq-eqb (p / 16) (p / 16) refl in
        ap (λ (q : ℕ). given.slots d q (p / 16)) asks.parent.generation
        ∙ ap (λ (x : Given). x.slots d g (p / 16)) is-link ∙ rw (same, k) refl

    whole : length (bytes_in (value_of W.files d (p / 16))) ≡ 1024
    whole = ap (λ (v : Value). length (bytes_in v)) (value-of W.files d asks.parent.file asks.parent.is (p / 16))
        ∙ sane.whole d asks.parent.file asks.parent.is asks.parent.folder (p / 16)

    inside : entry_in_file (Some (filled given d asks.parent.file)) p ≡ Some (named_entry i of name)
    inside =
        let lt = lt-ltb p entry_limit (place-range W.files d name p ep) in
        let k = asks.parent.folder in
        let numbers = subst (λ (q : ℕ). Spelled i q) asks.own.generation (sane.numbers i asks.own.file asks.own.is) in
        rw (k, lt) (ap (λ (o : Option Value). entry_held (unwrap_or o (asks.parent.file.values (p / 16))) p) slot
        ∙ read-back (value_of W.files d (p / 16)) p i of name whole numbers asks.good)

    linked-now : Linked (λ x. Only (named_entry i of name) x)
        (files_after W.files given) i of asks.place (link_to d p g)
    linked-now = record {
      file = own.0;
      is = own.1;
      generation = own.2;
      at = own.3;
      parent = record {
        file = filled given d asks.parent.file;
        is = parent;
        generation = asks.parent.generation;
        folder = asks.parent.folder;
      };
      older = λ k.
          let z : is_folder asks.own.file.kind ≡ false =
          sym (folder-at W.files i asks.own.file asks.own.is) ∙ asks.file in
          let y : is_folder asks.own.file.kind ≡ true = sym (ap is_folder own.4) ∙ k in
          absurd (cc (z, y));
      entry = named_entry i of name;
      there = ap (λ (o : Option FileState). entry_in_file o p) parent ∙ inside;
      passes = refl;
      names_inode = refl;
      names_generation = refl;
    }

-- the new name leads to its file after an accepted Link
pub link-linked : (W V : World) (e : Entry1) (d g i of p : ℕ) (name : List ℕ) → IsSane W → Next W e V
    → e.step ≡ step.Link d g name i of
    → e.reply ≡ reply.Linked → place_for W.files d name ≡ Some p
    → (b : ℕ) × Linked (λ x. Only (named_entry i of name) x) V.files i of b (link_to d p g)
    × (is_some (found W.files d name) ≡ false)
link-linked W V e d g i of p name sane next es er ep =
    let a = accepted-acts W V e next (ap is_refused er) in
    let r : first_of (rows W V (step.Link d g name i of)) ≡ None =
    subst (λ (s : Step). first_of (rows W V s) ≡ None) es a.0 in
    let claim : IsClaim W (step.Link d g name i of) e.claims = subst (λ (s : Step). IsClaim W s e.claims) es a.1 in
    let asks = link-asks W V d g name i of r in
    let files : V.files ≡ files_after W.files (gives W.files (step.Link d g name i of) e.claims) =
    files-next W V e next
    ∙ (λ j. cond (is_refused (er j)) W.files (files_after W.files (gives W.files (es j) e.claims))) in
    let l = linked-now W V e.claims d g i of p name sane r claim asks ep
    (gives W.files (step.Link d g name i of) e.claims) refl in (
      asks.place,
      subst (λ (F : Files). Linked (λ x. Only (named_entry i of name) x) F i of asks.place (link_to d p g))
          (sym files) l,
      asks.free,
    )
