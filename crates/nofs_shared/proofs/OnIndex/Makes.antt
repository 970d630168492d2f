-- A Make that is accepted makes one new name, which finds the new file.
use Rattle.std.proofs.Common.{Bool, List, None, Option, Some, [], ap, arith, cond, eq-eqb, eqb, false, is_some, length}
use Rattle.std.proofs.Common.{lt-ltb, ne_eqb, refl, subst, sym, true, ℕ, ◌&&◌, ◌/◌, ◌∙◌, ◌∷◌, ◌≡◌}
use Rattle.std.specs.Prelude.{unwrap_or}
use Rattle.nofs_dirent.specs.Entries.{entry_limit, spelled_entry}
use Rattle.nofs_inode.specs.declared.inode.FileKind.{FileKind}
use Rattle.nofs_model.specs.Files.{FileState, Files, entry_at, entry_held, entry_in_file}
use Rattle.nofs_model.specs.declared.image.value.Value.TheVariants.{Hole}
use Rattle.nofs_model.specs.declared.image.value.Value.{Value}
use Rattle.nofs_history.specs.Claims.{IsClaim}
use Rattle.nofs_history.specs.Machine.{Given, after_meta, born_file, bytes_in, entry_given, file_after, files_after}
use Rattle.nofs_history.specs.Machine.{filled, found, gives, is_refused, link_to, make_given, new_file, no_meta}
use Rattle.nofs_history.specs.Machine.{place_for, value_of, with_entry}
use Rattle.nofs_history.specs.Meta.{Is, Meta}
use Rattle.nofs_history.specs.Next.{Next}
use Rattle.nofs_history.specs.Refusals.{bad_name, directory_full, exists, not_directory, rows, stale}
use Rattle.nofs_history.specs.Search.{first_of}
use Rattle.nofs_history.specs.World.{World}
use Rattle.nofs_history.specs.declared.machine.history.Entry1.{Entry1}
use Rattle.nofs_history.specs.declared.machine.replies.Refusal.TheVariants as refusal
use Rattle.nofs_history.specs.declared.machine.steps.Step.TheVariants as step
use Rattle.nofs_history.specs.declared.machine.steps.Step.{Step}
use Rattle.nofs_crashlaw.specs.Paths.Moves.{named_entry}
use Rattle.nofs_crashlaw.specs.Runs.Pairs.{HasAt, IsDirectory, is_drop}
use Rattle.nofs_crashlaw.proofs.OnFiles.Given.{at-itself, value-of}
use Rattle.nofs_crashlaw.proofs.OnNames.Premises.{make-given-is}
use Rattle.nofs_crashlaw.proofs.OnRuns.Acts.{accepted-acts}
use Rattle.nofs_crashlaw.proofs.OnRuns.Chains.{Names}
use Rattle.nofs_crashlaw.proofs.OnRuns.Directories.{directory-row, place-range}
use Rattle.nofs_crashlaw.proofs.OnRuns.Gives.{none-at, other-inode, row-none}
use Rattle.nofs_crashlaw.proofs.OnRuns.Links.{IsSane, Linked}
use Rattle.nofs_crashlaw.proofs.OnRuns.PairEntries.{entry-slot, read-back}
use Rattle.nofs_crashlaw.proofs.OnRuns.Sane.{make-new, new-spelled}
use Rattle.nofs_crashlaw.proofs.OnRuns.StepLinks.{directory-next, done}
use Rattle.nofs_shared.specs.Index.Names.{Finds}
use Rattle.nofs_shared.proofs.OnIndex.Learned.{linked-finds}
use Rattle.nofs_shared.proofs.OnIndex.NewEntries.{directory, new-name, same-file, some-place}
use Rattle.nofs_shared.proofs.OnIndex.NewNames.{IsNewName}
use Rattle.nofs_shared.proofs.OnIndex.WasLinks.{make-was}

module _ (W V : World) (e : Entry1) (dir g : ℕ) (name : List ℕ) (kind : FileKind) (sane : IsSane W) (next : Next W e V)
    (ok : is_refused e.reply ≡ false) (es : e.step ≡ step.Make dir g name kind) where
  passes : first_of (rows W V (step.Make dir g name kind)) ≡ None
  passes = subst (λ (s : Step). first_of (rows W V s) ≡ None) es (accepted-acts W V e next ok).0

  claim : IsClaim W (step.Make dir g name kind) e.claims
  claim = subst (λ (s : Step). IsClaim W s e.claims) es (accepted-acts W V e next ok).1

  undropped : is_drop e.step ≡ true → ⊥
  undropped q = let z : is_drop e.step ≡ false = ap is_drop es in cc (q, z)

  good : bad_name name ≡ None
  good = none-at (rows W V (step.Make dir g name kind)) passes 0 (bad_name name) refl

  parent : IsDirectory W.files dir g
  parent = directory-row W dir g (none-at (rows W V (step.Make dir g name kind)) passes 1 (stale W dir g) refl)
      (none-at (rows W V (step.Make dir g name kind)) passes 2 (not_directory W dir) refl)

  free : is_some (found W.files dir name) ≡ false
  free = row-none (is_some (found W.files dir name)) refusal.Exists
      (none-at (rows W V (step.Make dir g name kind)) passes 3 (exists W dir name) refl)

  place : (p : ℕ) × (place_for W.files dir name ≡ Some p)
  place = some-place (place_for W.files dir name) (row-none _ refusal.DirectoryFull
      (none-at (rows W V (step.Make dir g name kind)) passes 4 (directory_full W dir name) refl))

  module _ (p : ℕ) (ep : place_for W.files dir name ≡ Some p) where
    given : gives W.files e.step e.claims ≡ make_given W.files dir g name kind e.claims p
    given = ap (λ (s : Step). gives W.files s e.claims) es
        ∙ make-given-is W.files dir g name kind e.claims p ep

    files : V.files ≡ files_after W.files (make_given W.files dir g name kind e.claims p)
    files = done W V e sane next ok ∙ ap (λ (x : Given). files_after W.files x) given

    -- the cells of what has a file are those of the new entry alone
    slots : (d k : ℕ) (f : FileState) → W.files d ≡ Some f
        → (gives W.files e.step e.claims).slots d f.generation k
        ≡ (entry_given W.files dir g p (spelled_entry e.claims.inode e.claims.generation name) no_meta).slots d
        f.generation k
    slots d k f is =
        let z : eqb e.claims.inode d ≡ false = ne_eqb e.claims.inode d
        (λ t. other-inode W dir g name kind e.claims d f claim is (sym t)) in
        ap (λ (x : Given). x.slots d f.generation k) given
        ∙ ap (λ (t : Bool). cond (t && eqb e.claims.generation f.generation) (Some Hole)
        ((entry_given W.files dir g p (spelled_entry e.claims.inode e.claims.generation name) no_meta).slots d
        f.generation k)) z

    slot : (gives W.files e.step e.claims).slots dir parent.file.generation (p / 16)
        ≡ Some (with_entry (value_of W.files dir (p / 16)) p
        (spelled_entry e.claims.inode e.claims.generation name))
    slot =
        let same = at-itself dir g in
        let k = eq-eqb (p / 16) (p / 16) refl in
        slots dir (p / 16) parent.file parent.is
        ∙ ap (λ (q : ℕ). (entry_given W.files dir g p (spelled_entry e.claims.inode e.claims.generation name)
        no_meta).slots dir q (p / 16)) parent.generation
        ∙ rw (same, k) refl

    inside : entry_in_file (Some (filled (gives W.files e.step e.claims) dir parent.file)) p
        ≡ Some (named_entry e.claims.inode e.claims.generation name)
    inside =
        let lt = lt-ltb p entry_limit (place-range W.files dir name p ep) in
        let k = parent.folder in
        let numbers = new-spelled W e.claims sane (make-new W V e.claims dir g name kind passes claim) in
        let whole : length (bytes_in (value_of W.files dir (p / 16))) ≡ 1024 =
        ap (λ (v : Value). length (bytes_in v)) (value-of W.files dir parent.file parent.is (p / 16))
        ∙ sane.whole dir parent.file parent.is parent.folder (p / 16) in
        rw (k, lt) (ap (λ (o : Option Value). entry_held (unwrap_or o (parent.file.values (p / 16))) p) slot
        ∙ read-back (value_of W.files dir (p / 16)) p e.claims.inode e.claims.generation name whole numbers good)

    there : entry_at V.files dir p ≡ Some (named_entry e.claims.inode e.claims.generation name)
    there = ap (λ (o : Option FileState). entry_in_file o p) (directory W V e sane next ok undropped dir g parent)
        ∙ inside

    make-at : IsNewName W.files V.files dir p name
    make-at = new-name W V e sane next ok undropped dir p e.claims.inode e.claims.generation name good
        (λ d k f v is q. entry-slot W.files dir g p (spelled_entry e.claims.inode e.claims.generation name) no_meta d
        f.generation k v (sym (slots d k f is) ∙ q))
        ep free there
        (λ j q h link is has at apart. make-was W.files dir g p j name h link has apart kind e.claims q sane.bottom at
        (sym (ap (λ (F : Files). F j) files) ∙ is))

    -- the file that is made
    made-file : (f : FileState) × (V.files e.claims.inode ≡ Some f) × (f.generation ≡ e.claims.generation)
        × (f.kind ≡ kind) × HasAt f.links 0 (link_to dir p g)
    made-file =
        let a = eq-eqb e.claims.inode e.claims.inode refl in
        let b = eq-eqb e.claims.generation e.claims.generation refl in
        let born : (make_given W.files dir g name kind e.claims p).born e.claims.inode ≡ Some e.claims.generation =
        rw a refl in
        let meta : (make_given W.files dir g name kind e.claims p).metas e.claims.inode e.claims.generation
        ≡ Some (Is kind 0 (link_to dir p g ∷ link_to 0 0 0 ∷ link_to 0 0 0 ∷ link_to 0 0 0 ∷ [])) = rw (a, b) refl in (
          _,
          ap (λ (F : Files). F e.claims.inode) files
              ∙ ap (λ (o : Option ℕ). file_after (make_given W.files dir g name kind e.claims p) e.claims.inode
              (born_file o (W.files e.claims.inode))) born
              ∙ ap (λ (o : Option Meta). after_meta o (filled (make_given W.files dir g name kind e.claims p)
              e.claims.inode (new_file e.claims.generation))) meta,
          refl,
          refl,
          refl,
        )

    made-linked : Linked (λ x. Names e.claims.inode e.claims.generation x) V.files e.claims.inode e.claims.generation 0
        (link_to dir p g)
    made-linked =
        let f = made-file in
        let y = sane.young dir parent.file parent.is in
        let own = parent.generation in
        let n = make-new W V e.claims dir g name kind passes claim in
        let stamp = n.generation in
        record {
          file = f.0;
          is = f.1;
          generation = f.2;
          at = f.4;
          parent = directory-next W V e sane next dir g parent (λ q. absurd (undropped q));
          older = λ k. omega (arith, y, own, stamp);
          entry = named_entry e.claims.inode e.claims.generation name;
          there = there;
          passes = (refl, refl);
          names_inode = refl;
          names_generation = refl;
        }

    made-finds : Finds V.files dir g name
        (record { inode = e.claims.inode; generation = e.claims.generation; kind = kind })
    made-finds =
        let f = made-file in
        let l = made-linked in
        let same : l.file ≡ f.0 = same-file (V.files e.claims.inode) l.file f.0 l.is f.1 in
        linked-finds (λ x. Names e.claims.inode e.claims.generation x) W.files V.files dir g p e.claims.inode
        e.claims.generation 0 name kind make-at parent good l (ap (λ (q : FileState). q.kind) same ∙ f.3)

  -- a Make's new name, and the file that it finds
  pub make-new-name : (p : ℕ) × IsNewName W.files V.files dir p name × Finds V.files dir g name
      (record { inode = e.claims.inode; generation = e.claims.generation; kind = kind })
  make-new-name = let at = place in (at.0, make-at at.0 at.1, made-finds at.0 at.1)
