-- Each directory of the machine has a chain of names from the root, after each entry of a run.
use Rattle.std.proofs.Common.{◌≡◌, ℕ, ◌/◌, Bool, true, false, eqb, ◌&&◌, ◌||◌, not, List, [], ◌∷◌, length, Option, Some}
use Rattle.std.proofs.Common.{None, is_some, unwrap_or}
use Rattle.std.proofs.Common.{refl, sym, ap, ◌∙◌, subst, arith, Contains, eq-eqb, lt-ltb, ne_eqb}
use Rattle.nofs_inode.specs.declared.inode.FileKind.{FileKind}
use Rattle.nofs_inode.specs.declared.inode.BackLink.{BackLink}
use Rattle.nofs_dirent.specs.Entries.{spelled_entry, entry_limit}
use Rattle.nofs_model.specs.Files.{Files, FileState, Agreed, root, linked, is_folder, entry_in_file, entry_held}
use Rattle.nofs_model.specs.Files.{is_pair, is_special}
use Rattle.nofs_model.specs.declared.image.value.Value.{Value}
use Rattle.nofs_history.specs.Meta.{Meta, Gone, Is}
use Rattle.nofs_history.specs.Search.{first_of}
use Rattle.nofs_history.specs.Machine.{Given, gives, found, place_for, make_given, same_link, link_to, bytes_in}
use Rattle.nofs_history.specs.Machine.{value_of, with_entry, filled, files_after, is_refused}
use Rattle.nofs_history.specs.World.{World}
use Rattle.nofs_history.specs.Refusals.{bad_name, stale, not_directory, rows}
use Rattle.nofs_history.specs.Claims.{IsClaim}
use Rattle.nofs_history.specs.Next.{Next}
use Rattle.nofs_history.specs.declared.machine.history.Entry1.{Entry1}
use Rattle.nofs_history.specs.declared.machine.steps.Step.{Step}
use Rattle.nofs_history.specs.declared.machine.steps.Step.TheVariants as step
use Rattle.nofs_crashlaw.proofs.OnLives.Era.{gives-birth}
use Rattle.nofs_crashlaw.proofs.OnFiles.Given.{value-of, at-itself}
use Rattle.nofs_crashlaw.proofs.OnNames.Premises.{make-given-is}
use Rattle.nofs_crashlaw.specs.Runs.Pairs.{HasAt, is_drop, IsDirectory}
use Rattle.nofs_crashlaw.proofs.OnRuns.Places.{contains-at}
use Rattle.nofs_crashlaw.proofs.OnRuns.Acts.{accepted-acts, acts}
use Rattle.nofs_crashlaw.proofs.OnRuns.Gives.{none-at, other-inode, folder-metas, not-born, given-kind}
use Rattle.nofs_crashlaw.proofs.OnRuns.PairEntries.{read-back}
use Rattle.nofs_crashlaw.proofs.OnRuns.Links.{IsSane, Linked, pair-linked, directory-after}
use Rattle.nofs_crashlaw.proofs.OnRuns.Chains.{Names, root-folder}
use Rattle.nofs_crashlaw.proofs.OnRuns.Directories.{directory-row, place-range}
use Rattle.nofs_crashlaw.proofs.OnRuns.Sane.{After, Old, New, after, made, IsNew, make-new, new-spelled}
use Rattle.nofs_crashlaw.proofs.OnRuns.StepLinks.{root-is, links-are, done, refused, from-link, agreed-next, kept-link}
use Rattle.nofs_crashlaw.proofs.OnRuns.StepLinks.{directory-of, name-of, Drops, Yes, No, drops, other-link}

module _ (W V : World) (e : Entry1) (sane : IsSane W) (next : Next W e V) where
  -- a directory that was there
  old-rooted : (i : ℕ) (f h : FileState) → W.files i ≡ Some f → is_folder f.kind ≡ true → V.files i ≡ Some h
      → h.generation ≡ f.generation
      → is_folder h.kind ≡ true
      → (first_of (rows W V e.step) ≡ None → IsClaim W e.step e.claims
      → (gives W.files e.step e.claims).metas i f.generation ≡ Some Gone → ⊥)
      → (ok : is_refused e.reply ≡ false) → Agreed W.files i → Agreed V.files i
  old-rooted i f h is folder there gen kind alive ok (root r) =
      let one = root-folder W.files i f.generation r
      (record { file = f; is = is; generation = refl; folder = folder }) in
      let d : IsDirectory V.files i 1 = record { file = h; is = there; generation = gen ∙ one.1; folder = kind } in
      subst (λ (j : ℕ). Agreed V.files j) (sym one.0)
      (root (root-is V.files (subst (λ (j : ℕ). IsDirectory V.files j 1) one.0 d)))
  old-rooted i f h is folder there gen kind alive ok (linked link plain has pair up) =
      go (drops W.files e.step link.directory link.entry)
    where
      at : (b : ℕ) × HasAt f.links b link
      at = contains-at f.links link (subst (λ (ls : List BackLink). Contains ls link) (links-are W.files i f is) has)

      l : Linked (λ x. Names i f.generation x) W.files i f.generation at.0 link
      l = pair-linked W.files i f.generation at.0 f link is refl at.1 pair

      go : Drops W.files e.step link.directory link.entry → Agreed V.files i
      go (No undropped) = kept-link W V e sane next i f.generation at.0 link plain l undropped up
      go (Yes of name es ef) =
          let a = accepted-acts W V e next ok in
          let clear : first_of (rows W V (step.Drop link.directory of name)) ≡ None =
          subst (λ (s : Step). first_of (rows W V s) ≡ None) es a.0 in
          let dir = directory-row W link.directory of
          (none-at (rows W V (step.Drop link.directory of name)) clear 1 (stale W link.directory of) refl)
          (none-at (rows W V (step.Drop link.directory of name)) clear 2 (not_directory W link.directory) refl) in
          let alive' : (gives W.files (step.Drop link.directory of name) e.claims).metas l.entry.inode f.generation
          ≡ Some Gone → ⊥ =
          λ q. alive a.0 a.1 (ap (λ (s : Step). (gives W.files s e.claims).metas i f.generation) es
          ∙ sym (ap (λ (j : ℕ). (gives W.files (step.Drop link.directory of name) e.claims).metas j f.generation)
          l.names_inode) ∙ q) in
          let o = other-link W V e.claims link.directory of link.entry name l.entry f sane.bottom ef l.there
          (ap W.files l.names_inode ∙ is)
          l.names_generation (ap is_special l.names_inode ∙ plain) alive' in
          other o.0 o.1 o.2 (sym (ap (λ (j : ℕ). is_pair W.files j o.1) l.names_inode) ∙ o.3) o.4 dir es ef
        where
          other : (b : ℕ) (k : BackLink) → HasAt f.links b k
              → is_pair W.files i k ≡ true → same_link k (link_to link.directory link.entry of) ≡ false
              → IsDirectory W.files link.directory of
              → e.step ≡ step.Drop link.directory of name → found W.files link.directory name ≡ Some link.entry
              → Agreed V.files i
          other b k kat kpair ne dir es ef =
              let q = pair-linked W.files i f.generation b f k is refl kat kpair in
              kept-link W V e sane next i f.generation b k plain q (λ o n ks kf.
              let kd : k.directory ≡ link.directory = sym (ap directory-of ks) ∙ ap directory-of es in
              let kn : n ≡ name = sym (ap name-of ks) ∙ ap name-of es in
              let ke : Some k.entry ≡ Some link.entry = sym kf ∙ ap (λ (j : ℕ). found W.files j n) kd
              ∙ ap (found W.files link.directory) kn ∙ ef in
              let ke' : k.entry ≡ link.entry = cc ke in
              let file : q.parent.file ≡ dir.file =
              one-file (W.files link.directory) q.parent.file dir.file (sym (ap W.files kd) ∙ q.parent.is) dir.is in
              let kg : k.generation ≡ of = sym q.parent.generation ∙ ap (λ (y : FileState). y.generation) file
              ∙ dir.generation in
              let x = eq-eqb k.directory link.directory kd in
              let y = eq-eqb k.entry link.entry ke' in
              let z = eq-eqb k.generation of kg in
              let same : same_link k (link_to link.directory link.entry of) ≡ true = rw (x, y, z) refl in
              cc (same, ne)) (sane.rooted k.directory q.parent.file q.parent.is q.parent.folder)
            where
              one-file : (o : Option FileState) (a c : FileState) → o ≡ Some a → o ≡ Some c → a ≡ c
              one-file o a c u v = cc (u, v)

  -- a directory that is made
  new-rooted : (i g d dg p : ℕ) (name : List ℕ) (kind : FileKind) (h : FileState) → e.step ≡ step.Make d dg name kind
      → is_refused e.reply ≡ false
      → place_for W.files d name ≡ Some p → i ≡ e.claims.inode → g ≡ e.claims.generation
      → V.files i ≡ Some h → h.generation ≡ g
      → (gives W.files e.step e.claims).metas i g ≡ Some (Is h.kind h.size h.links) → Agreed V.files i
  new-rooted i g d dg p name kind h es ok ep ei eg there gen metas =
      let a = accepted-acts W V e next ok in
      let clear : first_of (rows W V (step.Make d dg name kind)) ≡ None =
      subst (λ (s : Step). first_of (rows W V s) ≡ None) es a.0 in
      let claim : IsClaim W (step.Make d dg name kind) e.claims = subst (λ (s : Step). IsClaim W s e.claims) es a.1 in
      let dir = directory-row W d dg (none-at (rows W V (step.Make d dg name kind)) clear 1 (stale W d dg) refl)
      (none-at (rows W V (step.Make d dg name kind)) clear 2 (not_directory W d) refl) in
      let n = make-new W V e.claims d dg name kind clear claim in
      let files : V.files ≡ files_after W.files (gives W.files (step.Make d dg name kind) e.claims) =
      done W V e sane next ok ∙ ap (λ (s : Step). files_after W.files (gives W.files s e.claims)) es in
      let metas' : (gives W.files (step.Make d dg name kind) e.claims).metas e.claims.inode e.claims.generation
      ≡ Some (Is h.kind h.size h.links) =
      sym (ap (λ (s : Step). (gives W.files s e.claims).metas e.claims.inode e.claims.generation) es)
      ∙ sym (ap (λ (j : ℕ). (gives W.files e.step e.claims).metas j e.claims.generation) ei)
      ∙ sym (ap (λ (q : ℕ). (gives W.files e.step e.claims).metas i q) eg) ∙ metas in
      let up = agreed-next W V e sane next d dg (sane.rooted d dir.file dir.is dir.folder) dir
      (λ q. absurd (let z : is_drop e.step ≡ false = ap is_drop es in cc (q, z))) in
      let l = linked-new clear claim dir n files (h.links) (kind-links metas') (sym (ap V.files ei) ∙ there) in
      subst (λ (j : ℕ). Agreed V.files j) (sym ei)
      (from-link W V e sane next (λ x. Names e.claims.inode e.claims.generation x)
      e.claims.inode e.claims.generation 0 (link_to d p dg) (plain n) l up)
    where
      plain : IsNew W e.claims → is_special e.claims.inode ≡ false
      plain n = go (W.known_inodes e.claims.inode) (is_special e.claims.inode) refl
          (is_some (W.files e.claims.inode)) n.free
        where
          go : (a b : Bool) → is_special e.claims.inode ≡ b → (s : Bool)
              → (a && not (b || s)) ≡ true → is_special e.claims.inode ≡ false
          go a false eb s q = eb
          go true true eb s q = cc q
          go false true eb s q = cc q

      kind-links : (gives W.files (step.Make d dg name kind) e.claims).metas e.claims.inode e.claims.generation
          ≡ Some (Is h.kind h.size h.links)
          → link_to d p dg ∷ link_to 0 0 0 ∷ link_to 0 0 0 ∷ link_to 0 0 0 ∷ [] ≡ h.links
      kind-links m =
          let a = eq-eqb e.claims.inode e.claims.inode refl in
          let b = eq-eqb e.claims.generation e.claims.generation refl in
          let given : (make_given W.files d dg name kind e.claims p).metas e.claims.inode e.claims.generation ≡ Some
          (Is kind 0 (link_to d p dg ∷ link_to 0 0 0 ∷ link_to 0 0 0 ∷ link_to 0 0 0 ∷ [])) = rw (a, b) refl in
          let same : Some (Is kind 0 (link_to d p dg ∷ link_to 0 0 0 ∷ link_to 0 0 0 ∷ link_to 0 0 0 ∷ []))
          ≡ Some (Is h.kind h.size h.links) =
          sym given ∙ sym (ap (λ (x : Given). x.metas e.claims.inode e.claims.generation)
          (make-given-is W.files d dg name kind e.claims p ep)) ∙ m in
          ap (λ (o : Option Meta). elim o [ None ↦ [] | Some x ↦ elim x [ Gone ↦ [] | Is k s ls ↦ ls ] ]) same

      linked-new : first_of (rows W V (step.Make d dg name kind)) ≡ None → IsClaim W (step.Make d dg name kind) e.claims
          → (dir : IsDirectory W.files d dg)
          → IsNew W e.claims
          → V.files ≡ files_after W.files (gives W.files (step.Make d dg name kind) e.claims) → (links : List BackLink)
          → link_to d p dg ∷ link_to 0 0 0 ∷ link_to 0 0 0 ∷ link_to 0 0 0
          ∷ [] ≡ h.links → V.files e.claims.inode ≡ Some h
          → Linked (λ x. Names e.claims.inode e.claims.generation x) V.files e.claims.inode e.claims.generation 0
          (link_to d p dg)
      linked-new clear claim dir n files links same here =
          let none = ap (λ (q : ℕ). (gives W.files (step.Make d dg name kind) e.claims).metas d q) (sym dir.generation)
          ∙ folder-metas W V e.claims (step.Make d dg name kind) clear claim d dir.file dir.is dir.folder
          (λ q. absurd (cc q)) in
          let parent : V.files d ≡ Some (filled (gives W.files (step.Make d dg name kind) e.claims) d dir.file) =
          ap (λ (F : Files). F d) files
          ∙ directory-after W.files (gives W.files (step.Make d dg name kind) e.claims) d dg dir
          (not-born W V e.claims (step.Make d dg name kind) claim d dir.file dir.is) none in
          let y = sane.young d dir.file dir.is in
          let dgen = dir.generation in
          let ngen = n.generation in
          record {
            file = h;
            is = here;
            generation = gen ∙ eg;
            at = subst (λ (ls : List BackLink). HasAt ls 0 (link_to d p dg)) same refl;
            parent = record {
              file = filled (gives W.files (step.Make d dg name kind) e.claims) d dir.file;
              is = parent;
              generation =
                  dir.generation;
              folder = dir.folder;
            };
            older = λ k. omega (arith, y, dgen, ngen);
            entry = record { inode = e.claims.inode; generation = e.claims.generation; name = name };
            there = ap (λ (o : Option FileState). entry_in_file o p) parent ∙ inside dir n claim clear;
            passes = (refl, refl);
            names_inode = refl;
            names_generation = refl;
          }
        where
          inside : (dir : IsDirectory W.files d dg) → IsNew W e.claims → IsClaim W (step.Make d dg name kind) e.claims
              → first_of (rows W V (step.Make d dg name kind)) ≡ None
              → entry_in_file (Some (filled (gives W.files (step.Make d dg name kind) e.claims) d dir.file)) p ≡ Some
              (record { inode = e.claims.inode; generation = e.claims.generation; name = name })
          inside dir n claim clear =
              let lt = lt-ltb p entry_limit (place-range W.files d name p ep) in
              let k = dir.folder in
              let numbers = new-spelled W e.claims sane n in
              let whole : length (bytes_in (value_of W.files d (p / 16))) ≡ 1024 =
              ap (λ (v : Value). length (bytes_in v)) (value-of W.files d dir.file dir.is (p / 16))
              ∙ sane.whole d dir.file dir.is dir.folder (p / 16) in
              rw (k, lt)
              (ap (λ (o : Option Value). entry_held (unwrap_or o (dir.file.values (p / 16))) p) (slot dir claim)
              ∙ read-back (value_of W.files d (p / 16)) p e.claims.inode e.claims.generation name whole numbers
              (none-at (rows W V (step.Make d dg name kind)) clear 0 (bad_name name) refl))
            where
              slot : (dir : IsDirectory W.files d dg) → IsClaim W (step.Make d dg name kind) e.claims
                  → (gives W.files (step.Make d dg name kind) e.claims).slots d dir.file.generation (p / 16) ≡ Some
                  (with_entry (value_of W.files d (p / 16)) p (spelled_entry e.claims.inode e.claims.generation name))
              slot dir claim =
                  let same = at-itself d dg in
                  let k = eq-eqb (p / 16) (p / 16) refl in
                  let z = ne_eqb e.claims.inode d
                  (λ t. other-inode W d dg name kind e.claims d dir.file claim dir.is (sym t)) in
                  ap (λ (q : ℕ). (gives W.files (step.Make d dg name kind) e.claims).slots d q (p / 16)) dir.generation
                  ∙ ap (λ (x : Given). x.slots d dg (p / 16)) (make-given-is W.files d dg name kind e.claims p ep)
                  ∙ rw (z, same, k) refl

  pub rooted-next : (i : ℕ) (h : FileState) → V.files i ≡ Some h → is_folder h.kind ≡ true → Agreed V.files i
  rooted-next i h there folder = go (is_refused e.reply) refl
    where
      go : (b : Bool) → is_refused e.reply ≡ b → Agreed V.files i
      go true failed = subst (λ (F : Files). Agreed F i) (sym (refused W V e sane next failed))
          (sane.rooted i h (sym (ap (λ (F : Files). F i) (refused W V e sane next failed)) ∙ there) folder)
      go false ok =
          let a = accepted-acts W V e next ok in
          by (after W.files (gives W.files e.step e.claims) i h (gives-birth W.files e.step e.claims)
          (λ f is. given-kind W e.claims e.step a.1 i f is)
          (sym (ap (λ (F : Files). F i) (done W V e sane next ok)) ∙ there))
        where
          by : After W.files (gives W.files e.step e.claims) i h → Agreed V.files i
          by (Old f is gen kind values alive) =
              let dir : is_folder f.kind ≡ true = sym (ap is_folder kind) ∙ folder in
              old-rooted i f h is dir there gen folder (λ clear claim. alive) ok (sane.rooted i f is dir)
          by (New g born gen values metas) =
              let m = made W e.step e.claims i g born in
              new-rooted i g m.directory m.generation m.place m.name m.kind h m.is ok m.place_is m.inode
              m.own there gen metas
