-- Drop: the found entry is cleared; the name's inode stays without the link, or its record becomes free.
use Rattle.std.proofs.Common.{◌≡◌, ◌≢◌, ℕ, suc, ◌+◌, ◌-◌, ◌/◌, ◌<◌, ◌⊎◌, inl, inr, Bool, true, false, cond, eqb, ltb}
use Rattle.std.proofs.Common.{◌&&◌, ◌||◌, not, List, [], ◌∷◌, length}
use Rattle.std.proofs.Common.{Option, Some, None, is_some, refl, sym, ap, ◌∙◌, subst, subst₂, arith, Contains, eqb-true}
use Rattle.std.proofs.Common.{eq-eqb}
use Rattle.std.specs.List.{list_any}
use Rattle.nofs_inode.specs.declared.inode.FileKind.TheVariants.{Directory as Folder, File}
use Rattle.nofs_crashlaw.specs.Images.Proper.{Proper}
use Rattle.nofs_crashlaw.specs.Images.Moments.{during}
use Rattle.nofs_model.proofs.OnSlots.Find.{and-both}
use Rattle.nofs_model.proofs.OnFiles.Chains.{pair-of, any-true, agreed-holds}
use Rattle.nofs_crashlaw.proofs.OnUntouched.Matches.{matched-file}
use Rattle.nofs_crashlaw.proofs.OnUntouched.Frames.{some-is}
use Rattle.nofs_crashlaw.proofs.OnUntouched.Agreement.{agreed-machine}
use Rattle.nofs_crashlaw.proofs.OnNames.EntryCells.{no-entry}
use Rattle.nofs_crashlaw.proofs.OnNames.Steps.{pair-named, empty-lone, file-lone}
use Rattle.nofs_crashlaw.proofs.OnNames.InPlace.{no-file-zero}
use Rattle.nofs_crashlaw.proofs.OnNames.Renames.{entry-parts}
use Rattle.nofs_crashlaw.proofs.OnNames.Links.{pair-apart, entry-proper, record-proper, stays-match, free-proper}
use Rattle.nofs_crashlaw.proofs.OnNames.Links.{goes-match, pair-kept}
use Rattle.nofs_history.specs.Meta.{Gone, Is}
use Rattle.nofs_history.specs.Marks.{Mark}
use Rattle.nofs_history.specs.Machine.{zero_bytes, files_after, entry_given, meta_given, drop_given, drop_meta}
use Rattle.nofs_history.specs.Machine.{without_link, link_to, same_link, is_paired, generation_of, nothing}
use Rattle.nofs_history.specs.History.{FilesMatch}
use Rattle.nofs_inode.specs.declared.inode.FileKind.{FileKind}
use Rattle.nofs_inode.specs.declared.inode.BackLink.{BackLink}
use Rattle.nofs_dirent.specs.declared.entry.Entry.{Entry}
use Rattle.nofs_disk.specs.declared.tag.Pointer.{Pointer}
use Rattle.nofs_dirent.specs.Entries.{entry_of, entry_limit}
use Rattle.nofs_model.specs.Geometry.{Image, super_at, is_data_block, inode}
use Rattle.nofs_disk.specs.Disk.{cell_at}
use Rattle.nofs_model.specs.Files.{files_in, agreed, Agreed, root, linked, FileState, Files}
use Rattle.nofs_model.specs.Files.{is_folder, entry_in_file, entry_at, pairs, names, is_a, is_pair, is_root, is_special}
use Rattle.nofs_model.specs.Files.{links_of}
use Rattle.nofs_crashlaw.specs.Names.OldEntries.{DropLies, Relinked}

-- the back link of a paired entry
pub paired-link : (F : Files) (d e : ℕ) (entry : Entry) → entry_at F d e ≡ Some entry → is_paired F d e ≡ true
    → (l : BackLink) × Contains (links_of F entry.inode) l × (is_pair F entry.inode l ≡ true)
    × (l.directory ≡ d) × (l.entry ≡ e)
paired-link F d e entry at paired =
    let any : list_any (λ l. same_link l (link_to d e (generation_of F d)) && is_pair F entry.inode l)
    (links_of F entry.inode) ≡ true =
    sym (ap (λ (o : Option Entry). elim o [
      | None ↦ false
      | Some q ↦ list_any (λ l. same_link l (link_to d e (generation_of F d)) && is_pair F q.inode l)
          (links_of F q.inode)
    ]) at) ∙ paired in
    let l = any-true (λ l. same_link l (link_to d e (generation_of F d)) && is_pair F entry.inode l)
    (links_of F entry.inode) any in
    let a = and-both (same_link l.0 (link_to d e (generation_of F d))) (is_pair F entry.inode l.0) l.2 in
    let b = and-both (eqb l.0.directory d) ((eqb l.0.entry e) && (eqb l.0.generation (generation_of F d))) a.0 in
    let c = and-both (eqb l.0.entry e) (eqb l.0.generation (generation_of F d)) b.1 in
    (l.0, l.1, a.1, eqb-true l.0.directory d b.0, eqb-true l.0.entry e c.0)

own-named : (h : FileState) (u : Option FileState) (i : ℕ) (link : BackLink) → pairs (Some h) u i link ≡ true
    → names (entry_in_file u link.entry) i h.generation ≡ true
own-named h u i link e =
    let a = and-both (is_a Folder link.generation u) (names (entry_in_file u link.entry) i h.generation
    && (not (is_folder h.kind) || (ltb link.generation h.generation))) e in
    (and-both (names (entry_in_file u link.entry) i h.generation)
    (not (is_folder h.kind) || (ltb link.generation h.generation)) a.1).0

-- a link that is left when one is cleared is another one, or empty
any-without : (p : BackLink → Bool) (link : BackLink) (ls : List BackLink) → list_any p (without_link link ls) ≡ true
    → (l : BackLink) × Contains (without_link link ls) l × (p l ≡ true)
    × ((same_link l link ≡ false) ⊎ (l ≡ link_to 0 0 0))
any-without p link [] e = cc
any-without p link (l ∷ ls) e = first (same_link l link) refl (λ h. any-without p link ls h) e
  where
    rest : (new : BackLink) → ((k : BackLink) × Contains (without_link link ls) k × (p k ≡ true)
        × ((same_link k link ≡ false) ⊎ (k ≡ link_to 0 0 0)))
        → (k : BackLink) × Contains (new ∷ without_link link ls) k × (p k ≡ true)
        × ((same_link k link ≡ false) ⊎ (k ≡ link_to 0 0 0))
    rest new (k, at, pk, why) = (k, (suc at.0, omega arith, at.2), pk, why)

    pick : (new : BackLink) → ((same_link new link ≡ false) ⊎ (new ≡ link_to 0 0 0)) → (t : Bool) → p new ≡ t
        → (list_any p (without_link link ls) ≡ true → (k : BackLink) × Contains (without_link link ls) k
        × (p k ≡ true) ×
        ((same_link k link ≡ false) ⊎ (k ≡ link_to 0 0 0)))
        → (t || list_any p (without_link link ls)) ≡ true → (k : BackLink) × Contains (new ∷ without_link link ls) k
        × (p k ≡ true) ×
        ((same_link k link ≡ false) ⊎ (k ≡ link_to 0 0 0))
    pick new why true et ih h = (new, (0, omega arith, refl), et, why)
    pick new why false et ih h = rest new (ih h)

    first : (b : Bool) → same_link l link ≡ b → (list_any p (without_link link ls) ≡ true
        → (k : BackLink) × Contains (without_link link ls) k × (p k ≡ true)
        × ((same_link k link ≡ false) ⊎ (k ≡ link_to 0 0 0)))
        → list_any p (cond b (link_to 0 0 0) l ∷ without_link link ls) ≡ true
        → (k : BackLink) × Contains (cond b (link_to 0 0 0) l ∷ without_link link ls) k × (p k ≡ true)
        × ((same_link k link ≡ false) ⊎ (k ≡ link_to 0 0 0))
    first true eb ih h = pick (link_to 0 0 0) (inr refl) (p (link_to 0 0 0)) refl ih h
    first false eb ih h = pick l (inl eb) (p l) refl ih h

root-moves : (F E : Files) (i : ℕ) → ((q : FileKind) (g : ℕ) → is_a q g (F i) ≡ is_a q g (E i))
    → is_root F i ≡ true → is_root E i ≡ true
root-moves F E i kin r = go (eqb i 1) refl (eqb i 2) refl
  where
    at : (k : ℕ) → eqb i k ≡ true → (q : FileKind) (g : ℕ) → is_a q g (F k) ≡ is_a q g (E k)
    at k e q g = subst (λ (j : ℕ). is_a q g (F j) ≡ is_a q g (E j)) (eqb-true i k e) (kin q g)

    go : (p : Bool) → eqb i 1 ≡ p → (q : Bool) → eqb i 2 ≡ q → is_root E i ≡ true
    go true ep true eq = absurd (let a = eqb-true i 1 ep in let b = eqb-true i 2 eq in omega (arith, a, b))
    go true ep false eq = let k = at 1 ep Folder 1 in rw (eq, ep, ← k) (rw (eq, ep) at r)
    go false ep true eq = let k = at 2 eq File 2 in rw (ep, eq, ← k) (rw (ep, eq) at r)
    go false ep false eq = absurd (let z : is_root F i ≡ false = rw (ep, eq) refl in cc (z, r))

module _ (F : Files) (X Y : Image) (d g e s : ℕ) (f h : FileState) (x : Pointer) (entry : Entry)
    (lies : DropLies F X Y d g e s f h x entry) where
  open lies use {
    files as match,
    is,
    generation as gen,
    found,
    paired,
    named as is_i,
    no_names,
    held,
    whole,
    content,
    writes,
    old,
  }

  parts : (is_folder f.kind ≡ true) × (e < entry_limit)
      × (Rattle.nofs_model.specs.Files.entry_held (f.values (e / 16)) e ≡ Some entry)
  parts = entry-parts (F d) f e entry is found

  back : (l : BackLink) × Contains (links_of F entry.inode) l × (is_pair F entry.inode l ≡ true)
      × (l.directory ≡ d) × (l.entry ≡ e)
  back = paired-link F d e entry found paired

  apart : entry.inode ≢ d
  apart z = pair-apart F entry.inode back.0 back.2 (back.3 ∙ sym z)

  same-generation : entry.generation ≡ h.generation
  same-generation =
      let p : pairs (Some h) (F back.0.directory) entry.inode back.0 ≡ true =
      subst (λ (o : Option FileState). pairs o (F back.0.directory) entry.inode back.0 ≡ true) is_i back.2 in
      let n = own-named h (F back.0.directory) entry.inode back.0 p in
      let at : names (entry_in_file (F d) e) entry.inode h.generation ≡ true =
      subst₂ (λ (a b : ℕ). names (entry_in_file (F a) b) entry.inode h.generation ≡ true) back.3 back.4 n in
      let some : names (Some entry) entry.inode h.generation ≡ true =
      subst (λ (o : Option Entry). names o entry.inode h.generation ≡ true) found at in
      eqb-true entry.generation h.generation
      (and-both (eqb entry.inode entry.inode) (eqb entry.generation h.generation) some).1

  given-is : drop_given F d g e ≡ entry_given F d g e (zero_bytes 64)
      (meta_given entry.inode h.generation (drop_meta F entry.inode (link_to d e g)))
  given-is = ap (λ (o : Option Entry). elim o [
    | None ↦ nothing
    | Some q ↦ entry_given F d g e (zero_bytes 64)
        (meta_given q.inode q.generation (drop_meta F q.inode (link_to d e g)))
  ]) found
      ∙ ap (λ (q : ℕ). entry_given F d g e (zero_bytes 64)
      (meta_given entry.inode q (drop_meta F entry.inode (link_to d e g)))) same-generation

  abbrev pub goes : Bool
  goes = not (is_special entry.inode)
      && not (list_any (λ l. is_pair F entry.inode l) (without_link (link_to d e g) h.links))

  pub meta-is : drop_meta F entry.inode (link_to d e g) ≡ cond goes Gone
      (Is h.kind h.size (without_link (link_to d e g) h.links))
  meta-is = ap (λ (o : Option FileState). elim o [
    | None ↦ Gone
    | Some q ↦ cond
        (not (is_special entry.inode)
        && not (list_any (λ l. is_pair F entry.inode l) (without_link (link_to d e g) q.links))) Gone
        (Is q.kind q.size (without_link (link_to d e g) q.links))
  ]) is_i

  away : (j : ℕ) (link : BackLink) → j ≢ entry.inode → Contains (links_of F j) link
      → is_pair F j link ≡ true → link.directory ≡ d → link.entry ≡ e → ⊥
  away j link ne has pair ed ee =
      let n = pair-named (F j) (F link.directory) j link pair in
      let at : names (entry_in_file (F d) e) j n.0 ≡ true =
      subst₂ (λ (a b : ℕ). names (entry_in_file (F a) b) j n.0 ≡ true) ed ee n.1 in
      let some : names (Some entry) j n.0 ≡ true = subst (λ (o : Option Entry). names o j n.0 ≡ true) found at in
      ne (sym (eqb-true entry.inode j (and-both (eqb entry.inode j) (eqb entry.generation n.0) some).0))

  lone : (j : ℕ) (link : BackLink) → j ≢ entry.inode → Contains (links_of F j) link
      → is_pair F j link ≡ true → link.directory ≢ entry.inode
  lone j link ne has pair = go (is_folder h.kind) refl
    where
      go : (b : Bool) → is_folder h.kind ≡ b → link.directory ≢ entry.inode
      go true e = empty-lone F entry.inode (no_names e) j link has pair
      go false e = file-lone F entry.inode (λ q eq. let same : h ≡ q = cc (eq, is_i) in
          subst (λ (r : FileState). is_folder r.kind ≡ false) same e) j link pair

  named : (j q : ℕ) → j ≢ entry.inode → names (entry_of (zero_bytes 64)) j q ≡ false
  named j q ne = ap (λ (o : Option Entry). names o j q) no-entry

  short : length (zero_bytes 64) ≡ 64
  short = refl

  -- the directory's cell is proper
  pub drop-entry-proper : (m : Mark)
      → is_data_block m.image x.block ≡ true → Proper (during m (drop_given F d g e)) X x.block (cell_at Y x.block)
  drop-entry-proper m area = entry-proper F X Y d g e entry.inode s f h x (zero_bytes 64)
      (drop_meta F entry.inode (link_to d e g)) (drop_given F d g e)
      match is gen parts.0 is_i apart parts.1 given-is held whole short content writes old m area

  module _ (keeps : goes ≡ false) (linked_now : Relinked X Y entry.inode (without_link (link_to d e g) h.links)) where
    stays : drop_meta F entry.inode (link_to d e g) ≡ Is h.kind h.size (without_link (link_to d e g) h.links)
    stays = meta-is ∙ rw keeps refl

    pub drop-record-proper : (m : Mark) → super_at m.image ≡ super_at Y
        → is_data_block m.image (1 + (entry.inode - 1) / 4) ≡ false
        → Proper (during m (drop_given F d g e)) X (1 + (entry.inode - 1) / 4) (cell_at Y (1 + (entry.inode - 1) / 4))
    drop-record-proper m super area = record-proper F X Y d g e entry.inode s f h x (zero_bytes 64)
        (drop_meta F entry.inode (link_to d e g)) (drop_given F d g e)
        match is gen parts.0 is_i apart parts.1 given-is held whole short content writes old
        (without_link (link_to d e g) h.links) stays linked_now m super area

    home : (is_root (files_after F (drop_given F d g e)) entry.inode ≡ true) ⊎
        ((link : BackLink) × (is_special entry.inode ≡ false) × Contains (without_link (link_to d e g) h.links) link ×
        (is_pair (files_after F (drop_given F d g e)) entry.inode link ≡ true) × (link.directory ≢ entry.inode)
        × (is_some (F link.directory) ≡ true))
    home = go (is_special entry.inode) refl
        (list_any (λ l. is_pair F entry.inode l) (without_link (link_to d e g) h.links)) refl
      where
        was-root : is_special entry.inode ≡ true → Agreed F entry.inode → is_root F entry.inode ≡ true
        was-root sp (root r) = r
        was-root sp (linked link plain has pair up) = absurd (cc (sp, plain))

        same-kind : (q : FileKind) (r : ℕ)
            → is_a q r (F entry.inode) ≡ is_a q r (files_after F (drop_given F d g e) entry.inode)
        same-kind q r = ap (λ (o : Option FileState). is_a q r o) is_i ∙ alike q
            ∙ sym (ap (λ (o : Option FileState). is_a q r o)
            (Rattle.nofs_crashlaw.proofs.OnNames.Links.file-now F X Y d g e entry.inode s f h x (zero_bytes 64)
            (drop_meta F entry.inode (link_to d e g))
            (drop_given F d g e) match is gen parts.0 is_i apart parts.1 given-is held whole short content writes old
            (without_link (link_to d e g) h.links) stays linked_now))
          where
            alike : (q : FileKind) → is_a q r (Some h) ≡ is_a q r
                (Some (Rattle.nofs_crashlaw.proofs.OnNames.Links.made F X Y d g e entry.inode s f h x (zero_bytes 64)
                (drop_meta F entry.inode (link_to d e g))
                (drop_given F d g e) match is gen parts.0 is_i apart parts.1 given-is held whole short
                content writes old
                (without_link (link_to d e g) h.links) stays linked_now))
            alike File = refl
            alike Folder = refl

        other : (l : BackLink) → is_pair F entry.inode l ≡ true
            → ((same_link l (link_to d e g) ≡ false) ⊎ (l ≡ link_to 0 0 0)) → l.directory ≡ d
            → l.entry ≡ e → ⊥
        other l pair (inr z) ed ee =
            let p = pair-of F entry.inode l pair in
            let n = no-file-zero F X match in
            let at : F 0 ≡ Some p.parent =
            subst (λ (q : ℕ). F q ≡ Some p.parent) (ap (λ (q : BackLink). q.directory) z) p.parent_is in cc (n, at)
        other l pair (inl off) ed ee =
            let p = pair-of F entry.inode l pair in
            let at : F d ≡ Some p.parent = subst (λ (q : ℕ). F q ≡ Some p.parent) ed p.parent_is in
            let same : f ≡ p.parent = cc (at, is) in
            let lg : l.generation ≡ g = sym p.parent_generation
            ∙ sym (ap (λ (q : FileState). q.generation) same) ∙ gen in
            let on : same_link l (link_to d e g) ≡ true =
            rw (eq-eqb l.directory d ed, eq-eqb l.entry e ee, eq-eqb l.generation g lg) refl in cc (off, on)

        go : (sp : Bool) → is_special entry.inode ≡ sp → (any : Bool)
            → list_any (λ l. is_pair F entry.inode l) (without_link (link_to d e g) h.links) ≡ any
            → (is_root (files_after F (drop_given F d g e)) entry.inode ≡ true) ⊎
            ((link : BackLink) × (is_special entry.inode ≡ false)
            × Contains (without_link (link_to d e g) h.links) link ×
            (is_pair (files_after F (drop_given F d g e)) entry.inode link ≡ true) × (link.directory ≢ entry.inode)
            × (is_some (F link.directory) ≡ true))
        go true sp any ea =
            let a = agreed-machine F X match entry.inode (agreed-holds (files_in X) entry.inode
            (matched-file F X entry.inode match (some-is (F entry.inode) h is_i)).agreed) in
            inl (root-moves F (files_after F (drop_given F d g e)) entry.inode same-kind (was-root sp a))
        go false sp false ea = absurd (let z : goes ≡ true = rw (sp, ea) refl in cc (z, keeps))
        go false sp true ea =
            let l = any-without (λ q. is_pair F entry.inode q) (link_to d e g) h.links ea in
            let p = pair-of F entry.inode l.0 l.2 in
            inr (
              l.0,
              sp,
              l.1,
              pair-kept F X Y d g e entry.inode s f h x (zero_bytes 64) (drop_meta F entry.inode (link_to d e g))
                  (drop_given F d g e)
                  match is gen parts.0 is_i apart parts.1 given-is held whole short content writes old
                  (without_link (link_to d e g) h.links) stays linked_now l.0 l.2 (other l.0 l.2 l.3),
              pair-apart F entry.inode l.0 l.2,
              some-is (F l.0.directory) p.parent p.parent_is,
            )

    pub drop-matches : FilesMatch (files_after F (drop_given F d g e)) Y
    drop-matches = stays-match F X Y d g e entry.inode s f h x (zero_bytes 64) (drop_meta F entry.inode (link_to d e g))
        (drop_given F d g e)
        match is gen parts.0 is_i apart parts.1 given-is held whole short content writes old
        (without_link (link_to d e g) h.links) stays linked_now away lone named home

  module _ (removes : goes ≡ true) (free : (inode Y entry.inode).kind ≡ None) where
    is-gone : drop_meta F entry.inode (link_to d e g) ≡ Gone
    is-gone = meta-is ∙ rw removes refl

    pub remove-record-proper : (m : Mark) → super_at m.image ≡ super_at Y
        → is_data_block m.image (1 + (entry.inode - 1) / 4) ≡ false
        → ((q : ℕ) → m.stands entry.inode q ≡ true → h.generation ≡ q)
        → Proper (during m (drop_given F d g e)) X (1 + (entry.inode - 1) / 4) (cell_at Y (1 + (entry.inode - 1) / 4))
    remove-record-proper m super area tracked =
        free-proper F X Y d g e entry.inode s f h x (zero_bytes 64) (drop_meta F entry.inode (link_to d e g))
        (drop_given F d g e) match is gen parts.0 is_i apart parts.1 given-is held whole short content writes old
        is-gone free m super area tracked

    pub remove-matches : FilesMatch (files_after F (drop_given F d g e)) Y
    remove-matches = goes-match F X Y d g e entry.inode s f h x (zero_bytes 64)
        (drop_meta F entry.inode (link_to d e g)) (drop_given F d g e)
        match is gen parts.0 is_i apart parts.1 given-is held whole short content writes old
        is-gone free away lone named
