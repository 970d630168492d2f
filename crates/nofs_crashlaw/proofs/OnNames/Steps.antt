-- A step on names: the machine's files after it are those of the image, from what it writes and what it gives.
use Rattle.std.proofs.Common.{◌≡◌, ◌≢◌, ℕ, ◌/◌, ◌%◌, ◌<◌, ◌⊎◌, inl, inr, Bool, true, false, cond, eqb, ltb, ◌&&◌, ◌||◌}
use Rattle.std.proofs.Common.{not, Option, Some, None, is_some}
use Rattle.std.proofs.Common.{unwrap_or, refl, sym, ap, ◌∙◌, subst, subst₂, arith, Contains, eqb-true, eq-eqb, ne_eqb}
use Rattle.std.proofs.Common.{ltb-true, lt-ltb}
use Rattle.std.proofs.lemmas.Bool.{cases_eq}
use Rattle.std.specs.List.{list_any}
use Rattle.nofs_inode.specs.declared.inode.FileKind.TheVariants.{Directory as Folder}
use Rattle.nofs_crashlaw.specs.Untouched.Frames.{OldPointers}
use Rattle.nofs_model.proofs.OnSlots.Find.{and-both}
use Rattle.nofs_model.proofs.OnFiles.Chains.{pair-of, true-any}
use Rattle.nofs_crashlaw.proofs.OnUntouched.Matches.{matched-file, gen-of}
use Rattle.nofs_crashlaw.proofs.OnUntouched.Frames.{some-is}
use Rattle.nofs_crashlaw.proofs.OnUntouched.Inodes.{same-file}
use Rattle.nofs_crashlaw.proofs.OnUntouched.Agreement.{Alike, Kin, same-of, same-alike, alike-sym, some-alike}
use Rattle.nofs_crashlaw.proofs.OnNames.Entries.{SameDirectory, alike-directory, match-entry}
use Rattle.nofs_crashlaw.proofs.OnFiles.Given.{given-elsewhere, same-trans}
use Rattle.nofs_crashlaw.proofs.OnNames.Files.{touches-of}
use Rattle.nofs_history.specs.Machine.{Given, filled, files_after, file_after, born_file, link_to, same_link, is_paired}
use Rattle.nofs_history.specs.Machine.{generation_of}
use Rattle.nofs_history.specs.History.{FilesMatch, SameFile}
use Rattle.nofs_inode.specs.declared.inode.FileKind.{FileKind}
use Rattle.nofs_inode.specs.declared.inode.BackLink.{BackLink}
use Rattle.nofs_dirent.specs.declared.entry.Entry.{Entry}
use Rattle.nofs_inode.specs.declared.inode.Record.{Record}
use Rattle.nofs_dirent.specs.Entries.{entry_limit}
use Rattle.nofs_model.specs.Geometry.{Image, inode}
use Rattle.nofs_model.specs.Files.{file_from, files_in, FileState, Files, is_folder, entry_held}
use Rattle.nofs_model.specs.Files.{entry_in_file, pairs, names, is_a, is_pair, is_root, is_special, links_of}
use Rattle.nofs_model.specs.declared.image.value.Value.{Value}
use Rattle.nofs_history.specs.Gives.{GivesNothing, GivesCell}
use Rattle.nofs_crashlaw.specs.Names.OldEntries.{NameWrites}

-- what a pair's entry says
pub pair-named : (o u : Option FileState) (i : ℕ) (link : BackLink)
    → pairs o u i link ≡ true → (g : ℕ) × (names (entry_in_file u link.entry) i g ≡ true)
pair-named None u i link e = cc
pair-named (Some f) u i link e =
    let a = and-both (is_a Folder link.generation u) (names (entry_in_file u link.entry) i f.generation
    && (not (is_folder f.kind) || ltb link.generation f.generation)) e in (
      f.generation,
      (and-both (names (entry_in_file u link.entry) i f.generation)
          (not (is_folder f.kind) || ltb link.generation f.generation) a.1).0,
    )

-- no entry stands at 1,152 or above
pub entry-range : (u : Option FileState) (e i g : ℕ) → names (entry_in_file u e) i g ≡ true → e < entry_limit
entry-range None e i g h = cc
entry-range (Some f) e i g h = go (is_folder f.kind) (ltb e entry_limit) refl h
  where
    go : (a b : Bool) → ltb e entry_limit ≡ b → names (cond (a && b) (entry_held (f.values (e / 16)) e) None) i g ≡ true
        → e < entry_limit
    go true true eb h = ltb-true e entry_limit eb
    go true false eb h = cc
    go false b eb h = cc

-- the entry of a pair is paired, as the tests of rows see it
pub pair-paired : (F : Files) (j : ℕ) (link : BackLink) → Contains (links_of F j) link
    → is_pair F j link ≡ true → is_paired F link.directory link.entry ≡ true
pair-paired F j link has pair = go (entry_in_file (F link.directory) link.entry) refl
  where
    named : (g : ℕ) × (names (entry_in_file (F link.directory) link.entry) j g ≡ true)
    named = pair-named (F j) (F link.directory) j link pair

    gen : link.generation ≡ generation_of F link.directory
    gen = let p = pair-of F j link pair in sym p.parent_generation ∙ sym (gen-of F link.directory p.parent p.parent_is)

    same : same_link link (link_to link.directory link.entry (generation_of F link.directory)) ≡ true
    same = rw (
      eq-eqb link.directory link.directory refl,
      eq-eqb link.entry link.entry refl,
      eq-eqb link.generation (generation_of F link.directory) gen,
    ) refl

    both : (a b : Bool) → a ≡ true → b ≡ true → (a && b) ≡ true
    both true true p q = refl
    both true false p q = cc
    both false b p q = cc

    any : list_any (λ l. same_link l (link_to link.directory link.entry (generation_of F link.directory))
        && is_pair F j l) (links_of F j) ≡ true
    any = true-any (λ l. same_link l (link_to link.directory link.entry (generation_of F link.directory))
        && is_pair F j l) (links_of F j) link has
        (both (same_link link (link_to link.directory link.entry (generation_of F link.directory)))
        (is_pair F j link) same pair)

    go : (o : Option Entry)
        → entry_in_file (F link.directory) link.entry ≡ o → is_paired F link.directory link.entry ≡ true
    go None e = absurd (none (entry_in_file (F link.directory) link.entry) e named.1)
      where
        none : (o : Option Entry) → o ≡ None → names o j named.0 ≡ true → ⊥
        none None e h = cc
        none (Some q) e h = cc
    go (Some entry) e =
        let n : names (Some entry) j named.0 ≡ true =
        subst (λ (o : Option Entry). names o j named.0 ≡ true) e named.1 in
        let ei : entry.inode ≡ j =
        eqb-true entry.inode j (and-both (eqb entry.inode j) (eqb entry.generation named.0) n).0 in
        ap (λ (o : Option Entry). elim o [
          | None ↦ false
          | Some q ↦ list_any
              (λ l. same_link l (link_to link.directory link.entry (generation_of F link.directory))
              && is_pair F q.inode l) (links_of F q.inode)
        ]) e
        ∙ ap (λ (q : ℕ). list_any (λ l. same_link l (link_to link.directory link.entry (generation_of F link.directory))
        && is_pair F q l) (links_of F q)) ei
        ∙ any

-- an entry that isn't paired has no pair: `away` for Make and Link, `lone` for Drop
pub unpaired-away : (F : Files) (d e : ℕ) → is_paired F d e ≡ false → (j : ℕ) (link : BackLink)
    → Contains (links_of F j) link → is_pair F j link ≡ true
    → link.directory ≡ d → link.entry ≡ e → ⊥
unpaired-away F d e none j link has pair ed ee =
    let p : is_paired F d e ≡ true =
    subst₂ (λ (a b : ℕ). is_paired F a b ≡ true) ed ee (pair-paired F j link has pair) in cc (none, p)

-- nothing leads below what has no paired entry
pub empty-lone : (F : Files) (i : ℕ) → ((b : ℕ) → b < entry_limit → is_paired F i b ≡ false)
    → (j : ℕ) (link : BackLink) → Contains (links_of F j) link
    → is_pair F j link ≡ true → link.directory ≢ i
empty-lone F i none j link has pair ei =
    let n = pair-named (F j) (F link.directory) j link pair in
    unpaired-away F i link.entry
    (none link.entry (entry-range (F link.directory) link.entry j n.0 n.1)) j link has pair ei refl

-- nothing leads below a file, or what is not there
pub file-lone : (F : Files) (i : ℕ) → ((h : FileState) → F i ≡ Some h → is_folder h.kind ≡ false)
    → (j : ℕ) (link : BackLink) → is_pair F j link ≡ true
    → link.directory ≢ i
file-lone F i file j link pair ei =
    let p = pair-of F j link pair in
    let z = file p.parent (subst (λ (q : ℕ). F q ≡ Some p.parent) ei p.parent_is) in
    let y = p.parent_folder in
    cc (z, y)

module _ (F : Files) (given : Given) (X Y : Image) (d e i s : ℕ) (f : FileState) (v : Value)
    (match : FilesMatch F X) (is : F d ≡ Some f) (apart : i ≢ d)
    -- what the step gives
    (gives : GivesCell given d f.generation (e / 16) v)
    (nothing : (j : ℕ) → j ≢ d → j ≢ i → GivesNothing given j)
    (stay : (l : ℕ) → l % 16 ≢ e % 16 → l / 16 ≡ e / 16 → entry_held v l ≡ entry_held (f.values (e / 16)) l)
    -- what it writes
    (w : NameWrites s d i X Y) (old : (j : ℕ) → is_some (F j) ≡ true → OldPointers s X j)
    (directory : SameFile (files_after F given d) (files_in Y d))
    (own : is_some (files_after F given i) ≡ true → SameFile (files_after F given i) (files_in Y i)) where
  elsewhere : (j : ℕ) → j ≢ d → j ≢ i → SameFile (files_after F given j) (F j)
  elsewhere j nd ni = let n = nothing j nd ni in given-elsewhere F given j n.born n.slots n.nodes n.metas

  new-directory : files_after F given d ≡ Some (filled given d f)
  new-directory = ap (λ (o : Option ℕ). file_after given d (born_file o (F d))) gives.born
      ∙ ap (λ (o : Option FileState). file_after given d o) is ∙ after
    where
      after : file_after given d (Some f) ≡ Some (filled given d f)
      after = rw gives.metas refl

  alike-kin : (o p : Option FileState) → Alike o p → Kin o p
  alike-kin None None h = tt
  alike-kin None (Some b) h = absurd h
  alike-kin (Some a) None h = absurd h
  alike-kin (Some a) (Some b) h = record { generation = h.generation; kind = h.kind; links = h.links }

  alike-there : (j : ℕ) → j ≢ d → j ≢ i → Alike (F j) (files_after F given j)
  alike-there j nd ni =
      alike-sym (files_after F given j) (F j) (same-alike (files_after F given j) (F j) (elsewhere j nd ni))

  pub kin-after : (j : ℕ) → j ≢ i → Kin (F j) (files_after F given j)
  kin-after j ni = elim (cases_eq j d) [
    | inl at ↦ subst (λ (q : ℕ). Kin (F q) (files_after F given q)) (sym at)
        (subst₂ (λ (o p : Option FileState). Kin o p) (sym is) (sym new-directory)
        (record { generation = refl; kind = refl; links = refl }))
    | inr nd ↦ alike-kin (F j) (files_after F given j) (alike-there j nd ni)
  ]

  -- the directory's entries after the step
  pub entry-after : (l : ℕ) → l ≢ e → entry_in_file (files_after F given d) l ≡ entry_in_file (F d) l
  entry-after l ne = ap (λ (o : Option FileState). entry_in_file o l) new-directory
      ∙ ap (λ (q : Option Entry). cond (is_folder f.kind && ltb l entry_limit) q None)
      (inside (eqb (e / 16) (l / 16)) refl)
      ∙ sym (ap (λ (o : Option FileState). entry_in_file o l) is)
    where
      slot : (filled given d f).values (l / 16) ≡ unwrap_or (cond (eqb (e / 16) (l / 16)) (Some v) None)
          (f.values (l / 16))
      slot = ap (λ (o : Option Value). unwrap_or o (f.values (l / 16))) (gives.slots (l / 16))

      inside : (b : Bool) → eqb (e / 16) (l / 16) ≡ b
          → entry_held ((filled given d f).values (l / 16)) l ≡ entry_held (f.values (l / 16)) l
      inside true q =
          let same : e / 16 ≡ l / 16 = eqb-true (e / 16) (l / 16) q in
          ap (λ (u : Value). entry_held u l) slot
          ∙ rw q (stay l (λ m. ne (omega (arith, same, m))) (sym same) ∙ ap (λ (k : ℕ). entry_held (f.values k) l) same)
      inside false q = ap (λ (u : Value). entry_held u l) slot ∙ rw q refl

  pub entry-new : is_folder f.kind ≡ true → e < entry_limit → entry_in_file (files_after F given d) e ≡ entry_held v e
  entry-new folder range = ap (λ (o : Option FileState). entry_in_file o e) new-directory
      ∙ rw (folder, lt-ltb e entry_limit range) (ap (λ (u : Value). entry_held u e) slot)
    where
      slot : (filled given d f).values (e / 16) ≡ v
      slot = ap (λ (o : Option Value). unwrap_or o (f.values (e / 16))) (gives.slots (e / 16))
          ∙ rw (eq-eqb (e / 16) (e / 16) refl) refl

  pub folder-after : (g : ℕ) → is_a Folder g (F d) ≡ is_a Folder g (files_after F given d)
  folder-after g = ap (λ (o : Option FileState). is_a Folder g o) is
      ∙ sym (ap (λ (o : Option FileState). is_a Folder g o) new-directory)

  pub directory-after : (j k : ℕ) → j ≢ i → (j ≡ d → k ≡ e → ⊥) → SameDirectory (F j) (files_after F given j) k
  directory-after j k ni off = elim (cases_eq j d) [
    | inl at ↦ (let s : SameDirectory (F d) (files_after F given d) k =
        record {
          is = folder-after;
          names = λ q g. sym (ap (λ (o : Option Entry). names o q g) (entry-after k (λ ek. off at ek)));
        } in
        subst (λ (q : ℕ). SameDirectory (F q) (files_after F given q) k) (sym at) s)
    | inr nd ↦ alike-directory (F j) (files_after F given j) k (alike-there j nd ni)
  ]

  pub same-after : (j : ℕ) → is_some (files_after F given j) ≡ true → SameFile (files_after F given j) (files_in Y j)
  same-after j some = elim (cases_eq j i) [
    | inl at ↦ (subst (λ (q : ℕ). SameFile (files_after F given q) (files_in Y q)) (sym at)
        (own (subst (λ (q : ℕ). is_some (files_after F given q) ≡ true) at some)))
    | inr ni ↦ elim (cases_eq j d) [
      | inl at ↦ subst (λ (q : ℕ). SameFile (files_after F given q) (files_in Y q)) (sym at) directory
      | inr nd ↦ (
          let there : is_some (F j) ≡ true = some-alike (F j) (files_after F given j) (alike-there j nd ni) ∙ some in
          let m = matched-file F X j match there in
          let off : (eqb j d || eqb j i) ≡ false = rw (ne_eqb j d nd, ne_eqb j i ni) refl in
          same-trans (files_after F given j) (F j) (files_in Y j) (elsewhere j nd ni)
          (same-trans (F j) (files_in X j) (files_in Y j) (same-of F X j match m.agreed)
          (same-file s (λ q. eqb q d || eqb q i) X Y (touches-of s d i X Y w) j off m.agreed (old j there) m.live)))
    ]
  ]

  record-kin : (j : ℕ) → inode Y j ≡ inode X j → Kin (files_in X j) (files_in Y j)
  record-kin j same = go (inode X j).kind refl
    where
      both : (q : Option FileKind) → Kin (file_from X j q) (file_from Y j q)
      both None = tt
      both (Some kind) = record {
        generation = sym (ap (λ (r : Record). r.generation) same);
        kind = refl;
        links = sym (ap (λ (r : Record). r.links) same);
      }

      go : (o : Option FileKind) → (inode X j).kind ≡ o → Kin (files_in X j) (files_in Y j)
      go o e =
          let ky : (inode Y j).kind ≡ o = ap (λ (r : Record). r.kind) same ∙ e in
          subst₂ (λ (p q : Option FileKind). Kin (file_from X j p) (file_from Y j q)) (sym e) (sym ky) (both o)

  pub rest-after : (j : ℕ) → j ≢ i → is_some (F j) ≡ false → Kin (files_in X j) (files_in Y j)
  rest-after j ni none = record-kin j (w.records j (λ at.
      let s : is_some (F d) ≡ true = some-is (F d) f is in
      let z : is_some (F d) ≡ false = subst (λ (q : ℕ). is_some (F q) ≡ false) at none in cc (s, z)) ni)

  -- the entry comes to name inode i alone, or nothing
  pub match-names : is_folder f.kind ≡ true → e < entry_limit
      → ((j : ℕ) (link : BackLink) → j ≢ i → Contains (links_of F j) link
      → is_pair F j link ≡ true → link.directory ≡ d → link.entry ≡ e → ⊥)
      → ((j : ℕ) (link : BackLink) → j ≢ i → Contains (links_of F j) link
      → is_pair F j link ≡ true → link.directory ≢ i)
      → ((j g : ℕ) → j ≢ i → names (entry_held v e) j g ≡ false)
      → (is_some (F i) ≡ true → is_some (files_after F given i) ≡ true → (k : ℕ)
      → SameDirectory (F i) (files_after F given i) k)
      → (is_some (F i) ≡ false → (k j g : ℕ) → names (entry_in_file (files_after F given i) k) j g ≡ false)
      → (is_some (files_after F given i) ≡ true → (is_root (files_after F given) i ≡ true) ⊎
      ((link : BackLink) × (is_special i ≡ false) × Contains (links_of (files_after F given) i) link
      × (is_pair (files_after F given) i link ≡ true) ×
      (link.directory ≢ i) × (is_some (F link.directory) ≡ true)))
      → (is_some (files_after F given i) ≡ false → files_in Y i ≡ None)
      → FilesMatch (files_after F given) Y
  match-names folder range away lone named own_dir empty home removed =
      match-entry F (files_after F given) X Y d e i match kin-after
      (λ j k fs es off. elim (cases_eq j i) [
        | inl at ↦ subst (λ (q : ℕ). SameDirectory (F q) (files_after F given q) k) (sym at)
            (own_dir (subst (λ (q : ℕ). is_some (F q) ≡ true) at fs)
            (subst (λ (q : ℕ). is_some (files_after F given q) ≡ true) at es) k)
        | inr ni ↦ directory-after j k ni off
      ])
      away lone
      (λ j g ni. ap (λ (o : Option Entry). names o j g) (entry-new folder range) ∙ named j g ni)
      empty home same-after rest-after removed
