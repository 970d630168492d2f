-- Since the mark: a back link that no entry changes is in every version, and so is a chain of directories.
use Rattle.std.proofs.Common.{◌≡◌, ℕ, suc, ◌/◌, ◌%◌, ◌<◌, ◌≤◌, true, false, ◌&&◌, not, List, [], ◌∷◌, length, take}
use Rattle.std.proofs.Common.{Option, Some, None, is_some, refl, sym, ap, ◌∙◌, subst, arith, Contains, eq-eqb}
use Rattle.std.specs.Prelude.{slice_get}
use Rattle.std.specs.List.{list_any}
use Rattle.nofs_inode.specs.declared.inode.BackLink.{BackLink}
use Rattle.nofs_dirent.specs.declared.entry.Entry.{Entry}
use Rattle.nofs_dirent.specs.Entries.{entry_in, entry_limit}
use Rattle.nofs_model.specs.Geometry.{Image}
use Rattle.nofs_model.specs.Files.{Files, FileState, Agreed, root, linked, entry_held, names, links_of}
use Rattle.nofs_model.specs.declared.image.value.Value.{Value}
use Rattle.nofs_model.specs.declared.image.value.Value.TheVariants.{Hole, Bytes, Lost}
use Rattle.nofs_history.specs.Meta.{Meta, Gone, Is, is_gone}
use Rattle.nofs_history.specs.Machine.{Given, gives, generation_of, given_by}
use Rattle.nofs_history.specs.History.{NoWriteFault}
use Rattle.nofs_history.specs.Since.{begun, mark, metas_given, since, since_mark, since_meta, files_at_mark, stands}
use Rattle.nofs_history.specs.Allowed.{IsFolderMeta, SureLink, meta_link}
use Rattle.nofs_history.specs.World.{World}
use Rattle.nofs_history.specs.Next.{Next}
use Rattle.nofs_history.specs.declared.machine.history.Entry1.{Entry1}
use Rattle.nofs_crashlaw.proofs.OnUntouched.Matches.{gen-of}
use Rattle.nofs_crashlaw.proofs.OnNames.Renames.{entry-parts}
use Rattle.nofs_crashlaw.specs.Runs.Pairs.{Filled, IsDirectory}
use Rattle.nofs_crashlaw.specs.Runs.Laws.{files_before}
use Rattle.nofs_crashlaw.proofs.OnRuns.Places.{at-get, contains-at}
use Rattle.nofs_crashlaw.proofs.OnRuns.Acts.{Acts, Idle, Acting, acts}
use Rattle.nofs_crashlaw.proofs.OnRuns.Gives.{folder-metas}
use Rattle.nofs_crashlaw.proofs.OnRuns.PairLinks.{AtMeta}
use Rattle.nofs_crashlaw.proofs.OnRuns.Links.{IsSane, Linked, pair-linked, linked-filled, Stays, NamesOnly}
use Rattle.nofs_crashlaw.proofs.OnRuns.Entries.{since-passes, given-passes, metas-since}
use Rattle.nofs_crashlaw.proofs.OnRuns.Chains.{Guard, Names, names-only, chain-guard, root-folder, SaneRun, moment-at}
use Rattle.nofs_crashlaw.proofs.OnRuns.Chains.{linked-along, stays-along}
use Rattle.nofs_crashlaw.specs.Paths.Names.{SureName, SureChain, SureRoot, SureEntry}

none-gone : (vs : List Meta) → ((v : Meta) → Contains vs v → is_gone v ≡ false) → list_any is_gone vs ≡ false
none-gone [] each = refl
none-gone (v ∷ vs) each =
    let a : is_gone v ≡ false = each v (0, omega arith, refl) in
    let ih = none-gone vs (λ w c. let lt = c.1 in each w (suc c.0, omega (arith, lt), c.2)) in
    rw (a, ih) refl

-- the moment's mark lies between s and n, the entries that have begun are the first n, and no write failed before the
-- mark
pub record MarkWithin (B : Image) (H : List Entry1) (m s n : ℕ) : Type 0 where
  pub low : s ≤ mark H m
  pub high : mark H m ≤ n
  pub begun : length (begun H m) ≤ n
  pub faultless : NoWriteFault (take (mark H m) H)

module _ (B : Image) (H : List Entry1) (m s n : ℕ) (within : MarkWithin B H m s n) where
  at-mark : Files
  at-mark = files_before B H (mark H m)

  -- what has a file at the mark that nothing removes stands
  stands-is : (i g : ℕ) (f : FileState) → files_at_mark B H m i ≡ Some f → f.generation ≡ g
      → ((p : ℕ) (e : Entry1) → s ≤ p → p < n → slice_get H p ≡ Some e
      → (v : Meta) → (given_by (files_before B H p) e).metas i g ≡ Some v
      → is_gone v ≡ false) → stands B H m i g ≡ true
  stands-is i g f is gen each =
      let there : is_some (files_at_mark B H m i) ≡ true = rw is refl in
      let same = eq-eqb (generation_of (files_at_mark B H m) i) g (gen-of (files_at_mark B H m) i f is ∙ gen) in
      let stay = none-gone (metas_given (files_at_mark B H m) (since_mark H m) i g)
      (given-passes B H m i g f within.faultless is gen (λ v. is_gone v ≡ false) (λ p e low high at v h.
      let a = within.low in let b = within.begun in each p e (omega (arith, a, low)) (omega (arith, b, high)) at v h))
      in
      λ j. there j && (same j && not (stay j))

  -- a directory that gets no meta
  directory-sure : (d g : ℕ) → IsDirectory (files_at_mark B H m) d g
      → ((p : ℕ) (e : Entry1) → s ≤ p → p < n → slice_get H p ≡ Some e
      → (given_by (files_before B H p) e).metas d g ≡ None)
      → (stands B H m d g ≡ true) × ((meta : Meta) → Contains (since_meta B H m d g) meta → IsFolderMeta meta)
  directory-sure d g p none = (
    stands-is d g p.file p.is p.generation (λ q e low high at v h. absurd (let z = none q e low high at in cc (z, h))),
    metas-since B H m d g p.file within.faultless p.is p.generation (λ meta. IsFolderMeta meta) p.folder
        (λ q e low high at v h. let a = within.low in let b =
        within.begun in absurd (let z = none q e (omega (arith, a, low)) (omega (arith, b, high)) at in cc (z, h))),
  )

  module _ (E : Entry → Type 0) (i g b : ℕ) (link : BackLink) (l : Linked E (files_at_mark B H m) i g b link)
      (stays : (p : ℕ) (e : Entry1) → s ≤ p → p < n → slice_get H p ≡ Some e
      → Stays E (given_by (files_before B H p) e) i g b link) where
    here : (p : ℕ) (e : Entry1) → mark H m ≤ p → p < length (begun H m) → slice_get H p ≡ Some e
        → Stays E (given_by (files_before B H p) e) i g b link
    here p e low high at = let a = within.low in let c = within.begun in
        stays p e (omega (arith, a, low)) (omega (arith, c, high)) at

    parent-sure : (stands B H m link.directory link.generation ≡ true)
        × ((meta : Meta) → Contains (since_meta B H m link.directory link.generation) meta
        → IsFolderMeta meta)
    parent-sure =
        directory-sure link.directory link.generation l.parent (λ p e low high at. (stays p e low high at).directory)

    file-stands : stands B H m i g ≡ true
    file-stands = stands-is i g l.file l.is l.generation (λ p e low high at v h. there v
        (subst (λ (o : Option Meta). AtMeta b link o) h (stays p e low high at).metas))
      where
        there : (v : Meta) → AtMeta b link (Some v) → is_gone v ≡ false
        there Gone a = absurd a
        there (Is kind size links) a = refl

    file-older : (meta : Meta) → Contains (since_meta B H m i g) meta → IsFolderMeta meta → link.generation < g
    file-older = metas-since B H m i g l.file within.faultless l.is l.generation
        (λ meta. IsFolderMeta meta → link.generation < g) l.older
        (λ p e low high at v h. given v (here p e low high at) h)
      where
        given : {x : Given} → (v : Meta) → Stays E x i g b link → x.metas i g ≡ Some v → IsFolderMeta v
            → link.generation < g
        given Gone st h k = absurd k
        given (Is kind size links) st h k = st.older kind size links h k

    file-linked : (meta : Meta) → Contains (since_meta B H m i g) meta
        → (none : BackLink) → meta_link meta b none ≡ link
    file-linked = metas-since B H m i g l.file within.faultless l.is l.generation
        (λ meta. (none : BackLink) → meta_link meta b none ≡ link)
        (λ none. at-get l.file.links b link none l.at)
        (λ p e low high at v h. there v (subst (λ (o : Option Meta). AtMeta b link o) h (here p e low high at).metas))
      where
        there : (v : Meta) → AtMeta b link (Some v) → (none : BackLink) → meta_link v b none ≡ link
        there Gone a none = absurd a
        there (Is kind size links) a none = at-get links b link none a

    cells : (v : Value) → Contains (since B H m link.directory link.generation (link.entry / 16)) v
        → (x : Entry) × (entry_held v link.entry ≡ Some x) × E x
    cells = since-passes B H m link.directory link.generation l.parent.file within.faultless l.parent.is
        l.parent.generation
        (λ v. (x : Entry) × (entry_held v link.entry ≡ Some x) × E x) (link.entry / 16) (
          l.entry,
          (entry-parts (files_at_mark B H m link.directory) l.parent.file link.entry l.entry l.parent.is l.there).2,
          l.passes,
        )
        (λ p e low high at v h. (here p e low high at).cell v h)

    range : link.entry < entry_limit
    range = (entry-parts (files_at_mark B H m link.directory) l.parent.file link.entry l.entry l.parent.is l.there).1

    -- every version has the link
    pub sure-link : NamesOnly E i g → SureLink B H m i g b link
    sure-link only = record {
      file_stands = file-stands;
      directory_stands = parent-sure.0;
      folders = parent-sure.1;
      older = file-older;
      linked = file-linked;
      range = range;
      cell = λ v c. let h = cells v c in let n = only h.0 h.2 in named v h.0 h.1 n.0 n.1;
    }
      where
        named : (v : Value) (x : Entry) → entry_held v link.entry ≡ Some x → x.inode ≡ i → x.generation ≡ g
            → (content : List ℕ) × (v ≡ Bytes content) × (names (entry_in content (link.entry % 16)) i g ≡ true)
        named Hole x h ni ng = cc h
        named Lost x h ni ng = cc h
        named (Bytes content) x h ni ng =
            (content, refl, (let a = eq-eqb x.inode i ni in let c = eq-eqb x.generation g ng in rw h (rw (a, c) refl)))

    -- and where one entry alone passes, the name
    pub sure-name : (name : List ℕ) → ((x : Entry) → E x → x ≡ record { inode = i; generation = g; name = name })
        → SureName B H m i g b link name
    sure-name name one = record {
      sure = sure-link (λ x e. (ap (λ (y : Entry). y.inode) (one x e), ap (λ (y : Entry). y.generation) (one x e)));
      entry = λ v c. let h = cells v c in named v h.0 h.1 (one h.0 h.2);
    }
      where
        named : (v : Value) (x : Entry) → entry_held v link.entry ≡ Some x
            → x ≡ record { inode = i; generation = g; name = name } → (content : List ℕ) × (v ≡ Bytes content)
            × (entry_in content (link.entry % 16) ≡ Some (record { inode = i; generation = g; name = name }))
        named Hole x h e = cc h
        named Lost x h e = cc h
        named (Bytes content) x h e = (content, refl, h ∙ ap Some e)

-- The chain

module _ (B : Image) (H : List Entry1) (r : SaneRun B H) (m s n : ℕ) (within : MarkWithin B H m s n)
    (reach : (p : ℕ) → p < n
    → (e : Entry1) × (slice_get H p ≡ Some e)) where
  -- a directory that stays, and is not empty before any of the entries
  abbrev StaysFilled : ℕ → ℕ → Type 0
  StaysFilled i g = (p : ℕ) → s ≤ p → p ≤ n → IsDirectory (files_before B H p) i g × Filled (files_before B H p) i

  filled-metas : (i g : ℕ) → StaysFilled i g → (p : ℕ) (e : Entry1) → s ≤ p → p < n → slice_get H p ≡ Some e
      → (given_by (files_before B H p) e).metas i g ≡ None
  filled-metas i g full p e low high at =
      let x = moment-at B H r p e at in
      let d = full p low (omega (arith, high)) in
      subst (λ (F : Files). (given_by F e).metas i g ≡ None) x.files
      (by x.before x.after x.next (subst (λ (F : Files). IsDirectory F i g) (sym x.files) d.0)
      (subst (λ (F : Files). Filled F i) (sym x.files) d.1))
    where
      by : (W V : World) → Next W e V → IsDirectory W.files i g → Filled W.files i
          → (given_by W.files e).metas i g ≡ None
      by W V next d f = go (acts W V e next)
        where
          go : Acts W e → (given_by W.files e).metas i g ≡ None
          go (Idle same) = ap (λ (x : Given). x.metas i g) same
          go (Acting V' same row claim) = ap (λ (x : Given). x.metas i g) same
              ∙ ap (λ (q : ℕ). (gives W.files e.step e.claims).metas i q) (sym d.generation)
              ∙ folder-metas W V' e.claims e.step row claim i d.file d.is d.folder (λ q. f)

  -- the chain of such a directory is in every version since the mark
  pub chain-sure : (i g : ℕ) → Agreed (files_before B H s) i → StaysFilled i g → SureChain B H m i
  chain-sure i g (root r0) full =
      let first = full s (omega arith) (let a = within.low in let b = within.high in omega (arith, a, b)) in
      let one = root-folder (files_before B H s) i g r0 first.0 in
      let now = full (mark H m) within.low within.high in
      let sure = directory-sure B H m s n within i g now.0 (filled-metas i g full) in
      subst (λ (j : ℕ). SureChain B H m j) (sym one.0) (SureRoot
      (subst (λ (j : ℕ). stands B H m j 1 ≡ true) one.0 (subst (λ (q : ℕ). stands B H m i q ≡ true) one.1 sure.0))
      (subst (λ (j : ℕ). (meta : Meta) → Contains (since_meta B H m j 1) meta → IsFolderMeta meta) one.0
      (subst (λ (q : ℕ). (meta : Meta) → Contains (since_meta B H m i q) meta → IsFolderMeta meta) one.1 sure.1)))
  chain-sure i g (linked link plain has pair up) full =
      let first = full s (omega arith) (let a = within.low in let b = within.high in omega (arith, a, b)) in
      let links : links_of (files_before B H s) i ≡ first.0.file.links =
      ap (λ (o : Option FileState). elim o [ None ↦ [] | Some q ↦ q.links ]) first.0.is in
      let at = contains-at first.0.file.links link (subst (λ (ls : List BackLink). Contains ls link) links has) in
      let l = pair-linked (files_before B H s) i g at.0 first.0.file link first.0.is first.0.generation at.1 pair in
      let each = guards at.0 link full in
      let along = linked-along B H r s n reach (λ x. Names i g x) i g at.0 link (names-only i g) l each in
      let stays = stays-along B H r s n reach (λ x. Names i g x) i g at.0 link (names-only i g) l each in
      SureEntry g at.0 link plain (sure-link B H m s n within (λ x. Names i g x) i g at.0 link
      (along (mark H m) within.low within.high) stays (names-only i g))
      (chain-sure link.directory link.generation up (λ p low high. let k =
      along p low high in (k.parent, linked-filled (λ x. Names i g x) (files_before B H p) i g at.0 link k)))
    where
      guards : (b : ℕ) (link : BackLink) → StaysFilled i g
          → (p : ℕ) (e : Entry1) → s ≤ p → p < n → slice_get H p ≡ Some e → (W V : World)
          → W.files ≡ files_before B H p → IsSane W → Next W e V → Linked (λ x. Names i g x) W.files i g b link
          → Guard (λ x. Names i g x) W e link
      guards b link full p e low high at W V same sane next l =
          let d = full p low (omega (arith, high)) in
          chain-guard W V e i g b link sane next l (subst (λ (F : Files). IsDirectory F i g) (sym same) d.0)
          (λ q. subst (λ (F : Files). Filled F i) (sym same) d.1)
