-- A name that every version since the last flush has finds its file.
use Rattle.std.proofs.Common.{◌≡◌, ℕ, suc, ◌/◌, ◌%◌, ◌<◌, inl, inr, Bool, true, false, eqb, lt-ltb, ◌&&◌, ◌||◌, List}
use Rattle.std.proofs.Common.{length, get_or, Option, Some, None}
use Rattle.std.proofs.Common.{is_some, refl, sym, ap, ◌∙◌, subst, arith, Contains, eq-eqb}
use Rattle.std.proofs.lemmas.Bool.{cases_lt}
use Rattle.std.proofs.lemmas.List.{get_or_past}
use Rattle.nofs_inode.specs.declared.inode.FileKind.{FileKind}
use Rattle.nofs_inode.specs.declared.inode.BackLink.{BackLink}
use Rattle.nofs_dirent.specs.Entries.{entry_in, entry_limit}
use Rattle.nofs_ptrs.specs.Paths.{slot_limit}
use Rattle.nofs_model.specs.Geometry.{Image, inode}
use Rattle.nofs_model.specs.Files.{files_in, Agreed, root, linked, entry_in_file, entry_at, is_pair, links_of}
use Rattle.nofs_model.specs.Slots.{value}
use Rattle.nofs_model.proofs.OnFiles.Chains.{holds-agreed}
use Rattle.nofs_history.specs.Meta.{Meta, Gone, Is, meta_of, MayRead}
use Rattle.nofs_history.specs.Since.{since, since_meta, stands}
use Rattle.nofs_history.specs.Allowed.{IsAllowed, IsFolderMeta, SureLink, meta_link}
use Rattle.nofs_history.specs.declared.machine.history.Entry1.{Entry1}
use Rattle.nofs_history.proofs.Names.{folder-kind, is-bytes-of}
use Rattle.nofs_crashlaw.specs.Paths.Names.{SureName, SureChain, SureRoot, SureEntry, LawSureChain, LawSureName}

-- what stands in a place whatever stands for none is there
in-list : (ls : List BackLink) (b : ℕ) (link : BackLink) → ((none : BackLink) → get_or ls b none ≡ link)
    → Contains ls link
in-list ls b link h = elim (cases_lt b (length ls)) [
  | inl lt ↦ (b, lt, h link)
  | inr le ↦
      let other : BackLink = record { directory = suc link.directory; entry = 0; generation = 0 } in
      let past : get_or ls b other ≡ other = get_or_past ls b other le in
      let e : suc link.directory ≡ link.directory = ap (λ (l : BackLink). l.directory) (sym past ∙ h other) in
      absurd (omega (arith, e))
]

module _ (B : Image) (H : List Entry1) (m : ℕ) (X : Image) (a : IsAllowed B H m X) where
  -- the meta that the image has of what stands
  meta-now : (i g : ℕ) → stands B H m i g ≡ true → Contains (since_meta B H m i g) (meta_of (inode X i))
  meta-now i g s =
      let r = a.versions.records i g s in
      subst (λ (q : ℕ). Contains (since_meta B H m i q) (meta_of (inode X i))) r.1 (a.versions.metas i r.0)

  root-agreed : stands B H m 1 1 ≡ true → ((meta : Meta) → Contains (since_meta B H m 1 1) meta → IsFolderMeta meta)
      → Agreed (files_in X) 1
  root-agreed s folders =
      let r = a.versions.records 1 1 s in
      let k = folder-kind (inode X 1) (folders (meta_of (inode X 1)) (meta-now 1 1 s)) in
      let g : eqb (inode X 1).generation 1 ≡ true = eq-eqb (inode X 1).generation 1 r.1 in
      root (rw (k, files_in) (ap (λ (b : Bool). (true && (true && b)) || false) g))

  module _ (i g b : ℕ) (link : BackLink) (p : SureLink B H m i g b link) where
    -- the name is a pair of the image
    pub paired : is_pair (files_in X) i link ≡ true
    paired = (a.names i g b link p).1

    -- its back link is in the record
    pub has-link : Contains (links_of (files_in X) i) link
    has-link = go (inode X i).kind refl (λ none. p.linked (meta_of (inode X i)) (meta-now i g p.file_stands) none)
        (a.versions.records i g p.file_stands).0
      where
        go : (o : Option FileKind) → (inode X i).kind ≡ o → ((none : BackLink)
            → meta_link (elim o [ None ↦ Gone | Some kind ↦ Is kind (inode X i).size (inode X i).links ]) b none ≡ link)
            → is_some o ≡ true
            → Contains (links_of (files_in X) i) link
        go None e h live = cc live
        go (Some kind) e h live = rw (e, files_in) (in-list (inode X i).links b link h)

  module _ (i g b : ℕ) (link : BackLink) (name : List ℕ) (p : SureName B H m i g b link name) where
    -- and the entry is the one that every version has
    pub entry-now : entry_at (files_in X) link.directory link.entry
        ≡ Some (record { inode = i; generation = g; name = name })
    entry-now =
        let r = a.versions.records link.directory link.generation p.directory_stands in
        let k = folder-kind (inode X link.directory) (p.folders (meta_of (inode X link.directory))
        (meta-now link.directory link.generation p.directory_stands)) in
        let slot : link.entry / 16 < slot_limit = let lt = p.range in omega (arith, lt) in
        let sure = a.versions.sure link.directory link.generation (link.entry / 16) p.directory_stands slot
        (λ v c. is-bytes-of v (λ (content : List ℕ). entry_in content (link.entry % 16)
        ≡ Some (record { inode = i; generation = g; name = name }))
        (p.entry v c)) in
        let may : MayRead (since B H m link.directory link.generation (link.entry / 16))
        (value X link.directory (link.entry / 16)) =
        subst (λ (q : ℕ). MayRead (since B H m link.directory q (link.entry / 16))
        (value X link.directory (link.entry / 16))) r.1
        (a.versions.values link.directory (link.entry / 16) r.0 slot) in
        let has : Contains (since B H m link.directory link.generation (link.entry / 16))
        (value X link.directory (link.entry / 16)) =
        elim may [ inl l ↦ absurd (sure l) | inr c ↦ c ] in
        let h = p.entry (value X link.directory (link.entry / 16)) has in
        let v = h.1 in
        rw (k, files_in, entry_in_file) (rw (lt-ltb link.entry entry_limit p.range, v) h.2)

  chain : (i : ℕ) → SureChain B H m i → Agreed (files_in X) i
  chain i (SureRoot s folders) = root-agreed s folders
  chain i (SureEntry g b link plain p up) =
      linked link plain (has-link i g b link p) (paired i g b link p) (chain link.directory up)

pub law-sure-chain : LawSureChain
law-sure-chain B H m X i a c = holds-agreed (files_in X) i (chain B H m X a i c)

pub law-sure-name : LawSureName
law-sure-name B H m X i g b link name a c p = record {
  agreed = law-sure-chain B H m X link.directory a c;
  directory = (a.versions.records link.directory link.generation p.directory_stands).1;
  file = (a.versions.records i g p.file_stands).1;
  link = link;
  leads = refl;
  has = has-link B H m X a i g b link p.sure;
  pair = paired B H m X a i g b link p.sure;
  entry = record { inode = i; generation = g; name = name };
  found = entry-now B H m X a i g b link name p;
  named = refl;
}
