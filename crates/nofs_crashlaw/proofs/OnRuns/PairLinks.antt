-- The back link of a pair, in what a step that no row refuses gives.
use Rattle.std.proofs.Common.{◌≡◌, ◌≢◌, ℕ, Bool, true, false, cond, eqb, ◌&&◌, not, List, [], ◌∷◌, Option, Some, None}
use Rattle.std.proofs.Common.{refl, sym, ap, ◌∙◌, subst, arith, eqb-true, ne_eqb}
use Rattle.std.specs.List.{list_any}
use Rattle.nofs_inode.specs.declared.inode.BackLink.{BackLink}
use Rattle.nofs_dirent.specs.declared.entry.Entry.{Entry}
use Rattle.nofs_inode.specs.InodeRecords.{is_empty_link}
use Rattle.nofs_model.specs.Files.{Files, FileState, entry_at, is_pair, is_special, links_of}
use Rattle.nofs_model.proofs.OnFiles.Chains.{pair-of, true-any}
use Rattle.nofs_history.specs.Meta.{Meta, Gone, Is}
use Rattle.nofs_history.specs.Search.{first_of}
use Rattle.nofs_history.specs.Machine.{gives, at_place, found, place_for, link_place, place_for_link, make_given}
use Rattle.nofs_history.specs.Machine.{link_given, drop_given}
use Rattle.nofs_history.specs.Machine.{rename_given, meta_given, meta_with, drop_meta, same_link, link_to, set_link}
use Rattle.nofs_history.specs.Machine.{without_link}
use Rattle.nofs_history.specs.World.{World}
use Rattle.nofs_history.specs.Refusals.{rows}
use Rattle.nofs_history.specs.Claims.{IsClaim}
use Rattle.nofs_history.specs.declared.machine.history.Claims.{Claims}
use Rattle.nofs_history.specs.declared.machine.steps.Step.{Step}
use Rattle.nofs_history.specs.declared.machine.steps.Step.TheVariants as step
use Rattle.nofs_crashlaw.specs.Runs.Pairs.{HasAt}
use Rattle.nofs_crashlaw.proofs.OnRuns.Places.{at-contains, set-beside, cleared-beside, place-passes}
use Rattle.nofs_crashlaw.proofs.OnRuns.Gives.{other-inode}

-- The back link of a pair

-- where a meta is given, place b of it has this link, and it says of a file that is there
abbrev pub AtMeta : ℕ → BackLink → Option Meta → Type 0
AtMeta b link None = Unit {0}
AtMeta b link (Some Gone) = ⊥
AtMeta b link (Some (Is kind size links)) = HasAt links b link

-- no pair leads to inode 0
pub not-empty-link : (F : Files) (i : ℕ) (link : BackLink) → F 0 ≡ None → is_pair F i link ≡ true → link.directory ≢ 0
not-empty-link F i link bottom pair e = let p = pair-of F i link pair in let is = p.parent_is in cc (bottom, is, e)

-- a new back link goes to no place of a pair
pub place-apart : (F : Files) (i b c : ℕ) (f : FileState) (link : BackLink) → F 0 ≡ None → F i ≡ Some f
    → link_place F i ≡ Some c → HasAt f.links b link
    → is_pair F i link ≡ true → b ≢ c
unfolding link_place
place-apart F i b c f link bottom is place at pair e = go (eqb i 2) place
  where
    links : links_of F i ≡ f.links
    links = ap (λ (o : Option FileState). elim o [ None ↦ [] | Some q ↦ q.links ]) is

    here : HasAt (links_of F i) c link
    here = subst (λ (k : ℕ). HasAt (links_of F i) k link) e
        (subst (λ (ls : List BackLink). HasAt ls b link) (sym links) at)

    passes : (test : BackLink → Bool) → place_for_link test (links_of F i) 0 ≡ Some c → test link ≡ true
    passes test p =
        let r = place-passes test (links_of F i) 0 c p in
        let s = r.1 in
        r.2 link (subst (λ (k : ℕ). HasAt (links_of F i) k link) (omega (arith, s)) here)

    pick : (u v : Option ℕ) → place_for_link is_empty_link (links_of F i) 0 ≡ u
        → place_for_link (λ l. not (is_pair F i l)) (links_of F i) 0 ≡ v
        → first_of (u ∷ v ∷ []) ≡ Some c → ⊥
    pick (Some n) v eu ev q =
        let s : n ≡ c = cc q in
        let t : is_empty_link link ≡ true = passes is_empty_link (eu ∙ ap Some s) in
        not-empty-link F i link bottom pair (eqb-true link.directory 0 t)
    pick None (Some n) eu ev q =
        let s : n ≡ c = cc q in
        let t : not (is_pair F i link) ≡ true = passes (λ l. not (is_pair F i l)) (ev ∙ ap Some s) in
        let z : not (is_pair F i link) ≡ false = ap not pair in
        cc (t, z)
    pick None None eu ev q = cc q

    go : (t : Bool) → cond t None (first_of (place_for_link is_empty_link (links_of F i) 0
        ∷ place_for_link (λ l. not (is_pair F i l)) (links_of F i) 0 ∷
        [])) ≡ Some c → ⊥
    go true q = cc q
    go false q = pick (place_for_link is_empty_link (links_of F i) 0)
        (place_for_link (λ l. not (is_pair F i l)) (links_of F i) 0) refl refl q

-- a Drop of another entry leaves the link
drop-kept : (F : Files) (i b : ℕ) (f : FileState) (link gone : BackLink) → F i ≡ Some f → HasAt f.links b link
    → is_pair F i link ≡ true
    → same_link link gone ≡ false → AtMeta b link (Some (drop_meta F i gone))
drop-kept F i b f link gone is at pair other = here (F i) is
  where
    either : (q : FileState) → HasAt (without_link gone q.links) b link → (a t : Bool) → t ≡ true
        → AtMeta b link (Some (cond (not a && not t) Gone (Is q.kind q.size (without_link gone q.links))))
    either q stays true t y = stays
    either q stays false true y = stays
    either q stays false false y = cc y

    alive : (q : FileState) → HasAt q.links b link → AtMeta b link
        (Some (cond (not (is_special i) && not (list_any (λ l. is_pair F i l) (without_link gone q.links))) Gone
        (Is q.kind q.size (without_link gone q.links))))
    alive q h =
        let stays : HasAt (without_link gone q.links) b link = cleared-beside q.links b link gone other h in
        either q stays (is_special i) (list_any (λ l. is_pair F i l) (without_link gone q.links))
        (true-any (λ l. is_pair F i l) (without_link gone q.links) link
        (at-contains (without_link gone q.links) b link stays) pair)

    here : (o : Option FileState) → o ≡ Some f → AtMeta b link
        (Some (elim o [
          | None ↦ Gone
          | Some q ↦ cond (not (is_special i) && not (list_any (λ l. is_pair F i l) (without_link gone q.links))) Gone
              (Is q.kind q.size (without_link gone q.links))
        ]))
    here None e = cc e
    here (Some q) e = let s : f ≡ q = cc e in alive q (subst (λ (p : FileState). HasAt p.links b link) s at)

-- a change of the size, or of nothing
kept-size : (F : Files) (i g j h b : ℕ) (link : BackLink) (size : FileState → ℕ) (f : FileState) → F j ≡ Some f
    → HasAt f.links b link
    → AtMeta b link (meta_given i g (meta_with F i (λ q. Is q.kind (size q) q.links)) j h)
kept-size F i g j h b link size f is at = go (eqb i j) refl (eqb g h)
  where
    here : (o : Option FileState) → o ≡ Some f
        → AtMeta b link (Some (elim o [ None ↦ Gone | Some q ↦ Is q.kind (size q) q.links ]))
    here None e = cc e
    here (Some q) e = let s : f ≡ q = cc e in subst (λ (p : FileState). HasAt p.links b link) s at

    go : (x : Bool) → eqb i j ≡ x → (y : Bool)
        → AtMeta b link (cond (x && y) (Some (meta_with F i (λ q. Is q.kind (size q) q.links))) None)
    go false e y = tt
    go true e false = tt
    go true e true = here (F i) (ap F (eqb-true i j e) ∙ is)

module _ (W V : World) (c : Claims) (j b : ℕ) (f : FileState) (link : BackLink) (bottom : W.files 0 ≡ None)
    (is : W.files j ≡ Some f) (at : HasAt f.links b link) (pair : is_pair W.files j link ≡ true) where
  -- a meta that is given to the inode of a pair has its link, but for a Drop of that pair
  pub link-kept : (s : Step) → first_of (rows W V s) ≡ None → IsClaim W s c
      → ((g : ℕ) (name : List ℕ) → s ≡ step.Drop link.directory g name
      → found W.files link.directory name ≡ Some link.entry → ⊥)
      → AtMeta b link ((gives W.files s c).metas j f.generation)
  unfolding gives
  link-kept (step.Put i g k a bytes) r claim undropped = kept-size W.files i g j f.generation b link _ f is at
  link-kept (step.Resize i g size) r claim undropped = kept-size W.files i g j f.generation b link (λ q. size) f is at
  link-kept (step.Make d g name kind) r claim undropped = go (place_for W.files d name)
    where
      go : (o : Option ℕ)
          → AtMeta b link ((at_place o (λ e. make_given W.files d g name kind c e)).metas j f.generation)
      go None = tt
      go (Some e) = let z = ne_eqb j c.inode (other-inode W d g name kind c j f claim is) in rw z tt
  link-kept (step.Link d g name i of) r claim undropped = go (place_for W.files d name) (link_place W.files i) refl
    where
      here : (e p : ℕ) → link_place W.files i ≡ Some p → i ≡ j → (o : Option FileState) → o ≡ Some f
          → AtMeta b link
          (Some (elim o [ None ↦ Gone | Some q ↦ Is q.kind q.size (set_link q.links p (link_to d e g)) ]))
      here e p ep ij None eo = cc eo
      here e p ep ij (Some q) eo =
          let s : f ≡ q = cc eo in
          let ne : b ≢ p = place-apart W.files j b p f link bottom is (ap (link_place W.files) (sym ij) ∙ ep) at pair in
          set-beside q.links b p link (link_to d e g) ne (subst (λ (x : FileState). HasAt x.links b link) s at)

      by : (e p : ℕ) → link_place W.files i ≡ Some p → (x : Bool) → eqb i j ≡ x → (y : Bool)
          → AtMeta b link
          (cond (x && y) (Some (meta_with W.files i (λ q. Is q.kind q.size (set_link q.links p (link_to d e g))))) None)
      by e p ep false ex y = tt
      by e p ep true ex false = tt
      by e p ep true ex true = here e p ep (eqb-true i j ex) (W.files i) (ap W.files (eqb-true i j ex) ∙ is)

      go : (o l : Option ℕ) → link_place W.files i ≡ l → AtMeta b link
          ((at_place o (λ e. at_place l (λ p. link_given W.files d g name i of e p))).metas j f.generation)
      go None l el = tt
      go (Some e) None el = tt
      go (Some e) (Some p) el = by e p el (eqb i j) refl (eqb of f.generation)
  link-kept (step.Rename d g old new) r claim undropped = go (found W.files d old)
    where
      by : (e : ℕ) (o : Option Entry)
          → entry_at W.files d e ≡ o → AtMeta b link ((rename_given W.files d g new e).metas j f.generation)
      by e None eo = rw (eo, rename_given) tt
      by e (Some x) eo = rw (eo, rename_given) tt

      go : (o : Option ℕ) → AtMeta b link ((at_place o (λ e. rename_given W.files d g new e)).metas j f.generation)
      go None = tt
      go (Some e) = by e (entry_at W.files d e) refl
  link-kept (step.Drop d g name) r claim undropped = go (found W.files d name) refl
    where
      other : (e : ℕ) → found W.files d name ≡ Some e → same_link link (link_to d e g) ≡ false
      other e ef = decide (eqb link.directory d) refl (eqb link.entry e) refl (eqb link.generation g)
        where
          decide : (x : Bool) → eqb link.directory d ≡ x → (y : Bool) → eqb link.entry e ≡ y → (z : Bool)
              → (x && (y && z)) ≡ false
          decide false ex y ey z = refl
          decide true ex false ey z = refl
          decide true ex true ey z =
              let qd = eqb-true link.directory d ex in
              let qe = eqb-true link.entry e ey in
              absurd (undropped g name (ap (λ (k : ℕ). step.Drop k g name) (sym qd))
              (ap (λ (k : ℕ). found W.files k name) qd ∙ ef ∙ ap Some (sym qe)))

      here : (e : ℕ) (x : Entry) → found W.files d name ≡ Some e → (a : Bool) → eqb x.inode j ≡ a → (y : Bool)
          → AtMeta b link (cond (a && y) (Some (drop_meta W.files x.inode (link_to d e g))) None)
      here e x ef false ex y = tt
      here e x ef true ex false = tt
      here e x ef true ex true =
          let q = eqb-true x.inode j ex in
          drop-kept W.files x.inode b f link (link_to d e g) (ap W.files q ∙ is) at
          (ap (λ (k : ℕ). is_pair W.files k link) q ∙ pair) (other e ef)

      by : (e : ℕ) → found W.files d name ≡ Some e → (o : Option Entry) → entry_at W.files d e ≡ o
          → AtMeta b link ((drop_given W.files d g e).metas j f.generation)
      by e ef None eo = rw (eo, drop_given) tt
      by e ef (Some x) eo = rw (eo, drop_given) (here e x ef (eqb x.inode j) refl (eqb x.generation f.generation))

      go : (o : Option ℕ)
          → found W.files d name ≡ o → AtMeta b link ((at_place o (λ e. drop_given W.files d g e)).metas j f.generation)
      go None ef = tt
      go (Some e) ef = by e ef (entry_at W.files d e) refl
  link-kept (step.Look d g name) r claim undropped = tt
  link-kept (step.List d g slot) r claim undropped = tt
  link-kept (step.Get i g k) r claim undropped = tt
  link-kept (step.Stat i g) r claim undropped = tt
  link-kept (step.Flush i g) r claim undropped = tt
  link-kept (step.SeeInode i) r claim undropped = tt
  link-kept (step.SeeBlock p) r claim undropped = tt
