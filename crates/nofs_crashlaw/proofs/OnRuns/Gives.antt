-- What a step that no row refuses gives to a directory, to a file, and to the slot of an entry that a back link leads
-- to.
use Rattle.std.proofs.Common.{◌≡◌, ◌≢◌, ℕ, zero, suc, Bool, true, false, cond, eqb, ◌&&◌, ◌||◌, not, List, [], ◌∷◌}
use Rattle.std.proofs.Common.{Option, Some, None, is_some, refl, sym, ap, ◌∙◌, subst, arith, eqb-true, ne_eqb}
use Rattle.std.specs.Prelude.{slice_get}
use Rattle.std.specs.List.{list_any}
use Rattle.nofs_dirent.specs.Entries.{entry_limit}
use Rattle.nofs_inode.specs.declared.inode.FileKind.{FileKind}
use Rattle.nofs_inode.specs.declared.inode.BackLink.{BackLink}
use Rattle.nofs_dirent.specs.declared.entry.Entry.{Entry}
use Rattle.nofs_model.specs.Files.{Files, FileState, is_folder, entry_at, is_pair, is_special}
use Rattle.nofs_model.specs.declared.image.value.Value.{Value}
use Rattle.nofs_history.specs.Meta.{Meta, Gone, Is}
use Rattle.nofs_history.specs.Search.{least_from, first_of}
use Rattle.nofs_history.specs.Machine.{gives, at_place, found, place_for, link_place, make_given, link_given}
use Rattle.nofs_history.specs.Machine.{drop_given, rename_given, meta_given}
use Rattle.nofs_history.specs.Machine.{drop_meta, meta_with, link_to, set_link, without_link, is_paired, is_folder_at}
use Rattle.nofs_history.specs.World.{World}
use Rattle.nofs_history.specs.Refusals.{row, rows, not_empty_at}
use Rattle.nofs_history.specs.Claims.{IsClaim, IsInodeClaim, ClaimedInode, next_stamp}
use Rattle.nofs_history.specs.declared.machine.history.Claims.{Claims}
use Rattle.nofs_history.specs.declared.machine.steps.Step.{Step}
use Rattle.nofs_history.specs.declared.machine.steps.Step.TheVariants as step
use Rattle.nofs_history.specs.declared.machine.replies.Refusal.{Refusal}
use Rattle.nofs_history.specs.declared.machine.replies.Refusal.TheVariants as refusal
use Rattle.nofs_crashlaw.proofs.OnNames.Premises.{least-none}
use Rattle.nofs_crashlaw.specs.Runs.Pairs.{Filled, is_drop}

-- Rows that do not come

pub none-at : (os : List (Option Refusal)) → first_of os ≡ None → (k : ℕ) (o : Option Refusal)
    → slice_get os k ≡ Some o → o ≡ None
none-at [] e k o h = cc h
none-at (None ∷ os) e zero o h = cc h
none-at (None ∷ os) e (suc k) o h = none-at os e k o h
none-at (Some why ∷ os) e k o h = cc e

pub row-none : (t : Bool) (why : Refusal) → row t why ≡ None → t ≡ false
row-none true why e = cc e
row-none false why e = refl

not-false : (b : Bool) → not b ≡ false → b ≡ true
not-false true e = refl
not-false false e = cc e

module _ (W V : World) where
  pub put-file : (i g k at : ℕ) (bytes : List ℕ)
      → first_of (rows W V (step.Put i g k at bytes)) ≡ None → is_folder_at W.files i ≡ false
  put-file i g k at bytes r = row-none (is_folder_at W.files i) refusal.IsDirectory
      (none-at (rows W V (step.Put i g k at bytes)) r 3 (row (is_folder_at W.files i) refusal.IsDirectory) refl)

  pub resize-file : (i g size : ℕ) → first_of (rows W V (step.Resize i g size)) ≡ None → is_folder_at W.files i ≡ false
  resize-file i g size r = row-none (is_folder_at W.files i) refusal.IsDirectory
      (none-at (rows W V (step.Resize i g size)) r 2 (row (is_folder_at W.files i) refusal.IsDirectory) refl)

  pub link-file : (d g : ℕ) (name : List ℕ) (i of : ℕ)
      → first_of (rows W V (step.Link d g name i of)) ≡ None → is_folder_at W.files i ≡ false
  link-file d g name i of r = row-none (is_folder_at W.files i) refusal.IsDirectory
      (none-at (rows W V (step.Link d g name i of)) r 4 (row (is_folder_at W.files i) refusal.IsDirectory) refl)

-- Files

pub folder-at : (F : Files) (j : ℕ) (f : FileState) → F j ≡ Some f → is_folder_at F j ≡ is_folder f.kind
folder-at F j f is = rw (is, is_folder_at) refl

-- what a Put or a Resize gives is no slot of a directory
module _ (W V : World) (c : Claims) (d : ℕ) (f : FileState) (is : W.files d ≡ Some f)
    (folder : is_folder f.kind ≡ true) (k : ℕ) where
  not-file : (i : ℕ) → is_folder_at W.files i ≡ false → i ≢ d
  not-file i file q = let y = folder-at W.files d f is in let z = folder in cc (file, y, q, z)

  pub put-elsewhere : (i g l at : ℕ) (bytes : List ℕ)
      → first_of (rows W V (step.Put i g l at bytes)) ≡ None → (v : Value)
      → (gives W.files (step.Put i g l at bytes) c).slots d f.generation k ≡ Some v → ⊥
  unfolding gives
  put-elsewhere i g l at bytes r v h = go _ (eqb i d) refl (eqb g f.generation) (eqb l k) h
    where
      go : (u : Value) (x : Bool) → eqb i d ≡ x → (y z : Bool) → cond ((x && y) && z) (Some u) None ≡ Some v → ⊥
      go u true ex y z q = not-file i (put-file W V i g l at bytes r) (eqb-true i d ex)
      go u false ex y z q = cc q

  pub resize-elsewhere : (i g size : ℕ) → first_of (rows W V (step.Resize i g size)) ≡ None → (v : Value)
      → (gives W.files (step.Resize i g size) c).slots d f.generation k ≡ Some v → ⊥
  unfolding gives
  resize-elsewhere i g size r v h = go _ (eqb i d) refl (eqb g f.generation) h
    where
      go : (u : Option Value) (x : Bool) → eqb i d ≡ x → (y : Bool) → cond (x && y) u None ≡ Some v → ⊥
      go u true ex y q = not-file i (resize-file W V i g size r) (eqb-true i d ex)
      go u false ex y q = cc q

-- the inode that a Make claims has no file
claimed-free : (W : World) (g : ℕ) (c : Claims) → IsInodeClaim W g c true → W.files c.inode ≡ None
claimed-free W g c (ClaimedInode free low high gen) =
    go (W.known_inodes c.inode) (is_special c.inode) (W.files c.inode) refl free
  where
    go : (a b : Bool) (o : Option FileState) → W.files c.inode ≡ o → (a && not (b || is_some o)) ≡ true → o ≡ None
    go a b None eo h = refl
    go true true (Some f) eo h = cc h
    go true false (Some f) eo h = cc h
    go false b (Some f) eo h = cc h

pub other-inode : (W : World) (d g : ℕ) (name : List ℕ) (kind : FileKind) (c : Claims) (j : ℕ) (f : FileState)
    → IsClaim W (step.Make d g name kind) c
    → W.files j ≡ Some f → j ≢ c.inode
other-inode W d g name kind c j f claim is e = let z = claimed-free W (next_stamp W) c claim.inode in cc (z, is, e)

meta-elsewhere : (i g j h : ℕ) (meta : Meta) → (i ≡ j → ⊥) → meta_given i g meta j h ≡ None
meta-elsewhere i g j h meta ne = let z = ne_eqb i j ne in rw z refl

is-filled : (F : Files) (j : ℕ) → Filled F j → is_some (least_from (λ e. is_paired F j e) 0 entry_limit) ≡ true
is-filled F j (e, lt, p) = go (is_some (least_from (λ k. is_paired F j k) 0 entry_limit)) refl
  where
    go : (b : Bool) → is_some (least_from (λ k. is_paired F j k) 0 entry_limit) ≡ b
        → is_some (least_from (λ k. is_paired F j k) 0 entry_limit) ≡ true
    go true q = q
    go false q = absurd
        (let z = least-none (λ k. is_paired F j k) 0 entry_limit q e (omega arith) (omega (arith, lt)) in cc (z, p))

module _ (W V : World) (c : Claims) where
  -- no step gives a meta to a directory, but for a Drop of one that is empty
  pub folder-metas : (s : Step) → first_of (rows W V s) ≡ None → IsClaim W s c
      → (j : ℕ) (f : FileState) → W.files j ≡ Some f → is_folder f.kind ≡ true
      → (is_drop s ≡ true → Filled W.files j) → (gives W.files s c).metas j f.generation ≡ None
  unfolding gives
  folder-metas (step.Put i g k at bytes) r claim j f is dir filled =
      meta-elsewhere i g j f.generation _
      (λ e. let z = put-file W V i g k at bytes r in let y = folder-at W.files j f is in cc (z, y, e, dir))
  folder-metas (step.Resize i g size) r claim j f is dir filled =
      meta-elsewhere i g j f.generation _
      (λ e. let z = resize-file W V i g size r in let y = folder-at W.files j f is in cc (z, y, e, dir))
  folder-metas (step.Make d g name kind) r claim j f is dir filled = go (place_for W.files d name)
    where
      go : (o : Option ℕ) → (at_place o (λ e. make_given W.files d g name kind c e)).metas j f.generation ≡ None
      go None = refl
      go (Some e) = let z = ne_eqb j c.inode (other-inode W d g name kind c j f claim is) in rw z refl
  folder-metas (step.Link d g name i of) r claim j f is dir filled =
      go (place_for W.files d name) (link_place W.files i)
    where
      file : i ≡ j → ⊥
      file e = let z = link-file W V d g name i of r in let y = folder-at W.files j f is in cc (z, y, e, dir)

      go : (o p : Option ℕ)
          → (at_place o (λ e. at_place p (λ b. link_given W.files d g name i of e b))).metas j f.generation ≡ None
      go None p = refl
      go (Some e) None = refl
      go (Some e) (Some b) = meta-elsewhere i of j f.generation _ file
  folder-metas (step.Rename d g old new) r claim j f is dir filled = go (found W.files d old)
    where
      entry : (e : ℕ) (o : Option Entry)
          → entry_at W.files d e ≡ o → (rename_given W.files d g new e).metas j f.generation ≡ None
      entry e None eo = rw (eo, rename_given) refl
      entry e (Some x) eo = rw (eo, rename_given) refl

      go : (o : Option ℕ) → (at_place o (λ e. rename_given W.files d g new e)).metas j f.generation ≡ None
      go None = refl
      go (Some e) = entry e (entry_at W.files d e) refl
  folder-metas (step.Drop d g name) r claim j f is dir filled = go (found W.files d name) refl
    where
      rest : not_empty_at W d (found W.files d name) ≡ None
      rest = none-at (rows W V (step.Drop d g name)) r 4 (not_empty_at W d (found W.files d name)) refl

      entry : (e : ℕ) (o : Option Entry) → found W.files d name ≡ Some e
          → entry_at W.files d e ≡ o → (drop_given W.files d g e).metas j f.generation ≡ None
      entry e None ef eo = rw (eo, drop_given) refl
      entry e (Some x) ef eo = rw (eo, drop_given) (meta-elsewhere x.inode x.generation j f.generation _ (λ q.
          let full = is-filled W.files j (filled refl) in
          let dir' : is_folder_at W.files j ≡ true = folder-at W.files j f is ∙ dir in
          let n : not_empty_at W d (Some e) ≡ None = subst (λ (o : Option ℕ). not_empty_at W d o ≡ None) ef rest in
          let m : row (is_folder_at W.files x.inode
          && is_some (least_from (λ k. is_paired W.files x.inode k) 0 entry_limit)) refusal.NotEmpty ≡ None =
          rw (eo, not_empty_at) at n in
          let z = row-none _ refusal.NotEmpty m in
          let y : (is_folder_at W.files x.inode
          && is_some (least_from (λ k. is_paired W.files x.inode k) 0 entry_limit)) ≡ true =
          subst (λ (i : ℕ).
          (is_folder_at W.files i && is_some (least_from (λ k. is_paired W.files i k) 0 entry_limit)) ≡ true) (sym q)
          (rw (dir', full) refl) in
          cc (z, y)))

      go : (o : Option ℕ)
          → found W.files d name ≡ o → (at_place o (λ e. drop_given W.files d g e)).metas j f.generation ≡ None
      go None ef = refl
      go (Some e) ef = entry e (entry_at W.files d e) ef refl
  folder-metas (step.Look d g name) r claim j f is dir filled = refl
  folder-metas (step.List d g slot) r claim j f is dir filled = refl
  folder-metas (step.Get i g k) r claim j f is dir filled = refl
  folder-metas (step.Stat i g) r claim j f is dir filled = refl
  folder-metas (step.Flush i g) r claim j f is dir filled = refl
  folder-metas (step.SeeInode i) r claim j f is dir filled = refl
  folder-metas (step.SeeBlock p) r claim j f is dir filled = refl

  -- what has a file is not born
  pub not-born : (s : Step) → IsClaim W s c → (j : ℕ) (f : FileState) → W.files j ≡ Some f
      → (gives W.files s c).born j ≡ None
  unfolding gives
  not-born (step.Make d g name kind) claim j f is = go (place_for W.files d name)
    where
      go : (o : Option ℕ) → (at_place o (λ e. make_given W.files d g name kind c e)).born j ≡ None
      go None = refl
      go (Some e) = let z = ne_eqb j c.inode (other-inode W d g name kind c j f claim is) in rw z refl
  not-born (step.Link d g name i of) claim j f is = go (place_for W.files d name) (link_place W.files i)
    where
      go : (o p : Option ℕ) → (at_place o (λ e. at_place p (λ b. link_given W.files d g name i of e b))).born j ≡ None
      go None p = refl
      go (Some e) None = refl
      go (Some e) (Some b) = refl
  not-born (step.Rename d g old new) claim j f is = go (found W.files d old)
    where
      entry : (e : ℕ) (o : Option Entry) → entry_at W.files d e ≡ o → (rename_given W.files d g new e).born j ≡ None
      entry e None eo = rw (eo, rename_given) refl
      entry e (Some x) eo = rw (eo, rename_given) refl

      go : (o : Option ℕ) → (at_place o (λ e. rename_given W.files d g new e)).born j ≡ None
      go None = refl
      go (Some e) = entry e (entry_at W.files d e) refl
  not-born (step.Drop d g name) claim j f is = go (found W.files d name)
    where
      entry : (e : ℕ) (o : Option Entry) → entry_at W.files d e ≡ o → (drop_given W.files d g e).born j ≡ None
      entry e None eo = rw (eo, drop_given) refl
      entry e (Some x) eo = rw (eo, drop_given) refl

      go : (o : Option ℕ) → (at_place o (λ e. drop_given W.files d g e)).born j ≡ None
      go None = refl
      go (Some e) = entry e (entry_at W.files d e) refl
  not-born (step.Put i g k at bytes) claim j f is = refl
  not-born (step.Resize i g size) claim j f is = refl
  not-born (step.Look d g name) claim j f is = refl
  not-born (step.List d g slot) claim j f is = refl
  not-born (step.Get i g k) claim j f is = refl
  not-born (step.Stat i g) claim j f is = refl
  not-born (step.Flush i g) claim j f is = refl
  not-born (step.SeeInode i) claim j f is = refl
  not-born (step.SeeBlock p) claim j f is = refl

-- A meta of what has a file keeps its kind

-- what a meta says of the kind
abbrev pub OfKind : FileKind → Option Meta → Type 0
OfKind kind None = Unit {0}
OfKind kind (Some Gone) = Unit {0}
OfKind kind (Some (Is other size links)) = other ≡ kind

of-kind : (kind other : FileKind) (size : ℕ) (links : List BackLink) (o : Option Meta) → OfKind kind o
    → o ≡ Some (Is other size links) → other ≡ kind
of-kind kind other size links o h e = subst (λ (p : Option Meta). OfKind kind p) e h

-- a change of size and links
changed : (F : Files) (i g j h : ℕ) (size : FileState → ℕ) (links : FileState → List BackLink)
    (f : FileState) → F j ≡ Some f
    → OfKind f.kind (meta_given i g (meta_with F i (λ q. Is q.kind (size q) (links q))) j h)
changed F i g j h size links f is = go (eqb i j) refl (eqb g h)
  where
    here : (o : Option FileState) → o ≡ Some f
        → OfKind f.kind (Some (elim o [ None ↦ Gone | Some q ↦ Is q.kind (size q) (links q) ]))
    here None e = tt
    here (Some q) e = let s : q ≡ f = cc e in ap (λ (p : FileState). p.kind) s

    go : (a : Bool) → eqb i j ≡ a → (b : Bool)
        → OfKind f.kind (cond (a && b) (Some (meta_with F i (λ q. Is q.kind (size q) (links q)))) None)
    go false e b = tt
    go true e false = tt
    go true e true = here (F i) (ap F (eqb-true i j e) ∙ is)

dropped-kind : (F : Files) (i : ℕ) (link : BackLink) (f : FileState) → F i ≡ Some f
    → OfKind f.kind (Some (drop_meta F i link))
dropped-kind F i link f is = here (F i) is
  where
    either : (b : Bool) (q : FileState) (size : ℕ) (links : List BackLink)
        → OfKind q.kind (Some (cond b Gone (Is q.kind size links)))
    either true q size links = tt
    either false q size links = refl

    here : (o : Option FileState) → o ≡ Some f → OfKind f.kind
        (Some (elim o [
          | None ↦ Gone
          | Some q ↦ cond (not (is_special i) && not (list_any (λ l. is_pair F i l) (without_link link q.links))) Gone
              (Is q.kind q.size (without_link link q.links))
        ]))
    here None e = tt
    here (Some q) e =
        let s : q ≡ f = cc e in
        subst (λ (k : FileKind). OfKind k
        (Some (cond (not (is_special i) && not (list_any (λ l. is_pair F i l) (without_link link q.links))) Gone
        (Is q.kind q.size (without_link link q.links)))))
        (ap (λ (p : FileState). p.kind) s)
        (either (not (is_special i) && not (list_any (λ l. is_pair F i l) (without_link link q.links))) q q.size
        (without_link link q.links))

module _ (W : World) (c : Claims) where
  pub given-kind : (s : Step) → IsClaim W s c → (j : ℕ) (f : FileState) → W.files j ≡ Some f
      → OfKind f.kind ((gives W.files s c).metas j f.generation)
  unfolding gives
  given-kind (step.Put i g k at bytes) claim j f is = changed W.files i g j f.generation _ (λ q. q.links) f is
  given-kind (step.Resize i g size) claim j f is = changed W.files i g j f.generation (λ q. size) (λ q. q.links) f is
  given-kind (step.Make d g name kind) claim j f is = go (place_for W.files d name)
    where
      go : (o : Option ℕ)
          → OfKind f.kind ((at_place o (λ e. make_given W.files d g name kind c e)).metas j f.generation)
      go None = tt
      go (Some e) = let z = ne_eqb j c.inode (other-inode W d g name kind c j f claim is) in rw z tt
  given-kind (step.Link d g name i of) claim j f is = go (place_for W.files d name) (link_place W.files i)
    where
      go : (o p : Option ℕ) → OfKind f.kind
          ((at_place o (λ e. at_place p (λ b. link_given W.files d g name i of e b))).metas j f.generation)
      go None p = tt
      go (Some e) None = tt
      go (Some e) (Some b) =
          changed W.files i of j f.generation (λ q. q.size) (λ q. set_link q.links b (link_to d e g)) f is
  given-kind (step.Rename d g old new) claim j f is = go (found W.files d old)
    where
      entry : (e : ℕ) (o : Option Entry)
          → entry_at W.files d e ≡ o → OfKind f.kind ((rename_given W.files d g new e).metas j f.generation)
      entry e None eo = rw (eo, rename_given) tt
      entry e (Some x) eo = rw (eo, rename_given) tt

      go : (o : Option ℕ) → OfKind f.kind ((at_place o (λ e. rename_given W.files d g new e)).metas j f.generation)
      go None = tt
      go (Some e) = entry e (entry_at W.files d e) refl
  given-kind (step.Drop d g name) claim j f is = go (found W.files d name)
    where
      here : (e : ℕ) (x : Entry) (a : Bool) → eqb x.inode j ≡ a → (b : Bool)
          → OfKind f.kind (cond (a && b) (Some (drop_meta W.files x.inode (link_to d e g))) None)
      here e x false q b = tt
      here e x true q false = tt
      here e x true q true = dropped-kind W.files x.inode (link_to d e g) f (ap W.files (eqb-true x.inode j q) ∙ is)

      entry : (e : ℕ) (o : Option Entry)
          → entry_at W.files d e ≡ o → OfKind f.kind ((drop_given W.files d g e).metas j f.generation)
      entry e None eo = rw (eo, drop_given) tt
      entry e (Some x) eo = rw (eo, drop_given) (here e x (eqb x.inode j) refl (eqb x.generation f.generation))

      go : (o : Option ℕ) → OfKind f.kind ((at_place o (λ e. drop_given W.files d g e)).metas j f.generation)
      go None = tt
      go (Some e) = entry e (entry_at W.files d e) refl
  given-kind _ claim j f is = tt

  pub meta-kind : (s : Step) → IsClaim W s c → (j : ℕ) (f : FileState) → W.files j ≡ Some f
      → (kind : FileKind) (size : ℕ) (links : List BackLink)
      → (gives W.files s c).metas j f.generation ≡ Some (Is kind size links) → kind ≡ f.kind
  meta-kind s claim j f is kind size links h =
      of-kind f.kind kind size links ((gives W.files s c).metas j f.generation) (given-kind s claim j f is) h
