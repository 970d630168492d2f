-- What a step leaves of the links of directories: each that no Drop clears stays.
use Rattle.std.proofs.Common.{◌≡◌, ℕ, suc, ◌/◌, Bool, true, false, cond, eqb, ◌&&◌, ◌||◌, not, List, [], ◌∷◌, Option}
use Rattle.std.proofs.Common.{Some, None, refl, sym, ap, ◌∙◌, subst, Contains, eqb-true, eq-eqb}
use Rattle.std.specs.List.{list_any}
use Rattle.nofs_inode.specs.declared.inode.BackLink.{BackLink}
use Rattle.nofs_dirent.specs.declared.entry.Entry.{Entry}
use Rattle.nofs_inode.specs.declared.inode.FileKind.TheVariants.{Directory as Folder}
use Rattle.nofs_model.specs.Files.{Files, FileState, Agreed, root, linked, entry_at, entry_held, is_a, is_pair, is_root}
use Rattle.nofs_model.specs.Files.{is_special, links_of}
use Rattle.nofs_model.specs.declared.image.value.Value.{Value}
use Rattle.nofs_history.specs.Meta.{Gone, Is}
use Rattle.nofs_history.specs.Machine.{Given, gives, found, drop_given, drop_meta, same_link, link_to, without_link}
use Rattle.nofs_history.specs.Machine.{filled, files_after, given_by, is_refused}
use Rattle.nofs_history.specs.World.{World}
use Rattle.nofs_history.specs.Next.{Next}
use Rattle.nofs_history.specs.declared.machine.history.Claims.{Claims}
use Rattle.nofs_history.specs.declared.machine.history.Entry1.{Entry1}
use Rattle.nofs_history.specs.declared.machine.steps.Step.{Step}
use Rattle.nofs_history.specs.declared.machine.steps.Step.TheVariants as step
use Rattle.nofs_crashlaw.proofs.OnNames.Premises.{drop-gives}
use Rattle.nofs_crashlaw.specs.Runs.Pairs.{HasAt, Filled, is_drop, IsDirectory}
use Rattle.nofs_crashlaw.proofs.OnRuns.Places.{at-contains, contains-at}
use Rattle.nofs_crashlaw.proofs.OnRuns.Acts.{accepted-acts, files-next, Acts, Idle, Acting, acts}
use Rattle.nofs_crashlaw.proofs.OnRuns.Gives.{folder-metas, not-born}
use Rattle.nofs_crashlaw.proofs.OnRuns.PairEntries.{Kept, Same, Renamed, Dropped}
use Rattle.nofs_crashlaw.proofs.OnRuns.PairLinks.{not-empty-link}
use Rattle.nofs_crashlaw.proofs.OnRuns.Links.{IsSane, Linked, linked-pair, pair-linked, linked-filled}
use Rattle.nofs_crashlaw.proofs.OnRuns.Links.{directory-after, step-linked}
use Rattle.nofs_crashlaw.proofs.OnRuns.Chains.{linked-kept, Names, names-only, chain-guard, root-folder}
use Rattle.nofs_crashlaw.proofs.OnRuns.Sane.{after}

pub root-is : (F : Files) → IsDirectory F 1 1 → is_root F 1 ≡ true
root-is F d =
    let k = d.folder in
    let g = eq-eqb d.file.generation 1 d.generation in
    let a : is_a Folder 1 (F 1) ≡ true = ap (λ (o : Option FileState). is_a Folder 1 o) d.is ∙ (rw (k, g) refl) in
    rw a refl

pub links-are : (F : Files) (i : ℕ) (f : FileState) → F i ≡ Some f → links_of F i ≡ f.links
links-are F i f is = ap (λ (o : Option FileState). elim o [ None ↦ [] | Some q ↦ q.links ]) is

module _ (W V : World) (e : Entry1) (sane : IsSane W) (next : Next W e V) where
  -- what is given where the entry was accepted
  pub done : is_refused e.reply ≡ false → V.files ≡ files_after W.files (gives W.files e.step e.claims)
  done ok = files-next W V e next
      ∙ ap (λ (b : Bool). cond b W.files (files_after W.files (gives W.files e.step e.claims))) ok

  pub refused : is_refused e.reply ≡ true → V.files ≡ W.files
  refused failed = files-next W V e next
      ∙ ap (λ (b : Bool). cond b W.files (files_after W.files (gives W.files e.step e.claims))) failed

  -- a directory stays, but for a Drop of an empty one
  pub directory-next : (i g : ℕ) → IsDirectory W.files i g → (is_drop e.step ≡ true → Filled W.files i)
      → IsDirectory V.files i g
  directory-next i g dir safe = go (is_refused e.reply) refl
    where
      go : (b : Bool) → is_refused e.reply ≡ b → IsDirectory V.files i g
      go true failed = subst (λ (F : Files). IsDirectory F i g) (sym (refused failed)) dir
      go false ok =
          let a = accepted-acts W V e next ok in
          let none = ap (λ (q : ℕ). (gives W.files e.step e.claims).metas i q) (sym dir.generation)
          ∙ folder-metas W V e.claims e.step a.0 a.1 i dir.file dir.is dir.folder safe in
          let file = directory-after W.files (gives W.files e.step e.claims) i g dir
          (not-born W V e.claims e.step a.1 i dir.file dir.is) none in
          subst (λ (F : Files). IsDirectory F i g) (sym (done ok))
          (record {
            file = filled (gives W.files e.step e.claims) i dir.file;
            is = file;
            generation = dir.generation;
            folder = dir.folder;
          })

  -- a link that stays, below a chain that stays, is a chain
  pub from-link : (E : Entry → Type 0) (i g b : ℕ) (link : BackLink)
      → is_special i ≡ false → Linked E V.files i g b link → Agreed V.files link.directory
      → Agreed V.files i
  from-link E i g b link plain l up =
      linked link plain (subst (λ (ls : List BackLink). Contains ls link) (sym (links-are V.files i l.file l.is))
      (at-contains l.file.links b link l.at))
      (linked-pair E V.files i g b link l) up

  -- and so is a chain
  pub agreed-next : (i g : ℕ) → Agreed W.files i → IsDirectory W.files i g → (is_drop e.step ≡ true → Filled W.files i)
      → Agreed V.files i
  agreed-next i g (root r) dir safe =
      let one = root-folder W.files i g r dir in
      let d = directory-next i g dir safe in
      subst (λ (j : ℕ). Agreed V.files j) (sym one.0) (root
      (root-is V.files
      (subst (λ (q : ℕ). IsDirectory V.files 1 q) one.1 (subst (λ (j : ℕ). IsDirectory V.files j g) one.0 d))))
  agreed-next i g (linked link plain has pair up) dir safe =
      let at = contains-at dir.file.links link
      (subst (λ (ls : List BackLink). Contains ls link) (links-are W.files i dir.file dir.is) has) in
      let l = pair-linked W.files i g at.0 dir.file link dir.is dir.generation at.1 pair in
      let guard = chain-guard W V e i g at.0 link sane next l dir safe in
      let k = step-linked (λ x. Names i g x) W V e i g at.0 link
      (names-only i g) sane next l guard.undropped guard.keeps in
      from-link (λ x. Names i g x) i g at.0 link plain k (agreed-next link.directory link.generation up l.parent
      (λ q. linked-filled (λ x. Names i g x) W.files i g at.0 link l))

  -- a link that no Drop takes away stays
  pub link-next : (i g b : ℕ) (link : BackLink) → (l : Linked (λ x. Names i g x) W.files i g b link)
      → ((of : ℕ) (name : List ℕ) → e.step ≡ step.Drop link.directory of name
      → found W.files link.directory name ≡ Some link.entry → ⊥)
      → Linked (λ x. Names i g x) V.files i g b link
  link-next i g b link l undropped = step-linked (λ x. Names i g x) W V e i g b link (names-only i g) sane next l
      (λ V' same clear claim. undropped) keeps
    where
      keeps : (v : Value) → (given_by W.files e).slots link.directory link.generation (link.entry / 16) ≡ Some v
          → (x : Entry) × (entry_held v link.entry ≡ Some x) × Names i g x
      keeps v h = by (acts W V e next)
        where
          kept : Kept W.files e.step link.directory link.entry l.entry v
              → (x : Entry) × (entry_held v link.entry ≡ Some x) × Names i g x
          kept (Same same) = (l.entry, same, l.passes)
          kept (Renamed of old new es ef same) =
              (record { inode = l.entry.inode; generation = l.entry.generation; name = new }, same, l.passes)
          kept (Dropped of name es ef) = absurd (undropped of name es ef)

          by : Acts W e → (x : Entry) × (entry_held v link.entry ≡ Some x) × Names i g x
          by (Idle same) =
              absurd (let z : (given_by W.files e).slots link.directory link.generation (link.entry / 16) ≡ None =
              ap (λ (x : Given). x.slots link.directory link.generation (link.entry / 16)) same in cc (z, h))
          by (Acting V' same clear claim) =
              kept (linked-kept (λ x. Names i g x) W V' e i g b link sane l same clear claim l v h)

  -- and its file is agreed
  pub kept-link : (i g b : ℕ) (link : BackLink)
      → is_special i ≡ false → (l : Linked (λ x. Names i g x) W.files i g b link)
      → ((of : ℕ) (name : List ℕ) → e.step ≡ step.Drop link.directory of name
      → found W.files link.directory name ≡ Some link.entry → ⊥)
      → Agreed W.files link.directory → Agreed V.files i
  kept-link i g b link plain l undropped up =
      from-link (λ x. Names i g x) i g b link plain (link-next i g b link l undropped)
      (agreed-next link.directory link.generation up l.parent
      (λ q. linked-filled (λ x. Names i g x) W.files i g b link l))

-- A Drop of one link of several

-- a link that passes and is not the one that is cleared
left-link : (p : BackLink → Bool) (gone : BackLink) → p (link_to 0 0 0) ≡ false → (ls : List BackLink)
    → list_any p (without_link gone ls) ≡ true
    → (b : ℕ) × (l : BackLink) × HasAt ls b l × (p l ≡ true) × (same_link l gone ≡ false)
left-link p gone none [] e = cc e
left-link p gone none (x ∷ ls) e = go (same_link x gone) refl (p x) refl (left-link p gone none ls) e
  where
    go : (s : Bool) → same_link x gone ≡ s → (t : Bool) → p x ≡ t
        → (list_any p (without_link gone ls) ≡ true → (b : ℕ) × (l : BackLink) × HasAt ls b l × (p l ≡ true)
        × (same_link l gone ≡ false))
        → (p (cond s (link_to 0 0 0) x) || list_any p (without_link gone ls)) ≡ true
        → (b : ℕ) × (l : BackLink) × HasAt (x ∷ ls) b l × (p l ≡ true) × (same_link l gone ≡ false)
    go true es t et ih h = let r = ih (sym (ap (λ (b : Bool). b || list_any p (without_link gone ls)) none) ∙ h) in
        (suc r.0, r.1, r.2, r.3, r.4)
    go false es true et ih h = (0, x, refl, et, es)
    go false es false et ih h = let r = ih (sym (ap (λ (b : Bool). b || list_any p (without_link gone ls)) et) ∙ h) in
        (suc r.0, r.1, r.2, r.3, r.4)

abbrev pub directory-of : Step → ℕ
directory-of (step.Drop d g name) = d
directory-of _ = 0

abbrev pub name-of : Step → List ℕ
name-of (step.Drop d g name) = name
name-of _ = []

-- whether a step drops this entry
pub data Drops (F : Files) (s : Step) (d p : ℕ) : Type 0 where
  Yes : (of : ℕ) (name : List ℕ) → s ≡ step.Drop d of name → found F d name ≡ Some p → Drops F s d p
  No : ((of : ℕ) (name : List ℕ) → s ≡ step.Drop d of name → found F d name ≡ Some p → ⊥) → Drops F s d p

pub drops : (F : Files) (s : Step) (d p : ℕ) → Drops F s d p
drops F (step.Drop dir g nm) d p = go (eqb dir d) refl (found F dir nm) refl
  where
    go : (b : Bool) → eqb dir d ≡ b → (o : Option ℕ) → found F dir nm ≡ o → Drops F (step.Drop dir g nm) d p
    go false eb o eo =
        No (λ of name es ef. let q : dir ≡ d = ap directory-of es in let z = eq-eqb dir d q in cc (eb, z))
    go true eb None eo = No (λ of name es ef. let q : dir ≡ d = ap directory-of es in
        let n : nm ≡ name = ap name-of es in cc (eo, ef, q, n))
    go true eb (Some k) eo = at (eqb k p) refl
      where
        at : (t : Bool) → eqb k p ≡ t → Drops F (step.Drop dir g nm) d p
        at true et = Yes g nm (ap (λ (j : ℕ). step.Drop j g nm) (eqb-true dir d eb))
            (sym (ap (λ (j : ℕ). found F j nm) (eqb-true dir d eb)) ∙ eo ∙ ap Some (eqb-true k p et))
        at false et = No (λ of name es ef.
            let q : dir ≡ d = ap directory-of es in
            let n : nm ≡ name = ap name-of es in
            let same : Some k ≡ Some p = sym eo ∙ ap (λ (j : ℕ). found F j nm) q ∙ ap (found F d) n ∙ ef in
            let y : k ≡ p = cc same in
            let z = eq-eqb k p y in cc (et, z))
drops F (step.Look d g name) dir p = No (λ of n es ef. cc es)
drops F (step.Make d g name kind) dir p = No (λ of n es ef. cc es)
drops F (step.Link d g name i o) dir p = No (λ of n es ef. cc es)
drops F (step.Rename d g old new) dir p = No (λ of n es ef. cc es)
drops F (step.List d g slot) dir p = No (λ of n es ef. cc es)
drops F (step.Get i g k) dir p = No (λ of n es ef. cc es)
drops F (step.Put i g k a bytes) dir p = No (λ of n es ef. cc es)
drops F (step.Resize i g size) dir p = No (λ of n es ef. cc es)
drops F (step.Stat i g) dir p = No (λ of n es ef. cc es)
drops F (step.Flush i g) dir p = No (λ of n es ef. cc es)
drops F (step.SeeInode i) dir p = No (λ of n es ef. cc es)
drops F (step.SeeBlock q) dir p = No (λ of n es ef. cc es)

-- a Drop after which the file is there leaves it another pair
pub other-link : (W V : World) (c : Claims) (d of p : ℕ) (name : List ℕ) (x : Entry) (f : FileState)
    → W.files 0 ≡ None → found W.files d name ≡ Some p
    → entry_at W.files d p ≡ Some x → W.files x.inode ≡ Some f
    → x.generation ≡ f.generation → is_special x.inode ≡ false
    → ((gives W.files (step.Drop d of name) c).metas x.inode f.generation ≡ Some Gone → ⊥)
    → (b : ℕ) × (l : BackLink) × HasAt f.links b l × (is_pair W.files x.inode l ≡ true)
    × (same_link l (link_to d p of) ≡ false)
other-link W V c d of p name x f bottom ef ex is gen plain alive =
    left-link (λ l. is_pair W.files x.inode l) (link_to d p of)
    (empty (is_pair W.files x.inode (link_to 0 0 0)) refl) f.links
    (go (list_any (λ l. is_pair W.files x.inode l) (without_link (link_to d p of) f.links)) refl)
  where
    empty : (b : Bool) → is_pair W.files x.inode (link_to 0 0 0) ≡ b → is_pair W.files x.inode (link_to 0 0 0) ≡ false
    empty false e = e
    empty true e = absurd (not-empty-link W.files x.inode (link_to 0 0 0) bottom e refl)

    metas : (gives W.files (step.Drop d of name) c).metas x.inode f.generation
        ≡ Some (drop_meta W.files x.inode (link_to d p of))
    metas =
        let a = eq-eqb x.inode x.inode refl in
        let b = eq-eqb x.generation f.generation gen in
        ap (λ (y : Given). y.metas x.inode f.generation) (drop-gives W.files d of name c p ef) ∙ given a b
      where
        given : eqb x.inode x.inode ≡ true → eqb x.generation f.generation ≡ true
            → (drop_given W.files d of p).metas x.inode f.generation ≡ Some (drop_meta W.files x.inode (link_to d p of))
        given a b = rw (ex, drop_given) (rw (a, b) refl)

    go : (t : Bool) → list_any (λ l. is_pair W.files x.inode l) (without_link (link_to d p of) f.links) ≡ t
        → list_any (λ l. is_pair W.files x.inode l) (without_link (link_to d p of) f.links) ≡ true
    go true e = e
    go false e = absurd (alive (metas ∙ ap Some (gone (W.files x.inode) is)))
      where
        gone : (o : Option FileState) → o ≡ Some f → elim o [
          | None ↦ Gone
          | Some q ↦ cond (not (is_special x.inode)
              && not (list_any (λ l. is_pair W.files x.inode l) (without_link (link_to d p of) q.links))) Gone
              (Is q.kind q.size (without_link (link_to d p of) q.links))
        ] ≡ Gone
        gone None h = refl
        gone (Some q) h =
            let s : f ≡ q = cc h in
            let e' : list_any (λ l. is_pair W.files x.inode l) (without_link (link_to d p of) q.links) ≡ false =
            subst (λ (y : FileState). list_any (λ l. is_pair W.files x.inode l)
            (without_link (link_to d p of) y.links) ≡ false) s e in
            rw (plain, e') refl
