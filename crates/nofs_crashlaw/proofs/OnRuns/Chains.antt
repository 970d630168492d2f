-- Back links along a run: each that no entry changes stays, and so does a chain of directories.
use Rattle.std.proofs.Common.{◌≡◌, ℕ, zero, suc, ◌+◌, ◌-◌, ◌/◌, ◌<◌, ◌≤◌, Bool, true, false, eqb, ◌||◌, not, List}
use Rattle.std.proofs.Common.{Option, Some, None, refl, sym, ap, ◌∙◌, subst, arith, eqb-true, eq-eqb}
use Rattle.std.specs.Prelude.{slice_get}
use Rattle.nofs_inode.specs.declared.inode.FileKind.TheVariants.{File, Directory as Folder}
use Rattle.nofs_inode.specs.declared.inode.BackLink.{BackLink}
use Rattle.nofs_dirent.specs.declared.entry.Entry.{Entry}
use Rattle.nofs_model.specs.Geometry.{Image}
use Rattle.nofs_model.specs.Files.{Files, FileState, is_folder, entry_at, entry_held, is_a, is_root}
use Rattle.nofs_model.specs.declared.image.value.Value.{Value}
use Rattle.nofs_model.proofs.OnSlots.Find.{and-both}
use Rattle.nofs_history.specs.Search.{first_of}
use Rattle.nofs_history.specs.Machine.{Given, gives, found, drop_given, given_by}
use Rattle.nofs_history.specs.Since.{agreed_files}
use Rattle.nofs_history.specs.World.{World}
use Rattle.nofs_history.specs.Refusals.{rows}
use Rattle.nofs_history.specs.Claims.{IsClaim}
use Rattle.nofs_history.specs.Next.{Next, Run}
use Rattle.nofs_history.specs.declared.machine.history.Claims.{Claims}
use Rattle.nofs_history.specs.declared.machine.history.Entry1.{Entry1}
use Rattle.nofs_history.specs.declared.machine.steps.Step.{Step}
use Rattle.nofs_history.specs.declared.machine.steps.Step.TheVariants as step
use Rattle.nofs_crashlaw.proofs.OnNames.Premises.{drop-gives}
use Rattle.nofs_crashlaw.specs.Runs.Pairs.{Filled, is_drop, IsDirectory}
use Rattle.nofs_crashlaw.specs.Runs.Laws.{files_before}
use Rattle.nofs_crashlaw.proofs.OnRuns.Acts.{Acts, Idle, Acting, acts}
use Rattle.nofs_crashlaw.proofs.OnRuns.Gives.{folder-metas}
use Rattle.nofs_crashlaw.proofs.OnRuns.PairEntries.{Spelled, Kept, Same, Renamed, Dropped, slot-kept}
use Rattle.nofs_crashlaw.proofs.OnRuns.Links.{IsSane, Linked, linked-paired, Stays, NamesOnly, step-stays, step-linked}
use Rattle.nofs_crashlaw.proofs.OnRuns.Entries.{Moment, run-moment, files-after}

-- what an entry needs so that the link stays over it: no Drop of its entry is done, and a cell for its slot has an
-- entry that passes
pub record Guard (E : Entry → Type 0) (W : World) (e : Entry1) (link : BackLink) : Type 0 where
  pub undropped : (V : World) → given_by W.files e ≡ gives W.files e.step e.claims
      → first_of (rows W V e.step) ≡ None → IsClaim W e.step e.claims
      → (of : ℕ) (name : List ℕ) → e.step ≡ step.Drop link.directory of name
      → found W.files link.directory name ≡ Some link.entry → ⊥
  pub keeps : (v : Value) → (given_by W.files e).slots link.directory link.generation (link.entry / 16) ≡ Some v
      → (x : Entry) × (entry_held v link.entry ≡ Some x) × E x

-- what becomes of the entry of a link, where a cell is given to its slot
pub linked-kept : (E : Entry → Type 0) (W V : World) (e : Entry1) (i g b : ℕ) (link : BackLink) → IsSane W
    → Linked E W.files i g b link
    → given_by W.files e ≡ gives W.files e.step e.claims → first_of (rows W V e.step) ≡ None → IsClaim W e.step e.claims
    → (l : Linked E W.files i g b link) → (v : Value)
    → (given_by W.files e).slots link.directory link.generation (link.entry / 16) ≡ Some v
    → Kept W.files e.step link.directory link.entry l.entry v
linked-kept E W V e i g b link sane _ same row claim l v h =
    let p = linked-paired E W.files i g b link l in
    let own = sane.numbers i l.file l.is in
    let numbers : Spelled l.entry.inode l.entry.generation =
    subst (λ (n : ℕ). Spelled n l.entry.generation) (sym l.names_inode)
    (subst (λ (n : ℕ). Spelled i n) (l.generation ∙ sym l.names_generation) own) in
    let h' : (gives W.files e.step e.claims).slots link.directory l.parent.file.generation (link.entry / 16) ≡ Some v =
    ap (λ (q : ℕ). (gives W.files e.step e.claims).slots link.directory q (link.entry / 16)) l.parent.generation
    ∙ ap (λ (x : Given). x.slots link.directory link.generation (link.entry / 16)) (sym same) ∙ h in
    slot-kept W V e.claims link.directory link.entry l.parent.file l.entry l.parent.is l.there p
    (sane.whole link.directory l.parent.file l.parent.is l.parent.folder (link.entry / 16)) numbers
    e.step row claim v h'

-- The links of a chain of directories

-- a Drop gives a meta to the file of its entry
drop-gives-meta : (F : Files) (d of : ℕ) (name : List ℕ) (c : Claims) (p : ℕ) (x : Entry) → found F d name ≡ Some p
    → entry_at F d p ≡ Some x
    → (gives F (step.Drop d of name) c).metas x.inode x.generation ≡ None → ⊥
drop-gives-meta F d of name c p x ef ex none =
    let a : (drop_given F d of p).metas x.inode x.generation ≡ None =
    sym (ap (λ (y : Given). y.metas x.inode x.generation) (drop-gives F d of name c p ef)) ∙ none in
    let i = eq-eqb x.inode x.inode refl in
    let g = eq-eqb x.generation x.generation refl in
    cc (rw (ex, drop_given, i, g) at a)

-- what passes is an entry that names (i, g)
abbrev pub Names : ℕ → ℕ → Entry → Type 0
Names i g x = (x.inode ≡ i) × (x.generation ≡ g)

pub names-only : (i g : ℕ) → NamesOnly (λ x. Names i g x) i g
names-only i g x h = h

-- no entry changes the link to a directory that is not empty, and no entry but a Drop the link to one that is, but for
-- the name
pub chain-guard : (W V : World) (e : Entry1) (i g b : ℕ) (link : BackLink) → IsSane W → Next W e V
    → Linked (λ x. Names i g x) W.files i g b link
    → IsDirectory W.files i g → (is_drop e.step ≡ true → Filled W.files i) → Guard (λ x. Names i g x) W e link
chain-guard W V e i g b link sane next l dir full = record { undropped = λ V' same. undropped V'; keeps = keeps }
  where
    undropped : (V' : World) → first_of (rows W V' e.step) ≡ None → IsClaim W e.step e.claims → (of : ℕ) (name : List ℕ)
        → e.step ≡ step.Drop link.directory of name → found W.files link.directory name ≡ Some link.entry → ⊥
    undropped V' row claim of name es ef =
        let none = folder-metas W V' e.claims e.step row claim i dir.file dir.is dir.folder full in
        let none' : (gives W.files (step.Drop link.directory of name) e.claims).metas i dir.file.generation ≡ None =
        subst (λ (s : Step). (gives W.files s e.claims).metas i dir.file.generation ≡ None) es none in
        let at : (gives W.files (step.Drop link.directory of name) e.claims).metas l.entry.inode
        l.entry.generation ≡ None =
        ap (λ (j : ℕ). (gives W.files (step.Drop link.directory of name) e.claims).metas j l.entry.generation)
        l.names_inode
        ∙ ap (λ (q : ℕ). (gives W.files (step.Drop link.directory of name) e.claims).metas i q)
        (l.names_generation ∙ sym dir.generation) ∙ none' in
        drop-gives-meta W.files link.directory of name e.claims link.entry l.entry ef l.there at

    keeps : (v : Value) → (given_by W.files e).slots link.directory link.generation (link.entry / 16) ≡ Some v
        → (x : Entry) × (entry_held v link.entry ≡ Some x) × Names i g x
    keeps v h = by (acts W V e next)
      where
        kept : (V' : World) → first_of (rows W V' e.step) ≡ None → IsClaim W e.step e.claims
            → Kept W.files e.step link.directory link.entry l.entry v
            → (x : Entry) × (entry_held v link.entry ≡ Some x) × Names i g x
        kept V' row claim (Same same) = (l.entry, same, l.passes)
        kept V' row claim (Renamed of old new es ef same) =
            (record { inode = l.entry.inode; generation = l.entry.generation; name = new }, same, l.passes)
        kept V' row claim (Dropped of name es ef) = absurd (undropped V' row claim of name es ef)

        by : Acts W e → (x : Entry) × (entry_held v link.entry ≡ Some x) × Names i g x
        by (Idle same) =
            absurd (let z : (given_by W.files e).slots link.directory link.generation (link.entry / 16) ≡ None =
            ap (λ (x : Given). x.slots link.directory link.generation (link.entry / 16)) same in cc (z, h))
        by (Acting V' same row claim) =
            kept V' row claim (linked-kept (λ x. Names i g x) W V' e i g b link sane l same row claim l v h)

-- the root is a directory of generation 1
pub root-folder : (F : Files) (i g : ℕ) → is_root F i ≡ true → IsDirectory F i g → (i ≡ 1) × (g ≡ 1)
root-folder F i g r d = go (eqb i 1) refl (eqb i 2) refl
  where
    is-folder : (o : Option FileState) → o ≡ Some d.file → is_a File 2 o ≡ true → ⊥
    is-folder None e h = cc
    is-folder (Some f) e h =
        let s : f ≡ d.file = cc e in
        let k : is_folder f.kind ≡ true = ap (λ (q : FileState). is_folder q.kind) s ∙ d.folder in
        let a = and-both (not (is_folder f.kind)) (eqb f.generation 2) h in
        let z : not (is_folder f.kind) ≡ false = ap not k in
        let y = a.0 in cc (z, y)

    first : (o : Option FileState) → o ≡ Some d.file → is_a Folder 1 o ≡ true → g ≡ 1
    first None e h = cc
    first (Some f) e h =
        let s : f ≡ d.file = cc e in
        let a = and-both (is_folder f.kind) (eqb f.generation 1) h in
        sym d.generation ∙ sym (ap (λ (q : FileState). q.generation) s) ∙ eqb-true f.generation 1 a.1

    go : (a : Bool) → eqb i 1 ≡ a → (b : Bool) → eqb i 2 ≡ b → (i ≡ 1) × (g ≡ 1)
    go true ea true eb = absurd (let x = eqb-true i 1 ea in let y = eqb-true i 2 eb in omega (arith, x, y))
    go true ea false eb =
        let x = eqb-true i 1 ea in
        let h : (is_a Folder 1 (F 1) || false) ≡ true = rw (ea, eb) at r in
        (x, first (F 1) (ap F (sym x) ∙ d.is) (either (is_a Folder 1 (F 1)) h))
      where
        either : (t : Bool) → (t || false) ≡ true → t ≡ true
        either true e = refl
        either false e = cc e
    go false ea true eb = let x = eqb-true i 2 eb in absurd (is-folder (F 2) (ap F (sym x) ∙ d.is) (rw (ea, eb) at r))
    go false ea false eb = cc (rw (ea, eb) at r)

-- Along a run

-- a run of sane worlds over a base
pub record SaneRun (B : Image) (H : List Entry1) : Type 0 where
  pub start : ℕ
  pub first : World
  pub last : World
  pub run : Run start first H last
  pub files : first.files ≡ agreed_files B
  pub sane : IsSane first
  pub keeps : (W V : World) (e : Entry1) → Next W e V → IsSane W → IsSane V

pub moment-at : (B : Image) (H : List Entry1) → SaneRun B H → (p : ℕ) (e : Entry1) → slice_get H p ≡ Some e
    → Moment (λ W. IsSane W) (agreed_files B) H p e
moment-at B H r p e at = subst (λ (F : Files). Moment (λ W. IsSane W) F H p e) r.files
    (run-moment (λ W. IsSane W) r.keeps H r.start r.first r.last r.run r.sane p e at)

module _ (B : Image) (H : List Entry1) (r : SaneRun B H) (s n : ℕ)
    (reach : (p : ℕ) → p < n → (e : Entry1) × (slice_get H p ≡ Some e))
    (E : Entry → Type 0) (i g b : ℕ) (link : BackLink) (only : NamesOnly E i g)
    (l : Linked E (files_before B H s) i g b link)
    (each : (p : ℕ) (e : Entry1) → s ≤ p → p < n → slice_get H p ≡ Some e → (W V : World) → W.files ≡ files_before B H p
    → IsSane W → Next W e V
    → Linked E W.files i g b link → Guard E W e link) where
  from-start : (k : ℕ) → s + k ≤ n → Linked E (files_before B H (s + k)) i g b link
  from-start zero le = let e : s ≡ s + 0 = omega arith in
      subst (λ (p : ℕ). Linked E (files_before B H p) i g b link) e l
  from-start (suc k) le =
      let ih = from-start k (omega (arith, le)) in
      let at = reach (s + k) (omega (arith, le)) in
      let m = moment-at B H r (s + k) at.0 at.1 in
      let here : Linked E m.before.files i g b link = subst (λ (F : Files). Linked E F i g b link) (sym m.files) ih in
      let guard = each (s + k) at.0 (omega arith)
      (omega (arith, le)) at.1 m.before m.after m.files m.sane m.next here in
      let done = step-linked E m.before m.after at.0 i g b link only m.sane m.next here guard.undropped guard.keeps in
      let next : Linked E (files_before B H (suc (s + k))) i g b link =
      subst (λ (F : Files). Linked E F i g b link)
      (files-after (λ W. IsSane W) r.keeps (agreed_files B) H (s + k) at.0 at.1 m) done in
      let e : suc (s + k) ≡ s + suc k = omega arith in
      subst (λ (p : ℕ). Linked E (files_before B H p) i g b link) e next

  pub linked-along : (p : ℕ) → s ≤ p → p ≤ n → Linked E (files_before B H p) i g b link
  linked-along p low high =
      let e : s + (p - s) ≡ p = omega (arith, low) in
      subst (λ (q : ℕ). Linked E (files_before B H q) i g b link) e (from-start (p - s) (omega (arith, e, high)))

  pub stays-along : (p : ℕ) (e : Entry1) → s ≤ p → p < n → slice_get H p ≡ Some e
      → Stays E (given_by (files_before B H p) e) i g b link
  stays-along p e low high at =
      let m = moment-at B H r p e at in
      let here : Linked E m.before.files i g b link =
      subst (λ (F : Files). Linked E F i g b link) (sym m.files) (linked-along p low (omega (arith, high))) in
      let guard = each p e low high at m.before m.after m.files m.sane m.next here in
      subst (λ (F : Files). Stays E (given_by F e) i g b link) m.files
      (step-stays E m.before m.after e i g b link only m.sane m.next here guard.undropped guard.keeps)
