-- The entry of a pair, in what a step that no row refuses gives.
use Rattle.std.proofs.Common.{◌≡◌, ◌≢◌, ℕ, ◌/◌, ◌%◌, ◌^◌, ◌<◌, ◌≤◌, Bool, true, false, cond, eqb, ◌&&◌, not, List}
use Rattle.std.proofs.Common.{length, Option, Some, None, refl, sym, ap, ◌∙◌, subst, arith, eqb-true, eq-eqb, ne_eqb}
use Rattle.std.proofs.lemmas.List.{length-replicate}
use Rattle.nofs_dirent.specs.Names.{NameOk, is_name}
use Rattle.nofs_dirent.specs.NameLaws.{is_name-Decides}
use Rattle.nofs_dirent.specs.Entries.{spelled_entry}
use Rattle.nofs_dirent.specs.EntryLaws.{spelled_entry-spells, length-spelled_entry}
use Rattle.nofs_dirent.specs.declared.entry.Entry.{Entry}
use Rattle.nofs_model.specs.Files.{Files, FileState, is_folder, entry_at, entry_held}
use Rattle.nofs_model.specs.declared.image.value.Value.{Value}
use Rattle.nofs_model.specs.declared.image.value.Value.TheVariants.{Lost}
use Rattle.nofs_history.specs.Meta.{Meta}
use Rattle.nofs_history.specs.Search.{first_of}
use Rattle.nofs_history.specs.Machine.{gives, at_place, found, place_for, link_place, make_given, link_given}
use Rattle.nofs_history.specs.Machine.{drop_given, rename_given, entry_given, no_meta}
use Rattle.nofs_history.specs.Machine.{zero_bytes, bytes_in, value_of, with_entry, is_paired}
use Rattle.nofs_history.specs.World.{World}
use Rattle.nofs_history.specs.Refusals.{bad_name, rows}
use Rattle.nofs_history.specs.Claims.{IsClaim}
use Rattle.nofs_history.specs.declared.machine.history.Claims.{Claims}
use Rattle.nofs_history.specs.declared.machine.steps.Step.{Step}
use Rattle.nofs_history.specs.declared.machine.steps.Step.TheVariants as step
use Rattle.nofs_history.specs.declared.machine.replies.Refusal.TheVariants as refusal
use Rattle.nofs_crashlaw.proofs.OnFiles.Given.{value-of}
use Rattle.nofs_crashlaw.proofs.OnNames.EntryCells.{entry-here, entry-there}
use Rattle.nofs_crashlaw.proofs.OnNames.Renames.{entry-parts}
use Rattle.nofs_crashlaw.proofs.OnNames.Premises.{place-unpaired}
use Rattle.nofs_crashlaw.proofs.OnRuns.Gives.{none-at, row-none, put-elsewhere, resize-elsewhere, other-inode}

-- Cells that a step gives

not-false : (b : Bool) → not b ≡ false → b ≡ true
not-false true e = refl
not-false false e = cc e

-- a name that is not refused
pub good-name : (name : List ℕ) → bad_name name ≡ None → NameOk name
good-name name e = (is_name-Decides name).0 (not-false (is_name name) (row-none (not (is_name name)) refusal.BadName e))

pub short-entry : (i g : ℕ) (name : List ℕ) → bad_name name ≡ None → length (spelled_entry i g name) ≡ 64
short-entry i g name e = length-spelled_entry i g name (good-name name e).short

short-zeros : length (zero_bytes 64) ≡ 64
short-zeros = length-replicate {A = ℕ} 64 0

-- an entry that is given to a slot
pub entry-slot : (F : Files) (d g e : ℕ) (bytes : List ℕ) (metas : ℕ → ℕ → Option Meta) (j h l : ℕ) (v : Value)
    → (entry_given F d g e bytes metas).slots j h l ≡ Some v
    → (d ≡ j) × (e / 16 ≡ l) × (with_entry (value_of F d (e / 16)) e bytes ≡ v)
entry-slot F d g e bytes metas j h l v s = go (eqb d j) refl (eqb g h) (eqb (e / 16) l) refl s
  where
    go : (a : Bool) → eqb d j ≡ a → (b : Bool) (c : Bool) → eqb (e / 16) l ≡ c
        → cond ((a && b) && c) (Some (with_entry (value_of F d (e / 16)) e bytes)) None ≡ Some v
        → (d ≡ j) × (e / 16 ≡ l) × (with_entry (value_of F d (e / 16)) e bytes ≡ v)
    go true ea true true ec q = (eqb-true d j ea, eqb-true (e / 16) l ec, cc q)
    go true ea true false ec q = cc q
    go true ea false c ec q = cc q
    go false ea b c ec q = cc q

-- what becomes of an entry whose slot gets this value
pub data Kept (F : Files) (s : Step) (d e : ℕ) (entry : Entry) (v : Value) : Type 0 where
  Same : entry_held v e ≡ Some entry → Kept F s d e entry v
  Renamed : (of : ℕ) (old new : List ℕ) → s ≡ step.Rename d of old new → found F d old ≡ Some e
      → entry_held v e ≡ Some (record { inode = entry.inode; generation = entry.generation; name = new })
      → Kept F s d e entry v
  Dropped : (of : ℕ) (name : List ℕ) → s ≡ step.Drop d of name → found F d name ≡ Some e → Kept F s d e entry v

-- numbers that an entry can spell
pub record Spelled (i g : ℕ) : Type 0 where
  pub some : 1 ≤ i
  pub small : i < 2 ^ 32
  pub from : 1 ≤ g
  pub below : g < 2 ^ 64

-- the entry that a step spells is read back
pub read-back : (old : Value) (e i g : ℕ) (name : List ℕ) → length (bytes_in old) ≡ 1024 → Spelled i g
    → bad_name name ≡ None
    → entry_held (with_entry old e (spelled_entry i g name)) e
    ≡ Some (record { inode = i; generation = g; name = name })
read-back old e i g name whole n ok = entry-here old e (spelled_entry i g name) whole (short-entry i g name ok)
    ∙ (spelled_entry-spells i g name n.some n.small n.from n.below (good-name name ok)).reads

module _ (W V : World) (c : Claims) (d e : ℕ) (f : FileState) (entry : Entry)
    (is : W.files d ≡ Some f) (at : entry_at W.files d e ≡ Some entry) (paired : is_paired W.files d e ≡ true)
    (whole : length (bytes_in (f.values (e / 16))) ≡ 1024) (numbers : Spelled entry.inode entry.generation) where
  folder : is_folder f.kind ≡ true
  folder = (entry-parts (W.files d) f e entry is at).0

  held : entry_held (f.values (e / 16)) e ≡ Some entry
  held = (entry-parts (W.files d) f e entry is at).2

  beside : (dir g p : ℕ) (bytes : List ℕ) (metas : ℕ → ℕ → Option Meta) (s : Step) (v : Value) → length bytes ≡ 64
      → (entry_given W.files dir g p bytes metas).slots d f.generation (e / 16) ≡ Some v
      → (dir ≡ d → p ≡ e → with_entry (f.values (e / 16)) e bytes ≡ v → Kept W.files s d e entry v)
      → Kept W.files s d e entry v
  beside dir g p bytes metas s v short given here = go (eqb p e) refl
    where
      parts : (dir ≡ d) × (p / 16 ≡ e / 16) × (with_entry (value_of W.files dir (p / 16)) p bytes ≡ v)
      parts = entry-slot W.files dir g p bytes metas d f.generation (e / 16) v given

      content : with_entry (f.values (e / 16)) p bytes ≡ v
      content =
          ap (λ (u : Value). with_entry u p bytes) (sym (value-of W.files d f is (e / 16)))
          ∙ ap (λ (l : ℕ). with_entry (value_of W.files d l) p bytes) (sym parts.1)
          ∙ ap (λ (j : ℕ). with_entry (value_of W.files j (p / 16)) p bytes) (sym parts.0)
          ∙ parts.2

      not-lost : f.values (e / 16) ≢ Lost
      not-lost q = let h = held in
          let z : entry_held (f.values (e / 16)) e ≡ None = ap (λ (u : Value). entry_held u e) q in cc (h, z)

      go : (b : Bool) → eqb p e ≡ b → Kept W.files s d e entry v
      go true q = here parts.0 (eqb-true p e q)
          (sym (ap (λ (k : ℕ). with_entry (f.values (e / 16)) k bytes) (eqb-true p e q)) ∙ content)
      go false q =
          let slot = parts.1 in
          let ne : e % 16 ≢ p % 16 = λ z. let y = eq-eqb p e (omega (arith, slot, z)) in cc (q, y) in
          Same (ap (λ (u : Value). entry_held u e) (sym content)
          ∙ entry-there (f.values (e / 16)) p e bytes whole short not-lost ne ∙ held)

  unpaired : (name : List ℕ) (dir p : ℕ) → place_for W.files dir name ≡ Some p → dir ≡ d → p ≡ e → ⊥
  unpaired name dir p place qd qp = let z = place-unpaired W.files dir name p place in cc (z, paired, qd, qp)

  -- the slot of a pair's entry keeps it, but for a Rename or a Drop of that entry
  pub slot-kept : (s : Step) → first_of (rows W V s) ≡ None → IsClaim W s c
      → (v : Value) → (gives W.files s c).slots d f.generation (e / 16) ≡ Some v
      → Kept W.files s d e entry v
  unfolding gives
  slot-kept (step.Put i g k a bytes) r claim v h =
      absurd (put-elsewhere W V c d f is folder (e / 16) i g k a bytes r v h)
  slot-kept (step.Resize i g size) r claim v h = absurd (resize-elsewhere W V c d f is folder (e / 16) i g size r v h)
  slot-kept (step.Make dir g name kind) r claim v h = go (place_for W.files dir name) refl h
    where
      name-ok : bad_name name ≡ None
      name-ok = none-at (rows W V (step.Make dir g name kind)) r 0 (bad_name name) refl

      go : (o : Option ℕ) → place_for W.files dir name ≡ o
          → (at_place o (λ p. make_given W.files dir g name kind c p)).slots d f.generation (e / 16)
          ≡ Some v → Kept W.files (step.Make dir g name kind) d e entry v
      go None eo q = cc q
      go (Some p) eo q =
          let z = ne_eqb c.inode d (λ t. other-inode W dir g name kind c d f claim is (sym t)) in
          beside dir g p (spelled_entry c.inode c.generation name) no_meta (step.Make dir g name kind) v
          (short-entry c.inode c.generation name name-ok)
          (rw z at q) (λ qd qp w. absurd (unpaired name dir p eo qd qp))
  slot-kept (step.Link dir g name i of) r claim v h = go (place_for W.files dir name) refl (link_place W.files i) h
    where
      name-ok : bad_name name ≡ None
      name-ok = none-at (rows W V (step.Link dir g name i of)) r 0 (bad_name name) refl

      go : (o : Option ℕ) → place_for W.files dir name ≡ o → (l : Option ℕ)
          → (at_place o (λ p. at_place l (λ b. link_given W.files dir g name i of p b))).slots d f.generation
          (e / 16) ≡ Some v
          → Kept W.files (step.Link dir g name i of) d e entry v
      go None eo l q = cc q
      go (Some p) eo None q = cc q
      go (Some p) eo (Some b) q = beside dir g p (spelled_entry i of name) no_meta (step.Link dir g name i of) v
          (short-entry i of name name-ok) q
          (λ qd qp w. absurd (unpaired name dir p eo qd qp))
  slot-kept (step.Rename dir g old new) r claim v h = go (found W.files dir old) refl h
    where
      name-ok : bad_name new ≡ None
      name-ok = none-at (rows W V (step.Rename dir g old new)) r 1 (bad_name new) refl

      here : (p : ℕ) (x : Entry) → found W.files dir old ≡ Some p → entry_at W.files dir p ≡ Some x → dir ≡ d → p ≡ e
          → with_entry (f.values (e / 16)) e (spelled_entry x.inode x.generation new) ≡ v
          → Kept W.files (step.Rename dir g old new) d e entry v
      here p x ep ex qd qp w =
          let same : x ≡ entry = cc (ex, at, qd, qp) in
          let w' : with_entry (f.values (e / 16)) e (spelled_entry entry.inode entry.generation new) ≡ v =
          subst (λ (y : Entry). with_entry (f.values (e / 16)) e (spelled_entry y.inode y.generation new) ≡ v) same w in
          Renamed g old new (ap (λ (j : ℕ). step.Rename j g old new) qd)
          (sym (ap (λ (j : ℕ). found W.files j old) qd) ∙ ep ∙ ap Some qp)
          (ap (λ (u : Value). entry_held u e) (sym w')
          ∙ read-back (f.values (e / 16)) e entry.inode entry.generation new whole numbers name-ok)

      by : (p : ℕ) → found W.files dir old ≡ Some p → (o : Option Entry) → entry_at W.files dir p ≡ o
          → (rename_given W.files dir g new p).slots d f.generation (e / 16) ≡ Some v
          → Kept W.files (step.Rename dir g old new) d e entry v
      by p ep None eo q = absurd (cc (rw (eo, rename_given) at q))
      by p ep (Some x) eo q =
          beside dir g p (spelled_entry x.inode x.generation new) no_meta (step.Rename dir g old new) v
          (short-entry x.inode x.generation new name-ok) (rw (eo, rename_given) at q) (here p x ep eo)

      go : (o : Option ℕ) → found W.files dir old ≡ o
          → (at_place o (λ p. rename_given W.files dir g new p)).slots d f.generation (e / 16) ≡ Some v
          → Kept W.files (step.Rename dir g old new) d e entry v
      go None eo q = cc q
      go (Some p) eo q = by p eo (entry_at W.files dir p) refl q
  slot-kept (step.Drop dir g name) r claim v h = go (found W.files dir name) refl h
    where
      by : (p : ℕ) → found W.files dir name ≡ Some p → (o : Option Entry) → entry_at W.files dir p ≡ o
          → (drop_given W.files dir g p).slots d f.generation (e / 16) ≡ Some v
          → Kept W.files (step.Drop dir g name) d e entry v
      by p ep None eo q = absurd (cc (rw (eo, drop_given) at q))
      by p ep (Some x) eo q =
          beside dir g p (zero_bytes 64) no_meta (step.Drop dir g name) v short-zeros (rw (eo, drop_given) at q)
          (λ qd qp w. Dropped g name (ap (λ (j : ℕ). step.Drop j g name) qd)
          (sym (ap (λ (j : ℕ). found W.files j name) qd) ∙ ep ∙ ap Some qp))

      go : (o : Option ℕ) → found W.files dir name ≡ o
          → (at_place o (λ p. drop_given W.files dir g p)).slots d f.generation (e / 16) ≡ Some v
          → Kept W.files (step.Drop dir g name) d e entry v
      go None ep q = cc q
      go (Some p) ep q = by p ep (entry_at W.files dir p) refl q
  slot-kept _ r claim v h = cc h
