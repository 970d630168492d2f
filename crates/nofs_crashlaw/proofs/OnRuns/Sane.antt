-- Each entry of a run leaves a sane world.
use Rattle.std.proofs.Common.{◌≡◌, ℕ, ◌+◌, ◌*◌, ◌/◌, ◌%◌, ◌^◌, ◌<◌, ◌≤◌, inl, inr, Bool, true, false, cond, eqb, ltb}
use Rattle.std.proofs.Common.{List, length, Option, Some, None}
use Rattle.std.proofs.Common.{unwrap_or, refl, sym, ap, ◌∙◌, subst, arith, eqb-true, ne_eqb, lt-ltb}
use Rattle.std.specs.Prelude.{nat_lt}
use Rattle.std.proofs.lemmas.Bool.{cases_lt}
use Rattle.std.proofs.lemmas.List.{length-replicate}
use Rattle.nofs_disk.specs.Parts.{length-put_bytes}
use Rattle.nofs_dirent.specs.Entries.{spelled_entry}
use Rattle.nofs_inode.specs.declared.inode.FileKind.{FileKind}
use Rattle.nofs_dirent.specs.declared.entry.Entry.{Entry}
use Rattle.nofs_model.specs.Files.{Files, FileState, is_folder, entry_at}
use Rattle.nofs_model.specs.declared.image.value.Value.{Value}
use Rattle.nofs_model.specs.declared.image.value.Value.TheVariants.{Hole}
use Rattle.nofs_history.specs.Meta.{Meta, Gone, Is}
use Rattle.nofs_history.specs.Search.{first_of}
use Rattle.nofs_history.specs.Machine.{Given, gives, at_place, found, place_for, link_place, make_given, link_given}
use Rattle.nofs_history.specs.Machine.{drop_given, rename_given}
use Rattle.nofs_history.specs.Machine.{entry_given, no_meta, zero_bytes, bytes_in, value_of, with_entry, filled}
use Rattle.nofs_history.specs.Machine.{new_file, after_meta, born_file, file_after, files_after}
use Rattle.nofs_history.specs.World.{World, is_free_inode, inodes_needed, blocks_needed}
use Rattle.nofs_history.specs.Refusals.{bad_name, rows, serials_spent}
use Rattle.nofs_history.specs.Claims.{IsClaim, IsInodeClaim, ClaimedInode, next_stamp}
use Rattle.nofs_history.specs.declared.machine.history.Claims.{Claims}
use Rattle.nofs_history.specs.declared.machine.steps.Step.{Step}
use Rattle.nofs_history.specs.declared.machine.steps.Step.TheVariants as step
use Rattle.nofs_history.specs.declared.machine.replies.Refusal.TheVariants as refusal
use Rattle.nofs_crashlaw.proofs.OnLives.Era.{IsBirth}
use Rattle.nofs_history.proofs.EntryPut.{with-entry-put}
use Rattle.nofs_crashlaw.proofs.OnFiles.Given.{value-of}
use Rattle.nofs_crashlaw.proofs.OnRuns.Gives.{none-at, row-none, put-elsewhere, resize-elsewhere, other-inode, OfKind}
use Rattle.nofs_crashlaw.proofs.OnRuns.PairEntries.{Spelled, entry-slot, short-entry}
use Rattle.nofs_crashlaw.proofs.OnRuns.Links.{IsSane}

-- Cells of directories

entry-length : (old : Value) (e : ℕ) (bytes : List ℕ)
    → length (bytes_in old) ≡ 1024 → length bytes ≡ 64 → length (bytes_in (with_entry old e bytes)) ≡ 1024
entry-length old e bytes whole short = ap (λ (v : Value). length (bytes_in v)) (with-entry-put old e bytes short)
    ∙ length-put_bytes (64 * (e % 16)) bytes (bytes_in old) (omega (arith, whole, short)) ∙ whole

module _ (W V : World) (c : Claims) (sane : IsSane W) (j : ℕ) (f : FileState) (is : W.files j ≡ Some f)
    (folder : is_folder f.kind ≡ true) (k : ℕ) where
  part : (dir g p : ℕ) (bytes : List ℕ) (v : Value)
      → length bytes ≡ 64 → (entry_given W.files dir g p bytes no_meta).slots j f.generation k ≡ Some v
      → length (bytes_in v) ≡ 1024
  part dir g p bytes v short given =
      let parts = entry-slot W.files dir g p bytes no_meta j f.generation k v given in
      let same : value_of W.files dir (p / 16) ≡ f.values (p / 16) = ap (λ (i : ℕ). value_of W.files i (p / 16)) parts.0
      ∙ value-of W.files j f is (p / 16) in
      let whole : length (bytes_in (value_of W.files dir (p / 16))) ≡ 1024 =
      ap (λ (u : Value). length (bytes_in u)) same ∙ sane.whole j f is folder (p / 16) in
      sym (ap (λ (u : Value). length (bytes_in u)) parts.2)
      ∙ entry-length (value_of W.files dir (p / 16)) p bytes whole short

  -- a cell that is given to a directory has 1,024 bytes
  pub slot-whole : (s : Step) → first_of (rows W V s) ≡ None → IsClaim W s c
      → (v : Value) → (gives W.files s c).slots j f.generation k ≡ Some v
      → length (bytes_in v) ≡ 1024
  unfolding gives
  slot-whole (step.Put i g l a bytes) r claim v h = absurd (put-elsewhere W V c j f is folder k i g l a bytes r v h)
  slot-whole (step.Resize i g size) r claim v h = absurd (resize-elsewhere W V c j f is folder k i g size r v h)
  slot-whole (step.Make dir g name kind) r claim v h = go (place_for W.files dir name) h
    where
      go : (o : Option ℕ) → (at_place o (λ p. make_given W.files dir g name kind c p)).slots j f.generation k ≡ Some v
          → length (bytes_in v) ≡ 1024
      go None q = cc q
      go (Some p) q =
          let z = ne_eqb c.inode j (λ t. other-inode W dir g name kind c j f claim is (sym t)) in
          part dir g p (spelled_entry c.inode c.generation name) v
          (short-entry c.inode c.generation name
          (none-at (rows W V (step.Make dir g name kind)) r 0 (bad_name name) refl)) (rw z at q)
  slot-whole (step.Link dir g name i of) r claim v h = go (place_for W.files dir name) (link_place W.files i) h
    where
      go : (o l : Option ℕ)
          → (at_place o (λ p. at_place l (λ b. link_given W.files dir g name i of p b))).slots j f.generation k ≡ Some v
          → length (bytes_in v) ≡ 1024
      go None l q = cc q
      go (Some p) None q = cc q
      go (Some p) (Some b) q = part dir g p (spelled_entry i of name) v
          (short-entry i of name (none-at (rows W V (step.Link dir g name i of)) r 0 (bad_name name) refl)) q
  slot-whole (step.Rename dir g old new) r claim v h = go (found W.files dir old) h
    where
      by : (p : ℕ) (o : Option Entry)
          → entry_at W.files dir p ≡ o → (rename_given W.files dir g new p).slots j f.generation k ≡ Some v
          → length (bytes_in v) ≡ 1024
      by p None eo q = absurd (cc (rw (eo, rename_given) at q))
      by p (Some x) eo q = part dir g p (spelled_entry x.inode x.generation new) v
          (short-entry x.inode x.generation new
          (none-at (rows W V (step.Rename dir g old new)) r 1 (bad_name new) refl)) (rw (eo, rename_given) at q)

      go : (o : Option ℕ) → (at_place o (λ p. rename_given W.files dir g new p)).slots j f.generation k ≡ Some v
          → length (bytes_in v) ≡ 1024
      go None q = cc q
      go (Some p) q = by p (entry_at W.files dir p) refl q
  slot-whole (step.Drop dir g name) r claim v h = go (found W.files dir name) h
    where
      by : (p : ℕ) (o : Option Entry) → entry_at W.files dir p ≡ o
          → (drop_given W.files dir g p).slots j f.generation k ≡ Some v → length (bytes_in v) ≡ 1024
      by p None eo q = absurd (cc (rw (eo, drop_given) at q))
      by p (Some x) eo q = part dir g p (zero_bytes 64) v (length-replicate {A = ℕ} 64 0) (rw (eo, drop_given) at q)

      go : (o : Option ℕ) → (at_place o (λ p. drop_given W.files dir g p)).slots j f.generation k ≡ Some v
          → length (bytes_in v) ≡ 1024
      go None q = cc q
      go (Some p) q = by p (entry_at W.files dir p) refl q
  slot-whole _ r claim v h = cc h

-- What a file after a step was before it

pub data After (F : Files) (given : Given) (i : ℕ) (h : FileState) : Type 0 where
  Old : (f : FileState) → F i ≡ Some f → h.generation ≡ f.generation → h.kind ≡ f.kind
      → ((k : ℕ) → h.values k ≡ unwrap_or (given.slots i f.generation k) (f.values k))
      → (given.metas i f.generation ≡ Some Gone → ⊥) → After F given i h
  New : (g : ℕ) → given.born i ≡ Some g → h.generation ≡ g → ((k : ℕ) → h.values k ≡ Hole)
      → given.metas i g ≡ Some (Is h.kind h.size h.links)
      → After F given i h

pub after : (F : Files) (given : Given) (i : ℕ) (h : FileState) → IsBirth given
    → ((f : FileState) → F i ≡ Some f → OfKind f.kind (given.metas i f.generation)) → files_after F given i ≡ Some h
    → After F given i h
after F given i h birth kinds e = go (given.born i) refl (F i) refl e
  where
    old : (f : FileState) → F i ≡ Some f → (m : Option Meta)
        → given.metas i f.generation ≡ m → after_meta m (filled given i f) ≡ Some h → After F given i h
    old f is None em q =
        let s : filled given i f ≡ h = cc q in
        Old f is (sym (ap (λ (x : FileState). x.generation) s)) (sym (ap (λ (x : FileState). x.kind) s))
        (λ k. sym (ap (λ (x : FileState). x.values k) s))
        (λ z. cc (em, z))
    old f is (Some Gone) em q = cc q
    old f is (Some (Is kind size links)) em q =
        let ek : kind ≡ f.kind = subst (λ (o : Option Meta). OfKind f.kind o) em (kinds f is) in
        let s : record (filled given i f) { kind = kind; size = size; links = links } ≡ h = cc q in
        Old f is (sym (ap (λ (x : FileState). x.generation) s)) (sym (ap (λ (x : FileState). x.kind) s) ∙ ek)
        (λ k. sym (ap (λ (x : FileState). x.values k) s)) (λ z. cc (em, z))

    new : (g : ℕ) → given.born i ≡ Some g → after_meta (given.metas i g) (filled given i (new_file g)) ≡ Some h
        → After F given i h
    new g eb q =
        let m = birth.meta i g eb in
        let q' : after_meta (Some (Is m.0 m.1 m.2)) (filled given i (new_file g)) ≡ Some h =
        sym (ap (λ (o : Option Meta). after_meta o (filled given i (new_file g))) m.3) ∙ q in
        let s : record (filled given i (new_file g)) { kind = m.0; size = m.1; links = m.2 } ≡ h = cc q' in
        New g eb (sym (ap (λ (x : FileState). x.generation) s))
        (λ k. sym (ap (λ (x : FileState). x.values k) s)
        ∙ ap (λ (o : Option Value). unwrap_or o Hole) (birth.holes i g eb k))
        (m.3 ∙ ap (λ (x : FileState). Some (Is x.kind x.size x.links)) s)

    go : (b : Option ℕ) → given.born i ≡ b → (o : Option FileState)
        → F i ≡ o → file_after given i (born_file b o) ≡ Some h → After F given i h
    go None eb None eo q = cc q
    go None eb (Some f) eo q = old f eo (given.metas i f.generation) refl q
    go (Some g) eb o eo q = new g eb q

-- what is born is made by a Make
pub record Made (W : World) (s : Step) (c : Claims) (i g : ℕ) : Type 0 where
  pub directory : ℕ
  pub generation : ℕ
  pub name : List ℕ
  pub kind : FileKind
  pub is : s ≡ step.Make directory generation name kind
  pub place : ℕ
  pub place_is : place_for W.files directory name ≡ Some place
  pub inode : i ≡ c.inode
  pub own : g ≡ c.generation

pub made : (W : World) (s : Step) (c : Claims) (i g : ℕ) → (gives W.files s c).born i ≡ Some g → Made W s c i g
unfolding gives
made W (step.Make d dg name kind) c i g h = go (place_for W.files d name) refl h
  where
    go : (o : Option ℕ)
        → place_for W.files d name ≡ o → (at_place o (λ p. make_given W.files d dg name kind c p)).born i ≡ Some g
        → Made W (step.Make d dg name kind) c i g
    go None ep q = cc q
    go (Some p) ep q = by (eqb i c.inode) refl q
      where
        by : (b : Bool) → eqb i c.inode ≡ b → cond b (Some c.generation) None ≡ Some g
            → Made W (step.Make d dg name kind) c i g
        by true eb r = record {
          directory = d;
          generation = dg;
          name = name;
          kind = kind;
          is = refl;
          place = p;
          place_is = ep;
          inode =
              eqb-true i c.inode eb;
          own = cc r;
        }
        by false eb r = cc r
made W (step.Link d dg name j of) c i g h = absurd (go (place_for W.files d name) (link_place W.files j) h)
  where
    go : (o l : Option ℕ)
        → (at_place o (λ p. at_place l (λ b. link_given W.files d dg name j of p b))).born i ≡ Some g → ⊥
    go None l q = cc q
    go (Some p) None q = cc q
    go (Some p) (Some b) q = cc q
made W (step.Rename d dg old new) c i g h = absurd (go (found W.files d old) h)
  where
    by : (p : ℕ) (o : Option Entry) → entry_at W.files d p ≡ o → (rename_given W.files d dg new p).born i ≡ Some g → ⊥
    by p None eo q = cc (rw (eo, rename_given) at q)
    by p (Some x) eo q = cc (rw (eo, rename_given) at q)

    go : (o : Option ℕ) → (at_place o (λ p. rename_given W.files d dg new p)).born i ≡ Some g → ⊥
    go None q = cc q
    go (Some p) q = by p (entry_at W.files d p) refl q
made W (step.Drop d dg name) c i g h = absurd (go (found W.files d name) h)
  where
    by : (p : ℕ) (o : Option Entry) → entry_at W.files d p ≡ o → (drop_given W.files d dg p).born i ≡ Some g → ⊥
    by p None eo q = cc (rw (eo, drop_given) at q)
    by p (Some x) eo q = cc (rw (eo, drop_given) at q)

    go : (o : Option ℕ) → (at_place o (λ p. drop_given W.files d dg p)).born i ≡ Some g → ⊥
    go None q = cc q
    go (Some p) q = by p (entry_at W.files d p) refl q
made W (step.Put j of k at bytes) c i g h = cc h
made W (step.Resize j of size) c i g h = cc h
made W (step.Look d dg name) c i g h = cc h
made W (step.List d dg slot) c i g h = cc h
made W (step.Get j of k) c i g h = cc h
made W (step.Stat j of) c i g h = cc h
made W (step.Flush j of) c i g h = cc h
made W (step.SeeInode j) c i g h = cc h
made W (step.SeeBlock p) c i g h = cc h

-- the numbers of what a Make claims
pub record IsNew (W : World) (c : Claims) : Type 0 where
  pub free : is_free_inode W c.inode ≡ true
  pub low : 1 ≤ c.inode
  pub high : c.inode ≤ W.inodes
  pub generation : c.generation ≡ next_stamp W
  pub serial : W.serial < 2 ^ 40

-- they are spelled, where the world is sane
pub new-spelled : (W : World) (c : Claims) → IsSane W → IsNew W c → Spelled c.inode c.generation
new-spelled W c sane n =
    let low = n.low in
    let high = n.high in
    let generation = n.generation in
    let serial = n.serial in
    let most = sane.inodes in
    let mount = sane.mount in
    let positive = sane.positive in
    record {
      some = low;
      small = omega (arith, high, most);
      from = omega (arith, positive, generation);
      below = omega (arith, mount, serial, generation);
    }

pub make-new : (W V : World) (c : Claims) (d g : ℕ) (name : List ℕ) (kind : FileKind)
    → first_of (rows W V (step.Make d g name kind)) ≡ None
    → IsClaim W (step.Make d g name kind) c → IsNew W c
make-new W V c d g name kind r claim = go claim.inode
  where
    room : nat_lt (2 ^ 40)
        (W.serial + inodes_needed (step.Make d g name kind) + blocks_needed W.files (step.Make d g name kind)) ≡ false
    room = row-none _ refusal.SerialsSpent
        (none-at (rows W V (step.Make d g name kind)) r 7 (serials_spent W (step.Make d g name kind)) refl)

    few : W.serial < 2 ^ 40
    few = elim (cases_lt W.serial (2 ^ 40)) [
      | inl lt ↦ lt
      | inr le ↦ absurd (
          let z : ltb (2 ^ 40) (W.serial + 1 + blocks_needed W.files (step.Make d g name kind)) ≡ true =
          lt-ltb (2 ^ 40) (W.serial + 1 + blocks_needed W.files (step.Make d g name kind)) (omega (arith, le)) in
          let y = room in cc (z, y))
    ]

    go : IsInodeClaim W (next_stamp W) c true → IsNew W c
    go (ClaimedInode free low high gen) = record { free = free; low = low; high = high; generation = gen; serial = few }
