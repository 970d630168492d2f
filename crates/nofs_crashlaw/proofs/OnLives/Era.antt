-- The machine's files are what was accepted last, and what stands is in them.
use Rattle.std.proofs.Common.{if◌then◌else◌, ◌≡◌, ◌≢◌, ℕ, Bool, true, false, cond, eqb, ◌||◌, not, List, [], ◌∷◌, ◌++◌}
use Rattle.std.proofs.Common.{Option, Some, None, unwrap_or}
use Rattle.std.proofs.Common.{option_to_list, refl, sym, ap, ◌∙◌, subst, eqb-true, eq-eqb, append_assoc, append-nil}
use Rattle.std.proofs.Common.{ne_eqb}
use Rattle.nofs_inode.specs.declared.inode.FileKind.{FileKind}
use Rattle.nofs_inode.specs.declared.inode.BackLink.{BackLink}
use Rattle.nofs_dirent.specs.declared.entry.Entry.{Entry}
use Rattle.nofs_inode.specs.InodeRecords.{is_live}
use Rattle.nofs_dirent.specs.Entries.{spelled_entry}
use Rattle.nofs_model.specs.Geometry.{Image, inode}
use Rattle.nofs_model.specs.Files.{file_from, files_in, agreed, FileState, Files, entry_at}
use Rattle.nofs_model.specs.Slots.{value}
use Rattle.nofs_model.specs.declared.image.value.Value.{Value}
use Rattle.nofs_model.specs.declared.image.value.Value.TheVariants.{Hole}
use Rattle.nofs_history.specs.Meta.{Meta, Gone, Is, meta_of}
use Rattle.nofs_history.specs.Machine.{Given, nothing, gives, at_place, place_for, found, link_place, make_given}
use Rattle.nofs_history.specs.Machine.{link_given, drop_given}
use Rattle.nofs_history.specs.Machine.{rename_given, put_given, resize_given, entry_given, link_to, zero_bytes}
use Rattle.nofs_history.specs.Machine.{meta_given, no_meta, drop_meta, filled}
use Rattle.nofs_history.specs.Machine.{new_file, after_meta, born_file, file_after, files_after, given_by, files_by}
use Rattle.nofs_history.specs.Machine.{is_refused, is_write_fault, may_give}
use Rattle.nofs_history.specs.Since.{accepted_of, files_along, values_given, metas_given, last_in}
use Rattle.nofs_history.specs.History.{NoWriteFault}
use Rattle.nofs_history.specs.Since.{accepted_meta_of, agreed_files, is_generation}
use Rattle.nofs_history.specs.declared.machine.history.Claims.{Claims}
use Rattle.nofs_history.specs.declared.machine.history.Entry1.{Entry1}
use Rattle.nofs_history.specs.declared.machine.steps.Step.{Step}
use Rattle.nofs_history.specs.declared.machine.steps.Step.TheVariants as step

-- what a step makes gets holes and a meta
pub record IsBirth (given : Given) : Type 0 where
  pub holes : (i g : ℕ) → given.born i ≡ Some g → (k : ℕ) → given.slots i g k ≡ Some Hole
  pub meta : (i g : ℕ) → given.born i ≡ Some g
      → (kind : FileKind) × (size : ℕ) × (links : List BackLink) × (given.metas i g ≡ Some (Is kind size links))
  pub others : (i g h : ℕ) → given.born i ≡ Some g → h ≢ g → given.metas i h ≡ Some Gone

no-birth : (given : Given) → ((i : ℕ) → given.born i ≡ None) → IsBirth given
no-birth given none = record {
  holes = λ i g e. absurd (cc (e, none i));
  meta = λ i g e. absurd (cc (e, none i));
  others = λ i g h e. absurd (cc (e, none i));
}

make-birth : (F : Files) (d g : ℕ) (name : List ℕ) (kind : FileKind) (claims : Claims) (e : ℕ)
    → IsBirth (make_given F d g name kind claims e)
make-birth F d g name kind claims e = record {
  holes = λ i h b k. let p = born i h b in
      rw (eq-eqb claims.inode i (sym p.0), eq-eqb claims.generation h (sym p.1)) refl;
  meta = λ i h b. let p = born i h b in (
    kind,
    0,
    link_to d e g ∷ link_to 0 0 0 ∷ link_to 0 0 0 ∷ link_to 0 0 0 ∷ [],
    rw (eq-eqb i claims.inode p.0, eq-eqb h claims.generation p.1) refl,
  );
  others = λ i h j b ne. let p = born i h b in
      rw (eq-eqb i claims.inode p.0, ne_eqb j claims.generation (λ q. ne (q ∙ sym p.1))) refl;
}
  where
    born : (i h : ℕ) → cond (eqb i claims.inode) (Some claims.generation) None ≡ Some h
        → (i ≡ claims.inode) × (h ≡ claims.generation)
    born i h b = go (eqb i claims.inode) refl b
      where
        go : (t : Bool) → eqb i claims.inode ≡ t → cond t (Some claims.generation) None ≡ Some h
            → (i ≡ claims.inode) × (h ≡ claims.generation)
        go true e b = (eqb-true i claims.inode e, cc b)
        go false e b = cc

pub gives-birth : (F : Files) (step : Step) (claims : Claims) → IsBirth (gives F step claims)
unfolding gives
gives-birth F (step.Put i g k at bytes) claims = no-birth (put_given F i g k at bytes) (λ j. refl)
gives-birth F (step.Resize i g size) claims = no-birth (resize_given F i g size) (λ j. refl)
gives-birth F (step.Make d g name kind) claims = go (place_for F d name)
  where
    go : (o : Option ℕ) → IsBirth (at_place o (λ e. make_given F d g name kind claims e))
    go None = no-birth nothing (λ j. refl)
    go (Some e) = make-birth F d g name kind claims e
gives-birth F (step.Link d g name i of) claims = go (place_for F d name) (link_place F i)
  where
    go : (o p : Option ℕ) → IsBirth (at_place o (λ e. at_place p (λ b. link_given F d g name i of e b)))
    go None p = no-birth nothing (λ j. refl)
    go (Some e) None = no-birth nothing (λ j. refl)
    go (Some e) (Some b) = no-birth (link_given F d g name i of e b) (λ j. refl)
gives-birth F (step.Drop d g name) claims = go (found F d name)
  where
    given : (e : ℕ) (o : Option Entry) → entry_at F d e ≡ o → IsBirth (drop_given F d g e)
    given e None eo = rw (eo, drop_given) (no-birth nothing (λ j. refl))
    given e (Some entry) eo = rw (eo, drop_given) (no-birth
        (entry_given F d g e (zero_bytes 64)
        (meta_given entry.inode entry.generation (drop_meta F entry.inode (link_to d e g)))) (λ j. refl))

    go : (o : Option ℕ) → IsBirth (at_place o (λ e. drop_given F d g e))
    go None = no-birth nothing (λ j. refl)
    go (Some e) = given e (entry_at F d e) refl
gives-birth F (step.Rename d g old new) claims = go (found F d old)
  where
    given : (e : ℕ) (o : Option Entry) → entry_at F d e ≡ o → IsBirth (rename_given F d g new e)
    given e None eo = rw (eo, rename_given) (no-birth nothing (λ j. refl))
    given e (Some entry) eo = rw (eo, rename_given)
        (no-birth (entry_given F d g e (spelled_entry entry.inode entry.generation new) no_meta) (λ j. refl))

    go : (o : Option ℕ) → IsBirth (at_place o (λ e. rename_given F d g new e))
    go None = no-birth nothing (λ j. refl)
    go (Some e) = given e (entry_at F d e) refl
gives-birth F _ claims = no-birth nothing (λ j. refl)

last-push : {A : Type 0} → (xs : List A) (v : A) → last_in (xs ++ v ∷ []) ≡ v ∷ []
last-push [] v = refl
last-push (x ∷ []) v = refl
last-push (x ∷ y ∷ rest) v = last-push (y ∷ rest) v

abbrev pub meta_of_file : FileState → Meta
meta_of_file f = Is f.kind f.size f.links

-- the files have what was accepted last
pub record IsCurrent (F : Files) (vals : ℕ → ℕ → ℕ → List Value) (metas : ℕ → ℕ → List Meta) : Type 0 where
  pub values : (i : ℕ) (f : FileState) → F i ≡ Some f → (k : ℕ) → last_in (vals i f.generation k) ≡ f.values k ∷ []
  pub meta : (i : ℕ) (f : FileState) → F i ≡ Some f → last_in (metas i f.generation) ≡ meta_of_file f ∷ []

last-value : (xs : List Value) (old : Value) (o : Option Value)
    → last_in xs ≡ old ∷ [] → last_in (xs ++ option_to_list o) ≡ unwrap_or o old ∷ []
last-value xs old None e = rw (append-nil xs) e
last-value xs old (Some v) e = last-push xs v

pub current-given : (F : Files) (given : Given) (vals : ℕ → ℕ → ℕ → List Value) (metas : ℕ → ℕ → List Meta)
    → IsBirth given → IsCurrent F vals metas
    → IsCurrent (files_after F given) (λ i g k. vals i g k ++ option_to_list (given.slots i g k))
    (λ i g. metas i g ++ option_to_list (given.metas i g))
current-given F given vals metas birth c = record {
  values = λ i f e k. (go i f (given.born i) refl (F i) refl e).0 k;
  meta =
      λ i f e. (go i f (given.born i) refl (F i) refl e).1;
}
  where
    Good : ℕ → FileState → Type 0
    Good i f =
        ((k : ℕ) → last_in (vals i f.generation k ++ option_to_list (given.slots i f.generation k)) ≡ f.values k ∷ []) ×
        (last_in (metas i f.generation ++ option_to_list (given.metas i f.generation)) ≡ meta_of_file f ∷ [])

    -- after a file that stood or was made
    from : (i : ℕ) (old f : FileState)
        → ((k : ℕ) → last_in (vals i old.generation k ++ option_to_list (given.slots i old.generation k)) ≡
        (filled given i old).values k ∷ [])
        → (m : Option Meta)
        → given.metas i old.generation ≡ m → (m ≡ None → last_in (metas i old.generation) ≡ meta_of_file old ∷ [])
        → after_meta m (filled given i old) ≡ Some f → Good i f
    from i old f vs None em was e =
        let s : filled given i old ≡ f = cc e in
        subst (λ (q : FileState). Good i q) s (vs, rw (em, append-nil (metas i old.generation)) (was refl))
    from i old f vs (Some Gone) em was e = cc
    from i old f vs (Some (Is kind size links)) em was e =
        let s : record (filled given i old) { kind = kind; size = size; links = links } ≡ f = cc e in
        subst (λ (q : FileState). Good i q) s (vs, rw em (last-push (metas i old.generation) (Is kind size links)))

    go : (i : ℕ) (f : FileState) (b : Option ℕ) → given.born i ≡ b → (o : Option FileState)
        → F i ≡ o → file_after given i (born_file b o) ≡ Some f → Good i f
    go i f None eb None eo e = cc
    go i f None eb (Some old) eo e =
        from i old f (λ k. last-value (vals i old.generation k) (old.values k) (given.slots i old.generation k)
        (c.values i old eo k)) (given.metas i old.generation) refl (λ n. c.meta i old eo) e
    go i f (Some g) eb o eo e =
        let h : (k : ℕ) → given.slots i g k ≡ Some Hole = birth.holes i g eb in
        let m = birth.meta i g eb in
        from i (new_file g) f (λ k. rw (h k) (last-push (vals i g k) Hole)) (given.metas i g) refl (λ n. cc (n, m.3)) e

nothing-birth : IsBirth nothing
nothing-birth = no-birth nothing (λ j. refl)

pub event-birth : (F : Files) (e : Entry1) → IsBirth (given_by F e)
event-birth F e = go (may_give e.reply)
  where
    go : (b : Bool) → IsBirth (cond b (gives F e.step e.claims) nothing)
    go true = gives-birth F e.step e.claims
    go false = nothing-birth

-- a step that gives nothing
same-current : (F : Files) (vals : ℕ → ℕ → ℕ → List Value) (metas : ℕ → ℕ → List Meta) → IsCurrent F vals metas
    → IsCurrent F (λ i g k. vals i g k ++ []) (λ i g. metas i g ++ [])
same-current F vals metas c = record {
  values = λ i f e k. rw (append-nil (vals i f.generation k)) (c.values i f e k);
  meta =
      λ i f e. rw (append-nil (metas i f.generation)) (c.meta i f e);
}

pub current-event : (F : Files) (e : Entry1) (vals : ℕ → ℕ → ℕ → List Value) (metas : ℕ → ℕ → List Meta)
    → is_write_fault e.reply ≡ false
    → IsCurrent F vals metas
    → IsCurrent (files_by F e) (λ i g k. vals i g k ++ option_to_list ((given_by F e).slots i g k))
    (λ i g. metas i g ++ option_to_list ((given_by F e).metas i g))
current-event F e vals metas fault c = go (is_refused e.reply)
  where
    go : (r : Bool) → IsCurrent (cond r F (files_after F (gives F e.step e.claims)))
        (λ i g k. vals i g k
        ++ option_to_list ((cond (not r || is_write_fault e.reply) (gives F e.step e.claims) nothing).slots i g k))
        (λ i g. metas i g
        ++ option_to_list ((cond (not r || is_write_fault e.reply) (gives F e.step e.claims) nothing).metas i g))
    go true = rw fault (same-current F vals metas c)
    go false = current-given F (gives F e.step e.claims) vals metas (gives-birth F e.step e.claims) c

pub current-along : (es : List Entry1) (F : Files) (vals : ℕ → ℕ → ℕ → List Value) (metas : ℕ → ℕ → List Meta)
    → NoWriteFault es → IsCurrent F vals metas
    → IsCurrent (files_along F es) (λ i g k. vals i g k ++ values_given F es i g k)
    (λ i g. metas i g ++ metas_given F es i g)
current-along [] F vals metas ok c = same-current F vals metas c
current-along (e ∷ es) F vals metas ok c =
    let ih = current-along es (files_by F e) (λ i g k. vals i g k ++ option_to_list ((given_by F e).slots i g k))
    (λ i g. metas i g ++ option_to_list ((given_by F e).metas i g)) ok.1 (current-event F e vals metas ok.0 c) in
    record {
      values = λ i f ef k. ap last_in
          (sym (append_assoc (vals i f.generation k) (option_to_list ((given_by F e).slots i f.generation k))
          (values_given (files_by F e) es i f.generation k))) ∙ ih.values i f ef k;
      meta = λ i f ef. ap last_in
          (sym (append_assoc (metas i f.generation) (option_to_list ((given_by F e).metas i f.generation))
          (metas_given (files_by F e) es i f.generation))) ∙ ih.meta i f ef;
    }

-- at the beginning the files are the base's
pub current-base : (B : Image)
    → IsCurrent (agreed_files B) (λ i g k. if is_generation B i g then value B i k ∷ [] else [])
    (λ i g. if is_generation B i g then meta_of (inode B i) ∷ [] else [])
unfolding agreed_files
current-base B = record {
  values = λ i f e k. (go i f (agreed (files_in B) i) (inode B i).kind refl e).0 k;
  meta =
      λ i f e. (go i f (agreed (files_in B) i) (inode B i).kind refl e).1;
}
  where
    go : (i : ℕ) (f : FileState) (a : Bool) (o : Option FileKind) → (inode B i).kind ≡ o
        → cond a (file_from B i o) None ≡ Some f
        → ((k : ℕ) → last_in (cond (is_generation B i f.generation) (value B i k ∷ []) []) ≡ f.values k ∷ []) ×
        (last_in (cond (is_generation B i f.generation) (meta_of (inode B i) ∷ []) []) ≡ meta_of_file f ∷ [])
    go i f false o eo e = cc
    go i f true None eo e = cc
    go i f true (Some kind) eo e =
        let s = ap (λ (o : Option FileState). unwrap_or o f) e in
        let live : is_live (inode B i) ≡ true = rw eo in
        let g : is_generation B i (inode B i).generation ≡ true =
        rw (live, eq-eqb (inode B i).generation (inode B i).generation refl) in
        let m : meta_of (inode B i) ≡ Is kind (inode B i).size (inode B i).links = rw (eo, meta_of) in
        subst (λ (q : FileState).
        ((k : ℕ) → last_in (cond (is_generation B i q.generation) (value B i k ∷ []) []) ≡ q.values k ∷ []) ×
        (last_in (cond (is_generation B i q.generation) (meta_of (inode B i) ∷ []) []) ≡ meta_of_file q ∷ [])) s
        (λ k. rw g refl, rw g (ap (λ (q : Meta). q ∷ []) m))

-- what was accepted last is what the files have
pub current-accepted : (B : Image) (H : List Entry1) → NoWriteFault H
    → IsCurrent (files_along (agreed_files B) H) (λ i g k. accepted_of B H i g k) (λ i g. accepted_meta_of B H i g)
current-accepted B H ok =
    current-along H (agreed_files B) (λ i g k. if is_generation B i g then value B i k ∷ [] else [])
    (λ i g. if is_generation B i g then meta_of (inode B i) ∷ [] else []) ok (current-base B)
