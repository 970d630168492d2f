-- Each back link that is there after a Make or a Link was there before, but the one to the new entry.
use Rattle.std.proofs.Common.{Bool, Contains, List, None, Option, Some, [], ap, cond, eq-eqb, eqb, eqb-true, false, inl}
use Rattle.std.proofs.Common.{inr, refl, subst, suc, sym, true, zero, ℕ, ◌∙◌, ◌∷◌, ◌≡◌, ◌⊎◌}
use Rattle.nofs_inode.specs.declared.inode.BackLink.{BackLink}
use Rattle.nofs_inode.specs.declared.inode.FileKind.{FileKind}
use Rattle.nofs_model.specs.Files.{FileState, Files}
use Rattle.nofs_model.proofs.OnSlots.Find.{and-both}
use Rattle.nofs_history.specs.Machine.{Given, after_meta, born_file, file_after, files_after, filled, is_at, link_given}
use Rattle.nofs_history.specs.Machine.{link_to, make_given, meta_with, new_file, set_link, with_meta}
use Rattle.nofs_history.specs.Meta.{Gone, Is, Meta}
use Rattle.nofs_history.specs.declared.machine.history.Claims.{Claims}
use Rattle.nofs_crashlaw.specs.Runs.Pairs.{HasAt, IsDirectory}
use Rattle.nofs_crashlaw.proofs.OnRuns.Places.{at-contains, contains-at}
use Rattle.nofs_shared.proofs.OnIndex.NewNames.{WasLink}

some-same : (a b : FileState) → Some a ≡ Some b → a ≡ b
some-same a b e = cc e

-- a link that is set is the new one, and each other one was there
set-cases : (ls : List BackLink) (b c : ℕ) (link new : BackLink) → HasAt (set_link ls b new) c link
    → (new ≡ link) ⊎ HasAt ls c link
set-cases [] b c link new h = absurd h
set-cases (l ∷ ls) zero zero link new h = inl h
set-cases (l ∷ ls) zero (suc c) link new h = inr h
set-cases (l ∷ ls) (suc b) zero link new h = inr h
set-cases (l ∷ ls) (suc b) (suc c) link new h = set-cases ls b c link new h

-- the links of a file that is made
first-cases : (a z : BackLink) (b : ℕ) (link : BackLink) → HasAt (a ∷ z ∷ z ∷ z ∷ []) b link
    → (a ≡ link) ⊎ (z ≡ link)
first-cases a z zero link h = inl h
first-cases a z (suc zero) link h = inr h
first-cases a z (suc (suc zero)) link h = inr h
first-cases a z (suc (suc (suc zero))) link h = inr h
first-cases a z (suc (suc (suc (suc b)))) link h = absurd h

module _ (F : Files) (dir g place j : ℕ) (name : List ℕ) (h : FileState) (link : BackLink)
    (has : Contains h.links link) (apart : link.directory ≡ dir → link.entry ≡ place → ⊥) where
  -- a file that gets no meta
  unchanged : (given : Given) (f : FileState) → F j ≡ Some f → Some (filled given j f) ≡ Some h → WasLink F j h link
  unchanged given f is e =
      let s = some-same (filled given j f) h e in
      record {
        file = f;
        is = is;
        generation = sym (ap (λ (q : FileState). q.generation) s);
        kind = sym (ap (λ (q : FileState). q.kind) s);
        has = subst (λ (q : FileState). Contains q.links link) (sym s) has;
      }

  not-new : link_to dir place g ≡ link → ⊥
  not-new e = apart (sym (ap (λ (q : BackLink). q.directory) e)) (sym (ap (λ (q : BackLink). q.entry) e))

  module _ (i of b : ℕ) where
    abbrev set_meta : FileState → Meta
    set_meta q = Is q.kind q.size (set_link q.links b (link_to dir place g))

    abbrev linked : Given
    linked = link_given F dir g name i of place b

    set-links : (f : FileState) → F j ≡ Some f → with_meta (filled linked j f) (set_meta f) ≡ Some h
        → WasLink F j h link
    set-links f is e =
        let s : record (filled linked j f) { links = set_link f.links b (link_to dir place g) } ≡ h =
        some-same _ h e in
        let at = contains-at (set_link f.links b (link_to dir place g)) link
        (subst (λ (q : FileState). Contains q.links link) (sym s) has) in
        elim (set-cases f.links b at.0 link (link_to dir place g) at.1) [
          | inl new ↦ absurd (not-new new)
          | inr old ↦ record {
            file = f;
            is = is;
            generation = sym (ap (λ (q : FileState). q.generation) s);
            kind = sym (ap (λ (q : FileState). q.kind) s);
            has = at-contains f.links at.0 link old;
          }
        ]

    pub link-was : files_after F (link_given F dir g name i of place b) j ≡ Some h → WasLink F j h link
    link-was e = go (F j) refl e
      where
        by : (f : FileState) → F j ≡ Some f → (c : Bool) → is_at i of j f.generation ≡ c
            → after_meta (cond c (Some (meta_with F i (λ q. set_meta q))) None) (filled linked j f) ≡ Some h
            → WasLink F j h link
        by f is false ec q = unchanged linked f is q
        by f is true ec q =
            let at : F i ≡ Some f = ap F (eqb-true i j (and-both (eqb i j) (eqb of f.generation) ec).0) ∙ is in
            let m : meta_with F i (λ q. set_meta q) ≡ set_meta f =
            ap (λ (o : Option FileState). elim o [ None ↦ Gone | Some q ↦ set_meta q ]) at in
            set-links f is (ap (λ (x : Meta). with_meta (filled linked j f) x) (sym m) ∙ q)

        go : (o : Option FileState) → F j ≡ o → file_after linked j o ≡ Some h → WasLink F j h link
        go None eo q = cc q
        go (Some f) eo q = by f eo (is_at i of j f.generation) refl q

  module _ (kind : FileKind) (c : Claims) (q : ℕ) (bottom : F 0 ≡ None) (at : IsDirectory F link.directory q) where
    abbrev made : Given
    made = make_given F dir g name kind c place

    not-first : Contains (link_to dir place g ∷ link_to 0 0 0 ∷ link_to 0 0 0 ∷ link_to 0 0 0 ∷ []) link → ⊥
    not-first there =
        let k = contains-at (link_to dir place g ∷ link_to 0 0 0 ∷ link_to 0 0 0 ∷ link_to 0 0 0 ∷ []) link there in
        elim (first-cases (link_to dir place g) (link_to 0 0 0) k.0 link k.1) [
          | inl new ↦ not-new new
          | inr none ↦
              let z : F 0 ≡ Some at.file = ap F (ap (λ (x : BackLink). x.directory) none) ∙ at.is in
              cc (z, bottom)
        ]

    pub make-was : files_after F (make_given F dir g name kind c place) j ≡ Some h → WasLink F j h link
    make-was e = go (eqb j c.inode) refl e
      where
        by : eqb j c.inode ≡ false → (o : Option FileState) → F j ≡ o → file_after made j o ≡ Some h
            → WasLink F j h link
        by ec None eo x = cc x
        by ec (Some f) eo x =
            let m : made.metas j f.generation ≡ None = rw ec refl in
            unchanged made f eo (sym (ap (λ (o : Option Meta). after_meta o (filled made j f)) m) ∙ x)

        go : (b : Bool) → eqb j c.inode ≡ b
            → file_after made j (born_file (cond b (Some c.generation) None) (F j)) ≡ Some h → WasLink F j h link
        go false ec x = by ec (F j) refl x
        go true ec x =
            let same = eq-eqb c.generation c.generation refl in
            let m : made.metas j c.generation ≡ Some (Is kind 0
            (link_to dir place g ∷ link_to 0 0 0 ∷ link_to 0 0 0 ∷ link_to 0 0 0 ∷ [])) = rw (ec, same) refl in
            let y : with_meta (filled made j (new_file c.generation)) (Is kind 0
            (link_to dir place g ∷ link_to 0 0 0 ∷ link_to 0 0 0 ∷ link_to 0 0 0 ∷ [])) ≡ Some h =
            sym (ap (λ (o : Option Meta). after_meta o (filled made j (new_file c.generation))) m) ∙ x in
            let s = some-same _ h y in
            absurd (not-first (subst (λ (f : FileState). Contains f.links link) (sym s) has))
