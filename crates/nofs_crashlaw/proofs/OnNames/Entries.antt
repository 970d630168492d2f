-- A step that changes one entry of one directory, and the links of one inode: what is agreed after it is what the
-- machine has.
use Rattle.std.proofs.Common.{◌≡◌, ◌≢◌, ℕ, ◌⊎◌, inl, inr, Bool, true, false, eqb, ltb, ◌&&◌, ◌||◌, not, List, Option}
use Rattle.std.proofs.Common.{Some, None, is_some, refl, sym, ap, ◌∙◌, subst, subst₂, arith, Contains, eqb-true}
use Rattle.std.proofs.lemmas.Bool.{cases_eq}
use Rattle.nofs_model.proofs.OnFiles.Chains.{pair-of, agreed-holds, holds-agreed}
use Rattle.nofs_crashlaw.proofs.OnUntouched.Matches.{matched-file, matched-agreed}
use Rattle.nofs_crashlaw.proofs.OnUntouched.Frames.{some-is, files-match}
use Rattle.nofs_crashlaw.proofs.OnUntouched.Agreement.{Alike, same-alike, Kin, KinFiles, both-same, kin-sym, same-of}
use Rattle.nofs_crashlaw.proofs.OnUntouched.Agreement.{agreed-machine, agreed-some, live-some}
use Rattle.nofs_crashlaw.proofs.OnUntouched.Agreement.{links-kin, a-kin, entry-alike, a-alike}
use Rattle.nofs_history.specs.History.{FilesMatch, SameFile}
use Rattle.nofs_inode.specs.declared.inode.FileKind.TheVariants.{File, Directory as Folder}
use Rattle.nofs_inode.specs.declared.inode.BackLink.{BackLink}
use Rattle.nofs_dirent.specs.declared.entry.Entry.{Entry}
use Rattle.nofs_model.specs.Geometry.{Image}
use Rattle.nofs_model.specs.Files.{files_in, agreed, Agreed, root, linked, FileState, Files, is_folder}
use Rattle.nofs_model.specs.Files.{entry_in_file, pairs, names, is_a, is_pair, links_of, is_root, is_special}

-- entry e of the two directories is the same, and so are their kinds and generations
pub record SameDirectory (o p : Option FileState) (e : ℕ) : Type 0 where
  pub is : (g : ℕ) → is_a Folder g o ≡ is_a Folder g p
  pub names : (i g : ℕ) → names (entry_in_file o e) i g ≡ names (entry_in_file p e) i g

-- the two files have one kind and generation
pub pairs-parts : (o p u v : Option FileState) (i : ℕ) (link : BackLink) → Kin o p → SameDirectory u v link.entry
    → pairs o u i link ≡ pairs p v i link
pairs-parts None None u v i link own dir = refl
pairs-parts None (Some b) u v i link own dir = absurd own
pairs-parts (Some a) None u v i link own dir = absurd own
pairs-parts (Some a) (Some b) u v i link own dir =
    rw (own.kind, own.generation, dir.is link.generation, dir.names i b.generation) refl

pub alike-directory : (o p : Option FileState) (e : ℕ) → Alike o p → SameDirectory o p e
alike-directory o p e h = record {
  is = λ g. a-alike Folder o p g h;
  names = λ i g. ap (λ (q : Option Entry). names q i g) (entry-alike o p e h);
}

directory-trans : (o p q : Option FileState) (e : ℕ) → SameDirectory o p e → SameDirectory p q e → SameDirectory o q e
directory-trans o p q e h j = record { is = λ g. h.is g ∙ j.is g; names = λ i g. h.names i g ∙ j.names i g }

directory-sym : (o p : Option FileState) (e : ℕ) → SameDirectory o p e → SameDirectory p o e
directory-sym o p e h = record { is = λ g. sym (h.is g); names = λ i g. sym (h.names i g) }

kin-some : (o p : Option FileState) → Kin o p → is_some o ≡ is_some p
kin-some = both-same KinFiles is_some (λ a b h. refl)

-- the parts of a pair, as tests
pair-names : (o u : Option FileState) (i : ℕ) (link : BackLink)
    → pairs o u i link ≡ true → (g : ℕ) × (names (entry_in_file u link.entry) i g ≡ true)
pair-names None u i link e = cc
pair-names (Some f) u i link e = (
  f.generation,
  both (is_a Folder link.generation u) (names (entry_in_file u link.entry) i f.generation)
      (not (is_folder f.kind) || ltb link.generation f.generation) e,
)
  where
    both : (a b c : Bool) → (a && (b && c)) ≡ true → b ≡ true
    both true true c e = refl
    both true false c e = cc
    both false b c e = cc

module _ (F E : Files) (X Y : Image) (d e i : ℕ) (match : FilesMatch F X)
    -- the step changes links of inode i alone, and entry e of directory d alone
    (own : (j : ℕ) → j ≢ i → Kin (F j) (E j))
    (elsewhere : (j k : ℕ) → is_some (F j) ≡ true → is_some (E j) ≡ true → (j ≡ d → k ≡ e → ⊥)
    → SameDirectory (F j) (E j) k)
    -- before the step no other inode was paired there or below i
    (away : (j : ℕ) (link : BackLink) → j ≢ i → Contains (links_of F j) link
    → is_pair F j link ≡ true → link.directory ≡ d → link.entry ≡ e → ⊥)
    (lone : (j : ℕ) (link : BackLink) → j ≢ i → Contains (links_of F j) link
    → is_pair F j link ≡ true → link.directory ≢ i)
    -- after it none but i is named there, and a new directory has no entries
    (named : (j g : ℕ) → j ≢ i → names (entry_in_file (E d) e) j g ≡ false)
    (empty : is_some (F i) ≡ false → (k j g : ℕ) → names (entry_in_file (E i) k) j g ≡ false)
    -- inode i, where it is still there, is a root or has a pair
    (home : is_some (E i) ≡ true → (is_root E i ≡ true)
    ⊎ ((link : BackLink) × (is_special i ≡ false) × Contains (links_of E i) link ×
    (is_pair E i link ≡ true) × (link.directory ≢ i) × (is_some (F link.directory) ≡ true)))
    -- the image after the step
    (same : (j : ℕ) → is_some (E j) ≡ true → SameFile (E j) (files_in Y j))
    (rest : (j : ℕ) → j ≢ i → is_some (F j) ≡ false → Kin (files_in X j) (files_in Y j))
    (removed : is_some (E i) ≡ false → files_in Y i ≡ None) where
  in-image : (j : ℕ) → is_some (F j) ≡ true → agreed (files_in X) j ≡ true
  in-image j h = (matched-file F X j match h).agreed

  not-agreed : (j : ℕ) → is_some (F j) ≡ false → Agreed (files_in X) j → ⊥
  not-agreed j h a =
      let m = matched-agreed F X j match (live-some X j (agreed-some (files_in X) j a))
      (holds-agreed (files_in X) j a) in
      let s = some-is (F j) m.file m.is in
      cc (h, s)

  root-kin : (G H : Files) (j : ℕ) → ((k : ℕ) → j ≡ k → Kin (G k) (H k)) → is_root G j ≡ true → is_root H j ≡ true
  root-kin G H j kin r = go (eqb j 1) refl (eqb j 2) refl
    where
      go : (p : Bool) → eqb j 1 ≡ p → (q : Bool) → eqb j 2 ≡ q → is_root H j ≡ true
      go true ep true eq = absurd (let a = eqb-true j 1 ep in let b = eqb-true j 2 eq in omega (arith, a, b))
      go true ep false eq = let k = a-kin Folder (G 1) (H 1) 1 (kin 1 (eqb-true j 1 ep)) in rw (eq, ← k) (rw eq at r)
      go false ep true eq = let k = a-kin File (G 2) (H 2) 2 (kin 2 (eqb-true j 2 eq)) in rw (ep, ← k) (rw ep at r)
      go false ep false eq = absurd (let z : is_root G j ≡ false = rw (ep, eq) refl in cc (z, r))

  -- what was agreed stays, but for i
  carry : (j : ℕ) → j ≢ i → Agreed F j → Agreed E j
  carry j ne (root r) = root (root-kin F E j (λ k q. own k (λ s. ne (q ∙ s))) r)
  carry j ne (linked link plain has pair up) =
      let off = lone j link ne has pair in
      let p = pair-of F j link pair in
      let there : is_some (F link.directory) ≡ true = some-is (F link.directory) p.parent p.parent_is in
      let still : is_some (E link.directory) ≡ true =
      sym (kin-some (F link.directory) (E link.directory) (own link.directory off)) ∙ there in
      let dir = elsewhere link.directory link.entry there still (away j link ne has pair) in
      let same_pair = pairs-parts (F j) (E j) (F link.directory) (E link.directory) j link (own j ne) dir in
      let l = links-kin (F j) (E j) (own j ne) in
      linked link plain (subst (λ (ls : List BackLink). Contains ls link) l has) (sym same_pair ∙ pair)
      (carry link.directory off up)

  machine : (j : ℕ) → is_some (F j) ≡ true → Agreed F j
  machine j h = agreed-machine F X match j (agreed-holds (files_in X) j (in-image j h))

  self : (j : ℕ) → is_some (E j) ≡ true → Agreed E j
  self j h = elim (cases_eq j i) [
    | inl at ↦ at-i (subst (λ (q : ℕ). is_some (E q) ≡ true) at h) j at
    | inr ne ↦ carry j ne (machine j (kin-some (F j) (E j) (own j ne) ∙ h))
  ]
    where
      at-i : is_some (E i) ≡ true → (j : ℕ) → j ≡ i → Agreed E j
      at-i h j at = elim (home h) [
        | inl r ↦ subst (λ (q : ℕ). Agreed E q) (sym at) (root r)
        | inr l ↦ subst (λ (q : ℕ). Agreed E q) (sym at)
            (linked l.0 l.1 l.2 l.3 (carry l.0.directory l.4 (machine l.0.directory l.5)))
      ]

  no-root : (j : ℕ) → is_some (E j) ≡ false → is_root (files_in Y) j ≡ false
  no-root j h = go (is_root (files_in Y) j) refl
    where
      go : (b : Bool) → is_root (files_in Y) j ≡ b → is_root (files_in Y) j ≡ false
      go false q = q
      go true q = elim (cases_eq j i) [
        | inl at ↦ (let gone : files_in Y j ≡ None = subst (λ (k : ℕ). files_in Y k ≡ None) (sym at)
            (removed (subst (λ (k : ℕ). is_some (E k) ≡ false) at h)) in
            let some = agreed-some (files_in Y) j (root q) in absurd (none-some (files_in Y j) gone some))
        | inr ne ↦
            let fj : is_some (F j) ≡ false = kin-some (F j) (E j) (own j ne) ∙ h in
            let r : is_root (files_in X) j ≡ true = root-kin (files_in Y) (files_in X) j
            (λ k s. subst (λ (t : ℕ). Kin (files_in Y t) (files_in X t)) s
            (kin-sym (files_in X j) (files_in Y j) (rest j ne fj))) q in
            absurd (not-agreed j fj (root r))
      ]
        where
          none-some : (o : Option FileState) → o ≡ None → is_some o ≡ true → ⊥
          none-some None a b = cc
          none-some (Some f) a b = cc

  no-pair : (j : ℕ) (link : BackLink) → is_special j ≡ false → is_some (E j) ≡ false → is_some (E link.directory) ≡ true
      → Contains (links_of (files_in Y) j) link → is_pair (files_in Y) j link ≡ false
  no-pair j link plain h dir has = go (is_pair (files_in Y) j link) refl
    where
      gone-pair : files_in Y j ≡ None → is_pair (files_in Y) j link ≡ true → ⊥
      gone-pair n q = let p = pair-of (files_in Y) j link q in cc (n, p.own_is)

      go : (b : Bool) → is_pair (files_in Y) j link ≡ b → is_pair (files_in Y) j link ≡ false
      go false q = q
      go true q = absurd (elim (cases_eq j i) [
        | inl at ↦ gone-pair (subst (λ (k : ℕ). files_in Y k ≡ None) (sym at)
            (removed (subst (λ (k : ℕ). is_some (E k) ≡ false) at h))) q
        | inr ne ↦ other ne q
      ])
        where
          other : j ≢ i → is_pair (files_in Y) j link ≡ true → ⊥
          other ne q = at-directory (is_some (F link.directory)) refl
            where
              fj : is_some (F j) ≡ false
              fj = kin-some (F j) (E j) (own j ne) ∙ h

              -- in terms of the machine's directory
              dir_same : SameDirectory (E link.directory) (files_in Y link.directory) link.entry
              dir_same = alike-directory (E link.directory) (files_in Y link.directory) link.entry
                  (same-alike (E link.directory) (files_in Y link.directory) (same link.directory dir))

              is-named : (g : ℕ) × (names (entry_in_file (E link.directory) link.entry) j g ≡ true)
              is-named = let n = pair-names (files_in Y j) (files_in Y link.directory) j link q in
                  (n.0, dir_same.names j n.0 ∙ n.1)

              at-directory : (b : Bool) → is_some (F link.directory) ≡ b → ⊥
              at-directory false fd = elim (cases_eq link.directory i) [
                | inl at ↦ (let z = empty (subst (λ (k : ℕ). is_some (F k) ≡ false) at fd) link.entry j is-named.0 in
                    let n : names (entry_in_file (E i) link.entry) j is-named.0 ≡ true =
                    subst (λ (k : ℕ). names (entry_in_file (E k) link.entry) j is-named.0 ≡ true) at is-named.1 in
                    cc (z, n))
                | inr off ↦ (let z = kin-some (F link.directory) (E link.directory) (own link.directory off) in
                    cc (fd, dir, z))
              ]
              at-directory true fd = elim (cases_eq link.directory d) [
                | inl at ↦ elim (cases_eq link.entry e) [
                  | inl here ↦ (let z = named j is-named.0 ne in
                      let n : names (entry_in_file (E d) e) j is-named.0 ≡ true =
                      subst₂ (λ (k l : ℕ). names (entry_in_file (E k) l) j is-named.0 ≡ true) at here is-named.1 in
                      cc (z, n))
                  | inr there ↦ was (λ a b. there b)
                ]
                | inr off ↦ was (λ a b. off a)
              ]
                where
                  -- it was a pair before the step
                  was : (link.directory ≡ d → link.entry ≡ e → ⊥) → ⊥
                  was apart =
                      let ad = in-image link.directory fd in
                      let x0 : SameDirectory (F link.directory) (files_in X link.directory) link.entry =
                      alike-directory (F link.directory) (files_in X link.directory) link.entry
                      (same-alike (F link.directory) (files_in X link.directory)
                      (same-of F X link.directory match ad)) in
                      let x1 = directory-sym (F link.directory) (files_in X link.directory) link.entry x0 in
                      let x2 = directory-trans (files_in X link.directory) (F link.directory)
                      (E link.directory) link.entry x1
                      (elsewhere link.directory link.entry fd dir apart) in
                      let x3 = directory-trans (files_in X link.directory) (E link.directory)
                      (files_in Y link.directory) link.entry x2 dir_same in
                      let k = rest j ne fj in
                      let p = pairs-parts (files_in X j) (files_in Y j) (files_in X link.directory)
                      (files_in Y link.directory) j link k x3 in
                      let l = links-kin (files_in X j) (files_in Y j) k in
                      not-agreed j fj
                      (linked link plain (subst (λ (ls : List BackLink). Contains ls link) (sym l) has) (p ∙ q)
                      (agreed-holds (files_in X) link.directory ad))

  pub match-entry : FilesMatch E Y
  match-entry = files-match E Y same self no-root no-pair
