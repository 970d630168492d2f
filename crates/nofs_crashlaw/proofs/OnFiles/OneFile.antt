-- A step that changes the content, the size and the blocks of one file, and nothing else.
use Rattle.std.proofs.Common.{◌≡◌, ◌≢◌, ℕ, Bool, true, false, eqb, Option, Some, None, is_some, refl, sym, ap, ◌∙◌}
use Rattle.std.proofs.Common.{subst, subst₂, eqb-true, eq-eqb, ne_eqb}
use Rattle.nofs_inode.specs.declared.inode.FileKind.{FileKind}
use Rattle.nofs_inode.specs.declared.inode.Record.{Record}
use Rattle.nofs_model.specs.Geometry.{Image, inode}
use Rattle.nofs_model.specs.Files.{file_from, files_in, FileState, Files, is_folder}
use Rattle.nofs_history.specs.Machine.{Given, files_after}
use Rattle.nofs_history.specs.History.{FilesMatch, SameFile}
use Rattle.nofs_crashlaw.specs.Untouched.Frames.{Touches, Rewrites, OldPointers, SameIdentity, SameNames}
use Rattle.nofs_history.specs.Gives.{GivesNothing}
use Rattle.nofs_crashlaw.proofs.OnUntouched.Matches.{Matched, matched-file}
use Rattle.nofs_crashlaw.proofs.OnUntouched.Frames.{some-is}
use Rattle.nofs_crashlaw.proofs.OnUntouched.Inodes.{same-file, rewrites}
use Rattle.nofs_crashlaw.proofs.OnUntouched.Agreement.{Alike, Kin, match-alike, same-of, same-alike, alike-sym}
use Rattle.nofs_crashlaw.proofs.OnUntouched.Agreement.{some-alike}
use Rattle.nofs_crashlaw.proofs.OnFiles.Given.{given-elsewhere, same-trans}

-- a step that touches one file and keeps its names: the file in the image, what is rewritten, and what stays of the
-- inode
pub record OwnFile (F : Files) (X Y : Image) (i s : ℕ) : Type 0 where
  pub own : Matched F X i
  pub changes : Rewrites s X Y
  pub same : SameIdentity X Y i

pub touched-file : (F : Files) (X Y : Image) (i s : ℕ) (f : FileState) → FilesMatch F X → F i ≡ Some f
    → Touches s (λ j. eqb j i) X Y → SameNames X Y i
    → OwnFile F X Y i s
touched-file F X Y i s f match is touches names =
    let own = matched-file F X i match (some-is (F i) f is) in record {
      own = own;
      changes = rewrites s (λ j. eqb j i) X Y touches;
      same = record { live = own.live; kind = names.kind; generation = names.generation };
    }

-- what the step gives is that file's alone, which is made of f
pub record GivesFile (F : Files) (given : Given) (i : ℕ) (f made : FileState) : Type 0 where
  pub is : F i ≡ Some f
  pub file : is_folder f.kind ≡ false
  pub elsewhere : (j : ℕ) → j ≢ i → GivesNothing given j
  pub new : files_after F given i ≡ Some made
  pub generation : f.generation ≡ made.generation
  pub kind : f.kind ≡ made.kind
  pub links : f.links ≡ made.links

module _ (F : Files) (given : Given) (X Y : Image) (i s : ℕ) (f made : FileState) (match : FilesMatch F X)
    (gives : GivesFile F given i f made)
    (w : Touches s (λ j. eqb j i) X Y) (names : SameNames X Y i)
    (old : (j : ℕ) → is_some (F j) ≡ true → OldPointers s X j)
    (own : SameFile (files_after F given i) (files_in Y i)) where
  elsewhere : (j : ℕ) → eqb i j ≡ false → SameFile (files_after F given j) (F j)
  elsewhere j e =
      let n = gives.elsewhere j (λ q. let t = eq-eqb i j (sym q) in cc (e, t)) in
      given-elsewhere F given j n.born n.slots n.nodes n.metas

  pub files : (j : ℕ) → Alike (F j) (files_after F given j)
  files j = go (eqb i j) refl
    where
      go : (t : Bool) → eqb i j ≡ t → Alike (F j) (files_after F given j)
      go true e = subst (λ (q : ℕ). Alike (F q) (files_after F given q)) (eqb-true i j e)
          (subst₂ (λ (o p : Option FileState). Alike o p) (sym gives.is) (sym gives.new)
          (record {
            generation = gives.generation;
            kind = gives.kind;
            links = gives.links;
            cells = λ d l lt. let z = gives.file in cc (d, z);
          }))
      go false e = alike-sym (files_after F given j) (F j) (same-alike (files_after F given j) (F j) (elsewhere j e))

  same : (j : ℕ) → is_some (files_after F given j) ≡ true → SameFile (files_after F given j) (files_in Y j)
  same j some = go (eqb i j) refl
    where
      go : (t : Bool) → eqb i j ≡ t → SameFile (files_after F given j) (files_in Y j)
      go true e = subst (λ (q : ℕ). SameFile (files_after F given q) (files_in Y q)) (eqb-true i j e) own
      go false e =
          let there : is_some (F j) ≡ true = some-alike (F j) (files_after F given j) (files j) ∙ some in
          let m = matched-file F X j match there in
          let apart : eqb j i ≡ false = ne_eqb j i (λ q. let t = eq-eqb i j (sym q) in cc (e, t)) in
          same-trans (files_after F given j) (F j) (files_in Y j) (elsewhere j e)
          (same-trans (F j) (files_in X j) (files_in Y j) (same-of F X j match m.agreed)
          (same-file s (λ q. eqb q i) X Y w j apart m.agreed (old j there) m.live))

  kin : (j : ℕ) → Kin (files_in X j) (files_in Y j)
  kin j = go (eqb j i) refl
    where
      both : (n : ℕ) → (inode Y n).kind ≡ (inode X n).kind → (inode Y n).generation ≡ (inode X n).generation
          → (inode Y n).links ≡ (inode X n).links
          → Kin (files_in X n) (files_in Y n)
      both n k g l = by-kind (inode X n).kind refl
        where
          one : (q : Option FileKind) → Kin (file_from X n q) (file_from Y n q)
          one None = tt
          one (Some kind) = record { generation = sym g; kind = refl; links = sym l }

          by-kind : (o : Option FileKind) → (inode X n).kind ≡ o → Kin (files_in X n) (files_in Y n)
          by-kind o e =
              let ky : (inode Y n).kind ≡ o = k ∙ e in
              subst₂ (λ (p q : Option FileKind). Kin (file_from X n p) (file_from Y n q)) (sym e) (sym ky) (one o)

      go : (t : Bool) → eqb j i ≡ t → Kin (files_in X j) (files_in Y j)
      go true e = subst (λ (q : ℕ). Kin (files_in X q) (files_in Y q)) (sym (eqb-true j i e))
          (both i names.kind names.generation names.links)
      go false e = let r = w.records j e in
          both j (ap (λ (q : Record). q.kind) r) (ap (λ (q : Record). q.generation) r) (ap (λ (q : Record). q.links) r)

  -- the machine's files after the step are those of the image after it
  pub one-file : FilesMatch (files_after F given) Y
  one-file = match-alike F (files_after F given) X Y match files same (λ j e. kin j)
