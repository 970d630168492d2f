-- The file after a Put, wherever its slot lies.
use Rattle.std.proofs.Common.{◌≡◌, ◌≢◌, ℕ, ◌+◌, ◌*◌, ◌<◌, max, Bool, true, false, cond, eqb, ◌&&◌, List, length, Option}
use Rattle.std.proofs.Common.{Some, None, unwrap_or, refl, sym, ap, ◌∙◌, subst, subst₂, eqb-true, eq-eqb, ne_eqb}
use Rattle.nofs_inode.specs.declared.inode.FileKind.{FileKind}
use Rattle.nofs_ptrs.specs.Paths.{slot_limit, Path, path_of, is_pointer_slot, IsSlot}
use Rattle.nofs_model.specs.Geometry.{Image, inode}
use Rattle.nofs_model.specs.Files.{file_from, files_in, node_in, Present, FileState, Files, is_folder}
use Rattle.nofs_model.specs.Slots.{value, find}
use Rattle.nofs_model.specs.declared.image.value.Value.TheVariants.{Bytes}
use Rattle.nofs_history.specs.Meta.{Meta, Gone, Is}
use Rattle.nofs_history.specs.Machine.{put_given, put_content, meta_with, is_at, filled, after_meta, file_after}
use Rattle.nofs_history.specs.Machine.{files_after, value_of, size_of, lies_above}
use Rattle.nofs_history.specs.History.{FilesMatch, SameFile}
use Rattle.nofs_crashlaw.specs.Untouched.Frames.{SameNames}
use Rattle.nofs_history.specs.Gives.{GivesNothing}
use Rattle.nofs_crashlaw.proofs.OnUntouched.Agreement.{file-in}
use Rattle.nofs_crashlaw.proofs.OnFiles.Given.{at-itself, value-of, size-of}
use Rattle.nofs_crashlaw.proofs.OnFiles.OneFile.{GivesFile}

module _ (F : Files) (i g k at : ℕ) (bytes : List ℕ) (f : FileState) (is : F i ≡ Some f) (gen : f.generation ≡ g)
    (file : is_folder f.kind ≡ false) where
  abbrev pub put-made : FileState
  put-made = record {
    generation = f.generation;
    kind = f.kind;
    size = max f.size (1024 * k + at + length bytes);
    links =
        f.links;
    values = (filled (put_given F i g k at bytes) i f).values;
    nodes = (filled (put_given F i g k at bytes) i f).nodes;
  }

  meta-here : (put_given F i g k at bytes).metas i f.generation
      ≡ Some (Is f.kind (max f.size (1024 * k + at + length bytes)) f.links)
  meta-here = subst (λ (q : ℕ). (put_given F i g k at bytes).metas i q
      ≡ Some (Is f.kind (max f.size (1024 * k + at + length bytes)) f.links)) (sym gen)
      (rw (at-itself i g) (ap (λ (o : Option FileState). Some
      (elim o [ None ↦ Gone | Some h ↦ Is h.kind (max h.size (1024 * k + at + length bytes)) h.links ])) is))

  pub put-new : files_after F (put_given F i g k at bytes) i ≡ Some put-made
  put-new = ap (λ (o : Option FileState). file_after (put_given F i g k at bytes) i o) is
      ∙ ap (λ (o : Option Meta). after_meta o (filled (put_given F i g k at bytes) i f)) meta-here

  -- what is given, and to whom
  pub put-gives : GivesFile F (put_given F i g k at bytes) i f put-made
  put-gives =
      record { is = is; file = file; elsewhere = other; new = put-new; generation = refl; kind = refl; links = refl }
    where
      other : (j : ℕ) → j ≢ i → GivesNothing (put_given F i g k at bytes) j
      other j ne =
          let e : eqb i j ≡ false = ne_eqb i j (λ q. ne (sym q)) in
          record {
            born = refl;
            slots = λ h l. ap (λ (b : Bool). cond ((b && eqb g h) && eqb k l)
                (Some (Bytes (put_content (value_of F i k) (size_of F i) k at bytes))) None) e;
            nodes = λ h path.
                ap (λ (b : Bool). cond ((b && eqb g h) && lies_above path (path_of k)) (Some Present) None) e;
            metas = λ h. ap (λ (b : Bool). cond (b && eqb g h)
                (Some (meta_with F i (λ q. Is q.kind (max q.size (1024 * k + at + length bytes)) q.links)))
                None) e;
          }

  pub put-slot : (put_given F i g k at bytes).slots i g k ≡ Some (Bytes (put_content (f.values k) f.size k at bytes))
  put-slot = rw (at-itself i g, eq-eqb k k refl) (rw (value-of F i f is k, size-of F i f is) refl)

  pub put-meta : (put_given F i g k at bytes).metas i g
      ≡ Some (Is f.kind (max f.size (1024 * k + at + length bytes)) f.links)
  put-meta = subst (λ (q : ℕ). (put_given F i g k at bytes).metas i q
      ≡ Some (Is f.kind (max f.size (1024 * k + at + length bytes)) f.links)) gen meta-here

  module _ (X Y : Image) (match : FilesMatch F X) (names : SameNames X Y i)
      (size : (inode Y i).size ≡ max f.size (1024 * k + at + length bytes))
      (here : value Y i k ≡ Bytes (put_content (f.values k) f.size k at bytes))
      (beside : (l : ℕ) → l < slot_limit → l ≢ k → value Y i l ≡ value X i l)
      (on : (path : Path) → IsSlot path → lies_above path (path_of k) ≡ true → node_in (find Y i path) ≡ Present)
      (off : (path : Path) → IsSlot path
      → is_pointer_slot path ≡ true → lies_above path (path_of k) ≡ false → find Y i path ≡ find X i path) where
    at-here : is_at i g i f.generation ≡ true
    at-here = subst (λ (q : ℕ). is_at i g i q ≡ true) (sym gen) (at-itself i g)

    new-value : (l : ℕ) → l < slot_limit → (filled (put_given F i g k at bytes) i f).values l ≡ value Y i l
    new-value l lt = unfold-it ∙ go (eqb k l) refl
      where
        unfold-it : (filled (put_given F i g k at bytes) i f).values l ≡ unwrap_or
            (cond (true && eqb k l) (Some (Bytes (put_content (value_of F i k) (size_of F i) k at bytes))) None)
            (f.values l)
        unfold-it = ap (λ (b : Bool).
            unwrap_or (cond (b && eqb k l) (Some (Bytes (put_content (value_of F i k) (size_of F i) k at bytes))) None)
            (f.values l)) at-here

        go : (t : Bool) → eqb k l ≡ t → unwrap_or
            (cond (true && eqb k l) (Some (Bytes (put_content (value_of F i k) (size_of F i) k at bytes))) None)
            (f.values l) ≡ value Y i l
        go true e =
            let kl = eqb-true k l e in
            rw (e, value-of F i f is k, size-of F i f is)
            (sym (subst (λ (q : ℕ). value Y i q ≡ Bytes (put_content (f.values k) f.size k at bytes)) kl here))
        go false e =
            let ne : l ≢ k = λ q. let t = eq-eqb k l (sym q) in cc (e, t) in
            rw e ((file-in F X i f match is).1.values l lt ∙ sym (beside l lt ne))

    new-node : (path : Path) → IsSlot path
        → is_pointer_slot path ≡ true → (filled (put_given F i g k at bytes) i f).nodes path ≡ node_in (find Y i path)
    new-node path slot p = unfold-it ∙ go (lies_above path (path_of k)) refl
      where
        unfold-it : (filled (put_given F i g k at bytes) i f).nodes path
            ≡ unwrap_or (cond (true && lies_above path (path_of k)) (Some Present) None)
            (f.nodes path)
        unfold-it = ap (λ (b : Bool). unwrap_or (cond (b && lies_above path (path_of k)) (Some Present) None)
            (f.nodes path)) at-here

        go : (t : Bool) → lies_above path (path_of k) ≡ t
            → unwrap_or (cond (true && lies_above path (path_of k)) (Some Present) None) (f.nodes path)
            ≡ node_in (find Y i path)
        go true e = rw e (sym (on path slot e))
        go false e = rw e ((file-in F X i f match is).1.nodes path slot p ∙ sym (ap node_in (off path slot p e)))

    pub put-own : SameFile (files_after F (put_given F i g k at bytes) i) (files_in Y i)
    put-own =
        let x = file-in F X i f match is in
        let ky : (inode Y i).kind ≡ Some f.kind = names.kind ∙ x.0 in
        subst₂ (λ (o : Option FileState) (q : Option FileKind). SameFile o (file_from Y i q)) (sym put-new)
        (sym ky) (record {
          generation = x.1.generation ∙ sym names.generation;
          kind = refl;
          size = sym size;
          links = x.1.links ∙ sym names.links;
          values = new-value;
          nodes = new-node;
        })
