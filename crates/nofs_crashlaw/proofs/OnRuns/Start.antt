-- The first world of a base that a mount leaves is sane.
use Rattle.std.proofs.Common.{◌≡◌, ℕ, ◌+◌, ◌-◌, ◌*◌, ◌/◌, ◌%◌, ◌^◌, ◌<◌, ◌≤◌, Bool, true, false, cond, leb, ltb}
use Rattle.std.proofs.Common.{leb-true, ltb-true, ◌&&◌, List, length}
use Rattle.std.proofs.Common.{Option, Some, None, is_some, refl, sym, ap, ◌∙◌, subst, arith}
use Rattle.std.specs.List.{list_all}
use Rattle.std.proofs.lemmas.List.{length-replicate}
use Rattle.nofs_inode.specs.InodeRecords.{has_rest, allows_record, allows_kind, is_tidy_link, fields_in}
use Rattle.nofs_super.specs.Geometry.{IsGeometry}
use Rattle.nofs_inode.specs.declared.inode.FileKind.{FileKind}
use Rattle.nofs_inode.specs.declared.inode.Record.{Record}
use Rattle.nofs_inode.specs.InodeRecords.{is_live, record_at, record_of}
use Rattle.nofs_model.specs.declared.image.path.PathAnswer.{PathAnswer}
use Rattle.nofs_model.specs.declared.image.path.PathAnswer.TheVariants as answer
use Rattle.nofs_model.specs.declared.image.value.Value.{Value}
use Rattle.nofs_model.specs.Geometry.{Image, super_at, inode}
use Rattle.nofs_disk.specs.Disk.{cell_at}
use Rattle.nofs_model.specs.Files.{Agreed, FileState, files_in, agreed, file_from}
use Rattle.nofs_ptrs.specs.Paths.{path_of}
use Rattle.nofs_model.specs.Slots.{find, value, value_in}
use Rattle.nofs_model.proofs.OnSlots.Find.{and-both, find-held}
use Rattle.nofs_model.proofs.OnFiles.Chains.{agreed-holds}
use Rattle.nofs_model.proofs.OnSound.Writes.{mountable-law}
use Rattle.nofs_history.specs.Machine.{bytes_in}
use Rattle.nofs_history.specs.Since.{agreed_files}
use Rattle.nofs_history.specs.World.{world_of}
use Rattle.nofs_crashlaw.proofs.OnUntouched.Agreement.{agreed-machine}
use Rattle.nofs_crashlaw.proofs.OnUntouched.Frames.{some-is}
use Rattle.nofs_crashlaw.proofs.OnUntouched.Matches.{Matched, matched-file}
use Rattle.nofs_crashlaw.proofs.OnHistories.Unflushed.{self-match}
use Rattle.nofs_crashlaw.proofs.OnImages.Below.{live-stands, live-below}
use Rattle.nofs_crashlaw.proofs.OnNames.InPlace.{no-file-zero}
use Rattle.nofs_crashlaw.specs.Runs.Bases.{IsBase}
use Rattle.nofs_crashlaw.proofs.OnRuns.PairEntries.{Spelled}
use Rattle.nofs_crashlaw.proofs.OnRuns.Links.{IsSane}

-- a record in use has a generation
record-generation : (payload : List ℕ) (j : ℕ)
    → is_live (record_at payload j) ≡ true → 1 ≤ (record_at payload j).generation
unfolding record_at record_of
record-generation payload j live =
    go (fields_in (256 * j) payload) (has_rest (256 * j) payload (fields_in (256 * j) payload)) live
  where
    by-kind : (r : Record) (o : Option FileKind)
        → r.kind ≡ o → is_live r ≡ true → allows_record o r ≡ true → 1 ≤ r.generation
    by-kind r None e l a = absurd (let z : is_live r ≡ false = ap is_some e in cc (z, l))
    by-kind r (Some kind) e l a =
        let x = and-both (leb 1 r.generation && list_all is_tidy_link r.links) (allows_kind kind r) a in
        leb-true 1 r.generation (and-both (leb 1 r.generation) (list_all is_tidy_link r.links) x.0).0

    spelled : (r : Record) (b : Bool) → allows_record r.kind r ≡ b
        → is_live (Rattle.nofs_inode.specs.InodeRecords.record_or_free (cond b (Some r) None)) ≡ true
        → 1 ≤ (Rattle.nofs_inode.specs.InodeRecords.record_or_free (cond b (Some r) None)).generation
    spelled r true e l = by-kind r r.kind refl l e
    spelled r false e l = cc l

    go : (r : Record) (b : Bool) → is_live
        (Rattle.nofs_inode.specs.InodeRecords.record_or_free (cond (b && allows_record r.kind r) (Some r) None)) ≡ true
        → 1 ≤ (Rattle.nofs_inode.specs.InodeRecords.record_or_free
        (cond (b && allows_record r.kind r) (Some r) None)).generation
    go r true l = spelled r (allows_record r.kind r) refl l
    go r false l = cc l

module _ (B : Image) (first : ℕ) (base : IsBase B first) where
  geometry : IsGeometry (length B) (super_at B).blocks (super_at B).inodes
  geometry = ((mountable-law B).1 base.mountable).fits

  matched : (i : ℕ) (f : FileState) → agreed_files B i ≡ Some f → Matched (agreed_files B) B i
  matched i f is = matched-file (agreed_files B) B i (self-match B) (some-is (agreed_files B i) f is)

  same-file : (i : ℕ) (f : FileState) (is : agreed_files B i ≡ Some f) → (matched i f is).file ≡ f
  same-file i f is = let m = (matched i f is).is in cc (m, is)

  generation : (i : ℕ) (f : FileState) → agreed_files B i ≡ Some f → f.generation ≡ (inode B i).generation
  generation i f is = sym (ap (λ (q : FileState). q.generation) (same-file i f is)) ∙ (matched i f is).generation

  young : (i : ℕ) (f : FileState) → agreed_files B i ≡ Some f → f.generation < (super_at B).mount * 2 ^ 40 + first
  young i f is =
      let lt = live-below B ((super_at B).mount * 2 ^ 40 + first) (super_at B).blocks base.below
      (omega arith) geometry.table i (matched i f is).live in
      let e = generation i f is in
      omega (arith, lt, e)

  numbers : (i : ℕ) (f : FileState) → agreed_files B i ≡ Some f → Spelled i f.generation
  numbers i f is =
      let st = live-stands B i (matched i f is).live in
      let both = and-both (leb 1 i) (leb i (super_at B).inodes) st.range in
      let low = leb-true 1 i both.0 in
      let high = leb-true i (super_at B).inodes both.1 in
      let most = geometry.most_inodes in
      let y = young i f is in
      let mount = base.mount in
      let serial = base.serial in
      let e = generation i f is in
      let live : is_live (record_at (cell_at B (1 + (i - 1) / 4)).payload ((i - 1) % 4)) ≡ true =
      subst (λ (r : Record). is_live r ≡ true) st.same (matched i f is).live in
      let g = record-generation (cell_at B (1 + (i - 1) / 4)).payload ((i - 1) % 4) live in
      let same : (inode B i).generation ≡ (record_at (cell_at B (1 + (i - 1) / 4)).payload ((i - 1) % 4)).generation =
      ap (λ (r : Record). r.generation) st.same in
      record {
        some = low;
        small = omega (arith, high, most);
        from = omega (arith, g, same, e);
        below = omega (arith, y, mount, serial);
      }

  whole-value : (i k : ℕ) → length (bytes_in (value B i k)) ≡ 1024
  whole-value i k = go (find B i (path_of k)) refl
    where
      go : (a : PathAnswer) → find B i (path_of k) ≡ a → length (bytes_in (value_in B a)) ≡ 1024
      go answer.Hole e = length-replicate {A = ℕ} 1024 0
      go answer.Lost e = length-replicate {A = ℕ} 1024 0
      go (answer.Holds x) e =
          let h = find-held B i (path_of k) x e in
          let a = and-both (leb (1 + (super_at B).inodes / 4) x.block)
          (ltb x.block (super_at B).blocks) h.agrees.area in
          let lt = ltb-true x.block (super_at B).blocks a.1 in
          let fits = geometry.fits in
          (base.sized x.block (omega (arith, lt, fits))).payload.len

  whole : (i : ℕ) (f : FileState) → agreed_files B i ≡ Some f → (k : ℕ) → length (bytes_in (f.values k)) ≡ 1024
  unfolding agreed_files
  whole i f is k = go (agreed (files_in B) i) (inode B i).kind refl is
    where
      go : (a : Bool) (o : Option FileKind) → (inode B i).kind ≡ o → cond a (file_from B i o) None ≡ Some f
          → length (bytes_in (f.values k)) ≡ 1024
      go false o eo h = cc h
      go true None eo h = cc h
      go true (Some kind) eo h =
          let s : value B i ≡ f.values =
          ap (λ (o : Option FileState). elim o [ None ↦ value B i | Some q ↦ q.values ]) h in
          subst (λ (v : ℕ → Value). length (bytes_in (v k)) ≡ 1024) s (whole-value i k)

  rooted : (i : ℕ) (f : FileState) → agreed_files B i ≡ Some f → Agreed (agreed_files B) i
  rooted i f is =
      agreed-machine (agreed_files B) B (self-match B) i (agreed-holds (files_in B) i (matched i f is).agreed)

  pub sane-start : IsSane (world_of B first)
  unfolding world_of
  sane-start = record {
    inodes = let most = geometry.most_inodes in omega (arith, most);
    mount = base.mount;
    positive = base.positive;
    bottom = no-file-zero (agreed_files B) B (self-match B);
    numbers = numbers;
    young = young;
    whole = λ i f is dir k. whole i f is k;
    rooted = λ i f is dir. rooted i f is;
  }

  pub files-start : (world_of B first).files ≡ agreed_files B
  unfolding world_of
  files-start = refl
