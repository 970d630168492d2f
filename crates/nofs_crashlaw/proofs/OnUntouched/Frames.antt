-- What a step leaves as it was.
use Rattle.std.proofs.Common.{◌≡◌, ℕ, ◌/◌, ◌<◌, ◌≤◌, inl, inr, Bool, true, false, cond, eqb, ltb, ◌&&◌, ◌||◌, List}
use Rattle.std.proofs.Common.{Option, Some, None, is_some, refl, sym, ap, ◌∙◌, subst, arith, Contains, ltb-true}
use Rattle.nofs_inode.specs.declared.inode.FileKind.TheVariants.{Directory as Folder, File}
use Rattle.nofs_model.specs.declared.image.path.PathAnswer.{PathAnswer}
use Rattle.nofs_crashlaw.specs.Untouched.Frames.{Rewrites, SameIdentity, SamePointers, OldPointers}
use Rattle.nofs_model.proofs.OnSlots.Find.{is_tag-true}
use Rattle.nofs_model.proofs.OnFiles.Chains.{pair-of, agreed-holds, holds-agreed}
use Rattle.nofs_model.specs.declared.image.path.PathAnswer.TheVariants as answer
use Rattle.nofs_history.specs.Since.{agreed_files}
use Rattle.nofs_history.specs.History.{FilesMatch, SameFile}
use Rattle.nofs_disk.specs.declared.tag.Cell.{Cell}
use Rattle.nofs_inode.specs.declared.inode.BackLink.{BackLink}
use Rattle.nofs_disk.specs.declared.tag.Tag.{Tag}
use Rattle.nofs_disk.specs.declared.tag.Pointer.{Pointer}
use Rattle.nofs_disk.specs.Tag.{tag_of}
use Rattle.nofs_disk.specs.Pointer.{is_null}
use Rattle.nofs_ptrs.specs.Cells.{pointer_at}
use Rattle.nofs_inode.specs.InodeRecords.{is_live}
use Rattle.nofs_dirent.specs.Entries.{entry_limit}
use Rattle.nofs_ptrs.specs.Paths.{slot_limit, Path, InRecord, Under, IsSlot}
use Rattle.nofs_super.specs.Super.{super_in}
use Rattle.nofs_model.specs.Geometry.{Image, super_at, is_data_block, inode}
use Rattle.nofs_disk.specs.Disk.{cell_at}
use Rattle.nofs_model.specs.Files.{files_in, agreed, Agreed, root, linked, FileState, Files, is_folder, entry_held}
use Rattle.nofs_model.specs.Slots.{tag_for, is_tag, agrees, record_pointer, judged, find, pointer}
use Rattle.nofs_model.specs.Files.{entry_in_file, pairs, is_a, is_pair, links_in_file, links_of, is_root, is_special}
use Rattle.nofs_model.specs.Owners.{IsFree}
use Rattle.nofs_model.specs.declared.image.value.Value.{Value}

module _ (s : ℕ) (X Y : Image) (w : Rewrites s X Y) (i : ℕ) (owned : agreed (files_in X) i ≡ true)
    (same : SameIdentity X Y i) where
  same-super : super_at Y ≡ super_at X
  unfolding super_at
  same-super = ap (λ (c : Cell). super_in c.payload) w.super

  same-area : (p : ℕ) → is_data_block Y p ≡ is_data_block X p
  same-area p = rw same-super

  same-want : (a : Path) (stamp : ℕ) → tag_for Y i a stamp ≡ tag_for X i a stamp
  same-want a stamp = rw (same.kind, same.generation)

  live-same : is_live (inode Y i) ≡ is_live (inode X i)
  live-same = rw same.kind

  other-tag : (o : Option Tag) (t : Tag) → ((u : Tag) → o ≡ Some u → s ≤ u.stamp) → t.stamp < s → is_tag o t ≡ false
  other-tag o t fresh old = go (is_tag o t) refl
    where
      go : (b : Bool) → is_tag o t ≡ b → is_tag o t ≡ false
      go false e = e
      go true e =
          let u : o ≡ Some t = is_tag-true o t e in
          let le = fresh t u in
          absurd (omega (arith, le, old))

  -- a pointer of this inode agrees after the step where it did before
  agrees-same : (a : Path) (x : Pointer) → IsSlot a
      → x.stamp < s → (agrees X i a x ≡ true → find X i a ≡ answer.Holds x) → agrees Y i a x ≡ agrees X i a x
  agrees-same a x slot old holds = go (is_data_block X x.block) refl
    where
      tag-part : is_data_block X x.block ≡ true
          → is_tag (tag_of (cell_at Y x.block).tag) (tag_for X i a x.stamp) ≡ is_tag (tag_of (cell_at X x.block).tag)
          (tag_for X i a x.stamp)
      tag-part area = elim (w.tags x.block area) [
        | inl e ↦ ap (λ (o : Option Tag). is_tag o (tag_for X i a x.stamp)) e
        | inr f ↦ other-tag (tag_of (cell_at Y x.block).tag) (tag_for X i a x.stamp) f.1 old
            ∙ sym (was f.0 (is_tag (tag_of (cell_at X x.block).tag) (tag_for X i a x.stamp)) refl)
      ]
        where
          was : IsFree X x.block → (b : Bool) → is_tag (tag_of (cell_at X x.block).tag) (tag_for X i a x.stamp) ≡ b
              → is_tag (tag_of (cell_at X x.block).tag) (tag_for X i a x.stamp) ≡ false
          was free false e = e
          was free true e =
              let ok : agrees X i a x ≡ true = rw (same.live, area, e) in
              absurd (free i a x slot owned (holds ok) refl)

      go : (b : Bool) → is_data_block X x.block ≡ b → agrees Y i a x ≡ agrees X i a x
      go false e = rw (live-same, same-area x.block, e)
      go true e = rw (live-same, same-area x.block, same-want a x.stamp, tag-part e)

  judged-holds : (a : Path) (x : Pointer) → is_null x ≡ false → agrees X i a x ≡ true → judged X i a x ≡ answer.Holds x
  judged-holds a x n e = rw (n, e)

  pub judged-same : (a : Path) (x : Pointer) → IsSlot a → x.stamp < s → judged X i a x ≡ find X i a
      → judged Y i a x ≡ judged X i a x
  judged-same a x slot old eq = go (is_null x) refl
    where
      go : (n : Bool) → is_null x ≡ n → judged Y i a x ≡ judged X i a x
      go true e = rw e
      go false e =
          let same_agrees = agrees-same a x slot old (λ ok. sym eq ∙ judged-holds a x e ok) in
          rw same_agrees

  pub frame : (path : Path) → IsSlot path → OldPointers s X i → SamePointers X Y i path → find Y i path ≡ find X i path
  frame (InRecord n) slot old p =
      let e = judged-same (InRecord n) (record_pointer (inode X i) n) slot (old (InRecord n) slot) refl in
      ap (λ (x : Pointer). judged Y i (InRecord n) x) p ∙ e
  frame (Under a n) slot old p = under (find X i a) refl (frame a slot.2 old p.0)
    where
      under : (f : PathAnswer) → find X i a ≡ f → find Y i a ≡ find X i a → find Y i (Under a n) ≡ find X i (Under a n)
      under answer.Hole e ih = let y : find Y i a ≡ answer.Hole = ih ∙ e in rw (e, y, find)
      under answer.Lost e ih = let y : find Y i a ≡ answer.Lost = ih ∙ e in rw (e, y, find)
      under (answer.Holds z) e ih =
          let y : find Y i a ≡ answer.Holds z = ih ∙ e in
          let px : pointer X i (Under a n) ≡ pointer_at (cell_at X z.block).payload n = rw (e, pointer) in
          let lt : (pointer_at (cell_at X z.block).payload n).stamp < s =
          subst (λ (q : Pointer). q.stamp < s) px (old (Under a n) slot) in
          let fx : judged X i (Under a n) (pointer_at (cell_at X z.block).payload n) ≡ find X i (Under a n) =
          rw (e, find) in
          let j = judged-same (Under a n) (pointer_at (cell_at X z.block).payload n) slot lt fx in
          rw (e, y, find) (ap (λ (x : Pointer). judged Y i (Under a n) x) (p.1 z e) ∙ j)

-- pairs depend on the two files alone
values-entry : (a b : Value) (e : ℕ) → a ≡ b → entry_held a e ≡ entry_held b e
values-entry a b e h = ap (λ (v : Value). entry_held v e) h

entry-same : (o p : Option FileState) (e : ℕ) → SameFile o p → entry_in_file o e ≡ entry_in_file p e
entry-same None None e h = refl
entry-same None (Some b) e h = absurd h
entry-same (Some a) None e h = absurd h
entry-same (Some a) (Some b) e h = rw h.kind (inside (is_folder b.kind) (ltb e entry_limit) refl)
  where
    inside : (x y : Bool) → ltb e entry_limit ≡ y
        → cond (x && y) (entry_held (a.values (e / 16)) e) None ≡ cond (x && y) (entry_held (b.values (e / 16)) e)
        None
    inside false y ey = refl
    inside true false ey = refl
    inside true true ey =
        let lt : e < entry_limit = ltb-true e entry_limit ey in
        let k : e / 16 < slot_limit = omega (arith, lt) in
        ap (λ (v : Value). entry_held v e) (h.values (e / 16) k)

pub a-same : (o p : Option FileState) (g : ℕ) → SameFile o p → is_a Folder g o ≡ is_a Folder g p
a-same None None g h = refl
a-same None (Some b) g h = absurd h
a-same (Some a) None g h = absurd h
a-same (Some a) (Some b) g h = rw (h.kind, h.generation)

pub pairs-same : (o p u v : Option FileState) (i : ℕ) (link : BackLink) → SameFile o p → SameFile u v
    → pairs o u i link ≡ pairs p v i link
pairs-same None None u v i link own up = refl
pairs-same None (Some b) u v i link own up = absurd own
pairs-same (Some a) None u v i link own up = absurd own
pairs-same (Some a) (Some b) u v i link own up =
    rw (entry-same u v link.entry up, a-same u v link.generation up, own.kind, own.generation)

pub is-file-same : (o p : Option FileState) (g : ℕ) → SameFile o p → is_a File g o ≡ is_a File g p
is-file-same None None g h = refl
is-file-same None (Some b) g h = absurd h
is-file-same (Some a) None g h = absurd h
is-file-same (Some a) (Some b) g h = rw (h.kind, h.generation)

pub some-is : (o : Option FileState) (f : FileState) → o ≡ Some f → is_some o ≡ true
some-is o f e = rw e

pub links-same : (o p : Option FileState) → SameFile o p → is_some o ≡ true → links_in_file o ≡ links_in_file p
links-same None p h e = cc
links-same (Some a) None h e = absurd h
links-same (Some a) (Some b) h e = h.links

some-same : (o p : Option FileState) → SameFile o p → is_some o ≡ true → is_some p ≡ true
some-same None p h e = cc
some-same (Some a) None h e = absurd h
some-same (Some a) (Some b) h e = refl

module _ (F : Files) (Y : Image)
    (match : (i : ℕ) → is_some (F i) ≡ true → SameFile (F i) (files_in Y i))
    (self : (i : ℕ) → is_some (F i) ≡ true → Agreed F i)
    (no_root : (i : ℕ) → is_some (F i) ≡ false → is_root (files_in Y) i ≡ false)
    (no_pair : (i : ℕ) (link : BackLink)
    → is_special i ≡ false → is_some (F i) ≡ false → is_some (F link.directory) ≡ true
    → Contains (links_of (files_in Y) i) link → is_pair (files_in Y) i link ≡ false) where
  root-same : (i : ℕ) → is_root F i ≡ true → is_root (files_in Y) i ≡ true
  root-same i e = go (eqb i 1) (eqb i 2) (is_a Folder 1 (F 1)) refl (is_a File 2 (F 2)) refl e
    where
      one : is_a Folder 1 (F 1) ≡ true → is_a Folder 1 (files_in Y 1) ≡ true
      one e = sym (a-same (F 1) (files_in Y 1) 1 (match 1 (has (F 1) e))) ∙ e
        where
          has : (o : Option FileState) → is_a Folder 1 o ≡ true → is_some o ≡ true
          has None e = cc
          has (Some f) e = refl

      two : is_a File 2 (F 2) ≡ true → is_a File 2 (files_in Y 2) ≡ true
      two e = sym (is-file-same (F 2) (files_in Y 2) 2 (match 2 (has (F 2) e))) ∙ e
        where
          has : (o : Option FileState) → is_a File 2 o ≡ true → is_some o ≡ true
          has None e = cc
          has (Some f) e = refl

      go : (p q a : Bool) → is_a Folder 1 (F 1) ≡ a → (b : Bool) → is_a File 2 (F 2) ≡ b → ((p && a) || (q && b)) ≡ true
          → ((p && is_a Folder 1 (files_in Y 1)) || (q && is_a File 2 (files_in Y 2))) ≡ true
      go true q true ea b eb e = rw (one ea) refl
      go true true false ea true eb e = rw (two eb) (any (is_a Folder 1 (files_in Y 1)))
        where
          any : (z : Bool) → (z || true) ≡ true
          any true = refl
          any false = refl
      go true true false ea false eb e = cc
      go true false false ea b eb e = cc
      go false true a ea true eb e = two eb
      go false true a ea false eb e = cc
      go false false a ea b eb e = cc

  -- what the machine has is agreed in the image
  up : (i : ℕ) → Agreed F i → Agreed (files_in Y) i
  up i (root r) = root (root-same i r)
  up i (linked link plain has pair more) =
      let p = pair-of F i link pair in
      let own = match i (some-is (F i) p.own p.own_is) in
      let parent = match link.directory (some-is (F link.directory) p.parent p.parent_is) in
      let e = pairs-same (F i) (files_in Y i) (F link.directory) (files_in Y link.directory) i link own parent in
      let l : links_of F i ≡ links_of (files_in Y) i =
      links-same (F i) (files_in Y i) own (some-is (F i) p.own p.own_is) in
      linked link plain (subst (λ (ls : List BackLink). Contains ls link) l has) (sym e ∙ pair) (up link.directory more)

  -- and nothing else is
  down : (i : ℕ) → Agreed (files_in Y) i → is_some (F i) ≡ true
  down i (root r) = go (is_some (F i)) refl
    where
      go : (b : Bool) → is_some (F i) ≡ b → is_some (F i) ≡ true
      go true e = e
      go false e = absurd (cc (r, no_root i e))
  down i (linked link plain has pair more) = go (is_some (F i)) refl (down link.directory more)
    where
      go : (b : Bool) → is_some (F i) ≡ b → is_some (F link.directory) ≡ true → is_some (F i) ≡ true
      go true e d = e
      go false e d = absurd (cc (pair, no_pair i link plain e d has))

  pub agreed-are : (i : ℕ) → agreed (files_in Y) i ≡ is_some (F i)
  agreed-are i = go (is_some (F i)) refl (agreed (files_in Y) i) refl
    where
      go : (b : Bool) → is_some (F i) ≡ b → (a : Bool)
          → agreed (files_in Y) i ≡ a → agreed (files_in Y) i ≡ is_some (F i)
      go true e a ea = holds-agreed (files_in Y) i (up i (self i e)) ∙ sym e
      go false e false ea = ea ∙ sym e
      go false e true ea = absurd (cc (e, down i (agreed-holds (files_in Y) i ea)))

  -- so the machine's files are those of the image
  pub files-match : FilesMatch F Y
  unfolding agreed_files
  files-match i = rw (agreed-are i) (go (F i) refl)
    where
      go : (o : Option FileState) → F i ≡ o → SameFile o (cond (is_some o) (files_in Y i) None)
      go None e = tt
      go (Some f) e = subst (λ (q : Option FileState). SameFile q (files_in Y i)) e (match i (some-is (F i) f e))
