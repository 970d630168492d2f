-- What a step leaves of these disks: its blocks and records, each compared with what stood there.
use Rattle.std.proofs.Common.{◌≡◌, ◌≢◌, ℕ, suc, ◌+◌, ◌/◌, ◌≤◌, ◌⊎◌, inl, Bool, true, false, leb, ltb, eqb, ◌&&◌, Some}
use Rattle.std.proofs.Common.{refl, sym, ap, ◌∙◌, subst, arith}
use Rattle.nofs_disk.specs.declared.tag.Cell.{Cell}
use Rattle.nofs_disk.specs.declared.tag.Tag.{Tag}
use Rattle.nofs_disk.specs.declared.tag.Pointer.{Pointer}
use Rattle.nofs_inode.specs.declared.inode.Record.{Record}
use Rattle.nofs_super.specs.declared.superblock.SuperBlock.{SuperBlock}
use Rattle.nofs_disk.specs.Tag.{tag_of}
use Rattle.nofs_inode.specs.InodeRecords.{free_record}
use Rattle.nofs_disk.specs.Pointer.{null}
use Rattle.nofs_model.specs.Geometry.{Image, is_data_block, inode}
use Rattle.nofs_disk.specs.Disk.{cell_at}
use Rattle.nofs_ptrs.specs.Paths.{Path, slot_of}
use Rattle.nofs_model.specs.Slots.{find, record_pointer, kind_in, tag_for}
use Rattle.nofs_model.specs.Owners.{IsFree}
use Rattle.nofs_model.specs.declared.image.path.PathAnswer.TheVariants as answer
use Rattle.nofs_crashlaw.specs.Untouched.Frames.{Touches, SameNames, SameMeta}
use Rattle.nofs_cases.specs.Disks.Images.{image_of}
use Rattle.nofs_cases.proofs.OnDisks.Images.{nth, root_record, HasRecords, inode-is, numbers-are, not-data-one}
use Rattle.nofs_cases.proofs.OnDisks.Numbers.{each-number}

-- Blocks

-- the data area begins at block 2
pub each-block : (P : ℕ → Type 0) (t x y : Cell) → P 2 → P 3 → ((n : ℕ) → P (suc (suc (suc (suc n)))))
    → (b : ℕ) → is_data_block (image_of t x y) b ≡ true → P b
each-block P t x y two three rest =
    each-number (λ n. is_data_block (image_of t x y) n ≡ true → P n) (λ d. let n = not-data-zero in cc (n, d))
    (λ d. let n = not-data-one t x y in cc (n, d))
    (λ d. two) (λ d. three) (λ n d. rest n)
  where
    not-data-zero : is_data_block (image_of t x y) 0 ≡ false
    not-data-zero = ap (λ (n : SuperBlock). leb (1 + n.inodes / 4) 0 && ltb 0 n.blocks) (numbers-are t x y)

-- a block as a step on these inodes may leave it
abbrev pub TouchedBlock : ℕ → (ℕ → Bool) → Image → Image → ℕ → Type 0
TouchedBlock s touched X Y b = (cell_at Y b ≡ cell_at X b)
    ⊎ ((IsFree X b × ((t : Tag) → tag_of (cell_at Y b).tag ≡ Some t → s ≤ t.stamp))
    ⊎ ((tag_of (cell_at Y b).tag ≡ tag_of (cell_at X b).tag)
    × ((i : ℕ) × (path : Path) × (x : Pointer) × (touched i ≡ true) × (find X i path ≡ answer.Holds x)
    × (x.block ≡ b))))

-- the stamp of a cell with this tag
pub stamp-is : (s : ℕ) (c : Cell) (t : Tag) → tag_of c.tag ≡ Some t
    → s ≤ t.stamp → (u : Tag) → tag_of c.tag ≡ Some u → s ≤ u.stamp
stamp-is s c t e low u f = subst (λ (q : Tag). s ≤ q.stamp) (same t u (sym e ∙ f)) low
  where
    same : (t u : Tag) → Some t ≡ Some u → t ≡ u
    same t u h = cc h

-- the tag of a block in this slot
pub tag-is : (X : Image) (i : ℕ) (path : Path) (r : Record) (c : Cell) (stamp : ℕ) → inode X i ≡ r
    → tag_of c.tag
    ≡ Some (record { kind = kind_in r path; inode = i; generation = r.generation; slot = slot_of path; stamp = stamp })
    → tag_of c.tag ≡ Some (tag_for X i path stamp)
tag-is X i path r c stamp e is =
    is ∙ sym (ap (λ (q : Record). Some
    (record { kind = kind_in q path; inode = i; generation = q.generation; slot = slot_of path; stamp = stamp })) e)

-- Records

-- all but inode 2, and all but inode 3
pub but-two : (a b d c : Record) (j : ℕ) → eqb j 2 ≡ false → nth a b c j ≡ nth a d c j
but-two a b d c = each-number (λ j. eqb j 2 ≡ false → nth a b c j ≡ nth a d c j) (λ e. refl) (λ e. refl) (λ e. cc e)
    (λ e. refl) (λ n e. refl)

pub but-three : (r s c d : Record) (j : ℕ) → j ≢ 3 → nth r s c j ≡ nth r s d j
but-three r s c d =
    each-number (λ j. j ≢ 3 → nth r s c j ≡ nth r s d j) (λ ne. refl) (λ ne. refl) (λ ne. refl)
    (λ ne. absurd (ne refl)) (λ n ne. refl)

-- all but inodes 1 and 3
pub but-one-and-three : (a b s c d : Record) (j : ℕ) → j ≢ 1 → j ≢ 3 → nth a s c j ≡ nth b s d j
but-one-and-three a b s c d =
    each-number (λ j. j ≢ 1 → j ≢ 3 → nth a s c j ≡ nth b s d j) (λ n1 n3. refl) (λ n1 n3. absurd (n1 refl))
    (λ n1 n3. refl) (λ n1 n3. absurd (n3 refl))
    (λ n n1 n3. refl)

-- all of a record's pointers but the leaf's
pub but-leaf : (r : Record) (x : Pointer) (n : ℕ)
    → n ≢ 8 → record_pointer (record r { leaf = x }) n ≡ record_pointer r n
but-leaf r x n ne = rw (not-leaf n ne) refl
  where
    not-leaf : (n : ℕ) → n ≢ 8 → eqb n 8 ≡ false
    not-leaf n ne = grind (arith, ne)

module _ (X Y : Image) (i : ℕ) (q r : Record) (before : inode X i ≡ q) (after : inode Y i ≡ r) where
  -- a record with another size and other pointers
  pub same-names : r ≡ record q { size = r.size; direct = r.direct; leaf = r.leaf; top = r.top } → SameNames X Y i
  same-names e = record {
    kind = ap (λ (w : Record). w.kind) (after ∙ e) ∙ sym (ap (λ (w : Record). w.kind) before);
    generation = ap (λ (w : Record). w.generation) (after ∙ e) ∙ sym (ap (λ (w : Record). w.generation) before);
    links = ap (λ (w : Record). w.links) (after ∙ e) ∙ sym (ap (λ (w : Record). w.links) before);
  }

  -- one with other pointers alone
  pub same-meta : r ≡ record q { direct = r.direct; leaf = r.leaf; top = r.top } → SameMeta X Y i
  same-meta e = record {
    kind = ap (λ (w : Record). w.kind) (after ∙ e) ∙ sym (ap (λ (w : Record). w.kind) before);
    generation = ap (λ (w : Record). w.generation) (after ∙ e) ∙ sym (ap (λ (w : Record). w.generation) before);
    size = ap (λ (w : Record). w.size) (after ∙ e) ∙ sym (ap (λ (w : Record). w.size) before);
    links = ap (λ (w : Record). w.links) (after ∙ e) ∙ sym (ap (λ (w : Record). w.links) before);
  }

-- A step on the label file: blocks 2 and 3 may be its, and no other record changes
module _ (s : ℕ) (t x y u v w : Cell) (q r : Record) (before : HasRecords t (root_record null) q free_record)
    (after : HasRecords u (root_record null) r free_record) where
  pub label-touches : TouchedBlock s (λ j. eqb j 2) (image_of t x y) (image_of u v w) 2
      → TouchedBlock s (λ j. eqb j 2) (image_of t x y) (image_of u v w) 3
      → Touches s (λ j. eqb j 2) (image_of t x y) (image_of u v w)
  label-touches two three = record {
    super = refl;
    records = λ j e. inode-is u v w (root_record null) r free_record after j
        ∙ but-two (root_record null) r q free_record j e
        ∙ sym (inode-is t x y (root_record null) q free_record before j);
    blocks = each-block (λ b. TouchedBlock s (λ j. eqb j 2) (image_of t x y) (image_of u v w) b) t x y two three
        (λ n. inl refl);
  }
