-- The disk after a new entry was written: its slot, what was claimed for it, and the records.
use Rattle.std.proofs.Common.{◌≡◌, ◌≢◌, ℕ, ◌+◌, ◌-◌, ◌*◌, ◌/◌, ◌%◌, ◌^◌, ◌<◌, ◌≤◌, ◌⊎◌, inl, inr, Bool, true, false}
use Rattle.std.proofs.Common.{cond, eqb, eqb-true, leb, leb-true, ◌&&◌}
use Rattle.std.proofs.Common.{List, [], ◌∷◌, length, get_or, Some, None, refl, sym, ap, ◌∙◌, subst, arith}
use Rattle.std.specs.Prelude.{slice_set}
use Rattle.std.proofs.lemmas.Bool.{cases_eq, cases_lt}
use Rattle.std.proofs.lemmas.Bool.Decides.{nat_tests}
use Rattle.std.proofs.lemmas.List.{get_or-set_same, get_or-set_other}
use Rattle.nofs_disk.specs.Disk.{cell_at, no_cell}
use Rattle.nofs_disk.specs.Number.{zeros}
use Rattle.nofs_inode.specs.InodeRecords.{record_or_free, record_at, record_of, fields_in, free_record}
use Rattle.nofs_inode.specs.declared.inode.FileKind.TheVariants.{Directory as Folder}
use Rattle.nofs_disk.specs.declared.tag.Cell.{Cell}
use Rattle.nofs_disk.specs.declared.tag.Kind.TheVariants.{Directory, Leaf}
use Rattle.nofs_dirent.specs.declared.entry.Entry.{Entry}
use Rattle.nofs_disk.specs.declared.tag.Pointer.{Pointer}
use Rattle.nofs_inode.specs.declared.inode.Record.{Record}
use Rattle.nofs_disk.specs.Pointer.{null}
use Rattle.nofs_super.specs.declared.superblock.SuperBlock.{SuperBlock}
use Rattle.nofs_disk.specs.Tag.{tag_of}
use Rattle.nofs_dirent.specs.Entries.{spelled_entry}
use Rattle.nofs_model.specs.Geometry.{Image, super_at, is_inode, inode}
use Rattle.nofs_ptrs.specs.Paths.{InRecord, leaf, path_of, slot_of, is_pointer_slot}
use Rattle.nofs_model.specs.Slots.{tag_for, kind_in, record_pointer}
use Rattle.nofs_model.specs.declared.image.value.Value.TheVariants.{Bytes, Hole}
use Rattle.nofs_model.proofs.OnSlots.Find.{and-both}
use Rattle.nofs_model.proofs.OnSound.Writes.{supers}
use Rattle.nofs_ptrs.specs.PathLaws.{path-direct, path-leaf, slot_of-path_of}
use Rattle.nofs_history.specs.Machine.{with_entry}
use Rattle.nofs_history.proofs.EntryPut.{with-entry-put, zeros-are}
use Rattle.nofs_crashlaw.specs.Numbers.Cells.{table_tag}
use Rattle.nofs_disk.specs.Order.{IsApart, image_after}
use Rattle.nofs_names.specs.Entries.Tables.{IsTable, table_block}
use Rattle.nofs_state.proofs.OnWrites.Tables.{HasRecord, record-here, record-other}
use Rattle.nofs_names.specs.Entries.Writes.{AreTables, entered, with_direct, with_leaf}
use Rattle.nofs_names.specs.declared.entries.writes.Tables.{Tables}

-- Some writes

pub written-apart : (ws : List (ℕ × Cell)) (X : Image) (b : ℕ) → IsApart ws b
    → cell_at (image_after ws X) b ≡ cell_at X b
written-apart [] X b apart = refl
written-apart (w ∷ ws) X b apart = written-apart ws (slice_set X w.0 w.1) b apart.1
    ∙ get_or-set_other X w.0 b w.1 no_cell apart.0

pub written-here : (b : ℕ) (c : Cell) (ws : List (ℕ × Cell)) (X : Image) → b < length X → IsApart ws b
    → cell_at (image_after ((b, c) ∷ ws) X) b ≡ c
written-here b c ws X low apart = written-apart ws (slice_set X b c) b apart ∙ get_or-set_same X b c no_cell low

-- Two records of the table

module _ (X Y : Image) (d i : ℕ) (dr r : Record) (before after : Tables)
    (tables : AreTables before d dr i r after) (ne : d ≢ i)
    (whole : (super_at X).blocks ≤ length X) (room : 2 + (super_at X).inodes / 4 ≤ (super_at X).blocks)
    (quarters : (super_at X).inodes % 4 ≡ 0)
    (d-range : is_inode X d ≡ true) (i-range : is_inode X i ≡ true)
    (first : before.directory ≡ cell_at X (table_block d))
    (second : before.inode ≡ cell_at X (table_block i))
    (super : cell_at Y 0 ≡ cell_at X 0) (at-d : cell_at Y (table_block d) ≡ after.directory)
    (at-i : cell_at Y (table_block i) ≡ after.inode)
    (beside : (b : ℕ) → b ≤ (super_at X).inodes / 4 → b ≢ table_block d → b ≢ table_block i
    → cell_at Y b ≡ cell_at X b) where
  inside : (j : ℕ) → is_inode X j ≡ true → (1 ≤ j) × (j ≤ (super_at X).inodes)
  inside j e = let b = and-both (leb 1 j) (leb j (super_at X).inodes) e in
      (leb-true 1 j b.0, leb-true j (super_at X).inodes b.1)

  low : (j : ℕ) → is_inode X j ≡ true → table_block j ≤ (super_at X).inodes / 4
  low j e = let a = inside j e in let q = quarters in omega (arith, a, q)

  fits : (j : ℕ) → is_inode X j ≡ true → table_block j < length X
  fits j e = let a = low j e in let t = room in let w = whole in omega (arith, a, t, w)

  -- both records are there
  pub record Both : Type 0 where
    pub directory : inode Y d ≡ dr
    pub inode_is : inode Y i ≡ r
    pub others : (j : ℕ) → j ≢ d → j ≢ i → inode Y j ≡ inode X j

  -- with this cell in between, in which the directory's record alone is new
  module _ (middle : Cell) (one : IsTable before.directory d dr middle) where
    abbrev M : Image
    M = slice_set X (table_block d) middle

    m-here : cell_at M (table_block d) ≡ middle
    m-here = get_or-set_same X (table_block d) middle no_cell (fits d d-range)

    m-other : (b : ℕ) → b ≢ table_block d → cell_at M b ≡ cell_at X b
    m-other b off = get_or-set_other X (table_block d) b middle no_cell off

    m-super : cell_at M 0 ≡ cell_at X 0
    m-super = m-other 0 (λ e. omega (arith, e))

    has-d : HasRecord X d dr middle
    has-d = record {
      range = d-range;
      here = one.here.here;
      others = λ j off lt. one.here.others j off lt ∙ ap (λ (c : Cell). record_of j c.payload) first;
    }

    m-record : inode M d ≡ dr
    m-record = record-here X M d dr middle has-d quarters m-super m-here (λ b l off. m-other b off)

    m-records : (j : ℕ) → j ≢ d → inode M j ≡ inode X j
    m-records j off = record-other X M d dr middle has-d quarters m-super m-here (λ b l off. m-other b off) j off

    same-super : super_at M ≡ super_at X
    same-super = supers X M m-super

    m-range : is_inode M i ≡ true
    m-range = ap (λ (q : SuperBlock). leb 1 i && leb i q.inodes) same-super ∙ i-range

    both-by : HasRecord M i r after.inode
        → ((b : ℕ) → b ≤ (super_at M).inodes / 4 → b ≢ table_block i → cell_at Y b ≡ cell_at M b) → Both
    both-by has off = record {
      directory = record-other M Y i r after.inode has
          (subst (λ (q : SuperBlock). q.inodes % 4 ≡ 0) (sym same-super) quarters) (super ∙ sym m-super) at-i off
          d ne ∙ m-record;
      inode_is = record-here M Y i r after.inode has
          (subst (λ (q : SuperBlock). q.inodes % 4 ≡ 0) (sym same-super) quarters) (super ∙ sym m-super) at-i off;
      others = λ j nd ni. record-other M Y i r after.inode has
          (subst (λ (q : SuperBlock). q.inodes % 4 ≡ 0) (sym same-super) quarters) (super ∙ sym m-super)
          at-i off j ni ∙ m-records j nd;
    }

  both : Both
  both = elim (cases_eq ((d - 1) / 4) ((i - 1) / 4)) [
    | inl e ↦
        let s = tables.same e in
        let ti : table_block i ≡ table_block d = ap (λ (n : ℕ). 1 + n) (sym e) in
        both-by s.1.0 s.1.1
        (record {
          range = m-range s.1.0 s.1.1;
          here = s.1.2.here.here;
          others = λ j off lt. s.1.2.here.others j off lt ∙ ap
              (λ (c : Cell). record_of j c.payload)
              (sym (ap (cell_at (slice_set X (table_block d) s.1.0)) ti ∙ m-here s.1.0 s.1.1));
        })
        (λ b l off.
        let nd : b ≢ table_block d = λ q. off (q ∙ sym ti) in
        beside b (subst (λ (q : SuperBlock). b ≤ q.inodes / 4) (same-super s.1.0 s.1.1) l) nd off
        ∙ sym (m-other s.1.0 s.1.1 b nd))
    | inr apart ↦
        let s = tables.apart apart in
        let off-i : table_block i ≢ table_block d = λ q. apart (omega (arith, q)) in
        both-by after.directory s.0
        (record {
          range = m-range after.directory s.0;
          here = s.1.here.here;
          others = λ j off lt. s.1.here.others j off lt ∙ ap
              (λ (c : Cell). record_of j c.payload) (second ∙ sym (m-other after.directory s.0 (table_block i) off-i));
        })
        (λ b l off. elim (cases_eq b (table_block d)) [
          | inl here ↦ ap (cell_at Y) here ∙ at-d
              ∙ sym (ap (cell_at (slice_set X (table_block d) after.directory)) here ∙ m-here after.directory s.0)
          | inr other ↦
              beside b (subst (λ (q : SuperBlock). b ≤ q.inodes / 4) (same-super after.directory s.0) l) other off ∙ sym
              (m-other after.directory s.0 b other)
        ])
  ]

  pub record-of-directory : inode Y d ≡ dr
  record-of-directory = both.directory

  pub record-of-inode : inode Y i ≡ r
  record-of-inode = both.inode_is

  pub records-beside : (j : ℕ) → j ≢ d → j ≢ i → inode Y j ≡ inode X j
  records-beside = both.others

  tags : ((d - 1) / 4 ≡ (i - 1) / 4) ⊎ ((d - 1) / 4 ≢ (i - 1) / 4)
      → (tag_of after.directory.tag ≡ Some (table_tag (table_block d)))
      × (tag_of after.inode.tag ≡ Some (table_tag (table_block i)))
  tags (inl e) =
      let s = tables.same e in
      let t = s.1.2.tag in
      (ap (λ (c : Cell). tag_of c.tag) s.0 ∙ t ∙ ap (λ (n : ℕ). Some (table_tag (1 + n))) (sym e), t)
  tags (inr ne) = let s = tables.apart ne in (s.0.tag, s.1.tag)

  pub tables-tagged : (tag_of after.directory.tag ≡ Some (table_tag (table_block d)))
      × (tag_of after.inode.tag ≡ Some (table_tag (table_block i)))
  tables-tagged = tags (cases_eq ((d - 1) / 4) ((i - 1) / 4))

-- The records of the directory, with another pointer

low-not : (a b : ℕ) → a < b → eqb a b ≡ false
low-not a b h = grind (arith, nat_tests)

not-leb : (a b : ℕ) → b < a → leb a b ≡ false
not-leb a b h = grind (arith, nat_tests)

pub pointed-here : (r : Record) (k : ℕ) (x : Pointer)
    → k < 8 → length r.direct ≡ 8 → record_pointer (with_direct r k x) k ≡ x
pointed-here r k x h len =
    rw (low-not k 8 h, low-not k 9 (omega (arith, h))) (get_or-set_same r.direct k x null (omega (arith, h, len)))

pub pointed-other : (r : Record) (k : ℕ) (x : Pointer) (m : ℕ)
    → m ≢ k → record_pointer (with_direct r k x) m ≡ record_pointer r m
pointed-other r k x m ne = go (eqb m 8) (eqb m 9)
  where
    go : (a b : Bool) → cond a r.leaf (cond b r.top (get_or (slice_set r.direct k x) m null)) ≡ cond a r.leaf
        (cond b r.top (get_or r.direct m null))
    go true b = refl
    go false true = refl
    go false false = get_or-set_other r.direct k m x null ne

pub rooted-other : (r : Record) (y : Pointer) (m : ℕ) → m ≢ 8 → record_pointer (with_leaf r y) m ≡ record_pointer r m
rooted-other r y m ne = go (eqb m 8) refl
  where
    go : (a : Bool) → eqb m 8 ≡ a → cond a y (cond (eqb m 9) r.top (get_or r.direct m null)) ≡ cond a r.leaf
        (cond (eqb m 9) r.top (get_or r.direct m null))
    go true e = absurd (ne (eqb-true m 8 e))
    go false e = refl

-- The content of the cell

pub content-held : (e : ℕ) (it : Entry) (payload : List ℕ) → length (spelled_entry it.inode it.generation it.name) ≡ 64
    → Bytes (entered payload e it) ≡ with_entry (Bytes payload) e (spelled_entry it.inode it.generation it.name)
content-held e it payload short =
    sym (with-entry-put (Bytes payload) e (spelled_entry it.inode it.generation it.name) short)

pub content-new : (e : ℕ) (it : Entry) → length (spelled_entry it.inode it.generation it.name) ≡ 64
    → Bytes (entered (zeros 1024) e it) ≡ with_entry Hole e (spelled_entry it.inode it.generation it.name)
content-new e it short = ap (λ (l : List ℕ). Bytes (entered l e it)) (sym (zeros-are 1024)) ∙ sym
    (with-entry-put Hole e (spelled_entry it.inode it.generation it.name) short)

-- The tags of what is new

directory-kind : (r : Record) (k : ℕ) → r.kind ≡ Some Folder → k < 72 → kind_in r (path_of k) ≡ Directory
directory-kind r k e low = go (cases_lt k 8)
  where
    direct : k < 8 → is_pointer_slot (InRecord k) ≡ false
    direct h = not-leb 8 k h

    go : (k < 8) ⊎ (8 ≤ k) → kind_in r (path_of k) ≡ Directory
    go (inl h) = let p = path-direct k h in let n = direct h in rw (p, n, e) refl
    go (inr h) = let p = path-leaf k h low in rw (p, e) refl

pub new-cell-tag : (Y : Image) (d k stamp g : ℕ) → (inode Y d).kind ≡ Some Folder → (inode Y d).generation ≡ g → k < 72
    → record { kind = Directory; inode = d; generation = g; slot = k; stamp = stamp } ≡ tag_for Y d (path_of k) stamp
new-cell-tag Y d k stamp g kind gen low = λ j. record {
  kind = sym (directory-kind (inode Y d) k kind low) j;
  inode = d;
  generation = sym gen j;
  slot = sym (slot_of-path_of k (omega (arith, low))) j;
  stamp =
      stamp;
}

pub new-leaf-tag : (Y : Image) (d stamp g : ℕ) → (inode Y d).generation ≡ g
    → record { kind = Leaf; inode = d; generation = g; slot = 2 ^ 32; stamp = stamp } ≡ tag_for Y d leaf stamp
unfolding slot_of
new-leaf-tag Y d stamp g gen =
    λ j. record { kind = Leaf; inode = d; generation = sym gen j; slot = 2 ^ 32; stamp = stamp }

-- a record has eight direct pointers

abbrev HasEight : Record → Type 0
HasEight r = length r.direct ≡ 8

pub eight-direct : (X : Image) (i : ℕ) → length (inode X i).direct ≡ 8
unfolding inode record_at record_of fields_in
eight-direct X i = go (is_inode X i)
  where
    as-read : (b : Bool) (r : Record) → HasEight r → HasEight (record_or_free (cond b (Some r) None))
    as-read true r e = e
    as-read false r e = refl

    go : (b : Bool)
        → HasEight (cond b (record_or_free (record_of ((i - 1) % 4) (cell_at X (1 + (i - 1) / 4)).payload)) free_record)
    go true = as-read _ (fields_in (256 * ((i - 1) % 4)) (cell_at X (1 + (i - 1) / 4)).payload) refl
    go false = refl
