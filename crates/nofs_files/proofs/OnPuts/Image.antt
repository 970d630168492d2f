-- A Put at any depth, in place or with claims: the image after the blocks of its way and the record were written.
use Rattle.std.proofs.Common.{◌≡◌, ◌≢◌, ℕ, ◌+◌, ◌*◌, ◌/◌, ◌<◌, ◌≤◌, ◌⊎◌, max, inl, inr, true, false, eqb, eq-eqb, leb}
use Rattle.std.proofs.Common.{ltb, leb-true, ltb-true, not, List, length, Some, refl, sym, ap, ◌∙◌, subst, arith}
use Rattle.nofs_ptrs.specs.Paths.{slot_limit, Path, InRecord, Under, path_of, IsSlot}
use Rattle.nofs_disk.specs.Disk.{DiskState, cell_at}
use Rattle.nofs_super.specs.Geometry.{IsGeometry}
use Rattle.nofs_inode.specs.declared.inode.FileKind.TheVariants.{File}
use Rattle.nofs_disk.specs.declared.tag.Cell.{Cell}
use Rattle.nofs_disk.specs.declared.tag.Pointer.{Pointer}
use Rattle.nofs_inode.specs.declared.inode.Record.{Record}
use Rattle.nofs_disk.specs.declared.tag.Tag.{Tag}
use Rattle.nofs_disk.specs.Pointer.{is_null}
use Rattle.nofs_ptrs.specs.Cells.{pointer_at}
use Rattle.nofs_disk.specs.Tag.{tag_of}
use Rattle.nofs_inode.specs.InodeRecords.{is_live}
use Rattle.nofs_model.specs.Geometry.{Image, super_at, is_data_block, inode}
use Rattle.nofs_model.specs.Files.{file_from, files_in, agreed, is_folder}
use Rattle.nofs_model.specs.Slots.{value, tag_for, find, record_pointer, IsAbove}
use Rattle.nofs_model.specs.Owners.{IsFree}
use Rattle.nofs_model.specs.declared.image.path.PathAnswer.TheVariants as answer
use Rattle.nofs_model.proofs.OnSlots.Find.{and-both, find-held}
use Rattle.nofs_ptrs.specs.PathLaws.{path_of-slot, path_of-slot_of}
use Rattle.nofs_model.proofs.OnSlots.Paths.{above-slot}
use Rattle.nofs_history.specs.Marks.{Mark, mark_at}
use Rattle.nofs_history.specs.Machine.{put_content}
use Rattle.nofs_history.specs.World.{World, blocks_for, uses_inode, uses_block}
use Rattle.nofs_history.specs.Claims.{is_claimed, next_stamp, slot_above, IsClaim}
use Rattle.nofs_history.specs.History.{FilesMatch, SameFile}
use Rattle.nofs_history.specs.declared.machine.history.Claims.{Claims}
use Rattle.nofs_history.specs.declared.machine.steps.Step.TheVariants as step
use Rattle.nofs_crashlaw.specs.Untouched.Frames.{SameNames, OldPointers, Touches}
use Rattle.nofs_crashlaw.proofs.OnUntouched.Matches.{Matched, matched-agreed}
use Rattle.nofs_crashlaw.proofs.OnUntouched.Inodes.{one-owner}
use Rattle.nofs_crashlaw.specs.Maps.Homes.{ClaimsFree}
use Rattle.nofs_crashlaw.specs.Maps.Moves.{IsClaimed}
use Rattle.nofs_crashlaw.proofs.OnMaps.Good.{law-claims}
use Rattle.nofs_crashlaw.proofs.OnMaps.Homes.{law-good}
use Rattle.nofs_crashlaw.proofs.OnUntouched.Agreement.{file-in}
use Rattle.nofs_crashlaw.specs.Numbers.Cells.{OldNumbers, table_tag}
use Rattle.nofs_crashlaw.proofs.OnNumbers.Files.{listed, tag-same}
use Rattle.nofs_state.specs.Books.Maps.{IsSafe}
use Rattle.nofs_state.specs.declared.books.maps.Books.{Books}
use Rattle.nofs_disk.specs.Order.{WritesOnce, image_after}
use Rattle.nofs_history.specs.Good.{MatchesSuper}
use Rattle.nofs_state.proofs.OnCores.Replies.{open-files}
use Rattle.nofs_files.proofs.OnReads.Standing.{Standing, geometry-of, numbers-before, pointers-before}
use Rattle.nofs_state.proofs.OnBooks.Machine.{agreed-live, world-numbers}
use Rattle.nofs_state.proofs.OnWrites.Tables.{HasRecord, table_block, record-here, record-other}
use Rattle.nofs_files.proofs.OnPuts.ClaimParts.{stamp-new}
use Rattle.nofs_state.proofs.OnBooks.ClaimedBlocks.{Takes}
use Rattle.nofs_files.proofs.OnPuts.Ways.{IsNew, IsOld, IsChanged, way_writes, new-or-old, new-above, old-above}
use Rattle.nofs_files.proofs.OnPuts.Ways.{changed-is, new-changed, meets, one-is, changed-one, table-one}
use Rattle.nofs_files.proofs.OnPuts.Ways.{written-apart, written-here, way-once}

-- the file of a Put with the way to its slot, and the cell of the table with the new record
pub record IsPutFile (X : Image) (i g slot : ℕ) (r r' : Record) (way : Path) (c2 : Cell) : Type 0 where
  pub path : path_of slot ≡ way
  pub range : slot < slot_limit
  pub rec : inode X i ≡ r
  pub kind : r.kind ≡ Some File
  pub generation : r.generation ≡ g
  pub agrees : agreed (files_in X) i ≡ true
  pub has : HasRecord X i r' c2
  pub tag_table : tag_of c2.tag ≡ Some (table_tag (table_block i))

-- the record gets this size, and keeps its kind, its generation and its links
pub record Grew (r r' : Record) (n : ℕ) : Type 0 where
  pub kind : r'.kind ≡ r.kind
  pub generation : r'.generation ≡ r.generation
  pub links : r'.links ≡ r.links
  pub size : r'.size ≡ n

-- what the cells of a Put are, by the image before it: m slots of the way get a block
pub record Climbs (X : Image) (i g slot at : ℕ) (bytes : List ℕ) (r r' : Record) (m : ℕ) (way : Path)
    (places : Path → Pointer) (cells : Path → Cell)
    (c : Claims) (c2 : Cell) : Type 0 where
  pub file : IsPutFile X i g slot r r' way c2
  pub grew : Grew r r' (max r.size (1024 * slot + at + length bytes))
  pub old : (a : Path) → IsOld m way a → find X i a ≡ answer.Holds (places a)
  pub empty : (a : Path) → IsNew m way a → (y : Pointer) → find X i a ≡ answer.Holds y → ⊥
  pub hole : (a : Path) (n : ℕ) → IsNew m way (Under a n) → IsNew m way a → find X i a ≡ answer.Hole
  pub claimed : (a : Path) → IsNew m way a → IsClaimed c (places a)
  pub distinct : (a b : Path) → IsNew m way a → IsNew m way b → (places a).block ≡ (places b).block → a ≡ b
  pub tag_new : (a : Path) → IsNew m way a → tag_of (cells a).tag ≡ Some (tag_for X i a (places a).stamp)
  pub tag_old : (a : Path) → IsChanged m way a → IsOld m way a
      → tag_of (cells a).tag ≡ tag_of (cell_at X (places a).block).tag
  pub next : (a : Path) (n : ℕ) → IsNew m way (Under a n) → pointer_at (cells a).payload n ≡ places (Under a n)
  pub beside_new : (a : Path) (n q : ℕ) → IsNew m way (Under a n) → IsNew m way a
      → q ≢ n → q < 64 → is_null (pointer_at (cells a).payload q) ≡ true
  pub beside_old : (a : Path) (n q : ℕ) → IsNew m way (Under a n) → IsOld m way a → q ≢ n → q < 64
      → pointer_at (cells a).payload q ≡ pointer_at (cell_at X (places a).block).payload q
  pub content : (cells way).payload ≡ put_content (value X i slot) r.size slot at bytes
  pub pointer_new : (n : ℕ) → IsNew m way (InRecord n) → record_pointer r' n ≡ places (InRecord n)
  pub pointers_old : (n : ℕ) → (IsNew m way (InRecord n) → ⊥) → record_pointer r' n ≡ record_pointer r n
  pub cell : is_claimed c.cell ≡ true → places way ≡ c.cell
  pub leaf : is_claimed c.leaf ≡ true → IsAbove (slot_above way) way × (places (slot_above way) ≡ c.leaf)
  pub top : is_claimed c.top ≡ true → IsAbove (slot_above (slot_above way)) way
      × (places (slot_above (slot_above way)) ≡ c.top)

-- what a Put is asked
pub record Asked : Type 0 where
  pub i : ℕ
  pub g : ℕ
  pub slot : ℕ
  pub at : ℕ
  pub bytes : List ℕ

-- what it writes: the record before and after it, its way with m new slots, their places and cells, and its claims
pub record Written : Type 0 where
  pub r : Record
  pub r' : Record
  pub m : ℕ
  pub way : Path
  pub places : Path → Pointer
  pub cells : Path → Cell
  pub c : Claims
  pub c2 : Cell

-- a Put on its way, with the disk and the books after it, and the mount that it was asked of
pub record Climb : Type 1 where
  pub standing : Standing
  pub open standing use *
  pub asked : Asked
  pub open asked use *
  pub written : Written
  pub open written use *
  pub new : DiskState
  pub l : Books
  pub safe : IsSafe old k
  pub h : Climbs old.now i g slot at bytes r r' m way places cells c c2
  pub needs : blocks_for p.world.files i slot ≡ m
  pub claim : IsClaim p.world (step.Put i g slot at bytes) c
  pub takes : Takes k l c m

-- its writes, and the image after them
abbrev pub writes_of : Climb → List (ℕ × Cell)
writes_of q = way_writes q.places q.cells (table_block q.i, q.c2) q.m q.way

abbrev pub after : Climb → Image
after q = image_after (writes_of q) q.old.now

-- the mark before it: a crash leaves what was written since
abbrev pub mark_of : Climb → Mark
mark_of q = mark_at q.p.base q.H (q.old.moment + 1) q.p.mark q.p.stamps

-- what is shown of the image before it, of its claims and of the image after it
pub record ImageShown : Type 1 where
  pub climb : Climb
  pub open climb use *
  pub match : FilesMatch p.world.files old.now
  pub own : Matched p.world.files old.now i
  pub file : is_folder own.file.kind ≡ false
  pub file_kind : own.file.kind ≡ File
  pub generation : own.file.generation ≡ g
  pub slot_of_way : (a : Path) → IsAbove a way → IsSlot a
  pub claims_free : ClaimsFree p.world c old.now
  pub size : own.file.size ≡ r.size
  pub free : (a : Path) → IsNew m way a → IsFree old.now (places a).block
  pub stamp : (a : Path) → IsNew m way a → next_stamp p.world ≤ (places a).stamp
  pub changed_above : (a : Path) → IsChanged m way a → IsAbove a way
  pub area : (a : Path) → IsAbove a way → is_data_block old.now (places a).block ≡ true
  pub value_here : own.file.values slot ≡ value old.now i slot
  pub same_place : (a b : Path) → IsAbove a way → IsAbove b way → (places a).block ≡ (places b).block → a ≡ b
  pub stays : (b : ℕ) → b ≢ table_block i → ((a : Path) → IsChanged m way a → b ≢ (places a).block)
      → cell_at (after climb) b ≡ cell_at old.now b
  pub data_stays : (b : ℕ) → is_data_block old.now b ≡ true → ((a : Path) → IsChanged m way a → b ≢ (places a).block)
      → cell_at (after climb) b ≡ cell_at old.now b
  pub table_low : table_block i ≤ (super_at old.now).inodes / 4
  pub old_numbers : OldNumbers p.world old.now
  pub cell_here : (a : Path) → IsChanged m way a → cell_at (after climb) (places a).block ≡ cells a
  pub super_stays : cell_at (after climb) 0 ≡ cell_at old.now 0
  pub here : inode (after climb) i ≡ r'
  pub names : SameNames old.now (after climb) i
  pub old_pointers : (j : ℕ) → is_live (inode old.now j) ≡ true → OldPointers (next_stamp p.world) old.now j
  pub touches : Touches (next_stamp p.world) (λ j. eqb j i) old.now (after climb)
  pub tag_new : (a : Path) → IsNew m way a
      → tag_of (cell_at (after climb) (places a).block).tag ≡ Some (tag_for (after climb) i a (places a).stamp)
  pub tag_old : (a : Path) → IsOld m way a
      → tag_of (cell_at (after climb) (places a).block).tag ≡ tag_of (cell_at old.now (places a).block).tag

module _ (climb : Climb) where
  open climb use {old, k, H, p, o, i, g, slot, at, bytes, r', m, way, places, cells, c, c2, h, claim}

  abbrev W : World
  W = p.world

  abbrev X : Image
  X = old.now

  abbrev Y : Image
  Y = after climb

  abbrev ws : List (ℕ × Cell)
  ws = writes_of climb

  geometry : IsGeometry (length X) (super_at X).blocks (super_at X).inodes
  geometry = geometry-of climb.standing

  whole : (super_at X).blocks ≤ length X
  whole = geometry.fits

  pub match : FilesMatch W.files X
  match = open-files old k H p o

  pub own : Matched W.files X i
  own = matched-agreed W.files X i match (agreed-live X i h.file.agrees) h.file.agrees

  pub same : ((inode X i).kind ≡ Some own.file.kind) × SameFile (Some own.file) (file_from X i (Some own.file.kind))
  same = file-in W.files X i own.file match own.is

  pub file-kind : own.file.kind ≡ File
  file-kind = let e : Some own.file.kind ≡ Some File = sym same.0 ∙ ap (λ (q : Record). q.kind) h.file.rec
      ∙ h.file.kind in cc e

  pub slot-of-way : (a : Path) → IsAbove a way → IsSlot a
  slot-of-way a u = above-slot a way u (subst (λ (q : Path). IsSlot q) h.file.path (path_of-slot slot h.file.range))

  has-numbers : MatchesSuper W X
  has-numbers = world-numbers old k H p o

  -- The claim

  pub claims-free : ClaimsFree W c X
  claims-free = law-claims W (step.Put i g slot at bytes) c W.known_inodes (λ j. not (uses_inode W j)) W.known_blocks
      (λ q. not (uses_block W q)) X
      (law-good W X has-numbers match o.homes) claim

  pub free : (a : Path) → IsNew m way a → IsFree X (places a).block
  free a n = claims-free.block_free (places a) (listed c (places a) (h.claimed a n))

  pub stamp : (a : Path) → IsNew m way a → next_stamp W ≤ (places a).stamp
  stamp a n = stamp-new W (step.Put i g slot at bytes) c (places a) claim (h.claimed a n)

  pub area : (a : Path) → IsAbove a way → is_data_block X (places a).block ≡ true
  area a u = elim (new-or-old m way a u) [
    | inl n ↦ claims-free.block_data (places a) (listed c (places a) (h.claimed a n))
    | inr d ↦ (find-held X i a (places a) (h.old a d)).agrees.area
  ]

  pub changed-above : (a : Path) → IsChanged m way a → IsAbove a way
  changed-above a d = elim (changed-is m way a d) [ inl n ↦ new-above m way a n | inr q ↦ old-above m way a q ]

  -- two slots of the way have two blocks
  pub same-place : (a b : Path) → IsAbove a way → IsAbove b way → (places a).block ≡ (places b).block → a ≡ b
  same-place a b u v e = go (new-or-old m way a u) (new-or-old m way b v)
    where
      go : IsNew m way a ⊎ IsOld m way a → IsNew m way b ⊎ IsOld m way b → a ≡ b
      go (inl n) (inl q) = h.distinct a b n q e
      go (inl n) (inr d) = absurd (free a n i b (places b) (slot-of-way b v) h.file.agrees (h.old b d) (sym e))
      go (inr d) (inl q) = absurd (free b q i a (places a) (slot-of-way a u) h.file.agrees (h.old a d) e)
      go (inr d) (inr f) = let w = one-owner X i i a b (places a) (places b) (h.old a d) (h.old b f) e in
          sym (path_of-slot_of a (slot-of-way a u))
          ∙ ap path_of w.1 ∙ path_of-slot_of b (slot-of-way b v)

  -- The disk after the writes

  inside : (1 ≤ i) × (i ≤ (super_at X).inodes)
  inside = let b = and-both (leb 1 i) (leb i (super_at X).inodes) h.file.has.range in
      (leb-true 1 i b.0, leb-true i (super_at X).inodes b.1)

  pub table-low : table_block i ≤ (super_at X).inodes / 4
  table-low = let a = inside in let q = geometry.multiple in omega (arith, a, q)

  data-range : (b : ℕ) → is_data_block X b ≡ true → (1 + (super_at X).inodes / 4 ≤ b) × (b < (super_at X).blocks)
  data-range b d = let q = and-both (leb (1 + (super_at X).inodes / 4) b) (ltb b (super_at X).blocks)
      d in (leb-true (1 + (super_at X).inodes / 4) b q.0, ltb-true b (super_at X).blocks q.1)

  off-table : (b : ℕ) → is_data_block X b ≡ true → b ≢ table_block i
  off-table b d e = let q = data-range b d in let t = table-low in omega (arith, q, t, e)

  pub stays : (b : ℕ) → b ≢ table_block i → ((a : Path) → IsChanged m way a → b ≢ (places a).block)
      → cell_at Y b ≡ cell_at X b
  stays b ne none = written-apart ws X b (λ d one. elim (one-is places cells (table_block i, c2) m way b d one)
      [ inl e ↦ ne e.0 | inr (a, q, eb, ec) ↦ none a q eb ])

  pub data-stays : (b : ℕ) → is_data_block X b ≡ true → ((a : Path) → IsChanged m way a → b ≢ (places a).block)
      → cell_at Y b ≡ cell_at X b
  data-stays b d none = stays b (off-table b d) none

  low-stays : (b : ℕ) → b ≤ (super_at X).inodes / 4 → b ≢ table_block i → cell_at Y b ≡ cell_at X b
  low-stays b low ne =
      stays b ne (λ a q e. let d = data-range (places a).block (area a (changed-above a q)) in omega (arith, d, e, low))

  pub cell-here : (a : Path) → IsChanged m way a → cell_at Y (places a).block ≡ cells a
  cell-here a q = written-here ws X (places a).block (cells a)
      (let d = data-range (places a).block (area a (changed-above a q)) in let w = whole in omega
      (arith, d, w))
      (λ d one. elim (one-is places cells (table_block i, c2) m way (places a).block d one) [
        | inl e ↦ absurd (off-table (places a).block (area a (changed-above a q)) e.0)
        | inr (b, qb, eb, ec) ↦ ec ∙ ap cells (sym (same-place a b (changed-above a q) (changed-above b qb) eb))
      ]) (inl (changed-one places cells (table_block i, c2) m way a q))

  table-here : cell_at Y (table_block i) ≡ c2
  table-here = written-here ws X (table_block i) c2
      (let t = table-low in let w = whole in let g = geometry.table in omega (arith, t, w, g))
      (λ d one. elim (one-is places cells (table_block i, c2) m way (table_block i) d one) [
        | inl e ↦ e.1
        | inr (a, qa, ea, ec) ↦ absurd (off-table (places a).block (area a (changed-above a qa)) (sym ea))
      ]) (inl (table-one places cells (table_block i, c2) m way))

  pub climb-once : WritesOnce (way_writes places cells (table_block i, c2) m way)
  climb-once = way-once places cells (table_block i, c2) m way
      (λ a b u v e. same-place a b (changed-above a u) (changed-above b v) e)
      (λ a u. off-table (places a).block (area a (changed-above a u)))

  pub super-stays : cell_at Y 0 ≡ cell_at X 0
  super-stays = low-stays 0 (omega arith) (λ e. omega (arith, e))

  pub here : inode Y i ≡ r'
  here = record-here X Y i r' c2 h.file.has geometry.multiple super-stays table-here low-stays

  record-old : (j : ℕ) → j ≢ i → inode Y j ≡ inode X j
  record-old j ne = record-other X Y i r' c2 h.file.has geometry.multiple super-stays table-here low-stays j ne

  pub names : SameNames X Y i
  names = record {
    kind = ap (λ (q : Record). q.kind) here ∙ h.grew.kind ∙ sym (ap (λ (q : Record). q.kind) h.file.rec);
    generation = ap (λ (q : Record). q.generation) here
        ∙ h.grew.generation ∙ sym (ap (λ (q : Record). q.generation) h.file.rec);
    links = ap (λ (q : Record). q.links) here ∙ h.grew.links ∙ sym (ap (λ (q : Record). q.links) h.file.rec);
  }

  pub tag-new : (a : Path) → IsNew m way a
      → tag_of (cell_at Y (places a).block).tag ≡ Some (tag_for Y i a (places a).stamp)
  tag-new a n = ap (λ (q : Cell). tag_of q.tag) (cell-here a (new-changed m way a n)) ∙ h.tag_new a n
      ∙ ap Some (sym (tag-same X Y i a (places a).stamp names.kind names.generation))

  pub tag-old : (a : Path) → IsOld m way a
      → tag_of (cell_at Y (places a).block).tag ≡ tag_of (cell_at X (places a).block).tag
  tag-old a d = elim (meets places m way (places a).block) [
    | inl (b, q, e) ↦
        let s : a ≡ b = same-place a b (old-above m way a d) (changed-above b q) e in
        let t : IsChanged m way a = subst (λ (w : Path). IsChanged m way w) (sym s) q in
        ap (λ (w : Cell). tag_of w.tag) (cell-here a t) ∙ h.tag_old a t d
    | inr none ↦ ap (λ (w : Cell). tag_of w.tag) (data-stays (places a).block (area a (old-above m way a d)) none)
  ]

  pub touches : Touches (next_stamp W) (λ j. eqb j i) X Y
  touches = record {
    super = super-stays;
    records = λ j t. record-old j (λ e. let q = eq-eqb j i e in cc (q, t));
    blocks = λ n d. elim (meets places m way n) [
      | inl (a, q, e) ↦ inr (written-one n a q e)
      | inr none ↦ inl (data-stays n d none)
    ];
  }
    where
      newer : (a : Path) → IsNew m way a → (t : Tag) → tag_of (cell_at Y (places a).block).tag ≡ Some t
          → next_stamp W ≤ t.stamp
      newer a n t et =
          let w = tag-new a n in
          let e : t ≡ tag_for Y i a (places a).stamp = cc (et, w) in
          let s = ap (λ (q : Tag). q.stamp) e in let z = stamp a n in omega (arith, s, z)

      written-one : (n : ℕ) (a : Path) → IsChanged m way a → n ≡ (places a).block
          → (IsFree X n × ((t : Tag) → tag_of (cell_at Y n).tag ≡ Some t → next_stamp W ≤ t.stamp))
          ⊎ ((tag_of (cell_at Y n).tag ≡ tag_of (cell_at X n).tag)
          × ((j : ℕ) × (b : Path) × (y : Pointer) × (eqb j i ≡ true) × (find X j b ≡ answer.Holds y)
          × (y.block ≡ n)))
      written-one n a q e = elim (changed-is m way a q) [
        | inl w ↦ inl (
          subst (λ (b : ℕ). IsFree X b) (sym e) (free a w),
          λ t et. newer a w t (subst (λ (b : ℕ). tag_of (cell_at Y b).tag ≡ Some t) e et),
        )
        | inr d ↦ inr (
          subst (λ (b : ℕ). tag_of (cell_at Y b).tag ≡ tag_of (cell_at X b).tag) (sym e) (tag-old a d),
          (i, a, places a, eq-eqb i i refl, h.old a d, sym e),
        )
      ]

  abbrev pub image-shown : ImageShown
  image-shown = record {
    climb = climb;
    match = match;
    own = own;
    file = ap is_folder file-kind;
    file_kind = file-kind;
    generation = own.generation ∙ ap (λ (q : Record). q.generation) h.file.rec ∙ h.file.generation;
    slot_of_way = slot-of-way;
    claims_free = claims-free;
    size = let s = same.1 in s.size ∙ ap (λ (q : Record). q.size) h.file.rec;
    free = free;
    stamp = stamp;
    changed_above = changed-above;
    area = area;
    value_here = own.values slot h.file.range;
    same_place = same-place;
    stays = stays;
    data_stays = data-stays;
    table_low = table-low;
    old_numbers = numbers-before climb.standing;
    cell_here = cell-here;
    super_stays = super-stays;
    here = here;
    names = names;
    old_pointers = pointers-before climb.standing;
    touches = touches;
    tag_new = tag-new;
    tag_old = tag-old;
  }
