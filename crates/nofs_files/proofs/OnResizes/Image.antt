-- The image after the writes of a Resize: what stays.
use Rattle.std.proofs.Common.{◌≡◌, ◌≢◌, ℕ, ◌+◌, ◌-◌, ◌/◌, ◌%◌, ◌<◌, ◌≤◌, ◌⊎◌, min, inl, inr, Bool, true, false, cond}
use Rattle.std.proofs.Common.{eqb, eq-eqb, ne_eqb, leb, ltb}
use Rattle.std.proofs.Common.{leb-true, ltb-true, ◌&&◌, not, List, ◌++◌, [], ◌∷◌, length, take, Option, Some, None}
use Rattle.std.proofs.Common.{refl, sym, ap, ◌∙◌, subst, arith}
use Rattle.std.proofs.lemmas.Bool.{cases_eq, cases_lt, le-leb}
use Rattle.nofs_ptrs.specs.Paths.{slot_limit, Path, IsSlot, InRecord, path_of}
use Rattle.nofs_disk.specs.Disk.{cell_at}
use Rattle.nofs_super.specs.Geometry.{IsGeometry}
use Rattle.nofs_inode.specs.declared.inode.FileKind.TheVariants.{File}
use Rattle.nofs_disk.specs.declared.tag.Cell.{Cell}
use Rattle.nofs_disk.specs.declared.tag.Pointer.{Pointer}
use Rattle.nofs_inode.specs.declared.inode.Record.{Record}
use Rattle.nofs_disk.specs.Tag.{tag_of}
use Rattle.nofs_inode.specs.InodeRecords.{is_live}
use Rattle.nofs_model.specs.Geometry.{Image, super_at, is_data_block, inode}
use Rattle.nofs_model.specs.Files.{file_from, Files, is_folder}
use Rattle.nofs_model.specs.Slots.{find}
use Rattle.nofs_model.specs.declared.image.path.PathAnswer.TheVariants as answer
use Rattle.nofs_model.specs.declared.image.value.Value.{Value}
use Rattle.nofs_model.specs.declared.image.value.Value.TheVariants.{Hole, Bytes}
use Rattle.nofs_model.proofs.OnSlots.Find.{and-both, find-held}
use Rattle.nofs_history.specs.Meta.{is_bytes}
use Rattle.nofs_history.specs.Machine.{bytes_in, resize_slot, size_of, slots_in, trimmed, value_of, zero_bytes}
use Rattle.nofs_history.specs.World.{World}
use Rattle.nofs_history.specs.Claims.{next_stamp}
use Rattle.nofs_history.specs.History.{FilesMatch, SameFile}
use Rattle.nofs_crashlaw.specs.Untouched.Frames.{SameNames, OldPointers, Touches}
use Rattle.nofs_crashlaw.proofs.OnUntouched.Matches.{Matched, matched-agreed}
use Rattle.nofs_crashlaw.specs.Files.Resizes.{is_cut, cut_at}
use Rattle.nofs_crashlaw.specs.Numbers.Cells.{OldNumbers}
use Rattle.nofs_disk.specs.Order.{IsApart, WritesOnce, image_after}
use Rattle.nofs_crashlaw.proofs.OnUntouched.Agreement.{file-in}
use Rattle.nofs_state.proofs.OnCores.Replies.{open-files}
use Rattle.nofs_files.proofs.OnReads.Standing.{Standing, geometry-of, numbers-before, pointers-before}
use Rattle.nofs_state.proofs.OnBooks.Machine.{agreed-live}
use Rattle.nofs_state.proofs.OnWrites.Tables.{table_block, record-here, record-other}
use Rattle.nofs_files.specs.Resizes.{kept_slots, cut_record, cut_writes, maybe}
use Rattle.nofs_files.specs.declared.resizes.cuts.NewCell.{NewCell}
use Rattle.nofs_files.specs.declared.resizes.cuts.Edge.{Edge}
use Rattle.nofs_files.proofs.OnPuts.Ways.{written-apart, written-here}
use Rattle.nofs_files.proofs.OnResizes.Slots.{below_path, lt-leb}
use Rattle.nofs_files.proofs.OnResizes.Writes.{Cuts, IsAt, AtTail, AtBelow, AtAbove, Held, one-is, at-one, table-one}
use Rattle.nofs_files.proofs.OnResizes.Writes.{meets}
use Rattle.nofs_files.proofs.OnResizes.Writes.{apart-maybe, below-apart, below-at, content-apart, held-at, once-maybe}
use Rattle.nofs_files.proofs.OnResizes.Writes.{same-slot, same-at}

-- what a Resize gives to a slot, by the size and the value before
abbrev pub slot_by : ℕ → Value → ℕ → ℕ → Option Value
slot_by old v size k = cond (leb (kept_slots old size) k) (cond (ltb k slot_limit) (Some Hole) None)
    (cond (leb old size && (eqb (k + 1) (kept_slots old size) && (not (eqb (old % 1024) 0) && is_bytes v)))
    (Some (Bytes (take (old % 1024) (bytes_in v) ++ zero_bytes (1024 - old % 1024)))) None)

pub slot-by : (F : Files) (i size k : ℕ) → resize_slot F i size k ≡ slot_by (size_of F i) (value_of F i k) size k
slot-by F i size k = refl

-- before the cut, to the end of the content
pub slot-end : (old size k : ℕ) (content : List ℕ) → old ≤ size → old % 1024 ≢ 0 → k ≡ old / 1024
    → slot_by old (Bytes content) size k ≡ Some (Bytes (trimmed (old % 1024) content))
unfolding trimmed
slot-end old size k content grows uneven at =
    let m : kept_slots old size ≡ k + 1 = omega (arith, grows, uneven, at) in
    let a : leb (kept_slots old size) k ≡ false = lt-leb (kept_slots old size) k (omega (arith, m)) in
    let b : leb old size ≡ true = le-leb old size grows in
    let c : eqb (k + 1) (kept_slots old size) ≡ true = eq-eqb (k + 1) (kept_slots old size) (sym m) in
    let d : eqb (old % 1024) 0 ≡ false = ne_eqb (old % 1024) 0 uneven in
    rw (a, b, c, d) refl

-- and nothing to another slot
pub slot-none : (old size k : ℕ) (content : List ℕ) → k < kept_slots old size
    → (size < old) ⊎ ((old % 1024 ≡ 0) ⊎ (k ≢ old / 1024))
    → slot_by old (Bytes content) size k ≡ None
slot-none old size k content before why =
    let a : leb (kept_slots old size) k ≡ false = lt-leb (kept_slots old size) k before in
    let b : (leb old size && (eqb (k + 1) (kept_slots old size) && (not (eqb (old % 1024) 0) && true))) ≡ false =
    off why (cases_lt size old) in
    rw (a, b) refl
  where
    mid : (x y : Bool) → (x && (y && (false && true))) ≡ false
    mid true true = refl
    mid true false = refl
    mid false y = refl

    last : (x z : Bool) → (x && (false && (z && true))) ≡ false
    last true z = refl
    last false z = refl

    shrinks : size < old
        → (leb old size && (eqb (k + 1) (kept_slots old size) && (not (eqb (old % 1024) 0) && true))) ≡ false
    shrinks h = let e : leb old size ≡ false = lt-leb old size h in rw e refl

    off : (size < old) ⊎ ((old % 1024 ≡ 0) ⊎ (k ≢ old / 1024)) → (size < old) ⊎ (old ≤ size)
        → (leb old size && (eqb (k + 1) (kept_slots old size) && (not (eqb (old % 1024) 0) && true))) ≡ false
    off (inl h) w = shrinks h
    off (inr h) (inl s) = shrinks s
    off (inr (inl even)) (inr grows) = let e : eqb (old % 1024) 0 ≡ true = eq-eqb (old % 1024) 0 even in rw e
        (mid (leb old size) (eqb (k + 1) (kept_slots old size)))
    off (inr (inr ne)) (inr grows) = elim (cases_eq (old % 1024) 0) [
      | inl even ↦ (let e : eqb (old % 1024) 0 ≡ true = eq-eqb (old % 1024) 0 even in
          rw e (mid (leb old size) (eqb (k + 1) (kept_slots old size))))
      | inr uneven ↦
          let e : eqb (k + 1) (kept_slots old size) ≡ false =
          ne_eqb (k + 1) (kept_slots old size) (λ q. ne (omega (arith, q, grows, uneven))) in
          rw e (last (leb old size) (not (eqb (old % 1024) 0)))
    ]

-- a Resize on its way: what it was asked, what it writes, and the mount that it was asked of
pub record Resizing : Type 1 where
  pub standing : Standing
  pub open standing use *
  pub i : ℕ
  pub g : ℕ
  pub size : ℕ
  pub r : Record
  pub tail : Option NewCell
  pub edge : Edge
  pub c2 : Cell
  pub h : Cuts old.now i g size r tail edge c2

module _ (resizing : Resizing) where
  open resizing use {old, k, H, p, i, g, size, r, tail, edge, c2, o, h}

  abbrev pub W : World
  W = p.world

  abbrev pub X : Image
  X = old.now

  abbrev pub m : ℕ
  m = kept_slots r.size size

  abbrev pub r' : Record
  r' = cut_record r size (kept_slots r.size size)

  abbrev pub ws : List (ℕ × Cell)
  ws = cut_writes tail edge (table_block i) c2

  abbrev pub Y : Image
  Y = image_after (cut_writes tail edge (table_block i) c2) old.now

  abbrev pub At : Path → NewCell → Type 0
  At = IsAt r.size (kept_slots r.size size) tail edge

  pub geometry : IsGeometry (length X) (super_at X).blocks (super_at X).inodes
  geometry = geometry-of resizing.standing

  pub whole : (super_at X).blocks ≤ length X
  whole = geometry.fits

  pub match : FilesMatch W.files X
  match = open-files old k H p o

  pub own : Matched W.files X i
  own = matched-agreed W.files X i match (agreed-live X i h.agrees) h.agrees

  pub same : ((inode X i).kind ≡ Some own.file.kind) × SameFile (Some own.file) (file_from X i (Some own.file.kind))
  same = file-in W.files X i own.file match own.is

  pub file-kind : own.file.kind ≡ File
  file-kind = let e : Some own.file.kind ≡ Some File = sym same.0 ∙ ap (λ (q : Record). q.kind) h.rec ∙ h.kind in cc e

  pub file : is_folder own.file.kind ≡ false
  file = ap is_folder file-kind

  pub generation : own.file.generation ≡ g
  generation = own.generation ∙ ap (λ (q : Record). q.generation) h.rec ∙ h.generation

  pub old-size : own.file.size ≡ r.size
  old-size = let s = same.1 in s.size ∙ ap (λ (q : Record). q.size) h.rec

  pub same-cut : (a : Path) → is_cut (cut_at own.file size) a ≡ is_cut (kept_slots r.size size) a
  same-cut a = ap (λ (n : ℕ). is_cut (min (slots_in n) (slots_in size)) a) old-size

  -- The disk after the writes

  pub inside : (1 ≤ i) × (i ≤ (super_at X).inodes)
  inside = let b = and-both (leb 1 i) (leb i (super_at X).inodes) h.has.range in
      (leb-true 1 i b.0, leb-true i (super_at X).inodes b.1)

  pub table-low : table_block i ≤ (super_at X).inodes / 4
  table-low = let a = inside in let q = geometry.multiple in omega (arith, a, q)

  pub data-range : (b : ℕ) → is_data_block X b ≡ true → (1 + (super_at X).inodes / 4 ≤ b) × (b < (super_at X).blocks)
  data-range b d = let q = and-both (leb (1 + (super_at X).inodes / 4) b) (ltb b (super_at X).blocks) d
      in (leb-true (1 + (super_at X).inodes / 4) b q.0, ltb-true b (super_at X).blocks q.1)

  pub off-table : (b : ℕ) → is_data_block X b ≡ true → b ≢ table_block i
  off-table b d e = let q = data-range b d in let t = table-low in omega (arith, q, t, e)

  pub held-of : (a : Path) (it : NewCell) → At a it → Held X i g size r tail edge c2 h a it
  held-of a it at = held-at X i g size r tail edge c2 h a it at

  pub area-of : (a : Path) (it : NewCell) → At a it → is_data_block X it.block ≡ true
  area-of a it at = let q = held-of a it at in
      subst (λ (b : ℕ). is_data_block X b ≡ true) (sym q.block) (find-held X i a q.pointer q.held).agrees.area

  pub stays : (b : ℕ) → b ≢ table_block i → ((a : Path) (it : NewCell) → At a it → b ≢ it.block)
      → cell_at Y b ≡ cell_at X b
  stays b ne none = written-apart ws X b (λ d one. elim (one-is r.size m tail edge (table_block i) c2 b d one)
      [ inl e ↦ ne e.0 | inr (a, it, at, eb, ec) ↦ none a it at eb ])

  low-stays : (b : ℕ) → b ≤ (super_at X).inodes / 4 → b ≢ table_block i → cell_at Y b ≡ cell_at X b
  low-stays b low ne =
      stays b ne (λ a it at e. let d = data-range it.block (area-of a it at) in omega (arith, d, e, low))

  one-slot : (a b : Path) (it w : NewCell) → At a it → At b w → it.block ≡ w.block → a ≡ b
  one-slot a b it w at bt e =
      let q = held-of a it at in let t = held-of b w bt in
      same-slot X i g size r tail edge c2 h a b q.pointer t.pointer q.slot t.slot q.held t.held
      (sym q.block ∙ e ∙ t.block)

  slots-same : (a b : Path) (it w : NewCell) → At a it → At b w → it.block ≡ w.block → it ≡ w
  slots-same a b it w at bt e =
      same-at X i g size r tail edge c2 h a b it w at bt (one-slot a b it w at bt e)

  pub cell-here : (a : Path) (it : NewCell) → At a it → cell_at Y it.block ≡ it.cell
  cell-here a it at = written-here ws X it.block it.cell
      (let d = data-range it.block (area-of a it at) in let w = whole in omega (arith, d, w))
      (λ d one. elim (one-is r.size m tail edge (table_block i) c2 it.block d one) [
        | inl e ↦ absurd (off-table it.block (area-of a it at) e.0)
        | inr (b, w, bt, eb, ec) ↦ ec ∙ ap (λ (q : NewCell). q.cell) (sym (slots-same a b it w at bt eb))
      ]) (inl (at-one r.size m tail edge (table_block i) c2 a it at))

  pub table-here : cell_at Y (table_block i) ≡ c2
  table-here = written-here ws X (table_block i) c2
      (let t = table-low in let w = whole in let q = geometry.table in omega (arith, t, w, q))
      (λ d one. elim (one-is r.size m tail edge (table_block i) c2 (table_block i) d one) [
        | inl e ↦ e.1
        | inr (a, it, at, eb, ec) ↦ absurd (off-table it.block (area-of a it at) (sym eb))
      ]) (inl (table-one r.size m tail edge (table_block i) c2))

  -- no block is written twice
  pub cut-once : WritesOnce (cut_writes tail edge (table_block i) c2)
  cut-once = once-maybe tail _ from-tail
      (once-maybe edge.below _ from-below (once-maybe edge.above _ from-above (tt, tt)))
    where
      off : (a : Path) (it : NewCell) → At a it → IsApart ((table_block i, c2) ∷ []) it.block
      off a it at = (off-table it.block (area-of a it at), tt)

      from-above : (it : NewCell) → edge.above ≡ Some it → IsApart ((table_block i, c2) ∷ []) it.block
      from-above it e = off (InRecord 9) it (AtAbove e refl)

      from-below : (it : NewCell) → edge.below ≡ Some it
          → IsApart (maybe edge.above ((table_block i, c2) ∷ [])) it.block
      from-below it e = apart-maybe edge.above _ it.block
          (λ w f s. below-apart X i g size r tail edge c2 h it w e f
          (one-slot (below_path m) (InRecord 9) it w (AtBelow e refl) (AtAbove f refl) s))
          (off (below_path m) it (AtBelow e refl))

      from-tail : (it : NewCell) → tail ≡ Some it
          → IsApart (maybe edge.below (maybe edge.above ((table_block i, c2) ∷ []))) it.block
      from-tail it e = apart-maybe edge.below _ it.block
          (λ w f s. content-apart X i g size r tail edge c2 h it (below_path m) e
          (below-at X i g size r tail edge c2 h w f).points
          (one-slot (path_of (r.size / 1024)) (below_path m) it w (AtTail e refl) (AtBelow f refl) s))
          (apart-maybe edge.above _ it.block
          (λ w f s. content-apart X i g size r tail edge c2 h it (InRecord 9) e refl
          (one-slot (path_of (r.size / 1024)) (InRecord 9) it w (AtTail e refl) (AtAbove f refl) s))
          (off (path_of (r.size / 1024)) it (AtTail e refl)))

  pub super-stays : cell_at Y 0 ≡ cell_at X 0
  super-stays = low-stays 0 (omega arith) (λ e. omega (arith, e))

  pub here : inode Y i ≡ r'
  here = record-here X Y i r' c2 h.has geometry.multiple super-stays table-here low-stays

  record-old : (j : ℕ) → j ≢ i → inode Y j ≡ inode X j
  record-old j ne = record-other X Y i r' c2 h.has geometry.multiple super-stays table-here low-stays j ne

  pub old-numbers : OldNumbers W X
  old-numbers = numbers-before resizing.standing

  pub old-pointers : (j : ℕ) → is_live (inode X j) ≡ true → OldPointers (next_stamp W) X j
  old-pointers = pointers-before resizing.standing

  pub names : SameNames X Y i
  names = record {
    kind = ap (λ (q : Record). q.kind) here ∙ sym (ap (λ (q : Record). q.kind) h.rec);
    generation = ap (λ (q : Record). q.generation) here ∙ sym (ap (λ (q : Record). q.generation) h.rec);
    links = ap (λ (q : Record). q.links) here ∙ sym (ap (λ (q : Record). q.links) h.rec);
  }

  -- the block of a slot whose cell isn't written stays
  pub slot-stays : (b : Path) (y : Pointer) → IsSlot b → find X i b ≡ answer.Holds y → ((it : NewCell) → At b it → ⊥)
      → cell_at Y y.block ≡ cell_at X y.block
  slot-stays b y s held none =
      let d = (find-held X i b y held).agrees.area in
      stays y.block (off-table y.block d) (λ a it at e.
      let q = held-of a it at in
      let t : b ≡ a = same-slot X i g size r tail edge c2 h b a y q.pointer s q.slot held q.held (e ∙ q.block) in
      none it (subst (λ (v : Path). At v it) (sym t) at))

  pub touches : Touches (next_stamp W) (λ j. eqb j i) X Y
  touches = record {
    super = super-stays;
    records = λ j t. record-old j (λ e. let q = eq-eqb j i e in cc (q, t));
    blocks = λ n d. elim (meets r.size m tail edge (table_block i) c2 n) [
      | inl (a, it, at, e) ↦
          let q = held-of a it at in
          inr (inr (
            ap (λ (b : ℕ). tag_of (cell_at Y b).tag) e ∙ ap (λ (c : Cell). tag_of c.tag) (cell-here a it at)
                ∙ ap tag_of q.tag ∙ ap
                (λ (b : ℕ). tag_of (cell_at X b).tag) (sym (e ∙ q.block)),
            (i, a, q.pointer, eq-eqb i i refl, q.held, sym (e ∙ q.block)),
          ))
      | inr none ↦ inl (stays n (off-table n d) none)
    ];
  }
