-- What block 0 alone does not change: records, values, files, owners.
use Rattle.std.proofs.Common.{◌≡◌, ◌≢◌, ℕ, zero, suc, ◌+◌, ◌-◌, ◌/◌, ◌%◌, ◌<◌, Bool, true, false, cond, eqb, leb, ltb}
use Rattle.std.proofs.Common.{◌&&◌, ◌||◌, Option, Some, None, is_some, refl, sym, ap, ◌∙◌, arith, leb-true, le-leb}
use Rattle.nofs_model.specs.declared.image.path.PathAnswer.{PathAnswer}
use Rattle.nofs_crashlaw.specs.Lives.{IsNew, OnlySuper, SaysTheSame, LawOnlySuper}
use Rattle.nofs_model.proofs.OnSlots.Find.{and-both, find-held, judged-built-null}
use Rattle.nofs_ptrs.specs.PathLaws.{path_of-slot}
use Rattle.nofs_model.specs.declared.image.path.PathAnswer.TheVariants as answer
use Rattle.nofs_inode.specs.declared.inode.FileKind.{FileKind}
use Rattle.nofs_disk.specs.declared.tag.Cell.{Cell}
use Rattle.nofs_disk.specs.declared.tag.Tag.{Tag}
use Rattle.nofs_disk.specs.declared.tag.Pointer.{Pointer}
use Rattle.nofs_inode.specs.declared.inode.Record.{Record}
use Rattle.nofs_disk.specs.Tag.{tag_of}
use Rattle.nofs_disk.specs.Pointer.{is_null}
use Rattle.nofs_ptrs.specs.Cells.{pointer_at}
use Rattle.nofs_inode.specs.InodeRecords.{record_at, free_record, is_live}
use Rattle.nofs_ptrs.specs.Paths.{slot_limit, Path, InRecord, Under, path_of, slot_of, is_slot, IsSlot}
use Rattle.nofs_model.specs.Geometry.{Image, super_at, is_data_block, is_inode, inode}
use Rattle.nofs_disk.specs.Disk.{cell_at}
use Rattle.nofs_model.specs.Slots.{kind_in, is_tag, agrees, record_pointer, judged, find, value, value_in}
use Rattle.nofs_model.specs.Files.{node_in, file_from, files_in, agreed, is_special}
use Rattle.nofs_model.specs.Owners.{Home, home_at, owner, owner_by, owner_found, is_used_block}
use Rattle.nofs_model.specs.declared.image.value.Value.TheVariants.{Hole, Bytes}

area-positive : (X : Image) (b : ℕ) → is_data_block X b ≡ true → b ≢ 0
area-positive X b area e =
    let first = leb-true (1 + (super_at X).inodes / 4) b
    (and-both (leb (1 + (super_at X).inodes / 4) b) (ltb b (super_at X).blocks) area).0 in
    omega (arith, first, e)

-- the parts that agreement goes by
abbrev agrees_by : ℕ → Path → Pointer → Record → Bool → Option Tag → Bool
agrees_by i path x r area t = is_live r && (area && is_tag t
    (record { kind = kind_in r path; inode = i; generation = r.generation; slot = slot_of path; stamp = x.stamp }))

module _ (X Y : Image) (r : OnlySuper X Y) where
  same-range : (i : ℕ) → is_inode Y i ≡ is_inode X i
  same-range i = ap (λ (n : ℕ). leb 1 i && leb i n) r.inodes

  pub same-inode : (i : ℕ) → inode Y i ≡ inode X i
  unfolding inode
  same-inode i =
      ap (λ (t : Bool). cond t (record_at (cell_at Y (1 + (i - 1) / 4)).payload ((i - 1) % 4)) free_record)
      (same-range i)
      ∙ ap (λ (c : Cell). cond (is_inode X i) (record_at c.payload ((i - 1) % 4)) free_record)
      (r.others (1 + (i - 1) / 4) (λ e. omega (arith, e)))

  same-area : (b : ℕ) → is_data_block Y b ≡ is_data_block X b
  same-area b = λ j. leb (1 + r.inodes j / 4) b && ltb b (r.blocks j)

  same-agrees : (i : ℕ) (path : Path) (x : Pointer) → agrees Y i path x ≡ agrees X i path x
  same-agrees i path x =
      (λ j. agrees_by i path x (same-inode i j) (same-area x.block j) (tag_of (cell_at Y x.block).tag))
      ∙ go (is_data_block X x.block) refl
    where
      go : (t : Bool) → is_data_block X x.block ≡ t
          → agrees_by i path x (inode X i) (is_data_block X x.block) (tag_of (cell_at Y x.block).tag)
          ≡ agrees_by i path x (inode X i)
          (is_data_block X x.block) (tag_of (cell_at X x.block).tag)
      go true e = ap (λ (c : Cell). agrees_by i path x (inode X i) (is_data_block X x.block) (tag_of c.tag))
          (r.others x.block (area-positive X x.block e))
      go false e = rw e refl

  same-judged : (i : ℕ) (path : Path) (x : Pointer) → judged Y i path x ≡ judged X i path x
  same-judged i path x =
      ap (λ (t : Bool). cond (is_null x) answer.Hole (cond t (answer.Holds x) answer.Lost)) (same-agrees i path x)

  -- the cell of a slot that holds
  same-cell : (i : ℕ) (path : Path) (x : Pointer) → find X i path ≡ answer.Holds x
      → cell_at Y x.block ≡ cell_at X x.block
  same-cell i path x e = r.others x.block (area-positive X x.block (find-held X i path x e).agrees.area)

  pub same-find : (i : ℕ) (path : Path) → find Y i path ≡ find X i path
  same-find i (InRecord n) = ap (λ (q : Record). judged Y i (InRecord n) (record_pointer q n)) (same-inode i)
      ∙ same-judged i (InRecord n) (record_pointer (inode X i) n)
  same-find i (Under a n) = go (find X i a) refl (same-find i a)
    where
      go : (f : PathAnswer) → find X i a ≡ f → find Y i a ≡ find X i a → find Y i (Under a n) ≡ find X i (Under a n)
      go answer.Hole e ih = let y : find Y i a ≡ answer.Hole = ih ∙ e in rw (e, y, find) refl
      go answer.Lost e ih = let y : find Y i a ≡ answer.Lost = ih ∙ e in rw (e, y, find) refl
      go (answer.Holds z) e ih =
          let y : find Y i a ≡ answer.Holds z = ih ∙ e in
          rw (e, y, find) (ap (λ (c : Cell). judged Y i (Under a n) (pointer_at c.payload n)) (same-cell i a z e)
          ∙ same-judged i (Under a n) (pointer_at (cell_at X z.block).payload n))

  pub same-value : (i k : ℕ) → value Y i k ≡ value X i k
  same-value i k = ap (λ (f : PathAnswer). value_in Y f) (same-find i (path_of k)) ∙ go (find X i (path_of k)) refl
    where
      go : (f : PathAnswer)
          → find X i (path_of k) ≡ f → value_in Y (find X i (path_of k)) ≡ value_in X (find X i (path_of k))
      go answer.Hole e = rw e refl
      go answer.Lost e = rw e refl
      go (answer.Holds z) e = rw e (ap (λ (c : Cell). Bytes c.payload) (same-cell i (path_of k) z e))

  same-file : (i : ℕ) (k : Option FileKind) → file_from Y i k ≡ file_from X i k
  same-file i None = refl
  same-file i (Some kind) = λ j. Some (record {
    generation = (same-inode i j).generation;
    kind = kind;
    size = (same-inode i j).size;
    links = (same-inode i j).links;
    values = λ k. same-value i k j;
    nodes = λ path. node_in (same-find i path j);
  })

  pub same-files : (i : ℕ) → files_in Y i ≡ files_in X i
  same-files i = same-file i (inode Y i).kind ∙ ap (λ (r : Record). file_from X i r.kind) (same-inode i)

  pub same-agreed : (i : ℕ) → agreed (files_in Y) i ≡ agreed (files_in X) i
  same-agreed i = λ j. agreed (λ n. same-files n j) i

  found-owner : (p : ℕ) (t : Tag) (f : PathAnswer) → owner_found Y p t f ≡ owner_found X p t f
  found-owner p t answer.Hole = refl
  found-owner p t answer.Lost = refl
  found-owner p t (answer.Holds x) =
      ap (λ (b : Bool). cond (eqb x.block p && b) (Some (home_at t.inode t.slot)) None) (same-agreed t.inode)

  by-owner : (p : ℕ) (o : Option Tag) → owner_by Y p o ≡ owner_by X p o
  by-owner p None = refl
  by-owner p (Some t) = ap (λ (o : Option Home). cond (is_slot t.slot) o None)
      (found-owner p t (find Y t.inode (path_of t.slot))
      ∙ ap (λ (f : PathAnswer). owner_found X p t f) (same-find t.inode (path_of t.slot)))

  pub same-owner : (p : ℕ) → p ≢ 0 → owner Y p ≡ owner X p
  unfolding owner
  same-owner p ne = by-owner p (tag_of (cell_at Y p).tag)
      ∙ ap (λ (c : Cell). owner_by X p (tag_of c.tag)) (r.others p ne)

  same-used : (p : ℕ) → is_used_block Y p ≡ is_used_block X p
  same-used zero =
      let y : leb 0 ((super_at Y).inodes / 4) ≡ true = le-leb 0 ((super_at Y).inodes / 4) (omega arith) in
      let x : leb 0 ((super_at X).inodes / 4) ≡ true = le-leb 0 ((super_at X).inodes / 4) (omega arith) in
      (λ j. y j || is_some (owner Y 0)) ∙ sym (λ j. x j || is_some (owner X 0))
  same-used (suc p) = λ j. leb (suc p) (r.inodes j / 4) || is_some (same-owner (suc p) (λ e. omega (arith, e)) j)

  pub says-the-same : SaysTheSame X Y
  says-the-same = record {
    records = same-inode;
    values = same-value;
    files = same-files;
    agreed = same-agreed;
    inodes = λ i. ap (λ (b : Bool). is_special i || b) (same-agreed i);
    blocks = same-used;
  }

pub law-only-super : LawOnlySuper
law-only-super X Y r = says-the-same X Y r

-- a formatted disk has no bytes
module _ (B : Image) (new : IsNew B) where
  all-null : (i : ℕ) (path : Path) → IsSlot path → find B i path ≡ answer.Hole
  all-null i (InRecord n) slot = judged-built-null B i (InRecord n) (record_pointer (inode B i) n) (new.empty i n slot)
  all-null i (Under a n) slot = let z = all-null i a slot.2 in rw (z, find) refl

  pub no-bytes : (i k : ℕ) (content : _) → k < slot_limit → value B i k ≡ Bytes content → ⊥
  no-bytes i k content lt e =
      let h : value B i k ≡ Hole = ap (λ (f : PathAnswer). value_in B f) (all-null i (path_of k) (path_of-slot k lt)) in
      cc (h, e)
