-- A Put with a claimed block, one in place, and a Resize.
use Rattle.std.proofs.Common.{max, ◌≡◌, ◌≢◌, ℕ, zero, suc, ◌+◌, ◌^◌, ◌<◌, inl, inr, true, false, eqb, [], ◌∷◌, Some}
use Rattle.std.proofs.Common.{None, refl, sym, ap, ap₂, ◌∙◌, subst, arith, le-leb}
use Rattle.nofs_disk.specs.Number.{put_bytes}
use Rattle.nofs_inode.specs.declared.inode.FileKind.TheVariants.{File, Directory}
use Rattle.nofs_disk.specs.declared.tag.Cell.{Cell}
use Rattle.nofs_disk.specs.declared.tag.Pointer.{Pointer}
use Rattle.nofs_inode.specs.declared.inode.Record.{Record}
use Rattle.nofs_disk.specs.Tag.{tag_of}
use Rattle.nofs_disk.specs.Pointer.{null, is_null}
use Rattle.nofs_inode.specs.InodeRecords.{is_live, free_record}
use Rattle.nofs_disk.specs.Disk.{cell_at}
use Rattle.nofs_model.specs.Geometry.{inode}
use Rattle.nofs_ptrs.specs.Paths.{Path, InRecord, Under, path_of, IsSlot}
use Rattle.nofs_model.specs.Slots.{tag_for, record_pointer, find}
use Rattle.nofs_model.specs.Files.{files_in, agreed, Files, FileState, is_folder}
use Rattle.nofs_model.specs.Owners.{IsFree}
use Rattle.nofs_model.specs.declared.image.path.PathAnswer.TheVariants as answer
use Rattle.nofs_model.specs.declared.image.value.Value.{Value}
use Rattle.nofs_model.specs.declared.image.value.Value.TheVariants.{Hole, Bytes}
use Rattle.nofs_history.specs.Machine.{put_content, trimmed}
use Rattle.nofs_history.specs.History.{FilesMatch}
use Rattle.nofs_history.specs.Claims.{IsClaim, NoInode, Claimed, Unclaimed}
use Rattle.nofs_crashlaw.specs.Untouched.Frames.{Touches, SameNames, OldPointers}
use Rattle.nofs_crashlaw.specs.Files.Growth.{Grows, IsPlaced}
use Rattle.nofs_crashlaw.proofs.OnUntouched.Inodes.{rewrites}
use Rattle.nofs_crashlaw.specs.Files.Puts.{PutLies, ClaimsPlaced}
use Rattle.nofs_crashlaw.specs.Files.Resizes.{first_slot_below, is_cut, cut_at, ResizeLies}
use Rattle.nofs_cases.specs.Disks.Images.{z, blank, image_of, first_table, first_image, put_table, put_block}
use Rattle.nofs_cases.specs.Disks.Images.{put_image, resize_table, resize_image}
use Rattle.nofs_cases.specs.Disks.Worlds.{root_file, label_file, first_files, put_files, first_world, block_two}
use Rattle.nofs_cases.specs.Steps.Files.{put_step, put_places, put_claims, PutCase, PutHeldCase, ResizeCase}
use Rattle.nofs_cases.specs.Steps.Files.{UntouchedCase, GrownCase}
use Rattle.nofs_cases.proofs.OnDisks.Numbers.{each-number, none-of}
use Rattle.nofs_cases.proofs.OnDisks.Images.{plain, nth, root_record, label_record, HasRecords, inode-is}
use Rattle.nofs_cases.proofs.OnDisks.Images.{first-records, put-records, resize-records, data-two, put-tag}
use Rattle.nofs_cases.proofs.OnDisks.Steps.{each-block, stamp-is, same-names, label-touches}
use Rattle.nofs_cases.proofs.OnDisks.Slots.{ArePlain, pick, plain-image, no-pointers, not-under, empty, old-pointers}
use Rattle.nofs_cases.proofs.OnDisks.Matches.{root-agreed, label-agreed, first-tag, first-holds, same-empty}
use Rattle.nofs_cases.proofs.OnDisks.Matches.{same-first, same-none, files-match}

-- The three disks

pub first-inode : (i : ℕ) → inode first_image i ≡ nth (root_record null) (label_record 0 null) free_record i
first-inode i = inode-is first_table blank blank (root_record null) (label_record 0 null) free_record first-records i

pub put-inode : (byte : ℕ) (i : ℕ) → inode (image_of put_table (put_block byte) blank) i ≡ nth (root_record null)
    (label_record 1 (block_two 0)) free_record i
put-inode byte i = inode-is put_table (put_block byte) blank (root_record null)
    (label_record 1 (block_two 0)) free_record put-records i

pub resize-inode : (i : ℕ) → inode resize_image i ≡ nth (root_record null) (label_record 5000 null) free_record i
resize-inode i =
    inode-is resize_table blank blank (root_record null) (label_record 5000 null) free_record resize-records i

pub first-plain : ArePlain first_image (pick null null null)
first-plain = plain-image first_table blank blank (root_record null)
    (label_record 0 null) free_record null null null first-records refl refl refl

pub put-plain : (byte : ℕ) → ArePlain (image_of put_table (put_block byte) blank) (pick null (block_two 0) null)
put-plain byte = plain-image put_table (put_block byte) blank (root_record null)
    (label_record 1 (block_two 0)) free_record null (block_two 0)
    null put-records refl refl refl

pub no-pointer : (i : ℕ) → pick null null null i ≡ null
no-pointer = each-number (λ i. pick null null null i ≡ null) refl refl refl refl (λ n. refl)

pub first-empty : (i : ℕ) (path : Path) → IsSlot path → find first_image i path ≡ answer.Hole
first-empty i = empty first_image i
    (subst (λ (x : Pointer). inode first_image i ≡ plain (inode first_image i).generation (inode first_image i).kind
    (inode first_image i).links (inode first_image i).size x) (no-pointer i) (first-plain i))

pub no-holds : (i : ℕ) (path : Path) (y : Pointer) → IsSlot path → find first_image i path ≡ answer.Holds y → ⊥
no-holds i path y slot h = let e = first-empty i path slot in cc (e, h)

pub first-free : (b : ℕ) → IsFree first_image b
first-free b i path y slot agreed h = absurd (no-holds i path y slot h)

pub first-old : (s : ℕ) → 0 < s → (i : ℕ) → OldPointers s first_image i
first-old s lt i = old-pointers first_image i (pick null null null i) (first-plain i) s (let e =
    ap (λ (x : Pointer). x.stamp) (no-pointer i) in omega (arith, e, lt))

pub first-root : agreed (files_in first_image) 1 ≡ true
first-root = root-agreed first_image (ap (λ (r : Record). r.kind) (first-inode 1))
    (ap (λ (r : Record). r.generation) (first-inode 1))

pub first-label : agreed (files_in first_image) 2 ≡ true
first-label = label-agreed first_image (ap (λ (r : Record). r.kind) (first-inode 2))
    (ap (λ (r : Record). r.generation) (first-inode 2))

pub first-match : FilesMatch first_files first_image
first-match =
    files-match first_image (root_file Hole) (label_file 0 Hole) None (ap (λ (r : Record). r.kind) (first-inode 0))
    (same-empty first_image 1 (root_record null) Directory (first-inode 1) refl (first-plain 1) first-root)
    (same-empty first_image 2 (label_record 0 null) File (first-inode 2) refl (first-plain 2) first-label)
    (same-none first_image 3 (ap (λ (r : Record). r.kind) (first-inode 3)))
    (λ n. ap (λ (r : Record). r.kind) (first-inode (suc (suc (suc (suc n))))))

-- A Put with a claimed block

pub put-slot : (byte : ℕ)
    → tag_of (put_block byte).tag ≡ Some (tag_for (image_of put_table (put_block byte) blank) 2 (InRecord 0) (2 ^ 40))
put-slot byte = put-tag byte
    ∙ sym (ap Some (first-tag (image_of put_table (put_block byte) blank) 2 (label_record 1 (block_two 0)) (2 ^ 40)
    (put-inode byte 2)))

pub put-touches : Touches (2 ^ 40) (λ j. eqb j 2) first_image put_image
put-touches = label-touches (2 ^ 40) first_table blank blank put_table (put_block 7) blank (label_record 0 null)
    (label_record 1 (block_two 0)) first-records
    put-records (inr (inl (first-free 2, stamp-is (2 ^ 40) (put_block 7) _ (put-tag 7) (omega arith)))) (inl refl)

pub put-grows : Grows (2 ^ 40) first_image put_image 2 (path_of 0) put_places
unfolding path_of
put-grows = record {
  placed = λ a e. subst (λ (p : Path). IsPlaced put_image 2 put_places p) (sym e)
      (ap (λ (r : Record). record_pointer r 0) (put-inode 7 2));
  not_null = λ a e. refl;
  area = λ a e. data-two put_table (put_block 7) blank;
  tag = λ a e. subst (λ (p : Path). tag_of (put_block 7).tag ≡ Some (tag_for put_image 2 p (2 ^ 40)))
      (sym e) (put-slot 7);
  record_stays = stays;
  beside = λ b n slot e off. absurd (not-under b slot.0 e);
  apart = λ b y slot off h. absurd (no-holds 2 b y slot h);
}
  where
    stays : (n : ℕ) → (InRecord n ≡ InRecord 0 → ⊥)
        → record_pointer (inode put_image 2) n ≡ record_pointer (inode first_image 2) n
    stays zero off = absurd (off refl)
    stays (suc m) off = ap (λ (r : Record). record_pointer r (suc m)) (put-inode 7 2)
        ∙ sym (ap (λ (r : Record). record_pointer r (suc m)) (first-inode 2))

pub put-content : put_content Hole 0 0 0 (7 ∷ []) ≡ 7 ∷ z 1023
unfolding put_content trimmed put_bytes
put-content = refl

put-names : SameNames first_image put_image 2
put-names = same-names first_image put_image 2 (label_record 0 null) (label_record 1 (block_two 0)) (first-inode 2)
    (put-inode 7 2) refl

-- the machine's file of the label, by its size and its first value
pub record IsLabel (F : Files) (f : FileState) : Type 0 where
  pub is : F 2 ≡ Some f
  pub generation : f.generation ≡ 2
  pub kind : is_folder f.kind ≡ false
  pub size : f.size ≡ 0
  pub value : f.values 0 ≡ Hole

pub put-lies-of : (F : Files) (f : FileState) → FilesMatch F first_image → IsLabel F f
    → PutLies F first_image put_image 2 2 0 0 (7 ∷ []) f (2 ^ 40) put_places
put-lies-of F f match l = record {
  files = match;
  is = l.is;
  generation = l.generation;
  file = l.kind;
  range = omega arith;
  touches = put-touches;
  names = put-names;
  size = ap (λ (r : Record). r.size) (put-inode 7 2) ∙ sym (ap (λ (n : ℕ). max n 1) l.size);
  grows = put-grows;
  content = sym (ap₂ (λ v n. put_content v n 0 0 (7 ∷ [])) l.value l.size ∙ put-content);
  old = λ j some. first-old (2 ^ 40) (omega arith) j;
}

pub put-lies : PutLies first_files first_image put_image 2 2 0 0 (7 ∷ []) (label_file 0 Hole) (2 ^ 40) put_places
put-lies = put-lies-of first_files (label_file 0 Hole) first-match
    (record { is = refl; generation = refl; kind = refl; size = refl; value = refl })

pub put-placed : ClaimsPlaced put_claims first_image 2 0 put_places
unfolding path_of
put-placed = record {
  cell = λ e. refl;
  leaf = λ e. cc e;
  top = λ e. cc e;
  each = λ a e. inr (
    (refl, inl refl),
    (λ x h. no-holds 2 (InRecord 0) x (omega arith) (subst (λ (p : Path). find first_image 2 p ≡ answer.Holds x) e h)),
  );
}

pub put-claim : IsClaim first_world put_step put_claims
unfolding path_of
put-claim = record {
  inode = NoInode refl refl;
  cell = Claimed refl (omega arith) refl;
  leaf = Unclaimed refl;
  top = Unclaimed refl;
  apart = ((λ y c. absurd (none-of c)), tt);
}

pub put-case : PutCase
put-case = (put-lies, put-placed, put-claim)

pub untouched-case : UntouchedCase
untouched-case = (put-touches, first-root, first-old (2 ^ 40) (omega arith) 1, ap is_live (first-inode 1))

pub grown-case : GrownCase
grown-case = (
  rewrites (2 ^ 40) (λ j. eqb j 2) first_image put_image put-touches,
  first-label,
  record {
    live = ap is_live (first-inode 2);
    kind = put-names.kind;
    generation = put-names.generation;
  },
  first-old (2 ^ 40) (omega arith) 2,
  put-grows,
)

-- A Put in place

pub put-holds : (byte : ℕ)
    → find (image_of put_table (put_block byte) blank) 2 (InRecord 0) ≡ answer.Holds (block_two 0)
put-holds byte = first-holds (image_of put_table (put_block byte) blank) 2 (block_two 0) (put-plain byte 2)
    (ap is_live (put-inode byte 2))
    (data-two put_table (put_block byte) blank) (put-slot byte) refl

pub put-root : agreed (files_in put_image) 1 ≡ true
put-root = root-agreed put_image (ap (λ (r : Record). r.kind) (put-inode 7 1))
    (ap (λ (r : Record). r.generation) (put-inode 7 1))

pub put-label : agreed (files_in put_image) 2 ≡ true
put-label = label-agreed put_image (ap (λ (r : Record). r.kind) (put-inode 7 2))
    (ap (λ (r : Record). r.generation) (put-inode 7 2))

pub put-match : FilesMatch put_files put_image
put-match = files-match put_image (root_file Hole) (label_file 1 (Bytes (7 ∷ z 1023))) None
    (ap (λ (r : Record). r.kind) (put-inode 7 0))
    (same-empty put_image 1 (root_record null) Directory (put-inode 7 1) refl (put-plain 7 1) put-root)
    (same-first put_image 2 (label_record 1 (block_two 0)) File (block_two 0) (put-inode 7 2) refl
    (put-plain 7 2) put-label (put-holds 7))
    (same-none put_image 3 (ap (λ (r : Record). r.kind) (put-inode 7 3)))
    (λ n. ap (λ (r : Record). r.kind) (put-inode 7 (suc (suc (suc (suc n))))))

pub put-old : (i : ℕ) → OldPointers (2 ^ 40 + 1) put_image i
put-old i = old-pointers put_image i (pick null (block_two 0) null i) (put-plain 7 i) (2 ^ 40 + 1)
    (each-number (λ n. (pick null (block_two 0) null n).stamp < 2 ^ 40 + 1) (omega arith) (omega arith) (omega arith)
    (omega arith) (λ n. omega arith) i)

again-content : put_content (Bytes (7 ∷ z 1023)) 1 0 0 (9 ∷ []) ≡ 9 ∷ z 1023
unfolding put_content trimmed put_bytes
again-content = refl

pub put-held-case : PutHeldCase
unfolding path_of
put-held-case =
    let same = λ (j : ℕ). put-inode 9 j ∙ sym (put-inode 7 j) in
    record {
      files = put-match;
      is = refl;
      generation = refl;
      file = refl;
      range = omega arith;
      held = put-holds 7;
      super = refl;
      records = λ j ne. same j;
      blocks = each-block (λ b. b ≢ 2 → cell_at (image_of put_table (put_block 9) blank) b ≡ cell_at put_image b)
          put_table (put_block 7) blank
          (λ ne. absurd (ne refl)) (λ ne. refl) (λ n ne. refl);
      names = same-names put_image (image_of put_table (put_block 9) blank) 2 (label_record 1 (block_two 0))
          (label_record 1 (block_two 0)) (put-inode 7 2)
          (put-inode 9 2) refl;
      pointers = λ n. ap (λ (r : Record). record_pointer r n) (same 2);
      size = ap (λ (r : Record). r.size) (put-inode 9 2);
      tag = put-tag 9 ∙ sym (put-tag 7);
      content = sym again-content;
      old = λ j some. put-old j;
    }

-- A Resize

-- the cut is at slot 0: each slot lies behind it
all-cut : (a : Path) → is_cut 0 a ≡ true
all-cut (InRecord n) = le-leb 0 (first_slot_below (InRecord n)) (omega arith)
all-cut (Under a n) = rw (all-cut a) refl

pub uncut : (a : Path) → is_cut 0 a ≡ false → ⊥
uncut a e = let t = all-cut a in cc (t, e)

-- the label file without its block: neither its record nor any slot keeps a pointer
module _ (F : Files) (t x y u : Cell) (size new s : ℕ) (p : Pointer) (v : Value)
    (before : HasRecords t (root_record null) (label_record size p) free_record)
    (after : HasRecords u (root_record null) (label_record new null) free_record)
    (cut : cut_at (label_file size v) new ≡ 0) where
  stays-none : (a : Path) → is_cut (cut_at (label_file size v) new) a ≡ false → ⊥
  stays-none a e = uncut a (ap (λ (n : ℕ). is_cut n a) (sym cut) ∙ e)

  after-is : inode (image_of u x y) 2 ≡ label_record new null
  after-is = inode-is u x y (root_record null) (label_record new null) free_record after 2

  pub cut-pointers : (n : ℕ) → is_null (record_pointer (inode (image_of u x y) 2) n) ≡ true
  cut-pointers n = ap (λ (r : Record). is_null (record_pointer r n)) after-is
      ∙ no-pointers (label_record new null) refl n

  pub cut-lies : FilesMatch F (image_of t x y) → F 2 ≡ Some (label_file size v)
      → ((j : ℕ) → OldPointers s (image_of t x y) j)
      → ResizeLies F (image_of t x y) (image_of u x y) 2 2 new (label_file size v) s
  cut-lies files is old = record {
    files = files;
    is = is;
    generation = refl;
    file = refl;
    touches = label-touches s t x y u x y (label_record size p) (label_record new null) before after
        (inl refl) (inl refl);
    names = same-names (image_of t x y) (image_of u x y) 2 (label_record size p) (label_record new null)
        (inode-is t x y (root_record null) (label_record size p) free_record before 2) after-is refl;
    size_is = ap (λ (r : Record). r.size) after-is;
    record_cut = λ n gone. cut-pointers n;
    record_stays = λ n stays. absurd (stays-none (InRecord n) stays);
    cell_cut = λ b n q at stays h gone. absurd (stays-none b stays);
    cell_stays = λ b n q at stays h. absurd (stays-none b stays);
    whole = λ b n at stays. absurd (stays-none b stays);
    content = λ k q lt below. absurd (omega (arith, below, cut));
    old = λ j some. old j;
  }

pub resize-lies : ResizeLies first_files first_image resize_image 2 2 5000 (label_file 0 Hole) (2 ^ 40)
resize-lies = cut-lies first_files first_table blank blank resize_table 0 5000
    (2 ^ 40) null Hole first-records resize-records refl first-match refl
    (first-old (2 ^ 40) (omega arith))

pub resize-case : ResizeCase
resize-case = (
  resize-lies,
  record { inode = NoInode refl refl; cell = Unclaimed refl; leaf = Unclaimed refl; top = Unclaimed refl; apart = tt },
)
