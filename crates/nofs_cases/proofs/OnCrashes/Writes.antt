-- What a Put of one byte gives and writes, and that each write is proper.
use Rattle.std.proofs.Common.{max, ◌≡◌, ℕ, zero, suc, ◌-◌, ◌%◌, ◌^◌, ◌<◌, ◌≤◌, ◌⊎◌, inl, inr, true, List, [], ◌∷◌}
use Rattle.std.proofs.Common.{Some, refl, sym, ap, ap₂, ◌∙◌, subst, arith, Contains}
use Rattle.nofs_inode.specs.declared.inode.FileKind.TheVariants.{File}
use Rattle.nofs_disk.specs.declared.tag.Cell.{Cell}
use Rattle.nofs_disk.specs.declared.tag.Pointer.{Pointer}
use Rattle.nofs_inode.specs.declared.inode.Record.{Record}
use Rattle.nofs_inode.specs.InodeRecords.{record_at, is_live}
use Rattle.nofs_disk.specs.Pointer.{is_null}
use Rattle.nofs_disk.specs.Disk.{cell_at}
use Rattle.nofs_model.specs.Geometry.{inode}
use Rattle.nofs_ptrs.specs.Paths.{Path, InRecord, path_of, leaf, IsSlot}
use Rattle.nofs_model.specs.Slots.{find, record_pointer, value}
use Rattle.nofs_model.specs.Files.{FileState, Files}
use Rattle.nofs_model.specs.declared.image.path.PathAnswer.TheVariants as answer
use Rattle.nofs_model.specs.declared.image.value.Value.TheVariants.{Bytes}
use Rattle.nofs_history.specs.Meta.{Meta, meta_of, Is}
use Rattle.nofs_history.specs.Machine.{gives, meta_with, put_content, value_of, size_of}
use Rattle.nofs_history.specs.Since.{agreed_files}
use Rattle.nofs_crashlaw.specs.Images.Reasons.{Holes}
use Rattle.nofs_crashlaw.specs.Images.Proper.{Proper, OfTable, RecordProper, Unchanged}
use Rattle.nofs_crashlaw.specs.Images.Moments.{during, OnlyProper}
use Rattle.nofs_crashlaw.proofs.OnImages.Moments.{law-moment}
use Rattle.nofs_crashlaw.proofs.OnFiles.Given.{value-of, size-of}
use Rattle.nofs_crashlaw.specs.Files.Writes.{ContentLies, RecordLies}
use Rattle.nofs_crashlaw.proofs.OnFiles.Writes.{law-content, law-record}
use Rattle.nofs_crashlaw.proofs.OnHistories.Stages.{law-tracked}
use Rattle.nofs_crashlaw.specs.Machine.Worlds.{no_links}
use Rattle.nofs_cases.specs.Disks.Images.{z, blank, first_table, first_image, put_table, put_image, put_block}
use Rattle.nofs_cases.specs.Disks.Worlds.{block_two}
use Rattle.nofs_cases.specs.Steps.Maps.{alone, put_may}
use Rattle.nofs_cases.proofs.OnDisks.Images.{put-records, data-two, data-three, not-data-one}
use Rattle.nofs_cases.proofs.OnDisks.Below.{range-is}
use Rattle.nofs_cases.proofs.OnSteps.Files.{first-inode, first-empty, first-free, put-inode, put-slot, put-content}
use Rattle.nofs_cases.proofs.OnSteps.Maps.{one-of}
use Rattle.nofs_cases.proofs.OnSteps.Leaf.{leaf-inode, leaf-grows, deep-empty}
use Rattle.nofs_cases.specs.Crashes.Put.{first_mark, put_gives, torn_image, ImagesCase, MomentCase}
use Rattle.nofs_cases.specs.Crashes.Put.{WritesCase, PointersCase, still}
use Rattle.nofs_cases.proofs.OnCrashes.Put.{here, first-stage, mark-is, explained, own-pick, reads, size-is, no-value}
use Rattle.nofs_cases.proofs.OnCrashes.Put.{label_now, label-now}

given-content : put_content (value_of (agreed_files first_image) 2 0) (size_of (agreed_files first_image) 2) 0 0
    (7 ∷ []) ≡ 7 ∷ z 1023
unfolding label_now
given-content =
    ap₂ (λ v n. put_content v n 0 0 (7 ∷ [])) (value-of (agreed_files first_image) 2 label_now label-now 0 ∙ no-value)
    (size-of (agreed_files first_image) 2 label_now label-now ∙ size-is) ∙ put-content

given-slot : put_gives.slots 2 2 0 ≡ Some (Bytes (7 ∷ z 1023))
unfolding gives
given-slot = ap (λ (c : List ℕ). Some (Bytes c)) given-content

meta-is : (F : Files) (i : ℕ) (f : FileState) (change : FileState → Meta) → F i ≡ Some f
    → meta_with F i change ≡ change f
meta-is F i f change e = rw (e, meta_with) refl

given-meta : put_gives.metas 2 2 ≡ Some (Is File 1 no_links)
unfolding gives label_now
given-meta =
    ap Some (meta-is (agreed_files first_image) 2 label_now (λ f. Is f.kind (max f.size 1) f.links) label-now
    ∙ ap (λ (r : Record). Is File (max r.size 1) r.links) (first-inode 2))

-- Its writes

no-holds : (path : Path) (y : Pointer) → IsSlot path → find first_image 2 path ≡ answer.Holds y → ⊥
no-holds path y slot h = let e = first-empty 2 path slot in cc (e, h)

pub content-lies : ContentLies first_mark put_gives first_image put_image 2 2 0 (block_two 0) (put_block 7)
unfolding path_of
content-lies = record {
  area = data-two first_table blank blank;
  range = omega arith;
  generation = ap (λ (r : Record). r.generation) (put-inode 7 2);
  tag = put-slot 7;
  gives = given-slot;
  place = inr (first-free 2);
}

pub record-lies : RecordLies first_mark put_gives first_image 2 (inode put_image 2)
record-lies = record {
  live = ap is_live (first-inode 2);
  generation = ap (λ (r : Record). r.generation) (put-inode 7 2)
      ∙ sym (ap (λ (r : Record). r.generation) (first-inode 2));
  kind = ap (λ (r : Record). r.kind) (put-inode 7 2) ∙ sym (ap (λ (r : Record). r.kind) (first-inode 2));
  meta =
      inr (subst (λ (r : Record). put_gives.metas 2 r.generation ≡ Some (meta_of r)) (sym (put-inode 7 2)) given-meta);
  reads = reads;
  pointers = pointers;
}
  where
    pointers : (n : ℕ) → n < 10 → (record_pointer (inode put_image 2) n ≡ record_pointer (inode first_image 2) n)
        ⊎ (((2 ^ 40 ≤ (record_pointer (inode put_image 2) n).stamp)
        × ((z : Pointer) → find first_image 2 (InRecord n) ≡ answer.Holds z → ⊥))
        ⊎ ((is_null (record_pointer (inode put_image 2) n) ≡ true)
        × Holes (during first_mark put_gives) 2 (inode put_image 2).generation (InRecord n)))
    pointers zero lt = inr (inl (
      subst (λ (r : Record). 2 ^ 40 ≤ (record_pointer r 0).stamp) (sym (put-inode 7 2)) (omega arith),
      λ y h. no-holds (InRecord 0) y (omega arith) h,
    ))
    pointers (suc m) lt = inl (ap (λ (r : Record). record_pointer r (suc m)) (put-inode 7 2)
        ∙ sym (ap (λ (r : Record). record_pointer r (suc m)) (first-inode 2)))

pub writes-case : WritesCase
writes-case = (content-lies, record-lies)

pub pointers-case : PointersCase
unfolding path_of
pointers-case = (
  leaf-grows,
  record {
    area = data-three first_table blank blank;
    points = refl;
    slot = omega arith;
    on = inl refl;
    above = inr refl;
    live = ap is_live (first-inode 2);
    generation = ap (λ (r : Record). r.generation) (leaf-inode 2)
        ∙ sym (ap (λ (r : Record). r.generation) (first-inode 2));
    kind = ap (λ (r : Record). r.kind) (leaf-inode 2) ∙ sym (ap (λ (r : Record). r.kind) (first-inode 2));
    reads = reads;
    block = inr (first-empty 2 leaf (omega arith), first-free 3);
    next = inr (omega arith, deep-empty);
  },
)

abbrev pub IsProperWrite : ℕ → Cell → Type 0
IsProperWrite b c = Proper (during first_mark put_gives) first_image b c

table-proper : IsProperWrite 1 put_table
table-proper = OfTable (record {
  not_super = omega arith;
  area = not-data-one first_table blank blank;
  records =
      λ i r e. each i (range-is first_table blank blank i r);
})
  where
    each : (i : ℕ) → (1 ≤ i) × (i ≤ 4)
        → RecordProper (during first_mark put_gives) first_image i (record_at put_table.payload ((i - 1) % 4))
    each zero n = absurd (omega (arith, n))
    each (suc zero) n = Unchanged (put-records.one ∙ sym (first-inode 1))
    each (suc (suc zero)) n =
        subst (RecordProper (during first_mark put_gives) first_image 2) (put-inode 7 2 ∙ sym put-records.two)
        (law-record first_mark put_gives first_image 2 (inode put_image 2) record-lies)
    each (suc (suc (suc zero))) n = Unchanged (put-records.three ∙ sym (first-inode 3))
    each (suc (suc (suc (suc zero)))) n = Unchanged (put-records.four ∙ sym (first-inode 4))
    each (suc (suc (suc (suc (suc m))))) n = absurd (omega (arith, n))

proper-at : (b : ℕ) → (cell_at first_image b ≡ cell_at put_image b) ⊎ IsProperWrite b (cell_at put_image b)
proper-at zero = inl refl
proper-at (suc zero) = inr table-proper
proper-at (suc (suc zero)) =
    inr (law-content first_mark put_gives first_image put_image 2 2 0 (block_two 0) (put_block 7) content-lies)
proper-at (suc (suc (suc zero))) = inl refl
proper-at (suc (suc (suc (suc n)))) = inl refl

pub only-proper : OnlyProper (during first_mark put_gives) first_image (alone first_image) put_may
only-proper b c has = elim (one-of (cell_at first_image b) (cell_at put_image b) c has) [
  | inl e ↦ inl (subst (Contains (alone first_image b)) e (here (cell_at first_image b)))
  | inr e ↦ elim (proper-at b) [
    | inl same ↦ inl (subst (Contains (alone first_image b)) (same ∙ e) (here (cell_at first_image b)))
    | inr proper ↦ inr (subst (IsProperWrite b) e proper)
  ]
]

pub moment-case : MomentCase
moment-case = (
  mark-is,
  own-pick,
  law-tracked (still 0 8) first_image [] first_image (2 ^ 40) 0 (2 ^ 40) first-stage,
  explained,
  only-proper,
)

pub images-case : ImagesCase
images-case =
    let k = law-moment first_mark put_gives first_image
    (alone first_image) put_may moment-case.0 moment-case.1 moment-case.2 moment-case.3 moment-case.4 in
    (k.0, k.1, record { len = refl; each = λ b lt. member b })
  where
    member : (b : ℕ) → Contains (put_may b) (cell_at torn_image b)
    member zero = (0, omega arith, refl)
    member (suc zero) = (0, omega arith, refl)
    member (suc (suc zero)) = (1, omega arith, refl)
    member (suc (suc (suc zero))) = (0, omega arith, refl)
    member (suc (suc (suc (suc n)))) = (0, omega arith, refl)
