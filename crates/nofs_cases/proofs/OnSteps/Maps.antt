-- The maps and the stamps over a Put of one byte.
use Rattle.std.proofs.Common.{◌≡◌, ℕ, zero, suc, ◌-◌, ◌%◌, ◌^◌, ◌<◌, ◌≤◌, ◌⊎◌, inl, inr, true, false, eqb, [], ◌∷◌}
use Rattle.std.proofs.Common.{Option, Some, None, refl, sym, ap, ◌∙◌, subst, arith, eqb-true, is_some, All, Contains}
use Rattle.nofs_disk.specs.declared.tag.Kind.TheVariants.{Content, Table}
use Rattle.nofs_disk.specs.declared.tag.Pointer.{Pointer}
use Rattle.nofs_inode.specs.declared.inode.Record.{Record}
use Rattle.nofs_super.specs.declared.superblock.SuperBlock.{SuperBlock}
use Rattle.nofs_inode.specs.InodeRecords.{record_at, is_live, free_record}
use Rattle.nofs_disk.specs.Pointer.{null}
use Rattle.nofs_inode.specs.declared.inode.FileKind.{FileKind}
use Rattle.nofs_model.proofs.OnFiles.Chains.{agreed-holds}
use Rattle.nofs_crashlaw.proofs.OnUntouched.Agreement.{agreed-some}
use Rattle.nofs_crashlaw.proofs.OnMaps.Fresh.{sole-is}
use Rattle.nofs_history.specs.Good.{MatchesSuper, IsFresh}
use Rattle.nofs_model.specs.Files.{file_from, files_in, agreed}
use Rattle.nofs_model.specs.Geometry.{Image, inode}
use Rattle.nofs_disk.specs.Disk.{cell_at}
use Rattle.nofs_ptrs.specs.Paths.{Path, InRecord, path_of, IsSlot}
use Rattle.nofs_model.specs.Slots.{find, record_pointer}
use Rattle.nofs_model.specs.Owners.{Home, home_at}
use Rattle.nofs_model.specs.Sound.{CellBelow, IsBelow}
use Rattle.nofs_model.specs.declared.image.path.PathAnswer.TheVariants as answer
use Rattle.nofs_model.specs.declared.image.value.Value.TheVariants.{Hole}
use Rattle.nofs_history.specs.Machine.{gives}
use Rattle.nofs_history.specs.Claims.{cell_slot, is_claimed}
use Rattle.nofs_history.specs.Search.{count_below}
use Rattle.nofs_history.specs.Next.{Done}
use Rattle.nofs_crashlaw.specs.Maps.Homes.{HomesMatch, HomesMove}
use Rattle.nofs_crashlaw.specs.Maps.Fresh.{Numbered, Old, Stamp, RecordNumbers, InContent, InTable, OnlyNumbered}
use Rattle.nofs_crashlaw.specs.Maps.Fresh.{CellNumbers}
use Rattle.nofs_crashlaw.specs.Maps.Moves.{ClaimsStand, HeldMove}
use Rattle.nofs_crashlaw.specs.Maps.Pieces.{Claimed}
use Rattle.nofs_crashlaw.proofs.OnMaps.Homes.{law-good}
use Rattle.nofs_crashlaw.proofs.OnFiles.Puts.{law-put-files, law-put-homes}
use Rattle.nofs_crashlaw.specs.Machine.Worlds.{no_links}
use Rattle.nofs_cases.specs.Disks.Images.{z, blank, first_table, first_image, put_table, put_image}
use Rattle.nofs_cases.specs.Disks.Worlds.{label_file, first_files, first_world, block_two}
use Rattle.nofs_cases.specs.Steps.Files.{put_step, put_claims, put_places}
use Rattle.nofs_cases.specs.Steps.Maps.{alone, put_may, HomesCase, GoodCase, MovesCase, GrowCase, ShrinkCase}
use Rattle.nofs_cases.specs.Steps.Maps.{FreshCase, PiecesCase}
use Rattle.nofs_cases.proofs.OnDisks.Images.{root_record, label_record, numbers-are, mountable, first-records}
use Rattle.nofs_cases.proofs.OnDisks.Images.{put-records, data-two, put-tag, table-tag}
use Rattle.nofs_cases.proofs.OnDisks.Slots.{IsPlain, slot-is, others-stamp, held-is, unowned}
use Rattle.nofs_cases.proofs.OnDisks.Below.{record-low, no-links-low, free-low, RecordsLow, table-cell, blank-low}
use Rattle.nofs_cases.proofs.OnDisks.Below.{cells-low, range-is}
use Rattle.nofs_cases.proofs.OnSteps.Files.{first-inode, first-empty, first-free, first-match, first-old, first-root}
use Rattle.nofs_cases.proofs.OnSteps.Files.{first-label, put-inode, put-plain}
use Rattle.nofs_cases.proofs.OnSteps.Files.{put-lies, put-placed, put-claim, put-touches, put-holds, put-label, uncut}

-- the numbers of the disk
pub first-numbers : MatchesSuper first_world first_image
first-numbers =
    let e = sym (numbers-are first_table blank blank) in
    record {
      version = ap (λ (n : SuperBlock). n.version) e;
      blocks = ap (λ (n : SuperBlock). n.blocks) e;
      inodes =
          ap (λ (n : SuperBlock). n.inodes) e;
      mount = ap (λ (n : SuperBlock). n.mount) e;
    }

pub first-homes : HomesMatch first_world first_image
first-homes p lt = sym (unowned first_image p (first-free p))

pub put-move : HomesMove first_files put_step put_claims first_image put_image
put-move = law-put-homes first_world first_image put_image 2 2 0 0 (7 ∷ []) (label_file 0 Hole)
    (2 ^ 40) put_places put_claims put-lies put-claim put-placed

pub homes-case : HomesCase
unfolding gives
homes-case = (
  first-homes,
  first-match,
  put-move,
  law-put-files first_files first_image put_image 2 2 0 0 (7 ∷ []) (label_file 0 Hole) (2 ^ 40) put_places put-lies,
)

pub good-case : GoodCase
unfolding path_of count_below
good-case = (
  Done refl refl refl put-claim refl refl refl (refl, refl, refl, refl, refl) (record {
    inodes_stay = λ i k. k;
    blocks_stay = λ p k. k;
    inodes_change = λ i ne. refl;
    blocks_change = λ p ne. refl;
    inode_seen = λ t i s. refl;
    block_seen = λ t p s. refl;
    inodes_why = λ i k. inl refl;
    blocks_why = λ p k. inl refl;
  }),
  refl,
  law-good first_world first_image first-numbers first-match first-homes,
  refl,
)

-- What moves

-- a free record is not agreed
dead : (X : Image) (j : ℕ) → (inode X j).kind ≡ None → agreed (files_in X) j ≡ true → ⊥
dead X j e a =
    let s = agreed-some (files_in X) j (agreed-holds (files_in X) j a) in
    let n : is_some (files_in X j) ≡ false = ap (λ (k : Option FileKind). is_some (file_from X j k)) e in
    cc (s, n)

agreed-are : (j : ℕ) → eqb j 2 ≡ false → agreed (files_in put_image) j ≡ true → agreed (files_in first_image) j ≡ true
agreed-are zero ne a = absurd (dead put_image 0 (ap (λ (r : Record). r.kind) (put-inode 7 0)) a)
agreed-are (suc zero) ne a = first-root
agreed-are (suc (suc zero)) ne a = first-label
agreed-are (suc (suc (suc zero))) ne a = absurd (dead put_image 3 (ap (λ (r : Record). r.kind) (put-inode 7 3)) a)
agreed-are (suc (suc (suc (suc n)))) ne a = absurd (dead put_image (suc (suc (suc (suc n))))
    (ap (λ (r : Record). r.kind) (put-inode 7 (suc (suc (suc (suc n)))))) a)

-- what holds after the Put is the claimed block
held : (j : ℕ) → eqb j 2 ≡ true → HeldMove put_claims first_image put_image j
held j e = subst (HeldMove put_claims first_image put_image) (sym (eqb-true j 2 e)) (λ a y slot agreed h.
    let d = held-is put_image 2 (block_two 0) (put-plain 7 2) a y slot h in
    inr (
      (subst (λ (q : Pointer). is_claimed q ≡ true) d.1 refl, inl d.1),
      (λ x old. let z = first-empty 2 a slot in cc (z, old)),
    ))

stands : (at : Home) → cell_slot first_files put_step ≡ Some at → ClaimsStand put_claims put_image at
unfolding path_of
stands at e = subst (ClaimsStand put_claims put_image) (same (home_at 2 0) at e) (record {
  agreed = put-label;
  range = omega arith;
  cell = λ c. put-holds 7;
  leaf = λ c. cc c;
  top = λ c. cc c;
})
  where
    same : (a b : Home) → Some a ≡ Some b → a ≡ b
    same a b h = cc h

-- Numbers

pub first-low : (s : ℕ) → 2 < s → RecordsLow s (root_record null) (label_record 0 null) free_record
first-low s lt = record {
  one = record-low s (root_record null) null refl (omega (arith, lt)) (no-links-low s (omega (arith, lt)))
      (omega (arith, lt));
  two = record-low s (label_record 0 null) null refl lt (no-links-low s (omega (arith, lt))) (omega (arith, lt));
  three = free-low s (omega (arith, lt));
}

-- each cell of the formatted disk
pub first-below : (s : ℕ) → 2 < s → (b : ℕ) → b < 16 → CellBelow s first_image b (cell_at first_image b)
first-below s lt = cells-low s first_table blank blank first_table blank blank (omega (arith, lt))
    (table-cell s first_table blank blank first_table (root_record null) (label_record 0 null) free_record
    (omega (arith, lt)) refl first-records
    (first-low s lt))
    (blank-low s (omega (arith, lt))) (blank-low s (omega (arith, lt)))

pub first-is-below : (s : ℕ) → 2 < s → IsBelow s first_image
first-is-below s lt b low = first-below s lt b
    (let n = ap (λ (q : SuperBlock). q.blocks) (numbers-are first_table blank blank) in omega (arith, n, low))

-- one of two members
pub one-of : {A : Type 0} → (x y v : A) → Contains (x ∷ y ∷ []) v → (x ≡ v) ⊎ (y ≡ v)
one-of x y v (zero, lt, e) = inl e
one-of x y v (suc zero, lt, e) = inr e
one-of x y v (suc (suc k), lt, e) = absurd (omega (arith, lt))

first-fresh : IsFresh first_world first_image (alone first_image)
first-fresh b lt c has = subst (CellBelow (2 ^ 40) first_image b) (sole-is (cell_at first_image b) c has)
    (first-below (2 ^ 40) (omega arith) b lt)

old : (n : ℕ) → n < 2 ^ 40 → Numbered first_world put_claims n
old n lt = Old lt

-- the numbers of the Put: each is old, but for the stamp of its block
abbrev IsPutNumber : ℕ → Type 0
IsPutNumber n = Numbered first_world put_claims n

put-stamp : IsPutNumber (2 ^ 40)
put-stamp = Stamp (block_two 0) (0, omega arith, refl) refl

plain-numbers : (r : Record) (x : Pointer) → IsPlain r x
    → r.generation < 2 ^ 40 → All (λ l. IsPutNumber l.generation) r.links → IsPutNumber x.stamp
    → RecordNumbers IsPutNumber r
plain-numbers r x is g links stamp = record { generation = old r.generation g; links = links; pointers = each }
  where
    each : (n : ℕ) → n < 10 → IsPutNumber (record_pointer r n).stamp
    each zero low = subst IsPutNumber (sym (ap (λ (q : Record). (record_pointer q 0).stamp) is)) stamp
    each (suc m) low = subst IsPutNumber (sym (others-stamp r x is m)) (old 0 (omega arith))

links-old : All (λ l. IsPutNumber l.generation) no_links
links-old zero d lt = old 0 (omega arith)
links-old (suc zero) d lt = old 0 (omega arith)
links-old (suc (suc zero)) d lt = old 0 (omega arith)
links-old (suc (suc (suc zero))) d lt = old 0 (omega arith)
links-old (suc (suc (suc (suc k)))) d lt = absurd (omega (arith, lt))

table-numbers : (i : ℕ) → (1 ≤ i) × (i ≤ 4) → RecordNumbers IsPutNumber (record_at put_table.payload ((i - 1) % 4))
table-numbers zero n = absurd (omega (arith, n))
table-numbers (suc zero) n = subst (RecordNumbers IsPutNumber) (sym put-records.one)
    (plain-numbers (root_record null) null refl (omega arith) links-old (old 0 (omega arith)))
table-numbers (suc (suc zero)) n = subst (RecordNumbers IsPutNumber) (sym put-records.two)
    (plain-numbers (label_record 1 (block_two 0)) (block_two 0) refl (omega arith) links-old put-stamp)
table-numbers (suc (suc (suc zero))) n = subst (RecordNumbers IsPutNumber) (sym put-records.three)
    (plain-numbers free_record null refl (omega arith) links-old (old 0 (omega arith)))
table-numbers (suc (suc (suc (suc zero)))) n = subst (RecordNumbers IsPutNumber) (sym put-records.four)
    (plain-numbers free_record null refl (omega arith) links-old (old 0 (omega arith)))
table-numbers (suc (suc (suc (suc (suc m))))) n = absurd (omega (arith, n))

put-numbers : (b : ℕ) → (cell_at first_image b ≡ cell_at put_image b)
    ⊎ CellNumbers IsPutNumber first_image b (cell_at put_image b)
put-numbers zero = inl refl
put-numbers (suc zero) = inr (InTable (record { kind = Table; inode = 0; generation = 0; slot = 1; stamp = 0 })
    table-tag refl (old 0 (omega arith))
    (old 0 (omega arith)) (λ i r e live. table-numbers i (range-is first_table blank blank i r)))
put-numbers (suc (suc zero)) = inr (InContent (data-two first_table blank blank)
    (record { kind = Content; inode = 2; generation = 2; slot = 0; stamp = 2 ^ 40 }) (put-tag 7) refl
    (old 2 (omega arith)) put-stamp)
put-numbers (suc (suc (suc zero))) = inl refl
put-numbers (suc (suc (suc (suc n)))) = inl refl

only-numbered : OnlyNumbered first_world put_claims first_image (alone first_image) put_may
only-numbered b lt d has = elim (one-of (cell_at first_image b) (cell_at put_image b) d has) [
  | inl e ↦ inl (subst (Contains (alone first_image b)) e (0, omega arith, refl))
  | inr e ↦ elim (put-numbers b) [
    | inl same ↦ inl (subst (Contains (alone first_image b)) (same ∙ e) (0, omega arith, refl))
    | inr numbers ↦ inr (subst (CellNumbers IsPutNumber first_image b) e numbers)
  ]
]

pub moves-case : MovesCase
moves-case = (put-claim, put-touches, (λ j a. first-old (2 ^ 40) (omega arith) j), stands, agreed-are, held)

off-path : (p : Path) → IsSlot p → (p ≡ InRecord 0 → ⊥) → find put_image 2 p ≡ find first_image 2 p
off-path p slot off = elim (slot-is put_image 2 (block_two 0) (put-plain 7 2) p slot) [
  | inl e ↦ absurd (off e)
  | inr z ↦ z ∙ sym (first-empty 2 p slot)
]

pub grow-case : GrowCase
unfolding path_of
grow-case = (
  first-label,
  (λ p e. subst (λ (q : Path). find put_image 2 q ≡ answer.Holds (block_two 0)) (sym e) (put-holds 7)),
  off-path,
  put-placed.each,
)

pub shrink-case : ShrinkCase
shrink-case = (put-label, λ p slot. ((λ cut. first-empty 2 p slot), (λ stays. absurd (uncut p stays))))

pub fresh-case : FreshCase
fresh-case = (
  ap (λ (n : SuperBlock). n.inodes % 4) (numbers-are first_table blank blank),
  first-fresh,
  only-numbered,
  omega arith,
)

pub pieces-case : PiecesCase
pieces-case = (
  sym (ap (λ (n : SuperBlock). n.blocks) (numbers-are first_table blank blank)),
  (λ b lt. (0, omega arith, refl)),
  omega arith,
  mountable first_table blank blank,
  first-is-below (2 ^ 40) (omega arith),
  ap is_live (first-inode 2),
  omega arith,
  Claimed (0, omega arith, refl),
)
