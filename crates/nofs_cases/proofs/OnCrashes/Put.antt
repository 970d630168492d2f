-- The formatted disk as a mark, and a Put of one byte after it.
use Rattle.std.proofs.Common.{◌≡◌, ℕ, zero, suc, ◌+◌, ◌*◌, ◌^◌, ◌<◌, inl, inr, Bool, true, cond, ltb, List, [], ◌∷◌}
use Rattle.std.proofs.Common.{length, Some, refl, sym, ap, subst, arith, lt-ltb, le-ltb, ltb-true, Contains}
use Rattle.std.specs.List.{list_all}
use Rattle.std.specs.Prelude.{slice_index}
use Rattle.std.proofs.lemmas.Bool.{cases_lt}
use Rattle.std.proofs.lemmas.List.{get_or-replicate}
use Rattle.nofs_disk.specs.Disk.{IsDisk, IsSettled, IsSizedCell, Picks, cell_at}
use Rattle.nofs_inode.specs.declared.inode.FileKind.TheVariants.{File}
use Rattle.nofs_disk.specs.declared.tag.Cell.{Cell}
use Rattle.nofs_inode.specs.declared.inode.Record.{Record}
use Rattle.nofs_model.specs.Geometry.{Image, inode}
use Rattle.nofs_model.specs.Slots.{find, value}
use Rattle.nofs_model.specs.Files.{node_in, file_from, FileState}
use Rattle.nofs_model.specs.declared.image.value.Value.TheVariants.{Hole}
use Rattle.nofs_model.proofs.OnSlots.Find.{and-both}
use Rattle.nofs_history.specs.Since.{agreed_files}
use Rattle.nofs_history.specs.Steady.{SteadyRest}
use Rattle.nofs_crashlaw.specs.Images.Reasons.{IsMark, ReadsSince}
use Rattle.nofs_crashlaw.specs.Images.Moments.{AllExplained}
use Rattle.nofs_crashlaw.proofs.OnImages.Moments.{law-flush, law-images}
use Rattle.nofs_crashlaw.proofs.OnMaps.Fresh.{sole-is}
use Rattle.nofs_crashlaw.specs.Histories.Stage.{Stage}
use Rattle.nofs_crashlaw.proofs.OnHistories.FirstStage.{law-first-stage}
use Rattle.nofs_cases.specs.Disks.Images.{blank, super_block, image_of, first_table, first_image, put_table, put_block}
use Rattle.nofs_cases.specs.Steps.Maps.{alone}
use Rattle.nofs_cases.proofs.OnDisks.Images.{mountable}
use Rattle.nofs_cases.proofs.OnDisks.Slots.{empty-value}
use Rattle.nofs_cases.proofs.OnDisks.Matches.{agreed-file}
use Rattle.nofs_cases.proofs.OnSteps.Files.{first-inode, first-plain, first-label}
use Rattle.nofs_cases.proofs.OnSteps.Maps.{first-is-below}
use Rattle.nofs_cases.specs.Crashes.Put.{SameDisk, first_mark, FlushCase, still, FirstStageCase}

pub same-disk : SameDisk
same-disk = refl

-- Bytes

pub each-small : (xs : List ℕ) → list_all (λ b. ltb b 256) xs ≡ true → (k : ℕ) → slice_index xs k < 256
each-small [] e k = omega arith
each-small (x ∷ xs) e zero = ltb-true x 256 (and-both (ltb x 256) (list_all (λ b. ltb b 256) xs) e).0
each-small (x ∷ xs) e (suc k) = each-small xs (and-both (ltb x 256) (list_all (λ b. ltb b 256) xs) e).1 k

-- a cell of the right lengths, each of whose numbers is a byte
pub sized-cell : (c : Cell) → length c.payload ≡ 1024 → length c.tag ≡ 32 → list_all (λ b. ltb b 256) c.payload ≡ true
    → list_all (λ b. ltb b 256) c.tag ≡ true
    → IsSizedCell c
sized-cell c payload tag bytes tag_bytes = record {
  payload = record { len = payload; each = each-small c.payload bytes };
  tag = record { len = tag; each = each-small c.tag tag_bytes };
}

sized-super : IsSizedCell super_block
sized-super = sized-cell super_block refl refl refl refl

sized-first : IsSizedCell first_table
sized-first = sized-cell first_table refl refl refl refl

sized-put : IsSizedCell put_table
sized-put = sized-cell put_table refl refl refl refl

sized-block : IsSizedCell (put_block 7)
sized-block = sized-cell (put_block 7) refl refl refl refl

pub sized-blank : IsSizedCell blank
sized-blank = sized-cell blank refl refl refl refl

-- each cell of an image
pub sized-image : (t x : Cell) → IsSizedCell t → IsSizedCell x
    → (b : ℕ) → b < 16 → IsSizedCell (cell_at (image_of t x blank) b)
sized-image t x st sx zero lt = sized-super
sized-image t x st sx (suc zero) lt = st
sized-image t x st sx (suc (suc zero)) lt = sx
sized-image t x st sx (suc (suc (suc zero))) lt = sized-blank
sized-image t x st sx (suc (suc (suc (suc n)))) lt =
    subst IsSizedCell (sym (get_or-replicate 12 n blank _ (omega (arith, lt)))) sized-blank

-- The state of the disk after a mount

-- what stands in a list that is cut off at 16
pub inside : (xs : ℕ → List Cell) (b : ℕ) (c : Cell) → Contains (cond (ltb b 16) (xs b) []) c
    → (b < 16) × Contains (xs b) c
inside xs b c has = elim (cases_lt b 16) [
  | inl lt ↦ (lt, subst (λ (q : Bool). Contains (cond q (xs b) []) c) (lt-ltb b 16 lt) has)
  | inr le ↦ absurd (none c (subst (λ (q : Bool). Contains (cond q (xs b) []) c) (le-ltb b 16 le) has))
]
  where
    none : (c : Cell) → Contains [] c → ⊥
    none c h = omega (arith, h.1)

pub within : (xs : ℕ → List Cell) (b : ℕ) (c : Cell) → b < 16 → Contains (xs b) c
    → Contains (cond (ltb b 16) (xs b) []) c
within xs b c lt has = subst (λ (q : Bool). Contains (cond q (xs b) []) c) (sym (lt-ltb b 16 lt)) has

pub here : (x : Cell) → Contains (x ∷ []) x
here x = (0, omega arith, refl)

pub still-disk : (moment spare : ℕ) → 2 * spare + moment < 2 ^ 64 → IsDisk (still moment spare)
still-disk moment spare room = record {
  room = room;
  counted = omega arith;
  whole = λ t. refl;
  has_now = λ b t lt. within (alone first_image) b (cell_at first_image b) lt (here (cell_at first_image b));
  beyond = λ b c le has. let i = inside (alone first_image) b c has in absurd (omega (arith, le, i.0));
  sized = λ b c has. let i = inside (alone first_image) b c has in
      subst IsSizedCell (sole-is (cell_at first_image b) c i.1)
      (sized-image first_table blank sized-first sized-blank b i.0);
  at_rest = λ X e. record {
    len = ap length e;
    each = λ b lt. subst (λ (Y : Image). Contains (cond (ltb b 16) (alone first_image b) []) (cell_at Y b)) (sym e)
        (within (alone first_image) b (cell_at first_image b) lt (here (cell_at first_image b)));
  };
}

pub still-settled : (moment spare : ℕ) → IsSettled (still moment spare)
still-settled moment spare b c lt has = sym (sole-is (cell_at first_image b) c (inside (alone first_image) b c has).1)

pub first-stage-case : FirstStageCase
first-stage-case = record {
  disk = still-disk 0 8 (omega arith);
  tells = refl;
  settled = still-settled 0 8;
  mountable = mountable first_table blank blank;
  below = first-is-below (2 ^ 40) (omega arith);
  positive = omega arith;
}

pub first-stage : Stage first_image [] first_image (2 ^ 40) 0 (2 ^ 40) (still 0 8)
first-stage = (law-first-stage (still 0 8) (2 ^ 40) first-stage-case).0

pub first-rest : SteadyRest first_image [] first_image
first-rest = (law-first-stage (still 0 8) (2 ^ 40) first-stage-case).1

-- The mark

pub mark-is : IsMark first_mark
mark-is = first-stage.lasts.survives.mark

pub settled-case : FlushCase
settled-case = (mark-is, λ b c has. sym (sole-is (cell_at first_image b) c has))

pub explained : AllExplained first_mark (alone first_image)
explained = law-flush first_mark (alone first_image) mark-is settled-case.1

pub own-pick : Picks (alone first_image) (length first_image) first_image
own-pick = record { len = refl; each = λ b lt. here (cell_at first_image b) }

pub reads : ReadsSince first_mark first_image
reads = (law-images first_mark (alone first_image) first_image mark-is explained own-pick).reads

-- What the Put gives

label-is : agreed_files first_image 2 ≡ file_from first_image 2 (Some File)
label-is = agreed-file first_image 2 File (ap (λ (r : Record). r.kind) (first-inode 2)) first-label

pub size-is : (inode first_image 2).size ≡ 0
size-is = ap (λ (r : Record). r.size) (first-inode 2)

pub no-value : value first_image 2 0 ≡ Hole
no-value = empty-value first_image 2 (first-plain 2) 0 (omega arith)

-- the machine's file of the label
unfoldable pub label_now : FileState
label_now = record {
  generation = (inode first_image 2).generation;
  kind = File;
  size = (inode first_image 2).size;
  links = (inode first_image 2).links;
  values = value first_image 2;
  nodes = λ path. node_in (find first_image 2 path);
}

pub label-now : agreed_files first_image 2 ≡ Some label_now
unfolding label_now
label-now = label-is
