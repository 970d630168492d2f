-- A directory has one back link at most, so its first one decides.
use Rattle.std.proofs.Common.{◌≡◌, ℕ, zero, suc, ◌+◌, ◌-◌, ◌*◌, ◌/◌, ◌%◌, ◌≤◌, Bool, true, false, cond, ltb, ◌&&◌, ◌||◌}
use Rattle.std.proofs.Common.{not, IsTrue, List, [], ◌∷◌, length, get_or}
use Rattle.std.proofs.Common.{Option, Some, None, refl, sym, ap, ◌∙◌, subst, arith, ltb-false}
use Rattle.std.specs.List.{list_any, count_by, position, position_or_len}
use Rattle.std.proofs.lemmas.List.Sums.{sum_by-cons}
use Rattle.nofs_inode.specs.InodeRecords.{AllowsRecord, HasRecordSpelling, record_or_free}
use Rattle.nofs_inode.specs.declared.inode.FileKind.TheVariants.{Directory}
use Rattle.nofs_inode.specs.declared.inode.FileKind.{FileKind}
use Rattle.nofs_inode.specs.declared.inode.BackLink.{BackLink}
use Rattle.nofs_inode.specs.declared.inode.Record.{Record}
use Rattle.nofs_inode.specs.InodeRecords.{fields_in, free_record, is_empty_link, no_link, record_at, record_of}
use Rattle.nofs_model.specs.Files.{agreed, files_in, has_agreed_link, is_pair}
use Rattle.nofs_model.specs.Geometry.{Image, inode, is_inode}
use Rattle.nofs_disk.specs.Disk.{DiskState, cell_at}
use Rattle.nofs_model.proofs.OnFiles.Parents.{any-links, empty-unpaired}
use Rattle.nofs_super.specs.declared.superblock.SuperBlock.{SuperBlock}
use Rattle.nofs_agree.specs.Chain.{first_link}
use Rattle.nofs_agree.specs.Reads.{KnowsInode}

abbrev full : BackLink → Bool
full l = not (is_empty_link l)

-- the place that was found is the first full one
pub first-at : (links : List BackLink) (k : ℕ) → position full links ≡ Some k
    → get_or links k no_link ≡ first_link links
first-at links k e = go (ltb (position_or_len full links) (length links)) e
  where
    go : (b : Bool) → cond b (Some (position_or_len full links)) None ≡ Some k
        → get_or links k no_link ≡ first_link links
    go true h = let same : position_or_len full links ≡ k = cc in ap (λ (n : ℕ). get_or links n no_link) (sym same)
    go false h = cc

past : (links : List BackLink) (k : ℕ) → length links ≤ k → get_or links k no_link ≡ no_link
past [] k h = refl
past (x ∷ xs) zero h = absurd (omega (arith, h))
past (x ∷ xs) (suc k) h = past xs k (omega (arith, h))

shift : (x : BackLink) (xs : List BackLink) (n : ℕ) → get_or (x ∷ xs) (1 + n) no_link ≡ get_or xs n no_link
shift x xs n = let e : 1 + n ≡ suc n = omega arith in ap (λ (m : ℕ). get_or (x ∷ xs) m no_link) e

pub first-none : (links : List BackLink) → position full links ≡ None → no_link ≡ first_link links
first-none links e = go (ltb (position_or_len full links) (length links)) refl e
  where
    go : (b : Bool) → ltb (position_or_len full links) (length links) ≡ b
        → cond b (Some (position_or_len full links)) None ≡ None → no_link ≡ first_link links
    go true eb h = cc
    go false eb h =
        sym (past links (position_or_len full links) (ltb-false (position_or_len full links) (length links) eb))

-- a place counts where it is full
abbrev weight : Bool → ℕ
weight empty = cond (not empty) 1 0

module _ (P Q : BackLink → Bool) (empty : (l : BackLink) → is_empty_link l ≡ true → P l ≡ false) where
  counted : (x : BackLink) (xs : List BackLink) → count_by full (x ∷ xs) ≡ weight (is_empty_link x) + count_by full xs
  counted x xs = sum_by-cons (λ l. cond (full l) 1 0) x xs

  none-full : (links : List BackLink) → count_by full links ≡ 0 → list_any (λ l. P l && Q l) links ≡ false
  none-full [] e = refl
  none-full (x ∷ xs) e = let n = counted x xs in
      go (is_empty_link x) refl (omega (arith, e, n)) (none-full xs (omega (arith, e, n)))
    where
      go : (b : Bool) → is_empty_link x ≡ b → weight b ≡ 0 → list_any (λ l. P l && Q l) xs ≡ false
          → ((P x && Q x) || list_any (λ l. P l && Q l) xs) ≡ false
      go true ex h rest = rw (empty x ex) rest
      go false ex h rest = absurd (omega (arith, h))

  or-false : (b : Bool) → (b || false) ≡ b
  or-false true = refl
  or-false false = refl

  -- where one place is full at most, the first full one decides
  pub first-any : (links : List BackLink)
      → count_by full links ≤ 1 → list_any (λ l. P l && Q l) links ≡ (P (first_link links) && Q (first_link links))
  first-any [] few = rw (empty no_link refl) refl
  first-any (x ∷ xs) few =
      let n = counted x xs in
      go (is_empty_link x) refl n (λ low. first-any xs low)
    where
      go : (b : Bool) → is_empty_link x ≡ b → count_by full (x ∷ xs) ≡ weight b + count_by full xs
          → (count_by full xs ≤ 1 → list_any (λ l. P l && Q l) xs ≡ (P (first_link xs) && Q (first_link xs)))
          → ((P x && Q x) || list_any (λ l. P l && Q l) xs) ≡ (P (first_link (x ∷ xs)) && Q (first_link (x ∷ xs)))
      go true ex n rest =
          let low : count_by full xs ≤ 1 = omega (arith, n, few) in
          let same : first_link (x ∷ xs) ≡ first_link xs = rw ex (shift x xs (position_or_len full xs)) in
          subst (λ (l : BackLink). ((P x && Q x) || list_any (λ l. P l && Q l) xs) ≡ (P l && Q l)) (sym same)
          (rw (empty x ex) (rest low))
      go false ex n rest =
          let zero : count_by full xs ≡ 0 = omega (arith, n, few) in
          let same : first_link (x ∷ xs) ≡ x = rw ex refl in
          subst (λ (l : BackLink). ((P x && Q x) || list_any (λ l. P l && Q l) xs) ≡ (P l && Q l)) (sym same)
          (rw (none-full xs zero) (or-false (P x && Q x)))

-- the record of a directory has one back link at most, so its first one decides
pub first-decides : (X : Image) (i : ℕ) (r : Record) → inode X i ≡ r → r.kind ≡ Some Directory → HasRecordSpelling r
    → has_agreed_link (files_in X) i
    ≡ (is_pair (files_in X) i (first_link r.links) && agreed (files_in X) (first_link r.links).directory)
first-decides X i r same kind spelled =
    let live : AllowsRecord (Some Directory) r = subst (λ (k : Option FileKind). AllowsRecord k r) kind spelled in
    sym (any-links X i r same) ∙ first-any (is_pair (files_in X) i) (λ l. agreed (files_in X) l.directory)
    (empty-unpaired X i) r.links live.allowed.1

-- what holds of the free record and of each one that is read from bytes holds of every record in the table
module _ (P : Record → Type 0) (free : P free_record)
    (read : (at : ℕ) (payload : List ℕ) → P (fields_in at payload)) where
  held : (b : Bool) (r : Record) → P r → P (record_or_free (cond b (Some r) None))
  held true r p = p
  held false r p = free

  pub every-record : (X : Image) (i : ℕ) → P (inode X i)
  unfolding inode record_at record_of
  every-record X i = go (is_inode X i)
    where
      go : (b : Bool)
          → P (cond b (record_or_free (record_of ((i - 1) % 4) (cell_at X (1 + (i - 1) / 4)).payload)) free_record)
      go true = held _ _ (read (256 * ((i - 1) % 4)) (cell_at X (1 + (i - 1) / 4)).payload)
      go false = free

links-read : (at : ℕ) (payload : List ℕ) → length (fields_in at payload).links ≡ 4
unfolding fields_in
links-read at payload = refl

-- a record has four places for back links
pub four-links : (X : Image) (i : ℕ) → length (inode X i).links ≡ 4
four-links = every-record (λ r. length r.links ≡ 4) refl links-read

-- so has the one that is known
pub four-of : (old : DiskState) (at : SuperBlock) (i : ℕ) (r : Record) → KnowsInode old at i r → IsTrue old.tells
    → length r.links ≡ 4
four-of old at i r is t = subst (λ (q : Record). length q.links ≡ 4) (is.same t) (four-links old.now i)
