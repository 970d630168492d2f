-- A directory has one back link at most, so the way up from it does not branch.
use Rattle.std.proofs.Common.{◌≡◌, ℕ, zero, suc, ◌+◌, ◌-◌, ◌*◌, ◌/◌, ◌%◌, ◌<◌, ◌≤◌, Bool, true, false, cond, eqb, leb}
use Rattle.std.proofs.Common.{ltb, ◌&&◌, ◌||◌, not, List, [], ◌∷◌}
use Rattle.std.proofs.Common.{length, get_or, Option, Some, None, refl, sym, ap, ◌∙◌, subst, arith, leb-true, eqb-true}
use Rattle.std.proofs.Common.{ltb-false}
use Rattle.std.specs.List.{list_any, list_all, count_by, position, position_or_len}
use Rattle.std.proofs.lemmas.List.Folds.{list_any_none}
use Rattle.std.proofs.lemmas.List.Sums.{fails_before_first, sum_by-cons}
use Rattle.nofs_inode.specs.InodeRecords.{allows_kind, allows_record, is_tidy_link, link_count, has_rest, record_with}
use Rattle.nofs_inode.specs.InodeRecords.{record_or_free, is_empty_link, free_record, record_of, record_at, fields_in}
use Rattle.nofs_inode.specs.declared.inode.FileKind.TheVariants.{File, Directory as Folder}
use Rattle.nofs_inode.specs.declared.inode.FileKind.{FileKind}
use Rattle.nofs_inode.specs.declared.inode.BackLink.{BackLink}
use Rattle.nofs_inode.specs.declared.inode.Record.{Record}
use Rattle.nofs_disk.specs.Pointer.{is_null}
use Rattle.nofs_model.specs.Geometry.{Image, is_inode, inode}
use Rattle.nofs_disk.specs.Disk.{cell_at}
use Rattle.nofs_model.specs.Files.{FileState, Files, file_from, files_in, is_folder, pairs, is_pair, agreed}
use Rattle.nofs_model.specs.Files.{links_of, links_in_file, is_root, is_special, has_agreed_link, IsParent}
use Rattle.nofs_model.proofs.OnSlots.Find.{and-both}
use Rattle.nofs_model.proofs.OnFiles.Chains.{pair-of, agreed-is}
use Rattle.std.proofs.lemmas.List.Quantifiers.{position-Some}

-- a place counts where it is full
abbrev weight : Bool → ℕ
weight empty = cond (not empty) 1 0

module _ (P Q E : BackLink → Bool) (empty : (l : BackLink) → E l ≡ true → P l ≡ false) where
  full : (l : BackLink) → P l ≡ true → E l ≡ false
  full l p = go (E l) refl
    where
      go : (b : Bool) → E l ≡ b → E l ≡ false
      go true e = cc (p, empty l e)
      go false e = e

  -- the places that are full, counted one by one
  counted : (x : BackLink) (xs : List BackLink)
      → count_by (λ l. not (E l)) (x ∷ xs) ≡ weight (E x) + count_by (λ l. not (E l)) xs
  counted x xs = sum_by-cons (λ l. cond (not (E l)) 1 0) x xs

  -- where no place is full, none passes
  none-full : (links : List BackLink) → count_by (λ l. not (E l)) links ≡ 0 → list_any (λ l. P l && Q l) links ≡ false
  none-full [] e = refl
  none-full (x ∷ xs) e =
      let n = counted x xs in
      let rest = none-full xs (omega (arith, e, n)) in
      go (E x) refl (omega (arith, e, n)) rest
    where
      go : (b : Bool) → E x ≡ b → weight b ≡ 0 → list_any (λ l. P l && Q l) xs ≡ false
          → ((P x && Q x) || list_any (λ l. P l && Q l) xs) ≡ false
      go true ex h rest = rw (empty x ex) rest
      go false ex h rest = absurd (omega (arith, h))

  -- a place that is full is counted
  full-counts : (links : List BackLink) (i : ℕ) (d : BackLink) → i < length links
      → E (get_or links i d) ≡ false → 1 ≤ count_by (λ l. not (E l)) links
  full-counts [] i d lt e = absurd (omega (arith, lt))
  full-counts (x ∷ xs) zero d lt e = let n = counted x xs in let one : weight (E x) ≡ 1 = rw e refl in
      omega (arith, n, one)
  full-counts (x ∷ xs) (suc i) d lt e = let rest = full-counts xs i d (omega (arith, lt)) e in let n = counted x xs in
      omega (arith, rest, n)

  or-false : (b : Bool) → (b || false) ≡ b
  or-false true = refl
  or-false false = refl

  -- where one place is full at most, what passes first decides
  pub lone-any : (links : List BackLink) → count_by (λ l. not (E l)) links ≤ 1 → (i : ℕ) (d : BackLink)
      → i < length links → P (get_or links i d) ≡ true
      → list_any (λ l. P l && Q l) links ≡ Q (get_or links i d)
  lone-any [] few i d lt p = absurd (omega (arith, lt))
  lone-any (x ∷ xs) few zero d lt p =
      let n = counted x xs in
      let one : weight (E x) ≡ 1 = rw (full x p) refl in
      rw (p, none-full xs (omega (arith, few, n, one))) (or-false (Q x))
  lone-any (x ∷ xs) few (suc i) d lt p =
      let n = counted x xs in
      let one = full-counts xs i d (omega (arith, lt)) (full (get_or xs i d) p) in
      let rest = lone-any xs (omega (arith, few, n)) i d (omega (arith, lt)) p in
      go (E x) refl (omega (arith, few, n, one)) rest
    where
      go : (b : Bool) → E x ≡ b → weight b ≡ 0 → list_any (λ l. P l && Q l) xs ≡ Q (get_or xs i d)
          → ((P x && Q x) || list_any (λ l. P l && Q l) xs) ≡ Q (get_or xs i d)
      go true ex h rest = rw (empty x ex) rest
      go false ex h rest = absurd (omega (arith, h))

-- where nothing passes, nothing passes a sharper test
pub none-any : (P Q : BackLink → Bool) (links : List BackLink)
    → position P links ≡ None → list_any (λ l. P l && Q l) links ≡ false
none-any P Q links e = go (ltb (position_or_len P links) (length links)) refl e
  where
    go : (b : Bool)
        → ltb (position_or_len P links) (length links) ≡ b → cond b (Some (position_or_len P links)) None ≡ None
        → list_any (λ l. P l && Q l) links ≡ false
    go true eb h = cc
    go false eb h =
        let all : length links ≤ position_or_len P links = ltb-false (position_or_len P links) (length links) eb in
        list_any_none (λ l. P l && Q l) links
        (λ k d lt. rw (fails_before_first P links k d (omega (arith, lt, all))) refl)

-- the record of a directory has one back link at most
links-with : (at : ℕ) (bytes : List ℕ) (r : Record) → (record_or_free (record_with at bytes r)).kind ≡ Some Folder
    → link_count (record_or_free (record_with at bytes r)).links ≤ 1
links-with at bytes r e = go (has_rest at bytes r && allows_record r.kind r) refl e
  where
    go : (b : Bool) → (has_rest at bytes r && allows_record r.kind r) ≡ b
        → (record_or_free (cond b (Some r) None)).kind ≡ Some Folder
        → link_count (record_or_free (cond b (Some r) None)).links ≤ 1
    go true eb k =
        let allowed = (and-both (has_rest at bytes r) (allows_record r.kind r) eb).1 in
        let folder : allows_record (Some Folder) r ≡ true =
        subst (λ (q : Option FileKind). allows_record q r ≡ true) k allowed in
        let parts = and-both (leb 1 r.generation && list_all is_tidy_link r.links) (allows_kind Folder r) folder in
        let sizes = and-both ((eqb r.size 0) && leb (link_count r.links) 1) (is_null r.top) parts.1 in
        leb-true (link_count r.links) 1 (and-both (eqb r.size 0) (leb (link_count r.links) 1) sizes.0).1
    go false eb k = cc

pub few-links : (X : Image) (i : ℕ) → (inode X i).kind ≡ Some Folder → link_count (inode X i).links ≤ 1
unfolding inode record_at record_of
few-links X i e = go (is_inode X i) e
  where
    go : (b : Bool) → (cond b
        (record_or_free (record_of ((i - 1) % 4) (cell_at X (1 + (i - 1) / 4)).payload)) free_record).kind ≡ Some Folder
        → link_count
        (cond b (record_or_free (record_of ((i - 1) % 4) (cell_at X (1 + (i - 1) / 4)).payload)) free_record).links ≤ 1
    go true k = links-with (256 * ((i - 1) % 4))
        (cell_at X (1 + (i - 1) / 4)).payload (fields_in (256 * ((i - 1) % 4)) (cell_at X (1 + (i - 1) / 4)).payload) k
    go false k = cc

some-same : (a b : FileState) → Some a ≡ Some b → a ≡ b
some-same a b e = cc e

some-kind : (a b : FileKind) → Some a ≡ Some b → a ≡ b
some-kind a b e = cc e

folder-kind : (k : FileKind) → is_folder k ≡ true → k ≡ Folder
folder-kind Folder e = refl
folder-kind File e = cc

-- what a live record says is its file
record IsFileOf (X : Image) (i : ℕ) (f : FileState) : Type 0 where
  kind : (inode X i).kind ≡ Some f.kind
  generation : f.generation ≡ (inode X i).generation
  links : f.links ≡ (inode X i).links

file-of : (X : Image) (i : ℕ) (f : FileState) → files_in X i ≡ Some f → IsFileOf X i f
file-of X i f e = go (inode X i).kind refl e
  where
    go : (k : Option FileKind) → (inode X i).kind ≡ k → file_from X i k ≡ Some f → IsFileOf X i f
    go None ek h = cc
    go (Some kind) ek h =
        let same = some-same _ f h in
        record {
          kind = ek ∙ ap (λ (q : FileState). Some q.kind) same;
          generation = sym (ap (λ (q : FileState). q.generation) same);
          links = sym (ap (λ (q : FileState). q.links) same);
        }

links-of : (X : Image) (i : ℕ) → (inode X i).kind ≡ Some Folder → links_of (files_in X) i ≡ (inode X i).links
links-of X i e = rw e refl

no-inode : (X : Image) → files_in X 0 ≡ None
unfolding inode
no-inode X = refl

pairs-none : (o : Option FileState) (i : ℕ) (l : BackLink) → pairs o None i l ≡ false
pairs-none None i l = refl
pairs-none (Some f) i l = refl

pub empty-unpaired : (X : Image) (i : ℕ) (l : BackLink) → is_empty_link l ≡ true → is_pair (files_in X) i l ≡ false
empty-unpaired X i l e =
    let z : l.directory ≡ 0 = eqb-true l.directory 0 e in
    let none : files_in X l.directory ≡ None = ap (λ (q : ℕ). files_in X q) z ∙ no-inode X in
    ap (λ (o : Option FileState). pairs (files_in X i) o i l) none ∙ pairs-none (files_in X i) i l

-- where the first back link that is a pair leads
pub parent-is : (X : Image) (i : ℕ) → (inode X i).kind ≡ Some Folder → (k : ℕ) (d : BackLink)
    → position (λ link. is_pair (files_in X) i link) (inode X i).links ≡ Some k
    → IsParent X i (get_or (inode X i).links k d).directory
parent-is X i folder k d e =
    let at = position-Some (λ link. is_pair (files_in X) i link) (inode X i).links k d e in
    let link : BackLink = get_or (inode X i).links k d in
    let pair : is_pair (files_in X) i link ≡ true = at.1 in
    let p = pair-of (files_in X) i link pair in
    let own = file-of X i p.own p.own_is in
    let parent = file-of X link.directory p.parent p.parent_is in
    let own_kind : p.own.kind ≡ Folder = some-kind p.own.kind Folder (sym own.kind ∙ folder) in
    let older = p.older (ap is_folder own_kind) in
    let pg = p.parent_generation in
    let og = own.generation in
    let dg = parent.generation in
    record {
      directory = parent.kind ∙ ap Some (folder-kind p.parent.kind p.parent_folder);
      older = omega (arith, older, pg, og, dg);
      same = ap (λ (q : List BackLink). list_any (λ l. is_pair (files_in X) i l && agreed (files_in X) l.directory) q)
          (links-of X i folder)
          ∙ lone-any (λ l. is_pair (files_in X) i l) (λ l. agreed (files_in X) l.directory) is_empty_link
          (empty-unpaired X i) (inode X i).links
          (few-links X i folder) k d at.0 pair;
    }

pub no-parent : (X : Image) (i : ℕ) → (inode X i).kind ≡ Some Folder
    → position (λ link. is_pair (files_in X) i link) (inode X i).links ≡ None
    → has_agreed_link (files_in X) i ≡ false
no-parent X i folder e =
    ap (λ (q : List BackLink). list_any (λ l. is_pair (files_in X) i l && agreed (files_in X) l.directory) q)
    (links-of X i folder)
    ∙ none-any (λ l. is_pair (files_in X) i l) (λ l. agreed (files_in X) l.directory) (inode X i).links e

-- what is not a root is agreed by a link
pub linked-is : (F : Files) (i : ℕ) → is_root F i ≡ false → is_special i ≡ false → agreed F i ≡ has_agreed_link F i
linked-is F i r s = agreed-is F i ∙ rw (r, s) refl

-- what is special and no root is not agreed
pub special-is : (F : Files) (i : ℕ) → is_root F i ≡ false → is_special i ≡ true → agreed F i ≡ false
special-is F i r s = agreed-is F i ∙ rw (r, s) refl

pub root-is : (F : Files) (i : ℕ) → is_root F i ≡ true → agreed F i ≡ true
root-is F i r = agreed-is F i ∙ rw r refl

-- the same with the record that was read
pub parent-read : (X : Image) (i : ℕ) (r : Record) → inode X i ≡ r → (inode X i).kind ≡ Some Folder
    → (k : ℕ) (d : BackLink)
    → position (λ link. is_pair (files_in X) i link) r.links ≡ Some k
    → IsParent X i (get_or r.links k d).directory
parent-read X i r same folder k d =
    subst (λ (q : Record). position (λ link. is_pair (files_in X) i link) q.links ≡ Some k
    → IsParent X i (get_or q.links k d).directory) same (parent-is X i folder k d)

pub no-parent-read : (X : Image) (i : ℕ) (r : Record) → inode X i ≡ r → (inode X i).kind ≡ Some Folder
    → position (λ link. is_pair (files_in X) i link) r.links ≡ None → has_agreed_link (files_in X) i ≡ false
no-parent-read X i r same folder = subst (λ (q : Record). position (λ link. is_pair (files_in X) i link) q.links ≡ None
    → has_agreed_link (files_in X) i ≡ false) same (no-parent X i folder)

pairs-unlive : (d : Option FileState) (i : ℕ) (l : BackLink) → pairs None d i l ≡ false
pairs-unlive d i l = refl

-- the back links of a record decide, live or not
pub any-links : (X : Image) (i : ℕ) (r : Record) → inode X i ≡ r
    → list_any (λ l. is_pair (files_in X) i l && agreed (files_in X) l.directory) r.links
    ≡ has_agreed_link (files_in X) i
any-links X i r same =
    ap (λ (q : Record). list_any (λ l. is_pair (files_in X) i l && agreed (files_in X) l.directory) q.links) (sym same)
    ∙ go (inode X i).kind refl
  where
    go : (k : Option FileKind)
        → (inode X i).kind ≡ k → list_any (λ l. is_pair (files_in X) i l && agreed (files_in X) l.directory)
        (inode X i).links ≡ has_agreed_link (files_in X) i
    go None e =
        let none : files_in X i ≡ None = ap (file_from X i) e in
        let off : (l : BackLink) → (is_pair (files_in X) i l && agreed (files_in X) l.directory) ≡ false =
        λ l. ap (λ (o : Option FileState). pairs o (files_in X l.directory) i l
        && agreed (files_in X) l.directory) none in
        list_any_none (λ l. is_pair (files_in X) i l && agreed (files_in X) l.directory)
        (inode X i).links (λ k d lt. off (get_or (inode X i).links k d))
        ∙ sym (ap (λ (o : Option FileState). list_any (λ l. is_pair (files_in X) i l && agreed (files_in X) l.directory)
        (links_in_file o)) none)
    go (Some kind) e = sym (ap (λ (o : Option FileState).
        list_any (λ l. is_pair (files_in X) i l && agreed (files_in X) l.directory) (links_in_file o))
        (ap (file_from X i) e))
