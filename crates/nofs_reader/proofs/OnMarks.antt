-- What is marked of inodes, and the way up from a directory.
use Rattle.std.proofs.Common.{◌≡◌, ◌≢◌, ℕ, ◌+◌, ◌-◌, ◌<◌, ◌≤◌, ◌==◌, ◌&&◌, Bool, true, false, List, length, get_or}
use Rattle.std.proofs.Common.{arith}
use Rattle.std.proofs.Common.{Option, Some, None, IfSome, slice_set, refl, sym, ap, ◌∙◌, subst, inl, inr}
use Rattle.std.specs.Prelude.{slice_index}
use mir.Val.{bool_byte}
use Rattle.std.specs.List.{list_any}
use Rattle.std.proofs.lemmas.Bool.{cases_lt}
use Rattle.std.proofs.lemmas.Bool.Decides.{nat_tests}
use Rattle.std.proofs.lemmas.List.{get_or-set_other, get_or-set_same, get_or_default, length-set}
use Rattle.std.proofs.lemmas.List.Folds.{list_any_at, list_any_none}
use Rattle.nofs_disk.specs.Number.{zeros}
use Rattle.nofs_inode.specs.InodeRecords.{no_link}
use Rattle.nofs_inode.specs.declared.inode.BackLink.{BackLink}
use Rattle.nofs_inode.specs.declared.inode.Record.{Record}
use Rattle.nofs_super.specs.declared.superblock.SuperBlock.{SuperBlock}
use Rattle.nofs_model.specs.Files.{Files, agreed, files_in, has_agreed_link, is_pair}
use Rattle.nofs_model.specs.Geometry.{Image}
use Rattle.nofs_model.proofs.OnFiles.Parents.{any-links, linked-is}
use Rattle.nofs_agree.specs.Chain.{IsPartner, first_link, is_agreed_link}
use Rattle.nofs_agree.specs.Reads.{KnowsInode}
use Rattle.nofs_agree.proofs.OnPair.{first-decides, four-of}
use Rattle.nofs_reader.specs.Image.{disk_of, image_of}
use Rattle.nofs_reader.specs.Marks.{AreMarks, IsAbove, IsDirectory, KeepsMarks, mark_of}
use Rattle.nofs_reader.proofs.OnCounts.{Counted, count_begins, count_goes}
use Rattle.nofs_reader.proofs.OnDisk.{zeros-at}

-- at first nothing is marked
pub marks-none : (X : Image) (n : ℕ) → AreMarks X (zeros n)
marks-none X n k low =
    subst (λ (b : ℕ). IfSome (mark_of b) (λ a. agreed (files_in X) (k + 1) ≡ a)) (sym (zeros-at n k)) tt

if-turned : (o : Option Bool) (b : Bool) → IfSome o (λ a. b ≡ a) → IfSome o (λ a. a ≡ b)
if-turned None b h = tt
if-turned (Some a) b h = sym h

-- what is marked of an inode
pub mark-told : (X : Image) (marks : List ℕ) (i : ℕ) → AreMarks X marks → 1 ≤ i → i ≤ length marks
    → IfSome (mark_of (slice_index marks (i - 1))) (λ a. a ≡ agreed (files_in X) i)
mark-told X marks i are some low =
    let at : i - 1 + 1 ≡ i = omega (arith, some) in
    if-turned (mark_of (slice_index marks (i - 1))) (agreed (files_in X) i)
    (subst (λ (n : ℕ). IfSome (mark_of (slice_index marks (i - 1))) (λ a. agreed (files_in X) n ≡ a)) at
    (are (i - 1) (omega (arith, some, low))))

-- one more mark
pub mark-set : (X : Image) (marks : List ℕ) (i byte : ℕ) (b : Bool) → mark_of byte ≡ Some b → 1 ≤ i → i ≤ length marks
    → AreMarks X marks → b ≡ agreed (files_in X) i → KeepsMarks X marks (slice_set marks (i - 1) byte)
mark-set X marks i byte b is some low are true_of = record {
  len = length-set marks (i - 1) byte;
  marks = λ k small. let len = length-set marks (i - 1) byte in elim (cases_lt k (i - 1)) [
    | inl before ↦ other k (λ e. omega (arith, e, before)) (are k (omega (arith, len, small)))
    | inr from ↦ elim (cases_lt (i - 1) k) [
      | inl behind ↦ other k (λ e. omega (arith, e, behind)) (are k (omega (arith, len, small)))
      | inr at ↦ here k (omega (arith, from, at))
    ]
  ];
}
  where
    other : (k : ℕ) → k ≢ i - 1 → IfSome (mark_of (slice_index marks k)) (λ a. agreed (files_in X) (k + 1) ≡ a)
        → IfSome (mark_of (slice_index (slice_set marks (i - 1) byte) k)) (λ a. agreed (files_in X) (k + 1) ≡ a)
    other k apart h = subst (λ (n : ℕ). IfSome (mark_of n) (λ a. agreed (files_in X) (k + 1) ≡ a))
        (sym (get_or-set_other marks (i - 1) k byte 0 (λ e. apart e))) h

    here : (k : ℕ) → k ≡ i - 1
        → IfSome (mark_of (slice_index (slice_set marks (i - 1) byte) k)) (λ a. agreed (files_in X) (k + 1) ≡ a)
    here k e =
        let same : slice_index (slice_set marks (i - 1) byte) k ≡ byte =
        ap (slice_index (slice_set marks (i - 1) byte)) e
        ∙ get_or-set_same marks (i - 1) byte 0 (omega (arith, some, low)) in
        subst (λ (o : Option Bool). IfSome o (λ a. agreed (files_in X) (k + 1) ≡ a))
        (sym (ap mark_of same ∙ is))
        (ap (λ (n : ℕ). agreed (files_in X) n) {x = k + 1} {y = i} (omega (arith, e, some)) ∙ sym true_of)

-- nothing changed
pub marks-stay : (X : Image) (marks : List ℕ) → AreMarks X marks → KeepsMarks X marks marks
marks-stay X marks are = record { len = refl; marks = are }

pub marks-goes : (X : Image) (one two three : List ℕ) → KeepsMarks X one two → KeepsMarks X two three
    → KeepsMarks X one three
marks-goes X one two three p q = record { len = q.len ∙ p.len; marks = q.marks }

-- an inode that is neither 1 nor 2 is agreed by its back links
eqb-not : (a b : ℕ) → a ≢ b → (a == b) ≡ false
eqb-not a b other = grind (arith, nat_tests)

pub plain-is : (F : Files) (i : ℕ) → i ≢ 1 → i ≢ 2 → agreed F i ≡ has_agreed_link F i
plain-is F i one two =
    linked-is F i (rw (eqb-not i 1 one, eqb-not i 2 two) refl) (rw (eqb-not i 1 one, eqb-not i 2 two) refl)

pub links-is : (bytes : List ℕ) (at : SuperBlock) (i : ℕ) (r : Record) (b : Bool) → i ≢ 1 → i ≢ 2
    → KnowsInode (disk_of bytes) at i r → b ≡ list_any (is_agreed_link (files_in (image_of bytes)) i) r.links
    → b ≡ agreed (files_in (image_of bytes)) i
links-is bytes at i r b one two known is =
    is ∙ any-links (image_of bytes) i r (known.same refl) ∙ sym (plain-is (files_in (image_of bytes)) i one two)

-- the first back link of a directory decides
module _ (bytes : List ℕ) (at : SuperBlock) (d : ℕ) (r : Record) (link : BackLink)
    (folder : IsDirectory (image_of bytes) d) (one : d ≢ 1) (two : d ≢ 2) (known : KnowsInode (disk_of bytes) at d r)
    (first : link ≡ first_link r.links) where
  abbrev pub F : Files
  F = files_in (image_of bytes)

  decided : agreed F d ≡ (is_pair F d link && agreed F link.directory)
  decided =
      plain-is F d one two
      ∙ subst (λ (l : BackLink). has_agreed_link F d ≡ (is_pair F d l && agreed F l.directory)) (sym first)
      (first-decides (image_of bytes) d r (known.same refl)
      (ap (λ (q : Record). q.kind) (sym (known.same refl)) ∙ folder) known.spelled)

  pub way-none : false ≡ is_pair F d link → false ≡ agreed F d
  way-none none = sym (decided ∙ ap (λ (b : Bool). b && agreed F link.directory) (sym none))

  pub way-above : true ≡ is_pair F d link → (q : Record) → IsPartner (disk_of bytes) at r link q
      → IsAbove (image_of bytes) d link.directory
  way-above pair q partner =
      let same = known.same refl in
      let there = partner.directory.known.same refl in
      let older = partner.older (ap (λ (s : Record). s.kind) (sym same) ∙ folder) in
      let mine = ap (λ (s : Record). s.generation) same in
      let its = ap (λ (s : Record). s.generation) there in
      let named = partner.directory.generation in
      record {
        directory = ap (λ (s : Record). s.kind) there ∙ partner.directory.kind;
        older = omega (arith, older, mine, its, named);
        same = decided ∙ ap (λ (b : Bool). b && agreed F link.directory) (sym pair);
      }

-- the directory to which a pair leads is one
pub partner-directory : (bytes : List ℕ) (at : SuperBlock) (r q : Record) (link : BackLink)
    → IsPartner (disk_of bytes) at r link q → IsDirectory (image_of bytes) link.directory
partner-directory bytes at r q link partner =
    ap (λ (s : Record). s.kind) (partner.directory.known.same refl) ∙ partner.directory.kind

-- On the way up

pub record Upward (X : Image) (d here : ℕ) : Type 0 where
  pub directory : IsDirectory X here
  pub same : agreed (files_in X) d ≡ agreed (files_in X) here

pub up-begins : (X : Image) (d : ℕ) → IsDirectory X d → Upward X d d
up-begins X d is = record { directory = is; same = refl }

pub up-goes : (X : Image) (d here above : ℕ) → Upward X d here → IsAbove X here above → Upward X d above
up-goes X d here above up is = record { directory = is.directory; same = up.same ∙ is.same }

-- and what is marked on it
pub record Marking (X : Image) (d here : ℕ) (first marks : List ℕ) : Type 0 where
  pub up : Upward X d here
  pub kept : KeepsMarks X first marks

-- none of the first so many back links is a pair with an agreed directory
pub record Unlinked (bytes : List ℕ) (i : ℕ) (r : Record) (first marks : List ℕ) (place : ℕ) : Type 0 where
  pub none : (k : ℕ) → k < place → is_agreed_link (files_in (image_of bytes)) i (get_or r.links k no_link) ≡ false
  pub kept : KeepsMarks (image_of bytes) first marks

pub unlinked-begins : (bytes : List ℕ) (i : ℕ) (r : Record) (marks : List ℕ) → AreMarks (image_of bytes) marks
    → Unlinked bytes i r marks marks 0
unlinked-begins bytes i r marks are =
    record { none = λ k low. absurd (omega (arith, low)); kept = marks-stay (image_of bytes) marks are }

pub unlinked-goes : (bytes : List ℕ) (i : ℕ) (r : Record) (first marks more : List ℕ) (place : ℕ)
    → Unlinked bytes i r first marks place → KeepsMarks (image_of bytes) marks more
    → false ≡ is_agreed_link (files_in (image_of bytes)) i (get_or r.links place no_link)
    → Unlinked bytes i r first more (place + 1)
unlinked-goes bytes i r first marks more place so kept not-this = record {
  none = λ k low. elim (cases_lt k place) [
    | inl before ↦ so.none k before
    | inr at ↦
        let here : k ≡ place = omega (arith, low, at) in
        ap (λ (n : ℕ). is_agreed_link (files_in (image_of bytes)) i (get_or r.links n no_link)) here ∙ sym not-this
  ];
  kept = marks-goes (image_of bytes) first marks more so.kept kept;
}

pub unlinked-found : (bytes : List ℕ) (at : SuperBlock) (i : ℕ) (r : Record) (place : ℕ)
    → KnowsInode (disk_of bytes) at i r → place < 4
    → true ≡ is_agreed_link (files_in (image_of bytes)) i (get_or r.links place no_link)
    → true ≡ list_any (is_agreed_link (files_in (image_of bytes)) i) r.links
unlinked-found bytes at i r place known low is =
    let four = four-of (disk_of bytes) at i r known refl in
    sym (list_any_at (is_agreed_link (files_in (image_of bytes)) i) r.links place no_link (omega (arith, low, four))
    (sym is))

pub unlinked-ends : (bytes : List ℕ) (at : SuperBlock) (i : ℕ) (r : Record) (first marks : List ℕ) (place : ℕ)
    → KnowsInode (disk_of bytes) at i r → Unlinked bytes i r first marks place → 4 ≤ place
    → false ≡ list_any (is_agreed_link (files_in (image_of bytes)) i) r.links
unlinked-ends bytes at i r first marks place known so whole =
    let four = four-of (disk_of bytes) at i r known refl in
    sym (list_any_none (is_agreed_link (files_in (image_of bytes)) i) r.links (λ k d low.
    ap (is_agreed_link (files_in (image_of bytes)) i) (get_or_default r.links k d no_link low)
    ∙ so.none k (omega (arith, low, four, whole))))

-- so many of the first numbers were counted, and what is marked is true
pub record Counting (X : Image) (test : ℕ → Bool) (n used : ℕ) (first marks : List ℕ) : Type 0 where
  pub counted : Counted test n used
  pub kept : KeepsMarks X first marks

pub counting_begins : (X : Image) (test : ℕ → Bool) (marks : List ℕ) → AreMarks X marks
    → Counting X test 0 0 marks marks
counting_begins X test marks are = record { counted = count_begins test; kept = marks-stay X marks are }

pub counting_goes : (X : Image) (test : ℕ → Bool) (n used : ℕ) (first marks more : List ℕ) (b : Bool) (one : ℕ)
    → Counting X test n used first marks → KeepsMarks X marks more → b ≡ test n → one ≡ bool_byte b
    → Counting X test (n + 1) (used + one) first more
counting_goes X test n used first marks more b one c kept is byte = record {
  counted = count_goes test n used b one c.counted is byte;
  kept = marks-goes X first marks more c.kept kept;
}
