-- Bytes in a base were given in an earlier life.
use Rattle.std.proofs.Common.{◌≡◌, ℕ, ◌<◌, ◌⊎◌, inl, inr, true, eqb, List, [], ◌∷◌, ◌++◌, sym, ap, ◌∙◌, subst, Contains}
use Rattle.std.proofs.Common.{eqb-true}
use Rattle.nofs_crashlaw.specs.Lives.{SameOrUpgraded, Life, NextLife, Lives, GivenIn, LawLives}
use Rattle.nofs_model.proofs.OnSlots.Find.{and-both}
use Rattle.nofs_crashlaw.proofs.OnLives.Images.{left-given}
use Rattle.nofs_crashlaw.proofs.OnLives.OnlySuper.{same-inode, same-value, no-bytes}
use Rattle.nofs_history.specs.Since.{agreed_files, values_given, is_generation}
use Rattle.nofs_inode.specs.declared.inode.Record.{Record}
use Rattle.nofs_inode.specs.InodeRecords.{is_live}
use Rattle.nofs_ptrs.specs.Paths.{slot_limit}
use Rattle.nofs_model.specs.Geometry.{Image, inode}
use Rattle.nofs_model.specs.Slots.{value}
use Rattle.nofs_model.specs.declared.image.value.Value.TheVariants.{Bytes}

lives-tail : (l : Life) (ls : List Life) → Lives (l ∷ ls) → Lives ls
lives-tail l [] h = tt
lives-tail l (k ∷ ls) h = h.2

lives-from : (later : List Life) (l : Life) (earlier : List Life) → Lives (later ++ l ∷ earlier) → Lives (l ∷ earlier)
lives-from [] l earlier h = h
lives-from (x ∷ later) l earlier h = lives-from later l earlier (lives-tail x (later ++ l ∷ earlier) h)

-- what an upgrade does not change
found-record : (X Y : Image) (i : ℕ) → SameOrUpgraded X Y → inode Y i ≡ inode X i
found-record X Y i (inl same) = ap (λ (Z : Image). inode Z i) same
found-record X Y i (inr up) = same-inode X Y up.only i

found-value : (X Y : Image) (i k : ℕ) → SameOrUpgraded X Y → value Y i k ≡ value X i k
found-value X Y i k (inl same) = ap (λ (Z : Image). value Z i k) same
found-value X Y i k (inr up) = same-value X Y up.only i k

-- the value was the base's of the life before, or was given in it
one-life : (k l : Life) → NextLife k l → (i g n : ℕ) (content : List ℕ)
    → n < slot_limit → is_generation l.base i g ≡ true → value l.base i n ≡ Bytes content
    → ((is_generation k.base i g ≡ true) × (value k.base i n ≡ Bytes content))
    ⊎ Contains (values_given (agreed_files k.base) k.history i g n) (Bytes content)
one-life k l next i g n content lt e v =
    let both = and-both (is_live (inode l.base i)) (eqb (inode l.base i).generation g) e in
    let same : inode l.base i ≡ inode next.left i = same-inode next.found l.base next.raised.only i
    ∙ found-record next.left next.found i next.between in
    let live : is_live (inode next.left i) ≡ true = subst (λ (r : Record). is_live r ≡ true) same both.0 in
    let gen : (inode next.left i).generation ≡ g = sym (ap (λ (r : Record). r.generation) same)
    ∙ eqb-true (inode l.base i).generation g both.1 in
    let left : value next.left i n ≡ Bytes content = sym (same-value next.found l.base next.raised.only i n
    ∙ found-value next.left next.found i n next.between) ∙ v in
    subst (λ (h : ℕ). ((is_generation k.base i h ≡ true) × (value k.base i n ≡ Bytes content)) ⊎ Contains
    (values_given (agreed_files k.base) k.history i h n) (Bytes content)) gen
    (left-given k.base k.history next.moment next.left next.allowed.versions i n content live lt left)

given-before : (l : Life) (earlier : List Life) → Lives (l ∷ earlier)
    → (i g n : ℕ) (content : List ℕ) → n < slot_limit → is_generation l.base i g ≡ true
    → value l.base i n ≡ Bytes content → GivenIn earlier i g n content
given-before l [] h i g n content lt e v = no-bytes l.base h.0 i n content lt v
given-before l (k ∷ ls) h i g n content lt e v = elim (one-life k l h.0 i g n content lt e v) [
  | inl old ↦ inr (given-before k ls h.2 i g n content lt old.0 old.1)
  | inr given ↦ inl given
]

pub law-lives : LawLives
law-lives later l earlier h i g k content lt e v =
    given-before l earlier (lives-from later l earlier h) i g k content lt e v
