-- An owner, a used inode and a used block are what the computing words say.
use Rattle.std.proofs.Common.{◌≡◌, ℕ, ◌/◌, ◌⊎◌, inl, inr, Bool, true, false, eqb, ◌||◌, Option, Some, None, is_some}
use Rattle.std.proofs.Common.{refl, sym, ◌∙◌, subst₂, eqb-true, eq-eqb, leb-true, le-leb}
use Rattle.nofs_model.specs.Geometry.{Image, super_at}
use Rattle.nofs_ptrs.specs.Paths.{path_of}
use Rattle.nofs_model.specs.Files.{files_in, agreed, is_special}
use Rattle.nofs_model.specs.Owners.{owner, Home, home_at, is_used_inode, is_fixed_block, is_used_block}
use Rattle.nofs_model.specs.Definitions.{IsOwner, IsUsedInode, IsUsedBlock, LawOwners}
use Rattle.nofs_model.proofs.OnSlots.Paths.{path_of-number}
use Rattle.nofs_model.proofs.OnOwners.Slots.{owner-of, owner-holds, owner-slot, same-home}
use Rattle.nofs_model.proofs.OnSlots.Meanings.{holds-find, find-holds}
use Rattle.nofs_model.proofs.OnFiles.Meanings.{agreed-fact, fact-agreed}

fact-owner : (X : Image) (p i k : ℕ) → IsOwner X p i k → owner X p ≡ Some (home_at i k)
fact-owner X p i k h =
    let s = path_of-number k h.slot in
    let o = owner-of X i (path_of k) h.pointer s.0 (fact-agreed X i h.agreed)
    (holds-find X i (path_of k) h.pointer h.holds) in
    subst₂ (λ (q r : ℕ). owner X q ≡ Some (home_at i r)) h.names s.1 o

owner-fact : (X : Image) (p i k : ℕ) → owner X p ≡ Some (home_at i k) → IsOwner X p i k
owner-fact X p i k e =
    let (x, a, f, b) = owner-holds X p i k e in
    record {
      agreed = agreed-fact X i a;
      slot = owner-slot X p i k e;
      pointer = x;
      holds = find-holds X i (path_of k) x f;
      names = b;
    }

one-owner : (X : Image) (p i k j l : ℕ) → IsOwner X p i k → IsOwner X p j l → (i ≡ j) × (k ≡ l)
one-owner X p i k j l a b = same-home i k j l (sym (fact-owner X p i k a) ∙ fact-owner X p j l b)

or-right : (a : Bool) → (a || true) ≡ true
or-right true = refl
or-right false = refl

or-cases : (a b : Bool) → (a || b) ≡ true → (a ≡ true) ⊎ (b ≡ true)
or-cases true b e = inl refl
or-cases false b e = inr e

used-inode : (X : Image) (i : ℕ) → IsUsedInode X i → is_used_inode X i ≡ true
used-inode X i (inl a) = rw (fact-agreed X i a) (or-right (is_special i))
used-inode X i (inr (inl e)) = rw (eq-eqb i 1 e) refl
used-inode X i (inr (inr e)) = rw (eq-eqb i 2 e, or-right (eqb i 1)) refl

inode-used : (X : Image) (i : ℕ) → is_used_inode X i ≡ true → IsUsedInode X i
inode-used X i e = elim (or-cases (is_special i) (agreed (files_in X) i) e) [
  | inr a ↦ inl (agreed-fact X i a)
  | inl s ↦ elim (or-cases (eqb i 1) (eqb i 2) s)
      [ inl one ↦ inr (inl (eqb-true i 1 one)) | inr two ↦ inr (inr (eqb-true i 2 two)) ]
]

used-block : (X : Image) (p : ℕ) → IsUsedBlock X p → is_used_block X p ≡ true
used-block X p (inl (i, k, h)) = rw (fact-owner X p i k h) (or-right (is_fixed_block X p))
used-block X p (inr le) = rw (le-leb p ((super_at X).inodes / 4) le) refl

block-used : (X : Image) (p : ℕ) → is_used_block X p ≡ true → IsUsedBlock X p
block-used X p e = elim (or-cases (is_fixed_block X p) (is_some (owner X p)) e) [
  | inl f ↦ inr (leb-true p ((super_at X).inodes / 4) f)
  | inr o ↦ inl (go (owner X p) refl o)
]
  where
    go : (h : Option Home) → owner X p ≡ h → is_some h ≡ true → (i : ℕ) × (k : ℕ) × IsOwner X p i k
    go None eh s = cc
    go (Some h) eh s = (h.inode, h.slot, owner-fact X p h.inode h.slot eh)

pub owners-law : LawOwners
owners-law = record {
  owners = λ X p i k. (fact-owner X p i k, owner-fact X p i k);
  one = one-owner;
  inodes = λ X i. (used-inode X i, inode-used X i);
  blocks = λ X p. (used-block X p, block-used X p);
}
