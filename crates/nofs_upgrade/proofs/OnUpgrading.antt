-- Each image of a crash is one that was there, or such an image with version 2.
use Rattle.std.proofs.Common.{◌≡◌, ◌≢◌, ℕ, ◌+◌, ◌<◌, Bool, true, false, eqb, eqb-true, eq-eqb, List, length, set}
use Rattle.std.proofs.Common.{IsTrue, Some, Ok, ◌⊎◌, inl, inr, refl, sym, ap}
use Rattle.std.proofs.Common.{◌∙◌, subst, subst₂, arith, Contains}
use Rattle.std.proofs.lemmas.Bool.{cases_lt}
use Rattle.std.proofs.lemmas.List.{get_or-set_same, get_or-set_other, length-set}
use Rattle.nofs_disk.specs.Adds.{Adds, WasOr}
use Rattle.nofs_disk.specs.Cells.{now-sized}
use Rattle.nofs_disk.specs.Chains.{settled_image}
use Rattle.nofs_disk.specs.Disk.{DiskState, IsDisk, IsSameDisk, KeepsCells, Picks, no_cell, cell_at}
use Rattle.nofs_disk.specs.Number.{IsBytes}
use Rattle.nofs_super.specs.Format.{super_cell}
use Rattle.nofs_super.specs.Raise.{IsRaised, IsSuperCell}
use Rattle.nofs_super.specs.Super.{CanMount, super_of}
use Rattle.nofs_disk.specs.declared.tag.Cell.{Cell}
use Rattle.nofs_super.specs.declared.superblock.SuperBlock.{SuperBlock}
use Rattle.nofs_model.specs.Geometry.{Image}
use Rattle.nofs_crashlaw.specs.Lives.{SaysTheSame}
use Rattle.nofs_crashlaw.proofs.OnLives.Begin.{law-upgraded}
use Rattle.nofs_crashlaw.proofs.OnLives.OnlySuper.{law-only-super}
use Rattle.nofs_upgrade.specs.Upgrades.{CanUpgrade, IsFoundOrSecond, IsSecond, IsUpgraded, StaysOrUpgrades}
use Rattle.nofs_upgrade.specs.Upgrades.{check_upgrade, second}
use Rattle.nofs_upgrade.proofs.OnSecond.{second-of, second-spelled}

says-itself : (X : Image) → SaysTheSame X X
says-itself X = record {
  records = λ i. refl;
  values = λ i k. refl;
  files = λ i. refl;
  agreed = λ i. refl;
  inodes = λ i. refl;
  blocks = λ p. refl;
}

-- an image that was there
as-found : (d : DiskState) (X : Image) → Picks d.may d.blocks X → IsFoundOrSecond d X
as-found d X p =
    record { found = X; picks = p; is = inl refl; between = inl refl; same = says-itself X; sound = λ s. s }

-- an image that was there, with version 2
as-second : (d : DiskState) (Z X : Image) → Picks d.may d.blocks Z → IsSecond Z X → IsFoundOrSecond d X
as-second d Z X p s = record {
  found = Z;
  picks = p;
  is = inr s;
  between = inr s.upgraded;
  same = law-only-super Z X s.upgraded.only;
  sound = λ sound. law-upgraded Z X sound s.upgraded s.spelled;
}

each-of : (may : ℕ → List Cell) (X : Image) (n : ℕ) → Contains (may 0) (cell_at X 0)
    → ((b : ℕ) → b < n → b ≢ 0 → Contains (may b) (cell_at X b))
    → (b : ℕ) → b < n → Contains (may b) (cell_at X b)
each-of may X n here rest b low = go (eqb b 0) refl
  where
    go : (t : Bool) → eqb b 0 ≡ t → Contains (may b) (cell_at X b)
    go true e = subst (λ (k : ℕ). Contains (may k) (cell_at X k)) (sym (eqb-true b 0 e)) here
    go false e = rest b low (λ z. let t : eqb b 0 ≡ true = eq-eqb b 0 z in cc (t, e))

pub some-blocks : (blocks : ℕ) (it : SuperBlock) → CanMount blocks it → 0 < blocks
some-blocks blocks it can = let a = can.geometry.some_blocks in let b = can.geometry.fits in omega (arith, a, b)

module _ (old : DiskState) (it : SuperBlock) (is : IsDisk old) (tells : IsTrue old.tells)
    (can : CanUpgrade old it) where
  some : 0 < old.blocks
  some = some-blocks old.blocks it can.can

  sized : IsBytes 1024 (cell_at old.now 0).payload
  sized = (now-sized old is tells 0 some).payload

  -- each block is as it was, or block 0 has the superblock with version 2
  pub found-or-second : (X : Image)
      → length X ≡ old.blocks → ((b : ℕ) → b < old.blocks → WasOr (IsSuperCell (second it)) old b (cell_at X b))
      → IsFoundOrSecond old X
  found-or-second X len each = go (each 0 some)
    where
      rest : (b : ℕ) → b < old.blocks → b ≢ 0 → Contains (old.may b) (cell_at X b)
      rest b low ne = elim (each b low) [ inl h ↦ h | inr c ↦ absurd (ne c.first) ]

      Z : Image
      Z = set X 0 (cell_at old.now 0)

      first : cell_at Z 0 ≡ cell_at old.now 0
      first = get_or-set_same X 0 (cell_at old.now 0) no_cell (let s = some in omega (arith, len, s))

      others : (b : ℕ) → b ≢ 0 → cell_at Z b ≡ cell_at X b
      others b ne = get_or-set_other X 0 b (cell_at old.now 0) no_cell ne

      picks : Picks old.may old.blocks Z
      picks = record {
        len = length-set X 0 (cell_at old.now 0) ∙ len;
        each = each-of old.may Z old.blocks
            (subst (λ (c : Cell). Contains (old.may 0) c) (sym first) (is.has_now 0 tells some))
            (λ b low ne. subst (λ (c : Cell). Contains (old.may b) c) (sym (others b ne)) (rest b low ne));
      }

      go : WasOr (IsSuperCell (second it)) old 0 (cell_at X 0) → IsFoundOrSecond old X
      go (inl here) = as-found old X (record { len = len; each = each-of old.may X old.blocks here rest })
      go (inr c) = as-second old Z X picks (second-of old.blocks it can.can Z X can.first
          (sym (length-set X 0 (cell_at old.now 0))) (λ b ne. sym (others b ne))
          (subst (λ (c : Cell). IsBytes 1024 c.payload) (sym first) sized)
          (ap (λ (c : Cell). super_of c.payload) first ∙ can.spelled tells) c.is)

  -- the images at the moments of the write and the flush
  pub images-second : (new : DiskState) → Adds (IsSuperCell (second it)) old new → StaysOrUpgrades old new
  images-second new adds = record {
    picks = λ X p.
        found-or-second X (p.len ∙ adds.disk.blocks)
        (λ b low. adds.cells b (cell_at X b) (p.each b (let e = adds.disk.blocks in omega (arith, low, e))));
    moments = record {
      begun = adds.later;
      each = λ m X from to left. elim (cases_lt old.moment m) [
        | inl beyond ↦ (let two = adds.left m X beyond to left in found-or-second X two.0 two.1)
        | inr here ↦
            let e : m ≡ old.moment = omega (arith, from, here) in
            let F : ℕ → Type 0 = λ n. old.left n X in
            as-found old X (is.at_rest X (subst F e (adds.past.no_more m X (omega (arith, e)) left)))
      ];
    };
  }

-- the same images, seen from an earlier state with the same cells
on-found : (found old : DiskState) (X : Image) → IsSameDisk found old → KeepsCells found old → IsFoundOrSecond old X
    → IsFoundOrSecond found X
on-found found old X disk cells h = record {
  found = h.found;
  picks = subst₂ (λ (may : ℕ → List Cell) (n : ℕ). Picks may n h.found) cells.may disk.blocks h.picks;
  is = h.is;
  between = h.between;
  same = h.same;
  sound = h.sound;
}

pub images-from : (found old new : DiskState) → IsSameDisk found old → KeepsCells found old → StaysOrUpgrades old new
    → StaysOrUpgrades found new
images-from found old new disk cells h = record {
  picks = λ X p. on-found found old X disk cells (h.picks X p);
  moments = record {
    begun = (let e = cells.moment in let b = h.moments.begun in omega (arith, e, b));
    each = λ m X from to left. on-found found old X disk cells
        (h.moments.each m X (let e = cells.moment in omega (arith, e, from)) to left);
  };
}

-- The end

tells-on : (a b : DiskState) → IsSameDisk a b → IsTrue b.tells → IsTrue a.tells
tells-on a b disk t = subst (λ (q : Bool). IsTrue q) disk.tells t

told-on : (a b : DiskState) → IsSameDisk a b → IsTrue a.tells → IsTrue b.tells
told-on a b disk t = subst (λ (q : Bool). IsTrue q) (sym disk.tells) t

pub can-on : (found old : DiskState) (it : SuperBlock) → IsSameDisk found old → KeepsCells found old
    → CanUpgrade found it → CanUpgrade old it
can-on found old it disk cells can = record {
  can = subst (λ (n : ℕ). CanMount n it) (sym disk.blocks) can.can;
  first = can.first;
  spelled = λ t. subst (λ (X : Image). super_of (cell_at X 0).payload ≡ Some it) (sym cells.now)
      (can.spelled (tells-on found old disk t));
  table = λ t.
      subst₂ (λ (n : ℕ) (X : Image). check_upgrade n (cell_at X 0).payload ≡ Ok it) (sym disk.blocks) (sym cells.now)
      (can.table (tells-on found old disk t));
}

module _ (found old new : DiskState) (it : SuperBlock) (is_found : IsDisk found) (is_old : IsDisk old)
    (is_new : IsDisk new)
    (disk : IsSameDisk found old) (cells : KeepsCells found old) (can : CanUpgrade found it)
    (adds : Adds (IsSuperCell (second it)) old new) where
  some-found : 0 < found.blocks
  some-found = some-blocks found.blocks it can.can

  pub images-written : IsTrue found.tells → StaysOrUpgrades found new
  images-written tells =
      images-from found old new disk cells
      (images-second old it is_old (told-on found old disk tells) (can-on found old it disk cells can) new adds)

  -- what a crash may leave of a block is what it might leave before, or version 2
  pub cells-written : (b : ℕ) (c : Cell) → Contains (new.may b) c → WasOr (IsSuperCell (second it)) found b c
  cells-written b c has = subst (λ (may : ℕ → List Cell). Contains (may b) c ⊎ IsSuperCell (second it) b c) cells.may
      (adds.cells b c has)

  module _ (r : IsRaised (second it) old new) where
    now-is : new.now ≡ set found.now 0 (super_cell (second it))
    now-is = r.now ∙ ap (λ (X : Image). set X 0 (super_cell (second it))) cells.now

    first-is : IsTrue found.tells → cell_at new.now 0 ≡ super_cell (second it)
    first-is tells =
        let e = is_found.whole tells in
        let s = some-found in
        ap (λ (X : Image). cell_at X 0) now-is
        ∙ get_or-set_same found.now 0 (super_cell (second it)) no_cell (omega (arith, e, s))

    is-second : IsTrue found.tells → IsSecond found.now new.now
    is-second tells = second-of found.blocks it can.can found.now new.now can.first
        (ap (λ (X : Image). length X) now-is ∙ length-set found.now 0 (super_cell (second it)))
        (λ b ne. ap (λ (X : Image). cell_at X b) now-is
        ∙ get_or-set_other found.now 0 b (super_cell (second it)) no_cell ne)
        (now-sized found is_found tells 0 some-found).payload (can.spelled tells) (first-is tells)

    pub upgraded : IsUpgraded found new
    upgraded = record {
      before = it;
      can = can;
      now = now-is;
      only = λ tells. (is-second tells).only;
      version = λ tells. ap (λ (c : Cell). super_of c.payload) (first-is tells)
          ∙ second-spelled found.blocks it can.can;
      settled = r.settled;
      left = λ tells X l. settled_image new is_new r.settled
          (told-on old new adds.disk (told-on found old disk tells)) X (is_new.at_rest X l);
      was = r.was;
      clean = r.clean;
      moment = r.moment ∙ ap (λ (n : ℕ). n + 4) cells.moment;
    }
