-- One mount: its life, what a crash inside its raise leaves, and what the next one finds.
use Rattle.std.proofs.Math.Logic.{∥∥₁_elim, ∥∥₁_map, ∥∥₁_prop}
use Rattle.std.proofs.Common.{◌≡◌, ◌≢◌, ℕ, ◌<◌, ◌≤◌, Bool, true, false, eqb, eqb-true, eq-eqb, inl, inr, IsTrue}
use Rattle.std.proofs.Common.{Contains, length, set, refl, sym, ap, ◌∙◌, subst, arith}
use Rattle.std.proofs.lemmas.List.{get_or-set_same, get_or-set_other, length-set}
use Rattle.nofs_disk.specs.Disk.{DiskState, IsDisk, Picks, no_cell, cell_at}
use Rattle.nofs_disk.specs.Adds.{WasOr}
use Rattle.nofs_super.specs.Format.{super_cell}
use Rattle.nofs_super.specs.Raise.{IsSuperCell, raised}
use Rattle.nofs_disk.specs.declared.tag.Cell.{Cell}
use Rattle.nofs_super.specs.declared.superblock.SuperBlock.{SuperBlock}
use Rattle.nofs_model.specs.Geometry.{Image, super_at}
use Rattle.nofs_super.specs.Super.{super_in}
use Rattle.nofs_model.specs.Sound.{IsSound}
use Rattle.nofs_history.specs.Allowed.{IsAllowed}
use Rattle.nofs_history.specs.Next.{Run}
use Rattle.nofs_history.specs.World.{world_of}
use Rattle.nofs_crashlaw.specs.Lives.{IsLife, Raised}
use Rattle.nofs_crashlaw.proofs.OnLives.Begin.{law-upgraded}
use Rattle.nofs_shared.specs.Mount.End.{Contents}
use Rattle.nofs_shared.specs.Mount.Invariant.{IsFound, IsSoundDisk}
use Rattle.nofs_shared.specs.Laws.{ComesAfter, IsOfRaise, LawFoundSound, LawInRaise, LawMountLife, LawNextMount}
use Rattle.nofs_shared.specs.Laws.{Leaves, Mount, SameOrSecond, base_of, life_in}
use Rattle.nofs_shared.proofs.OnMount.Raised.{has-cell, is-raised, raised-of, some}

super-same : (X Y : Image) → cell_at Y 0 ≡ cell_at X 0 → super_at Y ≡ super_at X
unfolding super_at
super-same X Y e = ap (λ (c : Cell). super_in c.payload) e

abbrev IsPick : DiskState → Image → Type 0
IsPick d X = Picks d.may d.blocks X

-- what a read gives is one of the images that the disk may hold
pub now-picks : (d : DiskState) → IsDisk d → IsTrue d.tells → Picks d.may d.blocks d.now
now-picks d is t = record { len = is.whole t; each = λ b low. is.has_now b t low }

-- an image of the raise
module _ (d : DiskState) (is : IsDisk d) (q : IsSoundDisk d) (X : Image)
    (found : IsFound (raised (super_at d.now)) d X) where
  picked : IsPick d d.now
  picked = now-picks d is q.tells

  bound : 0 < d.blocks
  bound = let n = picked.len in let s = some d.now (q.sound d.now picked) in omega (arith, n, s)

  others-in : (b : ℕ) → b < d.blocks → b ≢ 0 → Contains (d.may b) (cell_at X b)
  others-in b low ne = elim (found.1 b low) [ inl h ↦ h | inr c ↦ absurd (ne c.first) ]

  each-of : (Y : Image) → Contains (d.may 0) (cell_at Y 0) → ((b : ℕ) → b ≢ 0 → cell_at Y b ≡ cell_at X b)
      → (b : ℕ) → b < d.blocks
      → Contains (d.may b) (cell_at Y b)
  each-of Y here same b low = go (eqb b 0) refl
    where
      go : (t : Bool) → eqb b 0 ≡ t → Contains (d.may b) (cell_at Y b)
      go true e = subst (λ (k : ℕ). Contains (d.may k) (cell_at Y k)) (sym (eqb-true b 0 e)) here
      go false e = let ne : b ≢ 0 = λ z. let t : eqb b 0 ≡ true =
          eq-eqb b 0 z in cc (t, e) in subst (λ (c : Cell). Contains (d.may b) c) (sym (same b ne)) (others-in b low ne)

  -- X with the cell of block 0 that a read gives
  Y : Image
  Y = set X 0 (cell_at d.now 0)

  first-is : cell_at Y 0 ≡ cell_at d.now 0
  unfolding Y
  first-is = get_or-set_same X 0 (cell_at d.now 0) no_cell (let e = found.0 in let s = bound in omega (arith, e, s))

  others-are : (b : ℕ) → b ≢ 0 → cell_at Y b ≡ cell_at X b
  unfolding Y
  others-are b ne = get_or-set_other X 0 b (cell_at d.now 0) no_cell ne

  size-is : length Y ≡ length X
  unfolding Y
  size-is = length-set X 0 (cell_at d.now 0)

  picks : IsPick d Y
  picks = record {
    len = size-is ∙ found.0;
    each = each-of Y (subst (λ (c : Cell). Contains (d.may 0) c) (sym first-is) (is.has_now 0 q.tells bound))
        others-are;
  }

  pub in-raise : IsOfRaise d X
  in-raise = go (found.1 0 bound)
    where
      go : WasOr (IsSuperCell (raised (super_at d.now))) d 0 (cell_at X 0) → IsOfRaise d X
      go (inl here) = inl (record { len = found.0; each = each-of X here (λ b ne. refl) })
      go (inr c) =
          let first : cell_at X 0 ≡ super_cell (raised (super_at Y)) =
          c.is ∙ ap (λ (s : SuperBlock). super_cell (raised s)) (sym (super-same d.now Y first-is)) in
          inr (
            Y,
            picks,
            is-raised Y (q.sound Y picks) X first (sym size-is) (λ b ne. sym (others-are b ne)),
            has-cell Y (q.sound Y picks) X first,
          )

module _ {D : Type 0} (state : D → DiskState) (is : (d : D) → IsDisk (state d)) where
  -- what stands behind the two facts of a mount
  pub record Says (m : Mount state) : Type 0 where
    pub sound : IsSoundDisk (state m.found)
    pub contents : Contents (state m.found) (state m.last) m.first m.history

  pub says : (m : Mount state) → ∥ Says m ∥₁
  says m = ∥∥₁_elim m.sound ∥∥₁_prop (λ q. ∥∥₁_map m.ends (λ e. record { sound = q; contents = e.contents q }))

  module _ (m : Mount state) (s : Says m) where
    pub is-life : IsLife (life_in m s.contents.world)
    is-life = subst (λ (B : Image). Run m.history.start (world_of B m.first) m.history.entries s.contents.world)
        s.contents.base_is s.contents.run

    pub found-picks : Picks (state m.found).may (state m.found).blocks (state m.found).now
    found-picks = now-picks (state m.found) (is m.found) s.sound.tells

    -- the base is what a read gave as the mount found the disk, raised
    pub base-raised : Raised (state m.found).now (base_of m)
    base-raised = raised-of (state m.found).now (s.sound.sound (state m.found).now found-picks) (base_of m) refl

    pub is-allowed : (X : Image) (c : Leaves m X)
        → m.history.start ≤ c.moment → IsAllowed (base_of m) m.history.entries c.moment X
    is-allowed X c late = subst (λ (B : Image). IsAllowed B m.history.entries c.moment X) s.contents.base_is
        (s.contents.allowed c.moment X late c.to c.left)

    pub of-raise : (at : ℕ) (X : Image) → (state m.found).moment ≤ at → at ≤ m.history.start → (state m.last).left at X
        → IsOfRaise (state m.found) X
    of-raise at X from early left =
        in-raise (state m.found) (is m.found) s.sound X (s.contents.before at X from early left)

    stays-sound : (X Y : Image) → IsSound X → SameOrSecond X Y → IsSound Y
    stays-sound X Y sound (inl e) = subst IsSound (sym e) sound
    stays-sound X Y sound (inr up) = law-upgraded X Y sound up.0 up.1

    after-sound : (d : DiskState) → IsTrue d.tells → ComesAfter m d → IsSoundDisk d
    after-sound d tells after = record {
      tells = tells;
      sound = λ Y p. let f =
          after Y p in stays-sound f.0 Y (s.contents.sound f.1.moment f.0 f.1.from f.1.to f.1.left) f.2;
    }

  pub mount-life : LawMountLife state
  mount-life m = ∥∥₁_map (says m) (λ s. (s.contents.world, is-life m s))

  pub next-mount : LawNextMount state
  next-mount k l X c late between W V =
      ∥∥₁_elim (says k) ∥∥₁_prop (λ s. ∥∥₁_map (says l) (λ t.
      record {
        moment = c.moment;
        left = X;
        found = (state l.found).now;
        allowed = is-allowed k s X c late;
        between = between;
        raised = base-raised l t;
      }))

  pub mount-raise : LawInRaise state
  mount-raise k at X from early left = ∥∥₁_map (says k) (λ s. of-raise k s at X from early left)

  pub found-sound : LawFoundSound state
  found-sound k d tells after = ∥∥₁_map (says k) (λ s. after-sound k s (state d) tells after)
