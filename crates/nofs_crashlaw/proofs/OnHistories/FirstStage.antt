-- A mount that succeeded: the first step may begin.
use Rattle.std.proofs.Common.{◌≡◌, ℕ, ◌+◌, ◌<◌, inl, inr, [], length, refl, sym, subst, arith, le_refl, Contains}
use Rattle.std.proofs.lemmas.Bool.{cases_lt}
use Rattle.nofs_disk.specs.Disk.{DiskState, cell_at}
use Rattle.nofs_disk.specs.Moments.{AtEach}
use Rattle.nofs_disk.specs.Chains.{settled_image}
use Rattle.nofs_super.specs.Geometry.{IsGeometry}
use Rattle.nofs_disk.specs.declared.tag.Cell.{Cell}
use Rattle.nofs_model.specs.Geometry.{Image, super_at}
use Rattle.nofs_model.specs.Sound.{CellBelow}
use Rattle.nofs_model.proofs.OnSound.Writes.{mountable-law}
use Rattle.nofs_history.specs.Marks.{mark_at, new_mark}
use Rattle.nofs_history.specs.Allowed.{IsAllowed}
use Rattle.nofs_history.specs.Steady.{SteadyRest}
use Rattle.nofs_crashlaw.specs.Images.Reasons.{IsMark}
use Rattle.nofs_crashlaw.proofs.OnImages.Moments.{law-flush}
use Rattle.nofs_crashlaw.specs.Histories.Stage.{CellsSurvive, Stage, IsLeftByMount, LawFirstStage}
use Rattle.nofs_crashlaw.proofs.OnImages.Below.{live-below, tag-below}
use Rattle.nofs_crashlaw.proofs.OnHistories.Flushes.{flushed}
use Rattle.nofs_crashlaw.proofs.OnHistories.NewMark.{mark-new}
use Rattle.nofs_crashlaw.proofs.OnHistories.Unflushed.{self-match, law-unflushed}

-- what is live and not agreed is the base's
rest-first : (B : Image) → SteadyRest B [] B
rest-first B i live not_agreed = record {
  live = live;
  generation = refl;
  meta = refl;
  no_value = λ k. refl;
  no_meta = refl;
  values = λ k lt. inl refl;
}

module _ (d : DiskState) (s : ℕ) (p : IsLeftByMount d s) where
  geometry : IsGeometry (length d.now) (super_at d.now).blocks (super_at d.now).inodes
  geometry = let m = (mountable-law d.now).1 p.mountable in m.fits

  low : (b : ℕ) → b < (super_at d.now).blocks → b < d.blocks
  low b lt = let w = p.disk.whole p.tells in let g = geometry.fits in omega (arith, lt, w, g)

  alone : (b : ℕ) (c : Cell) → Contains (d.may b) c → c ≡ cell_at d.now b
  alone b c has = elim (cases_lt b d.blocks) [
    | inl lt ↦ p.settled b c lt has
    | inr past ↦ absurd (p.disk.beyond b c past has)
  ]

  new-is : (m : ℕ) → mark_at d.now [] m d.now s ≡ new_mark d.now [] d.now s
  new-is m = mark-new d.now [] m d.now s refl refl

  new : IsMark (new_mark d.now [] d.now s)
  new = flushed d.now [] d.now s tt (self-match d.now) (rest-first d.now) p.positive (geometry.multiple)
      (live-below d.now s (super_at d.now).blocks p.below (le_refl (super_at d.now).blocks) geometry.table)
      (tag-below d.now s (super_at d.now).blocks p.below (le_refl (super_at d.now).blocks))

  survives : CellsSurvive d (mark_at d.now [] (d.moment + 1) d.now s)
  survives =
      let m : IsMark (mark_at d.now [] (d.moment + 1) d.now s) = subst IsMark (sym (new-is (d.moment + 1))) new in
      record {
        mark = m;
        size = p.disk.whole p.tells;
        explained = law-flush (mark_at d.now [] (d.moment + 1) d.now s) d.may m alone;
      }

  only : (X : Image) → d.left d.moment X → X ≡ d.now
  only X left = settled_image d p.disk p.settled p.tells X (p.disk.at_rest X left)

  images : AtEach (λ m X. IsAllowed d.now [] m X) d.moment d
  images = record {
    begun = le_refl d.moment;
    each = λ m X from to left.
        let at : m ≡ d.moment = omega (arith, from, to) in
        let L : ℕ → Type 0 = λ k. d.left k X in
        subst (λ (Y : Image). IsAllowed d.now [] m Y) (sym (only X (subst L at left))) (law-unflushed d.now [] m refl);
  }

  pub first-stage : Stage d.now [] d.now s d.moment s d
  first-stage = record {
    lasts = record { size = refl; first = refl; by = tt; survives = survives; images = images };
    ready = record {
      files = self-match d.now;
      survives = survives;
      positive = p.positive;
      fresh = λ b c lt has. subst (λ (q : Cell). CellBelow s d.now b q) (sym (alone b c has)) (p.below b lt);
    };
  }

pub law-first-stage : (d : DiskState) → LawFirstStage d
law-first-stage d s p = (first-stage d s p, rest-first d.now)
