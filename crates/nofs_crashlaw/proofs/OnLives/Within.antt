-- What a step leaves is within the stamps of the mount.
use Rattle.std.proofs.Common.{◌≡◌, ℕ, ◌+◌, ◌*◌, ◌^◌, ◌%◌, ◌≤◌, inl, inr, List, None, ap, arith, refl}
use Rattle.nofs_crashlaw.specs.Maps.Fresh.{needed, OnlyNumbered, AllBelow, LawMountStamps}
use Rattle.nofs_crashlaw.proofs.OnMaps.Fresh.{by-none, by-claim, move-cell}
use Rattle.nofs_crashlaw.proofs.OnLives.Numbers.{within}
use Rattle.nofs_history.specs.declared.machine.history.Entry1.{Entry1}
use Rattle.nofs_history.specs.Search.{first_of}
use Rattle.nofs_history.specs.World.{World}
use Rattle.nofs_history.specs.Refusals.{rows}
use Rattle.nofs_history.specs.Claims.{no_claims, IsClaim, next_stamp}
use Rattle.nofs_history.specs.Next.{Next, AfterFault, ByRow, Done, ByRead, ByWrite}
use Rattle.nofs_history.specs.Good.{IsFresh}
use Rattle.nofs_disk.specs.declared.tag.Cell.{Cell}
use Rattle.nofs_model.specs.Geometry.{Image, super_at}
use Rattle.nofs_disk.specs.Disk.{cell_at}

weaken : (a b : ℕ) (W : World) (Y : Image) (after : ℕ → List Cell) → a ≤ b → AllBelow a W Y after → AllBelow b W Y after
weaken a b W Y after le h p lt c has = move-cell a b Y Y p c le refl (h p lt c has)

module _ (W V : World) (e : Entry1) (X Y : Image) (before after : ℕ → List Cell) (low : W.serial ≤ 2 ^ 40)
    (quarters : (super_at X).inodes % 4 ≡ 0)
    (first : cell_at Y 0 ≡ cell_at X 0)
    (fresh : IsFresh W X before) (only : OnlyNumbered W e.claims X before after) where
  idle : e.claims ≡ no_claims → V.serial ≡ W.serial → (V.serial ≤ 2 ^ 40) × AllBelow ((W.mount + 1) * 2 ^ 40) W Y after
  idle c s = (
    omega (arith, s, low),
    by-none W e.claims X Y before after quarters first fresh only c ((W.mount + 1) * 2 ^ 40) (omega (arith, low)),
  )

  fits : first_of (rows W V e.step) ≡ None → next_stamp W + needed W e.step ≤ (W.mount + 1) * 2 ^ 40
  fits r = elim (within W V e.step r) [ inl le ↦ omega (arith, le) | inr z ↦ omega (arith, z, low) ]

  claimed : first_of (rows W V e.step) ≡ None → IsClaim W e.step e.claims → AllBelow ((W.mount + 1) * 2 ^ 40) W Y after
  claimed r c = weaken (next_stamp W + needed W e.step) ((W.mount + 1) * 2 ^ 40) W Y after (fits r)
      (by-claim W e.claims X Y before after quarters first fresh only e.step c)

  by-next : Next W e V → (V.serial ≤ 2 ^ 40) × AllBelow ((W.mount + 1) * 2 ^ 40) W Y after
  by-next (AfterFault s r c same) = idle c (ap (λ (q : World). q.serial) same)
  by-next (ByRow why s rows r c k st l) = idle c k.serial
  by-next (ByRead s rows r c k st l) = idle c k.serial
  by-next (Done s rows r c fs hs serial vs l) = let f = fits rows in (omega (arith, f, serial), claimed rows c)
  by-next (ByWrite s rows m r c k st l) = let ks = k.serial in (omega (arith, ks, low), claimed rows c)

pub law-mount-stamps : LawMountStamps
law-mount-stamps W V e X Y before after next low quarters first fresh only =
    by-next W V e X Y before after low quarters first fresh only next
