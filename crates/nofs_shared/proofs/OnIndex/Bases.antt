-- What a mount stands on is a base, and each world of its history is sane.
use Rattle.std.proofs.Common.{◌≡◌, ℕ, ◌+◌, ◌^◌, ◌<◌, ◌≤◌, Bool, true, false, eqb, List, [], ◌∷◌, length, refl, sym, ap}
use Rattle.std.proofs.Common.{◌∙◌, subst, arith, eqb-true, eq-eqb}
use Rattle.std.proofs.lemmas.List.{get_or-set_same}
use Rattle.std.specs.Prelude.{slice_set}
use Rattle.nofs_disk.specs.Cells.{now-sized}
use Rattle.nofs_disk.specs.Disk.{DiskState, IsDisk, IsSizedCell, cell_at, no_cell}
use Rattle.nofs_disk.specs.OneSpelling.{IsBytes-tag_bytes}
use Rattle.nofs_disk.specs.declared.tag.Cell.{Cell}
use Rattle.nofs_super.specs.Format.{super_cell}
use Rattle.nofs_super.specs.Raise.{raised}
use Rattle.nofs_super.specs.Spelling.{IsBytes-super_payload}
use Rattle.nofs_super.specs.declared.superblock.SuperBlock.{SuperBlock}
use Rattle.nofs_model.specs.Geometry.{Image, super_at}
use Rattle.nofs_model.specs.Sound.{IsSound}
use Rattle.nofs_history.specs.Next.{AfterFault, ByRead, ByRow, ByWrite, Done, Next, Run}
use Rattle.nofs_history.specs.World.{World, world_of}
use Rattle.nofs_history.specs.declared.machine.history.Entry1.{Entry1}
use Rattle.nofs_crashlaw.specs.Lives.{Raised}
use Rattle.nofs_crashlaw.specs.Runs.Bases.{IsBase, IsHistory}
use Rattle.nofs_crashlaw.proofs.OnRuns.Base.{sane-run}
use Rattle.nofs_crashlaw.proofs.OnRuns.Links.{IsSane}
use Rattle.nofs_crashlaw.proofs.OnRuns.Mounted.{law-mounted}
use Rattle.nofs_crashlaw.proofs.OnRuns.Start.{sane-start}
use Rattle.nofs_state.specs.Cores.Invariant.{IsOpen, Past}
use Rattle.nofs_state.specs.declared.books.maps.Books.{Books}
use Rattle.nofs_shared.specs.Mount.Invariant.{IsMount, IsSoundDisk}
use Rattle.nofs_shared.proofs.OnMount.Raised.{has-cell, raised-of, some}

-- Along a run

-- serials count up
next-serial : (W V : World) (e : Entry1) → Next W e V → W.serial ≤ V.serial
next-serial W V e (AfterFault s r c same) = let n = ap (λ (X : World). X.serial) same in omega (arith, n)
next-serial W V e (ByRow why s row r c k t l) = let n = k.serial in omega (arith, n)
next-serial W V e (ByRead s row r c k t l) = let n = k.serial in omega (arith, n)
next-serial W V e (ByWrite s row m r claim k t l) = let n = k.serial in omega (arith, n)
next-serial W V e (Done s row r claim fs hs se vs l) = omega (arith, se)

run-serial : (H : List Entry1) (start : ℕ) (W V : World) → Run start W H V → W.serial ≤ V.serial
run-serial [] start W V r = let n = ap (λ (X : World). X.serial) r in omega (arith, n)
run-serial (x ∷ H) start W V r =
    let a = next-serial W r.0 x r.4 in
    let b = run-serial H x.to r.0 V r.5 in
    omega (arith, a, b)

run-sane : ((W V : World) (e : Entry1) → Next W e V → IsSane W → IsSane V) → (H : List Entry1) (start : ℕ)
    (W V : World) → Run start W H V → IsSane W → IsSane V
run-sane keeps [] start W V r s = subst (λ (X : World). IsSane X) (sym r) s
run-sane keeps (x ∷ H) start W V r s = run-sane keeps H x.to r.0 V r.5 (keeps W r.0 x r.4 s)

-- The base

super-sized : (it : SuperBlock) → IsSizedCell (super_cell it)
unfolding super_cell
super-sized it = record { payload = IsBytes-super_payload it; tag = IsBytes-tag_bytes _ }

begins-with : (B : Image) (first : ℕ) → (world_of B first).serial ≡ first
unfolding world_of
begins-with B first = refl

module _ (found d : DiskState) (first : ℕ) (k : Books) (is : IsDisk found) (m : IsMount found d first k)
    (q : IsSoundDisk found) (p : Past) (base : p.base ≡ d.was k.history.start)
    (o : IsOpen d k k.history.entries p) where
  sound : IsSound found.now
  sound = q.sound found.now (record { len = is.whole q.tells; each = λ b low. is.has_now b q.tells low })

  base-is : p.base ≡ slice_set found.now 0 (super_cell (raised (super_at found.now)))
  base-is = base ∙ m.mounted.base
      ∙ ap (λ (at : SuperBlock). slice_set found.now 0 (super_cell at)) (m.stands q).raised

  first-is : cell_at p.base 0 ≡ super_cell (raised (super_at found.now))
  first-is = ap (λ (X : Image). cell_at X 0) base-is
      ∙ get_or-set_same found.now 0 (super_cell (raised (super_at found.now))) no_cell (some found.now sound)

  raises : Raised found.now p.base
  raises = raised-of found.now sound p.base base-is

  sized : (b : ℕ) → b < length p.base → IsSizedCell (cell_at p.base b)
  sized b low = go (eqb b 0) refl
    where
      go : (t : Bool) → eqb b 0 ≡ t → IsSizedCell (cell_at p.base b)
      go true e = subst (λ (c : Cell). IsSizedCell c)
          (sym (ap (λ (n : ℕ). cell_at p.base n) (eqb-true b 0 e) ∙ first-is))
          (super-sized (raised (super_at found.now)))
      go false e = subst (λ (c : Cell). IsSizedCell c)
          (sym (raises.only.others b (λ z. let t : eqb b 0 ≡ true = eq-eqb b 0 z in cc (t, e))))
          (now-sized found is q.tells b
          (let n = raises.only.size in let w = is.whole q.tells in omega (arith, low, n, w)))

  mount : (super_at p.base).mount < 2 ^ 24
  mount =
      let at : k.at.mount ≡ (super_at found.now).mount + 1 =
      ap (λ (s : SuperBlock). s.mount) (m.stands q).raised in
      let one = raises.mount in
      let most = m.safe.mount in
      omega (arith, at, one, most)

  serial : p.first ≤ 2 ^ 40
  serial =
      let grows = run-serial k.history.entries k.history.start (world_of p.base p.first) p.world o.run.run in
      let begins = begins-with p.base p.first in
      let now = o.says.serial in
      let most = m.safe.serial in
      omega (arith, grows, begins, now, most)

  mount-base : IsBase p.base p.first
  mount-base = law-mounted found.now p.base p.first sound raises (has-cell found.now sound p.base first-is) sized
      mount serial

  -- the world after some of its entries
  pub world-sane : (H : List Entry1) (W : World) → Run k.history.start (world_of p.base p.first) H W → IsSane W
  world-sane H W r =
      let history : IsHistory p.base k.history =
      record { first = p.first; base = mount-base; world = p.world; run = o.run.run } in
      run-sane (sane-run p.base k.history history).keeps
      H k.history.start (world_of p.base p.first) W r (sane-start p.base p.first mount-base)
