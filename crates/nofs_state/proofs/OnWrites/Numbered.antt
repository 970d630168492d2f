-- Sound images stay so over the writes of a step, whichever of them failed.
use Rattle.std.proofs.Common.{◌≡◌, ℕ, ◌+◌, ◌*◌, ◌/◌, ◌%◌, ◌^◌, ◌<◌, ◌≤◌, IsTrue, true, inl, inr, leb, leb-true, ltb}
use Rattle.std.proofs.Common.{List, [], ◌∷◌, length, refl, sym, ap, ◌∙◌, subst, arith, Contains}
use Rattle.std.proofs.lemmas.Bool.{cases_lt}
use Rattle.nofs_disk.specs.Disk.{DiskState, IsDisk, cell_at}
use Rattle.nofs_disk.specs.Adds.{Adds, WasOr}
use Rattle.nofs_disk.specs.declared.tag.Cell.{Cell}
use Rattle.nofs_super.specs.declared.superblock.SuperBlock.{SuperBlock}
use Rattle.nofs_model.specs.Geometry.{Image, super_at}
use Rattle.nofs_model.specs.Sound.{IsSound}
use Rattle.nofs_model.proofs.OnSlots.Find.{and-both}
use Rattle.nofs_model.proofs.OnSound.Writes.{law-sound, mountable-law}
use Rattle.nofs_crashlaw.specs.Images.Proper.{Proper, OfContent, OfPointers, OfTable}
use Rattle.nofs_crashlaw.specs.Images.Reasons.{Fine}
use Rattle.nofs_history.specs.Marks.{Mark}
use Rattle.nofs_history.specs.World.{World}
use Rattle.nofs_history.specs.Next.{Next}
use Rattle.nofs_history.specs.Good.{IsFresh}
use Rattle.nofs_history.specs.declared.machine.history.Claims.{Claims}
use Rattle.nofs_history.specs.declared.machine.history.Entry1.{Entry1}
use Rattle.nofs_crashlaw.specs.Maps.Fresh.{Numbered, CellNumbers, OnlyNumbered}
use Rattle.nofs_crashlaw.proofs.OnMaps.Fresh.{sole-is}
use Rattle.nofs_crashlaw.proofs.OnLives.Within.{law-mount-stamps}
use Rattle.nofs_state.specs.Books.Maps.{IsSafe}
use Rattle.nofs_state.specs.Cores.Invariant.{IsOpen, Past, Sounds}
use Rattle.nofs_state.specs.declared.books.maps.Books.{Books}

-- each cell that it may leave was there before, or has numbers that the step may write alone
abbrev pub AddsNumbered : World → Claims → DiskState → DiskState → Type 0
AddsNumbered W c old new = Adds (λ b cell. CellNumbers (Numbered W c) old.now b cell) old new

-- no proper write is one of the superblock
not-area : (X : Image) → (leb (1 + (super_at X).inodes / 4) 0) ≡ true → ⊥
not-area X e = let l = leb-true (1 + (super_at X).inodes / 4) 0 e in omega (arith, l)

not-first : (q : Mark) (X : Image) (c : Cell) → Proper q X 0 c → ⊥
not-first q X c (OfContent h) =
    not-area q.image (and-both (leb (1 + (super_at q.image).inodes / 4) 0) (ltb 0 (super_at q.image).blocks) h.area).0
not-first q X c (OfPointers h) =
    not-area q.image (and-both (leb (1 + (super_at q.image).inodes / 4) 0) (ltb 0 (super_at q.image).blocks) h.area).0
not-first q X c (OfTable h) = let l = h.not_super in omega (arith, l)

fine-first : (m : Mark) (c : Cell) → Fine m 0 c → c ≡ cell_at m.image 0
fine-first m c (inl e) = e
fine-first m c (inr w) = absurd (let l = w.not_super in omega (arith, l))

module _ (old new : DiskState) (k : Books) (H : List Entry1) (p : Past) (e : Entry1) (V : World) (q : Mark)
    (is : IsDisk old) (tells : IsTrue old.tells)
    (safe : IsSafe old k) (o : IsOpen old k H p) (next : Next p.world e V)
    (adds : Adds (Proper q old.now) old new) (numbered : AddsNumbered p.world e.claims old new) where
  abbrev W : World
  W = p.world

  blocks-are : W.blocks ≡ (super_at old.now).blocks
  blocks-are = o.says.blocks ∙ ap (λ (s : SuperBlock). s.blocks) (sym o.at)

  mount-is : (super_at old.now).mount ≡ W.mount
  mount-is = ap (λ (s : SuperBlock). s.mount) o.at ∙ sym o.says.mount

  within : (b : ℕ) → b < W.blocks → b < old.blocks
  within b low = let f = safe.at.geometry.fits in let s = o.says.blocks in omega (arith, low, f, s)

  some-blocks : 0 < old.blocks
  some-blocks = let f = safe.at.geometry.fits in let t = safe.at.geometry.some_blocks in omega (arith, f, t)

  fresh : IsFresh W old.now old.may
  fresh b lt cell has = o.stage.ready.fresh b cell (subst (λ (n : ℕ). b < n) blocks-are lt) has

  quarters : (super_at old.now).inodes % 4 ≡ 0
  quarters = let m = (mountable-law old.now).1 o.mountable in m.fits.multiple

  low-serial : W.serial ≤ 2 ^ 40
  low-serial = let s = safe.serial in let w = o.says.serial in omega (arith, s, w)

  low-mount : (super_at old.now).mount < 2 ^ 24
  low-mount = let s = safe.mount in let m = o.says.mount in let n = mount-is in omega (arith, s, m, n)

  first-was : (c : Cell) → Contains (old.may 0) c → c ≡ cell_at old.now 0
  first-was c has =
      let there = fine-first _ c (o.stage.ready.survives.explained 0 c has).0 in
      let here = fine-first _ (cell_at old.now 0)
      (o.stage.ready.survives.explained 0 (cell_at old.now 0) (is.has_now 0 tells some-blocks)).0 in
      there ∙ sym here

  first-is : (c : Cell) → WasOr (Proper q old.now) old 0 c → c ≡ cell_at old.now 0
  first-is c (inl was) = first-was c was
  first-is c (inr good) = absurd (not-first q old.now c good)

  only : (Y : Image) → ((b : ℕ)
      → b < old.blocks → WasOr (λ n cell. CellNumbers (Numbered W e.claims) old.now n cell) old b (cell_at Y b))
      → OnlyNumbered W e.claims old.now old.may (λ b. cell_at Y b ∷ [])
  only Y each b low c has = subst (λ (d : Cell).
      WasOr (λ n cell. CellNumbers (Numbered W e.claims) old.now n cell) old b d) (sole-is (cell_at Y b) c has)
      (each b (within b low))

  picked : (Y : Image)
      → length Y ≡ old.blocks → ((b : ℕ) → b < old.blocks → WasOr (Proper q old.now) old b (cell_at Y b))
      → ((b : ℕ) → b < old.blocks
      → WasOr (λ n cell. CellNumbers (Numbered W e.claims) old.now n cell) old b (cell_at Y b)) → IsSound Y
  picked Y len proper each =
      let below = (law-mount-stamps W V e old.now old.now old.may
      (λ b. cell_at Y b ∷ []) next low-serial quarters refl fresh (only Y each)).1 in
      law-sound ((W.mount + 1) * 2 ^ 40) old.now Y (λ b. cell_at Y b ∷ []) o.mountable low-mount
      (let n = mount-is in omega (arith, n))
      (λ b low c has. below b (subst (λ (n : ℕ). b < n) (sym blocks-are) low) c has)
      (len ∙ sym (is.whole tells)) (first-is (cell_at Y 0) (proper 0 some-blocks)) (λ b low. (0, omega arith, refl))

  pub sounds-adds : (from : ℕ) → Sounds from old → Sounds from new
  sounds-adds from s = record {
    picks = λ X x. picked X (x.len ∙ adds.disk.blocks)
        (λ b low. adds.cells b (cell_at X b) (x.each b (let n = adds.disk.blocks in omega (arith, low, n))))
        (λ b low. numbered.cells b (cell_at X b) (x.each b (let n = adds.disk.blocks in omega (arith, low, n))));
    images = record {
      begun = (let a = s.images.begun in let b = adds.later in omega (arith, a, b));
      each = λ m X low high left. elim (cases_lt old.moment m) [
        | inl beyond ↦
            let a = adds.left m X beyond high left in
            let n = numbered.left m X beyond high left in
            picked X a.0 a.1 n.1
        | inr inside ↦ s.images.each m X low inside (adds.past.no_more m X inside left)
      ];
    };
  }
