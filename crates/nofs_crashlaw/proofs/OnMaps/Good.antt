-- Maps stay good, and what is claimed was free.
use Rattle.nofs_crashlaw.proofs.OnMaps.ClaimParts.{claim-free, claim-inode}
use Rattle.std.proofs.Common.{◌≡◌, ◌≢◌, ℕ, ◌+◌, ◌/◌, ◌<◌, Bool, true, false, leb, ltb, ◌&&◌, ◌||◌, not, Option, Some}
use Rattle.std.proofs.Common.{None, is_some, Contains, refl, sym, ap, ◌∙◌, subst, arith, lt-ltb}
use Rattle.std.proofs.lemmas.Bool.Decides.{nat_tests}
use Rattle.nofs_crashlaw.specs.Maps.Homes.{SameNumbers, LawGoodDone, LawGoodKept, LawClaims}
use Rattle.nofs_model.proofs.OnSlots.Find.{and-both}
use Rattle.nofs_model.proofs.OnSound.Writes.{supers}
use Rattle.nofs_model.proofs.OnOwners.Slots.{unowned-free}
use Rattle.nofs_crashlaw.proofs.OnMaps.Homes.{law-homes, law-good, uses-inode}
use Rattle.nofs_history.specs.History.{FilesMatch}
use Rattle.nofs_history.specs.World.{World, uses_inode, uses_block}
use Rattle.nofs_history.specs.Claims.{claimed_blocks}
use Rattle.nofs_history.specs.Next.{Keeps}
use Rattle.nofs_history.specs.Good.{MatchesSuper}
use Rattle.nofs_disk.specs.declared.tag.Pointer.{Pointer}
use Rattle.nofs_super.specs.declared.superblock.SuperBlock.{SuperBlock}
use Rattle.nofs_model.specs.Geometry.{Image, super_at}
use Rattle.nofs_disk.specs.Disk.{cell_at}
use Rattle.nofs_model.specs.Owners.{owner, Home, is_used_block}
use Rattle.nofs_model.specs.Files.{Files, is_special}

-- the numbers of a world go on, and so does block 0
pub numbers-on : (W V : World) (X Y : Image) → SameNumbers W V → cell_at Y 0 ≡ cell_at X 0 → MatchesSuper W X
    → MatchesSuper V Y
numbers-on W V X Y same first n =
    let e = sym (supers X Y first) in
    record {
      version = same.version ∙ n.version ∙ ap (λ (q : SuperBlock). q.version) e;
      blocks = same.blocks ∙ n.blocks ∙ ap (λ (q : SuperBlock). q.blocks) e;
      inodes = same.inodes ∙ n.inodes ∙ ap (λ (q : SuperBlock). q.inodes) e;
      mount = same.mount ∙ n.mount ∙ ap (λ (q : SuperBlock). q.mount) e;
    }

pub kept-numbers : (W V : World) → Keeps W V → SameNumbers W V
kept-numbers W V k = record { version = k.version; blocks = k.blocks; inodes = k.inodes; mount = k.mount }

pub law-good-done : LawGoodDone
law-good-done W V step c vi fi vb fb X Y good same eh first move match =
    law-good V Y (numbers-on W V X Y same first good.numbers) match
    (law-homes W V step c X Y good.homes good.files move same.blocks eh match)

pub law-good-kept : LawGoodKept
law-good-kept W V vi fi vb fb X good k =
    law-good V X (numbers-on W V X X (kept-numbers W V k) refl good.numbers)
    (subst (λ (F : Files). FilesMatch F X) (sym k.files) good.files)
    (λ p lt. ap (λ (h : ℕ → Option Home). h p) k.homes ∙ good.homes p (subst (λ (n : ℕ). p < n) k.blocks lt))

not-true : (b : Bool) → not b ≡ true → b ≡ false
not-true true e = cc
not-true false e = refl

or-none : (a b : Bool) → (a || b) ≡ false → (a ≡ false) × (b ≡ false)
or-none true b e = cc
or-none false b e = (refl, e)

none-of : (o : Option Home) → is_some o ≡ false → o ≡ None
none-of None e = refl
none-of (Some h) e = cc

not-fixed : (p n blocks : ℕ) → leb p n ≡ false → p < blocks → (leb (1 + n) p && ltb p blocks) ≡ true
not-fixed p n blocks e lt = rw (lt-ltb p blocks lt, above) refl
  where
    above : leb (1 + n) p ≡ true
    above = grind (arith, nat_tests, e)

pub law-claims : LawClaims
law-claims W step c vi fi vb fb X good claim = record {
  block_known = λ x h. (free x h).0;
  block_unused = λ x h. used x h;
  block_free = λ x h. unowned-free X x.block (none-of (owner X x.block) (apart x h).1);
  block_data = λ x h. not-fixed x.block ((super_at X).inodes / 4) (super_at X).blocks (apart x h).0
      (subst (λ (n : ℕ). x.block < n) good.numbers.blocks (claim-free W step c claim x h).1);
  inode_known = λ ne. (plain ne).0;
  inode_unused = λ ne. sym (ap (λ (t : Bool). is_special c.inode || t) (uses-inode W.files X good.files c.inode))
      ∙ not-true (uses_inode W c.inode) (plain ne).1;
}
  where
    free : (x : Pointer) → Contains (claimed_blocks c) x
        → (W.known_blocks x.block ≡ true) × (not (uses_block W x.block) ≡ true)
    free x h = and-both (W.known_blocks x.block) (not (uses_block W x.block)) (claim-free W step c claim x h).0

    plain : c.inode ≢ 0 → (W.known_inodes c.inode ≡ true) × (not (uses_inode W c.inode) ≡ true)
    plain ne = and-both (W.known_inodes c.inode) (not (uses_inode W c.inode)) (claim-inode W step c claim ne).0

    used : (x : Pointer) → Contains (claimed_blocks c) x → is_used_block X x.block ≡ false
    used x h =
        sym (ap (λ (n : ℕ). leb x.block (n / 4) || is_some (W.homes x.block)) good.numbers.inodes
        ∙ ap (λ (o : Option Home). leb x.block ((super_at X).inodes / 4) || is_some o)
        (good.homes x.block (claim-free W step c claim x h).1))
        ∙ not-true (uses_block W x.block) (free x h).1

    apart : (x : Pointer) → Contains (claimed_blocks c) x
        → (leb x.block ((super_at X).inodes / 4) ≡ false) × (is_some (owner X x.block) ≡ false)
    apart x h = or-none (leb x.block ((super_at X).inodes / 4)) (is_some (owner X x.block)) (used x h)
