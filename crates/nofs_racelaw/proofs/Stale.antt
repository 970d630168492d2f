-- A verdict taken in one world of a run holds in every later one in which its element isn't known.
use Rattle.std.proofs.Common.{◌≡◌, ℕ, ◌/◌, ◌<◌, Bool, leb, ◌||◌, [], ◌∷◌, is_some, refl, sym, ap, ◌∙◌, subst}
use Rattle.nofs_model.specs.Geometry.{Image}
use Rattle.nofs_model.specs.Files.{is_special}
use Rattle.nofs_model.specs.Owners.{is_used_inode, is_used_block}
use Rattle.nofs_history.specs.World.{World, uses_inode, uses_block}
use Rattle.nofs_crashlaw.proofs.OnMaps.Homes.{uses-inode}
use Rattle.nofs_racelaw.specs.Laws.{LawPasses, Shows, LawStale}
use Rattle.nofs_racelaw.proofs.Verdicts.{run-unchanged}

pub law-passes : LawPasses
law-passes [] after start W V r = record { world = W; moment = start; run = refl; rest = r }
law-passes (e ∷ es) after start W V r =
    let p = law-passes es after e.to r.0 V r.5 in
    record { world = p.world; moment = p.moment; run = (r.0, r.1, r.2, r.3, r.4, p.run); rest = p.rest }

-- the machine's verdict is the scan's
inode-verdict : (W : World) (X : Image) → Shows W X → (i : ℕ) → uses_inode W i ≡ is_used_inode X i
inode-verdict W X s i = ap (λ (b : Bool). is_special i || b) (uses-inode W.files X s.good.files i)

block-verdict : (W : World) (X : Image) → Shows W X → (p : ℕ) → p < W.blocks → uses_block W p ≡ is_used_block X p
block-verdict W X s p lt = λ j. leb p (s.good.numbers.inodes j / 4) || is_some (s.good.homes p lt j)

pub law-stale : LawStale
law-stale es moment U V X Y run blocks x y =
    let u = (run-unchanged es moment U V run).0 in (
      λ i unknown. sym (inode-verdict V Y y i) ∙ u.0 i unknown ∙ inode-verdict U X x i,
      λ p lt unknown. sym (block-verdict V Y y p lt) ∙ u.1 p unknown
          ∙ block-verdict U X x p (subst (λ (n : ℕ). p < n) (sym blocks) lt),
    )
