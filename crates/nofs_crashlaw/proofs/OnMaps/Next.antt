-- Good goes on over each step that has no fault of writing.
use Rattle.std.proofs.Common.{◌≡◌, ℕ, ◌<◌, Bool, true, false, Option, Some, None, refl, sym, ap, ◌∙◌, subst}
use Rattle.nofs_crashlaw.specs.Maps.Homes.{HomesMove, HomesMatch, GoodMaps, SameNumbers, LawGoodNext}
use Rattle.nofs_ptrs.specs.PathLaws.{path_of-slot_of}
use Rattle.nofs_crashlaw.proofs.OnMaps.Homes.{owner-houses, holds-has, back, forth, law-good, law-homes}
use Rattle.nofs_crashlaw.proofs.OnMaps.Good.{numbers-on, kept-numbers}
use Rattle.nofs_crashlaw.proofs.OnMaps.Moves.{home-is, home_by}
use Rattle.nofs_model.specs.declared.image.path.PathAnswer.TheVariants as answer
use Rattle.nofs_history.specs.declared.machine.steps.Step.{Step}
use Rattle.nofs_history.specs.declared.machine.history.Claims.{Claims}
use Rattle.nofs_history.specs.declared.machine.history.Entry1.{Entry1}
use Rattle.nofs_history.specs.Machine.{is_write_fault}
use Rattle.nofs_history.specs.History.{FilesMatch}
use Rattle.nofs_history.specs.World.{World}
use Rattle.nofs_history.specs.Claims.{no_claims, cell_slot, claimed_home, has_block}
use Rattle.nofs_history.specs.Next.{Keeps, Next, AfterFault, ByRow, Done, ByRead, ByWrite}
use Rattle.nofs_history.specs.Good.{IsGood}
use Rattle.nofs_model.specs.Geometry.{Image}
use Rattle.nofs_disk.specs.Disk.{cell_at}
use Rattle.nofs_ptrs.specs.Paths.{Path, path_of, IsSlot}
use Rattle.nofs_model.specs.Slots.{find}
use Rattle.nofs_model.specs.Owners.{Home, owner}
use Rattle.nofs_model.specs.Files.{Files}

-- no claims make no home
no-home : (F : Files) (step : Step) (p : ℕ) → claimed_home F step no_claims p ≡ None
no-home F step p = home-is F step no_claims p ∙ go (cell_slot F step)
  where
    go : (o : Option Home) → home_by o no_claims p ≡ None
    go None = refl
    go (Some at) = refl

some-none : (o : Option Home) (h : Home) → o ≡ None → o ≡ Some h → ⊥
some-none o h n s = cc (n, s)

-- a step that claims nothing and changes no file changes no owner
idle-owner : (F : Files) (step : Step) (X Y : Image) → HomesMove F step no_claims X Y → FilesMatch F X → FilesMatch F Y
    → (p : ℕ) → owner X p ≡ owner Y p
idle-owner F step X Y move mx my p = go (owner X p) refl (owner Y p) refl
  where
    has : (h : Home) → owner X p ≡ Some h → has_block F h ≡ true
    has h e =
        let o = owner-houses X p h.inode h.slot e in
        let ep : path_of h.slot ≡ o.path = ap path_of o.slot ∙ path_of-slot_of o.path o.is_slot in
        holds-has F X mx h.inode h.slot o.pointer (subst IsSlot (sym ep) o.is_slot) o.agreed
        (subst (λ (q : Path). find X h.inode q ≡ answer.Holds o.pointer) (sym ep) o.holds)

    go : (a : Option Home) → owner X p ≡ a → (b : Option Home) → owner Y p ≡ b → owner X p ≡ owner Y p
    go None ea None eb = ea ∙ sym eb
    go None ea (Some h) eb =
        absurd (some-none (owner X p) h ea (back F F step no_claims X Y move my p (no-home F step p) h eb))
    go (Some h) ea b eb = ea ∙ sym (forth F F step no_claims X Y move my p (no-home F step p) h ea (has h ea))

module _ (W V : World) (e : Entry1) (vi fi vb fb : ℕ → Bool) (X Y : Image) (good : IsGood W vi fi vb fb X)
    (first : cell_at Y 0 ≡ cell_at X 0) (move : HomesMove W.files e.step e.claims X Y)
    (match : FilesMatch V.files Y) where
  by-idle : e.claims ≡ no_claims → SameNumbers W V → V.files ≡ W.files → V.homes ≡ W.homes → GoodMaps V Y
  by-idle none same ef eh = law-good V Y (numbers-on W V X Y same first good.numbers) match homes
    where
      homes : HomesMatch V Y
      homes p lt =
          let ltw : p < W.blocks = subst (λ (n : ℕ). p < n) same.blocks lt in
          ap (λ (h : ℕ → Option Home). h p) eh ∙ good.homes p ltw
          ∙ idle-owner W.files e.step X Y (subst (λ (c : Claims). HomesMove W.files e.step c X Y) none move) good.files
          (subst (λ (F : Files). FilesMatch F Y) ef match) p

  by-keep : e.claims ≡ no_claims → Keeps W V → GoodMaps V Y
  by-keep none k = by-idle none (kept-numbers W V k) k.files k.homes

  by-next : Next W e V → is_write_fault e.reply ≡ false → GoodMaps V Y
  by-next (AfterFault s r c same) f = by-idle c (record {
    version = ap (λ (q : World). q.version) same;
    blocks = ap (λ (q : World). q.blocks) same;
    inodes =
        ap (λ (q : World). q.inodes) same;
    mount = ap (λ (q : World). q.mount) same;
  }) (ap (λ (q : World). q.files) same) (ap (λ (q : World). q.homes) same)
  by-next (ByRow why s rows r c k st l) f = by-keep c k
  by-next (ByRead s rows r c k st l) f = by-keep c k
  by-next (Done s rows r claim fs hs serial vs l) f = law-good V Y
      (numbers-on W V X Y
      (record { version = vs.0; blocks = vs.1; inodes = vs.2; mount = vs.3 }) first good.numbers) match
      (law-homes W V e.step e.claims X Y good.homes good.files move vs.1 hs match)
  by-next (ByWrite s rows m r claim k st l) f =
      absurd (let z : is_write_fault e.reply ≡ true = ap is_write_fault r in cc (f, z))

pub law-good-next : LawGoodNext
law-good-next W V e vi fi vb fb X Y next fault good first move match =
    by-next W V e vi fi vb fb X Y good first move match next fault
