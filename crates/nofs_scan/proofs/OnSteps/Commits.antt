-- A verdict of an earlier state is right now where its element was not examined since.
use Rattle.std.proofs.Common.{◌≡◌, ℕ, ◌-◌, ◌<◌, ◌≤◌, Bool, true, false, cond, ◌&&◌, not, ltb, leb, List, ◌++◌, Some}
use Rattle.std.proofs.Common.{None, refl, sym, ◌∙◌, subst, subst₂, arith}
use Rattle.nofs_bits.specs.Bits.{is_set}
use Rattle.nofs_disk.specs.Disk.{DiskState, IsDisk}
use Rattle.nofs_disk.specs.Chains.{KeepsCells-refl, StaysButFaults-refl}
use Rattle.nofs_super.specs.declared.superblock.SuperBlock.{SuperBlock}
use Rattle.nofs_model.specs.Geometry.{Image}
use Rattle.nofs_history.specs.World.{world_of}
use Rattle.nofs_history.specs.Next.{Run}
use Rattle.nofs_history.specs.Good.{IsUnchanged}
use Rattle.nofs_history.specs.declared.machine.history.Entry1.{Entry1}
use Rattle.nofs_history.specs.declared.machine.steps.ElementKind.{ElementKind}
use Rattle.nofs_history.specs.declared.machine.steps.ElementKind.TheVariants as element
use Rattle.nofs_racelaw.proofs.OneRun.{law-late}
use Rattle.nofs_state.specs.Books.Maps.{IsSafe}
use Rattle.nofs_state.specs.Cores.Invariant.{IsOpen, Past}
use Rattle.nofs_state.specs.Books.Verdicts.{OffersVerdict, StaysSo, LearnsIt}
use Rattle.nofs_state.specs.declared.books.maps.Books.{Books}
use Rattle.nofs_state.proofs.OnBooks.Machine.{are-agreed}
use Rattle.nofs_state.proofs.OnCores.Sees.{machine-block, machine-inode, seen-causes}
use Rattle.nofs_scan.specs.Steps.Elements.{HasElement, IsRight, MayLearn, is_used, learned, least_free, see_step}
use Rattle.nofs_scan.specs.Steps.Elements.{verdict_of}
use Rattle.nofs_scan.specs.Steps.Commits.{Commits, WasOpen}
use Rattle.nofs_scan.specs.declared.sights.evidence.Verdict.{Verdict}
use Rattle.nofs_scan.proofs.OnSteps.Elements.{IsElement, block-element, inode-element}

-- what is not known now had the same verdict then
unchanged : (d : DiskState) (k now : Books) (H : List Entry1) (p : Past) → IsOpen d now H p
    → (early : DiskState) (w : WasOpen early k now H p)
    → IsUnchanged w.past.world p.world
unchanged d k now H p o early w =
    let base : Image = w.past.base in
    let to : ℕ = w.past.first in
    let whole : Run k.history.start (world_of base to) (w.before ++ w.after) p.world =
    subst (λ (n : ℕ). Run n (world_of base to) (w.before ++ w.after) p.world) (sym w.start)
    (subst (λ (L : List Entry1). Run now.history.start (world_of base to) L p.world) w.whole
    (subst (λ (n : ℕ). Run now.history.start (world_of base n) H p.world) w.mount.first
    (subst (λ (X : Image). Run now.history.start (world_of X p.first) H p.world) w.mount.base o.run.run))) in
    law-late w.before w.after k.history.start (world_of base to) w.past.world p.world w.stood.run.run whole

-- a test that is the last of several
last-false : (a b : Bool) → b ≡ false → (a && b) ≡ false
last-false true b e = e
last-false false b e = refl

unset : (u f : Bool) → cond u None (Some f) ≡ None → not u ≡ false
unset true f e = refl
unset false f e = cc

-- the scan's verdict then is the scan's now
pub still-right : (early : DiskState) (k : Books) (d : DiskState) (now : Books) (kind : ElementKind) (v : Verdict)
    (used : Bool) → IsSafe early k
    → IsRight early k kind v → used ≡ v.used → k.at ≡ now.at
    → (H : List Entry1) (p : Past) → IsOpen d now H p → WasOpen early k now H p
    → verdict_of kind now v.item ≡ None → used ≡ is_used kind d.now v.item
still-right early k d now element.Block v used safe right same numbers H p o w none =
    let b : ℕ = v.item in
    let u = unchanged d k now H p o early w in
    let low : b < now.at.blocks = subst (λ (at : SuperBlock). b < at.blocks) numbers right.range.1 in
    let unknown : p.world.known_blocks b ≡ false = o.says.known_blocks b
    ∙ last-false (ltb b now.at.blocks) (not (is_set now.unknown_blocks b))
    (unset (is_set now.unknown_blocks b) (not (is_set now.free_blocks b)) none) in
    same ∙ right.scan w.tells (are-agreed early k w.before w.past safe w.stood)
    ∙ sym (machine-block early k w.before w.past w.stood b right.range.1)
    ∙ sym (u.1 b unknown) ∙ machine-block d now H p o b low
still-right early k d now element.Inode v used safe right same numbers H p o w none =
    let i : ℕ = v.item in
    let u = unchanged d k now H p o early w in
    let unknown : p.world.known_inodes i ≡ false = o.says.known_inodes i
    ∙ last-false (leb 1 i) (leb i now.at.inodes && not (is_set now.unknown_inodes (i - 1)))
    (last-false (leb i now.at.inodes) (not (is_set now.unknown_inodes (i - 1)))
    (unset (is_set now.unknown_inodes (i - 1)) (not (is_set now.free_inodes (i - 1))) none)) in
    same ∙ right.scan w.tells (are-agreed early k w.before w.past safe w.stood)
    ∙ sym (machine-inode early k w.before w.past w.stood i) ∙ sym (u.0 i unknown)
    ∙ machine-inode d now H p o i

-- an element of a kind
pub element-of : (d : DiskState) (k : Books) (kind : ElementKind) (item : ℕ) → IsDisk d → IsSafe d k
    → k.stopped ≡ false → HasElement kind k.at item
    → IsElement d k (see_step kind item) (verdict_of kind k item) (learned kind k item) (λ X. is_used kind X item)
    (MayLearn kind k item)
element-of d k element.Block item is safe going range = block-element d k is safe going item range.1
element-of d k element.Inode item is safe going range =
    inode-element d k is safe going (MayLearn element.Inode k item) item range.0 (let high =
    range.1 in omega (arith, high))

module _ (early : DiskState) (before : Books) (d : DiskState) (k : Books) (kind : ElementKind) (v : Verdict)
    (used : Bool) (is : IsDisk d)
    (safe_before : IsSafe early before) (safe : IsSafe d k) (going : k.stopped ≡ false)
    (right : IsRight early before kind v) (same : used ≡ v.used)
    (numbers : before.at ≡ k.at) where
  pub range-now : HasElement kind k.at v.item
  range-now = subst (λ (at : SuperBlock). HasElement kind at v.item) numbers right.range

  may-now : MayLearn kind k v.item used
  may-now e = subst (λ (at : SuperBlock). least_free kind at ≤ v.item) numbers (right.may (sym same ∙ e))

  here : IsElement d k (see_step kind v.item) (verdict_of kind k v.item) (learned kind k v.item)
      (λ X. is_used kind X v.item) (MayLearn kind k v.item)
  here = element-of d k kind v.item is safe going range-now

  pub commits : (l : Books) (result : Bool)
      → OffersVerdict k l (verdict_of kind k v.item) (learned kind k v.item) used result
      → Commits early before d k l kind v.item used result
  commits l result (StaysSo stood e) =
      subst (λ (m : Books). Commits early before d k m kind v.item used result) (sym e) (record {
        settles = StaysSo stood refl;
        cause = seen-causes d d k k result (KeepsCells-refl d) refl going going;
        safe = safe;
        at = refl;
        history = refl;
        right = λ tells H p o w. here.stands result stood H p o;
        from_open = λ tells caller H p o w. here.by_stood d result (StaysButFaults-refl d) stood tells caller H p o;
      })
  commits l result (LearnsIt none e r) =
      subst₂ (λ (m : Books) (b : Bool). Commits early before d k m kind v.item used b) (sym e) (sym r) (record {
        settles = LearnsIt none refl refl;
        cause = seen-causes d d k (learned kind k v.item used) used (KeepsCells-refl d) refl going
            (here.stopped used ∙ going);
        safe = here.safe d used (StaysButFaults-refl d) may-now;
        at = here.at used;
        history = here.history used;
        right = λ tells H p o w. still-right early before d k kind v used safe_before right same numbers H p o w none;
        from_open = λ tells caller H p o w. here.by_learned d used (StaysButFaults-refl d) tells caller H p o
            (still-right early before d k kind v used safe_before right same numbers H p o w none);
      })
