-- What is not known at the end of a run has one verdict all along.
use Rattle.std.proofs.Common.{◌≡◌, ◌≢◌, ℕ, Bool, true, false, List, [], ◌∷◌, refl, ap, ◌∙◌, subst}
use Rattle.nofs_history.specs.declared.machine.history.Entry1.{Entry1}
use Rattle.nofs_history.specs.World.{World, uses_inode, uses_block}
use Rattle.nofs_history.specs.Next.{Learns, Next, AfterFault, ByRow, Done, ByRead, ByWrite, Run}
use Rattle.nofs_history.specs.Good.{IsUnchanged}

both-ways : (a b : Bool) → (a ≢ b → ⊥) → a ≡ b
both-ways true true h = refl
both-ways false false h = refl
both-ways true false h = absurd (h (λ e. cc e))
both-ways false true h = absurd (h (λ e. cc e))

learned : (W : World) (e : Entry1) (seen : Bool) (V : World) → Learns W e.step seen V
    → IsUnchanged W V × ((i : ℕ) → V.known_inodes i ≡ false → W.known_inodes i ≡ false)
    × ((p : ℕ) → V.known_blocks p ≡ false → W.known_blocks p ≡ false)
learned W e seen V l = (
  (
    λ i u. both-ways (uses_inode V i) (uses_inode W i) (λ ne. let k = l.inodes_change i ne in cc (k, u)),
    λ p u. both-ways (uses_block V p) (uses_block W p) (λ ne. let k = l.blocks_change p ne in cc (k, u)),
  ),
  (λ i u. back (W.known_inodes i) (V.known_inodes i) (l.inodes_stay i) u),
  (λ p u. back (W.known_blocks p) (V.known_blocks p) (l.blocks_stay p) u),
)
  where
    back : (a b : Bool) → (a ≡ true → b ≡ true) → b ≡ false → a ≡ false
    back true b h e = let k = h refl in cc (k, e)
    back false b h e = refl

one-step : (W : World) (e : Entry1) (V : World) → Next W e V
    → IsUnchanged W V × ((i : ℕ) → V.known_inodes i ≡ false → W.known_inodes i ≡ false)
    × ((p : ℕ) → V.known_blocks p ≡ false → W.known_blocks p ≡ false)
one-step W e V (AfterFault s r c same) = (
  (λ i u. ap (λ (q : World). uses_inode q i) same, λ p u. ap (λ (q : World). uses_block q p) same),
  (λ i u. subst (λ (q : World). q.known_inodes i ≡ false) same u),
  (λ p u. subst (λ (q : World). q.known_blocks p ≡ false) same u),
)
one-step W e V (ByRow why s f r c k st l) = learned W e false V l
one-step W e V (Done s f r c fs hs se vs l) = learned W e true V l
one-step W e V (ByRead s f r c k st l) = learned W e false V l
one-step W e V (ByWrite s f m r c k st l) = learned W e false V l

abbrev pub Carried : World → World → Type 0
Carried W V = IsUnchanged W V × ((i : ℕ) → V.known_inodes i ≡ false → W.known_inodes i ≡ false)
    × ((p : ℕ) → V.known_blocks p ≡ false
    → W.known_blocks p ≡ false)

pub run-unchanged : (es : List Entry1) (start : ℕ) (W V : World) → Run start W es V → Carried W V
run-unchanged [] start W V e = (
  (λ i u. ap (λ (q : World). uses_inode q i) e, λ p u. ap (λ (q : World). uses_block q p) e),
  (λ i u. subst (λ (q : World). q.known_inodes i ≡ false) e u),
  (λ p u. subst (λ (q : World). q.known_blocks p ≡ false) e u),
)
run-unchanged (e ∷ es) start W V r =
    let U = r.0 in
    let one = one-step W e r.0 r.4 in
    let more = run-unchanged es e.to r.0 V r.5 in (
      (λ i u. more.0.0 i u ∙ one.0.0 i (more.1 i u), λ p u. more.0.1 p u ∙ one.0.1 p (more.2 p u)),
      (λ i u. one.1 i (more.1 i u)),
      (λ p u. one.2 p (more.2 p u)),
    )
