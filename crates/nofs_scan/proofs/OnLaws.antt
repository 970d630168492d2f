-- What was examined is known from then on, and what is known has the verdict of the scan.
use Rattle.std.proofs.Common.{◌≡◌, ℕ, ◌-◌, Bool, true, false, cond, eqb, ltb, leb, ◌&&◌, not, List, [], ◌∷◌, ◌++◌, Some}
use Rattle.std.proofs.Common.{None, inl, inr, refl, sym, ap, ◌∙◌}
use Rattle.std.proofs.Common.{subst, arith}
use Rattle.std.proofs.lemmas.Bool.Decides.{nat_tests}
use Rattle.nofs_bits.specs.Bits.{is_set}
use Rattle.nofs_disk.specs.Disk.{DiskState, IsDisk}
use Rattle.nofs_history.specs.World.{World, world_of}
use Rattle.nofs_history.specs.Next.{Next, AfterFault, ByRow, Done, ByRead, ByWrite, Run, sees_block, sees_inode}
use Rattle.nofs_history.specs.declared.machine.history.Entry1.{Entry1}
use Rattle.nofs_history.specs.declared.machine.steps.ElementKind.{ElementKind}
use Rattle.nofs_history.specs.declared.machine.steps.ElementKind.TheVariants as element
use Rattle.nofs_history.specs.declared.machine.steps.Step.{Step}
use Rattle.nofs_history.specs.declared.machine.replies.Reply.TheVariants as reply
use Rattle.nofs_racelaw.proofs.Verdicts.{run-unchanged}
use Rattle.nofs_state.specs.Cores.Invariant.{IsOpen, Past}
use Rattle.nofs_state.specs.declared.books.maps.Books.{Books}
use Rattle.nofs_scan.specs.Steps.Elements.{see_step, verdict_of}
use Rattle.nofs_scan.specs.Laws.{IsExamined, LawScanned}
use Rattle.nofs_scan.proofs.OnSteps.Commits.{element-of}

-- a world knows an element
abbrev knows : World → ElementKind → ℕ → Bool
knows W element.Inode i = W.known_inodes i
knows W element.Block p = W.known_blocks p

eqb-same : (n : ℕ) → eqb n n ≡ true
eqb-same n = grind (arith, nat_tests)

-- a See step that was done
known-by : (W V : World) (e : Entry1) (kind : ElementKind) (item : ℕ) (used : Bool) → e.step ≡ see_step kind item
    → e.reply ≡ reply.Seen used → Next W e V
    → knows V kind item ≡ true
known-by W V e kind item used step seen (AfterFault s r c same) = absurd (let z = sym seen ∙ r in cc z)
known-by W V e kind item used step seen (ByRow why s f (inl r) c k st l) = absurd (let z = sym seen ∙ r in cc z)
known-by W V e kind item used step seen (ByRow why s f (inr r) c k st l) = absurd (let z = sym seen ∙ r.0 in cc z)
known-by W V e element.Inode item used step seen (Done s r c fs hs se vs a l) =
    l.inode_seen refl item (ap (λ (t : Step). sees_inode t item) step ∙ eqb-same item)
known-by W V e element.Block item used step seen (Done s r c fs hs se vs a l) =
    l.block_seen refl item (ap (λ (t : Step). sees_block t item) step ∙ eqb-same item)
known-by W V e kind item used step seen (ByRead s f r c k st l) = absurd (let z = sym seen ∙ r in cc z)
known-by W V e kind item used step seen (ByWrite s f m r c k st l) = absurd (let z = sym seen ∙ r in cc z)

-- stays known
known-on : (es : List Entry1) (start : ℕ) (W V : World) → Run start W es V
    → (kind : ElementKind) (item : ℕ) → knows W kind item ≡ true
    → knows V kind item ≡ true
known-on es start W V run element.Inode item known = back (V.known_inodes item) refl
  where
    back : (b : Bool) → V.known_inodes item ≡ b → V.known_inodes item ≡ true
    back true e = e
    back false e = absurd (let z = (run-unchanged es start W V run).1 item e in cc (z, known))
known-on es start W V run element.Block item known = back (V.known_blocks item) refl
  where
    back : (b : Bool) → V.known_blocks item ≡ b → V.known_blocks item ≡ true
    back true e = e
    back false e = absurd (let z = (run-unchanged es start W V run).2 item e in cc (z, known))

known-in : (before after : List Entry1) (e : Entry1) (start : ℕ) (W V : World) → Run start W (before ++ e ∷ after) V
    → (kind : ElementKind) (item : ℕ) (used : Bool) → e.step ≡ see_step kind item → e.reply ≡ reply.Seen used
    → knows V kind item ≡ true
known-in [] after e start W V r kind item used step seen =
    known-on after e.to r.0 V r.5 kind item (known-by W r.0 e kind item used step seen r.4)
known-in (x ∷ xs) after e start W V r kind item used step seen =
    known-in xs after e x.to r.0 V r.5 kind item used step seen

last-true : (a u : Bool) → (a && not u) ≡ true → u ≡ false
last-true true false e = refl
last-true true true e = cc
last-true false u e = cc

stands-if : (u f : Bool) → u ≡ false → cond u None (Some (not f)) ≡ Some (not f)
stands-if false f e = refl
stands-if true f e = cc

-- of what is known a verdict stands
stands-known : (d : DiskState) (k : Books) (H : List Entry1) (p : Past) → IsOpen d k H p
    → (kind : ElementKind) (item : ℕ) → knows p.world kind item ≡ true
    → (used : Bool) × (verdict_of kind k item ≡ Some used)
stands-known d k H p o element.Block b known = (
  not (is_set k.free_blocks b),
  stands-if (is_set k.unknown_blocks b) (is_set k.free_blocks b)
      (last-true (ltb b k.at.blocks) (is_set k.unknown_blocks b) (sym (o.says.known_blocks b) ∙ known)),
)
stands-known d k H p o element.Inode i known = (
  not (is_set k.free_inodes (i - 1)),
  stands-if (is_set k.unknown_inodes (i - 1)) (is_set k.free_inodes (i - 1))
      (last-true (leb i k.at.inodes) (is_set k.unknown_inodes (i - 1))
      (second (leb 1 i) _ (sym (o.says.known_inodes i) ∙ known))),
)
  where
    second : (a b : Bool) → (a && b) ≡ true → b ≡ true
    second true b e = e
    second false b e = cc

pub scanned : (d : DiskState) (k : Books) → IsDisk d → LawScanned d k
scanned d k is safe running H p o all kind item range =
    let x : IsExamined H kind item = all kind item range in
    let run : Run k.history.start (world_of p.base p.first) (x.before ++ x.entry ∷ x.after) p.world =
    subst (λ (L : List Entry1). Run k.history.start (world_of p.base p.first) L p.world) x.whole o.run.run in
    let s = stands-known d k H p o kind item
    (known-in x.before x.after x.entry k.history.start (world_of p.base p.first)
    p.world run kind item x.verdict x.step x.seen) in
    s.1 ∙ ap Some ((element-of d k kind item is safe running range).stands s.0 s.1 H p o)
