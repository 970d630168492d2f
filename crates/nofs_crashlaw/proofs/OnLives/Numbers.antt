-- No generation and no stamp is claimed twice.
use Rattle.nofs_crashlaw.proofs.OnMaps.ClaimParts.{claim-count, claim-stamps, claim-inode, CountsUp}
use Rattle.std.proofs.Common.{◌≡◌, ◌≢◌, ℕ, zero, suc, ◌+◌, ◌*◌, ◌^◌, ◌<◌, ◌≤◌, ◌⊎◌, inl, inr, Bool, true, false, cond}
use Rattle.std.proofs.Common.{eqb, ltb, List, [], ◌∷◌, ◌++◌, length}
use Rattle.std.proofs.Common.{map, get_or, Option, Some, None, Contains, refl, sym, ap, ◌∙◌, subst, arith, append-nil}
use Rattle.std.proofs.Common.{eq-eqb, lt-ltb}
use Rattle.std.proofs.lemmas.Bool.{cases_lt}
use Rattle.std.proofs.lemmas.List.Elements.{Contains-append_cases}
use Rattle.nofs_crashlaw.specs.Maps.Fresh.{needed}
use Rattle.nofs_crashlaw.specs.Lives.{Life, IsLife, SameOrUpgraded, NextLife, Lives, numbers_of, claimed_in, claimed_by}
use Rattle.nofs_crashlaw.specs.Lives.{Rising, LawOnce}
use Rattle.nofs_model.proofs.OnSound.Writes.{supers}
use Rattle.nofs_crashlaw.proofs.OnMaps.Fresh.{sole-is}
use Rattle.nofs_history.specs.declared.machine.steps.Step.{Step}
use Rattle.nofs_history.specs.declared.machine.replies.Refusal.{Refusal}
use Rattle.nofs_history.specs.declared.machine.history.Claims.{Claims}
use Rattle.nofs_history.specs.declared.machine.history.Entry1.{Entry1}
use Rattle.nofs_history.specs.Search.{first_of}
use Rattle.nofs_history.specs.World.{World, inodes_needed, blocks_needed, world_of}
use Rattle.nofs_history.specs.Refusals.{row, rows, serials_spent}
use Rattle.nofs_history.specs.Claims.{no_claims, claimed_blocks, IsClaim, next_stamp}
use Rattle.nofs_history.specs.Next.{Keeps, Next, AfterFault, ByRow, Done, ByRead, ByWrite, Run}
use Rattle.nofs_history.specs.declared.machine.steps.Step.TheVariants as step
use Rattle.nofs_history.specs.declared.machine.replies.Refusal.TheVariants as refusal
use Rattle.nofs_disk.specs.declared.tag.Pointer.{Pointer}
use Rattle.nofs_super.specs.declared.superblock.SuperBlock.{SuperBlock}
use Rattle.nofs_model.specs.Geometry.{Image, super_at}

abbrev pub AllUnder : ℕ → List ℕ → Type 0
AllUnder high [] = Unit {0}
AllUnder high (x ∷ xs) = (x < high) × AllUnder high xs

rising-weaken : (a b : ℕ) (xs : List ℕ) → a ≤ b → Rising b xs → Rising a xs
rising-weaken a b [] le h = tt
rising-weaken a b (x ∷ xs) le h = let l = h.0 in (omega (arith, l, le), h.1)

under-weaken : (a b : ℕ) (xs : List ℕ) → a ≤ b → AllUnder a xs → AllUnder b xs
under-weaken a b [] le h = tt
under-weaken a b (x ∷ xs) le h = let l = h.0 in (omega (arith, l, le), under-weaken a b xs le h.1)

rising-append : (low high : ℕ) (xs ys : List ℕ) → low ≤ high → Rising low xs → AllUnder high xs → Rising high ys
    → Rising low (xs ++ ys)
rising-append low high [] ys le r u h = rising-weaken low high ys le h
rising-append low high (x ∷ xs) ys le r u h = let l = u.0 in
    (r.0, rising-append (suc x) high xs ys (omega (arith, l)) r.1 u.1 h)

under-append : (high : ℕ) (xs ys : List ℕ) → AllUnder high xs → AllUnder high ys → AllUnder high (xs ++ ys)
under-append high [] ys u v = v
under-append high (x ∷ xs) ys u v = (u.0, under-append high xs ys u.1 v)

none-between : (n : ℕ) (xs : List ℕ) → Rising n xs → AllUnder n xs → xs ≡ []
none-between n [] r u = refl
none-between n (x ∷ xs) r u = let a = r.0 in let b = u.0 in absurd (omega (arith, a, b))

-- The numbers of one claim

count-numbers : (s : ℕ) (xs : List Pointer) → CountsUp s xs
    → Rising s (map (λ x. x.stamp) xs) × AllUnder (s + length xs) (map (λ x. x.stamp) xs)
count-numbers s [] c = (tt, tt)
count-numbers s (x ∷ xs) c =
    let e = c.0 in
    let ih = count-numbers (suc s) xs c.1 in
    let r : Rising (suc x.stamp) (map (λ x. x.stamp) xs) =
    rising-weaken (suc x.stamp) (suc s) (map (λ x. x.stamp) xs) (omega (arith, e)) ih.0 in (
      (omega (arith, e), r),
      (
        omega (arith, e),
        under-weaken (suc s + length xs) (s + length (x ∷ xs)) (map (λ x. x.stamp) xs) (omega arith) ih.1,
      ),
    )

claim-numbers : (W : World) (step : Step) (c : Claims) → IsClaim W step c
    → Rising (next_stamp W) (numbers_of c) × AllUnder (next_stamp W + needed W step) (numbers_of c)
claim-numbers W step c claim = go (eqb c.inode 0) refl
  where
    stamps : List ℕ
    stamps = map (λ x. x.stamp) (claimed_blocks c)

    counts : Rising (next_stamp W + inodes_needed step) (map (λ x. x.stamp) (claimed_blocks c)) × AllUnder
        (next_stamp W + inodes_needed step + length (claimed_blocks c)) (map (λ x. x.stamp) (claimed_blocks c))
    counts = count-numbers (next_stamp W + inodes_needed step) (claimed_blocks c) (claim-stamps W step c claim)

    under : AllUnder (next_stamp W + needed W step) (map (λ x. x.stamp) (claimed_blocks c))
    under = let n = (claim-count W step c claim) in
        under-weaken (next_stamp W + inodes_needed step + length (claimed_blocks c))
        (next_stamp W + needed W step) (map (λ x. x.stamp) (claimed_blocks c)) (omega (arith, n)) counts.1

    go : (t : Bool) → eqb c.inode 0 ≡ t
        → Rising (next_stamp W)
        (cond (eqb c.inode 0) [] (c.generation ∷ []) ++ map (λ x. x.stamp) (claimed_blocks c)) × AllUnder
        (next_stamp W + needed W step)
        (cond (eqb c.inode 0) [] (c.generation ∷ []) ++ map (λ x. x.stamp) (claimed_blocks c))
    go true e = rw e (
      rising-weaken (next_stamp W) (next_stamp W + inodes_needed step) (map (λ x. x.stamp) (claimed_blocks c))
          (omega arith) counts.0,
      under,
    )
    go false e =
        let ne : c.inode ≢ 0 = λ z. let t : eqb c.inode 0 ≡ true = eq-eqb c.inode 0 z in cc (e, t) in
        let n = (claim-inode W step c claim ne).3 in
        let g = (claim-inode W step c claim ne).2 in
        rw e (
          (
            omega (arith, g),
            rising-weaken (suc c.generation) (next_stamp W + inodes_needed step) (map (λ x. x.stamp) (claimed_blocks c))
                (omega (arith, g, n)) counts.0,
          ),
          (omega (arith, g, n), under),
        )

-- The row on spent serials

none-in : (xs : List (Option Refusal)) (x : Option Refusal) → Contains xs x → first_of xs ≡ None → x ≡ None
none-in [] x (k, lt, e) n = absurd (omega (arith, lt))
none-in (None ∷ xs) x h n = elim (Contains-append_cases (None ∷ []) xs x h)
    [ inl here ↦ sym (sole-is None x here) | inr there ↦ none-in xs x there n ]
none-in (Some y ∷ xs) x h n = cc n

row-none : (n : ℕ) → row (ltb (2 ^ 40) n) refusal.SerialsSpent ≡ None → n ≤ 2 ^ 40
row-none n e = elim (cases_lt (2 ^ 40) n) [
  | inl lt ↦ absurd (let t : row (ltb (2 ^ 40) n) refusal.SerialsSpent ≡ Some refusal.SerialsSpent =
      rw (lt-ltb (2 ^ 40) n lt) refl in cc (e, t))
  | inr le ↦ le
]

abbrev pub Within : World → Step → Type 0
Within W step = (W.serial + inodes_needed step + blocks_needed W.files step ≤ 2 ^ 40) ⊎ (needed W step ≡ 0)

pub within : (W V : World) (step : Step) → first_of (rows W V step) ≡ None → Within W step
within W V (step.Make d g name kind) e =
    inl (row-none _ (none-in (rows W V (step.Make d g name kind)) (serials_spent W (step.Make d g name kind))
    (7, omega arith, refl) e))
within W V (step.Link d g name i of) e =
    inl (row-none _ (none-in (rows W V (step.Link d g name i of)) (serials_spent W (step.Link d g name i of))
    (9, omega arith, refl) e))
within W V (step.Put i g k at bytes) e =
    inl (row-none _ (none-in (rows W V (step.Put i g k at bytes)) (serials_spent W (step.Put i g k at bytes))
    (7, omega arith, refl) e))
within W V (step.Look d g name) e = inr refl
within W V (step.Drop d g name) e = inr refl
within W V (step.Rename d g old new) e = inr refl
within W V (step.List d g slot) e = inr refl
within W V (step.Get i g k) e = inr refl
within W V (step.Resize i g size) e = inr refl
within W V (step.Stat i g) e = inr refl
within W V (step.Flush i g) e = inr refl
within W V (step.SeeInode i) e = inr refl
within W V (step.SeeBlock p) e = inr refl

in-mount : (W V : World) (step : Step) (c : Claims) → first_of (rows W V step) ≡ None → IsClaim W step c
    → AllUnder ((W.mount + 1) * 2 ^ 40) (numbers_of c)
in-mount W V step c e claim =
    let n = claim-numbers W step c claim in
    elim (within W V step e) [
      | inl le ↦ under-weaken (next_stamp W + needed W step) ((W.mount + 1) * 2 ^ 40) (numbers_of c)
          (omega (arith, le)) n.1
      | inr z ↦
          let none = none-between (next_stamp W) (numbers_of c) n.0
          (under-weaken (next_stamp W + needed W step) (next_stamp W) (numbers_of c) (omega (arith, z)) n.1) in
          subst (λ (xs : List ℕ). AllUnder ((W.mount + 1) * 2 ^ 40) xs) (sym none) tt
    ]

-- One step

record StepNumbers (W : World) (c : Claims) (U : World) : Type 0 where
  rising : Rising (next_stamp W) (numbers_of c)
  under : AllUnder ((W.mount + 1) * 2 ^ 40) (numbers_of c)
  next : (U.stopped ≡ true) ⊎ (AllUnder (next_stamp U) (numbers_of c) × (next_stamp W ≤ next_stamp U))
  mount : U.mount ≡ W.mount
  idle : W.stopped ≡ true → (numbers_of c ≡ []) × (U.stopped ≡ true)

-- a step that claims nothing
idle-numbers : (W : World) (c : Claims) (U : World) → c ≡ no_claims → next_stamp W ≤ next_stamp U
    → U.mount ≡ W.mount → (W.stopped ≡ true → U.stopped ≡ true)
    → StepNumbers W c U
idle-numbers W c U e le m s =
    let n : numbers_of c ≡ [] = ap numbers_of e in
    record {
      rising = subst (λ (xs : List ℕ). Rising (next_stamp W) xs) (sym n) tt;
      under = subst (λ (xs : List ℕ). AllUnder ((W.mount + 1) * 2 ^ 40) xs) (sym n) tt;
      next = inr (subst (λ (xs : List ℕ). AllUnder (next_stamp U) xs) (sym n) tt, le);
      mount = m;
      idle = λ z. (n, s z);
    }

kept-number : (W V : World) → Keeps W V → next_stamp W ≤ next_stamp V
kept-number W V k = let m = k.mount in let s = k.serial in omega (arith, m, s)

step-numbers : (W : World) (e : Entry1) (U : World) → Next W e U → StepNumbers W e.claims U
step-numbers W e U (AfterFault s r c same) =
    idle-numbers W e.claims U c (let q = ap next_stamp same in omega (arith, q)) (ap (λ (q : World). q.mount) same)
    (λ z. ap (λ (q : World). q.stopped) same ∙ z)
step-numbers W e U (ByRow why s rows r c k st l) =
    idle-numbers W e.claims U c (kept-number W U k) k.mount (λ z. cc (s, z))
step-numbers W e U (ByRead s rows r c k st l) = idle-numbers W e.claims U c (kept-number W U k) k.mount (λ z. cc (s, z))
step-numbers W e U (Done s rows r claim fs hs serial vs l) =
    let n = claim-numbers W e.step e.claims claim in
    let m = vs.3 in
    record {
      rising = n.0;
      under = in-mount W U e.step e.claims rows claim;
      next = inr (
        under-weaken (next_stamp W + needed W e.step) (next_stamp U) (numbers_of e.claims)
            (omega (arith, m, serial)) n.1,
        omega (arith, m, serial),
      );
      mount = m;
      idle = λ z. cc (s, z);
    }
step-numbers W e U (ByWrite s rows m r claim k st l) = record {
  rising = (claim-numbers W e.step e.claims claim).0;
  under = in-mount W U e.step e.claims rows claim;
  next = inl st;
  mount = k.mount;
  idle = λ z. cc (s, z);
}

-- A run

stopped-run : (es : List Entry1) (start : ℕ) (W V : World) → Run start W es V → W.stopped ≡ true → claimed_in es ≡ []
stopped-run [] start W V r s = refl
stopped-run (e ∷ es) start W V r s =
    let n = (step-numbers W e r.0 r.4).idle s in
    let rest = stopped-run es e.to r.0 V r.5 n.1 in
    (λ j. n.0 j ++ rest j)

pub run-numbers : (es : List Entry1) (start : ℕ) (W V : World) → Run start W es V
    → Rising (next_stamp W) (claimed_in es) × AllUnder ((W.mount + 1) * 2 ^ 40) (claimed_in es)
run-numbers [] start W V r = (tt, tt)
run-numbers (e ∷ es) start W V r = go (step-numbers W e r.0 r.4) (run-numbers es e.to r.0 V r.5)
  where
    go : StepNumbers W e.claims r.0
        → Rising (next_stamp r.0) (claimed_in es) × AllUnder ((r.0.mount + 1) * 2 ^ 40) (claimed_in es)
        → Rising (next_stamp W) (numbers_of e.claims ++ claimed_in es)
        × AllUnder ((W.mount + 1) * 2 ^ 40) (numbers_of e.claims ++ claimed_in es)
    go n ih = elim n.next [
      | inl st ↦
          let rest = stopped-run es e.to r.0 V r.5 st in
          let whole : numbers_of e.claims ++ claimed_in es ≡ numbers_of e.claims =
          ap (λ (xs : List ℕ). numbers_of e.claims ++ xs) rest ∙ append-nil (numbers_of e.claims) in (
            subst (λ (xs : List ℕ). Rising (next_stamp W) xs) (sym whole) n.rising,
            subst (λ (xs : List ℕ). AllUnder ((W.mount + 1) * 2 ^ 40) xs) (sym whole) n.under,
          )
      | inr u ↦ (
        rising-append (next_stamp W) (next_stamp r.0) (numbers_of e.claims) (claimed_in es) u.1 n.rising u.0 ih.0,
        under-append ((W.mount + 1) * 2 ^ 40) (numbers_of e.claims) (claimed_in es) n.under
            (subst (λ (m : ℕ). AllUnder ((m + 1) * 2 ^ 40) (claimed_in es)) n.mount ih.1),
      )
    ]

-- All lives

base-mount : (B : Image) (first : ℕ) → (world_of B first).mount ≡ (super_at B).mount
unfolding world_of
base-mount B first = refl

life-numbers : (l : Life) → IsLife l → Rising ((super_at l.base).mount * 2 ^ 40) (claimed_in l.history)
    × AllUnder (((super_at l.base).mount + 1) * 2 ^ 40)
    (claimed_in l.history)
life-numbers l run =
    let n = run-numbers l.history l.start (world_of l.base l.first) l.end run in
    let m = base-mount l.base l.first in (
      rising-weaken ((super_at l.base).mount * 2 ^ 40) (next_stamp (world_of l.base l.first)) (claimed_in l.history)
          (omega (arith, m)) n.0,
      subst (λ (q : ℕ). AllUnder ((q + 1) * 2 ^ 40) (claimed_in l.history)) m n.1,
    )

next-mount : (k l : Life) → NextLife k l → (super_at l.base).mount ≡ (super_at k.base).mount + 1
next-mount k l n = n.raised.mount ∙ ap (λ (q : ℕ). q + 1) (found-mount n.left n.found n.between
    ∙ ap (λ (q : SuperBlock). q.mount) (supers k.base n.left n.allowed.versions.super))
  where
    found-mount : (X Y : Image) → SameOrUpgraded X Y → (super_at Y).mount ≡ (super_at X).mount
    found-mount X Y (inl same) = ap (λ (Z : Image). (super_at Z).mount) same
    found-mount X Y (inr up) = up.mount

abbrev top_of : List Life → ℕ
top_of [] = 0
top_of (l ∷ ls) = ((super_at l.base).mount + 1) * 2 ^ 40

lives-numbers : (ls : List Life) → Lives ls → Rising 0 (claimed_by ls) × AllUnder (top_of ls) (claimed_by ls)
lives-numbers [] h = (tt, tt)
lives-numbers (l ∷ []) h =
    let n = life-numbers l h.1 in
    (rising-weaken 0 ((super_at l.base).mount * 2 ^ 40) (claimed_in l.history) (omega arith) n.0, n.1)
lives-numbers (l ∷ k ∷ ls) h =
    let ih = lives-numbers (k ∷ ls) h.2 in
    let n = life-numbers l h.1 in
    let m = next-mount k l h.0 in
    let low : Rising (((super_at k.base).mount + 1) * 2 ^ 40) (claimed_in l.history) =
    subst (λ (q : ℕ). Rising (q * 2 ^ 40) (claimed_in l.history)) m n.0 in (
      rising-append 0 (((super_at k.base).mount + 1) * 2 ^ 40) (claimed_by (k ∷ ls)) (claimed_in l.history)
          (omega arith) ih.0 ih.1 low,
      under-append (((super_at l.base).mount + 1) * 2 ^ 40) (claimed_by (k ∷ ls)) (claimed_in l.history)
          (under-weaken (((super_at k.base).mount + 1) * 2 ^ 40) (((super_at l.base).mount + 1) * 2 ^ 40)
          (claimed_by (k ∷ ls)) (omega (arith, m)) ih.1) n.1,
    )

-- rising numbers differ
above-low : (low : ℕ) (xs : List ℕ) (b d : ℕ) → Rising low xs → b < length xs → low ≤ get_or xs b d
above-low low [] b d r lt = absurd (omega (arith, lt))
above-low low (x ∷ xs) zero d r lt = r.0
above-low low (x ∷ xs) (suc b) d r lt = let ih = above-low (suc x) xs b d r.1 (omega (arith, lt)) in let l = r.0 in
    omega (arith, ih, l)

rising-apart : (low : ℕ) (xs : List ℕ) (a b d : ℕ) → Rising low xs → a < b → b < length xs
    → get_or xs a d < get_or xs b d
rising-apart low [] a b d r ab lt = absurd (omega (arith, lt))
rising-apart low (x ∷ xs) a zero d r ab lt = absurd (omega (arith, ab))
rising-apart low (x ∷ xs) zero (suc b) d r ab lt = above-low (suc x) xs b d r.1 (omega (arith, lt))
rising-apart low (x ∷ xs) (suc a) (suc b) d r ab lt =
    rising-apart (suc x) xs a b d r.1 (omega (arith, ab)) (omega (arith, lt))

pub law-once : LawOnce
law-once ls h =
    let r = (lives-numbers ls h).0 in
    (r, λ a b d ab lt e. let s = rising-apart 0 (claimed_by ls) a b d r ab lt in omega (arith, s, e))
