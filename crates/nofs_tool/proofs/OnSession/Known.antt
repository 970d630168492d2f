-- Each element that the sweeps of a session have examined is known to the machine at its end.
use Rattle.std.proofs.Common.{◌≡◌, ◌⊎◌, inl, inr, ℕ, zero, suc, ◌-◌, ◌<◌, ◌≤◌, Bool, true, false, ◌||◌, List, [], ◌∷◌}
use Rattle.std.proofs.Common.{◌++◌, length, get_or, map, Some}
use Rattle.std.proofs.Common.{if◌then◌else◌, cond, ne_eqb, refl, sym, ap, ◌∙◌, subst, arith}
use Rattle.std.specs.Prelude.{filter, nat_lt, nat_le, ◌==◌}
use Rattle.std.proofs.lemmas.Bool.{eq-eqb, le-ltb, lt-leb}
use Rattle.nofs_history.specs.declared.machine.callers.TheConstants.{BLOCK_SWEEPER, INODE_SWEEPER}
use Rattle.nofs_history.specs.Search.{first_of}
use Rattle.nofs_history.specs.World.{World}
use Rattle.nofs_history.specs.Refusals.{row, rows}
use Rattle.nofs_history.specs.Next.{Next, AfterFault, ByRow, Done, ByRead, ByWrite, Run, sees_block, sees_inode}
use Rattle.nofs_history.specs.Steps.{is_out_of_memory}
use Rattle.nofs_history.specs.declared.machine.history.Entry1.{Entry1}
use Rattle.nofs_history.specs.declared.machine.steps.Step.{Step}
use Rattle.nofs_history.specs.declared.machine.steps.Step.TheVariants as step
use Rattle.nofs_history.specs.declared.machine.steps.ElementKind.TheVariants.{Inode, Block}
use Rattle.nofs_history.specs.declared.machine.replies.Reply.{Reply}
use Rattle.nofs_history.specs.declared.machine.replies.Refusal.{Refusal}
use Rattle.nofs_history.specs.declared.machine.replies.Refusal.TheVariants as refusal
use Rattle.nofs_history.specs.Callers.{done_of, is_by, steps_by, made_step}
use Rattle.nofs_history.specs.Faults.{is_fault, has_fault}
use Rattle.nofs_shared.specs.Mount.Entries.{AddsStep}
use Rattle.nofs_workers.specs.Sweep.{Sweeps, see_of}

-- from W to V the mount was not stopped, nothing known was forgotten, and what these steps examine is known
pub record GoesOn (W : World) (has : Step → Type 0) (V : World) : Type 0 where
  pub going : V.stopped ≡ false
  pub inodes : V.inodes ≡ W.inodes
  pub blocks : V.blocks ≡ W.blocks
  pub keeps_inodes : (i : ℕ) → W.known_inodes i ≡ true → V.known_inodes i ≡ true
  pub keeps_blocks : (p : ℕ) → W.known_blocks p ≡ true → V.known_blocks p ≡ true
  pub sees_inodes : (i : ℕ) → has (step.SeeInode i) → 1 ≤ i → i ≤ W.inodes → V.known_inodes i ≡ true
  pub sees_blocks : (p : ℕ) → has (step.SeeBlock p) → p < W.blocks → V.known_blocks p ≡ true

no-row : (test : Bool) (x why : Refusal) → test ≡ false → first_of (row test x ∷ []) ≡ Some why → ⊥
no-row true x why e f = cc e
no-row false x why e f = cc f

inode-in : (i n : ℕ) → 1 ≤ i → i ≤ n → ((i == 0) || nat_lt n i) ≡ false
inode-in i n low high = rw (ne_eqb i 0 (λ e. absurd (omega (arith, low, e))), le-ltb n i high)

block-in : (p n : ℕ) → p < n → nat_le n p ≡ false
block-in p n low = lt-leb n p low

-- one step
next-goes : (W : World) (e : Entry1) (V : World) → Next W e V
    → W.stopped ≡ false → is_fault e.reply ≡ false → GoesOn W (λ s. e.step ≡ s) V
next-goes W e V (AfterFault s r c same) going ok = absurd (cc (s, going))
next-goes W e V (ByRow why s f r c k st l) going ok = record {
  going = st;
  inodes = k.inodes;
  blocks = k.blocks;
  keeps_inodes = l.inodes_stay;
  keeps_blocks = l.blocks_stay;
  sees_inodes = λ i is low high.
      absurd (no-row ((i == 0) || nat_lt W.inodes i) refusal.BadRange why (inode-in i W.inodes low high)
      (subst (λ (s : Step). first_of (rows W V s) ≡ Some why) is f));
  sees_blocks = λ p is low. absurd (no-row (nat_le W.blocks p) refusal.BadRange why (block-in p W.blocks low)
      (subst (λ (s : Step). first_of (rows W V s) ≡ Some why) is f));
}
next-goes W e V (Done s f r c fs hs se vs l) going ok = record {
  going = vs.4;
  inodes = vs.2;
  blocks = vs.1;
  keeps_inodes = l.inodes_stay;
  keeps_blocks = l.blocks_stay;
  sees_inodes =
      λ i is low high. l.inode_seen refl i (subst (λ (s : Step). sees_inode s i ≡ true) (sym is) (eq-eqb i i refl));
  sees_blocks =
      λ p is low. l.block_seen refl p (subst (λ (s : Step). sees_block s p ≡ true) (sym is) (eq-eqb p p refl));
}
next-goes W e V (ByRead s f r c k st l) going ok = absurd (let x = ap is_fault r in cc (x, ok))
next-goes W e V (ByWrite s f m r c k st l) going ok = absurd (let x = ap is_fault r in cc (x, ok))

-- a step that some entry made
abbrev pub HasStep : List Entry1 → Step → Type 0
HasStep [] s = ⊥
HasStep (e ∷ es) s = (e.step ≡ s) ⊎ HasStep es s

pub no-fault : (b c : Bool) → (if b then true else c) ≡ false → (b ≡ false) × (c ≡ false)
no-fault true c e = absurd (cc e)
no-fault false c e = (refl, e)

-- a run in which no call of the device failed
pub run-goes : (es : List Entry1) (start : ℕ) (W V : World) → Run start W es V
    → W.stopped ≡ false → has_fault es ≡ false → GoesOn W (HasStep es) V
run-goes [] start W V same going ok = record {
  going = ap (λ (q : World). q.stopped) same ∙ going;
  inodes = ap (λ (q : World). q.inodes) same;
  blocks = ap (λ (q : World). q.blocks) same;
  keeps_inodes = λ i k. ap (λ (q : World). q.known_inodes i) same ∙ k;
  keeps_blocks = λ p k. ap (λ (q : World). q.known_blocks p) same ∙ k;
  sees_inodes = λ i has low high. absurd has;
  sees_blocks = λ p has low. absurd has;
}
run-goes (e ∷ es) start W V r going ok =
    let none = no-fault (is_fault e.reply) (has_fault es) ok in
    let one = next-goes W e r.0 r.4 going none.0 in
    let more = run-goes es e.to r.0 V r.5 one.going none.1 in
    record {
      going = more.going;
      inodes = more.inodes ∙ one.inodes;
      blocks = more.blocks ∙ one.blocks;
      keeps_inodes = λ i k. more.keeps_inodes i (one.keeps_inodes i k);
      keeps_blocks = λ p k. more.keeps_blocks p (one.keeps_blocks p k);
      sees_inodes = λ i has low high. elim has [
        | inl now ↦ more.keeps_inodes i (one.sees_inodes i now low high)
        | inr later ↦ more.sees_inodes i later low (let n = one.inodes in omega (arith, high, n))
      ];
      sees_blocks = λ p has low. elim has [
        | inl now ↦ more.keeps_blocks p (one.sees_blocks p now low)
        | inr later ↦ more.sees_blocks p later (let n = one.blocks in omega (arith, low, n))
      ];
    }

-- the steps of one caller are steps of the history
by-caller : (c : ℕ) (es : List Entry1) (k : ℕ) (d : Step) → k < length (map made_step (steps_by c es))
    → HasStep es (get_or (map made_step (steps_by c es)) k d)
by-caller c [] k d low = absurd (omega (arith, low))
by-caller c (e ∷ es) k d low = go (λ n here. by-caller c es n d here) (is_by c e) k low
  where
    go : ((n : ℕ) → n < length (map made_step (steps_by c es))
        → HasStep es (get_or (map made_step (steps_by c es)) n d)) → (b : Bool) (n : ℕ)
        → n < length (map made_step (map done_of (cond b (e ∷ filter (is_by c) es) (filter (is_by c) es))))
        → HasStep (e ∷ es)
        (get_or (map made_step (map done_of (cond b (e ∷ filter (is_by c) es) (filter (is_by c) es)))) n d)
    go more true zero low = inl refl
    go more true (suc n) low = inr (more n (omega (arith, low)))
    go more false n low = inr (more n low)

low-map : (f : ℕ → Step) (xs : List ℕ) (k : ℕ) → k < length xs → k < length (map f xs)
low-map f [] k low = absurd (omega (arith, low))
low-map f (x ∷ xs) zero low = omega arith
low-map f (x ∷ xs) (suc k) low = let n = low-map f xs k (omega (arith, low)) in omega (arith, n)

get-map : (f : ℕ → Step) (xs : List ℕ) (k : ℕ) (d : Step) → k < length xs → get_or (map f xs) k d ≡ f (get_or xs k 0)
get-map f [] k d low = absurd (omega (arith, low))
get-map f (x ∷ xs) zero d low = refl
get-map f (x ∷ xs) (suc k) d low = get-map f xs k d (omega (arith, low))

module _ (served : List Entry1) where
  -- these elements were examined by one caller, in order
  in-order : (c : ℕ) (see : ℕ → Step) (elements : List ℕ) (k : ℕ) → map made_step (steps_by c served) ≡ map see elements
      → k < length elements
      → HasStep served (see (get_or elements k 0))
  in-order c see elements k is low =
      let d : Step = step.SeeInode 0 in
      let here : k < length (map made_step (steps_by c served)) =
      subst (λ (l : List Step). k < length l) (sym is) (low-map see elements k low) in
      subst (HasStep served) (ap (λ (l : List Step). get_or l k d) is ∙ get-map see elements k d low)
      (by-caller c served k d here)

  pub inodes-seen : (inodes i : ℕ)
      → Sweeps (λ place item. item ≡ place) Inode 0 inodes false [] (steps_by INODE_SWEEPER served) → 1 ≤ i → i ≤ inodes
      → HasStep served (step.SeeInode i)
  inodes-seen inodes i s low high =
      let whole = s.whole refl in
      let here : i - 1 < length s.elements = omega (arith, whole, low, high) in
      let (item, place, is) = s.ordered (i - 1) here in
      let same : get_or s.elements (i - 1) 0 ≡ i = omega (arith, place, is, low) in
      subst (λ (n : ℕ). HasStep served (step.SeeInode n)) same
      (in-order INODE_SWEEPER (see_of Inode) s.elements (i - 1) (ap (map made_step) s.makes.more ∙ s.makes.steps) here)

  pub blocks-seen : (blocks p : ℕ)
      → Sweeps (λ place item. item ≡ blocks - 1 - place) Block 0 blocks false [] (steps_by BLOCK_SWEEPER served)
      → p < blocks → HasStep served (step.SeeBlock p)
  blocks-seen blocks p s low =
      let whole = s.whole refl in
      let here : blocks - 1 - p < length s.elements = omega (arith, whole, low) in
      let (item, place, is) = s.ordered (blocks - 1 - p) here in
      let same : get_or s.elements (blocks - 1 - p) 0 ≡ p = omega (arith, place, is, low) in
      subst (λ (n : ℕ). HasStep served (step.SeeBlock n)) same
      (in-order BLOCK_SWEEPER (see_of Block) s.elements (blocks - 1 - p)
      (ap (map made_step) s.makes.more ∙ s.makes.steps) here)

-- one more entry
pub has-more : (es fs : List Entry1) (s : Step) → HasStep es s → HasStep (es ++ fs) s
has-more [] fs s has = absurd has
has-more (e ∷ es) fs s (inl now) = inl now
has-more (e ∷ es) fs s (inr later) = inr (has-more es fs s later)

pub has-added : (caller : ℕ) (t s : Step) (r : Reply) (H K : List Entry1) → AddsStep caller t r H K
    → HasStep H s → HasStep K s
has-added caller t s r H K a has = go (is_out_of_memory r) refl
  where
    go : (b : Bool) → is_out_of_memory r ≡ b → HasStep K s
    go true e = subst (λ (l : List Entry1). HasStep l s) (sym (a.none e)) has
    go false e =
        let (x, whole, caller_is, step_is, reply_is) = a.one e in
        subst (λ (l : List Entry1). HasStep l s) (sym whole) (has-more H (x ∷ []) s has)
