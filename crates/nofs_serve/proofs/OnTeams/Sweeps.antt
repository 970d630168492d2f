-- The entries of the sweeps, and the room for them.
use Rattle.std.proofs.Common.{◌≡◌, ℕ, ◌+◌, ◌-◌, ◌≤◌, ◌==◌, Bool, true, false, cond, ◌&&◌, ◌||◌, List, [], ◌∷◌}
use Rattle.std.proofs.Common.{◌++◌, Some, length, map, drop, refl, sym, ap, ◌∙◌, arith}
use Rattle.std.specs.Prelude.{filter}
use Rattle.std.proofs.lemmas.List.{length-map}
use Rattle.std.proofs.lemmas.List.Sums.{sum_by-append, sum_by-cons}
use mathlib.Core.List.{IsPrefix}
use Rattle.nofs_turn.specs.declared.rule.view.View.{View}
use Rattle.nofs_turn.proofs.OnLists.Words.{drop_prefix}
use Rattle.nofs_history.specs.declared.machine.callers.TheConstants.{BLOCK_SWEEPER, INODE_SWEEPER}
use Rattle.nofs_history.specs.Steps.{Made}
use Rattle.nofs_history.specs.declared.machine.history.Entry1.{Entry1}
use Rattle.nofs_history.specs.declared.machine.steps.ElementKind.{ElementKind}
use Rattle.nofs_history.specs.declared.machine.steps.ElementKind.TheVariants.{Inode, Block}
use Rattle.nofs_history.specs.Callers.{done_of, is_by, made_step, steps_by}
use Rattle.nofs_shared.specs.Acts.Sees.{is_of_sweep, is_see, sweep_entries}
use Rattle.nofs_workers.specs.Sweep.{Makes, Sweeps, see_of}
use Rattle.nofs_serve.specs.Teams.Beside.{HasNoRoom, SweepsMade, SweepsServed}

-- a sweep that is told of only where more was done
pub sweeps-told : (Item : ℕ → ℕ → Type 0) (kind : ElementKind) (count : ℕ) (out short : Bool) (new now : List Made)
    → (short ≡ false → out ≡ false) → now ≡ new
    → Sweeps Item kind 0 count out [] new → Sweeps Item kind 0 count short [] now
sweeps-told Item kind count out short new now less is s = record {
  elements = s.elements;
  at_most = s.at_most;
  whole = λ e. s.whole (less e);
  ordered = s.ordered;
  makes = record { made = s.makes.made; more = is ∙ s.makes.more; steps = s.makes.steps };
}

-- one that has as many elements as it should is whole
sweeps-full : (Item : ℕ → ℕ → Type 0) (kind : ElementKind) (count : ℕ) (short : Bool) (now : List Made)
    (s : Sweeps Item kind 0 count short [] now) → length s.elements ≡ count → Sweeps Item kind 0 count false [] now
sweeps-full Item kind count short now s all = record {
  elements = s.elements;
  at_most = s.at_most;
  whole = λ e. all;
  ordered = s.ordered;
  makes = s.makes;
}

-- a step for each element
makes-length : (kind : ElementKind) (elements : List ℕ) (now : List Made) → Makes kind elements [] now
    → length now ≡ length elements
makes-length kind elements now m = ap length m.more
    ∙ (sym (length-map m.made made_step) ∙ (ap length m.steps ∙ length-map elements (see_of kind)))

-- the entries of the sweeps in a history that goes on
pub sweep_entries-append : (H K : List Entry1) → sweep_entries (H ++ K) ≡ sweep_entries H + sweep_entries K
sweep_entries-append H K = sum_by-append (λ (e : Entry1). cond (is_of_sweep e.caller e.step) 1 0) H K

sweep_entries-grow : (H K : List Entry1) → IsPrefix H K → sweep_entries H ≤ sweep_entries K
sweep_entries-grow H K more =
    let n = ap sweep_entries more.1 in let m = sweep_entries-append H more.0 in omega (arith, n, m)

-- they are entries of the two sweepers
sweep_entries-few : (N : List Entry1)
    → sweep_entries N ≤ length (steps_by INODE_SWEEPER N) + length (steps_by BLOCK_SWEEPER N)
sweep_entries-few [] = omega arith
sweep_entries-few (e ∷ N) =
    let rest = sweep_entries-few N in
    let here = sum_by-cons (λ (x : Entry1). cond (is_of_sweep x.caller x.step) 1 0) e N in
    let n = go (e.caller == INODE_SWEEPER) (e.caller == BLOCK_SWEEPER) (is_see e.step) rest in
    omega (arith, here, n)
  where
    go : (a b s : Bool)
        → sweep_entries N ≤ length (steps_by INODE_SWEEPER N) + length (steps_by BLOCK_SWEEPER N)
        → cond ((a || b) && s) 1 0 + sweep_entries N
        ≤ length (map done_of (cond a (e ∷ filter (is_by INODE_SWEEPER) N) (filter (is_by INODE_SWEEPER) N)))
        + length (map done_of (cond b (e ∷ filter (is_by BLOCK_SWEEPER) N) (filter (is_by BLOCK_SWEEPER) N)))
    go true true true low = omega (arith, low)
    go true true false low = omega (arith, low)
    go true false true low = omega (arith, low)
    go true false false low = omega (arith, low)
    go false true true low = omega (arith, low)
    go false true false low = omega (arith, low)
    go false false s low = omega (arith, low)

module _ {F : Type 0} (room : F → ℕ) where
  -- a pass that has seen more has no room either
  pub has-no-room : (v u : View Entry1 F) → HasNoRoom room v → u.fixed ≡ v.fixed → IsPrefix v.seen u.seen
      → HasNoRoom room u
  has-no-room v u lacks same more =
      let (f, is, low) = lacks in
      let n = sweep_entries-grow v.seen u.seen more in (f, same ∙ is, omega (arith, low, n))

  -- nor has the history
  pub no-room-left : (u : View Entry1 F) (f : F) (K : List Entry1) → HasNoRoom room u → u.fixed ≡ Some f
      → IsPrefix u.seen K → room f ≤ sweep_entries K
  no-room-left u f K lacks fixed more =
      let (x, is, low) = lacks in
      let n = sweep_entries-grow u.seen K more in
      let same = ap room (some-is x f (sym is ∙ fixed)) in omega (arith, low, n, same)
    where
      some-is : (a b : F) → Some a ≡ Some b → a ≡ b
      some-is a b q = cc q

-- where room was taken for all entries of the sweeps, they are whole
pub sweeps-served : (room inodes blocks : ℕ) (short : Bool) (H K : List Entry1) → IsPrefix H K
    → SweepsMade inodes blocks short (λ c. steps_by c (drop (length H) K))
    → (short ≡ true → room ≤ sweep_entries K) → SweepsServed room inodes blocks H K
sweeps-served room inodes blocks short H K more s none enough =
    let full = both short refl in
    record {
      inodes_seen = sweeps-full _ Inode inodes short _ s.inodes_seen full.0;
      blocks_seen = sweeps-full _ Block blocks short _ s.blocks_seen full.1;
    }
  where
    both : (b : Bool) → short ≡ b
        → (length s.inodes_seen.elements ≡ inodes) × (length s.blocks_seen.elements ≡ blocks)
    both false e = (s.inodes_seen.whole e, s.blocks_seen.whole e)
    both true e =
        let N = drop (length H) K in
        let low = none e in
        let all = sym (ap sweep_entries more.1) ∙ sweep_entries-append H more.0 in
        let new = ap sweep_entries (drop_prefix H K more) in
        let few = sweep_entries-few N in
        let i = makes-length Inode s.inodes_seen.elements (steps_by INODE_SWEEPER N) s.inodes_seen.makes in
        let b = makes-length Block s.blocks_seen.elements (steps_by BLOCK_SWEEPER N) s.blocks_seen.makes in
        let i_most = s.inodes_seen.at_most in
        let b_most = s.blocks_seen.at_most in (
          omega (arith, low, all, new, few, i, b, i_most, b_most, enough),
          omega (arith, low, all, new, few, i, b, i_most, b_most, enough),
        )
