-- The memory for entries, and what of it is kept for the sweeps.
use Rattle.std.proofs.Common.{◌≡◌, ℕ, ◌+◌, ◌-◌, ◌^◌, ◌<◌, ◌≤◌, ◌==◌, Bool, true, false, cond, ◌&&◌, ◌||◌, List, length}
use Rattle.std.proofs.Common.{Some, arith, refl, ap, ◌∙◌}
use Rattle.std.proofs.Math.Decide.{dec_lt}
use Rattle.std.proofs.lemmas.List.Sums.{sum_by_push}
use mathlib.Core.Logic.{dite}
use Rattle.nofs_disk.specs.Disk.{DiskState}
use Rattle.nofs_history.specs.declared.machine.callers.TheConstants.{BLOCK_SWEEPER, INODE_SWEEPER}
use Rattle.nofs_history.specs.Steps.{is_out_of_memory}
use Rattle.nofs_history.specs.declared.machine.history.Entry1.{Entry1}
use Rattle.nofs_history.specs.declared.machine.steps.Step.{Step}
use Rattle.nofs_history.specs.declared.machine.steps.Step.TheVariants as step
use Rattle.nofs_history.specs.declared.machine.replies.Reply.{Reply}
use Rattle.nofs_history.specs.declared.machine.replies.Reply.TheVariants as reply
use Rattle.nofs_history.specs.declared.machine.replies.Refusal.TheVariants as refusal
use Rattle.nofs_shared.specs.Acts.Sees.{FindsRoom, TakesKept, is_see, is_of_sweep, sweep_entries}
use Rattle.nofs_shared.specs.Mount.Flushes.{Settles}
use Rattle.nofs_shared.specs.Mount.Entries.{AddsStep}
use Rattle.nofs_shared.proofs.OnPasses.Entries.{adds-one}

pub sweep-sees : (c : ℕ) (s : Step) → is_of_sweep c s ≡ true → is_see s ≡ true
sweep-sees c s e = second ((c == INODE_SWEEPER) || (c == BLOCK_SWEEPER)) (is_see s) e
  where
    second : (a b : Bool) → a && b ≡ true → b ≡ true
    second true b h = h
    second false b h = cc

-- one entry more, and one fewer that is kept
pub few-left : (c : ℕ) (s : Step) (r : Reply) (H K : List Entry1) (left : ℕ) → AddsStep c s r H K
    → length H + left < 2 ^ 62 → length K + left ≤ 2 ^ 62
few-left c s r H K left a few = let one = adds-one c s r H K a in omega (arith, one, few)

-- want of memory settles nothing
pub settles-memory : (s : Step) (d : DiskState) → Settles s (reply.Refused refusal.OutOfMemory) d
settles-memory (step.Flush i g) d = λ e. absurd (cc e)
settles-memory _ d = tt

-- without memory for the entry there is none
pub adds-none : (c : ℕ) (s : Step) (H K : List Entry1) → K ≡ H → AddsStep c s (reply.Refused refusal.OutOfMemory) H K
adds-none c s H K same = record { none = λ e. same; one = λ e. absurd (cc) }

-- what a step takes of the memory that is kept, by what was taken of it and what the step then answered
pub takes-kept : (c : ℕ) (s : Step) (r : Reply) (kept left : ℕ)
    → (is_of_sweep c s ≡ true → 0 < kept → Some left ≡ Some (kept - 1))
    → (is_see s ≡ true → is_out_of_memory r ≡ false)
    → (is_of_sweep c s ≡ false → left ≡ kept) → TakesKept c s r kept left
takes-kept c s r kept left takes sees others = record {
  sweeps = λ e some. (sees (sweep-sees c s e), some-is left (kept - 1) (takes e some));
  others = others;
}
  where
    some-is : (a b : ℕ) → Some a ≡ Some b → a ≡ b
    some-is a b q = cc q

-- what was taken for the sweeps is kept for them or stands in the history
pub taken-left : (c : ℕ) (s : Step) (r : Reply) (H K : List Entry1) (kept left room : ℕ) → AddsStep c s r H K
    → TakesKept c s r kept left → room ≤ kept + sweep_entries H → room ≤ left + sweep_entries K
taken-left c s r H K kept left room a t low = go (is_of_sweep c s) refl (is_out_of_memory r) refl
  where
    grown : (b : Bool) → is_of_sweep c s ≡ b → is_out_of_memory r ≡ false
        → sweep_entries K ≡ sweep_entries H + cond b 1 0
    grown b of more =
        let o = a.one more in
        let same : is_of_sweep o.0.caller o.0.step ≡ is_of_sweep c s = λ i. is_of_sweep (o.2 i) (o.3 i) in
        ap sweep_entries o.1
        ∙ (sum_by_push (λ (e : Entry1). cond (is_of_sweep e.caller e.step) 1 0) H o.0
        ∙ ap (λ (q : Bool). sweep_entries H + cond q 1 0) (same ∙ of))

    go : (b : Bool) → is_of_sweep c s ≡ b → (m : Bool) → is_out_of_memory r ≡ m → room ≤ left + sweep_entries K
    go true of true out =
        let same = ap sweep_entries (a.none out) in
        dite (dec_lt 0 kept) (λ some. absurd (let x = (t.sweeps of some).0 in cc (x, out)))
        (λ none. omega (arith, same, none, low))
    go false of true out =
        let same = ap sweep_entries (a.none out) in let k = t.others of in omega (arith, same, k, low)
    go true of false out =
        let more = grown true of out in
        dite (dec_lt 0 kept) (λ some. let k = (t.sweeps of some).1 in omega (arith, more, k, some, low))
        (λ none. omega (arith, more, none, low))
    go false of false out =
        let more = grown false of out in let k = t.others of in omega (arith, more, k, low)

-- where the entries stay
pub taken-same : (room kept : ℕ) {H : List Entry1} (K : List Entry1) → K ≡ H
    → room ≤ kept + sweep_entries H → room ≤ kept + sweep_entries K
taken-same room kept K same low = let n = ap sweep_entries same in omega (arith, n, low)

-- so a step of a sweep finds room while some of it is kept
pub finds-room : (c : ℕ) (s : Step) (r : Reply) (H : List Entry1) (kept left room : ℕ) → TakesKept c s r kept left
    → room ≤ kept + sweep_entries H → FindsRoom room c s H r
finds-room c s r H kept left room t low = λ of fewer. (t.sweeps of (omega (arith, low, fewer))).0
