-- What a pass knows after a batch was looked at, or a verdict committed.
use Rattle.std.proofs.Common.{◌≡◌, ℕ, ◌+◌, ◌<◌, ◌≤◌, Bool, true, false, ◌&&◌, List, ◌++◌, length, drop, Some, refl, sym}
use Rattle.std.proofs.Common.{ap, ◌∙◌, subst, arith}
use Rattle.std.proofs.Math.Decide.{dec_lt}
use mathlib.Core.Logic.{dite}
use Rattle.std.proofs.Common.{append-nil, le_refl}
use Rattle.std.specs.Prelude.{Result, Ok, Err, IfOk}
use Rattle.std.proofs.lemmas.List.{drop_all}
use mathlib.Core.List.{IsPrefix}
use Rattle.nofs_turn.specs.declared.rule.view.View.{View}
use Rattle.nofs_turn.specs.Lists.{numbered}
use Rattle.nofs_turn.specs.Passes.{MayRun, Ran}
use Rattle.nofs_turn.specs.Rule.Views.{looked}
use Rattle.nofs_turn.proofs.OnLists.Words.{prefix_self, prefix_trans}
use Rattle.nofs_history.specs.Steps.{is_out_of_memory}
use Rattle.nofs_history.specs.declared.machine.history.Entry1.{Entry1}
use Rattle.nofs_history.specs.declared.machine.steps.ElementKind.{ElementKind}
use Rattle.nofs_history.specs.declared.machine.steps.ElementKind.TheVariants as element
use Rattle.nofs_history.specs.declared.machine.steps.Step.{Step}
use Rattle.nofs_history.specs.declared.machine.replies.Reply.{Reply}
use Rattle.nofs_scan.specs.Steps.Elements.{see_step}
use Rattle.nofs_workers.specs.Sweep.{see_of}
use Rattle.nofs_shared.specs.Mount.Commits.{CommitRan}
use Rattle.nofs_shared.specs.Acts.Sees.{FindsRoom, is_see, is_sweeper, sweep_entries}
use Rattle.nofs_shared.specs.Passes.Entries.{TellsStep}
use Rattle.nofs_shared.specs.Passes.Rooms.{LacksRoom}
use Rattle.nofs_shared.specs.Passes.Seats.{SameSeat}
use Rattle.nofs_shared.proofs.OnPasses.Entries.{ran-less}

module _ {F Out : Type 0} (tells : F → List Entry1 → List Entry1 → Out → Type 0) (v w : View Entry1 F) (out : Out)
    (h : Ran tells v w out) where
  -- the seat stays
  pub seat-stays : SameSeat v w
  seat-stays = record {
    fixed = ap (λ (u : View Entry1 F). u.fixed) h.now;
    start = ap (λ (u : View Entry1 F). u.start) h.now;
    seats = ap (λ (u : View Entry1 F). u.seats) h.now;
    stands = ap (λ (u : View Entry1 F). u.stands) h.now;
    seen = subst (λ l. IsPrefix v.seen l) (sym (ap (λ (u : View Entry1 F). u.seen) h.now))
        (prefix_trans v.seen h.before h.after h.begins h.keeps);
  }

  -- it looked at the turn
  pub looks-more : v.looks < w.looks
  looks-more = subst (λ (n : ℕ). v.looks < n) (sym (ap (λ (u : View Entry1 F). u.looks) h.now)) h.looked_more

  -- nothing was added
  pub mine-stays : h.after ≡ h.before → w.mine ≡ v.mine
  mine-stays same = ap (λ (u : View Entry1 F). u.mine) h.now
      ∙ ap (λ (l : List Entry1). v.mine ++ numbered (length h.before) (drop (length h.before) l)) same
      ∙ ap (λ (l : List Entry1). v.mine ++ numbered (length h.before) l)
      (drop_all (length h.before) h.before (le_refl (length h.before)))
      ∙ append-nil v.mine

  -- what is known of the list that was left
  pub knows-left : (P : F → List Entry1 → Type 0) → P h.part h.after → MayRun P w
  knows-left P p f e =
      let same : Some f ≡ Some h.part = sym e ∙ ap (λ (u : View Entry1 F). u.fixed) h.now ∙ h.same_part in
      subst (λ (l : List Entry1). P f l) (sym (ap (λ (u : View Entry1 F). u.seen) h.now))
      (subst (λ (x : F). P x h.after) (sym (some-is f h.part same)) p)
    where
      some-is : (a b : F) → Some a ≡ Some b → a ≡ b
      some-is a b q = cc q

-- a look leaves the seat
pub seat-looked : {F : Type 0} (v w : View Entry1 F) (n : ℕ) → w ≡ looked v n → SameSeat v w
seat-looked v w n e = subst (SameSeat v) (sym e)
    (record { fixed = refl; start = refl; seats = refl; stands = refl; seen = prefix_self v.seen })

-- what stays with each entry is known on
pub knows-on : {F : Type 0} (P : F → List Entry1 → Type 0)
    (more : (f : F) (xs ys : List Entry1) → P f xs → P f (xs ++ ys)) (v w : View Entry1 F)
    → SameSeat v w → MayRun P v → MayRun P w
knows-on P more v w same may f e =
    subst (λ (l : List Entry1). P f l) same.seen.1 (more f v.seen same.seen.0 (may f (sym same.fixed ∙ e)))

-- what a look gave, as the pass knows it
pub knows-looked : {F A B : Type 0} (tells : F → List Entry1 → List Entry1 → Result A B → Type 0)
    (P : A → F → List Entry1 → Type 0) (v w : View Entry1 F)
    (r : Result A B) (h : Ran tells v w r) → IfOk r (λ e. P e h.part h.after) → IfOk r (λ e. MayRun (P e) w)
knows-looked tells P v w (Ok e) h p = knows-left tells v w (Ok e) h (P e) p
knows-looked tells P v w (Err x) h p = tt

-- where a step on an element found no memory, the pass lacks room for those of the sweeps
pub step-lacks : {F : Type 0} {Done : F → List Entry1 → List Entry1 → Reply → Type 0} (room : F → ℕ) (caller : ℕ)
    (s : Step) (v w : View Entry1 F) (r : Reply)
    → Ran (λ f xs ys q. (TellsStep caller s xs ys q × FindsRoom (room f) caller s xs q) × Done f xs ys q) v w r
    → is_see s ≡ true → is_out_of_memory r ≡ true → LacksRoom room caller w
step-lacks {F = F} room caller s v w r h see out sweeper =
    let same : w.seen ≡ h.before = ap (λ (u : View Entry1 F). u.seen) h.now ∙ h.told.0.0.adds.none out in (
      h.part,
      ap (λ (u : View Entry1 F). u.fixed) h.now ∙ h.same_part,
      subst (λ (H : List Entry1). room h.part ≤ sweep_entries H) (sym same)
          (dite (dec_lt (sweep_entries h.before) (room h.part))
          (λ fewer. absurd (let found = h.told.0.1 (both-true (is_sweeper caller) (is_see s) sweeper see) fewer in
          cc (found, out)))
          (λ not. omega (arith, not))),
    )
  where
    both-true : (a b : Bool) → a ≡ true → b ≡ true → a && b ≡ true
    both-true true b e q = q
    both-true false b e q = e

-- what a commit tells: its step with the room for it, and what it says of the list that it met
module _ {F : Type 0} {Done : F → List Entry1 → List Entry1 → Reply → Type 0}
    (commits : F → List Entry1 → Reply → Type 0) (room : F → ℕ) (caller : ℕ) (s : Step)
    (v w : View Entry1 F) (r : Reply)
    (h : Ran (λ f xs ys q. (TellsStep caller s xs ys q × commits f xs q × FindsRoom (room f) caller s xs q)
    × Done f xs ys q) v w r) where
  pub commit-step :
      Ran (λ f xs ys q. (TellsStep caller s xs ys q × FindsRoom (room f) caller s xs q) × Done f xs ys q) v w r
  commit-step = ran-less _
      (λ f xs ys q. (TellsStep caller s xs ys q × FindsRoom (room f) caller s xs q) × Done f xs ys q)
      (λ f xs ys q t. ((t.0.0, t.0.2), t.1)) h

  pub commit-ran : CommitRan commits v w r
  commit-ran = record {
    part = h.part;
    before = h.before;
    fixed = h.same_part;
    begins = h.begins;
    keeps = subst (λ (l : List Entry1). IsPrefix h.before l) (sym (ap (λ (u : View Entry1 F). u.seen) h.now)) h.keeps;
    at_most_one = subst (λ (l : List Entry1). length l ≤ length h.before + 1)
        (sym (ap (λ (u : View Entry1 F). u.seen) h.now)) h.at_most_one;
    says = h.told.0.1;
  }

-- the step that examines an element is one, whether a sweeper makes it or a scan
pub same-see : (kind : ElementKind) (item : ℕ) → see_step kind item ≡ see_of kind item
same-see element.Inode item = refl
same-see element.Block item = refl
