-- The entries of a move in a history are one of which the laws of paths speak.
use Rattle.std.proofs.Common.{◌≡◌, ◌≢◌, ℕ, zero, suc, ◌+◌, ◌-◌, ◌<◌, ◌≤◌, inl, inr, Bool, true, false, eqb, List, []}
use Rattle.std.proofs.Common.{◌∷◌, ◌++◌, length, Some, refl, sym, ap, ◌∙◌, subst, arith, eqb-true, eq-eqb}
use Rattle.std.specs.Prelude.{slice_get}
use Rattle.std.proofs.lemmas.Bool.{cases_lt}
use Rattle.std.proofs.lemmas.Option.{slice_get_within}
use Rattle.nofs_model.specs.Geometry.{Image}
use Rattle.nofs_history.specs.Steps.{Made}
use Rattle.nofs_history.specs.declared.machine.history.Entry1.{Entry1}
use Rattle.nofs_history.specs.Callers.{done_of, steps_by}
use Rattle.nofs_client.specs.declared.task.commands.Command.{Command}
use Rattle.nofs_crashlaw.proofs.OnRuns.Chains.{SaneRun, moment-at}
use Rattle.nofs_move.specs.Own.{own_place, RunBy, place_in, end_in}
use Rattle.nofs_move.proofs.Own.{OwnEntry, own-entry, OwnStep, own-step, own-rises}
use Rattle.nofs_move.proofs.Stages.{Told, AllTold}
use Rattle.nofs_move.proofs.Replies.{told-entry}

-- An item of a list in the middle of another

behind : (xs ys : List Made) (k : ℕ) → slice_get (xs ++ ys) (length xs + k) ≡ slice_get ys k
behind [] ys k = let e : 0 + k ≡ k = omega arith in ap (slice_get ys) e
behind (x ∷ xs) ys k = let e : length (x ∷ xs) + k ≡ suc (length xs + k) = omega arith in
    ap (slice_get (x ∷ xs ++ ys)) e ∙ behind xs ys k

before : (xs ys : List Made) (k : ℕ) → k < length xs → slice_get (xs ++ ys) k ≡ slice_get xs k
before [] ys k lt = absurd (omega (arith, lt))
before (x ∷ xs) ys zero lt = refl
before (x ∷ xs) ys (suc k) lt = before xs ys k (omega (arith, lt))

module _ (c : ℕ) (moves : Command) (made : List Made) (H : List Entry1) (run : RunBy c moves made H) where
  middle : (k : ℕ) → k < length made → slice_get (steps_by c H) (length run.front + k) ≡ slice_get made k
  middle k lt = ap (λ l. slice_get l (length run.front + k)) run.among ∙ behind run.front (made ++ run.back) k
      ∙ before made run.back k lt

  -- the entry of step number k of the run
  pub own : (k : ℕ) (m : Made) → slice_get made k ≡ Some m → OwnEntry c H (length run.front + k) m
  own k m h = own-entry c H (length run.front + k) m (middle k (slice_get_within made k m h) ∙ h)

  inside : (k : ℕ) (m : Made) → slice_get made k ≡ Some m → length run.front + k < length (steps_by c H)
  inside k m h = slice_get_within (steps_by c H) (length run.front + k) m (middle k (slice_get_within made k m h) ∙ h)

  -- the places of the steps rise
  pub rises : (j k : ℕ) (m : Made) → slice_get made k ≡ Some m
      → j < k → place_in c moves made H run j < place_in c moves made H run k
  rises j k m h lt = own-rises c H (length run.front + j) (length run.front + k) (omega (arith, lt)) (inside k m h)

  -- the last step, where there is any
  last-made : (k : ℕ) (m : Made) → slice_get made k ≡ Some m → (x : Made) × (slice_get made (length made - 1) ≡ Some x)
  last-made k m h = get made (length made - 1) (let w = slice_get_within made k m h in omega (arith, w))
    where
      get : (xs : List Made) (n : ℕ) → n < length xs → (x : Made) × (slice_get xs n ≡ Some x)
      get [] n lt = absurd (omega (arith, lt))
      get (x ∷ xs) zero lt = (x, refl)
      get (x ∷ xs) (suc n) lt = get xs n (omega (arith, lt))

  pub by-end : (k : ℕ) (m : Made) → slice_get made k ≡ Some m
      → place_in c moves made H run k ≤ end_in c moves made H run
  by-end k m h = go (eqb k (length made - 1)) refl
    where
      go : (b : Bool) → eqb k (length made - 1) ≡ b → place_in c moves made H run k ≤ end_in c moves made H run
      go true q = let e : place_in c moves made H run k ≡ end_in c moves made H run =
          ap (place_in c moves made H run) (eqb-true k (length made - 1) q) in omega (arith, e)
      go false q =
          let apart : k ≢ length made - 1 = λ e. let z = eq-eqb k (length made - 1) e in cc (q, z) in
          let within = slice_get_within made k m h in
          let l = last-made k m h in
          let r = rises k (length made - 1) l.0 l.1 (omega (arith, apart, within)) in
          omega (arith, r)

  -- an entry of the caller between two of the run's is one of the run's
  pub record Between (low : ℕ) (p : ℕ) (e : Entry1) : Type 0 where
    pub number : ℕ
    pub above : low < number
    pub place : place_in c moves made H run number ≡ p
    pub there : slice_get made number ≡ Some (done_of e)

  pub between : (low p : ℕ) (m : Made) (e : Entry1) → slice_get made low ≡ Some m
      → place_in c moves made H run low < p → p ≤ end_in c moves made H run
      → slice_get H p ≡ Some e → e.caller ≡ c → Between low p e
  between low p m e at above by there mine = go (own-step c H p e there mine)
    where
      go : OwnStep c H p e → Between low p e
      go o =
          let end = last-made low m at in
          let is = o.place in
          let count = slice_get_within made low m at in
          let high : length run.front + low < o.number = elim (cases_lt (length run.front + low) o.number) [
            | inl lt ↦ lt
            | inr le ↦
                absurd (under (o.number) (length run.front + low) le (inside low m at) (omega (arith, is, above)))
          ] in
          let low' : o.number ≤ length run.front + (length made - 1) =
          elim (cases_lt (length run.front + (length made - 1)) o.number) [
            | inr le ↦ le
            | inl lt ↦ absurd (let r = own-rises c H (length run.front + (length made - 1)) o.number lt
                (slice_get_within (steps_by c H) o.number (done_of e) o.there) in omega (arith, r, is, by))
          ] in
          let same : length run.front + (o.number - length run.front) ≡ o.number = omega (arith, high) in
          record {
            number = o.number - length run.front;
            above = omega (arith, high);
            place = ap (own_place c H) same ∙ o.place;
            there = sym (middle (o.number - length run.front) (omega (arith, low', count, high)))
                ∙ ap (slice_get (steps_by c H)) same ∙ o.there;
          }
        where
          under : (j k : ℕ) → j ≤ k → k < length (steps_by c H) → own_place c H k < own_place c H j → ⊥
          under j k le lt h = by-eq (eqb j k) refl
            where
              by-eq : (b : Bool) → eqb j k ≡ b → ⊥
              by-eq true q = let e : own_place c H j ≡ own_place c H k = ap (own_place c H) (eqb-true j k q) in
                  omega (arith, e, h)
              by-eq false q =
                  let apart : j ≢ k = λ e. let z = eq-eqb j k e in cc (q, z) in
                  let r = own-rises c H j k (omega (arith, apart, le)) lt in
                  omega (arith, r, h)

  -- every reply is one that the machine gives
  pub all-told : (B : Image) → SaneRun B H → AllTold made
  all-told B r k m h =
      let o = own k m h in
      let x = moment-at B H r (place_in c moves made H run k) o.entry o.there in
      subst (λ (m : Made). Told m.0 m.1) o.is (told-entry x.before x.after o.entry x.next)
