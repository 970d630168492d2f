-- Users that have worked.
use Rattle.std.proofs.Common.{◌≡◌, ℕ, suc, ◌+◌, ◌<◌, List, [], ◌∷◌, ◌++◌, length, get_or, refl, sym, ap, ◌∙◌, subst}
use Rattle.std.proofs.Common.{arith}
use Rattle.std.specs.List.{AllZip}
use Rattle.nofs_history.specs.Steps.{Made}
use Rattle.nofs_client.specs.declared.task.commands.Command.{Command}
use Rattle.nofs_client.specs.declared.task.lines.Line.{Line}
use Rattle.nofs_client.specs.Driver.{RunsAll, RunsSome, IsDriven, IsPartlyDriven}
use Rattle.nofs_workers.specs.declared.user.UserWorker.{UserWorker}
use Rattle.nofs_workers.specs.User.{steps_in, WorkedAsUser}
use Rattle.nofs_serve.specs.Teams.Users.{Stand, StandInTurn, IsReady, HasRun}

module _ {W V : Type 0} (R : W → V → Type 0) where
  pub zip-split : (front : List W) (w : W) (vs : List V) → AllZip R (front ++ w ∷ []) vs
      → (back : List V) × (v : V) × (vs ≡ back ++ v ∷ []) × AllZip R front back × R w v
  zip-split [] w [] z = absurd z
  zip-split [] w (v ∷ []) z = ([], v, refl, tt, z.0)
  zip-split [] w (v ∷ x ∷ vs) z = absurd z.1
  zip-split (f ∷ fs) w [] z = absurd z
  zip-split (f ∷ fs) w (v ∷ vs) z = let r = zip-split fs w vs z.1 in (v ∷ r.0, r.1, (λ i. v ∷ r.2 i), (z.0, r.3), r.4)

  pub zip-nil : (vs : List V) → AllZip R [] vs → vs ≡ []
  zip-nil [] z = refl
  zip-nil (v ∷ vs) z = absurd z

-- what holds of the steps and lines that were added holds of all, where there were none before
from-none : (P : List Command → List Made → List Line → Type 0) (commands script : List Command)
    (old new made : List Made) (old_lines lines said : List Line)
    → commands ≡ script → old ≡ [] → old_lines ≡ [] → new ≡ old ++ made → lines ≡ old_lines ++ said
    → P commands made said → P script new lines
from-none P commands script old new made old_lines lines said is none no_lines more more_lines driven =
    let m : made ≡ new = sym (more ∙ ap (λ l. l ++ made) none) in
    let s : said ≡ lines = sym (more_lines ∙ ap (λ l. l ++ said) no_lines) in
    subst (λ (q : List Command × List Made × List Line). P q.0 q.1 q.2) (λ i. (is i, m i, s i)) driven

module _ (commands script : List Command) (old new : List Made) (old_lines lines : List Line)
    (is : commands ≡ script) (none : old ≡ []) (no_lines : old_lines ≡ []) where
  pub runs-some : RunsSome commands old new old_lines lines → IsPartlyDriven script new lines
  runs-some r = from-none IsPartlyDriven commands script old new r.made old_lines lines r.said is none no_lines
      r.more r.more_lines r.driven

  pub runs-all : RunsAll commands old new old_lines lines → IsDriven script new lines
  runs-all r = from-none IsDriven commands script old new r.made old_lines lines r.said is none no_lines
      r.more r.more_lines r.driven

module _ {S T : Type 0} {made : S → List Made} {goes : S → S → Type 0} where
  zips : (xs ys : List (UserWorker S T)) → length ys ≡ length xs
      → ((k : ℕ) (d : UserWorker S T) → k < length xs → WorkedAsUser made goes (get_or xs k d) (get_or ys k d))
      → AllZip (WorkedAsUser made goes) xs ys
  zips [] [] e h = tt
  zips [] (y ∷ ys) e h = absurd (omega (arith, e))
  zips (x ∷ xs) [] e h = absurd (omega (arith, e))
  zips (x ∷ xs) (y ∷ ys) e h =
      (h 0 x (omega arith), zips xs ys (omega (arith, e)) (λ k d l. h (suc k) d (omega (arith, l))))

module _ {S T : Type 0} {made : S → List Made} {goes : S → S → Type 0} {New Back : ℕ → S → Type 0} where
  has-run : (c : ℕ) (script : List Command) (w v : UserWorker S T) → ((c : ℕ) (p q : S) → New c p → goes p q → Back c q)
      → ((c : ℕ) (p : S) → New c p → made p ≡ []) → IsReady New c script w → WorkedAsUser made goes w v
      → HasRun Back made c script v
  has-run c script w v lead none r h = record {
    back = lead c (steps_in w) (steps_in v) r.new h.goes_on;
    some = runs-some w.script.commands script (made (steps_in w)) (made (steps_in v)) w.lines v.lines r.script_is
        (none c (steps_in w) r.new) r.no_lines h.some;
    all = λ e. runs-all w.script.commands script (made (steps_in w)) (made (steps_in v)) w.lines v.lines r.script_is
        (none c (steps_in w) r.new) r.no_lines
        (h.ran e);
  }

  zipped-run : (c : ℕ) (scripts : List (List Command)) (ws vs : List (UserWorker S T))
      → ((c : ℕ) (p q : S) → New c p → goes p q → Back c q)
      → ((c : ℕ) (p : S) → New c p → made p ≡ []) → AllZip (WorkedAsUser made goes) ws vs
      → StandInTurn (IsReady New) c scripts ws
      → StandInTurn (HasRun Back made) c scripts vs
  zipped-run c [] ws vs lead none z s =
      zip-nil (WorkedAsUser made goes) vs (subst (λ l. AllZip (WorkedAsUser made goes) l vs) s z)
  zipped-run c (script ∷ scripts) ws vs lead none z s =
      let p = zip-split (WorkedAsUser made goes) s.0 s.1 vs (subst (λ l. AllZip (WorkedAsUser made goes) l vs) s.2 z) in
      (p.0, p.1, p.2, has-run c script s.1 p.1 lead none s.3 p.4, zipped-run (c + 1) scripts s.0 p.0 lead none p.3 s.4)

  -- each worker has done its work
  pub stand-run : (c : ℕ) (scripts : List (List Command)) (ws vs : List (UserWorker S T))
      → Stand (IsReady New) c scripts ws
      → ((k : ℕ) (d : UserWorker S T) → k < length ws → WorkedAsUser made goes (get_or ws k d) (get_or vs k d))
      → length vs ≡ length ws
      → ((c : ℕ) (p q : S) → New c p → goes p q → Back c q) → ((c : ℕ) (p : S) → New c p → made p ≡ [])
      → Stand (HasRun Back made) c scripts vs
  stand-run c scripts ws vs s at long lead none =
      record { in_turn = zipped-run c scripts ws vs lead none (zips ws vs long at) s.in_turn }
