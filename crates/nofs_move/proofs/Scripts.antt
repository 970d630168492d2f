-- The run of each command of a script.
use Rattle.std.proofs.Common.{◌≡◌, ℕ, zero, suc, List, [], ◌∷◌, ◌++◌, length, Some, refl, sym, ap, ◌∙◌, subst}
use Rattle.std.proofs.Common.{append_assoc, append-nil}
use Rattle.std.specs.Prelude.{slice_get}
use Rattle.nofs_history.specs.Steps.{Made}
use Rattle.nofs_history.specs.Callers.{steps_by}
use Rattle.nofs_client.specs.declared.task.commands.Command.{Command}
use Rattle.nofs_client.specs.declared.task.next.Next.TheVariants.{Say}
use Rattle.nofs_client.specs.declared.task.lines.Line.{Line}
use Rattle.nofs_client.specs.Progress.{start_of}
use Rattle.nofs_client.specs.Driver.{Asked, IsCommandRun, IsDriven, IsBegun}
use Rattle.nofs_move.specs.Steps.{LawCommandRun, LawCommandBegun}

-- the steps of command number k, among those of all
record Part (commands : List Command) (made : List Made) (k : ℕ) (said : Line) : Type 0 where
  front : List Made
  mine : List Made
  back : List Made
  asked : Command
  are : made ≡ front ++ (mine ++ back)
  there : slice_get commands k ≡ Some asked
  runs : IsCommandRun asked mine said

part-of : (commands : List Command) (made : List Made) (lines : List Line) (k : ℕ) (said : Line)
    → IsDriven commands made lines
    → slice_get lines k ≡ Some said → Part commands made k said
part-of [] made lines k said driven h =
    absurd (let z : slice_get [] k ≡ Some said = ap (λ l. slice_get l k) (sym driven.1) ∙ h in cc z)
part-of (x ∷ xs) made lines zero said driven h =
    let (front, back, line, others, parts, said_are, first, rest) = driven in
    let same : line ≡ said = let z : slice_get (line ∷ others) zero ≡ Some said =
    ap (λ l. slice_get l zero) (sym said_are) ∙ h in cc z in
    record {
      front = [];
      mine = front;
      back = back;
      asked = x;
      runs = record { asked = first.asked; says = first.says ∙ ap Say same };
      are = parts;
      there = refl;
    }
part-of (x ∷ xs) made lines (suc k) said driven h =
    let (front, back, line, others, parts, said_are, first, rest) = driven in
    let at : slice_get others k ≡ Some said = let z : slice_get (line ∷ others) (suc k) ≡ Some said =
    ap (λ l. slice_get l (suc k)) (sym said_are) ∙ h in z in
    let t = part-of xs back others k said rest at in
    record {
      front = front ++ t.front;
      mine = t.mine;
      back = t.back;
      asked = t.asked;
      are =
          parts ∙ ap (λ l. front ++ l) t.are ∙ sym (append_assoc front t.front (t.mine ++ t.back));
      there = t.there;
      runs = t.runs;
    }

within : (xs ys : List Command) (k : ℕ) (x : Command) → slice_get xs k ≡ Some x → slice_get (xs ++ ys) k ≡ Some x
within [] ys k x h = cc h
within (y ∷ xs) ys zero x h = h
within (y ∷ xs) ys (suc k) x h = within xs ys k x h

pub law-command-run : LawCommandRun
law-command-run c script H lines partly k asked said h l =
    let t = part-of partly.run partly.front lines k said partly.driven l in
    let same : t.asked ≡ asked = let z : Some t.asked ≡ Some asked =
    sym (within partly.run partly.left k t.asked t.there)
    ∙ ap (λ l. slice_get l k) (sym partly.commands_are) ∙ h in cc z in
    let are : steps_by c H ≡ t.front ++ (t.mine ++ (t.back ++ partly.back)) =
    partly.made_are ∙ ap (λ l. l ++ partly.back) t.are ∙ append_assoc t.front (t.mine ++ t.back) partly.back
    ∙ ap (λ l. t.front ++ l) (append_assoc t.mine t.back partly.back) in
    let runs : IsCommandRun asked t.mine said = subst (λ x. IsCommandRun x t.mine said) same t.runs in
    (t.mine, record { front = t.front; back = t.back ++ partly.back; among = are; asked = runs.asked }, runs)

-- as many lines as commands were run
lines-are : (commands : List Command) (made : List Made) (lines : List Line) → IsDriven commands made lines
    → length lines ≡ length commands
lines-are [] made lines driven = ap length driven.1
lines-are (x ∷ xs) made lines driven =
    let (front, back, line, others, parts, said_are, first, rest) = driven in
    ap length said_are ∙ ap suc (lines-are xs back others rest)

beyond : (xs ys : List Command) → slice_get (xs ++ ys) (length xs) ≡ slice_get ys zero
beyond [] ys = refl
beyond (x ∷ xs) ys = beyond xs ys

begun-first : (left : List Command) (made : List Made) (asked : Command) → IsBegun left made
    → slice_get left zero ≡ Some asked
    → Asked asked (start_of asked) made
begun-first [] made asked begun h = cc h
begun-first (x ∷ xs) made asked begun h = let same : x ≡ asked = cc h in
    subst (λ y. Asked y (start_of y) made) same begun

pub law-command-begun : LawCommandBegun
law-command-begun c script H lines partly asked h =
    let count = lines-are partly.run partly.front lines partly.driven in
    let first : slice_get partly.left zero ≡ Some asked = sym (beyond partly.run partly.left)
    ∙ ap (slice_get (partly.run ++ partly.left)) (sym count)
    ∙ ap (λ l. slice_get l (length lines)) (sym partly.commands_are) ∙ h in (
      partly.back,
      record {
        front = partly.front;
        back = [];
        among = partly.made_are ∙ ap (λ l. partly.front ++ l) (sym (append-nil partly.back));
        asked =
            begun-first partly.left partly.back asked partly.begun first;
      },
    )
