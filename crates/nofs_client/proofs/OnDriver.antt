-- A run of commands goes on, step by step and command by command.
use Rattle.std.proofs.Common.{◌≡◌, ℕ, suc, ◌+◌, ◌<◌, length, take, drop, get_or, subst, List, [], ◌∷◌, ◌++◌, map, fold}
use Rattle.std.proofs.Common.{false, refl, sym, ap, ◌∙◌}
use Rattle.std.proofs.Common.{append_assoc, Some, None, Option, if◌then◌else◌}
use Rattle.std.specs.Option.{option_map_or}
use Rattle.std.proofs.Math.Seq.{drop-cons}
use Rattle.std.proofs.lemmas.List.{map-append, append-nil, take-append-drop, take_more}
use Rattle.nofs_history.specs.Steps.{Made, with_made, is_out_of_memory}
use Rattle.nofs_history.specs.declared.machine.replies.Reply.{Reply}
use Rattle.nofs_history.specs.declared.machine.steps.Step.{Step}
use Rattle.nofs_client.specs.declared.task.commands.Command.{Command}
use Rattle.nofs_client.specs.declared.task.next.Next.TheVariants.{Do, Say}
use Rattle.nofs_client.specs.declared.task.lines.Line.{Line}
use Rattle.nofs_client.specs.declared.progress.Progress.{Progress}
use Rattle.nofs_client.specs.Progress.{asks, progress_after, progress, start_of, drive_of}
use Rattle.nofs_client.specs.Driver.{Asked, IsCommandRun, IsDriven, IsBegun, RunsAll, RunsSome, LinesFollow}
use Rattle.nofs_client.specs.Driver.{made_reply, said_of, chosen, lines_of}

fold-more : {A B X : Type 0} (f : B → A → B) (g : X → A) (a : B) (xs : List X) (x : X)
    → fold f a (map g (xs ++ x ∷ [])) ≡ f (fold f a (map g xs)) (g x)
fold-more f g a [] x = refl
fold-more f g a (y ∷ ys) x = fold-more f g (f a (g y)) ys x

-- one more step is asked for
pub Asked-more : (c : Command) (p : Progress) (ms : List Made) (s : Step) (r : Reply) → Asked c p ms
    → asks c (fold (progress_after c) p (map made_reply ms)) ≡ Do s → Asked c p (ms ++ (s, r) ∷ [])
Asked-more c p [] s r h e = (e, tt)
Asked-more c p (m ∷ ms) s r h e = (h.0, Asked-more c (progress_after c p m.1) ms s r h.1 e)

-- where a command stands after one more reply
pub progress-more : (c : Command) (ms : List Made) (s : Step) (r : Reply)
    → progress c (map made_reply (ms ++ (s, r) ∷ [])) ≡ progress_after c (progress c (map made_reply ms)) r
progress-more c ms s r = fold-more (progress_after c) made_reply (start_of c) ms (s, r)

-- the list of made steps after one more
pub made-more : (old mid new ms : List Made) (s : Step) (r : Reply)
    → mid ≡ old ++ ms → is_out_of_memory r ≡ false → new ≡ with_made mid s r
    → new ≡ old ++ (ms ++ (s, r) ∷ [])
made-more old mid new ms s r h room more =
    more ∙ ap (λ b. if b then mid else mid ++ (s, r) ∷ []) room ∙ ap (λ l. l ++ (s, r) ∷ []) h
    ∙ append_assoc old ms ((s, r) ∷ [])

-- one more step of a command is made
pub step-more : (c : Command) (p : Progress) (old mid new ms : List Made) (s : Step) (r : Reply)
    → mid ≡ old ++ ms → Asked c (start_of c) ms
    → p ≡ progress c (map made_reply ms) → asks c p ≡ Do s → is_out_of_memory r ≡ false → new ≡ with_made mid s r
    → (new ≡ old ++ (ms ++ (s, r) ∷ [])) × Asked c (start_of c) (ms ++ (s, r) ∷ [])
step-more c p old mid new ms s r h asked is asks-it room more =
    (made-more old mid new ms s r h room more, Asked-more c (start_of c) ms s r asked (ap (asks c) (sym is) ∙ asks-it))

-- one more command is run
pub driven-more : (cs : List Command) (c : Command) (ms more : List Made) (ls : List Line) (l : Line)
    → IsDriven cs ms ls → IsCommandRun c more l
    → IsDriven (cs ++ c ∷ []) (ms ++ more) (ls ++ l ∷ [])
driven-more [] c ms more ls l h run =
    (more, [], l, [], ap (λ m. m ++ more) h.0 ∙ sym (append-nil more), ap (λ k. k ++ l ∷ []) h.1, run, (refl, refl))
driven-more (d ∷ ds) c ms more ls l h run =
    let (front, back, line, others, made, lines, first, rest) = h in (
      front,
      back ++ more,
      line,
      others ++ l ∷ [],
      ap (λ m. m ++ more) made ∙ append_assoc front back more,
      ap (λ k. k ++ l ∷ []) lines,
      first,
      driven-more ds c back more others l rest run,
    )

-- what is said after the replies of a command that was run
said-run : (c : Command) (p : Progress) (ms : List Made) (l : Line) (more : List Reply) → Asked c p ms
    → asks c (fold (progress_after c) p (map made_reply ms)) ≡ Say l
    → said_of c p (map made_reply ms ++ more) ≡ Some (l, more)
said-run c p [] l [] h e = ap (λ n. chosen n [] None) e
said-run c p [] l (r ∷ rs) h e = ap (λ n. chosen n (r ∷ rs) (said_of c (progress_after c p r) rs)) e
said-run c p (m ∷ ms) l more h e =
    ap (λ n. chosen n (m.1 ∷ (map made_reply ms ++ more))
    (said_of c (progress_after c p m.1) (map made_reply ms ++ more))) h.0
    ∙ said-run c (progress_after c p m.1) ms l more h.1 e

lines-run : (cs : List Command) (ms : List Made) (ls : List Line) (more : List Reply) → IsDriven cs ms ls
    → lines_of cs (map made_reply ms ++ more) ≡ ls
unfolding lines_of drive_of
lines-run [] ms ls more h = sym h.1
lines-run (c ∷ cs) ms ls more h =
    let (front, back, line, others, made, lines, first, rest) = h in
    let parts : map made_reply ms ++ more ≡ map made_reply front ++ (map made_reply back ++ more) =
    ap (λ m. map made_reply m ++ more) made ∙ ap (λ k. k ++ more) (map-append made_reply front back)
    ∙ append_assoc (map made_reply front) (map made_reply back) more in
    let one = said-run c (start_of c) front line (map made_reply back ++ more) first.asked first.says in
    ap (lines_of (c ∷ cs)) parts
    ∙ ap (λ (o : Option (Line × List Reply)). option_map_or (λ p. p.0 ∷ lines_of cs p.1) o []) one
    ∙ ap (λ k. line ∷ k) (lines-run cs back others more rest) ∙ sym lines

-- the lines of a run are those that the replies give
pub lines-follow : LinesFollow
lines-follow cs ms ls h = ap (lines_of cs) (sym (append-nil (map made_reply ms))) ∙ lines-run cs ms ls [] h

-- nothing is made of what is left
nothing-begun : (cs : List Command) → IsBegun cs []
nothing-begun [] = refl
nothing-begun (c ∷ cs) = tt

-- some of the commands were run, and the next one begun
runs-some : (cs : List Command) (i : ℕ) (old mid new ms : List Made) (old_lines lines : List Line)
    → RunsAll (take i cs) old mid old_lines lines
    → new ≡ mid ++ ms → IsBegun (drop i cs) ms → RunsSome cs old new old_lines lines
runs-some cs i old mid new ms old_lines lines all more begun = record {
  made = all.made ++ ms;
  said = all.said;
  more = more ∙ ap (λ l. l ++ ms) all.more ∙ append_assoc old all.made ms;
  more_lines = all.more_lines;
  driven = record {
    run = take i cs;
    left = drop i cs;
    front = all.made;
    back = ms;
    commands_are = sym (take-append-drop i cs);
    made_are = refl;
    driven = all.driven;
    begun = begun;
  };
}

-- no command is begun beside those that were run
pub runs-so-far : (cs : List Command) (i : ℕ) (old new : List Made) (old_lines lines : List Line)
    → RunsAll (take i cs) old new old_lines lines
    → RunsSome cs old new old_lines lines
runs-so-far cs i old new old_lines lines all =
    runs-some cs i old new new [] old_lines lines all (sym (append-nil new)) (nothing-begun (drop i cs))

-- one command is begun beside those that were run
pub runs-in-part : (cs : List Command) (i : ℕ) (c : Command) (old mid new ms : List Made) (old_lines lines : List Line)
    → i < length cs → c ≡ get_or cs i c
    → RunsAll (take i cs) old mid old_lines lines → new ≡ mid ++ ms → Asked c (start_of c) ms
    → RunsSome cs old new old_lines lines
runs-in-part cs i c old mid new ms old_lines lines lt is all more asked =
    let left : drop i cs ≡ c ∷ drop (suc i) cs = drop-cons cs i c lt ∙ ap (λ d. d ∷ drop (suc i) cs) (sym is) in
    runs-some cs i old mid new ms old_lines lines all more (subst (λ l. IsBegun l ms) (sym left) asked)

-- one more command is run
pub runs-more : (cs : List Command) (i : ℕ) (c : Command) (old mid new ms : List Made)
    (old_lines lines new_lines : List Line) (l : Line) → i < length cs
    → c ≡ get_or cs i c
    → RunsAll (take i cs) old mid old_lines lines → new ≡ mid ++ ms → IsCommandRun c ms l → new_lines ≡ lines ++ l ∷ []
    → RunsAll (take (i + 1) cs) old new old_lines new_lines
runs-more cs i c old mid new ms old_lines lines new_lines l lt is all more run more_lines =
    let front : take (i + 1) cs ≡ take i cs ++ c ∷ [] = take_more cs i c lt ∙ ap (λ d. take i cs ++ d ∷ []) (sym is) in
    record {
      made = all.made ++ ms;
      said = all.said ++ l ∷ [];
      more = more ∙ ap (λ k. k ++ ms) all.more ∙ append_assoc old all.made ms;
      more_lines = more_lines ∙ ap (λ k. k ++ l ∷ []) all.more_lines ∙ append_assoc old_lines all.said (l ∷ []);
      driven = subst (λ k. IsDriven k (all.made ++ ms) (all.said ++ l ∷ [])) (sym front)
          (driven-more (take i cs) c all.made ms all.said l all.driven run);
    }
