-- The refusals of a drill, user by user.
use Rattle.std.proofs.Common.{◌≡◌, ℕ, ◌+◌, ◌≤◌, List, [], ◌∷◌, ◌++◌, map, cond, sym, ap, ◌∙◌, arith}
use Rattle.std.specs.Prelude.{count_by, sum_by}
use Rattle.std.proofs.lemmas.List.Sums.{sum_by-append, sum_by-cons}
use Rattle.nofs_history.specs.declared.machine.history.Entry1.{Entry1}
use Rattle.nofs_history.specs.Callers.{steps_by}
use Rattle.nofs_client.specs.declared.task.commands.Command.{Command}
use Rattle.nofs_client.specs.declared.task.lines.Line.{Line}
use Rattle.nofs_client.specs.Driver.{LinesFollow, lines_of, made_reply}
use Rattle.nofs_gen.specs.Tally.{is_refused_line}
use Rattle.nofs_serve.specs.Teams.Users.{UsersServed}
use Rattle.nofs_tool.specs.Session.Entries.{session_lines}

count-both : (xs ys : List Line)
    → count_by is_refused_line (xs ++ ys) ≡ count_by is_refused_line xs + count_by is_refused_line ys
count-both xs ys = sum_by-append (λ x. cond (is_refused_line x) 1 0) xs ys

module _ (follow : LinesFollow) (served all : List Entry1)
    (same : (c : ℕ) → 1 ≤ c → steps_by c all ≡ steps_by c served) where
  -- the refusals in the users' lines are those of the lines by the history
  pub refusals-from : (c : ℕ) (scripts : List (List Command)) (lines : List (List Line))
      → 1 ≤ c → UsersServed c scripts lines (λ k. steps_by k served)
      → sum_by (count_by is_refused_line) lines ≡ count_by is_refused_line (session_lines c scripts all)
  refusals-from c [] lines low s = ap (sum_by (count_by is_refused_line)) s
  refusals-from c (script ∷ scripts) lines low s =
      let (said, others, whole, driven, rest) = s in
      let own : lines_of script (map made_reply (steps_by c all)) ≡ said =
      ap (λ m. lines_of script (map made_reply m)) (same c low)
      ∙ follow script (steps_by c served) said driven in
      ap (sum_by (count_by is_refused_line)) whole
      ∙ (sum_by-cons (count_by is_refused_line) said others
      ∙ (ap (λ (n : ℕ). count_by is_refused_line said + n) (refusals-from (c + 1) scripts others (omega arith) rest)
      ∙ (ap (λ l. count_by is_refused_line l + count_by is_refused_line (session_lines (c + 1) scripts all)) (sym own)
      ∙ sym (count-both (lines_of script (map made_reply (steps_by c all))) (session_lines (c + 1) scripts all)))))
