-- Plans of a session, what its run leaves, and its text by the lines that its users came to.
use Rattle.std.proofs.Common.{◌≡◌, ◌≢◌, ◌⊎◌, inl, inr, ℕ, ◌+◌, ◌<◌, ◌≤◌, Bool, true, false, ◌||◌, not, List, [], ◌∷◌}
use Rattle.std.proofs.Common.{◌++◌, length, drop, get_or, map, flat_map, Some}
use Rattle.std.proofs.Common.{cond, ne_eqb, refl, sym, ap, ◌∙◌, subst, arith, append_assoc}
use Rattle.std.specs.Prelude.{filter, All, IfSome}
use Rattle.std.specs.declared.option.Option.{Option}
use Rattle.std.specs.List.{AllByRecursion, remove}
use Rattle.std.proofs.lemmas.List.{map_push}
use Rattle.std.proofs.lemmas.List.Elements.{All-from_recursion}
use Rattle.nofs_history.specs.declared.machine.callers.TheConstants.{MOST_USERS}
use Rattle.nofs_super.specs.declared.superblock.SuperBlock.{SuperBlock}
use Rattle.nofs_history.specs.Steps.{Made, is_out_of_memory}
use Rattle.nofs_history.specs.declared.machine.history.Entry1.{Entry1}
use Rattle.nofs_history.specs.declared.machine.steps.Step.{Step}
use Rattle.nofs_history.specs.declared.machine.steps.Step.TheVariants as step
use Rattle.nofs_history.specs.declared.machine.steps.ElementKind.{ElementKind}
use Rattle.nofs_history.specs.declared.machine.replies.Reply.{Reply}
use Rattle.nofs_history.specs.declared.machine.replies.Reply.TheVariants as reply
use Rattle.nofs_history.specs.declared.machine.replies.Refusal.TheVariants as refusal
use Rattle.nofs_history.specs.Callers.{done_of, is_by, steps_by}
use Rattle.nofs_client.specs.declared.task.commands.Command.{Command}
use Rattle.nofs_client.specs.Task.Commands.{AreWellFormed}
use Rattle.nofs_client.specs.declared.task.lines.Line.{Line}
use Rattle.nofs_client.specs.Driver.{LinesFollow, lines_of, made_reply}
use Rattle.nofs_script.specs.Text.{text_of}
use Rattle.nofs_shared.specs.Acts.Sees.{sweep_entries}
use Rattle.nofs_shared.specs.Mount.Entries.{AddsStep}
use Rattle.nofs_shared.specs.Passes.Entries.{TellsStep}
use Rattle.nofs_serve.specs.Teams.Users.{UsersServed}
use Rattle.nofs_serve.specs.Session.{IsUnserved, TeamEnded, TeamMade, TeamServed}
use Rattle.nofs_serve.specs.Teams.Beside.{SweepsMade, SweepsServed}
use Rattle.nofs_script.specs.Session.{IsSession}
use Rattle.nofs_workers.specs.Sweep.{Sweeps}
use Rattle.nofs_serve.proofs.OnTeams.Gathered.{length-scripts, neither}
use Rattle.nofs_tool.specs.Session.Entries.{session_lines, session_text}
use Rattle.nofs_tool.specs.Session.Serve.{AreSwept, IsSessionRun}

module _ {W : Type 0} (f : W → List Command) where
  -- one more plan, for the first of the scripts that are left
  pub plans-more : (ws : List W) (w : W) (old new session : List (List Command)) → 0 < length old
      → f w ≡ get_or old 0 (f w) → new ≡ remove old 0
      → map f ws ++ old ≡ session → map f (ws ++ w ∷ []) ++ new ≡ session
  plans-more ws w [] new session low first rest e = absurd (omega (arith, low))
  plans-more ws w (x ∷ xs) new session low first rest e =
      let whole : f w ∷ new ≡ x ∷ xs = λ i. first i ∷ rest i in
      ap (λ t. t ++ new) (map_push f ws w)
      ∙ (append_assoc (map f ws) (f w ∷ []) new ∙ (ap (λ t. map f ws ++ t) whole ∙ e))

  all-of-map : (ws : List W) → AllByRecursion AreWellFormed (map f ws) → AllByRecursion (λ w. AreWellFormed (f w)) ws
  all-of-map [] a = tt
  all-of-map (w ∷ ws) a = (a.0, all-of-map ws a.1)

  pub plans-formed : (ws : List W) (session : List (List Command)) → IsSession session
      → map f ws ≡ session → All (λ w. AreWellFormed (f w)) ws
  plans-formed ws session s e = All-from_recursion (λ w. AreWellFormed (f w)) ws
      (all-of-map ws (subst (AllByRecursion AreWellFormed) (sym e) s.formed))

  pub plans-few : (ws : List W) (session : List (List Command)) → IsSession session → map f ws ≡ session
      → length ws ≤ MOST_USERS
  plans-few ws session s e = let n = ap length e in let m = length-scripts f ws in omega (arith, n, m, s.few)

-- where less is told to be whole
pub sweeps-shorter : (Item : ℕ → ℕ → Type 0) (kind : ElementKind) (count : ℕ) (out short : Bool) (made : List Made)
    → (short ≡ false → out ≡ false)
    → Sweeps Item kind 0 count out [] made → Sweeps Item kind 0 count short [] made
sweeps-shorter Item kind count out short made less s = record {
  elements = s.elements;
  at_most = s.at_most;
  whole = λ e. s.whole (less e);
  ordered = s.ordered;
  makes = s.makes;
}

pub twice : (b : Bool) → not (not b) ≡ false → b ≡ false
twice true e = e
twice false e = refl

room-enough : (n i b j c room : ℕ) → n ≡ 0 → i ≡ j → b ≡ c → room ≡ j + c → n + i + b ≤ room
room-enough n i b j c room none is bs enough = omega (arith, none, is, bs, enough)

-- the mount took memory for an entry of each element
pub swept-by : (it at : SuperBlock) (room : ℕ) (H K : List Entry1) → it ≡ at → H ≡ [] → room ≡ at.inodes + at.blocks
    → SweepsServed room it.inodes it.blocks H K → AreSwept at.inodes at.blocks H K
swept-by it at room H K same empty is sweeps =
    let none : sweep_entries H ≡ 0 = ap sweep_entries empty in
    let enough : sweep_entries H + it.inodes + it.blocks ≤ room =
    room-enough (sweep_entries H) it.inodes it.blocks at.inodes at.blocks room none
    (ap (λ (s : SuperBlock). s.inodes) same) (ap (λ (s : SuperBlock). s.blocks) same) is in
    inr (subst (λ (s : SuperBlock). SweepsMade s.inodes s.blocks false (λ c. steps_by c (drop (length H) K))) same
    (sweeps enough))

-- so it is of a team
pub swept-of : (scripts : List (List Command)) (it at : SuperBlock) (room : ℕ) (short : Bool) (early : List Bool)
    (lines : List (List Line)) (H K : List Entry1) → it ≡ at → H ≡ [] → room ≡ at.inodes + at.blocks
    → IsUnserved short early lines H K ⊎ TeamEnded scripts room it.inodes it.blocks early lines H K
    → AreSwept at.inodes at.blocks H K
swept-of scripts it at room short early lines H K same empty is (inl u) = inl u.stays
swept-of scripts it at room short early lines H K same empty is (inr t) =
    swept-by it at room H K same empty is t.sweeps

-- where there was no memory for its entry, the flush was not made
pub not-flushed : (H K : List Entry1) → K ≡ H
    → TellsStep 0 (step.Flush 0 0) H K (reply.Refused refusal.OutOfMemory)
not-flushed H K same = record {
  adds = record { none = λ e. same; one = λ e. cc e };
  fits = tt;
  whole = λ e. refl;
}

-- a team's steps, and then the flush
pub run-closed : (scripts : List (List Command)) (inodes blocks : ℕ) (out closed : Bool) (lines : List (List Line))
    (before served all : List Entry1)
    (flush : Reply) → before ≡ [] → TeamServed scripts inodes blocks out lines before served
    → AreSwept inodes blocks before served
    → TellsStep 0 (step.Flush 0 0) served all flush
    → closed ≡ not (is_out_of_memory flush) → IsSessionRun scripts inodes blocks (out || not closed) lines all
run-closed scripts inodes blocks out closed lines before served all flush empty t swept adds is =
    let made : TeamMade scripts inodes blocks out lines (λ c. steps_by c served) = subst
    (λ (h : List Entry1). TeamMade scripts inodes blocks out lines
    (λ c. steps_by c (drop (length h) served))) empty t.made in
    let team : TeamMade scripts inodes blocks (out || not closed) lines (λ c. steps_by c served) = record {
      begun = made.begun;
      served = λ e. made.served (neither out (not closed) e).0;
      inodes_seen =
          sweeps-shorter _ _ inodes out (out || not closed) _ (λ e. (neither out (not closed) e).0) made.inodes_seen;
      blocks_seen =
          sweeps-shorter _ _ blocks out (out || not closed) _ (λ e. (neither out (not closed) e).0) made.blocks_seen;
      others = made.others;
    } in
    record {
      served = served;
      flush = flush;
      closes = adds;
      closed = λ e. twice (is_out_of_memory flush) (ap not (sym is) ∙ (neither out (not closed) e).1);
      team = team;
      swept = subst (λ (h : List Entry1). AreSwept inodes blocks h served) empty swept;
    }

-- an entry of another caller leaves a caller's steps
filter-more : (c : ℕ) (es : List Entry1) (e : Entry1) → is_by c e ≡ false → steps_by c (es ++ e ∷ []) ≡ steps_by c es
filter-more c [] e other = go (is_by c e) other
  where
    go : (b : Bool) → b ≡ false → map done_of (cond b (e ∷ []) []) ≡ []
    go true h = cc
    go false h = refl
filter-more c (x ∷ es) e other = go (is_by c x) (filter-more c es e other)
  where
    go : (b : Bool) → steps_by c (es ++ e ∷ []) ≡ steps_by c es
        → map done_of (cond b (x ∷ filter (is_by c) (es ++ e ∷ [])) (filter (is_by c) (es ++ e ∷ []))) ≡ map done_of
        (cond b (x ∷ filter (is_by c) es) (filter (is_by c) es))
    go true same = λ i. done_of x ∷ same i
    go false same = same

pub adds-others : (caller c : ℕ) (s : Step) (r : Reply) (H K : List Entry1) → AddsStep caller s r H K
    → c ≢ caller → steps_by c K ≡ steps_by c H
adds-others caller c s r H K a apart = go (is_out_of_memory r) refl
  where
    go : (b : Bool) → is_out_of_memory r ≡ b → steps_by c K ≡ steps_by c H
    go true e = ap (steps_by c) (a.none e)
    go false e =
        let (x, whole, caller_is, step_is, reply_is) = a.one e in
        let other : is_by c x ≡ false = ne_eqb x.caller c (λ q. apart (sym q ∙ caller_is)) in
        ap (steps_by c) whole ∙ filter-more c H x other

module _ (follow : LinesFollow) (served all : List Entry1)
    (same : (c : ℕ) → 1 ≤ c → steps_by c all ≡ steps_by c served) where
  text-from : (c : ℕ) (scripts : List (List Command)) (lines : List (List Line))
      → 1 ≤ c → UsersServed c scripts lines (λ k. steps_by k served)
      → flat_map (λ l. flat_map text_of l) lines ≡ flat_map text_of (session_lines c scripts all)
  text-from c [] lines low s = ap (flat_map (λ l. flat_map text_of l)) s
  text-from c (script ∷ scripts) lines low s =
      let (said, others, whole, driven, rest) = s in
      let own : lines_of script (map made_reply (steps_by c all)) ≡ said =
      ap (λ m. lines_of script (map made_reply m)) (same c low)
      ∙ follow script (steps_by c served) said driven in
      ap (flat_map (λ l. flat_map text_of l)) whole
      ∙ (ap (λ t. flat_map text_of said ++ t) (text-from (c + 1) scripts others (omega arith) rest)
      ∙ (ap (λ l. flat_map text_of l ++ flat_map text_of (session_lines (c + 1) scripts all)) (sym own)
      ∙ sym (flat_map-both (lines_of script (map made_reply (steps_by c all))) (session_lines (c + 1) scripts all))))
    where
      flat_map-both : (xs ys : List Line) → flat_map text_of (xs ++ ys) ≡ flat_map text_of xs ++ flat_map text_of ys
      flat_map-both [] ys = refl
      flat_map-both (x ∷ xs) ys = ap (λ t. text_of x ++ t) (flat_map-both xs ys)
          ∙ sym (append_assoc (text_of x) (flat_map text_of xs) (flat_map text_of ys))

  -- what the users said is the session's text
  pub session-said : (scripts : List (List Command)) (lines : List (List Line))
      → UsersServed 1 scripts lines (λ k. steps_by k served)
      → flat_map (λ l. flat_map text_of l) lines ≡ session_text scripts all
  unfolding session_text
  session-said scripts lines s = text-from 1 scripts lines (omega arith) s

-- the text of a session that was served
pub session-told : (scripts : List (List Command)) (inodes blocks : ℕ) (lines : List (List Line)) (all : List Entry1)
    (text : List ℕ) → LinesFollow
    → IsSessionRun scripts inodes blocks false lines all → text ≡ flat_map (λ l. flat_map text_of l) lines
    → text ≡ session_text scripts all
session-told scripts inodes blocks lines all text follow run is = is
    ∙ session-said follow run.served all
    (λ c low. adds-others 0 c (step.Flush 0 0) run.flush run.served all run.closes.adds
    (λ e. absurd (omega (arith, low, e)))) scripts lines (run.team.served refl)

-- and where memory was not wanting
pub session-ends : (session scripts : List (List Command)) (inodes blocks : ℕ) (out : Bool)
    (lines : List (List Line)) (all entries : List Entry1) (told : List ℕ) (text : Option (List ℕ))
    → scripts ≡ session → out ≡ false → entries ≡ all → text ≡ Some told → LinesFollow
    → IsSessionRun scripts inodes blocks out lines all → told ≡ flat_map (λ l. flat_map text_of l) lines
    → IfSome text (λ t. (x : List (List Line)) × IsSessionRun session inodes blocks false x entries
    × (t ≡ session_text session entries))
session-ends session scripts inodes blocks out lines all entries told text same whole ends is follow run said =
    let run_session : IsSessionRun session inodes blocks out lines all =
    subst (λ (s : List (List Command)). IsSessionRun s inodes blocks out lines all) same run in
    let run_whole : IsSessionRun session inodes blocks false lines all =
    subst (λ (o : Bool). IsSessionRun session inodes blocks o lines all) whole run_session in
    let run_ends : IsSessionRun session inodes blocks false lines entries =
    subst (λ (h : List Entry1). IsSessionRun session inodes blocks false lines h) (sym ends)
    run_whole in
    subst (λ (o : Option (List ℕ)). IfSome o
    (λ t. (x : List (List Line)) × IsSessionRun session inodes blocks false x entries ×
    (t ≡ session_text session entries)))
    (sym is) (lines, run_ends, session-told session inodes blocks lines entries told follow run_ends said)
