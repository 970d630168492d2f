-- What a drill leaves, put together.
use Rattle.std.proofs.Common.{◌≡◌, ◌≢◌, ℕ, ◌≤◌, Bool, true, false, not, List, [], ◌∷◌, ◌++◌, length, map, drop, Result}
use Rattle.std.proofs.Common.{Ok, Err, None, Some, refl, sym, ap, ◌-◌, subst, arith, ◌∙◌}
use Rattle.std.specs.Prelude.{IfOk, IfSome, count_by, sum_by}
use Rattle.std.specs.Result.{result_ok}
use Rattle.std.specs.declared.option.Option.{Option}
use Rattle.nofs_history.specs.declared.machine.callers.TheConstants.{BLOCK_SWEEPER, INODE_SWEEPER}
use Rattle.nofs_history.specs.Steps.{is_out_of_memory, Made}
use Rattle.nofs_history.specs.declared.machine.history.Entry1.{Entry1}
use Rattle.nofs_history.specs.declared.machine.steps.Step.TheVariants as step
use Rattle.nofs_history.specs.declared.machine.replies.Reply.{Reply}
use Rattle.nofs_client.specs.declared.task.commands.Command.{Command}
use Rattle.nofs_client.specs.declared.task.lines.Line.{Line}
use Rattle.nofs_client.specs.Driver.{LinesFollow}
use Rattle.nofs_shared.specs.Passes.Entries.{TellsStep}
use Rattle.nofs_serve.specs.Session.{TeamMade, TeamServed}
use Rattle.nofs_history.specs.Faults.{has_fault}
use Rattle.nofs_tool.specs.Session.Whole.{IsWholeScan, ShowsDisk}
use Rattle.nofs_history.specs.HistoryState.{HistoryState}
use Rattle.nofs_io.specs.Calls.{SinkState}
use Rattle.nofs_io.specs.Texts.{AppendsAll}
use Rattle.nofs_script.specs.Session.{IsSession}
use Rattle.nofs_gen.proofs.OnScript.{script-formed}
use Rattle.nofs_gen.specs.declared.tally.FileRead.{FileRead}
use Rattle.nofs_tool.specs.Drill.{AddsOwn, AreFourRead, IsDrillDone, IsDrilled, IsReadOut, drill_session}
use Rattle.nofs_gen.specs.Tally.{drill_line}
use Rattle.nofs_tool.specs.Drill.{IsDrillRun}
use Rattle.nofs_gen.specs.Tally.{is_refused_line, size_told, sum_told, wrong_told}
use Rattle.nofs_tool.proofs.OnSession.Serve.{adds-others}
use Rattle.nofs_tool.proofs.OnSession.Whole.{whole-by}
use Rattle.nofs_tool.proofs.OnDrill.Tally.{refusals-from}
use Rattle.nofs_super.specs.declared.superblock.SuperBlock.{SuperBlock}
use Rattle.nofs_model.specs.Geometry.{Image}
use Rattle.nofs_history.specs.Next.{Run}
use Rattle.nofs_history.specs.World.{World, world_of}
use Rattle.nofs_history.specs.declared.machine.steps.ElementKind.TheVariants.{Inode, Block}
use Rattle.nofs_history.specs.Callers.{steps_by}
use Rattle.nofs_workers.specs.Sweep.{Sweeps}

twice : (b : Bool) → not (not b) ≡ false → b ≡ false
twice true e = e
twice false e = refl

-- the files were read and all was made durable, and then the line was made
pub read-out : {E : Type 0} (start steps refused told_refused : ℕ) (served seen H told entries : List Entry1)
    (reads told_reads : List (Option FileRead))
    (out closed : Bool) (line : Result (List ℕ) E) (text : Option (List ℕ)) → entries ≡ H → text ≡ result_ok line
    → out ≡ false → closed ≡ true
    → told_refused ≡ refused → told_reads ≡ reads → told ≡ H
    → ((made : List Made) × AddsOwn made served seen × AreFourRead reads made)
    → ((flush : Reply) × TellsStep 0 (step.Flush 0 0) seen H flush × (closed ≡ not (is_out_of_memory flush)))
    → IfOk line
    (λ text. text ≡ drill_line start steps told_refused (sum_by size_told told_reads) (sum_by sum_told told_reads)
    (sum_by (wrong_told told) told_reads))
    → IfSome text (λ t. (out ≡ false) × IsReadOut start steps refused served entries t)
read-out {E} start steps refused told_refused served seen H told entries reads told_reads out closed line text ends is
    whole done lines_are reads_are told_is
    read close tells =
    subst (λ (o : Option (List ℕ)). IfSome o (λ t. (out ≡ false) × IsReadOut start steps refused served entries t))
    (sym is)
    (subst (λ (h : List Entry1). IfSome (result_ok line)
    (λ t. (out ≡ false) × IsReadOut start steps refused served h t)) (sym ends) (go line tells))
  where
    go : (l : Result (List ℕ) E)
        → IfOk l
        (λ text. text ≡ drill_line start steps told_refused (sum_by size_told told_reads) (sum_by sum_told told_reads)
        (sum_by (wrong_told told) told_reads))
        → IfSome (result_ok l) (λ t. (out ≡ false) × IsReadOut start steps refused served H t)
    go (Ok text) tells =
        let (made, adds, are) = read in
        let (flush, closes, is) = close in (
          whole,
          record {
            seen = seen;
            reads = reads;
            made = made;
            flush = flush;
            read = are;
            adds = adds;
            closes = closes;
            closed = twice (is_out_of_memory flush) (ap not (sym is ∙ done));
            tells = tells ∙ (λ i. drill_line start steps (lines_are i) (sum_by size_told (reads_are i))
                (sum_by sum_told (reads_are i))
                (sum_by (wrong_told (told_is i)) (reads_are i)));
          },
        )
    go (Err e) tells = tt

-- and a team was at work before
pub drilled : (start steps inodes blocks : ℕ) (out : Bool) (lines : List (List Line)) (scripts : List (List Command))
    (before served H : List Entry1)
    (text : List ℕ)
    → LinesFollow → scripts ≡ drill_session start steps
    → before ≡ [] → out ≡ false → TeamServed scripts inodes blocks out lines before served
    → IsReadOut start steps (sum_by (count_by is_refused_line) lines) served H text → IsDrilled start steps H text
drilled start steps inodes blocks out lines scripts before served H text follow same empty whole t read =
    let first : TeamMade scripts inodes blocks out lines (λ c. steps_by c served) = subst
    (λ (h : List Entry1). TeamMade scripts inodes blocks out lines
    (λ c. steps_by c (drop (length h) served))) empty t.made in
    let second : TeamMade scripts inodes blocks false lines (λ c. steps_by c served) = subst
    (λ (b : Bool). TeamMade scripts inodes blocks b lines (λ c. steps_by c served)) whole first in
    let team : TeamMade (drill_session start steps) inodes blocks false lines (λ c. steps_by c served) = subst
    (λ (s : List (List Command)). TeamMade s inodes blocks false lines (λ c. steps_by c served)) same second in
    let others : (c : ℕ) → 1 ≤ c → steps_by c H ≡ steps_by c served =
    λ c low. adds-others 0 c (step.Flush 0 0) read.flush read.seen H read.closes.adds
    (λ e. absurd (omega (arith, low, e)))
    ∙ read.adds.others c low in
    let refused = refusals-from follow served H others 1 (drill_session start steps) lines (omega arith)
    (team.served refl) in
    record {
      served = served;
      inodes = inodes;
      blocks = blocks;
      lines = lines;
      team = team;
      out = subst (λ (n : ℕ). IsReadOut start steps n served H text) refused read;
    }

-- where there is a text
pub drill-ends : (start steps inodes blocks : ℕ) (out : Bool) (lines : List (List Line)) (scripts : List (List Command))
    (before served H : List Entry1)
    (text : Option (List ℕ))
    → LinesFollow → scripts ≡ drill_session start steps
    → before ≡ [] → TeamServed scripts inodes blocks out lines before served
    → IfSome text (λ t. (out ≡ false) × IsReadOut start steps (sum_by (count_by is_refused_line) lines) served H t)
    → IfSome text (IsDrilled start steps H)
drill-ends start steps inodes blocks out lines scripts before served H None follow same empty t read = tt
drill-ends start steps inodes blocks out lines scripts before served H (Some text) follow same empty t read =
    drilled start steps inodes blocks out lines scripts before served H text follow same empty read.0 t read.1

-- and the sink took it
pub drill-taken : (start steps : ℕ) (ran : HistoryState) (h : Option HistoryState) (text : Option (List ℕ))
    (old new : SinkState) → h ≡ Some ran
    → has_fault ran.entries ≡ false → text ≢ None → IfSome text (AppendsAll old new)
    → IfSome text (IsDrilled start steps ran.entries)
    → IsDrillDone start steps h old new
drill-taken start steps ran h None old new stood sound some taken told = absurd (some refl)
drill-taken start steps ran h (Some text) old new stood sound some taken told =
    subst (λ (x : Option HistoryState). IsDrillDone start steps x old new) (sym stood) (sound, (text, told, taken))

-- the scripts of four plans
pub plans-whole : {W : Type 0} (f : W → List Command) (l l1 l2 l3 l4 : List W) (a b c d : List Command)
    → map f l1 ≡ map f l ++ a ∷ []
    → map f l2 ≡ map f l1 ++ b ∷ [] → map f l3 ≡ map f l2 ++ c ∷ [] → map f l4 ≡ map f l3
    ++ d ∷ [] → l ≡ [] → map f l4 ≡ a ∷ b ∷ c ∷ d ∷ []
plans-whole f l l1 l2 l3 l4 a b c d one two three four empty =
    four ∙ ap (λ t. t ++ d ∷ []) (three ∙ ap (λ t. t ++ c ∷ [])
    (two ∙ ap (λ t. t ++ b ∷ []) (one ∙ ap (λ t. map f t ++ a ∷ []) empty)))

-- the drawn scripts are a session
pub drill-session : (start steps : ℕ) → IsSession (drill_session start steps)
drill-session start steps = record {
  some = omega arith;
  few = omega arith;
  formed = (
    script-formed start steps 1 _ refl,
    (
      script-formed start steps 2 _ refl,
      (script-formed start steps 3 _ refl, (script-formed start steps 4 _ refl, tt)),
    ),
  );
}

-- so it is in a drill, whose PROGRAM then reads
pub whole-drill : (start steps : ℕ) (at : SuperBlock) (H : List Entry1) (begun first : ℕ) (B : Image)
    (V : World) (X : Image)
    → IsDrillRun start steps at.inodes at.blocks false H → Run begun (world_of B first) H V
    → has_fault H ≡ false → ShowsDisk at V X → IsWholeScan V X
whole-drill start steps at H begun first B V X run = whole-by at run.reads.seen H run.reads.flush run.reads.closes.adds
    (subst (λ (m : List Made). Sweeps (λ place item. item ≡ place) Inode 0 at.inodes false [] m)
    (sym (run.reads.adds.others INODE_SWEEPER (omega arith))) run.team.inodes_seen)
    (subst (λ (m : List Made). Sweeps (λ place item. item ≡ at.blocks - 1 - place) Block 0 at.blocks false [] m)
    (sym (run.reads.adds.others BLOCK_SWEEPER (omega arith))) run.team.blocks_seen)
    begun first B V X
