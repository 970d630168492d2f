-- What a drill leaves in the history, whatever comes of it.
use Rattle.std.proofs.Common.{◌≡◌, inl, ℕ, Bool, true, false, not, List, [], length, drop, Ok, None, refl, sym}
use Rattle.std.proofs.Common.{ap, ◌∙◌, subst, arith}
use Rattle.std.specs.declared.option.Option.{Option}
use Rattle.nofs_super.specs.declared.superblock.SuperBlock.{SuperBlock}
use Rattle.nofs_history.specs.Steps.{is_out_of_memory}
use Rattle.nofs_history.specs.declared.machine.history.Entry1.{Entry1}
use Rattle.nofs_history.specs.declared.machine.steps.Step.TheVariants as step
use Rattle.nofs_history.specs.declared.machine.replies.Reply.{Reply}
use Rattle.nofs_history.specs.declared.machine.replies.Reply.TheVariants as reply
use Rattle.nofs_history.specs.declared.machine.replies.Refusal.TheVariants as refusal
use Rattle.nofs_history.specs.Callers.{steps_by}
use Rattle.nofs_client.specs.declared.task.commands.Command.{Command}
use Rattle.nofs_client.specs.declared.task.lines.Line.{Line}
use Rattle.nofs_shared.specs.Passes.Entries.{TellsStep}
use Rattle.nofs_serve.specs.Session.{TeamMade, TeamServed}
use Rattle.nofs_serve.proofs.OnSession.{team-unserved}
use Rattle.nofs_gen.specs.declared.tally.FileRead.{FileRead}
use Rattle.nofs_tool.specs.Drill.{AreFourBegun, AreFourRead, IsDrillFollowed, IsReadFollowed, ReadsBy, drill_session}
use Rattle.nofs_tool.specs.Session.Serve.{AreSwept}
use Rattle.nofs_tool.proofs.OnSession.Serve.{not-flushed, sweeps-shorter}
use Rattle.nofs_tool.proofs.OnDrill.Reads.{BeginsBy, none-begun}

-- the flush of PROGRAM
abbrev pub Flushes : Bool → List Entry1 → List Entry1 → Type 0
Flushes closed seen H = (flush : Reply) × TellsStep 0 (step.Flush 0 0) seen H flush
    × (closed ≡ not (is_out_of_memory flush))

flush-told : (b : Bool) → not (not b) ≡ false → b ≡ false
flush-told true e = e
flush-told false e = refl

-- memory was wanting to the reads: they were cut, and nothing was flushed or said
pub read-cut : (out : Bool) (served seen entries : List Entry1) (text : Option (List ℕ)) → entries ≡ seen → text ≡ None
    → BeginsBy AreFourBegun served seen
    → IsReadFollowed out served text entries
read-cut out served seen entries text ends said r = let (made, adds, readings, begun) = r in
    record {
      short = true;
      early = λ e. said;
      less = λ e. absurd (cc);
      reads = record {
        seen = seen;
        made = made;
        flush = reply.Refused refusal.OutOfMemory;
        adds = adds;
        readings = readings;
        cut = true;
        read = λ e. absurd (cc);
        begun = λ e. begun;
        unflushed = λ e. (refl, ends);
        closes = not-flushed seen entries ends;
        closed = λ e. absurd (cc);
      };
    }

-- the files were read, and the flush was tried; where memory was wanting to another part, `short`, nothing was said
pub read-whole : {T E : Type 0} (t : T) (list : T → List (Option FileRead)) (short out closed : Bool)
    (served seen H entries : List Entry1) (text : Option (List ℕ))
    → entries ≡ H → (short ≡ true → text ≡ None) → (short ≡ false → (out ≡ false) × (closed ≡ true))
    → ReadsBy {T = T} {E = E} (λ x made. AreFourRead (list x) made) AreFourBegun (Ok t) served seen
    → Flushes closed seen H
    → IsReadFollowed out served text entries
read-whole t list short out closed served seen H entries text ends said whole r close =
    let (flush, closes, is) = close in
    record {
      short = short;
      early = said;
      less = λ e. (whole e).0;
      reads = record {
        seen = seen;
        made = r.made;
        flush = flush;
        adds = r.adds;
        readings = r.readings;
        cut = false;
        read = λ e. (list t, r.read);
        begun = λ e. absurd (cc);
        unflushed = λ e. absurd (cc);
        closes = subst (λ (h : List Entry1). TellsStep 0 (step.Flush 0 0) seen h flush) (sym ends) closes;
        closed = λ e. flush-told (is_out_of_memory flush) (ap not (sym is ∙ (whole e).1));
      };
    }

-- and a team was at work before
pub drill-follows : (start steps : ℕ) (at : SuperBlock) (out : Bool) (lines : List (List Line))
    (scripts : List (List Command)) (before served H : List Entry1)
    (text : Option (List ℕ)) → scripts ≡ drill_session start steps
    → before ≡ [] → TeamServed scripts at.inodes at.blocks out lines before served
    → AreSwept at.inodes at.blocks before served
    → IsReadFollowed out served text H → IsDrillFollowed start steps at text H
drill-follows start steps at out lines scripts before served H text same empty t swept r =
    let first : TeamMade scripts at.inodes at.blocks out lines (λ c. steps_by c served) = subst
    (λ (h : List Entry1). TeamMade scripts at.inodes at.blocks out lines
    (λ c. steps_by c (drop (length h) served))) empty t.made in
    let named : TeamMade (drill_session start steps) at.inodes at.blocks out lines (λ c. steps_by c served) = subst
    (λ (s : List (List Command)). TeamMade s at.inodes at.blocks out lines (λ c. steps_by c served)) same first in
    record {
      short = r.short;
      early = r.early;
      follows = record {
        served = served;
        lines = lines;
        team = record {
          begun = named.begun;
          served = λ e. named.served (r.less e);
          inodes_seen = sweeps-shorter _ _ at.inodes out r.short _ r.less named.inodes_seen;
          blocks_seen = sweeps-shorter _ _ at.blocks out r.short _ r.less named.blocks_seen;
          others = named.others;
        };
        swept = subst (λ (h : List Entry1). AreSwept at.inodes at.blocks h served) empty swept;
        reads = r.reads;
      };
    }

-- nobody was served, and nothing said
pub drill-unserved : (start steps : ℕ) (at : SuperBlock) (text : Option (List ℕ)) (H : List Entry1)
    → H ≡ [] → text ≡ None
    → IsDrillFollowed start steps at text H
drill-unserved start steps at text H none said =
    drill-follows start steps at true [] (drill_session start steps) [] [] H text refl refl
    (team-unserved (drill_session start steps) at.inodes at.blocks true [] [] [] refl refl) (inl refl)
    (read-cut true [] [] H text none said
    (none-begun AreFourBegun [] [] refl ([], [], [], refl, omega arith, refl, tt)))
