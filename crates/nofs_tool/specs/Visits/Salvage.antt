-- What a salvage tells: a line for each loss, by the machine's world as the mount found it.
use Rattle.std.specs.Prelude.{◌≡◌, ◌≢◌, ℕ, Bool, true, false, ◌&&◌, List, [], ◌++◌, All, IfOk, IfSome, flat_map, codes}
use Rattle.std.specs.Prelude.{Result, Ok, Err}
use Rattle.std.specs.Prelude.{if◌then◌else◌, None, Some}
use Rattle.std.proofs.Common.{refl, sym, subst, append-nil}
use Rattle.std.proofs.lemmas.List.Elements.{All-nil}
use Rattle.std.specs.Fmt.{decimal}
use Rattle.std.specs.declared.option.Option.{Option}
use Rattle.nofs_disk.specs.Disk.{DiskState}
use Rattle.nofs_io.specs.Calls.{SinkState}
use Rattle.nofs_io.specs.Texts.{AppendsAll}
use Rattle.nofs_history.specs.HistoryState.{HistoryState}
use Rattle.nofs_history.specs.Steps.{Made}
use Rattle.nofs_history.specs.World.{World}
use Rattle.nofs_history.specs.declared.machine.replies.Refusal.TheVariants as refusal
use Rattle.nofs_history.specs.Callers.{steps_by}
use Rattle.nofs_client.specs.declared.task.lines.Line.TheVariants as line
use Rattle.nofs_script.specs.Text.{text_of}
use Rattle.nofs_history.specs.Faults.{has_fault}
use Rattle.nofs_tool.specs.Session.Whole.{IsMet, found_world}
use Rattle.nofs_tool.specs.Runs.Says.{Prints}
use Rattle.nofs_salvage.specs.Walk.Answers.{AreAnswered}
use Rattle.nofs_salvage.specs.Walk.Steps.{IsReadingStep, MakesReads, refusal_by}
use Rattle.nofs_salvage.specs.Walk.Refusals.{HasRoots, MayRefuse, is_there}
use Rattle.nofs_salvage.specs.Report.Losses.{report_of}
use Rattle.nofs_salvage.specs.declared.report.report.Loss.{Loss}
use Rattle.nofs_salvage.specs.declared.report.report.Loss.TheVariants as loss
use Rattle.nofs_salvage.specs.declared.report.fault.SalvageFault.{SalvageFault}
use Rattle.nofs_salvage.specs.declared.report.fault.SalvageFault.TheVariants as fault

-- the line of a loss
abbrev pub loss_line : Loss → List ℕ
loss_line (loss.Slot inode slot) = codes "lost " ++ decimal inode ++ codes " slot " ++ decimal slot ++ codes "\n"
loss_line (loss.Dead directory name) = codes "dead " ++ decimal directory ++ codes " " ++ name ++ codes "\n"
loss_line (loss.Twice directory name) = codes "twice " ++ decimal directory ++ codes " " ++ name ++ codes "\n"

-- of a report
abbrev pub losses_text : List Loss → List ℕ
losses_text losses = flat_map loss_line losses

-- of a walk: its report, or why it was refused
abbrev pub walk_text : Result (List Loss) SalvageFault → List ℕ
walk_text (Ok losses) = losses_text losses
walk_text (Err (fault.Refused why)) = text_of (line.Refused why)
walk_text (Err fault.OutOfMemory) = []

-- steps that only read files and names
abbrev pub AreReads : List Made → Type 0
AreReads made = All (λ m. IsReadingStep m.0) made

-- a walk from old to new: what it came to is told of a world by which its steps were answered
pub record IsWalk (picks : List ℕ → Bool) (told : Result (List Loss) SalvageFault) (old new : List Made) : Type 0 where
  pub reads : MakesReads old new (refusal_by told)
  pub report : IfOk told (λ report. (W : World) → AreAnswered W old new → report ≡ report_of W picks)
  pub refused : (W : World) → HasRoots W.files → AreAnswered W old new → IfSome (refusal_by told) (MayRefuse W.files)
  pub agreed : IfOk told
      (λ report. (W : World) → AreAnswered W old new → (is_there W.files 1 1 ≡ true) × (is_there W.files 2 2 ≡ true))

-- the root and the label file are there
abbrev pub has_both : World → Bool
has_both W = is_there W.files 1 1 && is_there W.files 2 2

-- the text of a salvage of a world
abbrev pub salvage_text : World → (List ℕ → Bool) → List ℕ
salvage_text W picks = if has_both W then losses_text (report_of W picks) else text_of (line.Refused refusal.Stale)

-- a walk that has not begun
pub walk_none : (picks : List ℕ → Bool) (told : Result (List Loss) SalvageFault) (made : List Made)
    → told ≡ Err fault.OutOfMemory → IsWalk picks told made made
walk_none picks told made is =
    subst (λ (t : Result (List Loss) SalvageFault). IsWalk picks t made made) (sym is) (record {
      reads = record {
        made = [];
        more = sym (append-nil made);
        read = All-nil (λ (m : Made). IsReadingStep m.0);
        refused = refl;
      };
      report = tt;
      refused = λ W roots a. tt;
      agreed = tt;
    })

-- FIRST_USER walked, and the text tells of its walk, which did not end for want of memory, over any disk. Where the
-- premises are met and no call of the device failed, it is that of the report of the world that the mount found
pub record IsWalkTold (picks : List ℕ → Bool) (found : DiskState) (h : HistoryState) (text : List ℕ) : Type 0 where
  pub result : Result (List Loss) SalvageFault
  pub ended : result ≢ Err fault.OutOfMemory
  pub walk : IsWalk picks result [] (steps_by 1 h.entries)
  pub tells : text ≡ walk_text result
  pub whole : ∥ (IsMet found → has_fault h.entries ≡ false → text ≡ salvage_text (found_world found) picks) ∥₁

-- a salvage was made: no call of the device failed, and the sink took its text
abbrev pub IsSalvaged : (List ℕ → Bool) → DiskState → Option HistoryState → SinkState → SinkState → Type 0
IsSalvaged picks found None old new = ⊥
IsSalvaged picks found (Some h) old new = (has_fault h.entries ≡ false)
    × ((text : List ℕ) × IsWalkTold picks found h text × AppendsAll old new text)

-- the text of the walk that was made
abbrev pub SaysWalk : (List ℕ → Bool) → DiskState → Option HistoryState → SinkState → SinkState → Type 0
SaysWalk picks found h old new = IfSome h (λ x. (text : List ℕ) × IsWalkTold picks found x text × Prints old new text)
