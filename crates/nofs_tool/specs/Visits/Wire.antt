-- What serving the frames of a source leaves, by its status.
use Rattle.std.specs.Prelude.{◌≡◌, ◌≢◌, ◌⊎◌, ℕ, ◌+◌, Bool, List, [], ◌++◌, map, IfSome, None, if◌then◌else◌}
use Rattle.std.proofs.Common.{sym, subst}
use Rattle.std.specs.declared.option.Option.{Option}
use Rattle.std.specs.Io.KnownBytes.{Consumes}
use Rattle.nofs_disk.specs.Disk.{DiskState, Rose}
use Rattle.nofs_io.specs.Calls.{SourceState, SinkState}
use Rattle.nofs_io.specs.Texts.{TakesJust}
use Rattle.nofs_history.specs.HistoryState.{HistoryState}
use Rattle.nofs_history.specs.Steps.{Made}
use Rattle.nofs_history.specs.declared.machine.steps.Step.{Step}
use Rattle.nofs_history.specs.Callers.{steps_by, made_step}
use Rattle.nofs_history.specs.Faults.{has_fault}
use Rattle.nofs_wire.specs.Frames.Split.{frames_of}
use Rattle.nofs_wire.specs.Server.Serve.{Serves}
use Rattle.nofs_wire.specs.declared.server.serve.WireEnd.{WireEnd}
use Rattle.nofs_wire.specs.declared.server.serve.WireEnd.TheVariants as ended
use Rattle.nofs_wire.proofs.OnServer.Serve.{serves-nothing}
use Rattle.nofs_tool.specs.Runs.Tool.{IsFaultless, IsFaulty, IsRefusedBy, IsStatus}

-- These are the first steps of the frames of what was taken; the rest of it has further ones, or is cut or bad
abbrev pub IsWired : Option (List ℕ) → Option (List ℕ) → List Made → Type 0
IsWired left new_left made =
    (front : List ℕ) × (back : List ℕ) × (steps : List Step) × Consumes left new_left (front ++ back)
    × (frames_of front ≡ map made_step made ++ steps)

-- what a server has done by these steps: source and sink are those that were lent to it, and their faults explain its
-- end
pub record HasServed {Q K : Type 0} (source : Q → SourceState) (sink : K → SinkState) (e : WireEnd) (from to : Q)
    (into done : K) (made new_made : List Made)
    : Type 0 where
  pub serves : Serves 16777216 e (source from).left (source to).left (sink into).given (sink done).given made new_made
  pub source_fault : e ≡ ended.SourceFault → Rose (source from).faults (source to).faults
  pub sink_fault : e ≡ ended.SinkFault → Rose (sink into).faults (sink done).faults

-- nothing, where it has not begun
pub served_none : {Q K : Type 0} (source : Q → SourceState) (sink : K → SinkState) (e : WireEnd) (q : Q) (k : K)
    (made : List Made) → e ≡ ended.OutOfMemory
    → HasServed source sink e q q k k made made
served_none source sink e q k made is =
    subst (λ (x : WireEnd). HasServed source sink x q q k k made made) (sym is) (record {
      serves = serves-nothing 16777216 (source q).left (sink k).given made;
      source_fault = λ h. absurd (cc h);
      sink_fault = λ h. absurd (cc h);
    })

-- the status of an end, where an entry has a fault of the device or none has
abbrev pub end_status : WireEnd → Bool → ℕ
end_status ended.SourceFault faulty = 6
end_status ended.TooLong faulty = 8
end_status (ended.Cut at) faulty = 2
end_status (ended.Bad at) faulty = 2
end_status ended.OutOfMemory faulty = 7
end_status ended.SinkFault faulty = if faulty then 3 else 5
end_status ended.End faulty = if faulty then 3 else 0

-- where memory was wanting beside it, that comes first
abbrev pub wire_status : Bool → WireEnd → Bool → ℕ
wire_status short end faulty = if short then 7 else end_status end faulty

-- A mount served the frames: FIRST_USER made just their steps, the sink took just their replies, and the status is that
-- of the end
pub record IsWireRun (source_old source_new : SourceState) (sink_old sink_new : SinkState) (status : ℕ)
    (h : HistoryState) : Type 0 where
  pub short : Bool
  pub end : WireEnd
  pub serves : Serves 16777216 end source_old.left source_new.left sink_old.given sink_new.given []
      (steps_by 1 h.entries)
  pub status_is : status ≡ wire_status short end (has_fault h.entries)

-- what comes of frames
pub record WireEnds (old new : DiskState) (source_old source_new : SourceState) (sink_old sink_new : SinkState)
    (status : ℕ) (h : Option HistoryState)
    : Type 0 where
  pub named : IsStatus status × (status ≢ 1)
  pub run : IfSome h (IsWireRun source_old source_new sink_old sink_new status)
  pub stood : (status ≡ 0) ⊎ (status ≡ 2) ⊎ (status ≡ 5) ⊎ (status ≡ 6) ⊎ (status ≡ 8) → h ≢ None
  -- without a mount nothing was taken
  pub unread : h ≡ None → source_new ≡ source_old
  pub source : status ≡ 6 → Rose source_old.faults source_new.faults
  pub too_long : status ≡ 8 → TakesJust source_old source_new (16777216 + 1)
  pub device : status ≡ 3 → IsFaulty h × Rose old.faults new.faults
  pub sink : status ≡ 5 → Rose sink_old.faults sink_new.faults × IsFaultless h
  pub refused : status ≡ 4 → (h ≡ None) × IsRefusedBy None old new
