-- The drill: the session of its users, what PROGRAM then reads of their files, and the line that tells of it.
use Rattle.std.specs.Prelude.{◌≡◌, ℕ, ◌+◌, Bool, true, false, List, [], ◌∷◌, ◌++◌, length, map, codes}
use Rattle.std.specs.Prelude.{sum_by, count_by, ◌≤◌, Some, None, Result, Ok, Err, ⊤}
use mathlib.Core.List.{IsPrefix}
use Rattle.std.specs.declared.option.Option.{Option}
use Rattle.nofs_super.specs.declared.superblock.SuperBlock.{SuperBlock}
use Rattle.nofs_history.specs.declared.machine.callers.TheConstants.{PROGRAM}
use Rattle.nofs_history.specs.Machine.{slots_in}
use Rattle.nofs_history.specs.Steps.{Made, is_out_of_memory}
use Rattle.nofs_history.specs.HistoryState.{HistoryState}
use Rattle.nofs_history.specs.declared.machine.history.Entry1.{Entry1}
use Rattle.nofs_history.specs.declared.machine.steps.Step.{Step}
use Rattle.nofs_history.specs.declared.machine.steps.Step.TheVariants as step
use Rattle.nofs_history.specs.declared.machine.replies.Found.{Found}
use Rattle.nofs_history.specs.declared.machine.replies.Stat.{Stat}
use Rattle.nofs_history.specs.declared.machine.replies.Reply.{Reply}
use Rattle.nofs_history.specs.declared.machine.replies.Reply.TheVariants as reply
use Rattle.nofs_history.specs.Callers.{steps_by}
use Rattle.nofs_client.specs.declared.task.commands.Command.{Command}
use Rattle.nofs_client.specs.declared.task.lines.Line.{Line}
use Rattle.nofs_gen.specs.Script.{digit, script_of}
use Rattle.nofs_gen.specs.declared.tally.FileRead.{FileRead}
use Rattle.nofs_gen.specs.Tally.{size_told, sum_told, wrong_told, is_refused_line, drill_line}
use Rattle.nofs_io.specs.Calls.{SinkState}
use Rattle.nofs_io.specs.Texts.{AppendsAll}
use Rattle.nofs_shared.specs.Passes.Entries.{TellsStep}
use Rattle.nofs_serve.specs.Session.{TeamMade}
use Rattle.nofs_history.specs.Faults.{has_fault}
use Rattle.nofs_tool.specs.Session.Entries.{session_lines}
use Rattle.nofs_tool.specs.Session.Serve.{AreSwept}

-- the scripts of the four users
abbrev pub drill_session : ℕ → ℕ → List (List Command)
drill_session start steps = map (script_of start steps) (1 ∷ 2 ∷ 3 ∷ 4 ∷ [])

-- The reading of a file

-- the file that a Look found
abbrev pub found_in : Reply → Option Found
found_in (reply.Found f) = Some f
found_in _ = None

-- what a Stat told
abbrev pub stat_in : Reply → Option Stat
stat_in (reply.Stat s) = Some s
stat_in _ = None

-- a Get of each slot of a file from k on, with these replies
abbrev pub gets_from : Found → ℕ → List Reply → List Made
gets_from f k [] = []
gets_from f k (r ∷ rs) = (step.Get f.inode f.generation k, r) ∷ gets_from f (k + 1) rs

-- each slot below the size of the file was read
abbrev pub IsWholeRead : Found → Stat → Option FileRead → List Made → Type 0
IsWholeRead f s None rest = ⊥
IsWholeRead f s (Some file) rest =
    (file.found ≡ f) × (file.size ≡ s.size) × (length file.slots.items ≡ slots_in s.size)
    × (rest ≡ gets_from f 0 file.slots.items)

-- after a refusal nothing more was asked for, and there is no file; else it went on from what was answered
abbrev pub FollowsAnswer : {A : Type 0} → (A → Option FileRead → List Made → Type 0) → Option A → Option FileRead
    → List Made → Type 0
FollowsAnswer Next None read rest = (read ≡ None) × (rest ≡ [])
FollowsAnswer Next (Some it) read rest = Next it read rest

-- the size of the file was asked for, and then its slots
abbrev pub IsReadAt : Found → Option FileRead → List Made → Type 0
IsReadAt f read made =
    (r : Reply) × (rest : List Made) × (made ≡ (step.Stat f.inode f.generation, r) ∷ rest)
    × FollowsAnswer (IsWholeRead f) (stat_in r) read rest

-- a name of directory d was looked up, which found this
abbrev pub IsLookedUp : ℕ → ℕ → List ℕ → Option Found → List Made → Type 0
IsLookedUp d generation name found made = (r : Reply) × (made ≡ (step.Look d generation name, r) ∷ [])
    × (found ≡ found_in r)

-- the file was looked up in its directory, and then read
abbrev pub IsReadIn : Found → Option FileRead → List Made → Type 0
IsReadIn d read made =
    (r : Reply) × (rest : List Made) × (made ≡ (step.Look d.inode d.generation (codes "f"), r) ∷ rest)
    × FollowsAnswer IsReadAt (found_in r) read rest

-- the directory of a user was looked up in the root, and then its file
abbrev pub IsFileRead : ℕ → Option FileRead → List Made → Type 0
IsFileRead user read made =
    (r : Reply) × (rest : List Made) × (made ≡ (step.Look 1 1 (digit user), r) ∷ rest)
    × FollowsAnswer IsReadIn (found_in r) read rest

-- the files of the users from one on were read, one after the other
abbrev pub AreRead : ℕ → List (Option FileRead) → List Made → Type 0
AreRead user [] made = made ≡ []
AreRead user (read ∷ reads) made = (front : List Made) × (back : List Made) × (made ≡ front ++ back)
    × IsFileRead user read front × AreRead (user + 1)
    reads back

-- each of the four files was read
abbrev pub AreFourRead : List (Option FileRead) → List Made → Type 0
AreFourRead reads made = (length reads ≡ 4) × AreRead 1 reads made

-- A beginning of such a reading: where memory was wanting, no more was asked for

-- no step was made yet
abbrev pub IsNotBegun : List Made → Type 0
IsNotBegun made = made ≡ []

-- the first slots of a file were got, in order, and none that does not lie below its size
abbrev pub AreSlotsBegun : Found → Stat → List Made → Type 0
AreSlotsBegun f s made = (rs : List Reply) × (made ≡ gets_from f 0 rs) × (length rs ≤ slots_in s.size)

-- after a refusal nothing more was asked for; else what follows from the answer was begun
abbrev pub IsAnswerBegun : {A : Type 0} → (A → List Made → Type 0) → Option A → List Made → Type 0
IsAnswerBegun Next None rest = rest ≡ []
IsAnswerBegun Next (Some it) rest = Next it rest

-- no step was made yet; or this one was, and what follows from its reply was begun
abbrev pub IsStepBegun : {A : Type 0} → (Reply → Option A) → (A → List Made → Type 0) → Step → List Made → Type 0
IsStepBegun answer Next s [] = ⊤
IsStepBegun answer Next s (m ∷ rest) = (m.0 ≡ s) × IsAnswerBegun Next (answer m.1) rest

-- the size of the file is asked for first
abbrev pub IsReadAtBegun : Found → List Made → Type 0
IsReadAtBegun f made = IsStepBegun stat_in (AreSlotsBegun f) (step.Stat f.inode f.generation) made

-- the file is looked up in its directory first
abbrev pub IsReadInBegun : Found → List Made → Type 0
IsReadInBegun d made = IsStepBegun found_in IsReadAtBegun (step.Look d.inode d.generation (codes "f")) made

-- the directory of a user is looked up in the root first
abbrev pub IsFileBegun : ℕ → List Made → Type 0
IsFileBegun user made = IsStepBegun found_in IsReadInBegun (step.Look 1 1 (digit user)) made

-- the files of the first users were read, and the reading of the next one's was begun
abbrev pub AreFourBegun : List Made → Type 0
AreFourBegun made = (reads : List (Option FileRead)) × (front : List Made) × (back : List Made)
    × (made ≡ front ++ back) × (length reads ≤ 3) × AreRead 1 reads front × IsFileBegun (length reads + 1) back

-- behind these entries PROGRAM added these steps with their replies, and no other caller anything
pub record AddsOwn (made : List Made) (H K : List Entry1) : Type 0 where
  pub behind : IsPrefix H K
  pub own : steps_by PROGRAM K ≡ steps_by PROGRAM H ++ made
  pub others : (c : ℕ) → 1 ≤ c → steps_by c K ≡ steps_by c H

-- a step that changes nothing, as those are by which the files are read
abbrev pub is_reading : Step → Bool
is_reading (step.Look _ _ _) = true
is_reading (step.Stat _ _) = true
is_reading (step.Get _ _ _) = true
is_reading _ = false

-- all of these steps are such
abbrev pub AreReadings : List Made → Type 0
AreReadings [] = ⊤
AreReadings (m ∷ made) = (is_reading m.0 ≡ true) × AreReadings made

-- this step alone, with this reply
abbrev pub IsOneStep : Step → Reply → List Made → Type 0
IsOneStep s r made = made ≡ (s, r) ∷ []

-- where the result is Ok, the steps are all that a reading makes; else they are a beginning of such
abbrev pub AreStepsOf : {T E : Type 0} → (T → List Made → Type 0) → (List Made → Type 0) → Result T E → List Made
    → Type 0
AreStepsOf Is Begun (Ok t) made = Is t made
AreStepsOf Is Begun (Err e) made = Begun made

-- Whatever the result is, PROGRAM added steps that read, and no other caller anything: where it is Ok the whole
-- reading, and else a beginning of one, which follows the replies so far
pub record ReadsBy {T E : Type 0} (Is : T → List Made → Type 0) (Begun : List Made → Type 0) (result : Result T E)
    (H K : List Entry1) : Type 0 where
  pub made : List Made
  pub adds : AddsOwn made H K
  pub readings : AreReadings made
  pub read : AreStepsOf Is Begun result made

-- What the line tells

-- PROGRAM read the four files and made all durable; and the line has the numbers that follow from the replies to these
-- reads and a replay of the history
pub record IsReadOut (start steps refused : ℕ) (served H : List Entry1) (text : List ℕ) : Type 0 where
  pub seen : List Entry1
  pub reads : List (Option FileRead)
  pub made : List Made
  pub flush : Reply
  pub read : AreFourRead reads made
  pub adds : AddsOwn made served seen
  pub closes : TellsStep PROGRAM (step.Flush 0 0) seen H flush
  pub closed : is_out_of_memory flush ≡ false
  pub tells : text ≡ drill_line start steps refused (sum_by size_told reads) (sum_by sum_told reads)
      (sum_by (wrong_told H) reads)

-- The drawn users were served and every element examined, and then the files were read out. Of the lines, which follow
-- from the replies in the history, those are counted that tell of a refusal
pub record IsDrilled (start steps : ℕ) (H : List Entry1) (text : List ℕ) : Type 0 where
  pub served : List Entry1
  pub inodes : ℕ
  pub blocks : ℕ
  pub lines : List (List Line)
  pub team : TeamMade (drill_session start steps) inodes blocks false lines (λ c. steps_by c served)
  pub out : IsReadOut start steps
      (count_by is_refused_line (session_lines 1 (drill_session start steps) H)) served H text

-- Behind its users, whatever comes of it: PROGRAM reads the four files, one after the other, and flushes the whole
-- disk. Where memory was wanting to a step of these reads, or to keep what it answered (`cut`), they end there: they
-- are a beginning of those that a whole drill makes by the replies so far, and nothing is flushed. `short` tells
-- whether memory was wanting to any part of the drill
pub record IsReadRun (short : Bool) (served H : List Entry1) : Type 0 where
  pub seen : List Entry1
  pub made : List Made
  pub flush : Reply
  pub adds : AddsOwn made served seen
  pub readings : AreReadings made
  pub cut : Bool
  pub read : cut ≡ false → (reads : List (Option FileRead)) × AreFourRead reads made
  pub begun : cut ≡ true → AreFourBegun made
  pub unflushed : cut ≡ true → (short ≡ true) × (H ≡ seen)
  pub closes : TellsStep PROGRAM (step.Flush 0 0) seen H flush
  pub closed : short ≡ false → is_out_of_memory flush ≡ false

-- What a drill adds to the history of a new mount, whatever comes of it: the steps of the drawn users and of the
-- sweeps, which are as those of every session; and behind them those of PROGRAM. Where memory was wanting (`short`),
-- each user may have ended early, or nobody was served
pub record IsDrillRun (start steps inodes blocks : ℕ) (short : Bool) (H : List Entry1) : Type 0 where
  pub served : List Entry1
  pub lines : List (List Line)
  pub team : TeamMade (drill_session start steps) inodes blocks short lines (λ c. steps_by c served)
  pub swept : AreSwept inodes blocks [] served
  pub reads : IsReadRun short served H

-- what a drill leaves: its history, and whether there is a text of it
pub record IsDrillFollowed (start steps : ℕ) (at : SuperBlock) (text : Option (List ℕ)) (H : List Entry1) : Type 0 where
  pub short : Bool
  pub early : short ≡ true → text ≡ None
  pub follows : IsDrillRun start steps at.inodes at.blocks short H

-- its end, after the users were served: `out` tells whether memory was wanting to them
pub record IsReadFollowed (out : Bool) (served : List Entry1) (text : Option (List ℕ)) (H : List Entry1) : Type 0 where
  pub short : Bool
  pub early : short ≡ true → text ≡ None
  pub less : short ≡ false → out ≡ false
  pub reads : IsReadRun short served H

-- a drill whose line the sink took
abbrev pub IsDrillDone : ℕ → ℕ → Option HistoryState → SinkState → SinkState → Type 0
IsDrillDone start steps None old new = ⊥
IsDrillDone start steps (Some h) old new = (has_fault h.entries ≡ false)
    × ((text : List ℕ) × IsDrilled start steps h.entries text × AppendsAll old new text)
