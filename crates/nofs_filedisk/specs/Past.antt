-- The calls that a disk in a file has had.
use Rattle.std.specs.Prelude.{List, [], ◌∷◌, ◌++◌}
use Rattle.nofs_versions.specs.declared.call.Call.{Call}
use Rattle.nofs_versions.specs.declared.call.Call.TheVariants as call
use Rattle.nofs_filedisk.specs.declared.past.FileCall.{FileCall}
use Rattle.nofs_filedisk.specs.declared.past.FileCall.TheVariants.{Write, Flush}
use Rattle.nofs_filedisk.specs.declared.past.FilePast.{FilePast}
use Rattle.nofs_filedisk.specs.declared.past.FilePast.TheOpen.{FilePast-F}
use Rattle.nofs_filedisk.specs.declared.past.FilePast.TheFolds.{fold-FilePast}

-- a call, as a disk in memory has it
abbrev pub call_of : FileCall → Call
call_of (Write block cell taken) = call.Write block cell.value taken
call_of (Flush settles) = call.Flush settles

-- one call more
abbrev pub file_calls_step : FilePast-F (List Call) → List Call
file_calls_step FilePast-F.Start = []
file_calls_step (FilePast-F.Made made earlier) = earlier.value ++ call_of made ∷ []

-- the calls of a past, the first one first
abbrev pub file_calls : FilePast → List Call
file_calls = fold-FilePast (List Call) file_calls_step
