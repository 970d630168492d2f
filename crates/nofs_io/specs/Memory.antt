-- What a source and a sink in memory keep.
use Rattle.std.specs.Prelude.{ℕ, List, Some}
use Rattle.nofs_io.specs.Calls.{SourceState, SinkState}

-- what contracts see of a source in memory
pub record MemSourceState : Type 0 where
  -- the bytes that are left
  pub left : List ℕ
  -- how many bytes a call gives at most
  pub piece : ℕ
  -- the numbers of the calls that fail
  pub fails : List ℕ
  -- how many calls there were
  pub calls : ℕ
  -- how many of them failed
  pub faults : ℕ

-- a source in memory as a source
abbrev pub source_of : MemSourceState → SourceState
source_of s = record { left = Some s.left; faults = s.faults }

-- what contracts see of a sink in memory
pub record MemSinkState : Type 0 where
  -- the bytes that it took
  pub given : List ℕ
  -- for how many more bytes there is room
  pub room : ℕ
  -- the numbers of the calls that fail
  pub fails : List ℕ
  -- how many calls there were
  pub calls : ℕ
  -- how many of them failed
  pub faults : ℕ

-- a sink in memory as a sink
abbrev pub sink_of : MemSinkState → SinkState
sink_of s = record { given = Some s.given; faults = s.faults }
