-- The parts of a line's text.
use Rattle.std.specs.Prelude.{ℕ, List, [], ◌++◌, flat_map}
use Rattle.std.specs.Fmt.{decimal}
use Rattle.hex.specs.Hex.{encode_lower}
use Rattle.nofs_client.specs.declared.task.lines.Line.{Line}
use Rattle.nofs_client.specs.declared.task.lines.Line.TheVariants as line
use Rattle.nofs_script.specs.Text.{got_text, listed_text}
use Rattle.nofs_script.specs.declared.parts.LinePart.{LinePart}
use Rattle.nofs_script.specs.declared.parts.LinePart.TheVariants as part

-- what a part of a line spells
abbrev pub part_text : LinePart → List ℕ
part_text (part.Words words) = words.now
part_text (part.Counted words number) = words.now ++ decimal number
part_text (part.Digits bytes) = encode_lower bytes.now
part_text (part.Name name) = name.now

-- and all of them, in order
abbrev pub parts_text : List LinePart → List ℕ
parts_text parts = flat_map part_text parts

-- what a line lists, between its head and the line feed
abbrev pub middle_text : Line → List ℕ
middle_text line.Made = []
middle_text (line.Put n) = []
middle_text (line.Got parts) = flat_map got_text parts
middle_text (line.Sized n) = []
middle_text (line.Stat stat) = []
middle_text (line.Names parts) = flat_map listed_text parts
middle_text line.Linked = []
middle_text line.Dropped = []
middle_text line.Renamed = []
middle_text line.Synced = []
middle_text line.Moved = []
middle_text (line.Refused r) = []
middle_text (line.RefusedPut r stored) = []
