-- The laws of Link and Make.
use Rattle.std.proofs.Common.{◌≡◌, ◌≢◌, ℕ, ◌/◌, ◌<◌, length, Some, ap, ◌∙◌, arith}
use Rattle.nofs_disk.specs.declared.tag.Pointer.{Pointer}
use Rattle.nofs_dirent.specs.Entries.{entry_limit}
use Rattle.nofs_model.specs.Geometry.{Image}
use Rattle.nofs_disk.specs.Disk.{cell_at}
use Rattle.nofs_ptrs.specs.Paths.{path_of}
use Rattle.nofs_model.specs.Slots.{find}
use Rattle.nofs_model.specs.Files.{FileState, Files}
use Rattle.nofs_model.specs.declared.image.path.PathAnswer.TheVariants as answer
use Rattle.nofs_model.specs.declared.image.value.Value.{Value}
use Rattle.nofs_model.specs.declared.image.value.Value.TheVariants.{Bytes, Lost}
use Rattle.nofs_history.specs.Machine.{value_of, bytes_in}
use Rattle.nofs_history.specs.History.{FilesMatch}
use Rattle.nofs_crashlaw.proofs.OnFiles.Given.{value-of}
use Rattle.nofs_crashlaw.proofs.OnNames.Renames.{value-held}
use Rattle.nofs_crashlaw.specs.Names.NewEntries.{LawLinkInPlace, LawLinkInHole, LawMakeInPlace, LawMakeInHole}
use Rattle.nofs_crashlaw.proofs.OnNames.Gives.{link-entry-proper, link-record-proper, link-in-place}
use Rattle.nofs_crashlaw.proofs.OnNames.Gives.{make-entry-proper, make-record-proper, make-in-place}
use Rattle.nofs_crashlaw.proofs.OnNames.Holes.{link-hole-entry-proper, link-hole-table-proper, link-in-hole}
use Rattle.nofs_crashlaw.proofs.OnNames.Holes.{make-hole-entry-proper, make-hole-table-proper, make-in-hole}

-- the machine's value of the slot that holds
value-here : (F : Files) (X : Image) (d e : ℕ) (f : FileState) (x : Pointer) → FilesMatch F X → F d ≡ Some f
    → e < entry_limit
    → find X d (path_of (e / 16)) ≡ answer.Holds x → value_of F d (e / 16) ≡ Bytes (cell_at X x.block).payload
value-here F X d e f x match is range held = value-of F d f is (e / 16)
    ∙ value-held F X d (e / 16) f x match is (omega (arith, range)) held

pub law-link-in-place : LawLinkInPlace
law-link-in-place F X Y d g e i of b s name f h x p q =
    let v = value-here F X d e f x p.files p.is p.range q.held in
    let whole : length (bytes_in (value_of F d (e / 16))) ≡ 1024 =
    ap (λ (u : Value). length (bytes_in u)) v ∙ q.whole in
    let sure : value_of F d (e / 16) ≢ Lost = λ l. cc (l, v) in (
      link-entry-proper F X Y d g e i of b s name f h p.files p.is p.generation p.folder p.range p.unpaired p.is_file
          p.of_is p.file p.plain p.place whole
          sure p.spells p.linked p.old x q.held q.writes q.content,
      λ m super area. link-record-proper F X Y d g e i of b s name f h p.files p.is p.generation p.folder p.range
          p.unpaired p.is_file p.of_is p.file p.plain
          p.place whole sure p.spells p.linked p.old m super area q.writes.records,
      link-in-place F X Y d g e i of b s name f h p.files p.is p.generation p.folder p.range p.unpaired p.is_file
          p.of_is p.file p.plain p.place whole sure
          p.spells p.linked p.old x q.held q.writes q.content,
    )

pub law-link-in-hole : LawLinkInHole
law-link-in-hole F X Y d g e i of b s name f h x y p q = (
  link-hole-entry-proper F X Y d g e i of b s name f h x y p.files p.is p.generation p.folder p.range p.unpaired
      p.is_file p.of_is p.file p.plain p.place
      q.empty p.spells p.linked p.old q.claimed q.content,
  link-hole-table-proper F X Y d g e i of b s name f h x y p.files p.is p.generation p.folder p.range p.unpaired
      p.is_file p.of_is p.file p.plain p.place
      q.empty p.spells p.linked p.old q.claimed q.content,
  link-in-hole F X Y d g e i of b s name f h x y p.files p.is p.generation p.folder p.range p.unpaired p.is_file p.of_is
      p.file p.plain p.place q.empty
      p.spells p.linked p.old q.claimed q.content,
)

pub law-make-in-place : LawMakeInPlace
law-make-in-place F X Y d g e s name kind claims f x p q =
    let v = value-here F X d e f x p.files p.is p.range q.held in
    let whole : length (bytes_in (value_of F d (e / 16))) ≡ 1024 =
    ap (λ (u : Value). length (bytes_in u)) v ∙ q.whole in
    let sure : value_of F d (e / 16) ≢ Lost = λ l. cc (l, v) in (
      make-entry-proper F X Y d g e s name kind claims f p.files p.is p.generation p.folder p.range p.unpaired p.none
          p.plain p.young whole sure p.spells
          p.made p.old x q.held q.writes q.content,
      λ m super area fresh stands. make-record-proper F X Y d g e s name kind claims f p.files p.is p.generation
          p.folder p.range p.unpaired p.none p.plain
          p.young whole sure p.spells p.made p.old m super area q.writes.records fresh stands,
      make-in-place F X Y d g e s name kind claims f p.files p.is p.generation p.folder p.range p.unpaired p.none
          p.plain p.young whole sure p.spells p.made
          p.old x q.held q.writes q.content,
    )

pub law-make-in-hole : LawMakeInHole
law-make-in-hole F X Y d g e s name kind claims f y p q = (
  make-hole-entry-proper F X Y d g e s name kind claims f y p.files p.is p.generation p.folder p.range p.unpaired p.none
      p.plain p.young q.empty p.spells
      p.made p.old q.claimed q.content,
  make-hole-table-proper F X Y d g e s name kind claims f y p.files p.is p.generation p.folder p.range p.unpaired p.none
      p.plain p.young q.empty p.spells
      p.made p.old q.claimed q.content,
  make-in-hole F X Y d g e s name kind claims f y p.files p.is p.generation p.folder p.range p.unpaired p.none p.plain
      p.young q.empty p.spells p.made p.old
      q.claimed q.content,
)
