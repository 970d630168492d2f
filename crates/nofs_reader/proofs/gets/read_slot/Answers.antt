use Rattle.std.proofs.Common.{◌+◌, drop, take, ap, ◌∙◌, sym, subst, arith}
use Rattle.nofs_model.specs.declared.image.path.PathAnswer.{PathAnswer}
use Rattle.nofs_agree.specs.Path.{IsCellOf}
use Rattle.nofs_reader.specs.Image.{image_of}
use Rattle.nofs_reader.proofs.OnGets.{put-before, put-behind, slot-value}
use Rattle.nofs_reader.proofs.gets.read_slot.Goals as goal

pub returns-then-wants-clause-before : goal.returns-then-wants-clause-before
returns-then-wants-clause-before c =
    ap (take c.args.place) c.write_bytes_at.ensures
    ∙ put-before c.args.place c.slot.new.last.cell.payload c.args.into.now (omega (arith, c.requires.room))

pub returns-then-wants-clause-value : goal.returns-then-wants-clause-value
returns-then-wants-clause-value c = λ e.
    slot-value (image_of c.args.bytes.now) c.args.it.now.inode c.args.number _ c.in-Holds.field-0 c.slot.new.last.cell
    c.args.into.now c.write_bytes_at.new.bytes c.args.place (sym c.in-Holds.is ∙ c.in_ok-slot.ensures.found)
    c.place_of.ensures.path
    (subst (λ (a : PathAnswer). IsCellOf (image_of c.args.bytes.now) a c.slot.new.last.cell) c.in-Holds.is
    c.in_ok-slot.ensures.cell) c.note_sizes.ensures c.requires.room c.write_bytes_at.ensures

pub returns-then-wants-clause-behind : goal.returns-then-wants-clause-behind
returns-then-wants-clause-behind c =
    ap (drop (c.args.place + 1024)) c.write_bytes_at.ensures
    ∙ put-behind c.args.place 1024 c.slot.new.last.cell.payload c.args.into.now (omega (arith, c.requires.room))
    c.note_sizes.ensures.payload.len
