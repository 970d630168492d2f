use Rattle.std.proofs.Common.{length, ap, arith, ◌∙◌}
use Rattle.nofs_disk.specs.Parts.{length-put_bytes}
use Rattle.nofs_filedisk.proofs.OnWindows.{put-known}
use Rattle.nofs_filedisk.proofs.windows.Window.put.Goals as goal

pub invariant_of-self : goal.invariant_of-self
invariant_of-self c =
    let size = c.args.self.now.size in
    let fits = c.place_of.ensures.fits in
    let len = c.requires in
    record {
      size = ap length c.put_part.ensures ∙ length-put_bytes c.place_of.result c.args.part.now
          c.args.self.now.bytes.items (omega arith) ∙ size;
    }

pub returns-then-has : goal.returns-then-has
returns-then-has c old new put shown =
    let window = c.args.self.now in
    put-known window.number c.args.block c.place_of.result c.args.part.now old new window.bytes.items
    c.put_part.new.bytes.items
    (c.has.ensures.yes c.if-has.true) c.place_of.ensures.value c.requires put window.size c.put_part.ensures shown
