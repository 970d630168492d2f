use Rattle.nofs_reader.proofs.OnDisk.{page-is-bad}
use Rattle.nofs_reader.proofs.disk.ImageDisk.bad_page.Goals as goal

pub returns : goal.returns
returns c =
    let d = c.args.self.now in
    page-is-bad c.args.bytes.now d.bytes.now d.refused d.spare d.faults d.bad c.requires.stays c.requires.rose d.noted
