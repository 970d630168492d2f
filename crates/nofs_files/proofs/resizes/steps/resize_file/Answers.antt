use Rattle.nofs_files.proofs.OnResizes.Reads.{cut-goes, ends-unedged, ends-unmarked, ends-untailed, may-cut}
use Rattle.nofs_files.proofs.resizes.steps.resize_file.Goals as goal

pub returns-in-Err : goal.returns-in-Err
returns-in-Err g c =
    ends-unedged (g.met.D.Disk.is_disk c.args.core.now.disk) c.requires.may c.kept_slots-kept.ensures.within
    c.kept_slots-kept.ensures.kept
    c.in-Err.is c.find_edge.ensures

pub returns-in-Err-mark_cut : goal.returns-in-Err-mark_cut
returns-in-Err-mark_cut g c =
    ends-unmarked (g.met.D.Disk.is_disk c.args.core.now.disk) c.requires.may c.kept_slots-kept.ensures.within
    c.kept_slots-kept.ensures.kept
    c.in-Ok.ensures c.in-Err-mark_cut.is c.mark_cut.ensures

pub returns : goal.returns
returns g c = ends-untailed (g.met.D.Disk.is_disk c.args.core.now.disk) c.requires.may c.kept_slots-kept.ensures.within
    c.kept_slots-kept.ensures.kept
    c.in-Ok.ensures c.in-Ok-mark_cut.ensures c.in-Err-find_tail.ensures

pub returns-in-Ok-find_tail : goal.returns-in-Ok-find_tail
returns-in-Ok-find_tail g c =
    cut-goes (g.met.D.Disk.is_disk c.args.core.now.disk) c.requires.may c.kept_slots-kept.ensures.within
    c.kept_slots-kept.ensures.kept
    c.in-Ok.ensures c.in-Ok-mark_cut.ensures c.in-Ok-find_tail.ensures c.resize_cut.result c.resize_cut.ensures

pub resize_cut-requires-clause-may : goal.resize_cut-requires-clause-may
resize_cut-requires-clause-may g c =
    may-cut (g.met.D.Disk.is_disk c.args.core.now.disk) c.requires.may c.kept_slots-kept.ensures.within
    c.kept_slots-kept.ensures.kept
    c.in-Ok.ensures c.in-Ok-mark_cut.ensures c.in-Ok-find_tail.ensures c.note_file.ensures.size
    c.note_file.ensures.eight
