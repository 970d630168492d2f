use Rattle.std.proofs.Common.{refl}
use Rattle.nofs_inode.specs.declared.inode.Record.{Record}
use Rattle.nofs_model.specs.Geometry.{inode}
use Rattle.nofs_model.specs.Places.{place_path}
use Rattle.nofs_scan.specs.Sights.Verdicts.{owner_sight, slot_way, way_in}
use Rattle.nofs_scan.proofs.OnSights.Reads.{reads-both, reads-record}
use Rattle.nofs_scan.proofs.sights.reads.read_slot_way.Goals as goal

pub returns-clause-answers : goal.returns-clause-answers
returns-clause-answers g c =
    reads-both _ _ _ (λ X. owner_sight (inode X c.args.inode) (place_path c.args.place))
    (λ o X. way_in X o.pointer.block (place_path c.args.place)) (λ o w. (o, w))
    (λ X. slot_way X (inode X c.args.inode) (place_path c.args.place))
    c.owner_sight-owner.result c.in_ok-way.way
    (reads-record _ _ c.args.inode c.read_record.new.reads (λ (r : Record). owner_sight r (place_path c.args.place)) _
    c.in_ok-read_record.ensures c.owner_sight-owner.ensures)
    c.in_ok-way.ensures.answers (λ X. refl)
