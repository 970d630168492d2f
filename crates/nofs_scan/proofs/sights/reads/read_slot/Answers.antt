use Rattle.nofs_model.specs.Files.{agreed, files_in}
use Rattle.nofs_model.specs.Geometry.{inode}
use Rattle.nofs_model.specs.Places.{place_path}
use Rattle.nofs_ptrs.specs.Paths.{Path}
use Rattle.nofs_scan.specs.Sights.Verdicts.{first_pointer, owner_sight, slot_way, tag_sight, way_in}
use Rattle.nofs_scan.proofs.OnSights.Reads.{reads-sees, sees-both}
use Rattle.nofs_scan.proofs.sights.reads.read_slot.Goals as goal

pub returns-clause-sees : goal.returns-clause-sees
returns-clause-sees g c = sees-both _ _ _
    (λ X. slot_way X (inode X c.args.tag.inode) (place_path c.place_of.result))
    (λ w X. agreed (files_in X) c.args.tag.inode)
    (λ w a. record { tag = c.args.tag; owner = w.0; way = w.1; agreed = a }) (λ X. tag_sight X c.args.tag)
    c.in_ok-found.found _ _ _ c.in_ok-agreed.agreed (reads-sees _ _ c.args.known.now _ _ c.in_ok-found.ensures.answers)
    c.in_ok-agreed.ensures
    (λ X j. let path : Path = c.place_of.ensures.path j in record {
      tag = c.args.tag;
      owner = owner_sight (inode X c.args.tag.inode) path;
      way = way_in X (first_pointer (inode X c.args.tag.inode) path).block path;
      agreed =
          agreed (files_in X) c.args.tag.inode;
    })
