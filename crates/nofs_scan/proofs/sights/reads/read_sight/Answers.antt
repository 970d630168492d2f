use Rattle.std.proofs.Common.{subst, refl}
use Rattle.nofs_disk.specs.Tag.{tag_of}
use Rattle.nofs_disk.specs.Disk.{cell_at}
use Rattle.nofs_inode.specs.declared.inode.Record.{Record}
use Rattle.nofs_model.specs.Geometry.{inode}
use Rattle.nofs_history.specs.declared.machine.steps.ElementKind.{ElementKind}
use Rattle.nofs_scan.specs.Steps.Elements.{HasElement}
use Rattle.nofs_scan.specs.Sights.Verdicts.{block_sight, inode_sight, link_sights, tagged_in}
use Rattle.nofs_scan.proofs.OnSteps.Looks.{block-looked, inode-looked}
use Rattle.nofs_scan.proofs.OnSights.Reads.{reads-record, reads-sees, sees-both}
use Rattle.nofs_scan.proofs.sights.reads.read_sight.Goals as goal

pub returns-in_ok-links-in-Inode-clause-looks : goal.returns-in_ok-links-in-Inode-clause-looks
returns-in_ok-links-in-Inode-clause-looks g c =
    let range = subst (λ (kind : ElementKind). HasElement kind c.args.at.now c.args.item) c.in-Inode.is
    c.requires.range in
    let sees = sees-both _ _ _ (λ X. inode X c.args.item) (λ r X. link_sights X r.links)
    (λ r ls. record { inode = c.args.item; generation = r.generation; kind = r.kind; links = ls })
    (λ X. inode_sight X c.args.item) c.read_record.new.reads.in_table _ _ _ c.in_ok-links-in-Inode.links
    (reads-sees _ _ c.args.known.now _ _
    (reads-record _ _ c.args.item c.read_record.new.reads (λ (r : Record). r) _
    c.in_ok-read_record-in-Inode.ensures refl))
    c.in_ok-links-in-Inode.ensures (λ X. refl) in
    rw c.in-Inode.is (inode-looked _ _ c.args.at.now _ _ c.args.item _ c.requires.numbers range sees refl)

pub returns-in_ok-tagged-in-Block-clause-looks : goal.returns-in_ok-tagged-in-Block-clause-looks
returns-in_ok-tagged-in-Block-clause-looks g c =
    let range = subst (λ (kind : ElementKind). HasElement kind c.args.at.now c.args.item) c.in-Block.is
    c.requires.range in
    let sees = sees-both _ _ _ (λ X. tag_of (cell_at X c.args.item).tag) (λ t X. tagged_in X t)
    (λ t s. record { block = c.args.item; tagged = s })
    (λ X. block_sight X c.args.item) c.in_ok-tag-in-Block.tag _ _ _ c.in_ok-tagged-in-Block.tagged
    (reads-sees _ _ c.args.known.now _ _ c.in_ok-tag-in-Block.ensures.answers)
    c.in_ok-tagged-in-Block.ensures.sees (λ X. refl) in
    rw c.in-Block.is
    (block-looked _ _ c.args.at.now _ _ c.args.item _ c.requires.numbers range c.if-item-at.false sees refl)
