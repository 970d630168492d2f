use Rattle.std.proofs.Common.{refl, sym, subst, ◌≡◌, true, List}
use Rattle.std.proofs.lemmas.Bool.{or_left}
use Rattle.nofs_mirror.specs.declared.sides.choices.MirrorStart.{MirrorStart}
use Rattle.nofs_mirror.specs.declared.sides.past.MirrorCall.{MirrorCall}
use Rattle.nofs_mirror.specs.Mirror.{last_span}
use Rattle.nofs_mirror.specs.Sides.Past.{mirror_calls}
use Rattle.nofs_mirror.proofs.OnCopying.{kept_begins, side_begins}
use Rattle.nofs_mirror.proofs.mirror.Mirror.of.Goals as goal

pub invariant_of-result : goal.invariant_of-result
invariant_of-result g c =
    let opening : MirrorStart = record {
      blocks = c.args.blocks;
      lead = record { began = c.moment-lead_at.result; ended = c.moment-lead_at.result; is_in = true };
      other = record { began = c.moment-other_at.result; ended = c.moment-other_at.result; is_in = c.args.other_in };
    } in
    let log = c.new.result in
    let past = c.new.ensures.past in
    let F : List MirrorCall → Type 0 =
    λ l. c.new.result.sides.lead_in ≡ (last_span (λ x. x.lead) opening.lead l).is_in in
    let G : List MirrorCall → Type 0 =
    λ l. c.new.result.sides.other_in ≡ (last_span (λ x. x.other) opening.other l).is_in in
    record {
      lead_side = side_begins c.args.blocks log.spare (λ x. x.lead) opening.lead (mirror_calls log.past.value)
          (g.A.Disk.state c.args.lead)
          c.requires.lead c.new.ensures.spare past c.moment-lead_at.ensures;
      other_side = side_begins c.args.blocks log.spare (λ x. x.other) opening.other (mirror_calls log.past.value)
          (g.B.Disk.state c.args.other)
          c.requires.other c.new.ensures.spare past c.moment-other_at.ensures;
      lead_in = subst F (sym past) c.new.ensures.lead_in;
      other_in = subst G (sym past) c.new.ensures.other_in;
      some_in = or_left log.sides.lead_in log.sides.other_in c.new.ensures.lead_in;
      kept = kept_begins (g.A.Disk.state c.args.lead) (g.B.Disk.state c.args.other)
          (g.A.Disk.state c.args.first.value) opening (mirror_calls log.past.value)
          (g.met.A.Disk.is_disk c.args.lead) (g.met.B.Disk.is_disk c.args.other) c.requires.lead c.requires.other
          c.requires.first past refl c.requires.copied;
    }
