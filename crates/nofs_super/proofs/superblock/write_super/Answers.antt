use Rattle.std.proofs.Common.{◌≡◌, List, ℕ, ap, arith, subst, sym, ◌∙◌}
use Rattle.std.proofs.lemmas.Grind.{common_steps}
use Rattle.nofs_disk.specs.Number.{IsBytes}
use Rattle.nofs_super.specs.Format.{super_payload}
use Rattle.nofs_super.specs.Super.{check_super, super_of}
use Rattle.nofs_super.specs.Spelling.{IsBytes-super_payload, check_super-payload, super_of-only, super_of-payload}
use Rattle.nofs_super.proofs.superblock.write_super.Goals as goal

pub returns-clause-bytes : goal.returns-clause-bytes
unfolding super_payload
returns-clause-bytes c =
    let same : c.write_u64_at-3.new.bytes ≡ super_payload c.args.it.now = grind (arith, common_steps) in
    subst (λ (l : List ℕ). IsBytes 1024 l) (sym same) (IsBytes-super_payload c.args.it.now)

pub returns-clause-spells : goal.returns-clause-spells
unfolding super_payload
returns-clause-spells c version =
    let same : c.write_u64_at-3.new.bytes ≡ super_payload c.args.it.now = grind (arith, common_steps) in
    ap super_of same ∙ super_of-payload c.args.it.now (omega arith) (omega arith) (omega arith) (omega arith) version

pub returns-clause-only : goal.returns-clause-only
unfolding super_payload
returns-clause-only c payload is spells =
    let same : c.write_u64_at-3.new.bytes ≡ super_payload c.args.it.now = grind (arith, common_steps) in
    super_of-only c.args.it.now (omega arith) (omega arith) (omega arith) (omega arith) payload is spells ∙ sym same

pub returns-clause-read_back : goal.returns-clause-read_back
unfolding super_payload
returns-clause-read_back c device can =
    let same : c.write_u64_at-3.new.bytes ≡ super_payload c.args.it.now = grind (arith, common_steps) in
    ap (check_super device) same
    ∙ check_super-payload c.args.it.now (omega arith) (omega arith) (omega arith) (omega arith) device can
