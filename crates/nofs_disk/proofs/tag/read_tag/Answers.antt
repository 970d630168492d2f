use Rattle.std.proofs.Common.{arith, refl, sym, ◌∙◌}
use Rattle.nofs_disk.specs.Tag.{SpellsTag}
use Rattle.nofs_disk.specs.OneSpelling.{SpellsTag-one}
use Rattle.nofs_disk.specs.declared.tag.Tag.{Tag}
use Rattle.nofs_disk.proofs.tag.read_tag.Goals as goal

pub returns-then-has_spelling-clause-one_spelling : goal.returns-then-has_spelling-clause-one_spelling
returns-then-has_spelling-clause-one_spelling c =
    let bytes = c.args.bytes.now in
    let tag : Tag = record {
      kind = c.in_ok-kind.kind;
      inode = c.read_u32_at-2.result;
      generation = c.read_u64_at.result;
      slot =
          c.read_u64_at-2.result;
      stamp = c.read_u64_at-3.result;
    } in
    let spells : SpellsTag bytes tag = record {
      kind = sym c.read_u32_at.ensures ∙ c.in_ok-kind.ensures.some;
      inode =
          sym c.read_u32_at-2.ensures;
      generation = sym c.read_u64_at.ensures;
      slot = sym c.read_u64_at-2.ensures;
      stamp =
          sym c.read_u64_at-3.ensures;
      allowed = c.if-has_spelling.ensures.fact.0 refl;
    } in
    SpellsTag-one bytes tag (record { len = c.told-bytes; each = c.fits-bytes })
    (record { inode = omega arith; generation = omega arith; slot = omega arith; stamp = omega arith }) spells
