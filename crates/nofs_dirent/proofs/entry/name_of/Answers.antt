use Rattle.std.proofs.Common.{◌≡◌, ◌+◌, ◌-◌, arith, sym, ap, ◌∙◌, take, drop, Some}
use Rattle.nofs_dirent.specs.EntryLaws.{name_of-some}
use Rattle.nofs_dirent.proofs.entry.name_of.Goals as goal

pub returns : goal.returns
returns c =
    let bytes = c.args.bytes.now in
    let size = c.read_u32_at-size.result in
    let end : 16 + size - 16 ≡ size = omega arith in
    ap (λ n. Some (take n (drop 16 bytes))) end
    ∙ name_of-some bytes size c.read_u32_at-size.ensures (sym c.if-not-is_entry.ensures.value)
