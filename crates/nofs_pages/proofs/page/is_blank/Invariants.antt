use Rattle.std.proofs.Common.{◌≡◌, ◌==◌, take}
use Rattle.std.specs.List.{list_all}
use Rattle.nofs_pages.proofs.page.is_blank.Given as goal

abbrev pub invariant-loop-byte : goal.invariant-loop-byte
invariant-loop-byte l = (l.joined == 0) ≡ list_all (λ byte. byte == 0) (take l.byte-index l.page)
