use Rattle.std.proofs.Common.{arith}
use Rattle.nofs_script.proofs.OnDigits.{spells_nothing}
use Rattle.nofs_script.proofs.digits.spelled_bytes.Goals as goal
use Rattle.nofs_script.proofs.digits.spelled_bytes.Goals.{then-word-ne0-via-then-word-ne0}
use Rattle.nofs_script.proofs.digits.spelled_bytes.Goals.{then-word-ne0-via-else-word-ne0+then-not-are_hex_digits}

pub returns-then-word-ne0 : goal.returns-then-word-ne0
returns-then-word-ne0 c = spells_nothing c.args.word.now (λ even all. elim c.then-word-ne0.branch [
  | then-word-ne0-via-then-word-ne0 w ↦ omega (arith, even, w.if-word-ne0.true)
  | then-word-ne0-via-else-word-ne0+then-not-are_hex_digits w ↦
      cc (all, w.are_hex_digits.ensures, w.if-not-are_hex_digits.true)
])
