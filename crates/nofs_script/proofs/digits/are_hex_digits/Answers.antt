use Rattle.std.proofs.Common.{arith}
use Rattle.std.proofs.lemmas.Grind.{common_steps}
use Rattle.nofs_script.proofs.OnDigits.{none_joined}
use Rattle.nofs_script.proofs.digits.are_hex_digits.Goals as goal

pub loop-byte-preserved : goal.loop-byte-preserved
loop-byte-preserved c =
    let joined = none_joined c.loop-byte.beside c.beside_digits-beside.result in
    grind (arith, common_steps)
