use Rattle.std.proofs.Common.{arith, ◌∙◌, ◌*◌}
use Rattle.hex.proofs.HexLemmas.{decode_of-even}
use Rattle.hex.proofs.Pairs.{decode_step, decode_done}
use Rattle.nofs_script.proofs.digits.put_values.Goals as goal

pub bytes-preserved : goal.bytes-preserved
bytes-preserved c =
    decode_step _ _ c.bytes.at _ (omega arith) (omega arith) (c.pair_value.ensures (2 * c.bytes.at)) c.bytes.invariant

pub returns : goal.returns
returns c =
    decode_of-even c.args.digits.now (omega arith)
    ∙ decode_done _ c.bytes.into c.bytes.at (omega arith) (omega arith) c.bytes.invariant
