-- A number takes as many bytes as it is given.
use Rattle.std.proofs.Common.{◌≡◌, ℕ, length}
use Rattle.byteorder.specs.Numbers.{length-bytes_low_first}
use Rattle.nofs_wire.specs.Frames.Fields.{number_bytes}

pub length-number_bytes : (n x : ℕ) → length (number_bytes n x) ≡ n
unfolding number_bytes
length-number_bytes n x = length-bytes_low_first 0 n x
