use Rattle.std.proofs.Common.{◌-◌, arith}
use Rattle.nofs_test_formats.proofs.tests.sweep.an_order_goes_upwards_or_downwards.Goals as goal

pub new-upwards-requires-clause-each : goal.new-upwards-requires-clause-each
new-upwards-requires-clause-each g c item within = (item, within, λ found is. is)

pub new-downwards-requires-clause-each : goal.new-downwards-requires-clause-each
new-downwards-requires-clause-each g c item within = (3 - item, omega arith, λ found is. omega (arith, is))
