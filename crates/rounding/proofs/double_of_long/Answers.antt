-- `rounding::double_of_long` meets its contract: the halves can be cast, and their one sum is n rounded once.
use lib.Ieee.{binary64}
use Rattle.std.proofs.Common.{w64}
use Rattle.std.proofs.num.Nearest.{two_to_32}
use Rattle.rounding.proofs.Halves.{halves-64, upper_in, lower_in, joined}
use Rattle.rounding.proofs.double_of_long.Goals as goal

pub int_to_float-result : goal.int_to_float-result
int_to_float-result c = upper_in binary64 w64 32 halves-64 c.args.n c.ranges.n

pub int_to_float-result-2 : goal.int_to_float-result-2
int_to_float-result-2 c = lower_in binary64 w64 32 halves-64 c.args.n c.ranges.n

pub returns : goal.returns
returns c = joined binary64 w64 32 halves-64 c.args.n c.ranges.n _ two_to_32
