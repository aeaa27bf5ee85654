-- `rounding::float_of_int` meets its contract: the halves can be cast, and their one sum is n rounded once.
use lib.Ieee.{binary32}
use Rattle.std.proofs.Common.{w32}
use Rattle.std.proofs.num.Nearest.{two_to_16}
use Rattle.rounding.proofs.Halves.{halves-32, upper_in, lower_in, joined}
use Rattle.rounding.proofs.float_of_int.Goals as goal

pub int_to_float-result : goal.int_to_float-result
int_to_float-result c = upper_in binary32 w32 16 halves-32 c.args.n c.ranges.n

pub int_to_float-result-2 : goal.int_to_float-result-2
int_to_float-result-2 c = lower_in binary32 w32 16 halves-32 c.args.n c.ranges.n

pub returns : goal.returns
returns c = joined binary32 w32 16 halves-32 c.args.n c.ranges.n _ two_to_16
