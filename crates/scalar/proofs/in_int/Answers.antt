-- `scalar::in_int` meets its contract: the two tests of `in_int`.
use Rattle.std.proofs.Common.{arith}
use Rattle.std.proofs.lemmas.Bool.Decides.{nat_tests}
use Rattle.scalar.specs.Conversion.{in_int}
use Rattle.scalar.proofs.in_int.Goals as goal

pub returns-then-b-lt2147483648 : goal.returns-then-b-lt2147483648
unfolding in_int
returns-then-b-lt2147483648 c = grind (arith, nat_tests)

pub returns-else-b-lt2147483648 : goal.returns-else-b-lt2147483648
unfolding in_int
returns-else-b-lt2147483648 c = grind (arith, nat_tests)
