-- `scalar::is_scalar` meets its contract: the tests of `is_scalar`.
use Rattle.std.proofs.Common.{arith}
use Rattle.std.proofs.lemmas.Bool.Decides.{nat_tests}
use Rattle.scalar.specs.Scalars.{is_scalar}
use Rattle.scalar.proofs.is_scalar.Goals as goal

pub returns-in-2-to-5 : goal.returns-in-2-to-5
unfolding is_scalar
returns-in-2-to-5 c = grind (arith, nat_tests)

pub returns-in-2-to-5-2 : goal.returns-in-2-to-5-2
unfolding is_scalar
returns-in-2-to-5-2 c = grind (arith, nat_tests)

pub returns-in_default : goal.returns-in_default
unfolding is_scalar
returns-in_default c = grind (arith, nat_tests)

pub returns-in_default-2 : goal.returns-in_default-2
unfolding is_scalar
returns-in_default-2 c = grind (arith, nat_tests)

pub returns-in_default-3 : goal.returns-in_default-3
unfolding is_scalar
returns-in_default-3 c = grind (arith, nat_tests)
