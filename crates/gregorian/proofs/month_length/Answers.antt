-- `gregorian::month_length` meets its contract: the table by its tests. Assumes nothing.
use Rattle.std.proofs.Common.{arith}
use Rattle.std.proofs.lemmas.Bool.Decides.{nat_tests}
use Rattle.gregorian.specs.Rules.{month_length}
use Rattle.gregorian.proofs.month_length.Goals as goal

pub returns-in-2 : goal.returns-in-2
unfolding month_length
returns-in-2 c = grind (arith, nat_tests)

pub returns-in-2-2 : goal.returns-in-2-2
unfolding month_length
returns-in-2-2 c = grind (arith, nat_tests)

pub returns-in-4 : goal.returns-in-4
unfolding month_length
returns-in-4 c = grind (arith, nat_tests)

pub returns-in_default : goal.returns-in_default
unfolding month_length
returns-in_default c = grind (arith, nat_tests)
