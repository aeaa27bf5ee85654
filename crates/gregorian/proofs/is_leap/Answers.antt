-- `gregorian::is_leap` meets its contract: the rule by its tests. Assumes nothing.
use Rattle.std.proofs.Common.{arith}
use Rattle.std.proofs.lemmas.Bool.Decides.{nat_tests}
use Rattle.gregorian.specs.Counted.{leap_at}
use Rattle.gregorian.proofs.is_leap.Goals as goal

pub returns-then-y-ne0 : goal.returns-then-y-ne0
unfolding leap_at
returns-then-y-ne0 c = grind (arith, nat_tests)

pub returns-else-y-ne0 : goal.returns-else-y-ne0
unfolding leap_at
returns-else-y-ne0 c = grind (arith, nat_tests)

pub returns-else-y-eq0 : goal.returns-else-y-eq0
unfolding leap_at
returns-else-y-eq0 c = grind (arith, nat_tests)
