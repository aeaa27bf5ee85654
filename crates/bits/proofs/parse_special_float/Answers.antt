-- `bits::parse_special_float` meets its contract: each return is a case of the tests.
use Rattle.std.proofs.Common.{arith}
use Rattle.std.proofs.lemmas.Grind.{common_steps}
use Rattle.text.specs.Text.{ascii}
use Rattle.scalar.specs.Conversion.{parse_special_float}
use Rattle.bits.proofs.parse_special_float.Goals as goal

pub returns-then-same : goal.returns-then-same
unfolding parse_special_float ascii
returns-then-same c = grind (arith, common_steps)

pub returns-then-same-3 : goal.returns-then-same-3
unfolding parse_special_float ascii
returns-then-same-3 c = grind (arith, common_steps)

pub returns-then-same-5 : goal.returns-then-same-5
unfolding parse_special_float ascii
returns-then-same-5 c = grind (arith, common_steps)

pub returns-else-same-5 : goal.returns-else-same-5
unfolding parse_special_float ascii
returns-else-same-5 c = grind (arith, common_steps)
