-- `turns::below` meets its contract.
use native.Mathlib.Omega.{arith}
use Rattle.turns.proofs.Positions.{not-below, none-behind}
use Rattle.turns.proofs.below.Goals as goal

pub returns-then-u-read2 : goal.returns-then-u-read2
returns-then-u-read2 c = not-below _ _ _ _ _ c.requires.1 c.loop-j-test.true (omega (arith, c.read2.ensures, c.if-u-read2.true))

pub returns : goal.returns
returns c = none-behind _ _ _ _
