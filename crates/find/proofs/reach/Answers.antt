-- `find::reach` meets its contract.
use native.Mathlib.Omega.{arith}
use Rattle.frame.proofs.Measuring.{spans-le}
use Rattle.find.proofs.reach.Goals as goal

pub returns-then-left-le1 : goal.returns-then-left-le1
returns-then-left-le1 c = (omega arith, λ h. absurd (omega (arith, h, c.if-left-le1.true)))

pub value_len-requires : goal.value_len-requires
value_len-requires c = c.requires

pub returns-else-left-le1 : goal.returns-else-left-le1
returns-else-left-le1 c = (spans-le _ _ _ c.value_len.ensures, λ h. c.value_len.ensures)
