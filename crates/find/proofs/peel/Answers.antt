-- `find::peel` meets its contract: a Union's value stands behind its index, and any other value is its own. Assumes nothing.
use native.Mathlib.Omega.{arith}
use Rattle.frame.proofs.ValueNodes.{value_there}
use Rattle.find.proofs.PeelLaws.{peel-union, peel-other}
use Rattle.find.proofs.peel.Goals as goal

pub bounds-v-0 : goal.bounds-v-0
bounds-v-0 c = (value_there _ _ c.requires).1

pub overflow_sub-result : goal.overflow_sub-result
overflow_sub-result c = let h = (value_there _ _ c.requires).0 in omega arith

pub returns-then-v-eq-UNION : goal.returns-then-v-eq-UNION
returns-then-v-eq-UNION c = peel-union _ _ c.requires c.if-v-eq-UNION.true

pub returns-else-v-eq-UNION : goal.returns-else-v-eq-UNION
returns-else-v-eq-UNION c = (omega arith, peel-other _ _ c.requires c.if-v-eq-UNION.false)
