-- `turns::named_before` meets its contract.
use Rattle.turns.proofs.Positions.{splits-all, splits-at}
use Rattle.turns.proofs.named_before.Goals as goal

pub returns-then-not-rises : goal.returns-then-not-rises
returns-then-not-rises c = splits-all _ _ _ _

pub below-requires : goal.below-requires
below-requires c = (c.requires.0, c.requires.1 (c.if-not-rises.false))

pub returns-in-None : goal.returns-in-None
returns-in-None c = splits-all _ _ _ _

pub returns-in-Some : goal.returns-in-Some
returns-in-Some c = splits-at _ _ _ _ _ _ c.in-Some.is c.below.ensures
