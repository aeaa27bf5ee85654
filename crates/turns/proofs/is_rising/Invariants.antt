-- What the loop of `turns::is_rising` keeps.
use Rattle.turns.specs.Turns.{PositionsRise}
use Rattle.turns.proofs.is_rising.Given as goal

abbrev pub invariant-loop-j : goal.invariant-loop-j
invariant-loop-j l = PositionsRise l.s l.at l.j
