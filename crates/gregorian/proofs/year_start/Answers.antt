-- `calendar::year_start` meets its contract: the years in closed form. Assumes nothing.
use Rattle.gregorian.proofs.Laws.{years}
use native.Mathlib.Omega.{arith}
use Rattle.gregorian.proofs.year_start.Goals as goal

pub returns : goal.returns
returns c = omega (arith, years c.args.y)
