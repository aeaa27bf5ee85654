-- `rounding::nearest_quotient` meets its contract: the law of the carry.
use Rattle.rounding.proofs.Quotient.{closest-carried}
use Rattle.rounding.proofs.nearest_quotient.Goals as goal

pub returns : goal.returns
returns c = closest-carried c.args.n c.args.d c.requires.0 c.requires.1
