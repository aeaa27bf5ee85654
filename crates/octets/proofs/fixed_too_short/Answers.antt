-- `octets::fixed_too_short` meets its contract.
use native.Mathlib.Omega.{arith}
use Rattle.std.proofs.lemmas.Grind.{common_steps}
use Rattle.types.specs.Types.{fixed_too_short}
use Rattle.octets.proofs.fixed_too_short.Goals as goal

pub returns : goal.returns
unfolding fixed_too_short
returns c = grind (arith, common_steps)
