-- `scalar::finite_double` meets its contract.
use mathlib.Core.Path.{refl}
use Rattle.scalar.specs.Conversion.{finite_double}
use Rattle.scalar.proofs.finite_double.Goals as goal

pub returns : goal.returns
unfolding finite_double
returns c = refl
