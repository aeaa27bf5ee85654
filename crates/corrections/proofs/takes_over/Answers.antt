-- `corrections::takes_over` meets its contract.
use mathlib.Core.Path.{refl}
use Rattle.current.specs.Current.{beats}
use Rattle.corrections.proofs.takes_over.Goals as goal

pub returns : goal.returns
unfolding beats
returns c = refl
