-- `text::with_word` meets its contract.
use native.Mathlib.Omega.{arith}
use mathlib.Core.Path.{refl}
use Rattle.text.specs.Hash.{hash_with}
use Rattle.text.proofs.with_word.Goals as goal

pub returns : goal.returns
unfolding hash_with
returns c = (refl, omega arith)
