-- `symbols::hit` meets its contract.
use native.Mathlib.Omega.{arith}
use Rattle.symbols.proofs.RoundLaws.{hit-symbol, hit-default}
use Rattle.symbols.proofs.hit.Goals as goal

pub returns-in-0 : goal.returns-in-0
returns-in-0 c = hit-symbol _ _ (omega arith)

pub returns-in_default : goal.returns-in_default
returns-in_default c = hit-default _ _ (λ e. omega arith)
