-- `turns::stood_before` meets its contract.
use Prim.Native.Nat.{ℕ}
use mathlib.Core.Path.{◌≡◌}
use native.Mathlib.Omega.{arith}
use Rattle.turns.proofs.stood_before.Goals as goal

pub returns-then-way : goal.returns-then-way
returns-then-way c = λ e. let z : ◌≡◌ {A = ℕ} 0 1 = cc in absurd (omega arith)

pub returns : goal.returns
returns c = λ e. rw e at c.stands_in.ensures
