-- What the loop of `variants::stands_in` keeps.
use Prim.Native.Nat.{ℕ, ◌+◌, ◌*◌, ◌<◌}
use mathlib.Core.Path.{◌≡◌}
use Rattle.number.specs.Number.{number_at}
use Rattle.variants.proofs.stands_in.Given as goal

abbrev pub invariant-loop-j : goal.invariant-loop-j
invariant-loop-j l = (m : ℕ) → m < l.j → number_at l.s (l.at + 2 * m) 2 ≡ l.i → ⊥
