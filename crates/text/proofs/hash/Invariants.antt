-- What the loop of `text::hash` keeps.
use mathlib.Core.Path.{◌≡◌}
use Prim.Native.Nat.{◌<◌}
use Rattle.text.specs.Hash.{hashed}
use Rattle.text.proofs.hash.Given as goal

abbrev pub invariant-loop-k : goal.invariant-loop-k
invariant-loop-k l = (l.x < 4294967296) × (l.x ≡ hashed l.t l.k)
