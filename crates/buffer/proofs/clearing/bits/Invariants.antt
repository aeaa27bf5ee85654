-- What the loop of `buffer::clearing::bits` keeps.
use mathlib.Core.Path.{◌≡◌}
use lib.Dec.{eqb}
use Rattle.buffer.proofs.ClearLaws.{zero_to}
use Rattle.buffer.proofs.clearing.bits.Given as goal

abbrev pub invariant-loop-i : goal.invariant-loop-i
invariant-loop-i l = eqb l.any 0 ≡ zero_to l.b l.part l.i
