-- What the loops of `index::find` keep, and why they end.
use Prim.Native.Nat.{ℕ}
use mathlib.Core.List.{List}
use Rattle.index.specs.Table.{Indexed}
use Rattle.index.proofs.TableLaws.{Walk}
use Rattle.index.proofs.find.Given as goal

abbrev pub invariant-loop-i : goal.invariant-loop-i
invariant-loop-i l = (ps : List ℕ) → Indexed l.t l.s ps → Walk l.s ps l.name l.i

abbrev pub decreases-loop-i : goal.decreases-loop-i
decreases-loop-i l = l.i
