-- What the loops of `utf8::latin1` keep, and why they end.
use mathlib.Core.Path.{◌≡◌}
use mathlib.Core.Bool.{true}
use mathlib.Core.List.{◌++◌}
use Prim.Native.Nat.{◌+◌, ◌-◌, ◌≤◌}
use lib.ListN.{length, drop}
use Rattle.utf8.specs.Utf8.{Start, is_utf8, points_from, all_latin1}
use Rattle.utf8.proofs.Walk.{filled}
use Rattle.utf8.proofs.latin1.Given as goal

abbrev pub invariant-loop-i : goal.invariant-loop-i
invariant-loop-i l = (l.i ≤ length l.s) × (is_utf8 (drop l.i l.s) ≡ true) × (all_latin1 (points_from Start 0 (drop l.i l.s)) ≡ true) × (l.n + length (points_from Start 0 (drop l.i l.s)) ≤ length l.out) × (length l.out ≡ length l.initial.out) × (filled l.out l.n (points_from Start 0 (drop l.i l.s)) ≡ points_from Start 0 l.s ++ drop (length (points_from Start 0 l.s)) l.initial.out)

abbrev pub decreases-loop-i : goal.decreases-loop-i
decreases-loop-i l = length l.s - l.i
