-- What the loops of `utf8::latin1_len` keep, and why they end.
use mathlib.Core.Path.{◌≡◌}
use mathlib.Core.Bool.{true}
use Prim.Native.Nat.{◌-◌, ◌≤◌}
use lib.ListN.{length, drop}
use Rattle.utf8.specs.Utf8.{Start, is_utf8, points_from, latin1_count}
use Rattle.utf8.proofs.Walk.{counted}
use Rattle.utf8.proofs.latin1_len.Given as goal

abbrev pub invariant-loop-i : goal.invariant-loop-i
invariant-loop-i l = (l.i ≤ length l.s) × (l.n ≤ l.i) × (is_utf8 (drop l.i l.s) ≡ true) × (counted l.n (points_from Start 0 (drop l.i l.s)) ≡ latin1_count (points_from Start 0 l.s))

abbrev pub decreases-loop-i : goal.decreases-loop-i
decreases-loop-i l = length l.s - l.i
