-- The first k digits are those at the places before k.
use mathlib.Core.Path.{◌≡◌}
use lib.ListN.{length, take}
use Rattle.uuid_text.proofs.Groups36.{picked}
use Rattle.uuid_text.proofs.without_hyphens.Given as goal

abbrev pub invariant-loop-k : goal.invariant-loop-k
invariant-loop-k l = (length l.d ≡ 32) × (take l.k l.d ≡ picked l.s l.k)
