-- What is joined so far and what is left tell together.
use mathlib.Core.Path.{◌≡◌}
use mathlib.Core.Bool.{◌&&◌}
use lib.Dec.{leb}
use lib.ListN.{drop}
use Rattle.utf8.specs.Steps.{all_ascii}
use Rattle.utf8.proofs.ascii.all.Given as goal

abbrev pub invariant-loop-b : goal.invariant-loop-b
invariant-loop-b l = leb l.joined 0x7f && all_ascii (drop l.b-index l.s) ≡ all_ascii l.s
