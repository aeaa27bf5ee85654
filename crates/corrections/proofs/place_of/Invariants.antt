-- What the loop of `corrections::place_of` keeps.
use Rattle.corrections.specs.Tables.{sail_at}
use Rattle.corrections.proofs.SailLaws.{Passed}
use Rattle.corrections.proofs.place_of.Given as goal

abbrev pub invariant-loop-k : goal.invariant-loop-k
invariant-loop-k l = Passed l.input l.table l.named (sail_at l.input l.table l.i) l.k
