-- What the loop of `corrections::list` keeps.
use Rattle.corrections.proofs.EnterLaws.{Listing}
use Rattle.corrections.proofs.list.Given as goal

abbrev pub invariant-loop-i : goal.invariant-loop-i
invariant-loop-i l = Listing l.input l.table l.n l.out l.count l.i
