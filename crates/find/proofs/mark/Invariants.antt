-- What the loop of `find::mark` keeps.
use Rattle.find.proofs.MarkLaws.{Marking}
use Rattle.find.proofs.mark.Given as goal

abbrev pub invariant-loop-n : goal.invariant-loop-n
invariant-loop-n l = Marking l.v l.t l.depth l.count l.n l.at
