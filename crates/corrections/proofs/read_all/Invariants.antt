-- What the loop of `corrections::read_all` keeps.
use Rattle.corrections.proofs.ReadingLaws.{Reading}
use Rattle.corrections.proofs.read_all.Given as goal

abbrev pub invariant-loop-i : goal.invariant-loop-i
invariant-loop-i l = Reading l.input l.ends l.table l.hashes l.i l.from
