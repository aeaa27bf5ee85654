-- What the loop of `find::find_last` keeps.
use Prim.Native.Nat.{◌-◌}
use Rattle.find.proofs.FindLaws.{Finding}
use Rattle.find.proofs.find_last.Given as goal

abbrev pub invariant-loop-i : goal.invariant-loop-i
invariant-loop-i l = Finding l.v l.name l.depth (l.count - l.i) l.at l.last
