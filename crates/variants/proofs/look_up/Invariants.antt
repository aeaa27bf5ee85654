-- What the loop of `variants::look_up` keeps.
use Prim.Native.Nat.{◌-◌}
use Rattle.variants.proofs.UnionTables.{Looking}
use Rattle.variants.proofs.look_up.Given as goal

abbrev pub invariant-loop : goal.invariant-loop
invariant-loop l = Looking l.kind l.s (l.count - l.counter) l.at
