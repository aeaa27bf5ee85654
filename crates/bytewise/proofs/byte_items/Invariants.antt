-- What the loop keeps: the bytes of the items passed stand behind the header (`Filling`).
use Prim.Native.Nat.{◌-◌}
use mathlib.Core.Path.{◌≡◌}
use lib.ListN.{length}
use Rattle.frame.specs.ValueFrame.{read_value}
use Rattle.bytewise.proofs.ByteLaws.{Filling}
use Rattle.bytewise.proofs.byte_items.Given as goal

abbrev pub invariant-loop : goal.invariant-loop
invariant-loop l = Filling (read_value l.depth) l.v (l.count - l.counter) l.at l.out l.n × (length l.out ≡ length l.initial.out)
