-- The outer loop's rounds look for the symbol and then for the default (`Round`), and the inner loop passes the symbols (`Searching`).
use Prim.Native.Nat.{◌-◌}
use Rattle.symbols.specs.Search.{sought_in}
use Rattle.symbols.proofs.SymbolLaws.{Searching}
use Rattle.symbols.proofs.RoundLaws.{Round}
use Rattle.symbols.proofs.position.Given as goal

abbrev pub invariant-loop-i : goal.invariant-loop-i
invariant-loop-i l = Searching l.s (sought_in l.s l.t l.from) (l.count - l.i) l.at l.i

abbrev pub invariant-search : goal.invariant-search
invariant-search l = Round l.s l.t l.from

abbrev pub decreases-search : goal.decreases-search
decreases-search l = 1 - l.from
