-- The digits of the bytes so far, and behind them what stood there.
use mathlib.Core.Path.{◌≡◌}
use mathlib.Core.List.{◌++◌}
use Prim.Native.Nat.{◌*◌}
use lib.ListN.{take, drop}
use Rattle.hex_text.specs.Hex.{hex_of}
use Rattle.hex_text.proofs.to_hex.Given as goal

abbrev pub invariant-loop-i : goal.invariant-loop-i
invariant-loop-i l = l.out ≡ hex_of (take l.i l.bytes) ++ drop (2 * l.i) l.initial.out
