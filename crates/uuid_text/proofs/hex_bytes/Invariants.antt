-- The bytes so far, and what the digits from the next pair on give, are what all the digits give.
use mathlib.Core.Path.{◌≡◌}
use Prim.Native.Nat.{◌*◌}
use lib.ListN.{length, take, drop}
use Rattle.uuid_text.specs.Uuid.{hex_bytes}
use Rattle.uuid_text.proofs.Digits.{behind}
use Rattle.uuid_text.proofs.hex_bytes.Given as goal

abbrev pub invariant-loop-i : goal.invariant-loop-i
invariant-loop-i l = (length l.out ≡ 16) × (behind (take l.i l.out) (hex_bytes (drop (2 * l.i) l.d)) ≡ hex_bytes l.d)
