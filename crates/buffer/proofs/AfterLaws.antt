-- When a result is too long, and when it fits.
use Prim.Native.Nat.{ℕ, ◌≤◌, ◌<◌}
use mathlib.Core.Path.{◌≡◌}
use mathlib.Core.List.{List}
use lib.Dec.{ltb, lt→ltb}
use lib.Arith.{le→nltb}
use lib.ListN.{length}
use lib.Ieee.Bits.{is_true, is_false}
use Rattle.base.specs.Base.{ok, stop}
use Rattle.buffer.specs.After.{checked_result}

pub checked_result-over : {A : Type 0} (len : ℕ) (b : List A) → 65535 < length b → checked_result len b ≡ stop 18
unfolding checked_result
checked_result-over len b h = rw (is_true (ltb 65535 (length b)) (lt→ltb 65535 (length b) h))

pub checked_result-short : {A : Type 0} (len : ℕ) (b : List A) → length b ≤ 65535 → len < length b → checked_result len b ≡ stop 18
unfolding checked_result
checked_result-short len b h k = rw (is_false (ltb 65535 (length b)) (le→nltb 65535 (length b) h), is_true (ltb len (length b)) (lt→ltb len (length b) k))

pub checked_result-fits : {A : Type 0} (len : ℕ) (b : List A) → length b ≤ 65535 → length b ≤ len → checked_result len b ≡ ok b
unfolding checked_result
checked_result-fits len b h k = rw (is_false (ltb 65535 (length b)) (le→nltb 65535 (length b) h), is_false (ltb len (length b)) (le→nltb len (length b) k))
