-- `schema_default::default::outside_int` meets its contract. Assumes nothing.
use Prim.Native.Nat.{ℕ}
use mathlib.Core.Path.{◌≡◌, ◌∙◌}
use mathlib.Core.Bool.{◌&&◌, ◌||◌, not}
use native.Mathlib.Omega.{arith}
use lib.Dec.{leb, ltb}
use Rattle.std.specs.Ordering.{is_le, is_lt, nat_cmp}
use Rattle.std.proofs.lemmas.Bool.Decides.{nat_tests}
use Rattle.scalar.specs.Conversion.{in_int}
use Rattle.schema_default.proofs.default.outside_int.Goals as goal

outside : (low high n : ℕ) → is_le (nat_cmp low n) && is_lt (nat_cmp n high) ≡ not (ltb n low || leb high n)
outside low high n = grind (arith, nat_tests)

pub returns : goal.returns
unfolding in_int
returns c = c.contains.ensures.value ∙ outside 2147483648 18446744071562067968 c.args.n
