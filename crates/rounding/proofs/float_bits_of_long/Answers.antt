-- `rounding::float_bits_of_long` meets its contract: the magnitude is rounded once, and the sign is its own bit.
use Rattle.std.proofs.Common.{ℕ, ◌+◌, ◌*◌, ◌/◌, ◌^◌, nat_abs, ap, ◌∙◌, arith, lit≤, w64, of_z}
use mir.ValLaws.{to_z-of_z}
use Rattle.rounding.specs.Rounding.{magnitude, round_units}
use Rattle.rounding.proofs.Patterns.{magnitude-le}
use Rattle.rounding.proofs.Negatives.{magnitude-fits, unsigned-64}
use Rattle.rounding.proofs.Longs.{with-sign}
use Rattle.rounding.proofs.float_bits_of_long.Goals as goal

pub nearest_float_bits-requires : goal.nearest_float_bits-requires
nearest_float_bits-requires c =
    omega (arith, c.unsigned_abs.ensures.value ∙ ap nat_abs (to_z-of_z w64 c.args.n c.ranges.n), magnitude-fits w64 c.args.n c.ranges.n)

pub overflow_add-result : goal.overflow_add-result
overflow_add-result c = omega (arith, c.cast_unsigned.type_inv, c.nearest_float_bits.ensures, magnitude-le 24 127 (round_units 24 (c.unsigned_abs.result * 2 ^ 149) 1) (lit≤ tt) (lit≤ tt))

pub returns : goal.returns
returns c =
    let t = c.cast_unsigned.result in
    ap (λ (m : ℕ). t / 2 ^ 63 * 2 ^ 31 + m) (c.nearest_float_bits.ensures ∙ ap (λ (m : ℕ). magnitude 24 127 (round_units 24 (m * 2 ^ 149) 1)) (c.unsigned_abs.ensures.value ∙ ap nat_abs (to_z-of_z w64 c.args.n c.ranges.n)))
    ∙ with-sign c.args.n t c.ranges.n (c.cast_unsigned.ensures ∙ ap (of_z w64) (to_z-of_z w64 c.args.n c.ranges.n) ∙ unsigned-64 c.args.n)
