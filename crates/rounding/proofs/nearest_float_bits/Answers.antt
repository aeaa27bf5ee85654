-- `rounding::nearest_float_bits` meets its contract: the law of proofs/Longs.antt.
use Rattle.std.proofs.Common.{ℕ, ◌+◌, ◌-◌, ◌*◌, ◌^◌, sym, ap, ◌∙◌, arith}
use lib.Count.{count_leading_zeros}
use Rattle.rounding.specs.Rounding.{magnitude, round_units}
use Rattle.rounding.proofs.Longs.{long, zero_is}
use Rattle.rounding.proofs.nearest_float_bits.Goals as goal

pub returns-then-n-eq0 : goal.returns-then-n-eq0
returns-then-n-eq0 c = sym (ap (λ (n : ℕ). magnitude 24 127 (round_units 24 (n * 2 ^ 149) 1)) c.if-n-eq0.true ∙ zero_is)

pub overflow_cast-z : goal.overflow_cast-z
overflow_cast-z c = omega (arith, (long c.args.n (omega arith) c.requires).zeros)

pub overflow_shl-t : goal.overflow_shl-t
overflow_shl-t c = (long c.args.n (omega arith) c.requires).zeros

pub overflow_sub-result : goal.overflow_sub-result
overflow_sub-result c = omega (arith, (long c.args.n (omega arith) c.requires).zeros)

pub overflow_add-result : goal.overflow_add-result
overflow_add-result c = omega (arith, (long c.args.n (omega arith) c.requires).kept, c.nearest_quotient-q.ensures)

pub overflow_cast-result : goal.overflow_cast-result
overflow_cast-result c = omega (arith, (long c.args.n (omega arith) c.requires).kept, c.nearest_quotient-q.ensures)

pub returns : goal.returns
returns c =
    let z = count_leading_zeros 64 c.args.n in
    ap (λ (q : ℕ). (189 - z) * 8388608 + q) c.nearest_quotient-q.ensures ∙ sym (long c.args.n (omega arith) c.requires).pattern
