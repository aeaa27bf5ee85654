-- `rounding::narrow` meets its contract: the two cases of `convert`.
use Rattle.std.proofs.Common.{ℕ, ◌+◌, ◌*◌, ◌/◌, ◌%◌, sym, ap, ◌∙◌, arith}
use Rattle.rounding.proofs.Doubles.{of_nan, of-signed, narrowed-le}
use Rattle.rounding.proofs.narrow.Goals as goal

pub returns-then-m-gt9218868437227405312 : goal.returns-then-m-gt9218868437227405312
returns-then-m-gt9218868437227405312 c = sym (of_nan c.args.b c.if-m-gt9218868437227405312.true)

pub overflow_add-result : goal.overflow_add-result
overflow_add-result c = omega (arith, c.narrow_magnitude.ensures, narrowed-le (c.args.b % 0x8000_0000_0000_0000))

pub returns : goal.returns
returns c =
    let b = c.args.b in
    ap (λ (r : ℕ). b / 0x8000_0000_0000_0000 * 0x8000_0000 + r) c.narrow_magnitude.ensures ∙ sym (of-signed b c.ranges.b.fits c.if-m-gt9218868437227405312.false)
