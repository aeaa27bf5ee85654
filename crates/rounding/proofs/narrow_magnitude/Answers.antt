-- `rounding::narrow_magnitude` meets its contract: each branch is a law of proofs/Doubles.antt.
use Rattle.std.proofs.Common.{◌≡◌, ℕ, ◌+◌, ◌-◌, ◌*◌, ◌/◌, ◌%◌, ◌^◌, sym, ap, ◌∙◌, arith}
use lib.Ieee.Nearest.{closest}
use Rattle.rounding.proofs.Doubles.{overflows, is_normal, is_subnormal, is-nothing, kept-fits, low_fits, one_shl, powers}
use Rattle.rounding.proofs.narrow_magnitude.Goals as goal

pub returns-then-x-ge1151 : goal.returns-then-x-ge1151
returns-then-x-ge1151 c = sym (overflows c.args.m c.if-x-ge1151.true)

pub overflow_add-result : goal.overflow_add-result
overflow_add-result c = omega (arith, kept-fits c.args.m)

pub overflow_cast-result : goal.overflow_cast-result
overflow_cast-result c = omega (arith, kept-fits c.args.m)

pub returns-then-x-ge897 : goal.returns-then-x-ge897
returns-then-x-ge897 c =
    let m = c.args.m in
    ap (λ (q : ℕ). (m / 2 ^ 52 - 897) * 8388608 + q) c.nearest_quotient-q.ensures
    ∙ sym (is_normal m c.if-x-ge897.true c.if-x-ge1151.false)

pub nearest_quotient-requires : goal.nearest_quotient-requires
nearest_quotient-requires c =
    let f = powers (926 - c.args.m / 2 ^ 52) (omega arith) (omega arith) in
    (f.0, f.1, f.2, omega arith)

pub overflow_cast-result-then-x-ge873 : goal.overflow_cast-result-then-x-ge873
overflow_cast-result-then-x-ge873 c =
    let m = c.args.m in
    let e : c.nearest_quotient.result ≡ closest (m % 2 ^ 52 + 2 ^ 52) (2 ^ (926 - m / 2 ^ 52)) =
    c.nearest_quotient.ensures ∙ ap (λ (d : ℕ). closest (m % 2 ^ 52 + 2 ^ 52) d) (one_shl (926 - m / 2 ^ 52) (omega arith)) in
    omega (arith, low_fits m c.if-x-ge897.false)

pub returns-then-x-ge873 : goal.returns-then-x-ge873
returns-then-x-ge873 c =
    let m = c.args.m in
    c.nearest_quotient.ensures
    ∙ ap (λ (d : ℕ). closest (m % 2 ^ 52 + 2 ^ 52) d) (one_shl (926 - m / 2 ^ 52) (omega arith))
    ∙ sym (is_subnormal m c.if-x-ge873.true c.if-x-ge897.false)

pub returns : goal.returns
returns c = sym (is-nothing c.args.m c.if-x-ge873.false)
