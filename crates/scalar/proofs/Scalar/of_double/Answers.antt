-- `scalar::Scalar::of_double` meets its contract: a NaN's pattern is one comparison.
use mathlib.Core.Path.{◌≡◌, sym, ap, ◌∙◌, subst}
use mathlib.Core.Bool.{Bool, true, false, cond, not}
use lib.Dec.{T}
use lib.Ieee.{binary64, nan_bits, of_bits}
use lib.Ieee.Bits.{nan_bits_above}
use borrow.Author.Tests.{lt-ltb, le-ltb}
use Rattle.scalar.specs.declared.Scalar.TheVariants.{Double, DoubleNan}
use Rattle.scalar.proofs.Scalar.of_double.Goals as goal

is-nan : (c : goal.Then-b-gt9218868437227405312) → nan_bits binary64 c.args.b ≡ true
is-nan c = nan_bits_above binary64 c.args.b ∙ lt-ltb _ _ c.if-b-gt9218868437227405312.true

no_nan : (c : goal.Else-b-gt9218868437227405312) → nan_bits binary64 c.args.b ≡ false
no_nan c = nan_bits_above binary64 c.args.b ∙ le-ltb _ _ c.if-b-gt9218868437227405312.false

pub float_from_bits-result : goal.float_from_bits-result
float_from_bits-result c = subst (λ (t : Bool). T (not t)) (sym (no_nan c)) tt

pub returns-then-b-gt9218868437227405312 : goal.returns-then-b-gt9218868437227405312
returns-then-b-gt9218868437227405312 c =
    let b = c.args.b in
    sym (ap (λ (t : Bool). cond t (DoubleNan b) (Double (of_bits binary64 b))) (is-nan c))

pub returns-else-b-gt9218868437227405312 : goal.returns-else-b-gt9218868437227405312
returns-else-b-gt9218868437227405312 c =
    let b = c.args.b in
    sym (ap (λ (t : Bool). cond t (DoubleNan b) (Double (of_bits binary64 b))) (no_nan c))
