-- `scalar::Scalar::of_float` meets its contract: a NaN's pattern is one comparison.
use mathlib.Core.Path.{◌≡◌, sym, ap, ◌∙◌, subst}
use mathlib.Core.Bool.{Bool, true, false, cond, not}
use lib.Dec.{T}
use lib.Ieee.{binary32, nan_bits, of_bits}
use lib.Ieee.Bits.{nan_bits_above}
use borrow.Author.Tests.{lt-ltb, le-ltb}
use Rattle.scalar.specs.declared.Scalar.TheVariants.{Float, FloatNan}
use Rattle.scalar.proofs.Scalar.of_float.Goals as goal

is-nan : (c : goal.Then-b-gt2139095040) → nan_bits binary32 c.args.b ≡ true
is-nan c = nan_bits_above binary32 c.args.b ∙ lt-ltb _ _ c.if-b-gt2139095040.true

no_nan : (c : goal.Else-b-gt2139095040) → nan_bits binary32 c.args.b ≡ false
no_nan c = nan_bits_above binary32 c.args.b ∙ le-ltb _ _ c.if-b-gt2139095040.false

pub float_from_bits-result : goal.float_from_bits-result
float_from_bits-result c = subst (λ (t : Bool). T (not t)) (sym (no_nan c)) tt

pub returns-then-b-gt2139095040 : goal.returns-then-b-gt2139095040
returns-then-b-gt2139095040 c =
    let b = c.args.b in
    sym (ap (λ (t : Bool). cond t (FloatNan b) (Float (of_bits binary32 b))) (is-nan c))

pub returns-else-b-gt2139095040 : goal.returns-else-b-gt2139095040
returns-else-b-gt2139095040 c =
    let b = c.args.b in
    sym (ap (λ (t : Bool). cond t (FloatNan b) (Float (of_bits binary32 b))) (no_nan c))
