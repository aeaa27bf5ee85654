-- `scalar::Scalar::to_double` meets its contract: each arm is a case of `double_cast`.
use mathlib.Core.Path.{sym, ap, ◌∙◌, subst}
use mathlib.Core.Bool.{Bool, not}
use lib.Dec.{T}
use mir.Syntax.{w32, w64}
use mir.ValLaws.{to_z-of_z}
use lib.Ieee as Ieee
use lib.Ieee.{binary32, binary64, to_bits, of_int, is_nan, fits}
use lib.Ieee.Fits.{and_i, fits_widens}
use Rattle.std.specs.Prelude.{Ok}
use Rattle.rounding.specs.Rounding.{convert}
use Rattle.scalar.specs.Scalars.{double_of, double_cast}
use Rattle.scalar.specs.declared.Scalar.TheVariants.{Double}
use Rattle.scalar.proofs.Scalars.{double-of-int, double-of-float, double-of-nan, equals_itself, is-nan}
use Rattle.std.proofs.Common.{rules}
use Rattle.scalar.proofs.Scalar.to_double.Goals as goal

pub float_to_float-result : goal.float_to_float-result
float_to_float-result c =
    let x = c.in-Float.x in
    and_i (fits binary64 x) (not (is_nan x)) (fits_widens x c.row_known-1.given) (subst (λ (t : Bool). T (not t)) (sym (equals_itself x c.if-x.false)) tt)

pub returns-then-x : goal.returns-then-x
returns-then-x c =
    sym (ap double_cast c.in-Float.is ∙ ap (λ (x : Ieee.Float). Ok (double_of (convert 24 127 53 1023 (to_bits binary32 x)))) (is-nan _ c.if-x.true) ∙ ap Ok double-of-nan)

pub returns-else-x : goal.returns-else-x
returns-else-x c =
    let x = c.in-Float.x in
    sym (ap double_cast c.in-Float.is ∙ ap Ok (double-of-float x c.row_known-1.given (equals_itself x c.if-x.false)))

pub returns-in-FloatNan : goal.returns-in-FloatNan
returns-in-FloatNan c = sym (ap double_cast c.in-FloatNan.is)

pub returns-in-Double : goal.returns-in-Double
returns-in-Double c = sym (ap double_cast c.in-Double.is)

pub returns-in-DoubleNan : goal.returns-in-DoubleNan
returns-in-DoubleNan c = sym (ap double_cast c.in-DoubleNan.is)

pub returns-in-Int : goal.returns-in-Int
returns-in-Int c =
    let back = to_z-of_z w32 c.in-Int.n (record { sfits = search rules }) in
    ap (λ (x : Ieee.Float). Ok (Double x)) (c.double_of_int.ensures ∙ ap (of_int binary64) back) ∙ ap Ok (sym (double-of-int _)) ∙ sym (ap double_cast c.in-Int.is)

pub returns-in-Long : goal.returns-in-Long
returns-in-Long c =
    let back = to_z-of_z w64 c.in-Long.n (record { sfits = search rules }) in
    ap (λ (x : Ieee.Float). Ok (Double x)) (c.double_of_long.ensures ∙ ap (of_int binary64) back) ∙ ap Ok (sym (double-of-int _)) ∙ sym (ap double_cast c.in-Long.is)
