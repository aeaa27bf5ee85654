-- `scalar::Scalar::to_float` meets its contract: each arm is a case of `float_cast`.
use mathlib.Core.Path.{sym, ap, ◌∙◌, subst}
use mathlib.Core.Bool.{Bool, not}
use lib.Dec.{T}
use mir.Syntax.{w32}
use mir.ValLaws.{to_z-of_z}
use lib.Ieee as Ieee
use lib.Ieee.{binary32, binary64, to_bits, of_int}
use Rattle.std.specs.Prelude.{Ok}
use Rattle.rounding.specs.Rounding.{convert}
use Rattle.scalar.specs.Scalars.{float_of, float_cast}
use Rattle.scalar.specs.declared.Scalar.TheVariants.{Float}
use Rattle.scalar.proofs.Scalars.{float-of-int, float-of-nan, equals_itself, is-nan}
use Rattle.std.proofs.Common.{rules}
use Rattle.scalar.proofs.Scalar.to_float.Goals as goal

pub float_to_bits-x : goal.float_to_bits-x
float_to_bits-x c = subst (λ (t : Bool). T (not t)) (sym (equals_itself _ c.if-x.false)) tt

pub returns-in-Float : goal.returns-in-Float
returns-in-Float c = sym (ap float_cast c.in-Float.is)

pub returns-in-FloatNan : goal.returns-in-FloatNan
returns-in-FloatNan c = sym (ap float_cast c.in-FloatNan.is)

pub returns-then-x : goal.returns-then-x
returns-then-x c =
    sym (ap float_cast c.in-Double.is ∙ ap (λ (x : Ieee.Float). Ok (float_of (convert 53 1023 24 127 (to_bits binary64 x)))) (is-nan _ c.if-x.true) ∙ ap Ok float-of-nan)

pub returns-else-x : goal.returns-else-x
returns-else-x c =
    ap Ok (c.of_float-else-x.ensures ∙ ap float_of c.narrow.ensures) ∙ sym (ap float_cast c.in-Double.is)

pub returns-in-DoubleNan : goal.returns-in-DoubleNan
returns-in-DoubleNan c = sym (ap float_cast c.in-DoubleNan.is)

pub returns-in-Int : goal.returns-in-Int
returns-in-Int c =
    let back = to_z-of_z w32 c.in-Int.n (record { sfits = search rules }) in
    ap (λ (x : Ieee.Float). Ok (Float x)) (c.float_of_int.ensures ∙ ap (of_int binary32) back) ∙ ap Ok (sym (float-of-int _)) ∙ sym (ap float_cast c.in-Int.is)
