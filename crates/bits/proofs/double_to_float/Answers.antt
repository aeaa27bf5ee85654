-- `bits::double_to_float` meets its contract: what the call ensures, and the law of the conversion from content to content.
use mathlib.Core.Path.{◌≡◌, sym, ap, ◌∙◌, subst}
use Prim.Native.Nat.{ℕ, ◌^◌, ◌<◌}
use Rattle.scalar.specs.Conversion.{float_of_double}
use Rattle.scalar.specs.Scalars.{cast_content, float_cast}
use Rattle.scalar.specs.declared.Scalar.{Scalar}
use Rattle.bits.proofs.BitLaws.{double-read, double-float}
use Rattle.scalar.proofs.Bounds.{float_of_double-<}
use Rattle.bits.proofs.double_to_float.Goals as goal

is : (c : goal.After-float_content) → c.float_content.result ≡ float_of_double c.args.b
unfolding float_of_double
is c =
    let b = c.args.b in
    c.float_content.ensures ∙ ap (λ (x : Scalar). cast_content (float_cast x)) (double-read b) ∙ double-float b c.ranges.b.fits

pub overflow_cast-result : goal.overflow_cast-result
overflow_cast-result c = record { fits = subst (λ (x : ℕ). x < 2 ^ 32) (sym (is c)) (float_of_double-< c.args.b) }

pub returns : goal.returns
returns c = is c
