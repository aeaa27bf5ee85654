-- `bits::int_to_float` meets its contract: what the call ensures, and the law of the conversion from content to content.
use mathlib.Core.Path.{◌≡◌, sym, ap, ◌∙◌, subst}
use Prim.Native.Nat.{ℕ, ◌^◌, ◌<◌}
use Rattle.scalar.specs.Conversion.{float_of_int}
use Rattle.scalar.specs.Scalars.{cast_content, float_cast}
use Rattle.scalar.specs.declared.Scalar.{Scalar}
use Rattle.bits.proofs.BitLaws.{int-content, integer-float}
use Rattle.scalar.proofs.Bounds.{float_of_int-<}
use Rattle.bits.proofs.int_to_float.Goals as goal

is : (c : goal.After-float_content) → c.float_content.result ≡ float_of_int c.args.b
unfolding float_of_int
is c =
    let b = c.args.b in
    c.float_content.ensures ∙ ap (λ (x : Scalar). cast_content (float_cast x)) (int-content b c.ranges.b.fits) ∙ integer-float _

pub overflow_cast-result : goal.overflow_cast-result
overflow_cast-result c = record { fits = subst (λ (x : ℕ). x < 2 ^ 32) (sym (is c)) (float_of_int-< c.args.b) }

pub returns : goal.returns
returns c = is c
