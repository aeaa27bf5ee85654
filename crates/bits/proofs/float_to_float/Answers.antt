-- `bits::float_to_float` meets its contract: what the call ensures, and the law of the conversion from content to content.
use mathlib.Core.Path.{◌≡◌, sym, ap, ◌∙◌, subst}
use Prim.Native.Nat.{ℕ, ◌^◌, ◌<◌}
use Rattle.scalar.specs.Scalars.{cast_content, float_cast}
use Rattle.scalar.specs.declared.Scalar.{Scalar}
use Rattle.bits.proofs.BitLaws.{float_read, float-stays}
use Rattle.bits.proofs.float_to_float.Goals as goal

is : (c : goal.After-float_content) → c.float_content.result ≡ c.args.b
is c =
    let b = c.args.b in
    c.float_content.ensures ∙ ap (λ (x : Scalar). cast_content (float_cast x)) (float_read b c.ranges.b.fits) ∙ float-stays b c.ranges.b.fits

pub overflow_cast-result : goal.overflow_cast-result
overflow_cast-result c = record { fits = subst (λ (x : ℕ). x < 2 ^ 32) (sym (is c)) c.ranges.b.fits }

pub returns : goal.returns
returns c = is c
