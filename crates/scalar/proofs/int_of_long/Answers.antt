-- `scalar::int_of_long` meets its contract: the two cases of `narrowed`.
use mathlib.Core.Path.{sym, ap, ◌∙◌}
use lib.IntN.{ℤ}
use mir.Syntax.{w32, w64}
use mir.ValLaws.{to_z-of_z}
use Rattle.std.specs.Prelude.{Ok}
use mir.Val.{of_z}
use Rattle.rounding.proofs.Negatives.{signed-32, unsigned-64}
use Rattle.scalar.specs.Scalars.{int_of, narrowed}
use Rattle.scalar.specs.declared.Scalar.TheVariants.{Int}
use Rattle.scalar.proofs.int_of_long.Goals as goal

pub returns-in-Some : goal.returns-in-Some
returns-in-Some c =
    let e = c.long_to_int.ensures ∙ ap narrowed (c.cast_unsigned.ensures ∙ ap (of_z w64) (to_z-of_z w64 c.args.n c.ranges.n) ∙ unsigned-64 c.args.n) in
    ap (λ (z : ℤ). Ok (Int z)) (to_z-of_z w32 c.cast_signed.result (record { sfits = c.cast_signed.type_inv }) ∙ c.cast_signed.ensures ∙ signed-32 _) ∙ sym (ap int_of (sym e ∙ c.in-Some.is))

pub returns-in-None : goal.returns-in-None
returns-in-None c =
    let e = c.long_to_int.ensures ∙ ap narrowed (c.cast_unsigned.ensures ∙ ap (of_z w64) (to_z-of_z w64 c.args.n c.ranges.n) ∙ unsigned-64 c.args.n) in
    sym (ap int_of (sym e ∙ c.in-None.is))
