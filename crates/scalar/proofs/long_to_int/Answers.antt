-- `scalar::long_to_int` meets its contract: the two cases of `narrowed`.
use mathlib.Core.Path.{sym, ap, ◌∙◌}
use mathlib.Core.Bool.{Bool}
use Rattle.std.specs.Prelude.{Some, None}
use Rattle.base.specs.Base.{when◌then◌else◌}
use Rattle.scalar.specs.Conversion.{int_of_long}
use Rattle.scalar.specs.Scalars.{narrowed}
use Rattle.scalar.proofs.long_to_int.Goals as goal

pub returns-then-in_int : goal.returns-then-in_int
unfolding narrowed int_of_long
returns-then-in_int c =
    let b = c.args.b in
    sym (ap (λ (t : Bool). when t then Some (int_of_long b) else None) (sym c.in_int.ensures ∙ c.if-in_int.true))

pub returns-else-in_int : goal.returns-else-in_int
unfolding narrowed int_of_long
returns-else-in_int c =
    let b = c.args.b in
    sym (ap (λ (t : Bool). when t then Some (int_of_long b) else None) (sym c.in_int.ensures ∙ c.if-in_int.false))
