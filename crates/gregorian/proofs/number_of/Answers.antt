-- `calendar::number_of` meets its contract: its three parts. Assumes nothing.
use mathlib.Core.Path.{ap, ◌∙◌}
use Prim.Native.Nat.{◌-◌}
use mathlib.Core.Bool.{Bool}
use Rattle.gregorian.specs.Rules.{month_start}
use Rattle.gregorian.specs.Counted.{leap_at, number_of}
use Rattle.gregorian.proofs.Laws.{month_length-≤}
use Rattle.gregorian.proofs.Fast.{month-low, years-≤}
use native.Mathlib.Omega.{arith}
use Rattle.gregorian.proofs.number_of.Goals as goal

pub overflow_add-result : goal.overflow_add-result
overflow_add-result c =
    omega (arith, years-≤ c.args.c.year, month-low c.is_leap-l.result (c.args.c.month - 1), c.requires.0.month-≤, c.requires.1, c.month_start.ensures, c.year_start.ensures)

pub overflow_add-result-2 : goal.overflow_add-result-2
overflow_add-result-2 c =
    omega (arith, years-≤ c.args.c.year, month-low c.is_leap-l.result (c.args.c.month - 1), month_length-≤ (leap_at c.args.c.year) c.args.c.month, c.requires.0.month-≤, c.requires.0.day-≤, c.requires.1, c.month_start.ensures, c.year_start.ensures)

pub returns : goal.returns
unfolding number_of
returns c =
    let e = c.month_start.ensures ∙ ap (λ (l : Bool). month_start l (c.args.c.month - 1)) c.is_leap-l.ensures in
    omega (arith, e, c.year_start.ensures)
