-- `gregorian::month_at` meets its contract: the guess is the month or the one before it. Assumes nothing.
use Prim.Native.Nat.{◌+◌, ◌/◌, ◌≤◌}
use Rattle.gregorian.specs.Rules.{month_start}
use Rattle.gregorian.proofs.Laws.{year_length-≤}
use Rattle.gregorian.proofs.Fast.{month-low, month-high, month-twelve}
use native.Mathlib.Omega.{arith}
use Rattle.gregorian.proofs.month_at.Goals as goal

pub month_start-requires : goal.month_start-requires
month_start-requires c = omega (arith, year_length-≤ c.args.l)

pub returns-then-month_start-d : goal.returns-then-month_start-d
returns-then-month_start-d c =
    let l = c.args.l in
    let d = c.args.d in
    let s : month_start l (d / 32 + 1) ≤ d = omega (arith, c.month_start.ensures) in
    let t = month-twelve l d (d / 32 + 1) c.requires (omega (arith, year_length-≤ l, c.requires)) s in
    (s, omega (arith, month-high l (d / 32) (omega arith)), t)

pub returns-else-month_start-d : goal.returns-else-month_start-d
returns-else-month_start-d c =
    let l = c.args.l in
    let d = c.args.d in
    (omega (arith, month-low l (d / 32)), omega (arith, c.month_start.ensures), omega (arith, year_length-≤ l, c.requires))
