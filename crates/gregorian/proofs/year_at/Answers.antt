-- `gregorian::year_at` meets its contract: the guess is the year or the one after it. Assumes nothing.
use Prim.Native.Nat.{ℕ, ◌+◌, ◌-◌, ◌*◌, ◌/◌, ◌≤◌, ◌<◌}
use mathlib.Core.Path.{◌≡◌, refl, subst}
use Rattle.gregorian.specs.Counted.{years_to}
use Rattle.gregorian.proofs.Fast.{year-high, year-low, year-some}
use native.Mathlib.Omega.{arith}
use Rattle.gregorian.proofs.year_at.Goals as goal

pub returns-then-year_start-n : goal.returns-then-year_start-n
returns-then-year_start-n c =
    let n = c.args.n in
    let y = 400 * (n + 1) / 146097 in
    (omega (arith, c.year_start.ensures), year-high n y refl, omega (arith, c.requires))

pub overflow_sub-result : goal.overflow_sub-result
overflow_sub-result c =
    let n = c.args.n in
    let y = 400 * (n + 1) / 146097 in
    let h : n < years_to y = omega (arith, c.year_start.ensures) in
    year-some n y h

pub returns-else-year_start-n : goal.returns-else-year_start-n
returns-else-year_start-n c =
    let n = c.args.n in
    let y = 400 * (n + 1) / 146097 in
    let h : n < years_to y = omega (arith, c.year_start.ensures) in
    let s : n < years_to (y - 1 + 1) = subst (λ (x : ℕ). n < years_to x) (back y (year-some n y h)) h in
    (year-low n y refl h, s, omega (arith, c.requires))
  where
    back : (y : ℕ) → 1 ≤ y → y ≡ y - 1 + 1
    back y h = omega arith
