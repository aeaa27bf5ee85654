-- The addition over the unit: one law for any number of units to a day. Assumes nothing.
use Prim.Native.Nat.{ℕ, ◌+◌, ◌*◌, ◌/◌, ◌%◌, ◌≤◌, ◌<◌, ◌^◌}
use mathlib.Core.Path.{◌≡◌, ap, sym, ◌∙◌}
use native.Mathlib.Nat.{add-mul, mul-le-mul, div-add-mod'}
use native.Mathlib.Omega.{arith}
use lib.Arith.{digits_div, digits_mod}
use Rattle.gregorian.specs.Counted.{number_of, day_with, months_on, months_after, all_after}
use Rattle.gregorian.proofs.Laws.{date-within}
use Rattle.gregorian.proofs.Fast.{year-small, number_small, months-within, months-year}

-- ---- sizes
pub product_small : (m p : ℕ) → m < 2 ^ 32 → p ≤ 1000000 → m * p ≤ 2 ^ 32 * 1000000
product_small m p h k = mul-le-mul {n₁ = m} {m₁ = p} {n₂ = 2 ^ 32} {m₂ = 1000000} (omega arith) k

module _ (n k : ℕ) (hn : n < 2 ^ 41) (hk : k < 2 ^ 32) where
  pub date-year : (day_with n).year < 2 ^ 39
  date-year = omega (arith, year-small n)

  pub later-year : (months_on (day_with n) k).year < 2 ^ 33
  later-year = omega (arith, year-small n, months-year (day_with n) k (date-within n).month-≤ hk)

  pub later-number : number_of (months_on (day_with n) k) < 2 ^ 42
  later-number = omega (arith, later-year, year-small n, months-year (day_with n) k (date-within n).month-≤ hk, number_small (months_on (day_with n) k) (months-within (day_with n) k (date-within n)))

-- ---- the days and the part of a day together
pub over : (u p day rest months days millis : ℕ) → rest < u
    → (number_of (months_on (day_with day) months) + days + (rest + millis * p) / u) * u + (rest + millis * p) % u ≡ all_after u p (day * u + rest) months days millis
unfolding all_after months_after
over u p day rest months days millis h =
    let d : (day * u + rest) / u ≡ day = digits_div day h in
    let r : (day * u + rest) % u ≡ rest = digits_mod day h in
    let n = number_of (months_on (day_with day) months) in
    let t = rest + millis * p in
    parts n days rest u (millis * p) (t / u) (t % u) ((n + days + t / u) * u) (n * u) (days * u) (t / u * u) (add-mul (n + days) (t / u) u ∙ ap (λ (x : ℕ). x + t / u * u) (add-mul n days u)) (div-add-mod' t u)
    ∙ ap (λ (x : ℕ). number_of (months_on (day_with x) months) * u + rest + days * u + millis * p) (sym d)
    ∙ ap (λ (x : ℕ). number_of (months_on (day_with ((day * u + rest) / u)) months) * u + x + days * u + millis * p) (sym r)
  where
    parts : (n days rest u mp q r whole nu du qu : ℕ) → whole ≡ nu + du + qu → qu + r ≡ rest + mp → whole + r ≡ nu + rest + du + mp
    parts n days rest u mp q r whole nu du qu a b = omega arith
