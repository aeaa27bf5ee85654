-- Adding months never goes back. Assumes nothing.
use Prim.Native.Nat.{ℕ, zero, suc, ◌+◌, ◌-◌, ◌*◌, ◌/◌, ◌%◌, ◌≤◌, min}
use mathlib.Core.Path.{◌≡◌, refl, ap, sym, ◌∙◌, subst}
use mathlib.Core.Bool.{Bool, true, false}
use native.Mathlib.Nat.{add-suc, add-zero, mul-le-mul_right, div-add-mod'}
use native.Mathlib.Omega.{arith}
use lib.Dec.{ltb}
use borrow.Author.Tests.{ltb-true, ltb-false}
use Rattle.gregorian.specs.declared.Counted.{Counted}
use Rattle.gregorian.specs.Rules.{month_length, month_start}
use Rattle.gregorian.specs.Counted.{leap_at, years_to, counted, Within, number_of, day_with, months_on, months_after}
use Rattle.gregorian.proofs.Laws.{month-step, year-of-months, day-date, date-within}
use Rattle.gregorian.proofs.Fast.{year-length, min-under}

-- the first day of a month, with all months counted in a row
first_of : ℕ → ℕ
first_of i = years_to (i / 12) + month_start (leap_at (i / 12)) (i % 12)

no-months : (l : Bool) → month_start l 0 ≡ 0
unfolding month_start
no-months l = refl

first_next : (i : ℕ) → first_of (suc i) ≡ first_of i + month_length (leap_at (i / 12)) (i % 12 + 1)
unfolding first_of
first_next i = go (ltb (i % 12) 11) refl
  where
    l : Bool
    l = leap_at (i / 12)

    step : month_start l (i % 12 + 1) ≡ month_start l (i % 12) + month_length l (i % 12 + 1)
    step = let e : i % 12 + 1 - 1 ≡ i % 12 = omega arith in month-step l (i % 12 + 1) (omega arith) ∙ ap (λ (j : ℕ). month_start l j + month_length l (i % 12 + 1)) e

    sums : (a b c d : ℕ) → b ≡ c + d → a + b ≡ a + c + d
    sums a b c d h = omega arith

    go : (t : Bool) → ltb (i % 12) 11 ≡ t → first_of (suc i) ≡ first_of i + month_length l (i % 12 + 1)
    go true e =
        let h = ltb-true (i % 12) 11 e in
        let q : suc i / 12 ≡ i / 12 = omega arith in
        let r : suc i % 12 ≡ i % 12 + 1 = omega arith in
        ap (λ (y : ℕ). years_to y + month_start (leap_at y) (suc i % 12)) q
        ∙ ap (λ (m : ℕ). years_to (i / 12) + month_start l m) r
        ∙ sums (years_to (i / 12)) (month_start l (i % 12 + 1)) (month_start l (i % 12)) (month_length l (i % 12 + 1)) step
    go false e =
        let h = ltb-false (i % 12) 11 e in
        let q : suc i / 12 ≡ i / 12 + 1 = omega arith in
        let r : suc i % 12 ≡ 0 = omega arith in
        let m : i % 12 + 1 ≡ 12 = omega arith in
        ap (λ (y : ℕ). years_to y + month_start (leap_at y) (suc i % 12)) q
        ∙ ap (λ (k : ℕ). years_to (i / 12 + 1) + month_start (leap_at (i / 12 + 1)) k) r
        ∙ ap (λ (k : ℕ). years_to (i / 12 + 1) + k) (no-months (leap_at (i / 12 + 1)))
        ∙ add-zero (years_to (i / 12 + 1))
        ∙ year-length (i / 12)
        ∙ ap (λ (k : ℕ). years_to (i / 12) + k) (sym (year-of-months l) ∙ ap (month_start l) (sym m))
        ∙ sums (years_to (i / 12)) (month_start l (i % 12 + 1)) (month_start l (i % 12)) (month_length l (i % 12 + 1)) step

first-later : (i k : ℕ) → first_of i ≤ first_of (i + k)
first-later i zero = rw add-zero (omega arith)
first-later i (suc k) = rw add-suc (omega (arith, first-later i k, first_next (i + k)))

number-first : (c : Counted) → Within c → number_of c ≡ first_of (12 * c.year + (c.month - 1)) + (c.day - 1)
unfolding number_of first_of
number-first c w =
    let q : (12 * c.year + (c.month - 1)) / 12 ≡ c.year = omega (arith, w.month-≤, w.month-≥) in
    let r : (12 * c.year + (c.month - 1)) % 12 ≡ c.month - 1 = omega (arith, w.month-≤, w.month-≥) in
    sym (ap (λ (y : ℕ). years_to y + month_start (leap_at y) ((12 * c.year + (c.month - 1)) % 12) + (c.day - 1)) q ∙ ap (λ (m : ℕ). years_to c.year + month_start (leap_at c.year) m + (c.day - 1)) r)

months-first : (c : Counted) (k : ℕ) → first_of (12 * c.year + (c.month - 1) + k) ≤ number_of (months_on c k)
unfolding number_of first_of months_on
months-first c k =
    let t = c.month - 1 + k in
    let i = 12 * c.year + (c.month - 1) + k in
    let q : i / 12 ≡ c.year + t / 12 = omega arith in
    let r : i % 12 ≡ t % 12 + 1 - 1 = omega arith in
    let e : first_of i ≡ years_to (c.year + t / 12) + month_start (leap_at (c.year + t / 12)) (t % 12 + 1 - 1) = ap (λ (y : ℕ). years_to y + month_start (leap_at y) (i % 12)) q ∙ ap (λ (m : ℕ). years_to (c.year + t / 12) + month_start (leap_at (c.year + t / 12)) m) r in
    omega (arith, e)

-- no months change nothing
pub no-months-on : (c : Counted) → Within c → months_on c 0 ≡ c
unfolding months_on
no-months-on c w =
    let t = c.month - 1 + 0 in
    let q : c.year + t / 12 ≡ c.year = omega (arith, w.month-≤) in
    let r : t % 12 + 1 ≡ c.month = omega (arith, w.month-≤, w.month-≥) in
    ap (λ (y : ℕ). counted y (t % 12 + 1) (min c.day (month_length (leap_at y) (t % 12 + 1)))) q
    ∙ ap (λ (m : ℕ). counted c.year m (min c.day (month_length (leap_at c.year) m))) r
    ∙ ap (counted c.year c.month) (min-under c.day (month_length (leap_at c.year) c.month) w.day-≤)

pub number-later : (c : Counted) (k : ℕ) → Within c → number_of c ≤ number_of (months_on c k)
number-later c zero w = omega (arith, ap number_of (no-months-on c w))
number-later c (suc k) w =
    let i = 12 * c.year + (c.month - 1) in
    let s : suc i + k ≡ i + suc k = omega arith in
    let f : first_of (suc i) ≤ first_of (i + suc k) = subst (λ (j : ℕ). first_of (suc i) ≤ first_of j) s (first-later (suc i) k) in
    let q : i / 12 ≡ c.year = omega (arith, w.month-≤, w.month-≥) in
    let r : i % 12 + 1 ≡ c.month = omega (arith, w.month-≤, w.month-≥) in
    let n : month_length (leap_at (i / 12)) (i % 12 + 1) ≡ month_length (leap_at c.year) c.month = ap (λ (y : ℕ). month_length (leap_at y) (i % 12 + 1)) q ∙ ap (month_length (leap_at c.year)) r in
    omega (arith, number-first c w, first_next i, f, months-first c (suc k), w.day-≤, w.day-≥)

pub instant-later : (u t k : ℕ) → t ≤ months_after u t k
unfolding months_after
instant-later u t k =
    let n : t / u ≤ number_of (months_on (day_with (t / u)) k) = omega (arith, day-date (t / u), number-later (day_with (t / u)) k (date-within (t / u))) in
    omega (arith, mul-le-mul_right {m = t / u} {n = number_of (months_on (day_with (t / u)) k)} u n, div-add-mod' t u)
