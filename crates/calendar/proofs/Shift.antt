-- The calendar, and the calendar counted from an origin: the one is the other, shown. Assumes nothing.
use Prim.Native.Nat.{ℕ, zero, suc, ◌+◌, ◌-◌, ◌/◌, ◌%◌, ◌≤◌, ◌<◌, min}
use mathlib.Core.Path.{◌≡◌, refl, ap, sym, ◌∙◌}
use mathlib.Core.Bool.{Bool, true, false, not, ◌&&◌, ◌||◌}
use native.Mathlib.Nat.{add-suc}
use native.Mathlib.Omega.{arith}
use lib.Dec.{eqb, ltb}
use lib.IntN.{ℤ, pos, negsuc, suc_ℤ, pred_ℤ, sub_ℕ, ◌+ℤ◌, ◌-ℤ◌}
use borrow.Author.Tests.{eqb-true, eqb-false, eq-eqb, ne_eqb, lt-ltb, ltb-false}
use Rattle.base.specs.Base.{when◌then◌else◌}
use Rattle.gregorian.specs.declared.Counted.{Counted}
use Rattle.gregorian.specs.Rules.{year_length, month_length, month_start}
use Rattle.calendar.specs.Calendar.{leap, year_start, civil, day_number, next, previous, civil_of, add_months}
use Rattle.gregorian.specs.Counted.{leap_at, years_to, counted, Within, number_of, following, day_with, months_on}
use Rattle.calendar.specs.Origin.{year_zero, day_zero, epoch, shown}
use Rattle.gregorian.proofs.Laws.{years, month_length-≥, date-within, date-day}
use Rattle.calendar.proofs.Whole.{sub_cases, pos-sub, neg-sub, sub-add, sub_back, sub-less, sub-suc, sub-pred}

-- ---- leap years
same_test : (a b : ℕ) → (a ≡ 0 → b ≡ 0) → (b ≡ 0 → a ≡ 0) → eqb a 0 ≡ eqb b 0
same_test a b f g = go (eqb a 0) refl
  where
    go : (t : Bool) → eqb a 0 ≡ t → t ≡ eqb b 0
    go true e = sym (eq-eqb b 0 (f (eqb-true a 0 e)))
    go false e = sym (ne_eqb b 0 (λ h. eqb-false a 0 e (g h)))

rule : Bool → Bool → Bool → Bool
rule a b c = a && (not b || c)

module _ (y : ℕ) where
  above-4 : year_zero ≤ y → eqb ((y - year_zero) % 4) 0 ≡ eqb (y % 4) 0
  above-4 h = same_test ((y - year_zero) % 4) (y % 4) (λ e. omega arith) (λ e. omega arith)

  above-100 : year_zero ≤ y → eqb ((y - year_zero) % 100) 0 ≡ eqb (y % 100) 0
  above-100 h = same_test ((y - year_zero) % 100) (y % 100) (λ e. omega arith) (λ e. omega arith)

  above-400 : year_zero ≤ y → eqb ((y - year_zero) % 400) 0 ≡ eqb (y % 400) 0
  above-400 h = same_test ((y - year_zero) % 400) (y % 400) (λ e. omega arith) (λ e. omega arith)

  below-4 : y < year_zero → eqb (suc (year_zero - suc y) % 4) 0 ≡ eqb (y % 4) 0
  below-4 h = same_test (suc (year_zero - suc y) % 4) (y % 4) (λ e. omega arith) (λ e. omega arith)

  below-100 : y < year_zero → eqb (suc (year_zero - suc y) % 100) 0 ≡ eqb (y % 100) 0
  below-100 h = same_test (suc (year_zero - suc y) % 100) (y % 100) (λ e. omega arith) (λ e. omega arith)

  below-400 : y < year_zero → eqb (suc (year_zero - suc y) % 400) 0 ≡ eqb (y % 400) 0
  below-400 h = same_test (suc (year_zero - suc y) % 400) (y % 400) (λ e. omega arith) (λ e. omega arith)

  pub leap-shown : leap (sub_ℕ y year_zero) ≡ leap_at y
  unfolding leap leap_at
  leap-shown = sub_cases (λ z. leap z ≡ leap_at y) y year_zero (λ h. cc (below-4 h, below-100 h, below-400 h)) (λ h. cc (above-4 h, above-100 h, above-400 h))

-- ---- years
years-zero : years_to year_zero ≡ day_zero
years-zero = omega (arith, years year_zero)

years-epoch : years_to (year_zero + 1970) ≡ epoch
years-epoch = omega (arith, years (year_zero + 1970))

years-step : (y : ℕ) → years_to y + year_length (leap_at y) ≡ years_to (suc y)
unfolding years_to
years-step y = refl

from_zero : (n : ℕ) → year_start (pos n) ≡ sub_ℕ (years_to (year_zero + n)) day_zero
unfolding year_start
from_zero zero = ap (λ (k : ℕ). sub_ℕ k day_zero) (sym years-zero)
from_zero (suc n) =
    let l : leap (pos n) ≡ leap_at (year_zero + n) = ap leap (pos-sub year_zero n) ∙ leap-shown (year_zero + n) in
    ap (λ (z : ℤ). z +ℤ pos (year_length (leap (pos n)))) (from_zero n)
    ∙ ap (λ (b : Bool). sub_ℕ (years_to (year_zero + n)) day_zero +ℤ pos (year_length b)) l
    ∙ sub-add (years_to (year_zero + n)) day_zero (year_length (leap_at (year_zero + n)))
    ∙ ap (λ (k : ℕ). sub_ℕ k day_zero) (years-step (year_zero + n))
    ∙ ap (λ (k : ℕ). sub_ℕ (years_to k) day_zero) (sym (add-suc year_zero n))

before-zero : (n : ℕ) → suc n ≤ year_zero → year_start (negsuc n) ≡ sub_ℕ (years_to (year_zero - suc n)) day_zero
unfolding year_start
before-zero zero h =
    let y = year_zero - 1 in
    let l : leap (negsuc 0) ≡ leap_at y = ap leap (neg-sub year_zero 0 h) ∙ leap-shown y in
    let e : years_to y + year_length (leap_at y) ≡ day_zero = years-step y ∙ years-zero in
    ap (λ (b : Bool). pos 0 -ℤ pos (year_length b)) l
    ∙ ap (λ (z : ℤ). z -ℤ pos (year_length (leap_at y))) (ap (λ (k : ℕ). sub_ℕ k day_zero) (sym e))
    ∙ sub_back (years_to y) day_zero (year_length (leap_at y))
before-zero (suc n) h =
    let y = year_zero - suc (suc n) in
    let l : leap (negsuc (suc n)) ≡ leap_at y = ap leap (neg-sub year_zero (suc n) h) ∙ leap-shown y in
    let s : suc y ≡ year_zero - suc n = omega arith in
    let e : years_to (year_zero - suc n) ≡ years_to y + year_length (leap_at y) = ap years_to (sym s) ∙ sym (years-step y) in
    ap (λ (z : ℤ). z -ℤ pos (year_length (leap (negsuc (suc n))))) (before-zero n (omega arith))
    ∙ ap (λ (b : Bool). sub_ℕ (years_to (year_zero - suc n)) day_zero -ℤ pos (year_length b)) l
    ∙ ap (λ (k : ℕ). sub_ℕ k day_zero -ℤ pos (year_length (leap_at y))) e
    ∙ sub_back (years_to y) day_zero (year_length (leap_at y))

pub year-shown : (y : ℕ) → year_start (sub_ℕ y year_zero) ≡ sub_ℕ (years_to y) day_zero
year-shown y = sub_cases (λ z. year_start z ≡ sub_ℕ (years_to y) day_zero) y year_zero below above
  where
    below : y < year_zero → year_start (negsuc (year_zero - suc y)) ≡ sub_ℕ (years_to y) day_zero
    below h = let e : year_zero - suc (year_zero - suc y) ≡ y = omega arith in before-zero (year_zero - suc y) (omega arith) ∙ ap (λ (k : ℕ). sub_ℕ (years_to k) day_zero) e

    above : year_zero ≤ y → year_start (pos (y - year_zero)) ≡ sub_ℕ (years_to y) day_zero
    above h = let e : year_zero + (y - year_zero) ≡ y = omega arith in from_zero (y - year_zero) ∙ ap (λ (k : ℕ). sub_ℕ (years_to k) day_zero) e

-- 719,528 days from the year 0 to 1970
pub to-1970 : year_start (pos 1970) ≡ pos 719528
to-1970 = from_zero 1970 ∙ ap (λ (k : ℕ). sub_ℕ k day_zero) years-epoch

-- ---- the number of a day
pub day-shown : (c : Counted) → day_number (shown c) ≡ sub_ℕ (number_of c) epoch
unfolding day_number number_of
day-shown c =
    let y = c.year in
    let q = month_start (leap_at y) (c.month - 1) + (c.day - 1) in
    let e : years_to y + q ≡ years_to y + month_start (leap_at y) (c.month - 1) + (c.day - 1) = omega arith in
    ap (λ (b : Bool). year_start (sub_ℕ y year_zero) +ℤ pos (month_start b (c.month - 1) + (c.day - 1)) -ℤ year_start (pos 1970)) (leap-shown y)
    ∙ ap (λ (z : ℤ). z +ℤ pos q -ℤ year_start (pos 1970)) (year-shown y)
    ∙ ap (λ (z : ℤ). z -ℤ year_start (pos 1970)) (sub-add (years_to y) day_zero q)
    ∙ ap (λ (z : ℤ). sub_ℕ (years_to y + q) day_zero -ℤ z) to-1970
    ∙ sub-less (years_to y + q) day_zero 719528
    ∙ ap (λ (k : ℕ). sub_ℕ k epoch) e

-- ---- the day after a day
pub next-shown : (c : Counted) → next (shown c) ≡ shown (following c)
unfolding next following
next-shown c =
    ap (λ (b : Bool). when ltb c.day (month_length b c.month) then civil z c.month (c.day + 1) else when ltb c.month 12 then civil z (c.month + 1) 1 else civil (suc_ℤ z) 1 1) (leap-shown c.year)
    ∙ go (ltb c.day (month_length (leap_at c.year) c.month)) (ltb c.month 12)
  where
    z : ℤ
    z = sub_ℕ c.year year_zero

    go : (a b : Bool) → (when a then civil z c.month (c.day + 1) else when b then civil z (c.month + 1) 1 else civil (suc_ℤ z) 1 1)
        ≡ shown (when a then counted c.year c.month (c.day + 1) else when b then counted c.year (c.month + 1) 1 else counted (c.year + 1) 1 1)
    go true b = refl
    go false true = refl
    go false false = ap (λ (y : ℤ). civil y 1 1) (sub-suc c.year year_zero)

-- the day before the day after it
december : (l : Bool) → month_length l 12 ≡ 31
unfolding month_length
december l = refl

pub previous-shown : (c : Counted) → Within c → previous (shown (following c)) ≡ shown c
unfolding previous following
previous-shown c w = go (ltb c.day (month_length (leap_at c.year) c.month)) (ltb c.month 12) refl refl
  where
    z : ℤ
    z = sub_ℕ c.year year_zero

    len : ℕ
    len = month_length (leap_at c.year) c.month

    go : (a b : Bool) → ltb c.day len ≡ a → ltb c.month 12 ≡ b
        → previous (shown (when a then counted c.year c.month (c.day + 1) else when b then counted c.year (c.month + 1) 1 else counted (c.year + 1) 1 1)) ≡ shown c
    go true b p q =
        let e : c.day + 1 - 1 ≡ c.day = omega arith in
        ap (λ (t : Bool). when t then civil z c.month (c.day + 1 - 1) else when ltb 1 c.month then civil z (c.month - 1) (month_length (leap z) (c.month - 1)) else civil (pred_ℤ z) 12 31) (lt-ltb 1 (c.day + 1) (omega (arith, w.day-≥)))
        ∙ ap (civil z c.month) e
    go false true p q =
        let e : c.month + 1 - 1 ≡ c.month = omega arith in
        let d : len ≡ c.day = omega (arith, ltb-false c.day len p, w.day-≤) in
        ap (λ (t : Bool). when t then civil z (c.month + 1 - 1) (month_length (leap z) (c.month + 1 - 1)) else civil (pred_ℤ z) 12 31) (lt-ltb 1 (c.month + 1) (omega (arith, w.month-≥)))
        ∙ ap (λ (m : ℕ). civil z m (month_length (leap z) m)) e
        ∙ ap (λ (b : Bool). civil z c.month (month_length b c.month)) (leap-shown c.year)
        ∙ ap (civil z c.month) d
    go false false p q =
        let m : c.month ≡ 12 = omega (arith, ltb-false c.month 12 q, w.month-≤) in
        let d : c.day ≡ len = omega (arith, ltb-false c.day len p, w.day-≤) in
        let e : len ≡ 31 = ap (month_length (leap_at c.year)) m ∙ december (leap_at c.year) in
        ap (λ (y : ℤ). civil y 12 31) (sub-pred c.year year_zero)
        ∙ ap (λ (k : ℕ). civil z k 31) (sym m)
        ∙ ap (civil z c.month) (sym (d ∙ e))

-- ---- the day with a number
first-number : number_of (counted (year_zero + 1970) 1 1) ≡ epoch
unfolding number_of month_start
first-number = omega (arith, years-epoch)

pub with-suc : (n : ℕ) → following (day_with n) ≡ day_with (suc n)
unfolding day_with
with-suc n = refl

first : day_with epoch ≡ counted (year_zero + 1970) 1 1
first = ap day_with (sym first-number) ∙ date-day (counted (year_zero + 1970) 1 1) (record { month-≥ = omega arith; month-≤ = omega arith; day-≥ = omega arith; day-≤ = omega (arith, month_length-≥ (leap_at (year_zero + 1970)) 1) })

from-1970 : (n : ℕ) → civil_of (pos n) ≡ shown (day_with (epoch + n))
unfolding civil_of
from-1970 zero = ap shown (sym first)
from-1970 (suc n) = ap next (from-1970 n) ∙ next-shown (day_with (epoch + n)) ∙ ap shown (with-suc (epoch + n)) ∙ ap (λ (k : ℕ). shown (day_with k)) (sym (add-suc epoch n))

before-1970 : (n : ℕ) → suc n ≤ epoch → civil_of (negsuc n) ≡ shown (day_with (epoch - suc n))
unfolding civil_of
before-1970 zero h =
    ap (λ (c : Counted). previous (shown c)) (sym (with-suc (epoch - 1) ∙ first))
    ∙ previous-shown (day_with (epoch - 1)) (date-within (epoch - 1))
before-1970 (suc n) h =
    let k = epoch - suc (suc n) in
    let s : suc k ≡ epoch - suc n = omega arith in
    ap previous (before-1970 n (omega arith))
    ∙ ap (λ (c : Counted). previous (shown c)) (ap day_with (sym s) ∙ sym (with-suc k))
    ∙ previous-shown (day_with k) (date-within k)

pub date-shown : (n : ℕ) → civil_of (sub_ℕ n epoch) ≡ shown (day_with n)
date-shown n = sub_cases (λ z. civil_of z ≡ shown (day_with n)) n epoch below above
  where
    below : n < epoch → civil_of (negsuc (epoch - suc n)) ≡ shown (day_with n)
    below h = let e : epoch - suc (epoch - suc n) ≡ n = omega arith in before-1970 (epoch - suc n) (omega arith) ∙ ap (λ (k : ℕ). shown (day_with k)) e

    above : epoch ≤ n → civil_of (pos (n - epoch)) ≡ shown (day_with n)
    above h = let e : epoch + (n - epoch) ≡ n = omega arith in from-1970 (n - epoch) ∙ ap (λ (k : ℕ). shown (day_with k)) e

-- ---- months are added
pub months-shown : (c : Counted) (k : ℕ) → add_months (shown c) k ≡ shown (months_on c k)
unfolding add_months months_on
months-shown c k =
    let t = c.month - 1 + k in
    let y = c.year + t / 12 in
    ap (λ (z : ℤ). civil z (t % 12 + 1) (min c.day (month_length (leap z) (t % 12 + 1)))) (sub-add c.year year_zero (t / 12))
    ∙ ap (λ (b : Bool). civil (sub_ℕ y year_zero) (t % 12 + 1) (min c.day (month_length b (t % 12 + 1)))) (leap-shown y)
