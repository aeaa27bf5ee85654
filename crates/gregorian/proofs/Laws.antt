-- Laws of the calendar: the count of days in closed form, and that the number of a day and the day with a number are inverse. Assumes nothing.
use Prim.Native.Nat.{ℕ, zero, suc, ◌+◌, ◌-◌, ◌*◌, ◌/◌, ◌%◌, ◌≤◌, ◌<◌}
use mathlib.Core.Path.{◌≡◌, refl, ap, sym, ◌∙◌}
use mathlib.Core.Bool.{Bool, true, false, not, ◌&&◌, ◌||◌}
use native.Mathlib.Nat.{add-suc, add-zero}
use native.Mathlib.Numerals.{add-one}
use native.Mathlib.Omega.{arith}
use lib.Dec.{eqb, ltb}
use borrow.Author.Tests.{eqb-true, eqb-false, ltb-true, ltb-false, lt-ltb, le-ltb}
use Rattle.base.specs.Base.{when◌then◌else◌}
use Rattle.gregorian.specs.declared.Counted.{Counted}
use Rattle.gregorian.specs.Rules.{year_length, month_length, month_start}
use Rattle.gregorian.specs.Counted.{leap_at, years_to, counted, Within, number_of, following, day_with}

-- ---- the years in closed form: a multiple of 4, of 100 and of 400 each begins a new one
one-if : Bool → ℕ
one-if true = 1
one-if false = 0

fours : (y : ℕ) (a : Bool) → eqb (y % 4) 0 ≡ a → (suc y + 3) / 4 ≡ (y + 3) / 4 + one-if a
unfolding one-if
fours y true p = let h = eqb-true (y % 4) 0 p in omega arith
fours y false p = let h = eqb-false (y % 4) 0 p in omega arith

hundreds : (y : ℕ) (a : Bool) → eqb (y % 100) 0 ≡ a → (suc y + 99) / 100 ≡ (y + 99) / 100 + one-if a
unfolding one-if
hundreds y true p = let h = eqb-true (y % 100) 0 p in omega arith
hundreds y false p = let h = eqb-false (y % 100) 0 p in omega arith

four-hundreds : (y : ℕ) (a : Bool) → eqb (y % 400) 0 ≡ a → (suc y + 399) / 400 ≡ (y + 399) / 400 + one-if a
unfolding one-if
four-hundreds y true p = let h = eqb-true (y % 400) 0 p in omega arith
four-hundreds y false p = let h = eqb-false (y % 400) 0 p in omega arith

-- a multiple of 400 is one of 100, and that one of 4
leap-length : (y : ℕ) (a b c : Bool) → eqb (y % 4) 0 ≡ a → eqb (y % 100) 0 ≡ b → eqb (y % 400) 0 ≡ c
    → year_length (a && (not b || c)) + one-if b ≡ 365 + one-if a + one-if c
unfolding one-if
leap-length y true true true p q r = refl
leap-length y true true false p q r = refl
leap-length y true false true p q r = let i = eqb-false (y % 100) 0 q in let j = eqb-true (y % 400) 0 r in absurd (i (omega arith))
leap-length y true false false p q r = refl
leap-length y false true true p q r = let h = eqb-false (y % 4) 0 p in let i = eqb-true (y % 100) 0 q in absurd (h (omega arith))
leap-length y false true false p q r = let h = eqb-false (y % 4) 0 p in let i = eqb-true (y % 100) 0 q in absurd (h (omega arith))
leap-length y false false true p q r = let h = eqb-false (y % 4) 0 p in let j = eqb-true (y % 400) 0 r in absurd (h (omega arith))
leap-length y false false false p q r = refl

pub years : (y : ℕ) → years_to y + (y + 99) / 100 ≡ 365 * y + (y + 3) / 4 + (y + 399) / 400
unfolding years_to leap_at
years zero = refl
years (suc y) =
    let i = years y in
    let a = fours y (eqb (y % 4) 0) refl in
    let b = hundreds y (eqb (y % 100) 0) refl in
    let c = four-hundreds y (eqb (y % 400) 0) refl in
    let s = leap-length y (eqb (y % 4) 0) (eqb (y % 100) 0) (eqb (y % 400) 0) refl refl refl in
    omega (arith, i, a, b, c, s)

-- 400 years have 146,097 days, and the same leap years
pub era : (y : ℕ) → years_to (y + 400) ≡ years_to y + 146097
era y =
    let a : (y + 400 + 3) / 4 ≡ (y + 3) / 4 + 100 = omega arith in
    let b : (y + 400 + 99) / 100 ≡ (y + 99) / 100 + 4 = omega arith in
    let c : (y + 400 + 399) / 400 ≡ (y + 399) / 400 + 1 = omega arith in
    by_parts (years_to y) (years_to (y + 400)) y ((y + 3) / 4) ((y + 99) / 100) ((y + 399) / 400) (years y) (rw (a, b, c) at (years (y + 400)))
  where
    by_parts : (s t y a b c : ℕ) → s + b ≡ 365 * y + a + c → t + (b + 4) ≡ 365 * (y + 400) + (a + 100) + (c + 1) → t ≡ s + 146097
    by_parts s t y a b c h k = omega arith

pub year_length-≥ : (l : Bool) → 365 ≤ year_length l
year_length-≥ true = omega arith
year_length-≥ false = omega arith

pub year_length-≤ : (l : Bool) → year_length l ≤ 366
year_length-≤ true = omega arith
year_length-≤ false = omega arith

-- ---- the months
pub month_length-≥ : (l : Bool) (m : ℕ) → 28 ≤ month_length l m
unfolding month_length
month_length-≥ l m = go l (eqb m 2) (eqb m 4 || eqb m 6 || eqb m 9 || eqb m 11)
  where
    go : (l a b : Bool) → 28 ≤ (when a then (when l then 29 else 28) else when b then 30 else 31)
    go true true b = omega arith
    go false true b = omega arith
    go l false true = omega arith
    go l false false = omega arith

pub month_length-≤ : (l : Bool) (m : ℕ) → month_length l m ≤ 31
unfolding month_length
month_length-≤ l m = go l (eqb m 2) (eqb m 4 || eqb m 6 || eqb m 9 || eqb m 11)
  where
    go : (l a b : Bool) → (when a then (when l then 29 else 28) else when b then 30 else 31) ≤ 31
    go true true b = omega arith
    go false true b = omega arith
    go l false true = omega arith
    go l false false = omega arith

-- the twelve months make the year
pub year-of-months : (l : Bool) → month_start l 12 ≡ year_length l
unfolding month_start month_length
year-of-months true = refl
year-of-months false = refl

-- ---- the next day is the next day
-- the days before a month, and those of it
pub month-step : (l : Bool) (m : ℕ) → 1 ≤ m → month_start l m ≡ month_start l (m - 1) + month_length l m
unfolding month_start
month-step l zero h = absurd (omega arith)
month-step l (suc k) h = let e : suc k - 1 ≡ k = omega arith in rw e refl

pub next-day : (y m d : ℕ) → d < month_length (leap_at y) m → following (counted y m d) ≡ counted y m (d + 1)
unfolding following
next-day y m d h = rw (lt-ltb d (month_length (leap_at y) m) h) refl

pub next-month : (y m d : ℕ) → month_length (leap_at y) m ≤ d → m < 12 → following (counted y m d) ≡ counted y (m + 1) 1
unfolding following
next-month y m d h k = rw (le-ltb d (month_length (leap_at y) m) h, lt-ltb m 12 k) refl

pub next-year : (y m d : ℕ) → month_length (leap_at y) m ≤ d → 12 ≤ m → following (counted y m d) ≡ counted (y + 1) 1 1
unfolding following
next-year y m d h k = rw (le-ltb d (month_length (leap_at y) m) h, le-ltb m 12 k) refl

-- the next day has the next number, and is in the calendar
pub record Follows (c e : Counted) : Type 0 where
  pub number : number_of e ≡ number_of c + 1
  pub there : Within e

module _ (c : Counted) (w : Within c) where
  later-day : c.day < month_length (leap_at c.year) c.month → Follows c (counted c.year c.month (c.day + 1))
  unfolding number_of
  later-day h = record { number = omega (arith, w.day-≥); there = record { month-≥ = w.month-≥; month-≤ = w.month-≤; day-≥ = omega arith; day-≤ = omega arith } }

  later-month : month_length (leap_at c.year) c.month ≤ c.day → c.month < 12 → Follows c (counted c.year (c.month + 1) 1)
  unfolding number_of
  later-month h k =
      let e : c.month + 1 - 1 ≡ c.month = omega arith in
      record {
        number = rw e (omega (arith, month-step (leap_at c.year) c.month w.month-≥, w.day-≥, w.day-≤));
        there = record { month-≥ = omega arith; month-≤ = omega arith; day-≥ = omega arith; day-≤ = omega (arith, month_length-≥ (leap_at c.year) (c.month + 1)) };
      }

  later-year : month_length (leap_at c.year) c.month ≤ c.day → 12 ≤ c.month → Follows c (counted (c.year + 1) 1 1)
  unfolding number_of years_to month_start
  later-year h k =
      let l = leap_at c.year in
      let e : c.month ≡ 12 = omega (arith, w.month-≤) in
      let s : year_length l ≡ month_start l (c.month - 1) + month_length l c.month = sym (year-of-months l) ∙ ap (month_start l) (sym e) ∙ month-step l c.month w.month-≥ in
      record {
        number = rw add-one (omega (arith, s, w.day-≥, w.day-≤));
        there = record { month-≥ = omega arith; month-≤ = omega arith; day-≥ = omega arith; day-≤ = omega (arith, month_length-≥ (leap_at (c.year + 1)) 1) };
      }

  pub follows : Follows c (following c)
  unfolding following
  follows = go (ltb c.day (month_length (leap_at c.year) c.month)) (ltb c.month 12) refl refl
    where
      go : (a b : Bool) → ltb c.day (month_length (leap_at c.year) c.month) ≡ a → ltb c.month 12 ≡ b
          → Follows c (when a then counted c.year c.month (c.day + 1) else when b then counted c.year (c.month + 1) 1 else counted (c.year + 1) 1 1)
      go true b p q = later-day (ltb-true c.day (month_length (leap_at c.year) c.month) p)
      go false true p q = later-month (ltb-false c.day (month_length (leap_at c.year) c.month) p) (ltb-true c.month 12 q)
      go false false p q = later-year (ltb-false c.day (month_length (leap_at c.year) c.month) p) (ltb-false c.month 12 q)

-- ---- the day with a number is in the calendar and has that number
pub date-within : (n : ℕ) → Within (day_with n)
unfolding day_with
date-within zero = record { month-≥ = omega arith; month-≤ = omega arith; day-≥ = omega arith; day-≤ = omega (arith, month_length-≥ (leap_at 0) 1) }
date-within (suc n) = (follows (day_with n) (date-within n)).there

first-number : number_of (counted 0 1 1) ≡ 0
unfolding number_of years_to month_start
first-number = refl

pub day-date : (n : ℕ) → number_of (day_with n) ≡ n
unfolding day_with
day-date zero = first-number
day-date (suc n) = (follows (day_with n) (date-within n)).number ∙ add-one (number_of (day_with n)) ∙ ap suc (day-date n)

-- ---- a day of the calendar is the day with its number
in-month : (y m s j : ℕ) → day_with s ≡ counted y m 1 → suc j ≤ month_length (leap_at y) m → day_with (s + j) ≡ counted y m (suc j)
unfolding day_with
in-month y m s zero h k = rw add-zero h
in-month y m s (suc j) h k =
    rw add-suc (ap following (in-month y m s j h (omega arith)) ∙ next-day y m (suc j) (omega arith) ∙ ap (counted y m) (add-one (suc j)))

-- the day after the last of a month
past-month : (y m s : ℕ) → day_with s ≡ counted y m 1 → day_with (s + month_length (leap_at y) m) ≡ following (counted y m (month_length (leap_at y) m))
unfolding day_with
past-month y m s h =
    let l = month_length (leap_at y) m in
    let g = month_length-≥ (leap_at y) m in
    let e : suc (l - 1) ≡ l = omega arith in
    let a : suc (s + (l - 1)) ≡ s + l = omega arith in
    ap day_with (sym a) ∙ ap following (in-month y m s (l - 1) h (omega arith)) ∙ ap (λ (d : ℕ). following (counted y m d)) e

months-on : (y s k : ℕ) → day_with s ≡ counted y 1 1 → k ≤ 11 → day_with (s + month_start (leap_at y) k) ≡ counted y (suc k) 1
unfolding month_start
months-on y s zero h l = rw add-zero h
months-on y s (suc k) h l =
    let a : s + (month_start (leap_at y) k + month_length (leap_at y) (suc k)) ≡ s + month_start (leap_at y) k + month_length (leap_at y) (suc k) = omega arith in
    ap day_with a
    ∙ past-month y (suc k) (s + month_start (leap_at y) k) (months-on y s k h (omega arith))
    ∙ next-month y (suc k) (month_length (leap_at y) (suc k)) (omega arith) (omega arith)
    ∙ ap (λ (m : ℕ). counted y m 1) (add-one (suc k))

first-day : day_with 0 ≡ counted 0 1 1
unfolding day_with
first-day = refl

year-on : (y : ℕ) → day_with (years_to y) ≡ counted y 1 1
unfolding years_to
year-on zero = first-day
year-on (suc y) =
    let l = leap_at y in
    let a : years_to y + year_length l ≡ years_to y + month_start l 11 + month_length l 12 = omega (arith, year-of-months l, month-step l 12 (omega arith)) in
    ap day_with a
    ∙ past-month y 12 (years_to y + month_start l 11) (months-on y (years_to y) 11 (year-on y) (omega arith))
    ∙ next-year y 12 (month_length l 12) (omega arith) (omega arith)
    ∙ ap (λ (x : ℕ). counted x 1 1) (add-one y)

pub date-day : (c : Counted) → Within c → day_with (number_of c) ≡ c
unfolding number_of
date-day c w =
    let y = c.year in
    let l = leap_at y in
    let em : suc (c.month - 1) ≡ c.month = omega (arith, w.month-≥) in
    let ed : suc (c.day - 1) ≡ c.day = omega (arith, w.day-≥) in
    let p : day_with (years_to y + month_start l (c.month - 1)) ≡ counted y c.month 1 = months-on y (years_to y) (c.month - 1) (year-on y) (omega (arith, w.month-≤)) ∙ ap (λ (m : ℕ). counted y m 1) em in
    in-month y c.month (years_to y + month_start l (c.month - 1)) (c.day - 1) p (omega (arith, w.day-≤, w.day-≥))
    ∙ ap (counted y c.month) ed

-- the one day of the calendar with a number
pub date-is : (c : Counted) (n : ℕ) → Within c → number_of c ≡ n → c ≡ day_with n
date-is c n w e = sym (date-day c w) ∙ ap day_with e
