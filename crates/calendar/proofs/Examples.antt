-- Worked examples, by the definitions: Q-9's own, the edges of Date, leap years, refusals, windows.
use Prim.Native.Nat.{ℕ, ◌+◌, ◌-◌, ◌*◌, ◌/◌, ◌^◌}
use mathlib.Core.Path.{◌≡◌, refl, ap, sym, ◌∙◌}
use mathlib.Core.Bool.{true, false}
use native.Mathlib.Omega.{arith}
use lib.IntN.{ℤ, pos, negsuc, sub_ℕ, ◌+ℤ◌, ◌*ℤ◌}
use Rattle.base.specs.Base.{Result, ok, stop, after}
use Rattle.duration.specs.declared.Duration.{Duration}
use Rattle.gregorian.specs.Rules.{month_length, month_start}
use Rattle.gregorian.specs.Counted.{leap_at, years_to, counted, number_of}
use Rattle.gregorian.proofs.Laws.{years}
use Rattle.scalar.specs.declared.Scalar.TheVariants.{Int, Date, TimestampMillis, TimestampNanos, LocalTimestampMillis}
use Rattle.calendar.specs.declared.Civil.{Civil}
use Rattle.calendar.specs.Calendar.{leap, civil, in_calendar, day_number, civil_of, add_months}
use Rattle.calendar.specs.Instants.{in_range, ranged, date_of, floor, part, after_months, added, sum, window_holds}
use Rattle.calendar.specs.Origin.{epoch}
use Rattle.calendar.proofs.Shift.{day-shown}
use Rattle.calendar.proofs.Theorems.{civil_of-day_number, nothing-added}

-- the days of all years before one, computed
closed : ℕ → ℕ
closed y = 365 * y + (y + 3) / 4 + (y + 399) / 400 - (y + 99) / 100

closed_is : (y : ℕ) → years_to y ≡ closed y
unfolding closed
closed_is y = omega (arith, years y)

-- the number of a day by its counted year
at : (y m d : ℕ) → day_number (civil (sub_ℕ y 4000000000) m d) ≡ sub_ℕ (closed y + month_start (leap_at y) (m - 1) + (d - 1)) epoch
unfolding number_of
at y m d = day-shown (counted y m d) ∙ ap (λ (k : ℕ). sub_ℕ (k + month_start (leap_at y) (m - 1) + (d - 1)) epoch) (closed_is y)

-- ---- days
pub epoch-day : day_number (civil (pos 1970) 1 1) ≡ pos 0
unfolding closed leap_at month_start month_length
epoch-day = at 4000001970 1 1

pub leap-day-2000 : day_number (civil (pos 2000) 2 29) ≡ pos 11016
unfolding closed leap_at month_start month_length
leap-day-2000 = at 4000002000 2 29

pub no-leap-day-1900 : in_calendar (civil (pos 1900) 2 29) ≡ false
unfolding in_calendar month_length leap
no-leap-day-1900 = refl

pub year-zero : day_number (civil (pos 0) 1 1) ≡ negsuc 719527
unfolding closed leap_at month_start month_length
year-zero = at 4000000000 1 1

pub year-zero-leap : leap (pos 0) ≡ true
unfolding leap
year-zero-leap = refl

pub before-year-zero : day_number (civil (negsuc 0) 12 31) ≡ negsuc 719528
unfolding closed leap_at month_start month_length
before-year-zero = at 3999999999 12 31

pub least-date : day_number (civil (negsuc 5877640) 6 23) ≡ negsuc 2147483647
unfolding closed leap_at month_start month_length
least-date = at 3994122359 6 23

pub greatest-date : day_number (civil (pos 5881580) 7 11) ≡ pos 2147483647
unfolding closed leap_at month_start month_length
greatest-date = at 4005881580 7 11

-- one day before the Date, and one after the greatest: 27
pub below-date : date_of (civil (negsuc 5877640) 6 22) ≡ stop 27
unfolding date_of ranged in_calendar in_range month_length leap closed leap_at month_start
below-date = ap (λ (z : ℤ). ranged (2 ^ 31) z) (at 3994122359 6 22)

pub above-date : date_of (civil (pos 5881580) 7 12) ≡ stop 27
unfolding date_of ranged in_calendar in_range month_length leap closed leap_at month_start
above-date = ap (λ (z : ℤ). ranged (2 ^ 31) z) (at 4005881580 7 12)

pub no-month-13 : date_of (civil (pos 2023) 13 1) ≡ stop 27
unfolding date_of in_calendar
no-month-13 = refl

-- ---- months
pub january-2023 : add_months (civil (pos 2023) 1 31) 1 ≡ civil (pos 2023) 2 28
unfolding add_months month_length leap
january-2023 = refl

pub january-2024 : add_months (civil (pos 2024) 1 31) 1 ≡ civil (pos 2024) 2 29
unfolding add_months month_length leap
january-2024 = refl

-- ---- the same as Dates
abbrev pub months : ℕ → Duration
months k = record { months = record { 0 = k }; days = record { 0 = 0 }; millis = record { 0 = 0 } }

day-31-1-2023 : day_number (civil (pos 2023) 1 31) ≡ pos 19388
unfolding closed leap_at month_start month_length
day-31-1-2023 = at 4000002023 1 31

day-28-2-2023 : day_number (civil (pos 2023) 2 28) ≡ pos 19416
unfolding closed leap_at month_start month_length
day-28-2-2023 = at 4000002023 2 28

date-31-1-2023 : civil_of (pos 19388) ≡ civil (pos 2023) 1 31
unfolding in_calendar month_length leap
date-31-1-2023 = ap civil_of (sym day-31-1-2023) ∙ civil_of-day_number (civil (pos 2023) 1 31) (omega arith) tt

after-a-month : after_months 1 (pos 19388) 1 ≡ pos 19416
unfolding after_months floor part
after-a-month = ap (λ (c : Civil). day_number (add_months c 1) *ℤ pos 1 +ℤ pos 0) date-31-1-2023 ∙ ap (λ (c : Civil). day_number c *ℤ pos 1 +ℤ pos 0) january-2023 ∙ ap (λ (z : ℤ). z *ℤ pos 1 +ℤ pos 0) day-28-2-2023

pub sum-january-2023 : sum (Date (pos 19388)) (months 1) ≡ ok (Date (pos 19416))
unfolding added after ranged in_range
sum-january-2023 = rw after-a-month refl

day-31-1-2024 : day_number (civil (pos 2024) 1 31) ≡ pos 19753
unfolding closed leap_at month_start month_length
day-31-1-2024 = at 4000002024 1 31

day-29-2-2024 : day_number (civil (pos 2024) 2 29) ≡ pos 19782
unfolding closed leap_at month_start month_length
day-29-2-2024 = at 4000002024 2 29

date-31-1-2024 : civil_of (pos 19753) ≡ civil (pos 2024) 1 31
unfolding in_calendar month_length leap
date-31-1-2024 = ap civil_of (sym day-31-1-2024) ∙ civil_of-day_number (civil (pos 2024) 1 31) (omega arith) tt

after-a-month-2024 : after_months 1 (pos 19753) 1 ≡ pos 19782
unfolding after_months floor part
after-a-month-2024 = ap (λ (c : Civil). day_number (add_months c 1) *ℤ pos 1 +ℤ pos 0) date-31-1-2024 ∙ ap (λ (c : Civil). day_number c *ℤ pos 1 +ℤ pos 0) january-2024 ∙ ap (λ (z : ℤ). z *ℤ pos 1 +ℤ pos 0) day-29-2-2024

pub sum-january-2024 : sum (Date (pos 19753)) (months 1) ≡ ok (Date (pos 19782))
unfolding added after ranged in_range
sum-january-2024 = rw after-a-month-2024 refl

-- ---- refusals
pub millis-on-a-date : sum (Date (pos 0)) (record { months = record { 0 = 5000000 }; days = record { 0 = 0 }; millis = record { 0 = 1 } }) ≡ stop 26
millis-on-a-date = refl

pub another-kind : sum (LocalTimestampMillis (pos 0)) (months 1) ≡ stop 6
another-kind = refl

-- ---- timestamps: the part of the day is kept
noon : after_months 86400000 (pos 1706704496789) 1 ≡ pos 1709210096789
unfolding after_months floor part
noon = ap (λ (c : Civil). day_number (add_months c 1) *ℤ pos 86400000 +ℤ pos 45296789) date-31-1-2024 ∙ ap (λ (c : Civil). day_number c *ℤ pos 86400000 +ℤ pos 45296789) january-2024 ∙ ap (λ (z : ℤ). z *ℤ pos 86400000 +ℤ pos 45296789) day-29-2-2024

pub stamp-january-2024 : sum (TimestampMillis (pos 1706704496789)) (months 1) ≡ ok (TimestampMillis (pos 1709210096789))
unfolding added after ranged in_range
stamp-january-2024 = rw noon refl

-- nothing added to the instant, whose midnight no timestamp holds
pub least-instant : sum (TimestampNanos (negsuc 9223372036854775807)) (months 0) ≡ ok (TimestampNanos (negsuc 9223372036854775807))
unfolding after
least-instant = ap (λ (r : Result ℤ). after r (λ z. ok (TimestampNanos z))) (nothing-added 86400000000000 1000000 (2 ^ 63) (negsuc 9223372036854775807) (omega arith) (omega arith) (omega arith))

-- ---- windows
pub opening-held : window_holds (Date (pos 0)) (Date (pos 1)) (Date (pos 0)) ≡ ok true
unfolding window_holds
opening-held = refl

pub closing-not-held : window_holds (Date (pos 0)) (Date (pos 1)) (Date (pos 1)) ≡ ok false
unfolding window_holds
closing-not-held = refl

pub mixed-kinds : window_holds (Date (pos 1)) (Date (pos 0)) (TimestampMillis (pos 0)) ≡ stop 6
unfolding window_holds
mixed-kinds = refl

pub empty-window : window_holds (Date (pos 1)) (Date (pos 1)) (Date (pos 1)) ≡ ok false
unfolding window_holds
empty-window = refl

pub other-window : window_holds (Int (pos 0)) (Int (pos 1)) (Int (pos 0)) ≡ stop 6
unfolding window_holds
other-window = refl
