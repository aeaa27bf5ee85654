-- The proleptic Gregorian calendar, with a year 0. A year is any whole number, and so is the number of a day: day 0 is 1 January 1970.
use Rattle.std.specs.Prelude.{ℕ, zero, suc, ◌+◌, ◌-◌, ◌/◌, ◌%◌, min, Bool, not, ◌&&◌, ◌||◌, eqb, ltb, ℤ, pos, negsuc, ◌+ℤ◌, ◌-ℤ◌, nat_abs}
use Rattle.std.proofs.Math.IntN.{suc_ℤ, pred_ℤ}
use Rattle.base.specs.Base.{when◌then◌else◌, within}
use Rattle.gregorian.specs.Rules.{year_length, month_length, month_start}
use Rattle.calendar.specs.declared.Civil.{Civil}

-- a leap year: a multiple of 4, and not of 100 unless of 400
abbrev pub multiple : ℕ → ℤ → Bool
multiple k y = eqb (nat_abs y % k) 0

unfoldable pub leap : ℤ → Bool
leap y = multiple 4 y && (not (multiple 100 y) || multiple 400 y)

-- the days from 1 January of year 0 to that of year y: of all the years between them, and below 0 before year 0
unfoldable pub year_start : ℤ → ℤ
year_start (pos zero) = pos 0
year_start (pos (suc n)) = year_start (pos n) +ℤ pos (year_length (leap (pos n)))
year_start (negsuc zero) = pos 0 -ℤ pos (year_length (leap (negsuc zero)))
year_start (negsuc (suc n)) = year_start (negsuc n) -ℤ pos (year_length (leap (negsuc (suc n))))

abbrev pub civil : ℤ → ℕ → ℕ → Civil
civil y m d = record { year = y; month = m; day = d }

-- whether a day is in the calendar
unfoldable pub in_calendar : Civil → Bool
in_calendar c = within 1 12 c.month && within 1 (month_length (leap c.year) c.month) c.day

-- the number of a day: the days of the years, months and days before it, less those before 1970
unfoldable pub day_number : Civil → ℤ
day_number c = year_start c.year +ℤ pos (month_start (leap c.year) (c.month - 1) + (c.day - 1)) -ℤ year_start (pos 1970)

-- the day after a day, and the day before it
unfoldable pub next : Civil → Civil
next c =
    when ltb c.day (month_length (leap c.year) c.month) then civil c.year c.month (c.day + 1) else
    when ltb c.month 12 then civil c.year (c.month + 1) 1 else
    civil (suc_ℤ c.year) 1 1

unfoldable pub previous : Civil → Civil
previous c =
    when ltb 1 c.day then civil c.year c.month (c.day - 1) else
    when ltb 1 c.month then civil c.year (c.month - 1) (month_length (leap c.year) (c.month - 1)) else
    civil (pred_ℤ c.year) 12 31

-- the day with a number: so many days after 1 January 1970, or before it
unfoldable pub civil_of : ℤ → Civil
civil_of (pos zero) = civil (pos 1970) 1 1
civil_of (pos (suc n)) = next (civil_of (pos n))
civil_of (negsuc zero) = previous (civil (pos 1970) 1 1)
civil_of (negsuc (suc n)) = previous (civil_of (negsuc n))

-- months are added: a day past the end of the month becomes its last day
unfoldable pub add_months : Civil → ℕ → Civil
add_months c k =
    let t = c.month - 1 + k in
    let y = c.year +ℤ pos (t / 12) in
    let m = t % 12 + 1 in
    civil y m (min c.day (month_length (leap y) m))
