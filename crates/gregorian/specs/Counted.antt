-- The calendar with years counted from a year that is a multiple of 400, and days from 1 January of that year, so that both are numbers from 0 on: what the code computes with. The rule of leap years reads as usual.
use Rattle.std.specs.Prelude.{ℕ, zero, suc, ◌+◌, ◌-◌, ◌*◌, ◌/◌, ◌%◌, ◌≤◌, min, Bool, not, ◌&&◌, ◌||◌, eqb, ltb}
use Rattle.base.specs.Base.{when◌then◌else◌}
use Rattle.gregorian.specs.declared.Counted.{Counted}
use Rattle.gregorian.specs.Rules.{year_length, month_length, month_start}

-- a leap year: a multiple of 4, and not of 100 unless of 400
unfoldable pub leap_at : ℕ → Bool
leap_at y = eqb (y % 4) 0 && (not (eqb (y % 100) 0) || eqb (y % 400) 0)

-- the days of all years before year y
unfoldable pub years_to : ℕ → ℕ
years_to zero = 0
years_to (suc y) = years_to y + year_length (leap_at y)

abbrev pub counted : ℕ → ℕ → ℕ → Counted
counted y m d = record { year = y; month = m; day = d }

-- a day of the calendar
pub record Within (c : Counted) : Type 0 where
  pub month-≥ : 1 ≤ c.month
  pub month-≤ : c.month ≤ 12
  pub day-≥ : 1 ≤ c.day
  pub day-≤ : c.day ≤ month_length (leap_at c.year) c.month

-- the number of a day: the days of all years, months and days before it
unfoldable pub number_of : Counted → ℕ
number_of c = years_to c.year + month_start (leap_at c.year) (c.month - 1) + (c.day - 1)

-- the day after a day
unfoldable pub following : Counted → Counted
following c =
    when ltb c.day (month_length (leap_at c.year) c.month) then counted c.year c.month (c.day + 1) else
    when ltb c.month 12 then counted c.year (c.month + 1) 1 else
    counted (c.year + 1) 1 1

-- the day with a number
unfoldable pub day_with : ℕ → Counted
day_with zero = counted 0 1 1
day_with (suc n) = following (day_with n)

-- months are added: a day past the end of the month becomes its last day
unfoldable pub months_on : Counted → ℕ → Counted
months_on c k =
    let t = c.month - 1 + k in
    let y = c.year + t / 12 in
    let m = t % 12 + 1 in
    counted y m (min c.day (month_length (leap_at y) m))

-- an instant, of u units to a day, after months, days and milliseconds of p units are added to it
unfoldable pub months_after : ℕ → ℕ → ℕ → ℕ
months_after u t k = number_of (months_on (day_with (t / u)) k) * u + t % u

unfoldable pub all_after : ℕ → ℕ → ℕ → ℕ → ℕ → ℕ → ℕ
all_after u p t months days millis = months_after u t months + days * u + millis * p
