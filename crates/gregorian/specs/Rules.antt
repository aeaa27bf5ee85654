-- The lengths of years and months, which do not depend on how years are counted.
use Rattle.std.specs.Prelude.{ℕ, zero, suc, ◌+◌, Bool, ◌||◌, eqb}
use Rattle.base.specs.Base.{when◌then◌else◌}

abbrev pub year_length : Bool → ℕ
year_length leap = when leap then 366 else 365

-- the length of a month from 1 to 12, in a leap year or another
unfoldable pub month_length : Bool → ℕ → ℕ
month_length leap m =
    when eqb m 2 then (when leap then 29 else 28) else
    when eqb m 4 || eqb m 6 || eqb m 9 || eqb m 11 then 30 else
    31

-- the days of the first k months of a year
unfoldable pub month_start : Bool → ℕ → ℕ
month_start leap zero = 0
month_start leap (suc k) = month_start leap k + month_length leap (suc k)
