-- Years and days counted from 1 January of the year -4,000,000,000, so that both are numbers from 0 on: how the code calls crate gregorian. Only private contracts cite it.
use Rattle.std.specs.Prelude.{ℕ, suc, ◌+◌, ◌-◌, ℤ, pos, negsuc}
use Rattle.std.proofs.Math.IntN.{sub_ℕ}
use Rattle.gregorian.specs.declared.Counted.{Counted}
use Rattle.calendar.specs.declared.Civil.{Civil}
use Rattle.calendar.specs.Calendar.{civil}

-- the year 0, 1 January of the year 0 and 1 January 1970 so counted
abbrev pub year_zero : ℕ
year_zero = 4000000000

abbrev pub day_zero : ℕ
day_zero = 1460970000000

abbrev pub epoch : ℕ
epoch = 1460970719528

-- a whole number from -k on, counted from -k (the other way is sub_ℕ n k)
unfoldable pub counted_from : ℕ → ℤ → ℕ
counted_from k (pos n) = k + n
counted_from k (negsuc n) = k - suc n

-- the day that is so counted
abbrev pub shown : Counted → Civil
shown c = civil (sub_ℕ c.year year_zero) c.month c.day
