-- A Duration added to a Date or a timestamp, and windows of them (docs/RULES.md, "Dates and instants"). A Date counts days, and a timestamp units of which there are u to a day and p to a millisecond, from the start of 1 January 1970.
use Rattle.std.specs.Prelude.{ℕ, suc, ◌-◌, ◌*◌, ◌/◌, ◌%◌, ◌^◌, Bool, ◌&&◌, ◌||◌, eqb, ltb, ℤ, pos, negsuc, ◌+ℤ◌, ◌*ℤ◌}
use Rattle.std.specs.Int.Signed.{le_z, lt_z}
use Rattle.base.specs.Base.{when◌then◌else◌, within, Result, ok, stop, ◌>>=◌}
use Rattle.duration.specs.declared.Duration.{Duration}
use Rattle.scalar.specs.Scalars.{kind_of}
use Rattle.scalar.specs.declared.Scalar.{Scalar}
use Rattle.scalar.specs.declared.Scalar.TheVariants.{Int, Long, Float, FloatNan, Double, DoubleNan, Date, TimeMillis, TimeMicros, TimestampMillis, TimestampMicros, TimestampNanos, LocalTimestampMillis, LocalTimestampMicros, LocalTimestampNanos}
use Rattle.calendar.specs.declared.Civil.{Civil}
use Rattle.calendar.specs.Calendar.{in_calendar, day_number, civil_of, add_months}

-- from -h to before h: the range of a signed number of 32 bits, or of 64
unfoldable pub in_range : ℕ → ℤ → Bool
in_range h (pos n) = ltb n h
in_range h (negsuc n) = ltb n h

unfoldable pub ranged : ℕ → ℤ → Result ℤ
ranged h z = when in_range h z then ok z else stop 27

-- ---- the Date of a day: 27 where the calendar has no such day, or a Date can't count it
unfoldable pub date_of : Civil → Result ℤ
date_of c = when in_calendar c then ranged (2 ^ 31) (day_number c) else stop 27

-- ---- an instant's day, the quotient rounded down, and its part of the day
unfoldable pub floor : ℤ → ℕ → ℤ
floor (pos n) u = pos (n / u)
floor (negsuc n) u = negsuc (n / u)

unfoldable pub part : ℤ → ℕ → ℕ
part (pos n) u = n % u
part (negsuc n) u = u - suc (n % u)

-- ---- the addition, once over the units: months, then days, then milliseconds, and 27 where a step leaves the kind's range

-- the same part of the day that is k months on
unfoldable pub after_months : ℕ → ℤ → ℕ → ℤ
after_months u z k = day_number (add_months (civil_of (floor z u)) k) *ℤ pos u +ℤ pos (part z u)

unfoldable pub added : ℕ → ℕ → ℕ → ℤ → ℕ → ℕ → ℕ → Result ℤ
added u p h z months days millis = do
  a ← ranged h (after_months u z months)
  b ← ranged h (a +ℤ pos (days * u))
  ranged h (b +ℤ pos (millis * p))

-- to a Date, of whole days, and to a timestamp, of p units to a millisecond
abbrev pub date_sum : ℤ → Duration → Result ℤ
date_sum z d = added 1 0 (2 ^ 31) z d.months.0 d.days.0 0

abbrev pub stamp_sum : ℕ → ℤ → Duration → Result ℤ
stamp_sum p z d = added (86400000 * p) p (2 ^ 63) z d.months.0 d.days.0 d.millis.0

-- what an instant becomes: 26 for milliseconds added to a Date, 6 for any other kind
abbrev pub sum : Scalar → Duration → Result Scalar
sum (Date z) d = when eqb d.millis.0 0 then (date_sum z d >>= λ r. ok (Date r)) else stop 26
sum (TimestampMillis z) d = stamp_sum 1 z d >>= λ r. ok (TimestampMillis r)
sum (TimestampMicros z) d = stamp_sum 1000 z d >>= λ r. ok (TimestampMicros r)
sum (TimestampNanos z) d = stamp_sum 1000000 z d >>= λ r. ok (TimestampNanos r)
sum (Int z) d = stop 6
sum (Long z) d = stop 6
sum (Float x) d = stop 6
sum (FloatNan b) d = stop 6
sum (Double x) d = stop 6
sum (DoubleNan b) d = stop 6
sum (TimeMillis z) d = stop 6
sum (TimeMicros z) d = stop 6
sum (LocalTimestampMillis z) d = stop 6
sum (LocalTimestampMicros z) d = stop 6
sum (LocalTimestampNanos z) d = stop 6

-- ---- windows

-- whether a kind is one of the four: Date, TimestampMillis, TimestampMicros, TimestampNanos
abbrev pub is_instant : ℕ → Bool
is_instant k = eqb k 0x10 || within 0x13 0x15 k

-- an instant's number, and 0 for any other kind
abbrev pub number_in : Scalar → ℤ
number_in (Date z) = z
number_in (TimestampMillis z) = z
number_in (TimestampMicros z) = z
number_in (TimestampNanos z) = z
number_in (Int z) = pos 0
number_in (Long z) = pos 0
number_in (Float x) = pos 0
number_in (FloatNan b) = pos 0
number_in (Double x) = pos 0
number_in (DoubleNan b) = pos 0
number_in (TimeMillis z) = pos 0
number_in (TimeMicros z) = pos 0
number_in (LocalTimestampMillis z) = pos 0
number_in (LocalTimestampMicros z) = pos 0
number_in (LocalTimestampNanos z) = pos 0

-- whether the window from the opening instant to before the closing one holds an instant of their kind: 6 for other or mixed kinds
unfoldable pub window_holds : Scalar → Scalar → Scalar → Result Bool
window_holds o c m =
    when is_instant (kind_of o) && (eqb (kind_of c) (kind_of o) && eqb (kind_of m) (kind_of o))
    then ok (le_z (number_in o) (number_in m) && lt_z (number_in m) (number_in c))
    else stop 6
