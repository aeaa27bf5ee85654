-- The calendar's entries over frames, and over slots of 32-bit numbers: what C is answered (docs/RULES.md, "Dates and instants").
use Rattle.std.specs.Prelude.{ℕ, List, [], ◌∷◌, Bool, true, false, ℤ, pos, negsuc, neg_ℤ}
use Rattle.base.specs.Base.{when◌then◌else◌, Result, ok, stop, ◌>>=◌}
use Rattle.duration.specs.Duration.{duration_of}
use Rattle.duration.specs.declared.Duration.{Duration}
use Rattle.scalar.specs.Scalars.{is_scalar}
use Rattle.scalar.specs.declared.Scalar.{Scalar}
use Rattle.scalar.specs.declared.Scalar.TheVariants.{Int}
use Rattle.frame.specs.Kind
use Rattle.frame.specs.Tree.{Value, kind_of, is, octets}
use Rattle.frame.specs.ValueFrame.{decode_value, encode_value}
use Rattle.frame.specs.Sound.{checked_value}
use Rattle.buffer.specs.After.{checked_result}
use Rattle.types.specs.Contract.{value_of, scalar_of}
use Rattle.calendar.specs.Calendar.{civil, civil_of}
use Rattle.calendar.specs.Instants.{date_of, sum, window_holds}

-- the number or time that a value is; any other value counts as an Int, which is no instant either
unfoldable pub instant_in : Value → Scalar
instant_in v = when is_scalar (kind_of v) then scalar_of v else Int (pos 0)

-- the Duration that a value is: 6 for any other kind
unfoldable pub duration_in : Value → Result Duration
duration_in v = when is Kind.Duration v then ok (duration_of (octets v)) else stop 6

-- ---- a Duration added to an instant, both frames

-- 5 for either frame, before the kinds are looked at
unfoldable pub frame_sum : List ℕ → List ℕ → Result Scalar
frame_sum instant duration = do
  v ← checked_value (decode_value instant)
  w ← checked_value (decode_value duration)
  d ← duration_in w
  sum (instant_in v) d

-- the frame of the sum, and 18 where the buffer is shorter
unfoldable pub sum_for : List ℕ → List ℕ → ℕ → Result (List ℕ)
sum_for instant duration buffer = do
  s ← frame_sum instant duration
  checked_result buffer (encode_value (value_of s))

-- ---- a window of two instants, and a third, all frames
unfoldable pub held_for : List ℕ → List ℕ → List ℕ → Result Bool
held_for opening closing instant = do
  o ← checked_value (decode_value opening)
  c ← checked_value (decode_value closing)
  m ← checked_value (decode_value instant)
  window_holds (instant_in o) (instant_in c) (instant_in m)

-- as one number: 1, 0, or the refusal's number negated
unfoldable pub held_code : Result Bool → ℤ
held_code (ok true) = pos 1
held_code (ok false) = pos 0
held_code (stop n) = neg_ℤ (pos n)

-- ---- year, month and day of a Date in three slots, and a Date in one
unfoldable pub civil_for : ℤ → ℕ → Result (List ℤ)
civil_for z slots = let c = civil_of z in checked_result slots (c.year ∷ pos c.month ∷ pos c.day ∷ [])

-- a month or a day below 0 is not in the calendar
unfoldable pub date_in : ℤ → ℤ → ℤ → Result ℤ
date_in y (pos m) (pos d) = date_of (civil y m d)
date_in y (pos m) (negsuc d) = stop 27
date_in y (negsuc m) d = stop 27

unfoldable pub date_for : ℤ → ℤ → ℤ → ℕ → Result (List ℤ)
date_for y m d slots = do
  z ← date_in y m d
  checked_result slots (z ∷ [])
