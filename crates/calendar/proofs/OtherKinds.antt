-- The kinds that are no instant's: what the last arm of a match on a scalar stands for.
use mathlib.Core.Path.{◌≡◌, refl}
use lib.IntN.{ℤ, pos}
use Rattle.base.specs.Base.{stop}
use Rattle.duration.specs.declared.Duration.{Duration}
use Rattle.scalar.specs.declared.Scalar.{Scalar}
use Rattle.scalar.specs.declared.Scalar.TheVariants.{Int, Long, Float, FloatNan, Double, DoubleNan, Date, TimeMillis, TimeMicros, TimestampMillis, TimestampMicros, TimestampNanos, LocalTimestampMillis, LocalTimestampMicros, LocalTimestampNanos}
use Rattle.calendar.specs.Instants.{sum, number_in}

-- no sum, and no number
pub record NoInstant (s : Scalar) : Type 0 where
  pub no-sum : (d : Duration) → sum s d ≡ stop 6
  pub no_number : number_in s ≡ pos 0

-- neither a Date nor one of the three timestamps
pub no-instant : (s : Scalar) → ((z : ℤ) → s ≡ Date z → ⊥) → ((z : ℤ) → s ≡ TimestampMillis z → ⊥)
    → ((z : ℤ) → s ≡ TimestampMicros z → ⊥) → ((z : ℤ) → s ≡ TimestampNanos z → ⊥) → NoInstant s
no-instant (Int z) d m u n = record { no-sum = λ d. refl; no_number = refl }
no-instant (Long z) d m u n = record { no-sum = λ d. refl; no_number = refl }
no-instant (Float x) d m u n = record { no-sum = λ d. refl; no_number = refl }
no-instant (FloatNan b) d m u n = record { no-sum = λ d. refl; no_number = refl }
no-instant (Double x) d m u n = record { no-sum = λ d. refl; no_number = refl }
no-instant (DoubleNan b) d m u n = record { no-sum = λ d. refl; no_number = refl }
no-instant (Date z) d m u n = absurd (d z refl)
no-instant (TimeMillis z) d m u n = record { no-sum = λ d. refl; no_number = refl }
no-instant (TimeMicros z) d m u n = record { no-sum = λ d. refl; no_number = refl }
no-instant (TimestampMillis z) d m u n = absurd (m z refl)
no-instant (TimestampMicros z) d m u n = absurd (u z refl)
no-instant (TimestampNanos z) d m u n = absurd (n z refl)
no-instant (LocalTimestampMillis z) d m u n = record { no-sum = λ d. refl; no_number = refl }
no-instant (LocalTimestampMicros z) d m u n = record { no-sum = λ d. refl; no_number = refl }
no-instant (LocalTimestampNanos z) d m u n = record { no-sum = λ d. refl; no_number = refl }
