-- The Apache Avro Specification, "Duration": three little-endian unsigned integers of 4 bytes, months first, then days, then milliseconds. Assumes nothing.
use Prim.Native.Nat.{ℕ, ◌+◌, ◌*◌}
use mathlib.Core.Path.{◌≡◌}
use mathlib.Core.List.{[], ◌∷◌}
use native.Mathlib.Omega.{arith}
use Rattle.number.specs.Number.{little_endian}
use Rattle.duration.specs.Duration.{duration_of}

low-byte-first : (a b c d : ℕ) → little_endian (a ∷ b ∷ c ∷ d ∷ []) ≡ a + 256 * b + 65536 * c + 16777216 * d
unfolding little_endian
low-byte-first a b c d = omega arith

pub stored : (a b c d e f g h i j k l : ℕ)
    → duration_of (a ∷ b ∷ c ∷ d ∷ e ∷ f ∷ g ∷ h ∷ i ∷ j ∷ k ∷ l ∷ [])
    ≡ record {
      months = record { 0 = a + 256 * b + 65536 * c + 16777216 * d };
      days = record { 0 = e + 256 * f + 65536 * g + 16777216 * h };
      millis = record { 0 = i + 256 * j + 65536 * k + 16777216 * l };
    }
unfolding duration_of
stored a b c d e f g h i j k l =
    λ t. record { months = record { 0 = low-byte-first a b c d t }; days = record { 0 = low-byte-first e f g h t }; millis = record { 0 = low-byte-first i j k l t } }
