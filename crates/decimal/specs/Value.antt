-- The integer that a decimal's bytes hold (src/decimal.rs; Avro: two's complement, high byte first), and the bytes that hold an integer.
use Rattle.std.specs.Prelude.{ℕ, ◌-◌, ◌*◌, ◌^◌, ◌<◌, List, ℤ, pos, negsuc, length}
use Rattle.number.specs.Number.{big_endian, bytes_of}
use Rattle.rounding.specs.Rounding.{of_twos, to_twos}

unfoldable pub value_of : List ℕ → ℤ
value_of s = of_twos (8 * length s) (big_endian s)

-- n bytes that hold an integer
unfoldable pub held_in : ℕ → ℤ → List ℕ
held_in n v = bytes_of n (to_twos (8 * n) v)

-- from -2^(8 n - 1) to 2^(8 n - 1) - 1
unfoldable pub InRange : ℕ → ℤ → Type 0
InRange n (pos m) = m < 2 ^ (8 * n - 1)
InRange n (negsuc m) = m < 2 ^ (8 * n - 1)
