-- The table of digit values: for each character from 0 to 255 its value, 16 where it is no digit.
use Rattle.std.specs.Prelude.{ℕ, zero, suc, List, [], ◌∷◌}
use Rattle.uuid_text.specs.Uuid.{hex_digit}
use Rattle.uuid_text.specs.Forms.{or_sixteen}

-- the values of n characters, the first of them k
unfoldable pub values_from : ℕ → ℕ → List ℕ
values_from k zero = []
values_from k (suc n) = or_sixteen (hex_digit k) ∷ values_from (suc k) n

unfoldable pub values : List ℕ
values = values_from 0 256
