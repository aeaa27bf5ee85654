-- The digits that program `resolve` writes, and the frame that a line stands for.
use Rattle.std.specs.Prelude.{ℕ, ◌/◌, ◌%◌, List, [], ◌∷◌, ltb}
use Rattle.std.proofs.Math.Option.{get_or}
use Rattle.base.specs.Base.{when◌then◌else◌}
use Rattle.text.specs.Text.{Text}
use Rattle.uuid_text.specs.Uuid.{hex_bytes}
use Rattle.uuid_text.specs.Rfc4122.{small_digit, hex_text}

-- a line's frame; a line that isn't whole byte pairs is a broken frame, as the empty one is
unfoldable pub frame_of : Text → List ℕ
frame_of l = get_or (hex_bytes l) []

-- bytes as small hexadecimal digits
abbrev pub hex_of : List ℕ → Text
hex_of s = hex_text small_digit s

-- a number below 100 in decimal digits
unfoldable pub decimal : ℕ → Text
decimal n = when ltb n 10 then small_digit n ∷ [] else small_digit (n / 10) ∷ small_digit (n % 10) ∷ []
