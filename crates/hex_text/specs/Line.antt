-- What `from_hex` answers for a line, and what it leaves in the buffer.
use Rattle.std.specs.Prelude.{ℕ, ◌/◌, ◌≤◌, ◌≡◌, List, ◌++◌, ltb, length, drop, Result, Ok, Err}
use Rattle.std.proofs.Math.Option.{Option, none, some}
use Rattle.base.specs.Base.{when◌then◌else◌}
use Rattle.text.specs.Text.{Text}
use Rattle.uuid_text.specs.Uuid.{hex_bytes}
use Rattle.hex_text.specs.declared.HexError.{HexError}
use Rattle.hex_text.specs.declared.HexError.TheVariants.{Broken, TooLong}

unfoldable pub sized : Option (List ℕ) → Result ℕ HexError
sized none = Err Broken
sized (some b) = Ok (length b)

-- more pairs of characters than bytes of room are too long, digits or not; otherwise the digits decide
unfoldable pub line_frame : ℕ → Text → Result ℕ HexError
line_frame room line = when ltb room (length line / 2) then Err TooLong else sized (hex_bytes line)

-- the buffer keeps its length; where there is a frame, it fits and stands at the front, and behind it what stood there
unfoldable pub LineHeld : Result ℕ HexError → Text → List ℕ → List ℕ → Type 0
LineHeld (Ok n) line before after = (n ≤ length before) × (length after ≡ length before) × ((b : List ℕ) → hex_bytes line ≡ some b → after ≡ b ++ drop (length b) before)
LineHeld (Err Broken) line before after = length after ≡ length before
LineHeld (Err TooLong) line before after = after ≡ before
