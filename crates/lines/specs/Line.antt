-- The frame that a line stands for, and the line for an answer.
use Rattle.std.specs.Prelude.{ℕ, ◌/◌, List, [], ◌∷◌, ◌++◌, ltb, length}
use Rattle.base.specs.Base.{when◌then◌else◌, Result, ok, stop}
use Rattle.text.specs.Text.{Text, ascii}
use Rattle.hex_text.specs.Hex.{frame_of, hex_of, decimal}
use Rattle.lines.specs.Cut.{newline}

-- a line's frame where there is room for its pairs of characters, and no bytes where there is none
unfoldable pub held_frame : ℕ → Text → List ℕ
held_frame room l = when ltb room (length l / 2) then [] else frame_of l

-- the line for an answer
unfoldable pub answer_line : Result (List ℕ) → Text
answer_line (ok r) = ascii "+ " ++ hex_of r ++ (newline ∷ [])
answer_line (stop n) = ascii "- " ++ decimal n ++ (newline ∷ [])
