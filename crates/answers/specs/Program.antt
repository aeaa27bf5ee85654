-- What program `resolve` writes for what it reads (docs/RULES.md, "Finishes to check by").
use Rattle.std.specs.Prelude.{List, [], ◌∷◌, ◌++◌, ℕ}
use Rattle.text.specs.Text.{Text}
use Rattle.hex_text.specs.Hex.{frame_of}
use Rattle.hulmbax.specs.Answer.{answer, workspace_size}
use Rattle.lines.specs.Cut.{lines}
use Rattle.lines.specs.Line.{answer_line}

unfoldable pub answer_lines : List ℕ → List Text → Text
answer_lines schema [] = []
answer_lines schema (l ∷ ls) = answer_line (answer schema (frame_of l) 65535 workspace_size) ++ answer_lines schema ls

-- the first line is the schema, the others are values
unfoldable pub output : List Text → Text
output [] = []
output (l ∷ ls) = answer_lines (frame_of l) ls

-- what the program writes
unfoldable pub program : Text → Text
program input = output (lines input)
