-- A text cut into lines.
use Rattle.std.specs.Prelude.{ℕ, suc, List, [], ◌∷◌, Bool, eqb, ltb, length, take, drop}
use Rattle.base.specs.Base.{when◌then◌else◌}
use Rattle.text.specs.Text.{Text}

abbrev pub newline : ℕ
newline = 0x0a

-- a line with one character more at its front
unfoldable pub onto : ℕ → List Text → List Text
onto c [] = (c ∷ []) ∷ []
onto c (l ∷ ls) = (c ∷ l) ∷ ls

-- the lines of a text; the last may lack its newline
unfoldable pub lines : Text → List Text
lines [] = []
lines (c ∷ s) = let ls = lines s in when eqb c newline then [] ∷ ls else onto c ls

-- the characters before the first newline, all where there is none
unfoldable pub line_end : Text → ℕ
line_end [] = 0
line_end (c ∷ s) = let n = line_end s in when eqb c newline then 0 else suc n

-- whether a text has a newline
abbrev pub has_newline : Text → Bool
has_newline s = ltb (line_end s) (length s)

-- a text up to its first newline
abbrev pub first_line : Text → Text
first_line s = take (line_end s) s

-- a text behind its first newline, nothing where it has none
abbrev pub behind_line : Text → Text
behind_line s = drop (suc (line_end s)) s
