-- What holds of a reader and its buffers between two calls, and what they hold.
use Rattle.std.specs.Prelude.{ℕ, ◌+◌, ◌≤◌, List, ◌++◌, Bool, ◌||◌, ltb, length, take, drop}
use Rattle.std.proofs.Math.Option.{Option, none, some}
use Rattle.base.specs.Base.{when◌then◌else◌}
use Rattle.text.specs.Text.{Text}
use Rattle.lines.specs.declared.input.Reader.{Reader}

-- what is to be cut lies in the block, and what is held of the line in its buffer
pub record Held (r : Reader) (block line : List ℕ) : Type 0 where
  pub order : r.at ≤ r.end
  pub block_holds : r.end ≤ length block
  pub line_holds : r.filled ≤ length line

-- the part of the block that is still to be cut
unfoldable pub uncut : Reader → List ℕ → Text
uncut r block = drop r.at (take r.end block)

-- what is held of the line, none where it is longer than there is room for
unfoldable pub held_line : Reader → List ℕ → Option Text
held_line r line = when r.long then none else some (take r.filled line)

-- a piece behind what is held of a line, if there is room for both
unfoldable pub more : ℕ → Option Text → Text → Option Text
more room none piece = none
more room (some t) piece = when ltb room (length t + length piece) then none else some (t ++ piece)

-- what is held is a line though no newline ended it: it has a character at least
unfoldable pub is_line : Reader → Bool
is_line r = r.long || ltb 0 r.filled
