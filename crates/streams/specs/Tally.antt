-- What a program counts that holds its answers to a list.
use Rattle.std.specs.Prelude.{ℕ, ◌+◌, ◌≡◌, Bool, ltb, if◌then◌else◌}
use Rattle.streams.specs.declared.tally.Tally.{Tally}

-- nothing read yet
abbrev pub started : Tally
started = record { line = 0; compared = 0; differ = 0 }

-- one more, up to a number that no list reaches
abbrev pub one_more : ℕ → ℕ
one_more n = if ltb n 1000000000 then n + 1 else n

-- a line that expects no answer
abbrev pub passed_over : Tally → Tally
passed_over t = record { line = one_more t.line; compared = t.compared; differ = t.differ }

-- r is t after a line whose answer is the expected one, or another
pub record Compared (t : Tally) (same : Bool) (r : Tally) : Type 0 where
  pub line_is : r.line ≡ one_more t.line
  pub compared_is : r.compared ≡ one_more t.compared
  pub differ_is : r.differ ≡ (if same then t.differ else one_more t.differ)
