-- What a read makes of the reader.
use Rattle.std.specs.Prelude.{true, false}
use Rattle.lines.specs.declared.input.Reader.{Reader}
use Rattle.streams.specs.declared.calls.Step.{Step}
use Rattle.streams.specs.declared.calls.Step.TheVariants.{Took, Nothing, Again, Wait, Failed}

-- nothing to come, and nothing held
abbrev pub spent : Reader
spent = record { at = 0; end = 0; filled = 0; long = false; whole = false; over = true }

-- after a read into the block: a new block, the input's end, or a failure
unfoldable pub supplied : Reader → Step → Reader
supplied r (Took n) = record { at = 0; end = n; filled = r.filled; long = r.long; whole = false; over = false }
supplied r Nothing = record { at = 0; end = 0; filled = r.filled; long = r.long; whole = false; over = true }
supplied r Again = spent
supplied r Wait = spent
supplied r Failed = spent

-- after the search for a new block: as it was, or after a read
pub data Refilled (r : Reader) : Reader → Type 0 where
  unread : Refilled r r
  read : (s : Step) → Refilled r (supplied r s)
