-- What a frame says of a finish: its sail and its seq. No Union is peeled, and of repeated names the last counts.
use Rattle.std.specs.Prelude.{ℕ, ◌+◌, ◌-◌, ◌^◌, List, ltb}
use Rattle.std.proofs.Math.Option.{Option, none, some}
use Rattle.base.specs.Base.{when◌then◌else◌, Result, ok, stop}
use Rattle.text.specs.Text.{Text, ascii}
use Rattle.text.specs.Read.{◌>>=◌}
use Rattle.frame.specs.Kind
use Rattle.frame.specs.Tree.{Value, Entries, is, number, octets, entries}
use Rattle.frame.specs.ValueFrame.{decode_value}
use Rattle.frame.specs.Sound.{checked_value}
use Rattle.avro.specs.Resolve.{last_under}

-- the rank of a Long among the Longs, by its bits: the number and 2^63, so that the least has 0
unfoldable pub rank : ℕ → ℕ
rank b = when ltb b (2 ^ 63) then b + 2 ^ 63 else b - 2 ^ 63

-- the text of a String
unfoldable pub string_of : Option Value → Option Text
string_of none = none
string_of (some v) = when is Kind.String v then some (octets v) else none

-- the rank of a Long
unfoldable pub long_of : Option Value → Option ℕ
long_of none = none
long_of (some v) = when is Kind.Long v then some (rank (number v)) else none

-- sail and seq among a record's entries; none where one lacks or has the wrong kind
unfoldable pub fields : Entries → Option (Text × ℕ)
fields es = do
  x ← string_of (last_under (ascii "sail") es)
  n ← long_of (last_under (ascii "seq") es)
  some (x, n)

-- of a value; none where it is no record
unfoldable pub said : Value → Option (Text × ℕ)
said v = when is Kind.Record v then fields (entries v) else none

-- of a value that number 5 may have stopped
unfoldable pub said_in : Result Value → Option (Text × ℕ)
said_in (ok v) = said v
said_in (stop n) = none

-- sail and seq of a frame; none is what 24 refuses
unfoldable pub finish_of : List ℕ → Option (Text × ℕ)
finish_of s = said_in (checked_value (decode_value s))
