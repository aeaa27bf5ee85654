-- What the functions for one digit answer: its value, and its place in the 36-character form.
use Rattle.std.specs.Prelude.{ℕ, ◌+◌, ltb}
use Rattle.std.proofs.Math.Option.{Option, none, some}
use Rattle.base.specs.Base.{when◌then◌else◌}

-- the value of a digit, 16 where it is none
unfoldable pub or_sixteen : Option ℕ → ℕ
or_sixteen none = 16
or_sixteen (some v) = v

-- where digit k of 32 stands in the 36-character form
unfoldable pub place : ℕ → ℕ
place k = when ltb k 8 then k else when ltb k 12 then k + 1 else when ltb k 16 then k + 2 else when ltb k 20 then k + 3 else k + 4
