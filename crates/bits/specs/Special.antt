-- What is answered of a text: the bits of a Float, or that it is none of the five.
use Rattle.std.specs.Prelude as std
use Rattle.std.specs.Prelude.{ℕ, Some, None}
use Rattle.std.proofs.Math.Option.{Option, none, some}

abbrev pub special_of : Option ℕ → std.Option ℕ
special_of (some b) = Some b
special_of none = None
