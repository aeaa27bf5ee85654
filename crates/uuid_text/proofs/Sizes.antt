-- A UUID that was read has 16 elements. Assumes nothing.
use Prim.Native.Nat.{ℕ}
use mathlib.Core.Path.{◌≡◌}
use mathlib.Core.List.{List}
use mathlib.Core.Option.{some}
use lib.ListN.{length}
use Rattle.text.specs.Text.{Text}
use Rattle.uuid_text.specs.Uuid.{uuid_of_text}
use Rattle.uuid_text.proofs.Rfc4122.{some→UuidText, length-UuidText}

pub length-uuid_of_text : (t : Text) (b : List ℕ) → uuid_of_text t ≡ some b → length b ≡ 16
length-uuid_of_text t b e = length-UuidText (some→UuidText t b e)
