-- What the items of an array that were read are as Bytes.
use Rattle.std.specs.Prelude.{ℕ, List}
use Rattle.base.specs.Base.{Result}
use Rattle.frame.specs.Tree.{Value}
use Rattle.frame.specs.ValueFrame.{items_of}
use Rattle.types.specs.Types.{Outcome, byte_items, resolve_bytes}

-- the bytes of items that were read
unfoldable pub list_bytes : List Value → Result (List ℕ)
list_bytes vs = byte_items (items_of vs)

-- resolve_bytes of an Array of these items
unfoldable pub items_as_bytes : List Value → Outcome
items_as_bytes vs = resolve_bytes (Value.Array (items_of vs))
