-- Resolution behind the peeling of one Union, and the schemas that have no child.
use Rattle.std.specs.Prelude.{ℕ, ◌≡◌, List, get_or}
use Rattle.base.specs.Base.{Result}
use Rattle.frame.specs.Tree.{Value, Schema}
use Rattle.types.specs.Types.{Outcome}
use Rattle.types.specs.Contract.{encoded}
use Rattle.avro.specs.Resolve.{resolve}

-- resolve_internal behind the peeling of one Union: w is what the Union held
unfoldable pub resolve_peeled : Schema → Value → Outcome
resolve_peeled t w = resolve t (Value.Union 0 w)

unfoldable pub peeled_bytes : Schema → Value → Result (List ℕ)
peeled_bytes t w = encoded (resolve_peeled t w)

-- the kind byte is none of Array, Map, Union and Record
pub record Childless (s : List ℕ) : Type 0 where
  pub no_array : get_or s 0 0 ≡ 8 → ⊥
  pub no_map : get_or s 0 0 ≡ 9 → ⊥
  pub no_union : get_or s 0 0 ≡ 10 → ⊥
  pub no_fields : get_or s 0 0 ≡ 11 → ⊥
