-- A Boolean is kept, and any other kind is refused.
use native.Mathlib.Omega.{arith}
use Rattle.number.proofs.Laws.{get_or-all_bytes}
use Rattle.frame.proofs.ValueNodes.{value_there}
use Rattle.types.specs.Types.{resolve_boolean}
use Rattle.types.proofs.Contents.{boolean-content}
use Rattle.types.proofs.NodeLaws.{flag-front, flag-kept, kind-refused}
use Rattle.types.proofs.ScalarLaws.{boolean-kept, boolean-refused}
use Rattle.casts.proofs.resolve_boolean.Goals as goal

pub bounds-v-0 : goal.bounds-v-0
bounds-v-0 c = (value_there _ _ c.requires).1

pub slice_bounds-put-end : goal.slice_bounds-put-end
slice_bounds-put-end c = flag-front _ _ c.requires 1 boolean-content c.if-v-eq-BOOLEAN.true

pub returns-then-v-eq-BOOLEAN : goal.returns-then-v-eq-BOOLEAN
returns-then-v-eq-BOOLEAN c = flag-kept resolve_boolean _ _ c.requires 1 boolean-content c.if-v-eq-BOOLEAN.true (get_or-all_bytes _ (λ i. omega (arith, c.type_inv.v i))) boolean-kept _ _ c.put.ensures

pub returns-else-v-eq-BOOLEAN : goal.returns-else-v-eq-BOOLEAN
returns-else-v-eq-BOOLEAN c = kind-refused resolve_boolean _ _ c.requires (get_or-all_bytes _ (λ i. omega (arith, c.type_inv.v i))) _ (boolean-refused _ c.if-v-eq-BOOLEAN.false) _
