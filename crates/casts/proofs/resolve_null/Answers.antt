-- Null is kept, and any other kind is refused.
use native.Mathlib.Omega.{arith}
use Rattle.number.proofs.Laws.{get_or-all_bytes}
use Rattle.frame.proofs.ValueNodes.{value_there}
use Rattle.types.specs.Types.{resolve_null}
use Rattle.types.proofs.Contents.{null-content}
use Rattle.types.proofs.NodeLaws.{wide-front, wide-kept, kind-refused}
use Rattle.types.proofs.ScalarLaws.{null-kept, null-refused}
use Rattle.casts.proofs.resolve_null.Goals as goal

pub bounds-v-0 : goal.bounds-v-0
bounds-v-0 c = (value_there _ _ c.requires).1

pub slice_bounds-put-end : goal.slice_bounds-put-end
slice_bounds-put-end c = wide-front _ _ c.requires 0 0 null-content c.if-v-eq-NULL.true

pub returns-then-v-eq-NULL : goal.returns-then-v-eq-NULL
returns-then-v-eq-NULL c = wide-kept resolve_null _ _ c.requires 0 0 null-content c.if-v-eq-NULL.true (get_or-all_bytes _ (λ i. omega (arith, c.type_inv.v i))) null-kept _ _ c.put.ensures

pub returns-else-v-eq-NULL : goal.returns-else-v-eq-NULL
returns-else-v-eq-NULL c = kind-refused resolve_null _ _ c.requires (get_or-all_bytes _ (λ i. omega (arith, c.type_inv.v i))) _ (null-refused _ c.if-v-eq-NULL.false) _
