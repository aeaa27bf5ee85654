-- `instants::instant_in` meets its contract: the scalar of a number's or a time's node.
use native.Mathlib.Omega.{arith}
use mathlib.Core.Path.{sym, ◌∙◌}
use Rattle.number.proofs.Laws.{get_or-all_bytes}
use Rattle.frame.proofs.ValueNodes.{value_there, value-kind}
use Rattle.instants.proofs.FrameLaws.{scalar-instant, no-instant}
use Rattle.instants.proofs.instant_in.Goals as goal

pub bounds-v-0 : goal.bounds-v-0
bounds-v-0 c = (value_there _ _ c.requires).1

pub scalar_at-requires : goal.scalar_at-requires
scalar_at-requires c = (c.requires, sym c.is_scalar.ensures ∙ c.if-is_scalar.true)

pub returns-then-is_scalar : goal.returns-then-is_scalar
returns-then-is_scalar c =
    let v = c.args.v.now in
    λ w u e. c.scalar_at.ensures w u e ∙ scalar-instant v w (value-kind 16 v (get_or-all_bytes v (λ i. omega (arith, c.type_inv.v i))) w u e) (sym c.is_scalar.ensures ∙ c.if-is_scalar.true)

pub returns-else-is_scalar : goal.returns-else-is_scalar
returns-else-is_scalar c =
    let v = c.args.v.now in
    λ w u e. no-instant v w (value-kind 16 v (get_or-all_bytes v (λ i. omega (arith, c.type_inv.v i))) w u e) (sym c.is_scalar.ensures ∙ c.if-is_scalar.false)
