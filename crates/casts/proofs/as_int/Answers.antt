-- A number or a time is converted as a scalar, and any other kind does not suit.
use native.Mathlib.Omega.{arith}
use mathlib.Core.Path.{sym, ◌∙◌}
use Rattle.number.proofs.Laws.{get_or-all_bytes}
use Rattle.frame.proofs.ValueNodes.{value_there, value-kind}
use Rattle.scalar.specs.Scalars.{int_cast}
use Rattle.types.specs.Types.{resolve_int}
use Rattle.types.specs.Contract.{cast_outcome}
use Rattle.casts.proofs.CastLaws.{cast-outcome, int-cast, int-other}
use Rattle.casts.proofs.as_int.Goals as goal

pub bounds-v-0 : goal.bounds-v-0
bounds-v-0 c = (value_there _ _ c.requires).1

pub scalar_at-requires : goal.scalar_at-requires
scalar_at-requires c = (c.requires, sym c.is_scalar.ensures ∙ c.if-is_scalar.true)

pub returns-then-is_scalar : goal.returns-then-is_scalar
returns-then-is_scalar c = cast-outcome _ _ c.requires (sym c.is_scalar.ensures ∙ c.if-is_scalar.true) (get_or-all_bytes _ (λ i. omega (arith, c.type_inv.v i))) resolve_int int_cast int-cast _ _ c.scalar_at.ensures c.to_int.ensures

pub returns-else-is_scalar : goal.returns-else-is_scalar
unfolding cast_outcome
returns-else-is_scalar c = λ w u e. sym (int-other _ (sym c.is_scalar.ensures ∙ c.if-is_scalar.false) w (value-kind _ _ (get_or-all_bytes _ (λ i. omega (arith, c.type_inv.v i))) w u e))
