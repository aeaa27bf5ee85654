-- A number or a time is converted as a scalar, and any other kind is refused.
use native.Mathlib.Omega.{arith}
use mathlib.Core.Path.{sym, ◌∙◌}
use Rattle.number.proofs.Laws.{get_or-all_bytes}
use Rattle.frame.proofs.ValueNodes.{value_there}
use Rattle.scalar.specs.Scalars.{time_cast}
use Rattle.types.specs.Types.{resolve_plain}
use Rattle.types.proofs.NodeLaws.{kind-refused}
use Rattle.casts.proofs.CastLaws.{cast-outcome, read_answer, time-cast, time-other}
use Rattle.casts.proofs.resolve_time.Goals as goal

pub bounds-v-0 : goal.bounds-v-0
bounds-v-0 c = (value_there _ _ c.requires.0).1

pub scalar_at-requires : goal.scalar_at-requires
scalar_at-requires c = (c.requires.0, sym c.is_scalar.ensures ∙ c.if-is_scalar.true)

pub returns-then-is_scalar : goal.returns-then-is_scalar
returns-then-is_scalar c = read_answer _ _ (resolve_plain c.args.kind) _ _ _ c.requires.0 (cast-outcome _ _ c.requires.0 (sym c.is_scalar.ensures ∙ c.if-is_scalar.true) (get_or-all_bytes _ (λ i. omega (arith, c.type_inv.v i))) (resolve_plain c.args.kind) (time_cast c.args.kind) (time-cast c.args.kind c.requires.1 c.requires.2) _ _ c.scalar_at.ensures c.to_time.ensures) c.put_cast.ensures

pub returns-else-is_scalar : goal.returns-else-is_scalar
returns-else-is_scalar c = kind-refused (resolve_plain c.args.kind) _ _ c.requires.0 (get_or-all_bytes _ (λ i. omega (arith, c.type_inv.v i))) _ (time-other _ (sym c.is_scalar.ensures ∙ c.if-is_scalar.false) c.args.kind c.requires.1 c.requires.2) _
