-- `octets::decimal_points` meets its contract.
use native.Mathlib.Omega.{arith}
use mathlib.Core.Path.{sym, ap, ◌∙◌}
use Rattle.base.specs.declared.refusal.Refusal.TheVariants.{BytesTooFew}
use Rattle.decimal.specs.Decimal.{too_short_for}
use Rattle.buffer.proofs.BuiltLaws.{built-small}
use Rattle.types.specs.Contract.{points}
use Rattle.types.proofs.Contents.{decimal-content}
use Rattle.types.proofs.PartLaws.{wrote-counted, built-counted}
use Rattle.types.proofs.OctetLaws.{wrote_then, wrote-else, refused-with}
use Rattle.octets.proofs.DecimalLaws.{length-points}
use Rattle.octets.proofs.decimal_points.Goals as goal

pub returns-then-too_short_for : goal.returns-then-too_short_for
returns-then-too_short_for c = wrote_then _ _ _ _ _ (ap (too_short_for c.args.precision) (sym c.requires.2) ∙ sym c.too_short_for.ensures ∙ c.if-too_short_for.true) (refused-with BytesTooFew _)

pub overflow_cast-h : goal.overflow_cast-h
overflow_cast-h c = omega (arith, length-points c.args.t.now, c.requires.2, c.requires.3)

pub append_points-requires : goal.append_points-requires
append_points-requires c = (c.requires.0, c.requires.1, c.requires.2, built-small _ _ _ c.put-at.ensures)

pub returns : goal.returns
returns c = let l = length-points c.args.t.now in wrote-else _ _ _ _ _ (ap (too_short_for c.args.precision) (sym c.requires.2) ∙ sym c.too_short_for.ensures ∙ c.if-too_short_for.false) (wrote-counted 14 _ _ _ decimal-content (built-counted 14 _ (points c.args.t.now) _ _ c.requires.2 (omega (arith, c.requires.3)) (c.append_points.ensures _ c.put-at.ensures)))
