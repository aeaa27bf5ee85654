-- `octets::decimal_of` meets its contract.
use mathlib.Core.Path.{sym, ◌∙◌}
use Rattle.base.specs.declared.refusal.Refusal.TheVariants.{BytesTooFew}
use Rattle.types.proofs.Contents.{decimal-content}
use Rattle.types.proofs.PartLaws.{wrote-counted}
use Rattle.types.proofs.OctetLaws.{wrote_then, wrote-else, refused-with}
use Rattle.octets.proofs.decimal_of.Goals as goal

pub returns-then-too_short_for : goal.returns-then-too_short_for
returns-then-too_short_for c = wrote_then _ _ _ _ _ (sym c.too_short_for.ensures ∙ c.if-too_short_for.true) (refused-with BytesTooFew _)

pub returns : goal.returns
returns c = wrote-else _ _ _ _ _ (sym c.too_short_for.ensures ∙ c.if-too_short_for.false) (wrote-counted 14 _ _ _ decimal-content c.put_counted.ensures)
