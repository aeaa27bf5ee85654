-- `octets::string_of` meets its contract.
use mathlib.Core.Path.{sym, ◌∙◌}
use Rattle.base.specs.declared.refusal.Refusal.TheVariants.{NotUtf8}
use Rattle.types.proofs.PartLaws.{wrote-text}
use Rattle.types.proofs.OctetLaws.{wrote_then, wrote-else, refused-with}
use Rattle.octets.proofs.string_of.Goals as goal

pub returns-then-is_utf8 : goal.returns-then-is_utf8
returns-then-is_utf8 c = wrote_then _ _ _ _ _ (sym c.is_utf8.ensures ∙ c.if-is_utf8.true) (wrote-text _ _ _ c.put_counted.ensures)

pub returns-else-is_utf8 : goal.returns-else-is_utf8
returns-else-is_utf8 c = wrote-else _ _ _ _ _ (sym c.is_utf8.ensures ∙ c.if-is_utf8.false) (refused-with NotUtf8 _)
