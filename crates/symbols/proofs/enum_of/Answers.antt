-- `symbols::enum_of` meets its contract.
use mathlib.Core.Path.{sym, ◌∙◌}
use Rattle.symbols.proofs.RoundLaws.{default-there, symbol-found, default-found, none_found}
use Rattle.symbols.proofs.enum_of.Goals as goal

pub default_text-requires : goal.default_text-requires
default_text-requires c = default-there _ _ c.requires.0 _ (sym c.in-Default.is ∙ c.position.ensures)

pub returns-in-Symbol : goal.returns-in-Symbol
returns-in-Symbol c = symbol-found _ _ c.requires.0 _ _ _ (sym c.in-Symbol.is ∙ c.position.ensures) c.put_enum.ensures

pub returns-in-Default : goal.returns-in-Default
returns-in-Default c = default-found _ _ c.requires.0 _ _ _ _ (sym c.in-Default.is ∙ c.position.ensures) c.default_text.ensures.0 c.put_enum-in-Default.ensures

pub returns-in-Nowhere : goal.returns-in-Nowhere
returns-in-Nowhere c = none_found _ _ c.requires.0 _ (sym c.in-Nowhere.is ∙ c.position.ensures)
