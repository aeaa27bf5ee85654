-- `text::less` meets its contract.
use mathlib.Core.Path.{◌∙◌}
use Rattle.text.proofs.TextLaws.{less-compared}
use Rattle.text.proofs.less.Goals as goal

pub returns : goal.returns
returns c = c.is_lt.ensures ∙ less-compared _ _ _ c.cmp.ensures
