-- `latin1_of` meets its contract: what it hands on is UTF-8. Assumes nothing.
use mathlib.Core.Path.{sym, ◌∙◌}
use Rattle.published.proofs.text_line.latin1_of.Goals as goal

pub points_of-requires : goal.points_of-requires
points_of-requires g c = sym c.is_utf8.ensures ∙ c.if-is_utf8.true
