-- `bits::float_content` meets its contract: what the three calls ensure.
use mathlib.Core.Path.{ap, ◌∙◌}
use Rattle.scalar.specs.Scalars.{cast_content, float_cast}
use Rattle.bits.proofs.float_content.Goals as goal

pub returns : goal.returns
returns c = c.content_or_zero.ensures ∙ ap cast_content (c.to_float.ensures ∙ ap float_cast c.of_content.ensures)
