-- `bits::int_to_double` meets its contract: what the three calls ensure, and the law of the conversion from content to content.
use mathlib.Core.Path.{ap, ◌∙◌}
use Rattle.scalar.specs.Scalars.{cast_content, double_cast}
use Rattle.bits.proofs.BitLaws.{integer-double}
use Rattle.scalar.specs.Conversion.{double_of_int}
use Rattle.bits.proofs.int_to_double.Goals as goal

pub returns : goal.returns
unfolding double_of_int
returns c =
    c.content_or_zero.ensures ∙ ap cast_content (c.to_double.ensures ∙ ap double_cast c.of_int.ensures) ∙ integer-double _
