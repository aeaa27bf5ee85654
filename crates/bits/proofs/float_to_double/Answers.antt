-- `bits::float_to_double` meets its contract: what the three calls ensure, and the law of the conversion from content to content.
use mathlib.Core.Path.{ap, ◌∙◌}
use Rattle.scalar.specs.Scalars.{cast_content, double_cast}
use Rattle.bits.proofs.BitLaws.{float-double}
use Rattle.scalar.specs.Conversion.{double_of_float}
use Rattle.bits.proofs.float_to_double.Goals as goal

pub returns : goal.returns
unfolding double_of_float
returns c =
    c.content_or_zero.ensures ∙ ap cast_content (c.to_double.ensures ∙ ap double_cast c.of_float.ensures) ∙ float-double c.args.b c.ranges.b.fits
