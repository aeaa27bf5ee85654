-- `bits::int_to_long` meets its contract: what the three calls ensure, and the law of the conversion from content to content.
use mathlib.Core.Path.{ap, ◌∙◌}
use Rattle.scalar.specs.Scalars.{cast_content, long_cast}
use Rattle.scalar.proofs.Contents.{int-long}
use Rattle.bits.proofs.int_to_long.Goals as goal

pub returns : goal.returns
returns c =
    c.content_or_zero.ensures ∙ ap cast_content (c.to_long.ensures ∙ ap long_cast c.of_int.ensures) ∙ int-long c.args.b c.ranges.b.fits
