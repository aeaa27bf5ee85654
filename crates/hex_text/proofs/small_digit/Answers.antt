-- `hex_text::small_digit` meets its contract.
use mathlib.Core.Path.{sym}
use Rattle.hex_text.proofs.DigitLaws.{small_one, small-letter}
use Rattle.hex_text.proofs.small_digit.Goals as goal

pub returns-then-n-lt10 : goal.returns-then-n-lt10
returns-then-n-lt10 c = sym (small_one _ c.if-n-lt10.true)

pub returns-else-n-lt10 : goal.returns-else-n-lt10
returns-else-n-lt10 c = sym (small-letter _ c.if-n-lt10.false)
