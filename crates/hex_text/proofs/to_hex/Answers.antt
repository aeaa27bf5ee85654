-- The digits of one byte more. Assumes nothing.
use mathlib.Core.Path.{refl}
use Rattle.uuid_text.specs.Rfc4122.{hex_text}
use Rattle.hex_text.proofs.DigitLaws.{hex-step}
use Rattle.hex_text.proofs.to_hex.Goals as goal

pub loop-i-init : goal.loop-i-init
unfolding hex_text
loop-i-init c = refl

pub loop-i-preserved : goal.loop-i-preserved
loop-i-preserved c = rw c.loop-i.invariant (hex-step _ _ _ _ _ c.loop-i-test.true c.requires c.small_digit.ensures c.small_digit-in-loop-i.ensures)
