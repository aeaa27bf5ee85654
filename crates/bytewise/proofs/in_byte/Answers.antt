-- A number up to 255 is a byte, and any other is refused.
use native.Mathlib.Omega.{arith}
use Rattle.std.proofs.lemmas.Grind.{common_steps}
use Rattle.bytewise.proofs.ByteLaws.{is_byte, past-byte}
use Rattle.bytewise.proofs.in_byte.Goals as goal

pub returns : goal.returns
returns c = grind (arith, common_steps, is_byte, past-byte)
