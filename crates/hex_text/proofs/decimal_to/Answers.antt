-- `hex_text::decimal_to` meets its contract.
use mathlib.Core.Path.{refl, sym}
use native.Mathlib.Omega.{arith}
use Rattle.hex_text.proofs.DigitLaws.{decimal-one, decimal-two, front-one, front-two}
use Rattle.hex_text.proofs.decimal_to.Goals as goal

pub returns-then-n-lt10 : goal.returns-then-n-lt10
returns-then-n-lt10 c = record { value = (rw (decimal-one _ c.if-n-lt10.true) refl, omega arith); out_after = rw (decimal-one _ c.if-n-lt10.true, sym c.small_digit.ensures) (front-one c.args.out.now _ (omega (arith, c.requires.1))) }

pub returns-else-n-lt10 : goal.returns-else-n-lt10
returns-else-n-lt10 c = record { value = (rw (decimal-two _ c.if-n-lt10.false) refl, omega arith); out_after = rw (decimal-two _ c.if-n-lt10.false, sym c.small_digit-else-n-lt10.ensures, sym c.small_digit-else-n-lt10-2.ensures) (front-two c.args.out.now _ _ (omega (arith, c.requires.1))) }
