-- `value_parts::flag_len` meets its contract. Assumes nothing.
use native.Mathlib.Omega.{arith}
use Rattle.frame.proofs.Reading.{flag-some, flag-large, flag-short}
use Rattle.frame.proofs.Measuring.{measured-some, measured-none}
use Rattle.value_parts.proofs.flag_len.Goals as goal

pub returns-in-0 : goal.returns-in-0
returns-in-0 c =
    let s = c.args.s.now in
    measured-some _ s 1 (omega arith) _ (flag-some s (omega arith) (omega arith))

pub returns-in_default : goal.returns-in_default
returns-in_default c = measured-none _ _ (flag-short c.args.s.now (omega arith))

pub returns-in_default-2 : goal.returns-in_default-2
returns-in_default-2 c =
    let s = c.args.s.now in
    measured-none _ s (flag-large s (omega arith) (omega arith))
