-- `schema_parts::leaf::option_text_len` meets its contract. Assumes nothing.
use borrow.Author.Rules.{part_to_end}
use native.Mathlib.Omega.{arith}
use lib.ListN.{length-drop}
use Rattle.frame.proofs.Reading.{option-empty, option-zero, option-one-none, option-other}
use Rattle.frame.proofs.Measuring.{long, measured-some, measured-none, measured-broken, option-measured}
use Rattle.schema_parts.proofs.leaf.option_text_len.Goals as goal

pub returns-in-0 : goal.returns-in-0
returns-in-0 c = measured-some _ _ _ (omega arith) _ (option-zero _ _ (omega arith) (omega arith))

pub returns-in_err-text_len-in-1 : goal.returns-in_err-text_len-in-1
returns-in_err-text_len-in-1 c = rw c.from_residual.ensures (measured-none _ _ (option-one-none _ _ (omega arith) (omega arith) (measured-broken _ _ (rw part_to_end at c.in_err-text_len-in-1.ensures))))

pub overflow_add-result : goal.overflow_add-result
overflow_add-result c = let h = long _ _ _ (rw part_to_end at c.in_ok-text_len-in-1.ensures) in omega (arith, h.inside, length-drop 1 c.args.s.now, c.well_formed)

pub returns-in_ok-text_len-in-1 : goal.returns-in_ok-text_len-in-1
returns-in_ok-text_len-in-1 c = option-measured _ _ (omega arith) (omega arith) _ (rw part_to_end at c.in_ok-text_len-in-1.ensures)

pub returns-in_default : goal.returns-in_default
returns-in_default c = measured-none _ _ (option-empty _ _ (omega arith))

pub returns-in_default-2 : goal.returns-in_default-2
returns-in_default-2 c = measured-none _ _ (option-other _ _ (omega arith) (omega arith) (omega arith))
