-- `schema_parts::leaf::option_size_len` meets its contract. Assumes nothing.
use native.Mathlib.Omega.{arith}
use lib.ListN.{length-drop}
use Rattle.text.proofs.ReadLaws.{read_number-some}
use Rattle.frame.proofs.Reading.{option-empty, option-zero, option-one-some, option-other}
use Rattle.frame.proofs.Measuring.{measured-some, measured-none}
use Rattle.schema_parts.proofs.Leaves.{size-short}
use Rattle.schema_parts.proofs.leaf.option_size_len.Goals as goal

pub returns-in-0 : goal.returns-in-0
returns-in-0 c = measured-some _ _ _ (omega arith) _ (option-zero _ _ (omega arith) (omega arith))

pub returns-in-0-2 : goal.returns-in-0-2
returns-in-0-2 c = measured-some _ _ _ (omega arith) _ (option-zero _ _ (omega arith) (omega arith))

pub returns-in-1 : goal.returns-in-1
returns-in-1 c = measured-some _ _ _ (omega arith) _ (option-one-some _ _ (omega arith) (omega arith) _ 2 (read_number-some 2 _ (omega (arith, length-drop 1 c.args.s.now))))

pub returns-in_default : goal.returns-in_default
returns-in_default c = measured-none _ _ (option-empty _ _ (omega arith))

pub returns-in_default-2 : goal.returns-in_default-2
returns-in_default-2 c = measured-none _ _ (size-short _ (omega arith) (omega arith) (omega arith))

pub returns-in_default-3 : goal.returns-in_default-3
returns-in_default-3 c = measured-none _ _ (option-other _ _ (omega arith) (omega arith) (omega arith))
