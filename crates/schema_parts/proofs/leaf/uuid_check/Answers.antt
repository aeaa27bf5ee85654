-- `schema_parts::leaf::uuid_check` meets its contract. Assumes nothing.
use native.Mathlib.Omega.{arith}
use mathlib.Core.Path.{ap}
use lib.Dec.{eqb}
use Rattle.frame.specs.Sound.{schema_sound, uuid_size_sound}
use Rattle.frame.proofs.Measuring.{checks-some, checks-none}
use Rattle.schema_parts.proofs.Leaves.{uuid-empty, uuid-free, uuid-short, uuid-fixed, uuid-other}
use Rattle.schema_parts.proofs.leaf.uuid_check.Goals as goal

pub returns-in-0 : goal.returns-in-0
returns-in-0 c = λ form node. uuid-free form node _ (omega arith) (omega arith)

pub returns-in-0-2 : goal.returns-in-0-2
returns-in-0-2 c = λ form node. uuid-free form node _ (omega arith) (omega arith)

pub returns-in-2 : goal.returns-in-2
unfolding schema_sound uuid_size_sound
returns-in-2 c = λ form node. checks-some _ _ _ _ _ c.in-2.len_at_least _ (uuid-fixed form node _ c.in-2.len_at_least (omega arith)) (ap (λ n. eqb n 16) c.read2.ensures)

pub returns-in_default : goal.returns-in_default
returns-in_default c = λ form node. checks-none _ _ _ (uuid-empty form node _ (omega arith))

pub returns-in_default-2 : goal.returns-in_default-2
returns-in_default-2 c = λ form node. checks-none _ _ _ (uuid-short form node _ (omega arith) (omega arith) (omega arith))

pub returns-in_default-3 : goal.returns-in_default-3
returns-in_default-3 c = λ form node. checks-none _ _ _ (uuid-other form node _ (omega arith) (omega arith) (omega arith) (omega arith))
