-- `turns::table_due` meets its contract.
use native.Mathlib.Omega.{arith}
use Rattle.turns.proofs.PartLaws.{part_count}
use Rattle.turns.proofs.DueLaws.{table-in, table_none, table-due}
use Rattle.turns.proofs.table_due.Goals as goal

pub reach-at-requires : goal.reach-at-requires
reach-at-requires c = (c.requires.0.part, omega (arith, part_count _ _ c.requires.0.part, table-in c.requires.0 _ c.in-Some.is), c.requires.1)

pub returns-in-None : goal.returns-in-None
returns-in-None c = λ g. table_none g _ c.requires.1 c.in-None.is

pub returns-in-Some : goal.returns-in-Some
returns-in-Some c = λ g. table-due g _ _ c.reach-at.ensures c.in-Some.is
