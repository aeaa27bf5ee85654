-- `turns::table_before` meets its contract.
use mathlib.Core.Logic.{⊎_elim}
use Rattle.turns.specs.Turns.{table_before}
use Rattle.turns.proofs.table_before.Goals as goal

pub returns-in-Before : goal.returns-in-Before
unfolding table_before
returns-in-Before c = rw c.in-Before.is c.sooner.ensures

pub returns-in-Table : goal.returns-in-Table
unfolding table_before
returns-in-Table c = ⊎_elim (λ e. rw e) (⊎_elim (λ e. rw e.1) (λ e. rw e.1)) c.in-Table.is
