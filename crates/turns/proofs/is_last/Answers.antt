-- `turns::is_last` meets its contract.
use mathlib.Core.Path.{ap}
use mathlib.Core.Logic.{⊎_elim}
use mathlib.Core.Bool.{not}
use Rattle.text.specs.Measured.{Reads}
use Rattle.turns.specs.Turns.{is_last}
use Rattle.variants.proofs.UnionReading.{on_read, on-read-of}
use Rattle.turns.proofs.is_last.Goals as goal

pub returns-in-Before : goal.returns-in-Before
unfolding Reads is_last
returns-in-Before c = on-read-of _ _ c.requires.0 c.requires.1.0 c.requires.1.1 (⊎_elim (λ e. rw e.1) (⊎_elim (λ e. rw e.1) (λ e. rw e.1)) c.in-Before.is)

pub returns-in-Table : goal.returns-in-Table
unfolding Reads is_last
returns-in-Table c = on-read-of _ _ c.requires.0 c.requires.1.0 c.requires.1.1 (rw c.in-Table.is (ap not (on_read _ _ c.requires.0 c.requires.1.0 c.requires.1.1 c.is_tried.ensures)))
