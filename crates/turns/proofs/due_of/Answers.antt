-- `turns::due_of` meets its contract.
use mathlib.Core.Path.{sym, subst}
use Rattle.turns.specs.Turns.{Tells}
use Rattle.turns.proofs.DueLaws.{before-count, tells-before, tells-behind}
use Rattle.turns.proofs.due_of.Goals as goal

pub named_due-requires : goal.named_due-requires
named_due-requires c = (c.requires.0, before-count c.requires.0, c.requires.1)

pub returns-in-Before : goal.returns-in-Before
returns-in-Before c = λ g. subst (λ x. Tells g x c.named_due.result) (sym c.in-Before.is) (tells-before g _ _ (c.named_due.ensures g))

pub returns-in-Table : goal.returns-in-Table
returns-in-Table c = λ g. subst (λ x. Tells g x c.table_due.result) (sym c.in-Table.is) (c.table_due.ensures g)

pub returns-in-Behind : goal.returns-in-Behind
returns-in-Behind c = λ g. subst (λ x. Tells g x c.named_due-in-Behind.result) (sym c.in-Behind.is) (tells-behind g _ _ (c.named_due-in-Behind.ensures g))

pub returns-in-Any : goal.returns-in-Any
returns-in-Any c = λ g. subst (λ x. Tells g x c.any_due.result) (sym c.in-Any.is) (c.any_due.ensures g)
