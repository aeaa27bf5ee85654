-- `schema::names::may_be` meets its contract. Assumes nothing.
use borrow.Author.Tests.{eq-eqb, ne_eqb}
use Rattle.schema.specs.Slot.{may_be}
use Rattle.schema.proofs.names.may_be.Goals as goal

pub returns-then-slot-v : goal.returns-then-slot-v
unfolding may_be
returns-then-slot-v c = rw (eq-eqb _ _ c.if-slot-v.true)

pub returns-else-slot-v : goal.returns-else-slot-v
unfolding may_be
returns-else-slot-v c = rw (ne_eqb _ _ c.if-slot-v.false)
