-- `schema::names::take` meets its contract. Assumes nothing.
use mathlib.Core.Logic.{inl, inr}
use borrow.Author.Tests.{eq-eqb, ne_eqb}
use Rattle.schema.specs.Slot.{marked}
use Rattle.schema.proofs.names.take.Goals as goal

pub returns-then-slot-v : goal.returns-then-slot-v
unfolding marked
returns-then-slot-v c = elim c.if-slot-v.either [ inl e ↦ rw (eq-eqb _ _ e) | inr e ↦ rw (ne_eqb _ _ e.0, eq-eqb _ _ e.1) ]

pub returns-else-slot-v : goal.returns-else-slot-v
unfolding marked
returns-else-slot-v c = rw (ne_eqb _ _ c.if-slot-v.false.0, ne_eqb _ _ c.if-slot-v.false.1)
