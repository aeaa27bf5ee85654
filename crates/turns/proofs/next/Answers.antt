-- `turns::next` meets its contract.
use mathlib.Core.Path.{subst}
use Rattle.turns.specs.declared.Turn.{Turn}
use native.Mathlib.Omega.{arith}
use borrow.Author.Tests.{lt-ltb, le-ltb}
use Rattle.turns.specs.Turns.{next_turn, Within}
use Rattle.turns.proofs.next.Goals as goal

pub returns-then-j-way : goal.returns-then-j-way
unfolding next_turn
returns-then-j-way c = rw (c.in-Before.is, lt-ltb _ _ c.if-j-way.true)

pub returns-then-j-way-2 : goal.returns-then-j-way-2
unfolding next_turn
returns-then-j-way-2 c = rw (c.in-Behind.is, lt-ltb _ _ c.if-j-way-2.true)

pub overflow_add-result-in-Any : goal.overflow_add-result-in-Any
unfolding Within
overflow_add-result-in-Any c = let h : Within (Turn.Any c.in-Any.i) = subst Within c.in-Any.is c.requires in omega (arith, h)

pub returns-else-j-way : goal.returns-else-j-way
unfolding next_turn
returns-else-j-way c = rw (c.in-Before.is, le-ltb c.in-Before.j c.args.way.before (omega (arith, c.if-j-way.false)))

pub returns-in-Table : goal.returns-in-Table
unfolding next_turn
returns-in-Table c = rw c.in-Table.is

pub returns-else-j-way-2 : goal.returns-else-j-way-2
unfolding next_turn
returns-else-j-way-2 c = rw (c.in-Behind.is, le-ltb c.in-Behind.j c.args.way.count (omega (arith, c.if-j-way-2.false)))

pub returns-in-Any : goal.returns-in-Any
unfolding next_turn
returns-in-Any c = rw c.in-Any.is
