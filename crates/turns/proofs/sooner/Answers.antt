-- `turns::sooner` meets its contract.
use native.Mathlib.Omega.{arith}
use borrow.Author.Tests.{lt-ltb, le-ltb}
use Rattle.turns.specs.Turns.{sooner_than}
use Rattle.turns.proofs.sooner.Goals as goal

pub returns-in_err-u : goal.returns-in_err-u
unfolding sooner_than
returns-in_err-u c = rw (c.from_residual.ensures, c.in_err-u.was)

pub returns-then-u-i : goal.returns-then-u-i
unfolding sooner_than
returns-then-u-i c = rw (c.in_ok-u.was, lt-ltb _ _ c.if-u-i.true)

pub returns-else-u-i : goal.returns-else-u-i
unfolding sooner_than
returns-else-u-i c = rw (c.in_ok-u.was, le-ltb c.in_ok-u.u c.args.i (omega (arith, c.if-u-i.false)))
