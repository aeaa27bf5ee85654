-- `scalar::is_short` meets its contract: the tests of `is_short`.
use mathlib.Core.Path.{refl, sym}
use borrow.Author.Tests.{lt-ltb, le-ltb}
use Rattle.scalar.specs.Scalars.{is_short}
use Rattle.scalar.proofs.is_short.Goals as goal

pub returns-then-k-lt6 : goal.returns-then-k-lt6
unfolding is_short
returns-then-k-lt6 c = let k = c.args.k in sym (rw (lt-ltb k 0x06 c.if-k-lt6.true) refl)

pub returns-else-k-lt6 : goal.returns-else-k-lt6
unfolding is_short
returns-else-k-lt6 c = let k = c.args.k in sym (rw (le-ltb k 0x06 c.if-k-lt6.false) refl)
