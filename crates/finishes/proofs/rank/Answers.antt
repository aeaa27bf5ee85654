-- `finishes::rank` meets its contract.
use Rattle.finishes.specs.Finish.{rank}
use borrow.Author.Tests.{lt-ltb, le-ltb}
use Rattle.base.specs.Base.{when◌then◌else◌}
use Prim.Native.Nat.{◌+◌, ◌-◌, ◌^◌}
use mathlib.Core.Path.{sym, ap}
use mathlib.Core.Bool.{Bool}
use Rattle.finishes.proofs.rank.Goals as goal

pub returns-then-b-lt9223372036854775808 : goal.returns-then-b-lt9223372036854775808
unfolding rank
returns-then-b-lt9223372036854775808 c = let x = c.args.b in sym (ap (λ (t : Bool). when t then x + 2 ^ 63 else x - 2 ^ 63) (lt-ltb x (2 ^ 63) c.if-b-lt9223372036854775808.true))

pub returns-else-b-lt9223372036854775808 : goal.returns-else-b-lt9223372036854775808
unfolding rank
returns-else-b-lt9223372036854775808 c = let x = c.args.b in sym (ap (λ (t : Bool). when t then x + 2 ^ 63 else x - 2 ^ 63) (le-ltb x (2 ^ 63) c.if-b-lt9223372036854775808.false))
