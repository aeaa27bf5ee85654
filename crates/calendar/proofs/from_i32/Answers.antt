-- `calendar::from_i32` meets its contract: a number from -k on, counted. Assumes nothing.
use Rattle.std.proofs.Common.{arith}
use Rattle.std.proofs.lemmas.Int.{ints}
use Rattle.calendar.specs.Origin.{counted_from}
use Rattle.calendar.proofs.Whole.{sub-differ}
use Rattle.calendar.proofs.EntryLaws.{counted_is}
use Rattle.calendar.proofs.from_i32.Goals as goal

pub returns : goal.returns
returns c =
    let k = c.args.k in
    let z = c.args.z in
    omega (arith, ints, counted_is k 0x8000_0000 c.requires.0 z c.ranges.z.sfits, sub-differ (counted_from k z) k)
