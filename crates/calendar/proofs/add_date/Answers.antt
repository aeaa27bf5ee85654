-- `calendar::add_date` meets its contract: the addition over the unit, of one unit to a day. Assumes nothing.
use mathlib.Core.Path.{ap, ◌∙◌}
use Prim.Native.Nat.{◌^◌}
use mir.Syntax.{w32}
use mir.ValLaws.{to_z-of_z}
use Rattle.calendar.specs.Origin.{epoch, counted_from}
use Rattle.calendar.proofs.EntryLaws.{counted-<, date-sum}
use native.Mathlib.Omega.{arith}
use Rattle.calendar.proofs.add_date.Goals as goal

pub add_over-r-requires : goal.add_over-r-requires
add_over-r-requires c =
    let f = c.ranges.z.sfits in
    let e = c.from_i32.ensures ∙ ap (counted_from epoch) (to_z-of_z w32 c.args.z c.ranges.z) in
    (omega arith, omega arith, omega arith, omega (arith, e, counted-< epoch (2 ^ 31) (omega arith) c.args.z f), omega arith)

pub returns : goal.returns
returns c =
    let f = c.ranges.z.sfits in
    let e = c.from_i32.ensures ∙ ap (counted_from epoch) (to_z-of_z w32 c.args.z c.ranges.z) in
    let r = c.add_over-r in
    c.to_date.ensures ∙ date-sum c.args.z c.from_i32.result r.result.day r.result.rest c.args.d.months.0 c.args.d.days.0 f e r.ensures.0 r.ensures.2
