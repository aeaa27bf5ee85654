-- `calendar::add_stamp` meets its contract: the addition over the unit. Assumes nothing.
use mathlib.Core.Path.{ap, ◌∙◌}
use Prim.Native.Nat.{◌+◌, ◌*◌}
use mir.Syntax.{w64}
use mir.ValLaws.{to_z-of_z}
use Rattle.calendar.specs.Origin.{epoch, counted_from}
use Rattle.calendar.proofs.EntryLaws.{stamp-sum}
use native.Mathlib.Omega.{arith}
use Rattle.calendar.proofs.add_stamp.Goals as goal

pub returns : goal.returns
returns c =
    let u = 86400000 * c.args.p in
    let a = c.add_over in
    let p = c.split in
    c.join.ensures
    ∙ stamp-sum u c.args.p (p.result.day * u + p.result.rest) (a.result.day * u + a.result.rest) c.args.d.months.0 c.args.d.days.0 c.args.d.millis.0 c.args.z (omega (arith, c.requires.0)) c.ranges.z.sfits
    (p.ensures.0 ∙ ap (counted_from (epoch * u)) (to_z-of_z w64 c.args.z c.ranges.z)) a.ensures.0
