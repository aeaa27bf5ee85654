-- `instants::date_in` meets its contract: a month or a day below 0, then the calendar.
use mathlib.Core.Path.{◌∙◌}
use mathlib.Core.Bool.{true, false}
use Rattle.instants.proofs.AnswerLaws.{date-no-month, date-no-day, date-told, told-sign}
use Rattle.instants.proofs.date_in.Goals as goal
use Rattle.instants.proofs.date_in.Goals.{then-month-lt0-via-then-month-lt0, then-month-lt0-via-else-month-lt0+then-day-lt0}

pub returns-then-month-lt0 : goal.returns-then-month-lt0
returns-then-month-lt0 c =
    let a = c.args in
    let f = c.ranges in
    elim c.then-month-lt0.branch [
      | then-month-lt0-via-then-month-lt0 w ↦ date-no-month a.year a.month a.day (told-sign a.month true f.month w.if-month-lt0.true)
      | then-month-lt0-via-else-month-lt0+then-day-lt0 w ↦ date-no-day a.year a.month a.day (told-sign a.month false f.month w.if-month-lt0.false) (told-sign a.day true f.day w.if-day-lt0.true)
    ]

pub returns : goal.returns
returns c =
    let a = c.args in
    c.date_of.ensures ∙ date-told a.year a.month a.day c.ranges.year c.ranges.month c.ranges.day (told-sign a.month false c.ranges.month c.if-month-lt0.false) (told-sign a.day false c.ranges.day c.if-day-lt0.false)
