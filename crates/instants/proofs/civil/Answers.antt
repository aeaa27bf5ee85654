-- `instants::civil` meets its contract: three slots, or 18.
use native.Mathlib.Omega.{arith}
use mathlib.Core.Path.{◌∙◌}
use lib.ListN.{length-set}
use mir.Syntax.{w32}
use mir.ValLaws.{to_z-of_z}
use Rattle.instants.proofs.AnswerLaws.{month-fits, day-fits, civil-short, civil-stored}
use borrow.Author.Rules.{rules}
use Rattle.instants.proofs.civil.Goals as goal

pub returns-then-slots-lt3 : goal.returns-then-slots-lt3
returns-then-slots-lt3 c =
    let a = c.args in
    let all = civil-short a.date _ a.slots.now c.if-slots-lt3.true (to_z-of_z w32 c.negated.result (record { sfits = c.negated.type_inv }) ∙ c.negated.ensures) in
    record { answer = all.0; contents = all.1 }

pub overflow_cast-slots : goal.overflow_cast-slots
overflow_cast-slots c =
    let m = month-fits c.civil_of-c.result c.args.date c.ranges.date c.civil_of-c.ensures in
    let d = day-fits c.civil_of-c.result c.args.date c.ranges.date c.civil_of-c.ensures in
    record { sfits = omega (arith, m.sfits, d.sfits) }

pub overflow_cast-slots-2 : goal.overflow_cast-slots-2
overflow_cast-slots-2 c =
    let m = month-fits c.civil_of-c.result c.args.date c.ranges.date c.civil_of-c.ensures in
    let d = day-fits c.civil_of-c.result c.args.date c.ranges.date c.civil_of-c.ensures in
    record { sfits = omega (arith, m.sfits, d.sfits) }

pub bounds-slots-1 : goal.bounds-slots-1
bounds-slots-1 c = rw length-set (omega (arith, c.if-slots-lt3.false))

pub bounds-slots-2 : goal.bounds-slots-2
bounds-slots-2 c = rw (length-set, length-set) (omega (arith, c.if-slots-lt3.false))

pub returns : goal.returns
returns c = let all = civil-stored c.civil_of-c.result c.args.date c.args.slots.now c.ranges.date (record { sfits = search rules }) c.civil_of-c.ensures c.if-slots-lt3.false in
    record { answer = all.0; contents = all.1 }
