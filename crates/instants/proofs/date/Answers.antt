-- `instants::date` meets its contract: one slot, or 27 and then 18.
use mathlib.Core.Path.{sym, ◌∙◌}
use mir.Syntax.{w32}
use mir.ValLaws.{to_z-of_z}
use Rattle.instants.proofs.AnswerLaws.{date_in-same, date-refused, date-short, date-put}
use borrow.Author.Rules.{rules}
use Rattle.instants.proofs.date.Goals as goal

pub returns-then-is_empty : goal.returns-then-is_empty
returns-then-is_empty c =
    let a = c.args in
    let e = sym (c.in-Ok.ensures ∙ date_in-same a.year a.month a.day c.ranges.year c.ranges.month c.ranges.day) in
    let all = date-short a.year a.month a.day a.slots.now _ _ e (search rules) (to_z-of_z w32 c.negated.result (record { sfits = c.negated.type_inv }) ∙ c.negated.ensures) in
    record { answer = all.0; contents = all.1 }

pub returns-else-is_empty : goal.returns-else-is_empty
returns-else-is_empty c =
    let a = c.args in
    let e = sym (c.in-Ok.ensures ∙ date_in-same a.year a.month a.day c.ranges.year c.ranges.month c.ranges.day) in
    let all = date-put a.year a.month a.day a.slots.now _ _ e (search rules) (to_z-of_z w32 c.in-Ok.z (record { sfits = search rules })) in
    record { answer = all.0; contents = all.1 }

pub returns-in-Err : goal.returns-in-Err
returns-in-Err c =
    let a = c.args in
    let e = sym (c.in-Err.ensures ∙ date_in-same a.year a.month a.day c.ranges.year c.ranges.month c.ranges.day) in
    let all = date-refused a.year a.month a.day a.slots.now _ _ e (to_z-of_z w32 c.negated-in-Err.result (record { sfits = c.negated-in-Err.type_inv }) ∙ c.negated-in-Err.ensures) in
    record { answer = all.0; contents = all.1 }
