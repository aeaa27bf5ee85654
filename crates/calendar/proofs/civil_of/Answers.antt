-- `calendar::civil_of` meets its contract: the counted day, shown. Assumes nothing.
use mathlib.Core.Path.{sym, ap, ◌∙◌, subst}
use Prim.Native.Nat.{ℕ, ◌+◌, ◌≤◌, ◌<◌, ◌^◌}
use lib.IntN.{sub_ℕ}
use mir.Syntax.{w32}
use mir.ValLaws.{to_z-of_z}
use Rattle.gregorian.specs.declared.Counted.{Counted}
use Rattle.gregorian.specs.Counted.{leap_at, Within}
use Rattle.calendar.specs.Origin.{epoch, year_zero, counted_from}
use Rattle.gregorian.proofs.Laws.{month_length-≤, date-within}
use Rattle.calendar.proofs.EntryLaws.{counted_is, counted-<, counted-≥, year-≥, year-<, date-public}
use native.Mathlib.Omega.{arith}
use Rattle.calendar.proofs.civil_of.Goals as goal

pub day_with-c-requires : goal.day_with-c-requires
day_with-c-requires c =
    let f = c.ranges.date.sfits in
    let e = c.from_i32.ensures ∙ ap (counted_from epoch) (to_z-of_z w32 c.args.date c.ranges.date) in
    omega (arith, e, counted-< epoch (2 ^ 31) (omega arith) c.args.date f)

pub to_i32-requires : goal.to_i32-requires
to_i32-requires c =
    let f = c.ranges.date.sfits in
    let e = c.from_i32.ensures ∙ ap (counted_from epoch) (to_z-of_z w32 c.args.date c.ranges.date) in
    let n = c.from_i32.result in
    let lo : epoch ≤ n + 0x8000_0000 = omega (arith, e, counted-≥ epoch (2 ^ 31) (omega arith) c.args.date f) in
    let hi : n < epoch + 0x8000_0000 = omega (arith, e, counted-< epoch (2 ^ 31) (omega arith) c.args.date f) in
    subst (λ (d : Counted). (year_zero ≤ d.year + 0x8000_0000) × (d.year < year_zero + 0x8000_0000)) (sym c.day_with-c.ensures) (year-≥ n lo, year-< n hi)

pub overflow_cast-result : goal.overflow_cast-result
overflow_cast-result c =
    let w = subst (λ (d : Counted). Within d) (sym c.day_with-c.ensures) (date-within c.from_i32.result) in
    omega (arith, w.month-≤)

pub overflow_cast-result-2 : goal.overflow_cast-result-2
overflow_cast-result-2 c =
    let d = c.day_with-c.result in
    let w = subst (λ (d : Counted). Within d) (sym c.day_with-c.ensures) (date-within c.from_i32.result) in
    omega (arith, w.day-≤, month_length-≤ (leap_at d.year) d.month)

pub returns : goal.returns
returns c =
    let f = c.ranges.date.sfits in
    let e = c.from_i32.ensures ∙ ap (counted_from epoch) (to_z-of_z w32 c.args.date c.ranges.date) in
    let r = c.to_i32 in
    date-public c.from_i32.result _ c.args.date c.day_with-c.result
    (counted_is epoch (2 ^ 31) (omega arith) c.args.date f ∙ ap (λ (n : ℕ). sub_ℕ n epoch) (sym e))
    c.day_with-c.ensures
    (to_z-of_z w32 r.result (record { sfits = r.type_inv }) ∙ r.ensures)
