-- `calendar::add_over` meets its contract: the law over the unit. Assumes nothing.
use mathlib.Core.Path.{sym, ap, ◌∙◌, subst}
use Prim.Native.Nat.{ℕ, ◌+◌, ◌*◌, ◌/◌, ◌%◌, ◌<◌, ◌≤◌, ◌^◌}
use native.Mathlib.Nat.{div-le_self, mod-lt}
use Rattle.gregorian.specs.declared.Counted.{Counted}
use Rattle.gregorian.specs.Counted.{Within, number_of, day_with, months_on}
use Rattle.gregorian.proofs.Laws.{date-within}
use Rattle.gregorian.proofs.Fast.{months-within}
use Rattle.gregorian.proofs.Over.{product_small, date-year, later-year, later-number, over}
use native.Mathlib.Omega.{arith}
use mir.Syntax.{w64}
use mir.Val.{Fits}
use Rattle.gregorian.proofs.add_over.Goals as goal

sum : (r q : ℕ) → r < 86400000000000 → q ≤ 2 ^ 32 * 1000000 → Fits w64 (r + q)
sum r q h k = omega arith

pub months_on-c-requires : goal.months_on-c-requires
months_on-c-requires c =
    subst (λ (d : Counted). Within d × (d.year < 2 ^ 39)) (sym c.day_with.ensures)
    (date-within c.args.s.day, date-year c.args.s.day c.args.months c.requires.3 c.ranges.months.fits)

pub number_of-requires : goal.number_of-requires
number_of-requires c =
    let e = c.months_on-c.ensures ∙ ap (λ (d : Counted). months_on d c.args.months) c.day_with.ensures in
    subst (λ (d : Counted). Within d × (d.year < 2 ^ 40)) (sym e)
    (months-within (day_with c.args.s.day) c.args.months (date-within c.args.s.day), omega (arith, later-year c.args.s.day c.args.months c.requires.3 c.ranges.months.fits))

pub overflow_add-n : goal.overflow_add-n
overflow_add-n c =
    let e = c.number_of.ensures ∙ ap number_of (c.months_on-c.ensures ∙ ap (λ (d : Counted). months_on d c.args.months) c.day_with.ensures) in
    omega (arith, e, later-number c.args.s.day c.args.months c.requires.3 c.ranges.months.fits, c.ranges.days.fits)

pub overflow_mul-t : goal.overflow_mul-t
overflow_mul-t c =
    omega (arith, product_small c.args.millis c.args.p c.ranges.millis.fits c.requires.2)

pub overflow_add-t : goal.overflow_add-t
overflow_add-t c =
    let r : c.args.s.rest < 86400000000000 = omega (arith, c.requires.1, c.requires.4) in
    sum c.args.s.rest (c.args.millis * c.args.p) r (product_small c.args.millis c.args.p c.ranges.millis.fits c.requires.2)

pub overflow_add-result : goal.overflow_add-result
overflow_add-result c =
    let e = c.number_of.ensures ∙ ap number_of (c.months_on-c.ensures ∙ ap (λ (d : Counted). months_on d c.args.months) c.day_with.ensures) in
    let t = c.args.s.rest + c.args.millis * c.args.p in
    omega (arith, e, later-number c.args.s.day c.args.months c.requires.3 c.ranges.months.fits, c.ranges.days.fits, div-le_self t c.args.u, c.requires.1, c.requires.4, product_small c.args.millis c.args.p c.ranges.millis.fits c.requires.2)

pub returns : goal.returns
returns c =
    let e = c.number_of.ensures ∙ ap number_of (c.months_on-c.ensures ∙ ap (λ (d : Counted). months_on d c.args.months) c.day_with.ensures) in
    let u = c.args.u in
    let t = c.args.s.rest + c.args.millis * c.args.p in
    (ap (λ (n : ℕ). (n + c.args.days + t / u) * u + t % u) e ∙ over u c.args.p c.args.s.day c.args.s.rest c.args.months c.args.days c.args.millis c.requires.4, omega (arith, e, later-number c.args.s.day c.args.months c.requires.3 c.ranges.months.fits, c.ranges.days.fits, div-le_self t u, c.requires.1, c.requires.4, product_small c.args.millis c.args.p c.ranges.millis.fits c.requires.2), mod-lt t c.requires.0)
