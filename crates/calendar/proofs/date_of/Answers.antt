-- `calendar::date_of` meets its contract: the counted day, shown. Assumes nothing.
use Rattle.std.proofs.Common.{◌≡◌, ◌<◌, ◌^◌, ◌&&◌, Bool, rules, sym, ap, ◌∙◌, arith, w32}
use mir.ValLaws.{to_z-of_z}
use lib.Signed.{mag}
use mathlib.Core.Bool.{and-false}
use Rattle.base.specs.Base.{within}
use Rattle.gregorian.specs.Rules.{month_length}
use Rattle.gregorian.specs.Counted.{leap_at, counted}
use Rattle.gregorian.proofs.Fast.{number_small}
use Rattle.calendar.specs.Calendar.{in_calendar, leap}
use Rattle.calendar.specs.Origin.{year_zero, counted_from}
use Rattle.calendar.proofs.EntryLaws.{counted-<, no-date, there, leap-counted, date-counted, cmp-within}
use Rattle.calendar.proofs.date_of.Goals as goal

pub returns-then-not-contains : goal.returns-then-not-contains
unfolding in_calendar
returns-then-not-contains c =
    let n = c.new.ensures in
    let v = c.args.civil in
    let h : within 1 12 v.month ≡ c.contains.result = sym (c.contains.ensures.value ∙ rw (n.start, n.end, n.exhausted) (cmp-within 1 12 v.month)) in
    no-date v (ap (λ (t : Bool). t && within 1 (month_length (leap v.year) v.month) v.day) (h ∙ c.if-not-contains.true))

pub returns-then-not-contains-2 : goal.returns-then-not-contains-2
unfolding in_calendar
returns-then-not-contains-2 c =
    let v = c.args.civil in
    let f : mag v.year < 2 ^ 31 = search rules in
    let e = c.from_i32-y.ensures ∙ ap (counted_from year_zero) (to_z-of_z w32 v.year (record { sfits = f })) in
    let l = c.month_length-last.ensures ∙ ap (λ (t : Bool). month_length t v.month) c.is_leap.ensures in
    let n2 = c.new-2.ensures in
    let d : within 1 (month_length (leap_at c.from_i32-y.result) v.month) v.day ≡ c.contains-2.result = sym (c.contains-2.ensures.value ∙ rw (n2.start, n2.end, n2.exhausted, l) (cmp-within 1 _ v.day)) in
    let y : leap v.year ≡ leap_at c.from_i32-y.result = leap-counted v.year f ∙ ap leap_at (sym e) in
    no-date v (ap (λ (t : Bool). within 1 12 v.month && within 1 (month_length t v.month) v.day) y ∙ ap (λ (t : Bool). within 1 12 v.month && t) (d ∙ c.if-not-contains-2.true) ∙ and-false (within 1 12 v.month))

pub number_of-requires : goal.number_of-requires
number_of-requires c =
    let v = c.args.civil in
    let f : mag v.year < 2 ^ 31 = search rules in
    let e = c.from_i32-y.ensures ∙ ap (counted_from year_zero) (to_z-of_z w32 v.year (record { sfits = f })) in
    let l = c.month_length-last.ensures ∙ ap (λ (t : Bool). month_length t v.month) c.is_leap.ensures in
    let n = c.new.ensures in
    let n2 = c.new-2.ensures in
    let m : within 1 12 v.month ≡ c.contains.result = sym (c.contains.ensures.value ∙ rw (n.start, n.end, n.exhausted) (cmp-within 1 12 v.month)) in
    let d : within 1 (month_length (leap_at c.from_i32-y.result) v.month) v.day ≡ c.contains-2.result = sym (c.contains-2.ensures.value ∙ rw (n2.start, n2.end, n2.exhausted, l) (cmp-within 1 _ v.day)) in
    let w = there c.from_i32-y.result v.month v.day (m ∙ c.if-not-contains.false) (d ∙ c.if-not-contains-2.false) in
    (w, omega (arith, e, counted-< year_zero (2 ^ 31) (omega arith) v.year f))

pub to_date-requires : goal.to_date-requires
to_date-requires c =
    let v = c.args.civil in
    let f : mag v.year < 2 ^ 31 = search rules in
    let e = c.from_i32-y.ensures ∙ ap (counted_from year_zero) (to_z-of_z w32 v.year (record { sfits = f })) in
    let l = c.month_length-last.ensures ∙ ap (λ (t : Bool). month_length t v.month) c.is_leap.ensures in
    let n = c.new.ensures in
    let n2 = c.new-2.ensures in
    let m : within 1 12 v.month ≡ c.contains.result = sym (c.contains.ensures.value ∙ rw (n.start, n.end, n.exhausted) (cmp-within 1 12 v.month)) in
    let d : within 1 (month_length (leap_at c.from_i32-y.result) v.month) v.day ≡ c.contains-2.result = sym (c.contains-2.ensures.value ∙ rw (n2.start, n2.end, n2.exhausted, l) (cmp-within 1 _ v.day)) in
    let w = there c.from_i32-y.result v.month v.day (m ∙ c.if-not-contains.false) (d ∙ c.if-not-contains-2.false) in
    omega (arith, c.number_of.ensures, number_small (counted c.from_i32-y.result v.month v.day) w, e, counted-< year_zero (2 ^ 31) (omega arith) v.year f)

pub returns : goal.returns
returns c =
    let v = c.args.civil in
    let f : mag v.year < 2 ^ 31 = search rules in
    let e = c.from_i32-y.ensures ∙ ap (counted_from year_zero) (to_z-of_z w32 v.year (record { sfits = f })) in
    let l = c.month_length-last.ensures ∙ ap (λ (t : Bool). month_length t v.month) c.is_leap.ensures in
    let n = c.new.ensures in
    let n2 = c.new-2.ensures in
    let m : within 1 12 v.month ≡ c.contains.result = sym (c.contains.ensures.value ∙ rw (n.start, n.end, n.exhausted) (cmp-within 1 12 v.month)) in
    let d : within 1 (month_length (leap_at c.from_i32-y.result) v.month) v.day ≡ c.contains-2.result = sym (c.contains-2.ensures.value ∙ rw (n2.start, n2.end, n2.exhausted, l) (cmp-within 1 _ v.day)) in
    let w = there c.from_i32-y.result v.month v.day (m ∙ c.if-not-contains.false) (d ∙ c.if-not-contains-2.false) in
    c.to_date.ensures ∙ date-counted v c.from_i32-y.result c.number_of.result f e w c.number_of.ensures
