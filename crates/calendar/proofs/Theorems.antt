-- The calendar's theorems, over the definitions of Calendar.antt and Instants.antt: each sentence of docs/RULES.md, "Dates and instants", that the definitions compute.
use Prim.Native.Nat.{ℕ, ◌+◌, ◌-◌, ◌*◌, ◌/◌, ◌%◌, ◌^◌, ◌≤◌, ◌<◌}
use mathlib.Core.Path.{◌≡◌, refl, ap, sym, ◌∙◌, subst}
use mathlib.Core.Bool.{Bool, true, false, ◌&&◌}
use native.Mathlib.Nat.{div-add-mod', mod-lt, add-zero, zero-mul}
use native.Mathlib.Numerals.{add-one}
use native.Mathlib.Omega.{arith}
use lib.Arith.{digits_div, digits_mod}
use lib.Dec.{T, leb, leb→le}
use lib.IntN.{ℤ, pos, sub_ℕ, suc_ℤ, ◌+ℤ◌, ◌*ℤ◌}
use lib.Signed.{mag, le_z, lt_z, ◌≤ℤ◌, ◌<ℤ◌, le_z_yes, lt_z_yes, <ℤ-≤ℤ_trans, clash_ℤ}
use lib.Ieee.Fits.{and_l, and_r}
use Rattle.base.specs.Base.{when◌then◌else◌, within, ok, stop}
use Rattle.gregorian.specs.declared.Counted.{Counted}
use Rattle.gregorian.specs.Rules.{month_length}
use Rattle.gregorian.specs.Counted.{leap_at, counted, Within, number_of, following, day_with, months_on, months_after, all_after}
use Rattle.gregorian.proofs.Laws.{follows, date-within, day-date, date-day}
use Rattle.gregorian.proofs.Fast.{months-within}
use Rattle.gregorian.proofs.Later.{no-months-on}
use Rattle.scalar.specs.Scalars.{kind_of}
use Rattle.scalar.specs.declared.Scalar.{Scalar}
use Rattle.calendar.specs.declared.Civil.{Civil}
use Rattle.calendar.specs.Calendar.{leap, civil, in_calendar, day_number, next, civil_of, add_months}
use Rattle.calendar.specs.Instants.{in_range, ranged, date_of, floor, part, after_months, added, is_instant, number_in, window_holds}
use Rattle.calendar.specs.Origin.{year_zero, epoch, counted_from, shown}
use Rattle.calendar.proofs.Whole.{sub-suc, sub-add, sub-mul}
use Rattle.calendar.proofs.Bits.{range-in, ranged-in}
use Rattle.calendar.proofs.Shift.{leap-shown, day-shown, next-shown, date-shown, months-shown, with-suc}
use Rattle.calendar.proofs.Unit.{floor-shown, part-shown, months-shown-after, added-shown}
use Rattle.calendar.proofs.EntryLaws.{counted_is, counted-<, counted-≥, in-calendar, same-kinds}

-- ---- a day of the calendar is a counted one, shown
abbrev count : Civil → Counted
count c = counted (counted_from year_zero c.year) c.month c.day

module _ (c : Civil) (f : mag c.year < year_zero) where
  count-shown : shown (count c) ≡ c
  count-shown = ap (λ (y : ℤ). civil y c.month c.day) (sym (counted_is year_zero year_zero (omega arith) c.year f))

  count-leap : leap c.year ≡ leap_at (counted_from year_zero c.year)
  count-leap = ap leap (counted_is year_zero year_zero (omega arith) c.year f) ∙ leap-shown (counted_from year_zero c.year)

  count-within : T (in_calendar c) → Within (count c)
  unfolding in_calendar
  count-within h =
      let m = c.month in
      let d = c.day in
      let l = month_length (leap c.year) m in
      let a = and_l (within 1 12 m) (within 1 l d) h in
      let b = and_r (within 1 12 m) (within 1 l d) h in
      record {
        month-≥ = leb→le 1 m (and_l (leb 1 m) (leb m 12) a);
        month-≤ = leb→le m 12 (and_r (leb 1 m) (leb m 12) a);
        day-≥ = leb→le 1 d (and_l (leb 1 d) (leb d l) b);
        day-≤ = subst (λ (t : Bool). d ≤ month_length t m) count-leap (leb→le d l (and_r (leb 1 d) (leb d l) b));
      }

-- ---- the number of a day and the day with a number are inverse, on all of Date and far past it
pub day_number-civil_of : (z : ℤ) → mag z < epoch → day_number (civil_of z) ≡ z
day_number-civil_of z f =
    let n = counted_from epoch z in
    let e : z ≡ sub_ℕ n epoch = counted_is epoch epoch (omega arith) z f in
    ap (λ (x : ℤ). day_number (civil_of x)) e
    ∙ ap day_number (date-shown n)
    ∙ day-shown (day_with n)
    ∙ ap (λ (k : ℕ). sub_ℕ k epoch) (day-date n)
    ∙ sym e

pub civil_of-day_number : (c : Civil) → mag c.year < year_zero → T (in_calendar c) → civil_of (day_number c) ≡ c
civil_of-day_number c f h =
    ap (λ (x : Civil). civil_of (day_number x)) (sym (count-shown c f))
    ∙ ap civil_of (day-shown (count c))
    ∙ date-shown (number_of (count c))
    ∙ ap shown (date-day (count c) (count-within c f h))
    ∙ count-shown c f

pub civil_of-in_calendar : (z : ℤ) → mag z < epoch → in_calendar (civil_of z) ≡ true
civil_of-in_calendar z f =
    let n = counted_from epoch z in
    ap (λ (x : ℤ). in_calendar (civil_of x)) (counted_is epoch epoch (omega arith) z f) ∙ ap in_calendar (date-shown n) ∙ in-calendar (day_with n) (date-within n)

-- every Date is the Date of its day
pub date_of-civil_of : (z : ℤ) → mag z < 2 ^ 31 → date_of (civil_of z) ≡ ok z
unfolding date_of
date_of-civil_of z f =
    ap (λ (t : Bool). when t then ranged (2 ^ 31) (day_number (civil_of z)) else stop 27) (civil_of-in_calendar z (omega arith))
    ∙ ap (ranged (2 ^ 31)) (day_number-civil_of z (omega arith))
    ∙ ranged-in (2 ^ 31) z (in-range z f)
  where
    in-range : (z : ℤ) → mag z < 2 ^ 31 → in_range (2 ^ 31) z ≡ true
    in-range z f = ap (in_range (2 ^ 31)) (counted_is (2 ^ 31) (2 ^ 31) (omega arith) z f) ∙ range-in (2 ^ 31) (counted_from (2 ^ 31) z) (2 ^ 31) (counted-≥ (2 ^ 31) (2 ^ 31) (omega arith) z f) (counted-< (2 ^ 31) (2 ^ 31) (omega arith) z f)

-- and every day that has a Date is the day of that Date
dated : (c : Civil) (z : ℤ) → date_of c ≡ ok z → T (in_calendar c) × (day_number c ≡ z)
unfolding date_of ranged
dated c z e = go (in_calendar c) (in_range (2 ^ 31) (day_number c)) refl e
  where
    go : (a b : Bool) → in_calendar c ≡ a → (when a then (when b then ok (day_number c) else stop 27) else stop 27) ≡ ok z → T (in_calendar c) × (day_number c ≡ z)
    go true true p h = (subst T (sym p) tt, cc)
    go true false p h = let x : ◌≡◌ {A = ℕ} 0 1 = cc in absurd (omega arith)
    go false b p h = let x : ◌≡◌ {A = ℕ} 0 1 = cc in absurd (omega arith)

pub civil_of-date_of : (c : Civil) (z : ℤ) → mag c.year < year_zero → date_of c ≡ ok z → civil_of z ≡ c
civil_of-date_of c z f e = let d = dated c z e in ap civil_of (sym d.1) ∙ civil_of-day_number c f d.0

-- ---- the next day is the next day
pub next-number : (z : ℤ) → mag z < epoch → civil_of (suc_ℤ z) ≡ next (civil_of z)
next-number z f =
    let n = counted_from epoch z in
    let e : z ≡ sub_ℕ n epoch = counted_is epoch epoch (omega arith) z f in
    ap (λ (x : ℤ). civil_of (suc_ℤ x)) e
    ∙ ap civil_of (sub-suc n epoch)
    ∙ date-shown (n + 1)
    ∙ ap (λ (k : ℕ). shown (day_with k)) (add-one n)
    ∙ ap shown (sym (with-suc n))
    ∙ sym (next-shown (day_with n))
    ∙ ap next (sym (date-shown n))
    ∙ ap (λ (x : ℤ). next (civil_of x)) (sym e)

pub next-day-number : (c : Civil) → mag c.year < year_zero → T (in_calendar c) → day_number (next c) ≡ suc_ℤ (day_number c)
next-day-number c f h =
    let d = count c in
    ap (λ (x : Civil). day_number (next x)) (sym (count-shown c f))
    ∙ ap day_number (next-shown d)
    ∙ day-shown (following d)
    ∙ ap (λ (k : ℕ). sub_ℕ k epoch) (follows d (count-within c f h)).number
    ∙ sym (sub-suc (number_of d) epoch)
    ∙ ap suc_ℤ (sym (day-shown d))
    ∙ ap (λ (x : Civil). suc_ℤ (day_number x)) (count-shown c f)

-- ---- months: the outcome is in the calendar
pub months-in_calendar : (c : Civil) (k : ℕ) → mag c.year < year_zero → T (in_calendar c) → in_calendar (add_months c k) ≡ true
months-in_calendar c k f h =
    ap (λ (x : Civil). in_calendar (add_months x k)) (sym (count-shown c f))
    ∙ ap in_calendar (months-shown (count c) k)
    ∙ in-calendar (months_on (count c) k) (months-within (count c) k (count-within c f h))

-- it is so many months on, with all months counted in a row
pub months-counted : (c : Civil) (k : ℕ) → mag c.year < year_zero → let r = add_months c k in r.year *ℤ pos 12 +ℤ pos (r.month - 1) ≡ c.year *ℤ pos 12 +ℤ pos (c.month - 1 + k)
unfolding add_months
months-counted c k f =
    let y = counted_from year_zero c.year in
    let t = c.month - 1 + k in
    let w = year_zero * 12 in
    let e : c.year ≡ sub_ℕ y year_zero = counted_is year_zero year_zero (omega arith) c.year f in
    let m : t % 12 + 1 - 1 ≡ t % 12 = omega arith in
    let n : (y + t / 12) * 12 + t % 12 ≡ y * 12 + t = omega arith in
    ap (λ (x : ℤ). (x +ℤ pos (t / 12)) *ℤ pos 12 +ℤ pos (t % 12 + 1 - 1)) e
    ∙ ap (λ (x : ℤ). x *ℤ pos 12 +ℤ pos (t % 12 + 1 - 1)) (sub-add y year_zero (t / 12))
    ∙ ap (λ (j : ℕ). sub_ℕ (y + t / 12) year_zero *ℤ pos 12 +ℤ pos j) m
    ∙ ap (λ (x : ℤ). x +ℤ pos (t % 12)) (sub-mul (y + t / 12) year_zero 12 (omega arith))
    ∙ sub-add ((y + t / 12) * 12) w (t % 12)
    ∙ ap (λ (j : ℕ). sub_ℕ j w) n
    ∙ sym (ap (λ (x : ℤ). x *ℤ pos 12 +ℤ pos t) e ∙ ap (λ (x : ℤ). x +ℤ pos t) (sub-mul y year_zero 12 (omega arith)) ∙ sub-add (y * 12) w t)

-- a day that the month has is kept, and one past its end becomes its last
pub months-kept : (c : Civil) (k : ℕ) → let r = add_months c k in c.day ≤ month_length (leap r.year) r.month → r.day ≡ c.day
unfolding add_months
months-kept c k h = omega arith

pub months-clamped : (c : Civil) (k : ℕ) → let r = add_months c k in month_length (leap r.year) r.month < c.day → r.day ≡ month_length (leap r.year) r.month
unfolding add_months
months-clamped c k h = omega arith

-- ---- the addition over the unit: the steps on the way refuse nothing that the outcome would not
module _ (u p h : ℕ) (z : ℤ) (up : 0 < u) (room : h ≤ epoch * u) (f : mag z < h) where
  whole : ℕ
  whole = counted_from (epoch * u) z

  whole_is : z ≡ sub_ℕ whole (epoch * u)
  unfolding whole
  whole_is = counted_is (epoch * u) h room z f

  whole-≥ : epoch * u ≤ whole + h
  unfolding whole
  whole-≥ = counted-≥ (epoch * u) h room z f

  whole-< : whole < epoch * u + h
  unfolding whole
  whole-< = counted-< (epoch * u) h room z f

  after-shown : (k : ℕ) → after_months u z k ≡ sub_ℕ (months_after u whole k) (epoch * u)
  after-shown k = ap (λ (x : ℤ). after_months u x k) whole_is ∙ months-shown-after u whole up k

  pub outcome-decides : (months days millis : ℕ) → added u p h z months days millis ≡ ranged h (after_months u z months +ℤ pos (days * u) +ℤ pos (millis * p))
  unfolding all_after
  outcome-decides months days millis =
      let w = epoch * u in
      let a = months_after u whole months in
      let e : after_months u z months +ℤ pos (days * u) +ℤ pos (millis * p) ≡ sub_ℕ (all_after u p whole months days millis) w = ap (λ (x : ℤ). x +ℤ pos (days * u) +ℤ pos (millis * p)) (after-shown months)
      ∙ ap (λ (x : ℤ). x +ℤ pos (millis * p)) (sub-add a w (days * u))
      ∙ sub-add (a + days * u) w (millis * p) in
      ap (λ (x : ℤ). added u p h x months days millis) whole_is
      ∙ added-shown u p h whole months days millis up whole-≥
      ∙ ap (ranged h) (sym e)

  -- months keep the part of the day, and move the day as the calendar says
  pub months-part : (k : ℕ) → part (after_months u z k) u ≡ part z u
  unfolding months_after
  months-part k =
      ap (λ (x : ℤ). part x u) (after-shown k)
      ∙ part-shown u (months_after u whole k) epoch up
      ∙ digits_mod (number_of (months_on (day_with (whole / u)) k)) (mod-lt whole up)
      ∙ sym (ap (λ (x : ℤ). part x u) whole_is ∙ part-shown u whole epoch up)

  pub months-day : (k : ℕ) → floor (after_months u z k) u ≡ day_number (add_months (civil_of (floor z u)) k)
  unfolding months_after
  months-day k =
      let n = whole / u in
      ap (λ (x : ℤ). floor x u) (after-shown k)
      ∙ floor-shown u (months_after u whole k) epoch up
      ∙ ap (λ (j : ℕ). sub_ℕ j epoch) (digits_div (number_of (months_on (day_with n) k)) (mod-lt whole up))
      ∙ sym (ap (λ (x : ℤ). day_number (add_months (civil_of x) k)) (ap (λ (x : ℤ). floor x u) whole_is ∙ floor-shown u whole epoch up)
      ∙ ap (λ (x : Civil). day_number (add_months x k)) (date-shown n)
      ∙ ap day_number (months-shown (day_with n) k)
      ∙ day-shown (months_on (day_with n) k))

  -- without months an instant is moved by its days and milliseconds alone, and by nothing where there are none
  whole-none : months_after u whole 0 ≡ whole
  unfolding months_after
  whole-none =
      ap (λ (n : ℕ). n * u + whole % u) (ap number_of (no-months-on (day_with (whole / u)) (date-within (whole / u))) ∙ day-date (whole / u))
      ∙ div-add-mod' whole u

  pub months-none : after_months u z 0 ≡ z
  months-none = after-shown 0 ∙ ap (λ (n : ℕ). sub_ℕ n (epoch * u)) whole-none ∙ sym whole_is

  pub nothing-added : added u p h z 0 0 0 ≡ ok z
  nothing-added =
      outcome-decides 0 0 0
      ∙ ap (λ (x : ℤ). ranged h (x +ℤ pos (0 * u) +ℤ pos (0 * p))) (months-none ∙ whole_is)
      ∙ ap (λ (n : ℕ). ranged h (sub_ℕ whole (epoch * u) +ℤ pos n +ℤ pos (0 * p))) (zero-mul u)
      ∙ ap (λ (n : ℕ). ranged h (sub_ℕ whole (epoch * u) +ℤ pos 0 +ℤ pos n)) (zero-mul p)
      ∙ ap (λ (x : ℤ). ranged h (x +ℤ pos 0)) (sub-add whole (epoch * u) 0)
      ∙ ap (ranged h) (sub-add (whole + 0) (epoch * u) 0)
      ∙ ap (λ (n : ℕ). ranged h (sub_ℕ n (epoch * u))) (add-zero (whole + 0) ∙ add-zero whole)
      ∙ ranged-in h (sub_ℕ whole (epoch * u)) (range-in h whole (epoch * u) whole-≥ whole-<)
      ∙ ap ok (sym whole_is)

  -- an instant is its day's units and its part of the day, which is less than a day
  pub floor-law : floor z u *ℤ pos u +ℤ pos (part z u) ≡ z
  floor-law =
      let w = epoch * u in
      ap (λ (x : ℤ). floor x u *ℤ pos u +ℤ pos (part x u)) whole_is
      ∙ ap (λ (x : ℤ). x *ℤ pos u +ℤ pos (part (sub_ℕ whole w) u)) (floor-shown u whole epoch up)
      ∙ ap (λ (r : ℕ). sub_ℕ (whole / u) epoch *ℤ pos u +ℤ pos r) (part-shown u whole epoch up)
      ∙ ap (λ (x : ℤ). x +ℤ pos (whole % u)) (sub-mul (whole / u) epoch u up)
      ∙ sub-add (whole / u * u) w (whole % u)
      ∙ ap (λ (k : ℕ). sub_ℕ k w) (div-add-mod' whole u)
      ∙ sym whole_is

  pub part-< : part z u < u
  part-< = subst (λ (r : ℕ). r < u) (sym (ap (λ (x : ℤ). part x u) whole_is ∙ part-shown u whole epoch up)) (mod-lt whole up)

-- ---- windows: of one kind, from the opening instant to before the closing one
module _ (o c m : Scalar) (instant : is_instant (kind_of o) ≡ true) (same-close : kind_of c ≡ kind_of o) (same-instant : kind_of m ≡ kind_of o) where
  window : window_holds o c m ≡ ok (le_z (number_in o) (number_in m) && lt_z (number_in m) (number_in c))
  window = same-kinds o c m instant same-close same-instant

  pub window-holds : number_in o ≤ℤ number_in m → number_in m <ℤ number_in c → window_holds o c m ≡ ok true
  window-holds p q = window ∙ ap ok (go (le_z (number_in o) (number_in m)) (lt_z (number_in m) (number_in c)) p.le q.lt)
    where
      go : (a b : Bool) → T a → T b → a && b ≡ true
      go true true p q = refl
      go true false p q = absurd q
      go false b p q = absurd p

  pub window-held : window_holds o c m ≡ ok true → (number_in o ≤ℤ number_in m) × (number_in m <ℤ number_in c)
  window-held e = go (le_z (number_in o) (number_in m)) (lt_z (number_in m) (number_in c)) refl refl (sym window ∙ e)
    where
      go : (a b : Bool) → le_z (number_in o) (number_in m) ≡ a → lt_z (number_in m) (number_in c) ≡ b → ok (a && b) ≡ ok true → (number_in o ≤ℤ number_in m) × (number_in m <ℤ number_in c)
      go true true p q h = (le_z_yes (subst T (sym p) tt), lt_z_yes (subst T (sym q) tt))
      go true false p q h = absurd (subst T (let x : false ≡ true = cc in sym x) tt)
      go false b p q h = absurd (subst T (let x : false ≡ true = cc in sym x) tt)

  -- one that closes at or before its opening holds nothing
  pub window-empty : number_in c ≤ℤ number_in o → window_holds o c m ≡ ok false
  window-empty h = window ∙ ap ok (go (le_z (number_in o) (number_in m)) (lt_z (number_in m) (number_in c)) refl refl)
    where
      go : (a b : Bool) → le_z (number_in o) (number_in m) ≡ a → lt_z (number_in m) (number_in c) ≡ b → a && b ≡ false
      go true true p q = clash_ℤ {a = number_in m} {b = number_in o} (<ℤ-≤ℤ_trans {a = number_in m} {b = number_in c} {c = number_in o} (lt_z_yes (subst T (sym q) tt)) h) (le_z_yes (subst T (sym p) tt))
      go true false p q = refl
      go false b p q = refl
