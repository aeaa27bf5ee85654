-- What the entries' proofs cite: signed numbers counted from an origin and back, the days that the calendar lacks, and the answers by their parts.
use Prim.Native.Nat.{ℕ, ◌+◌, ◌*◌, ◌^◌, ◌≤◌, ◌<◌}
use mathlib.Core.Path.{◌≡◌, refl, ap, sym, ◌∙◌, subst}
use mathlib.Core.Bool.{Bool, true, false, ◌&&◌, and-false}
use native.Mathlib.Nat.{mul-le-mul}
use native.Mathlib.Omega.{arith}
use lib.Dec.{leb, eqb}
use lib.IntN.{ℤ, pos, negsuc, sub_ℕ}
use lib.Signed.{mag, le_z, lt_z}
use borrow.Author.Tests.{le-leb, lt-leb, eq-eqb, ne_eqb}
use Rattle.std.specs.Ordering.{nat_cmp, int_cmp, is_lt, is_le}
use Rattle.std.proofs.lemmas.Bool.Decides.{nat_tests}
use Rattle.std.proofs.lemmas.Int.{ints}
use Rattle.base.specs.Base.{when◌then◌else◌, within, Result, ok, stop, after}
use Rattle.gregorian.specs.declared.Counted.{Counted}
use Rattle.gregorian.specs.Rules.{month_length}
use Rattle.gregorian.specs.Counted.{leap_at, counted, Within, number_of, day_with, all_after}
use Rattle.gregorian.proofs.Laws.{month_length-≤, day-date, date-within}
use Rattle.gregorian.proofs.Fast.{year-small, number_small}
use Rattle.scalar.specs.Scalars.{kind_of}
use Rattle.scalar.specs.declared.Scalar.{Scalar}
use Rattle.calendar.specs.declared.Civil.{Civil}
use Rattle.calendar.specs.Calendar.{leap, civil, in_calendar, day_number, civil_of}
use Rattle.calendar.specs.Instants.{ranged, date_of, added, is_instant, number_in, window_holds}
use Rattle.calendar.specs.Origin.{year_zero, epoch, counted_from, shown}
use Rattle.calendar.proofs.Whole.{pos-sub, neg-sub}
use Rattle.calendar.proofs.Shift.{leap-shown, day-shown, date-shown}
use Rattle.calendar.proofs.Unit.{added-shown}

-- ---- a signed number, counted and back
module _ (k h : ℕ) (g : h ≤ k) where
  pub counted_is : (z : ℤ) → mag z < h → z ≡ sub_ℕ (counted_from k z) k
  unfolding counted_from
  counted_is (pos n) f = pos-sub k n
  counted_is (negsuc n) f = neg-sub k n (omega arith)

  pub counted-< : (z : ℤ) → mag z < h → counted_from k z < k + h
  unfolding counted_from
  counted-< (pos n) f = omega arith
  counted-< (negsuc n) f = omega arith

  pub counted-≥ : (z : ℤ) → mag z < h → k ≤ counted_from k z + h
  unfolding counted_from
  counted-≥ (pos n) f = omega arith
  counted-≥ (negsuc n) f = omega arith

-- ---- the day of a Date
pub year-≥ : (n : ℕ) → epoch ≤ n + 0x8000_0000 → year_zero ≤ (day_with n).year + 0x8000_0000
year-≥ n a = omega (arith, number_small (day_with n) (date-within n), day-date n)

pub year-< : (n : ℕ) → n < epoch + 0x8000_0000 → (day_with n).year < year_zero + 0x8000_0000
year-< n a = omega (arith, year-small n)

pub date-public : (n : ℕ) (y z : ℤ) (d : Counted) → z ≡ sub_ℕ n epoch → d ≡ day_with n → y ≡ sub_ℕ d.year year_zero → civil y d.month d.day ≡ civil_of z
date-public n y z d ez ed ey =
    ap (λ (x : ℤ). civil x d.month d.day) ey
    ∙ ap shown ed
    ∙ sym (ap civil_of ez ∙ date-shown n)

-- its month and its day are small
pub civil-small : (z : ℤ) → mag z < 2 ^ 31 → ((civil_of z).month ≤ 12) × ((civil_of z).day ≤ 31)
civil-small z f =
    let n = counted_from epoch z in
    let d = day_with n in
    let w = date-within n in
    subst (λ (c : Civil). (c.month ≤ 12) × (c.day ≤ 31)) (sym (ap civil_of (counted_is epoch (2 ^ 31) (omega arith) z f) ∙ date-shown n)) (w.month-≤, omega (arith, w.day-≤, month_length-≤ (leap_at d.year) d.month))

-- ---- days that the calendar lacks
-- and those that it has, with a year counted
within-is : (lo hi n : ℕ) → within lo hi n ≡ true → (lo ≤ n) × (n ≤ hi)
within-is lo hi n h = grind (arith, nat_tests)

pub there : (y m d : ℕ) → within 1 12 m ≡ true → within 1 (month_length (leap_at y) m) d ≡ true → Within (counted y m d)
there y m d a b =
    let p = within-is 1 12 m a in
    let q = within-is 1 (month_length (leap_at y) m) d b in
    record { month-≥ = p.0; month-≤ = p.1; day-≥ = q.0; day-≤ = q.1 }

-- a month past December
pub no-month-high : (c : Civil) → 12 < c.month → in_calendar c ≡ false
unfolding in_calendar
no-month-high c h =
    let e : within 1 12 c.month ≡ false = ap (λ (t : Bool). leb 1 c.month && t) (lt-leb c.month 12 h) ∙ and-false (leb 1 c.month) in
    ap (λ (t : Bool). t && within 1 (month_length (leap c.year) c.month) c.day) e

pub no-date : (c : Civil) → in_calendar c ≡ false → stop 27 ≡ date_of c
unfolding date_of
no-date c e = ap (λ (t : Bool). when t then ranged (2 ^ 31) (day_number c) else stop 27) (sym e)

pub in-calendar : (c : Counted) → Within c → in_calendar (shown c) ≡ true
unfolding in_calendar
in-calendar c w =
    ap (λ (l : Bool). within 1 12 c.month && within 1 (month_length l c.month) c.day) (leap-shown c.year)
    ∙ rw (le-leb 1 c.month w.month-≥, le-leb c.month 12 w.month-≤, le-leb 1 c.day w.day-≥, le-leb c.day (month_length (leap_at c.year) c.month) w.day-≤) refl

-- the year of a Civil, counted
pub shown-is : (c : Civil) → mag c.year < 2 ^ 31 → shown (counted (counted_from year_zero c.year) c.month c.day) ≡ c
shown-is c f = ap (λ (y : ℤ). civil y c.month c.day) (sym (counted_is year_zero (2 ^ 31) (omega arith) c.year f))

pub leap-counted : (z : ℤ) → mag z < 2 ^ 31 → leap z ≡ leap_at (counted_from year_zero z)
leap-counted z f = ap leap (counted_is year_zero (2 ^ 31) (omega arith) z f) ∙ leap-shown (counted_from year_zero z)

-- the Date of a day, by the counted day
pub date-counted : (c : Civil) (y n : ℕ) → mag c.year < 2 ^ 31 → y ≡ counted_from year_zero c.year → Within (counted y c.month c.day) → n ≡ number_of (counted y c.month c.day)
    → ranged (2 ^ 31) (sub_ℕ n epoch) ≡ date_of c
unfolding date_of
date-counted c y n f ey w en =
    let d = counted y c.month c.day in
    let s : shown d ≡ c = ap (λ (x : ℕ). shown (counted x c.month c.day)) ey ∙ shown-is c f in
    ap (λ (x : ℕ). ranged (2 ^ 31) (sub_ℕ x epoch)) en
    ∙ ap (ranged (2 ^ 31)) (sym (day-shown d))
    ∙ ap (λ (t : Bool). when t then ranged (2 ^ 31) (day_number (shown d)) else stop 27) (sym (in-calendar d w))
    ∙ ap date_of s

-- ---- a Duration added
pub date-sum : (z : ℤ) (n day rest months days : ℕ) → mag z < 2 ^ 31 → n ≡ counted_from epoch z → day * 1 + rest ≡ all_after 1 0 (n * 1 + 0) months days 0 → rest < 1
    → ranged (2 ^ 31) (sub_ℕ day epoch) ≡ added 1 0 (2 ^ 31) z months days 0
date-sum z n day rest months days f en er lr =
    let a : n * 1 + 0 ≡ n = omega arith in
    let t : n * 1 + 0 ≡ counted_from epoch z = a ∙ en in
    let d : day ≡ all_after 1 0 (counted_from epoch z) months days 0 = one day rest lr ∙ er ∙ ap (λ (x : ℕ). all_after 1 0 x months days 0) t in
    ap (λ (x : ℕ). ranged (2 ^ 31) (sub_ℕ x epoch)) d
    ∙ sym (added-shown 1 0 (2 ^ 31) (counted_from epoch z) months days 0 (omega arith) (counted-≥ epoch (2 ^ 31) (omega arith) z f))
    ∙ ap (λ (x : ℤ). added 1 0 (2 ^ 31) x months days 0) (sym (counted_is epoch (2 ^ 31) (omega arith) z f))
  where
    one : (d r : ℕ) → r < 1 → d ≡ d * 1 + r
    one d r h = omega arith

pub long-room : (u : ℕ) → 86400000 ≤ u → 2 ^ 63 ≤ epoch * u
long-room u g =
    let a : epoch * 86400000 ≤ epoch * u = mul-le-mul {n₁ = epoch} {m₁ = 86400000} {n₂ = epoch} {m₂ = u} (omega arith) g in
    omega arith

pub stamp-sum : (u p t f months days millis : ℕ) (z : ℤ) → 86400000 ≤ u → mag z < 2 ^ 63 → t ≡ counted_from (epoch * u) z → f ≡ all_after u p t months days millis
    → ranged (2 ^ 63) (sub_ℕ f (epoch * u)) ≡ added u p (2 ^ 63) z months days millis
stamp-sum u p t f months days millis z g h et ef =
    let w = epoch * u in
    let e : f ≡ all_after u p (counted_from w z) months days millis = ef ∙ ap (λ (x : ℕ). all_after u p x months days millis) et in
    ap (λ (x : ℕ). ranged (2 ^ 63) (sub_ℕ x w)) e
    ∙ sym (added-shown u p (2 ^ 63) (counted_from w z) months days millis (omega arith) (counted-≥ w (2 ^ 63) (long-room u g) z h))
    ∙ ap (λ (x : ℤ). added u p (2 ^ 63) x months days millis) (sym (counted_is w (2 ^ 63) (long-room u g) z h))

-- what an instant becomes, by the answer over the unit
module _ (f : ℤ → Scalar) (r : Result ℤ) where
  pub sum-on : (z : ℤ) → ok z ≡ r → ok (f z) ≡ after r (λ x. ok (f x))
  unfolding after
  sum-on z e = ap (λ (x : Result ℤ). after x (λ y. ok (f y))) e

  pub no-sum-on : (n : ℕ) → stop n ≡ r → stop n ≡ after r (λ x. ok (f x))
  unfolding after
  no-sum-on n e = ap (λ (x : Result ℤ). after x (λ y. ok (f y))) e

-- ---- windows
module _ (o c m : Scalar) where
  kinds : (a b e : Bool) → is_instant (kind_of o) ≡ a → eqb (kind_of c) (kind_of o) ≡ b → eqb (kind_of m) (kind_of o) ≡ e
      → window_holds o c m ≡ (when a && (b && e) then ok (le_z (number_in o) (number_in m) && lt_z (number_in m) (number_in c)) else stop 6)
  unfolding window_holds
  kinds a b e p q r = cc

  pub other-kind : is_instant (kind_of o) ≡ false → window_holds o c m ≡ stop 6
  other-kind h = kinds false (eqb (kind_of c) (kind_of o)) (eqb (kind_of m) (kind_of o)) h refl refl

  pub mixed-close : (kind_of c ≡ kind_of o → ⊥) → window_holds o c m ≡ stop 6
  mixed-close h = kinds (is_instant (kind_of o)) false (eqb (kind_of m) (kind_of o)) refl (ne_eqb (kind_of c) (kind_of o) h) refl ∙ ap (λ (t : Bool). when t then ok (le_z (number_in o) (number_in m) && lt_z (number_in m) (number_in c)) else stop 6) (and-false (is_instant (kind_of o)))

  pub mixed-instant : (kind_of m ≡ kind_of o → ⊥) → window_holds o c m ≡ stop 6
  mixed-instant h =
      kinds (is_instant (kind_of o)) (eqb (kind_of c) (kind_of o)) false refl refl (ne_eqb (kind_of m) (kind_of o) h)
      ∙ ap (λ (t : Bool). when is_instant (kind_of o) && t then ok (le_z (number_in o) (number_in m) && lt_z (number_in m) (number_in c)) else stop 6) (and-false (eqb (kind_of c) (kind_of o)))
      ∙ ap (λ (t : Bool). when t then ok (le_z (number_in o) (number_in m) && lt_z (number_in m) (number_in c)) else stop 6) (and-false (is_instant (kind_of o)))

  pub same-kinds : is_instant (kind_of o) ≡ true → kind_of c ≡ kind_of o → kind_of m ≡ kind_of o → window_holds o c m ≡ ok (le_z (number_in o) (number_in m) && lt_z (number_in m) (number_in c))
  same-kinds p q r = kinds true true true p (eq-eqb (kind_of c) (kind_of o) q) (eq-eqb (kind_of m) (kind_of o) r)

-- ---- std's comparisons
pub cmp-within : (lo hi n : ℕ) → is_le (nat_cmp lo n) && is_le (nat_cmp n hi) ≡ within lo hi n
cmp-within lo hi n = grind (arith, nat_tests)

pub cmp-lt : (a b : ℤ) → is_lt (int_cmp a b) ≡ lt_z a b
cmp-lt a b = grind (arith, ints)

pub cmp-le : (a b : ℤ) → is_le (int_cmp a b) ≡ le_z a b
cmp-le a b = grind (arith, ints)
