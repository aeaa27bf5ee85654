-- What the constant-time code needs: the rules by their tests, and how near the guesses are. Assumes nothing.
use Prim.Native.Nat.{ℕ, zero, suc, ◌+◌, ◌-◌, ◌*◌, ◌/◌, ◌%◌, ◌≤◌, ◌<◌, ◌^◌, min}
use mathlib.Core.Path.{◌≡◌, refl, ap, sym, ◌∙◌, subst}
use mathlib.Core.Bool.{Bool, true, false}
use native.Mathlib.Numerals.{add-one}
use native.Mathlib.Omega.{arith}
use lib.Dec.{T, eqb, ltb, leb, leb→le, eqb→eq}
use borrow.Author.Tests.{lt-ltb, le-ltb, ltb-true, ltb-false}
use Rattle.base.specs.Base.{when◌then◌else◌}
use Rattle.base.proofs.AllBelow.{all_below, all_below-lookup}
use Rattle.gregorian.specs.Rules.{year_length, month_length, month_start}
use Rattle.gregorian.specs.declared.Counted.{Counted}
use Rattle.gregorian.specs.Counted.{leap_at, years_to, counted, Within, number_of, day_with, months_on}
use Rattle.gregorian.proofs.Laws.{years, year_length-≥, year_length-≤, month_length-≥, month_length-≤, year-of-months, month-step, date-is, day-date}

-- ---- the start of a month in closed form, tested at each
unfoldable pub closed_start : Bool → ℕ → ℕ
closed_start l k = when ltb k 2 then (367 * k + 5) / 12 else (367 * k + 5) / 12 - (when l then 1 else 2)

months-tested : (l : Bool) → T (all_below 13 (λ k. eqb (closed_start l k) (month_start l k)))
unfolding all_below closed_start month_start month_length
months-tested true = tt
months-tested false = tt

pub months : (l : Bool) (k : ℕ) → k ≤ 12 → closed_start l k ≡ month_start l k
months l k h = eqb→eq (closed_start l k) (month_start l k) (all_below-lookup 13 (λ k. eqb (closed_start l k) (month_start l k)) (months-tested l) k (omega arith))

pub early-months : (l : Bool) (k : ℕ) → k < 2 → (367 * k + 5) / 12 ≡ month_start l k
unfolding closed_start
early-months l k h = ap (λ (t : Bool). when t then (367 * k + 5) / 12 else (367 * k + 5) / 12 - (when l then 1 else 2)) (sym (lt-ltb k 2 h)) ∙ months l k (omega arith)

pub late-months : (l : Bool) (k : ℕ) → 2 ≤ k → k ≤ 12 → (367 * k + 5) / 12 - (when l then 1 else 2) ≡ month_start l k
unfolding closed_start
late-months l k h g = ap (λ (t : Bool). when t then (367 * k + 5) / 12 else (367 * k + 5) / 12 - (when l then 1 else 2)) (sym (le-ltb k 2 h)) ∙ months l k g

-- ---- the month of a day of the year: at least a 32nd of it, and at most one more
pub month-low : (l : Bool) (k : ℕ) → month_start l k ≤ 31 * k
unfolding month_start
month-low l zero = omega arith
month-low l (suc k) = omega (arith, month-low l k, month_length-≤ l (suc k))

month-high-tested : (l : Bool) → T (all_below 11 (λ k. leb (32 * (k + 1)) (month_start l (k + 1 + 1))))
unfolding all_below month_start month_length
month-high-tested true = tt
month-high-tested false = tt

pub month-high : (l : Bool) (k : ℕ) → k < 11 → 32 * (k + 1) ≤ month_start l (k + 1 + 1)
month-high l k h = leb→le (32 * (k + 1)) (month_start l (k + 1 + 1)) (all_below-lookup 11 (λ k. leb (32 * (k + 1)) (month_start l (k + 1 + 1))) (month-high-tested l) k h)

-- a month that starts by day d of the year is one of the twelve
pub month-twelve : (l : Bool) (d k : ℕ) → d < year_length l → k ≤ 12 → month_start l k ≤ d → k < 12
month-twelve l d k h g s = go (ltb k 12) refl
  where
    go : (t : Bool) → ltb k 12 ≡ t → k < 12
    go true e = omega (arith, ltb-true k 12 e)
    go false e =
        let q : k ≡ 12 = omega (arith, ltb-false k 12 e) in
        let z : month_start l k ≡ year_length l = ap (month_start l) q ∙ year-of-months l in
        absurd (omega arith)

-- ---- the year of a day: 146,097 days in 400 years, to within two days
near-low : (y : ℕ) → 146097 * y ≤ 400 * years_to y + 396
near-low y = parts (years_to y) y ((y + 3) / 4) ((y + 99) / 100) ((y + 399) / 400) (years y) (omega arith) (omega arith) (omega arith)
  where
    parts : (s y a b c : ℕ) → s + b ≡ 365 * y + a + c → y ≤ 4 * a → 100 * b ≤ y + 99 → y ≤ 400 * c → 146097 * y ≤ 400 * s + 396
    parts s y a b c h p q r = omega arith

near-high : (y : ℕ) → 400 * years_to y ≤ 146097 * y + 699
near-high y = parts (years_to y) y ((y + 3) / 4) ((y + 99) / 100) ((y + 399) / 400) (years y) (omega arith) (omega arith) (omega arith)
  where
    parts : (s y a b c : ℕ) → s + b ≡ 365 * y + a + c → 4 * a ≤ y + 3 → y ≤ 100 * b → 400 * c ≤ y + 399 → 400 * s ≤ 146097 * y + 699
    parts s y a b c h p q r = omega arith

pub year-high : (n y : ℕ) → 400 * (n + 1) / 146097 ≡ y → n < years_to (y + 1)
year-high n y e =
    let b : 400 * (n + 1) < 146097 * (y + 1) = omega arith in
    omega (arith, near-low (y + 1))

year-before : (y : ℕ) → years_to y + 365 ≤ years_to (y + 1)
unfolding years_to
year-before y = rw (add-one y) (omega (arith, year_length-≥ (leap_at y)))

pub year-some : (n y : ℕ) → n < years_to y → 1 ≤ y
unfolding years_to
year-some n zero h = absurd (omega arith)
year-some n (suc y) h = omega arith

pub year-low : (n y : ℕ) → 400 * (n + 1) / 146097 ≡ y → n < years_to y → years_to (y - 1) ≤ n
year-low n y e h =
    let one = year-some n y h in
    let b : 146097 * y ≤ 400 * (n + 1) = omega arith in
    let p : y - 1 + 1 ≡ y = omega arith in
    let s : years_to (y - 1) + 365 ≤ years_to y = rw p at (year-before (y - 1)) in
    omega (arith, near-high y)

-- ---- the parts of a number make the day with it
pub year-length : (y : ℕ) → years_to (y + 1) ≡ years_to y + year_length (leap_at y)
unfolding years_to
year-length y = rw (add-one y) refl

pub in-year : (n y s : ℕ) (l : Bool) → l ≡ leap_at y → s ≡ years_to y → years_to y ≤ n → n < years_to (y + 1) → n - s < year_length l
in-year n y s l el es a b =
    let e : year_length l ≡ year_length (leap_at y) = ap year_length el in
    omega (arith, year-length y, e)

pub day-built : (n y s k t : ℕ) (l : Bool) → l ≡ leap_at y → s ≡ years_to y → years_to y ≤ n → t ≡ month_start l k
    → month_start l k ≤ n - s → n - s < month_start l (k + 1) → k < 12 → counted y (k + 1) (n - s - t + 1) ≡ day_with n
unfolding number_of
day-built n y s k t l el es a et h g tw =
    let hh : month_start (leap_at y) k ≤ n - s = subst (λ (b : Bool). month_start b k ≤ n - s) el h in
    let gg : n - s < month_start (leap_at y) (k + 1) = subst (λ (b : Bool). n - s < month_start b (k + 1)) el g in
    let tt' : t ≡ month_start (leap_at y) k = et ∙ ap (λ (b : Bool). month_start b k) el in
    let e : k + 1 - 1 ≡ k = omega arith in
    let st : month_start (leap_at y) (k + 1) ≡ month_start (leap_at y) (k + 1 - 1) + month_length (leap_at y) (k + 1) = month-step (leap_at y) (k + 1) (omega arith) in
    let s2 : month_start (leap_at y) (k + 1) ≡ month_start (leap_at y) k + month_length (leap_at y) (k + 1) = st ∙ ap (λ (j : ℕ). month_start (leap_at y) j + month_length (leap_at y) (k + 1)) e in
    date-is (counted y (k + 1) (n - s - t + 1)) n
    (record { month-≥ = omega arith; month-≤ = omega arith; day-≥ = omega arith; day-≤ = omega arith })
    (ap (λ (j : ℕ). years_to y + month_start (leap_at y) j + (n - s - t + 1 - 1)) e ∙ omega arith)

-- ---- sizes
pub years-≥ : (y : ℕ) → 365 * y ≤ years_to y
unfolding years_to
years-≥ zero = omega arith
years-≥ (suc y) = omega (arith, years-≥ y, year_length-≥ (leap_at y))

pub years-≤ : (y : ℕ) → years_to y ≤ 366 * y
unfolding years_to
years-≤ zero = omega arith
years-≤ (suc y) = omega (arith, years-≤ y, year_length-≤ (leap_at y))

pub year-small : (n : ℕ) → 365 * (day_with n).year ≤ n
unfolding number_of
year-small n = omega (arith, years-≥ (day_with n).year, day-date n)

pub number_small : (c : Counted) → Within c → number_of c ≤ 366 * c.year + 403
unfolding number_of
number_small c w = omega (arith, years-≤ c.year, month-low (leap_at c.year) (c.month - 1), w.month-≤, w.day-≤, month_length-≤ (leap_at c.year) c.month)

-- ---- months are added
pub min-under : (a b : ℕ) → a ≤ b → min a b ≡ a
min-under a b h = omega arith

pub months-within : (c : Counted) (k : ℕ) → Within c → Within (months_on c k)
unfolding months_on
months-within c k w =
    let t = c.month - 1 + k in
    let l = month_length (leap_at (c.year + t / 12)) (t % 12 + 1) in
    record {
      month-≥ = omega arith;
      month-≤ = omega arith;
      day-≥ = omega (arith, w.day-≥, month_length-≥ (leap_at (c.year + t / 12)) (t % 12 + 1));
      day-≤ = omega arith;
    }

pub months-year : (c : Counted) (k : ℕ) → c.month ≤ 12 → k < 2 ^ 32 → (months_on c k).year ≤ c.year + 2 ^ 29
unfolding months_on
months-year c k h g = omega arith

pub clamped : (c : Counted) (k l d : ℕ) (a : Bool) → let t = c.month - 1 + k in
    a ≡ leap_at (c.year + t / 12) → l ≡ month_length a (t % 12 + 1) → d ≡ min c.day l → counted (c.year + t / 12) (t % 12 + 1) d ≡ months_on c k
unfolding months_on
clamped c k l d a ea el ed =
    let t = c.month - 1 + k in
    ap (counted (c.year + t / 12) (t % 12 + 1)) (ed ∙ ap (min c.day) (el ∙ ap (λ (b : Bool). month_length b (t % 12 + 1)) ea))
