-- The addition over the unit, in signed numbers: shown once for any number u of units to a day. Assumes nothing.
use Prim.Native.Nat.{ℕ, suc, ◌+◌, ◌-◌, ◌*◌, ◌/◌, ◌%◌, ◌≤◌, ◌<◌}
use mathlib.Core.Path.{◌≡◌, refl, ap, sym, ◌∙◌}
use mathlib.Core.Bool.{Bool, true, false}
use native.Mathlib.Nat.{add-mul, suc-mul, div-add-mod', mod-lt, le-div_iff_mul-le, div-lt_iff_lt-mul}
use native.Mathlib.Omega.{arith}
use lib.Dec.{ltb}
use lib.Arith.{digits_div, digits_mod}
use lib.IntN.{ℤ, pos, negsuc, sub_ℕ, ◌+ℤ◌, ◌*ℤ◌}
use borrow.Author.Tests.{ltb-true, ltb-false}
use Rattle.base.specs.Base.{Result, stop, after, ◌>>=◌}
use Rattle.calendar.specs.declared.Civil.{Civil}
use Rattle.calendar.specs.Calendar.{day_number, civil_of, add_months}
use Rattle.calendar.specs.Instants.{in_range, ranged, floor, part, after_months, added}
use Rattle.gregorian.specs.Counted.{number_of, day_with, months_on, months_after, all_after}
use Rattle.calendar.specs.Origin.{epoch}
use Rattle.calendar.proofs.Whole.{sub-neg, sub-pos, sub_cases, sub-add, sub-mul}
use Rattle.calendar.proofs.Shift.{day-shown, date-shown, months-shown}
use Rattle.calendar.proofs.Bits.{range-in, range-over, ranged-in, ranged-out}
use Rattle.gregorian.proofs.Later.{instant-later}

-- ---- the day and the part of the day
module _ (u t k : ℕ) (p : 0 < u) where
  from-k : k * u ≤ t → k ≤ t / u
  from-k h = (le-div_iff_mul-le p).1 h

  to-k : t < k * u → t / u < k
  to-k h = (div-lt_iff_lt-mul p).1 h

  above : k * u ≤ t → t - k * u ≡ (t / u - k) * u + t % u
  above h =
      let l = from-k h in
      let e : t / u ≡ k + (t / u - k) = omega arith in
      let a : t / u * u ≡ k * u + (t / u - k) * u = ap (λ (x : ℕ). x * u) e ∙ add-mul k (t / u - k) u in
      omega (arith, div-add-mod' t u)

  below : t < k * u → k * u - suc t ≡ (k - suc (t / u)) * u + (u - suc (t % u))
  below h =
      let l = to-k h in
      let m = mod-lt t p in
      let e : k ≡ suc (t / u) + (k - suc (t / u)) = omega arith in
      let a : k * u ≡ suc (t / u) * u + (k - suc (t / u)) * u = ap (λ (x : ℕ). x * u) e ∙ add-mul (suc (t / u)) (k - suc (t / u)) u in
      let b : suc (t / u) * u ≡ t / u * u + u = suc-mul (t / u) u in
      parts (k * u) (suc (t / u) * u) ((k - suc (t / u)) * u) (t / u * u) u t (t % u) a b (div-add-mod' t u) m
    where
      parts : (w s d q u t r : ℕ) → w ≡ s + d → s ≡ q + u → q + r ≡ t → r < u → w - suc t ≡ d + (u - suc r)
      parts w s d q u t r a b c e = omega arith

  rest_lt : u - suc (t % u) < u
  rest_lt = omega (arith, mod-lt t p)

  pub floor-shown : floor (sub_ℕ t (k * u)) u ≡ sub_ℕ (t / u) k
  unfolding floor
  floor-shown = sub_cases (λ z. floor z u ≡ sub_ℕ (t / u) k) t (k * u)
      (λ h. ap negsuc (ap (λ (x : ℕ). x / u) (below h) ∙ digits_div (k - suc (t / u)) rest_lt) ∙ sym (sub-neg (t / u) k (to-k h)))
      (λ h. ap pos (ap (λ (x : ℕ). x / u) (above h) ∙ digits_div (t / u - k) (mod-lt t p)) ∙ sym (sub-pos (t / u) k (from-k h)))

  back : u - suc (u - suc (t % u)) ≡ t % u
  back = omega (arith, mod-lt t p)

  pub part-shown : part (sub_ℕ t (k * u)) u ≡ t % u
  unfolding part
  part-shown = sub_cases (λ z. part z u ≡ t % u) t (k * u)
      (λ h. ap (λ (x : ℕ). u - suc x) (ap (λ (x : ℕ). x % u) (below h) ∙ digits_mod (k - suc (t / u)) rest_lt) ∙ back)
      (λ h. ap (λ (x : ℕ). x % u) (above h) ∙ digits_mod (t / u - k) (mod-lt t p))

-- ---- the steps
module _ (u t : ℕ) (p : 0 < u) where
  pub months-shown-after : (k : ℕ) → after_months u (sub_ℕ t (epoch * u)) k ≡ sub_ℕ (months_after u t k) (epoch * u)
  unfolding after_months months_after
  months-shown-after k =
      ap (λ (z : ℤ). day_number (add_months (civil_of z) k) *ℤ pos u +ℤ pos (part (sub_ℕ t (epoch * u)) u)) (floor-shown u t epoch p)
      ∙ ap (λ (r : ℕ). day_number (add_months (civil_of (sub_ℕ (t / u) epoch)) k) *ℤ pos u +ℤ pos r) (part-shown u t epoch p)
      ∙ ap (λ (c : Civil). day_number (add_months c k) *ℤ pos u +ℤ pos (t % u)) (date-shown (t / u))
      ∙ ap (λ (c : Civil). day_number c *ℤ pos u +ℤ pos (t % u)) (months-shown (day_with (t / u)) k)
      ∙ ap (λ (z : ℤ). z *ℤ pos u +ℤ pos (t % u)) (day-shown (months_on (day_with (t / u)) k))
      ∙ ap (λ (z : ℤ). z +ℤ pos (t % u)) (sub-mul (number_of (months_on (day_with (t / u)) k)) epoch u p)
      ∙ sub-add (number_of (months_on (day_with (t / u)) k) * u) (epoch * u) (t % u)

-- ---- all steps are in range where the first instant and the last are

-- one step after another, each within the range
stepped : ℕ → ℤ → (ℤ → ℤ) → (ℤ → ℤ) → Result ℤ
stepped h a f g = do
  x ← ranged h a
  y ← ranged h (f x)
  ranged h (g y)

module _ (h : ℕ) (a : ℤ) (f g : ℤ → ℤ) where
  all-ranged : in_range h a ≡ true → in_range h (f a) ≡ true → stepped h a f g ≡ ranged h (g (f a))
  unfolding stepped after
  all-ranged p q = ap (λ (r : Result ℤ). after r (λ x. after (ranged h (f x)) (λ y. ranged h (g y)))) (ranged-in h a p) ∙ ap (λ (r : Result ℤ). after r (λ y. ranged h (g y))) (ranged-in h (f a) q)

  -- where the last is outside, whichever step is the first to leave the range
  last_out : in_range h (g (f a)) ≡ false → stepped h a f g ≡ stop 27
  unfolding stepped after
  last_out e = go (in_range h a) (in_range h (f a)) refl refl
    where
      go : (s t : Bool) → in_range h a ≡ s → in_range h (f a) ≡ t → stepped h a f g ≡ stop 27
      go true true p q = all-ranged p q ∙ ranged-out h (g (f a)) e
      go true false p q = ap (λ (r : Result ℤ). after r (λ x. after (ranged h (f x)) (λ y. ranged h (g y)))) (ranged-in h a p) ∙ ap (λ (r : Result ℤ). after r (λ y. ranged h (g y))) (ranged-out h (f a) q)
      go false t p q = ap (λ (r : Result ℤ). after r (λ x. after (ranged h (f x)) (λ y. ranged h (g y)))) (ranged-out h a p)

-- steps that only go on: the last one decides
module _ (h w t a b c : ℕ) (f g : ℤ → ℤ) (eb : f (sub_ℕ a w) ≡ sub_ℕ b w) (ec : g (f (sub_ℕ a w)) ≡ sub_ℕ c w) (low : w ≤ t + h) (ta : t ≤ a) (ab : a ≤ b) (bc : b ≤ c) where
  steps-in : c < w + h → stepped h (sub_ℕ a w) f g ≡ ranged h (sub_ℕ c w)
  steps-in l =
      all-ranged h (sub_ℕ a w) f g (range-in h a w (omega arith) (omega arith)) (ap (in_range h) eb ∙ range-in h b w (omega arith) (omega arith))
      ∙ ap (ranged h) ec

  steps-out : w + h ≤ c → stepped h (sub_ℕ a w) f g ≡ ranged h (sub_ℕ c w)
  steps-out l = last_out h (sub_ℕ a w) f g (ap (in_range h) ec ∙ range-over h c w l) ∙ sym (ranged-out h (sub_ℕ c w) (range-over h c w l))

  steps : stepped h (sub_ℕ a w) f g ≡ ranged h (sub_ℕ c w)
  steps = go (ltb c (w + h)) refl
    where
      go : (x : Bool) → ltb c (w + h) ≡ x → stepped h (sub_ℕ a w) f g ≡ ranged h (sub_ℕ c w)
      go true e = steps-in (ltb-true c (w + h) e)
      go false e = steps-out (ltb-false c (w + h) e)

-- ---- the addition: of an instant in range, the outcome alone decides
pub added-shown : (u p h t months days millis : ℕ) → 0 < u → epoch * u ≤ t + h
    → added u p h (sub_ℕ t (epoch * u)) months days millis ≡ ranged h (sub_ℕ (all_after u p t months days millis) (epoch * u))
unfolding added all_after stepped
added-shown u p h t months days millis up low =
    let w = epoch * u in
    let a = months_after u t months in
    let b = a + days * u in
    let f : ℤ → ℤ = λ x. x +ℤ pos (days * u) in
    let g : ℤ → ℤ = λ x. x +ℤ pos (millis * p) in
    let eb : f (sub_ℕ a w) ≡ sub_ℕ b w = sub-add a w (days * u) in
    ap (λ (x : ℤ). stepped h x f g) (months-shown-after u t up months)
    ∙ steps h w t a b (b + millis * p) f g eb (ap g eb ∙ sub-add b w (millis * p)) low (instant-later u t months) (omega arith) (omega arith)
