-- A signed number counted from an origin and within a range, and an instant as a day and a part of the day. Assumes nothing.
use Prim.Native.Nat.{ℕ, suc, ◌+◌, ◌-◌, ◌*◌, ◌/◌, ◌%◌, ◌^◌, ◌≤◌, ◌<◌}
use mathlib.Core.Path.{◌≡◌, refl, ap, sym, ◌∙◌}
use mathlib.Core.Bool.{Bool, true, false}
use native.Mathlib.Nat.{add-mul, mul-le-mul, div-add-mod', mod-lt, div-mul-le_self}
use native.Mathlib.Omega.{arith}
use lib.Dec.{ltb}
use lib.IntN.{ℤ, pos, negsuc, sub_ℕ, ◌+ℤ◌, ◌*ℤ◌}
use lib.Signed.{mag}
use mir.Syntax.{Width}
use mir.Val.{SFits, hbits}
use borrow.Author.Tests.{lt-ltb, le-ltb, ltb-true}
use Rattle.std.specs.Prelude as std
use Rattle.std.specs.Prelude.{Ok, Err}
use Rattle.std.specs.Int.{int_div_euclid, int_rem_euclid}
use Rattle.std.specs.Result.{OkIff, result_or}
use Rattle.std.proofs.lemmas.Int.{ints}
use Rattle.base.specs.Base.{ok, stop}
use Rattle.base.specs.Refusal.{outcome_of}
use Rattle.base.specs.declared.refusal.Refusal.TheVariants.{OutsideCalendar}
use Rattle.calendar.specs.Instants.{in_range, ranged}
use Rattle.calendar.specs.Origin.{counted_from, epoch}
use Rattle.calendar.proofs.Whole.{sub-pos, sub_cases, sub-mul, sub-add}

-- ---- a number within a range
pub range-above : (h n k : ℕ) → k ≤ n → in_range h (sub_ℕ n k) ≡ ltb (n - k) h
unfolding in_range
range-above h n k l = ap (in_range h) (sub-pos n k l)

pub range-in : (h n k : ℕ) → k ≤ n + h → n < k + h → in_range h (sub_ℕ n k) ≡ true
unfolding in_range
range-in h n k a b = sub_cases (λ z. in_range h z ≡ true) n k (λ l. lt-ltb (k - suc n) h (omega arith)) (λ l. lt-ltb (n - k) h (omega arith))

pub range-over : (h n k : ℕ) → k + h ≤ n → in_range h (sub_ℕ n k) ≡ false
range-over h n k a = range-above h n k (omega arith) ∙ le-ltb (n - k) h (omega arith)

in-range-is : (h : ℕ) (z : ℤ) → in_range h z ≡ ltb (mag z) h
unfolding in_range
in-range-is h (pos n) = refl
in-range-is h (negsuc n) = refl

pub ranged-in : (h : ℕ) (z : ℤ) → in_range h z ≡ true → ranged h z ≡ ok z
unfolding ranged
ranged-in h z e = rw e refl

pub ranged-out : (h : ℕ) (z : ℤ) → in_range h z ≡ false → ranged h z ≡ stop 27
unfolding ranged
ranged-out h z e = rw e refl

-- a number that `try_from` takes into the width w, or 27
pub fitted : {E : Type 0} (w : Width) (r : std.Result ℤ E) (y z : ℤ) → OkIff r (SFits w y) y → y ≡ z → outcome_of (result_or r (Err OutsideCalendar)) ≡ ranged (2 ^ hbits w) z
fitted w (Ok x) y z p e = let l = p.0.sfits in ap ok p.1 ∙ sym (ranged-in (2 ^ hbits w) y (in-range-is _ y ∙ lt-ltb _ _ l)) ∙ ap (ranged (2 ^ hbits w)) e
fitted w (Err x) y z p e = go (ltb (mag y) (2 ^ hbits w)) refl
  where
    go : (t : Bool) → ltb (mag y) (2 ^ hbits w) ≡ t → stop 27 ≡ ranged (2 ^ hbits w) z
    go true h = absurd (p (record { sfits = ltb-true _ _ h }))
    go false h = sym (ranged-out (2 ^ hbits w) y (in-range-is _ y ∙ h)) ∙ ap (ranged (2 ^ hbits w)) e

-- ---- quotients by the unit
pub quotient-small : (n u : ℕ) → n < 2 ^ 63 → 86400000 ≤ u → n / u < 106751991168
quotient-small n u l g =
    let a : n / u * 86400000 ≤ n / u * u = mul-le-mul {n₁ = n / u} {m₁ = 86400000} {n₂ = n / u} {m₂ = u} (omega arith) g in
    omega (arith, a, div-mul-le_self n u)

-- ---- an instant by its day and the part of the day
pub split_after : (u n : ℕ) → (epoch + n / u) * u + n % u ≡ epoch * u + n
split_after u n = omega (arith, add-mul epoch (n / u) u, div-add-mod' n u)

pub split-before : (u n : ℕ) → n / u < epoch → 0 < u → (epoch - (n / u + 1)) * u + (u - (n % u + 1)) ≡ epoch * u - suc n
split-before u n l p =
    let e : epoch ≡ epoch - (n / u + 1) + (n / u + 1) = omega arith in
    let a : epoch * u ≡ (epoch - (n / u + 1)) * u + (n / u + 1) * u = ap (λ (x : ℕ). x * u) e ∙ add-mul (epoch - (n / u + 1)) (n / u + 1) u in
    let b : (n / u + 1) * u ≡ n / u * u + 1 * u = add-mul (n / u) 1 u in
    parts (epoch * u) ((epoch - (n / u + 1)) * u) ((n / u + 1) * u) (n / u * u) u n (n % u) a (b ∙ one (n / u * u) u) (div-add-mod' n u) (mod-lt n p)
  where
    one : (x u : ℕ) → x + 1 * u ≡ x + u
    one x u = omega arith

    parts : (eu a b q u n r : ℕ) → eu ≡ a + b → b ≡ q + u → q + r ≡ n → r < u → a + (u - (r + 1)) ≡ eu - suc n
    parts eu a b q u n r p q' s t = omega arith

-- what the code works out: the day, counted, is the quotient rounded down, and the part of the day what is left
pub record Split (u : ℕ) (z : ℤ) : Type 0 where
  pub day : ℕ
  pub rest : ℕ
  pub day-is : pos epoch +ℤ int_div_euclid z (pos u) ≡ pos day
  pub rest-is : int_rem_euclid z (pos u) ≡ pos rest
  pub joined : day * u + rest ≡ counted_from (epoch * u) z
  pub day-< : day < 2 ^ 41
  pub rest-< : rest < u

pub split-is : (u : ℕ) (z : ℤ) → 86400000 ≤ u → mag z < 2 ^ 63 → Split u z
unfolding counted_from
split-is u (pos n) g f =
    let q = quotient-small n u f g in
    record { day = epoch + n / u; rest = n % u; day-is = refl; rest-is = refl; joined = split_after u n; day-< = omega arith; rest-< = mod-lt n (omega arith) }
split-is u (negsuc n) g f =
    let q = quotient-small n u f g in
    let l : n % u < u = mod-lt n (omega arith) in
    record {
      day = epoch - (n / u + 1);
      rest = u - (n % u + 1);
      day-is = omega (arith, ints);
      rest-is = omega (arith, ints);
      joined = split-before u n (omega arith) (omega arith);
      day-< = omega arith;
      rest-< = omega arith;
    }

-- and back
pub joined-is : (u day rest : ℕ) → 0 < u → sub_ℕ day epoch *ℤ pos u +ℤ pos rest ≡ sub_ℕ (day * u + rest) (epoch * u)
joined-is u day rest h = ap (λ (z : ℤ). z +ℤ pos rest) (sub-mul day epoch u h) ∙ sub-add (day * u) (epoch * u) rest
