-- Which patterns are NaNs, for any width: what their fields are, and that a conversion makes one of a NaN alone. Assumes nothing.
use Rattle.std.proofs.Common.{◌≡◌, ℕ, suc, ◌+◌, ◌-◌, ◌*◌, ◌/◌, ◌%◌, ◌^◌, ◌<◌, ◌≤◌, Bool, true, false, cond, leb, ℤ, pos, negsuc, sym, ap, ◌∙◌, subst, mod-lt, mod-eq_of_lt, mul_comm, div-lt_iff_lt-mul, add-mul, one-mul, div-add-mod', le-div_iff_mul-le, zero-add, arith, pow_pos, pow_mono, le-ltb, lt-ltb}
use native.Mathlib.Nat.{add-mod_left}
use Rattle.rounding.specs.Rounding.{low, lead, sign_bit, infinity, quiet_nan, nan_pattern, signed, round_units, of_integer, convert, convert_magnitude}
use Rattle.rounding.proofs.Patterns.{magnitude-le}
use Rattle.rounding.proofs.Width.{Fair, converted-le}

-- the sign's weight is that of all patterns with the sign clear: those from the infinity's on have the exponent's field all ones
sign-is : (p e : ℕ) → sign_bit p e ≡ infinity p e + lead p
sign-is p e =
    mul_comm (lead p) (2 * e + 2)
    ∙ ap (λ (x : ℕ). x * lead p) (count e)
    ∙ add-mul (2 * e + 1) 1 (lead p)
    ∙ ap (λ (x : ℕ). infinity p e + x) (one-mul (lead p))
  where
    count : (e : ℕ) → 2 * e + 2 ≡ 2 * e + 1 + 1
    count e = omega arith

lead-pos : (p : ℕ) → 0 < lead p
lead-pos p = pow_pos (p - 1)

-- ---- the fields of a NaN's pattern
module _ (p e b : ℕ) where
  -- the exponent's field, and the digits behind it
  abbrev pub exponent_field : ℕ
  exponent_field = b % sign_bit p e / lead p

  abbrev pub digit_field : ℕ
  digit_field = b % sign_bit p e % lead p

  clear-lt : b % sign_bit p e < sign_bit p e
  clear-lt = mod-lt b (subst (λ (x : ℕ). 0 < x) (sym (sign-is p e)) (positive (infinity p e) (lead p) (lead-pos p)))
    where
      positive : (i l : ℕ) → 0 < l → 0 < i + l
      positive i l h = omega arith

  pub above-fields : infinity p e < b % sign_bit p e → (exponent_field ≡ 2 * e + 1) × (0 < digit_field)
  above-fields h = (all_ones, some-digit (exponent_field * lead p) (infinity p e) digit_field (b % sign_bit p e) (ap (λ (x : ℕ). x * lead p) all_ones) (div-add-mod' (b % sign_bit p e) (lead p)) h)
    where
      m : ℕ
      m = b % sign_bit p e

      below : exponent_field < 2 * e + 2
      below = (div-lt_iff_lt-mul (lead-pos p)).1 (subst (λ (x : ℕ). m < x) (mul_comm (lead p) (2 * e + 2)) clear-lt)

      from : 2 * e + 1 ≤ exponent_field
      from = (le-div_iff_mul-le (lead-pos p)).1 (weaken (infinity p e) m h)
        where
          weaken : (i m : ℕ) → i < m → i ≤ m
          weaken i m h = omega arith

      meet : (x k : ℕ) → x < k + 2 → k + 1 ≤ x → x ≡ k + 1
      meet x k h l = omega arith

      all_ones : exponent_field ≡ 2 * e + 1
      all_ones = meet exponent_field (2 * e) below from

      some-digit : (w i t m : ℕ) → w ≡ i → w + t ≡ m → i < m → 0 < t
      some-digit w i t m q r h = omega arith

  pub fields-above : exponent_field ≡ 2 * e + 1 → 0 < digit_field → infinity p e < b % sign_bit p e
  fields-above x t = above (exponent_field * lead p) (infinity p e) digit_field (b % sign_bit p e) (ap (λ (y : ℕ). y * lead p) x) (div-add-mod' (b % sign_bit p e) (lead p)) t
    where
      above : (w i t m : ℕ) → w ≡ i → w + t ≡ m → 0 < t → i < m
      above w i t m q r h = omega arith

-- ---- what conversions make

-- a pattern up to the infinity's is no NaN, with either sign
signed-number : (p e : ℕ) (s : Bool) (m : ℕ) → m ≤ infinity p e → nan_pattern p e (signed p e s m) ≡ false
signed-number p e s m h = le-ltb (infinity p e) (signed p e s m % sign_bit p e) (subst (λ (x : ℕ). x ≤ infinity p e) (sym (clear s)) h)
  where
    small : m < sign_bit p e
    small = subst (λ (x : ℕ). m < x) (sym (sign-is p e)) (below (infinity p e) (lead p) m h (lead-pos p))
      where
        below : (i l m : ℕ) → m ≤ i → 0 < l → m < i + l
        below i l m h k = omega arith

    clear : (s : Bool) → signed p e s m % sign_bit p e ≡ m
    clear true = add-mod_left (sign_bit p e) m ∙ mod-eq_of_lt small
    clear false = ap (λ (x : ℕ). x % sign_bit p e) (zero-add m) ∙ mod-eq_of_lt small

-- no integer becomes a NaN
pub nan_pattern-of_integer : (p e : ℕ) → Fair p e → (z : ℤ) → nan_pattern p e (of_integer p e z) ≡ false
unfolding of_integer
nan_pattern-of_integer p e F (pos n) = signed-number p e false _ (magnitude-le p e (round_units p (n * 2 ^ low p e) 1) F.0 F.1)
nan_pattern-of_integer p e F (negsuc n) = signed-number p e true _ (magnitude-le p e (round_units p (suc n * 2 ^ low p e) 1) F.0 F.1)

-- the NaN that a conversion makes is one
quiet-nan : (p e : ℕ) → 2 ≤ p → nan_pattern p e (quiet_nan p e) ≡ true
quiet-nan p e P =
    lt-ltb (infinity p e) (quiet_nan p e % sign_bit p e)
    (subst (λ (x : ℕ). infinity p e < x) (sym (mod-eq_of_lt (subst (λ (x : ℕ). quiet_nan p e < x) (sym (sign-is p e)) (inside (infinity p e) (lead p) (lead p / 2) (half (lead p) two))))) (above (infinity p e) (lead p / 2) (half_pos (lead p) two)))
  where
    two : 2 ≤ lead p
    two = pow_mono (one p P)
      where
        one : (p : ℕ) → 2 ≤ p → 1 ≤ p - 1
        one p h = omega arith

    half : (l : ℕ) → 2 ≤ l → l / 2 < l
    half l h = omega arith

    half_pos : (l : ℕ) → 2 ≤ l → 0 < l / 2
    half_pos l h = omega arith

    inside : (i l h : ℕ) → h < l → i + h < i + l
    inside i l h k = omega arith

    above : (i h : ℕ) → 0 < h → i < i + h
    above i h k = omega arith

-- from format to format a NaN stays a NaN, and nothing else becomes one
pub nan_pattern-convert : (p e p' e' b : ℕ) → Fair p' e' → nan_pattern p' e' (convert p e p' e' b) ≡ nan_pattern p e b
unfolding convert
nan_pattern-convert p e p' e' b F = go (nan_pattern p e b)
  where
    go : (t : Bool) → nan_pattern p' e' (cond t (quiet_nan p' e') (signed p' e' (leb (sign_bit p e) b) (convert_magnitude p e p' e' (b % sign_bit p e)))) ≡ t
    go true = quiet-nan p' e' F.0
    go false = signed-number p' e' (leb (sign_bit p e) b) _ (converted-le p e p' e' (b % sign_bit p e) F)
