-- A decimal's value, by the sign that the first bit is; value and length together are the bytes: no other bytes of that length hold the value, and each
-- integer in the range of a length is held. So a precision is admitted exactly where every integer of that many digits is held. Assumes nothing.
use Prim.Native.Nat.{ℕ, zero, suc, ◌+◌, ◌-◌, ◌*◌, ◌^◌, ◌≤◌, ◌<◌}
use mathlib.Core.Path.{◌≡◌, refl, ap, sym, ◌∙◌, subst}
use mathlib.Core.List.{List, [], ◌∷◌}
use mathlib.Core.Bool.{Bool, true, false, cond}
use borrow.Author.Tests.{ltb-true, ltb-false, lt-ltb, le-ltb}
use native.Mathlib.Nat.{pow-suc, mul_comm, mul-le-mul_right, pow-le-pow_left}
use native.Mathlib.Decide.{dec_le}
use native.Mathlib.Omega.{arith}
use lib.Dec.{T, ltb}
use lib.IntN.{ℤ, pos, negsuc, nat_abs, ◌+ℤ◌}
use lib.Arith.{digits_lt}
use lib.ListN.{length}
use lib.Pow.{pow-add, pow_pos, pow_mono}
use Rattle.number.specs.Number.{all_bytes, big_endian, bytes_of}
use Rattle.number.proofs.Laws.{length-bytes_of, all_bytes-tail, all_bytes-bytes_of, big_endian-<, bytes_of-big_endian, big_endian-bytes_of-small}
use Rattle.rounding.specs.Rounding.{of_twos, to_twos}
use Rattle.decimal.specs.Decimal.{above, too_short_for}
use Rattle.decimal.specs.Value.{value_of, held_in, InRange}
use Rattle.decimal.proofs.Largest.{too_short_for-fits, fits-too_short_for, none-of-0}

-- ---- bits
256^-bits : (n : ℕ) → 256 ^ n ≡ 2 ^ (8 * n)
256^-bits zero = refl
256^-bits (suc n) =
    let e : 8 * suc n ≡ 8 * n + 8 = omega arith in
    rw (pow-suc, e, pow-add, 256^-bits n) refl

half : (w : ℕ) → 1 ≤ w → 2 ^ w ≡ 2 * 2 ^ (w - 1)
half w h =
    let e : w ≡ suc (w - 1) = omega arith in
    ap (λ (k : ℕ). 2 ^ k) e ∙ pow-suc 2 (w - 1) ∙ mul_comm (2 ^ (w - 1)) 2

of_twos-injective : (w a b : ℕ) → a < 2 ^ w → b < 2 ^ w → of_twos w a ≡ of_twos w b → a ≡ b
of_twos-injective w a b h k e = go (ltb a (2 ^ (w - 1))) (ltb b (2 ^ (w - 1))) e
  where
    back : (m x y : ℕ) → x < m → y < m → m - suc x ≡ m - suc y → x ≡ y
    back m x y p q r = omega arith

    go : (x y : Bool) → cond x (pos a) (negsuc (2 ^ w - suc a)) ≡ cond y (pos b) (negsuc (2 ^ w - suc b)) → a ≡ b
    go true true e = cc
    go true false e = let z : ◌≡◌ {A = ℕ} 0 1 = cc in absurd (omega arith)
    go false true e = let z : ◌≡◌ {A = ℕ} 0 1 = cc in absurd (omega arith)
    go false false e = back (2 ^ w) a b h k (cc)

module _ (n : ℕ) (h : 1 ≤ n) where
  halves : 2 ^ (8 * n) ≡ 2 * 2 ^ (8 * n - 1)
  halves = half (8 * n) (omega arith)

  of_twos-to_twos : (v : ℤ) → InRange n v → (to_twos (8 * n) v < 2 ^ (8 * n)) × (of_twos (8 * n) (to_twos (8 * n) v) ≡ v)
  unfolding InRange
  of_twos-to_twos (pos m) r =
      (omega (arith, halves), ap (λ (t : Bool). cond t (pos m) (negsuc (2 ^ (8 * n) - suc m))) (lt-ltb m (2 ^ (8 * n - 1)) r))
  of_twos-to_twos (negsuc m) r =
      let b = 2 ^ (8 * n) - suc m in (
        omega (arith, halves),
        ap (λ (t : Bool). cond t (pos b) (negsuc (2 ^ (8 * n) - suc b))) (le-ltb b (2 ^ (8 * n - 1)) (omega (arith, halves))) ∙ ap negsuc (omega (arith, halves)),
      )

  of_twos-range : (b : ℕ) → b < 2 ^ (8 * n) → InRange n (of_twos (8 * n) b)
  unfolding InRange
  of_twos-range b l = go (ltb b (2 ^ (8 * n - 1))) refl
    where
      go : (t : Bool) → ltb b (2 ^ (8 * n - 1)) ≡ t → InRange n (cond t (pos b) (negsuc (2 ^ (8 * n) - suc b)))
      go true e = ltb-true b (2 ^ (8 * n - 1)) e
      go false e = let k = ltb-false b (2 ^ (8 * n - 1)) e in omega (arith, halves)

-- ---- bytes
bits-< : (s : List ℕ) → T (all_bytes s) → big_endian s < 2 ^ (8 * length s)
bits-< s h = rw (256^-bits (length s)) at (big_endian-< s h)

-- the first bit is the sign
half-bits : (k : ℕ) → 128 * 256 ^ k ≡ 2 ^ (8 * suc k - 1)
half-bits k =
    let e : 8 * suc k - 1 ≡ 7 + 8 * k = omega arith in
    rw (e, pow-add, 256^-bits k) refl

-- below 80 the bytes hold the number that they are
pub value_of-positive : (x : ℕ) (s : List ℕ) → T (all_bytes (x ∷ s)) → x < 0x80 → value_of (x ∷ s) ≡ pos (big_endian (x ∷ s))
unfolding value_of big_endian
value_of-positive x s h l =
    let b = x * 256 ^ length s + big_endian s in
    let k : b < 2 ^ (8 * suc (length s) - 1) = rw (← half-bits (length s)) (digits_lt l (big_endian-< s (all_bytes-tail x s h))) in
    ap (λ (t : Bool). cond t (pos b) (negsuc (2 ^ (8 * suc (length s)) - suc b))) (lt-ltb b (2 ^ (8 * suc (length s) - 1)) k)

-- from 80 on they are 256^length more than what they hold
more : (m b : ℕ) → b < m → negsuc (m - suc b) +ℤ pos m ≡ pos b
more m b h =
    let q = suc (m - suc b) in
    let e : m - q ≡ b = omega arith in
    ap (λ (t : Bool). cond t (negsuc (q - suc m)) (pos (m - q))) (le-ltb m q (omega arith)) ∙ ap pos e

pub value_of-negative : (x : ℕ) (s : List ℕ) → T (all_bytes (x ∷ s)) → 0x80 ≤ x → value_of (x ∷ s) +ℤ pos (256 ^ length (x ∷ s)) ≡ pos (big_endian (x ∷ s))
unfolding value_of big_endian
value_of-negative x s h l =
    let n = suc (length s) in
    let b = x * 256 ^ length s + big_endian s in
    let k : 2 ^ (8 * n - 1) ≤ b = rw (← half-bits (length s)) (omega (arith, mul-le-mul_right (256 ^ length s) l)) in
    ap (λ (t : Bool). cond t (pos b) (negsuc (2 ^ (8 * n) - suc b)) +ℤ pos (256 ^ n)) (le-ltb b (2 ^ (8 * n - 1)) k)
    ∙ rw (256^-bits n) (more (2 ^ (8 * n)) b (bits-< (x ∷ s) h))

-- no other bytes of that length
pub value_of-injective : (s t : List ℕ) → T (all_bytes s) → T (all_bytes t) → length s ≡ length t → value_of s ≡ value_of t → s ≡ t
unfolding value_of
value_of-injective s t h k n e =
    let same : big_endian s ≡ big_endian t =
    of_twos-injective (8 * length t) (big_endian s) (big_endian t) (rw n at (bits-< s h)) (bits-< t k) (rw n at e) in
    sym (bytes_of-big_endian s h) ∙ rw (n, same) refl ∙ bytes_of-big_endian t k

pub value_of-InRange : (s : List ℕ) → 1 ≤ length s → T (all_bytes s) → InRange (length s) (value_of s)
unfolding value_of
value_of-InRange s l h = of_twos-range (length s) l (big_endian s) (bits-< s h)

-- each integer in range is held
pub value_of-held_in : (n : ℕ) (v : ℤ) → 1 ≤ n → InRange n v → value_of (held_in n v) ≡ v
unfolding value_of held_in
value_of-held_in n v l r =
    let b = to_twos (8 * n) v in
    let h : b < 256 ^ n = rw (256^-bits n) (of_twos-to_twos n l v r).0 in
    rw (length-bytes_of n b, big_endian-bytes_of-small n b h) (of_twos-to_twos n l v r).1

pub length-held_in : (n : ℕ) (v : ℤ) → length (held_in n v) ≡ n
unfolding held_in
length-held_in n v = length-bytes_of n (to_twos (8 * n) v)

pub all_bytes-held_in : (n : ℕ) (v : ℤ) → T (all_bytes (held_in n v))
unfolding held_in
all_bytes-held_in n v = all_bytes-bytes_of n (to_twos (8 * n) v)

-- so value and length give the bytes back
pub held_in-value_of : (s : List ℕ) → T (all_bytes s) → held_in (length s) (value_of s) ≡ s
unfolding held_in bytes_of
held_in-value_of [] h = refl
held_in-value_of (x ∷ s) h =
    let t = x ∷ s in
    let n = length t in
    value_of-injective (held_in n (value_of t)) t (all_bytes-held_in n (value_of t)) h (length-held_in n (value_of t))
    (value_of-held_in n (value_of t) (omega arith) (value_of-InRange t (omega arith) h))

-- ---- the precision rule
few-InRange : (n m : ℕ) (v : ℤ) → nat_abs v < m → m ≤ 2 ^ (8 * n - 1) - 1 → InRange n v
unfolding InRange
few-InRange n m (pos k) h l = omega arith
few-InRange n m (negsuc k) h l = omega arith

-- a power of ten is no power of two, but for 1
2^-not-by-5 : (k m : ℕ) → 2 ^ k ≡ 5 * m → ⊥
2^-not-by-5 zero m e = omega arith
2^-not-by-5 (suc k) m e = let d : 2 ^ k * 2 ≡ 5 * m = rw pow-suc at e in 2^-not-by-5 k (2 ^ k - 2 * m) (omega arith)

10^-not-2^ : (p k : ℕ) → 10 ^ suc p ≡ 2 ^ k → ⊥
10^-not-2^ p k e = let d : 10 ^ p * 10 ≡ 2 ^ k = rw pow-suc at e in 2^-not-by-5 k (2 * 10 ^ p) (omega arith)

10^-not-half : (n p : ℕ) → 1 ≤ n → 10 ^ p ≡ 2 ^ (8 * n - 1) → ⊥
10^-not-half n zero h e = omega (arith, pow_mono {i = 1} {j = 8 * n - 1} (omega arith))
10^-not-half n (suc p) h e = 10^-not-2^ p (8 * n - 1) e

many-InRange : (n p : ℕ) → 1 ≤ n → n ≤ 128 → too_short_for p n ≡ true → InRange n (pos (10 ^ p - 1)) → ⊥
unfolding InRange
many-InRange n p h l e r =
    elim (dec_le (10 ^ p) (2 ^ (8 * n - 1) - 1)) [
      | yes q ↦ let z : ◌≡◌ {A = ℕ} 0 1 = cc (fits-too_short_for n p l q) in omega arith
      | no f ↦ 10^-not-half n p h (omega (arith, f))
    ]

-- no byte holds 0 only, which has no digit
nothing-held : (p : ℕ) (v : ℤ) → p ≤ 0 → nat_abs v < 10 ^ p → pos 0 ≡ v
nothing-held zero (pos zero) h d = refl
nothing-held zero (pos (suc k)) h d = absurd (omega arith)
nothing-held zero (negsuc k) h d = absurd (omega arith)
nothing-held (suc p) v h d = absurd (omega arith)

9-digit : (p : ℕ) → 0 < p → pos 0 ≡ pos (10 ^ p - 1) → ⊥
9-digit zero h e = omega arith
9-digit (suc p) h e =
    let f : 0 ≡ 10 ^ suc p - 1 = cc in
    let d : 0 ≡ 10 ^ p * 10 - 1 = rw pow-suc at f in
    omega (arith, pow_pos p, pow-le-pow_left {n = 2} {m = 10} (omega arith) p)

-- every integer of at most p digits is held by a length that is not too short for the precision p
pub digits-held : (len p : ℕ) (v : ℤ) → len ≤ 128 → too_short_for p len ≡ false → nat_abs v < 10 ^ p → value_of (held_in len v) ≡ v
unfolding too_short_for above value_of held_in big_endian bytes_of
digits-held zero p v l e d = nothing-held p v (ltb-false 0 p (rw none-of-0 at e)) d
digits-held (suc n) p v l e d = value_of-held_in (suc n) v (omega arith) (few-InRange (suc n) (10 ^ p) v d (too_short_for-fits (suc n) p (omega arith) l e))

-- and one of p digits is not, where the length is too short
pub digits-not-held : (p : ℕ) (s : List ℕ) → T (all_bytes s) → length s ≤ 128 → too_short_for p (length s) ≡ true → value_of s ≡ pos (10 ^ p - 1) → ⊥
unfolding too_short_for above value_of big_endian
digits-not-held p [] h l e v = 9-digit p (ltb-true 0 p (rw none-of-0 at e)) v
digits-not-held p (x ∷ s) h l e v = many-InRange (length (x ∷ s)) p (omega arith) l e (subst (InRange (length (x ∷ s))) v (value_of-InRange (x ∷ s) (omega arith) h))
