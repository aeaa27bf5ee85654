-- Whole numbers as differences of numbers from 0 on: `sub_ℕ n k` is n counted from -k. Assumes nothing.
use Prim.Native.Nat.{ℕ, zero, suc, ◌+◌, ◌-◌, ◌*◌, ◌≤◌, ◌<◌}
use mathlib.Core.Path.{◌≡◌, refl, ap, sym, ◌∙◌}
use mathlib.Core.Bool.{Bool, true, false, cond}
use native.Mathlib.Nat.{add-mul}
use native.Mathlib.Omega.{arith}
use lib.Dec.{ltb}
use lib.IntN.{ℤ, pos, negsuc, suc_ℤ, pred_ℤ, neg_ℤ, sub_ℕ, ◌+ℤ◌, ◌-ℤ◌, ◌*ℤ◌, +ℤ_assoc, +ℤ_comm, +ℤ_one, -ℤ_one, +ℤ-neg_ℤ_cancel, neg_ℤ-+ℤ}
use borrow.Author.Differences.{up, down}
use borrow.Author.Tests.{lt-ltb, le-ltb, ltb-true, ltb-false}
use Rattle.std.proofs.lemmas.Int.{ints}

pub sub-neg : (n k : ℕ) → n < k → sub_ℕ n k ≡ negsuc (k - suc n)
sub-neg n k h = ap (λ (t : Bool). cond t (negsuc (k - suc n)) (pos (n - k))) (lt-ltb n k h)

pub sub-pos : (n k : ℕ) → k ≤ n → sub_ℕ n k ≡ pos (n - k)
sub-pos n k h = ap (λ (t : Bool). cond t (negsuc (k - suc n)) (pos (n - k))) (le-ltb n k h)

-- either way
pub sub_cases {ℓ} : (P : ℤ → Type ℓ) (n k : ℕ) → (n < k → P (negsuc (k - suc n))) → (k ≤ n → P (pos (n - k))) → P (sub_ℕ n k)
sub_cases P n k f g = go (ltb n k) refl
  where
    go : (t : Bool) → ltb n k ≡ t → P (cond t (negsuc (k - suc n)) (pos (n - k)))
    go true e = f (ltb-true n k e)
    go false e = g (ltb-false n k e)

pub pos-sub : (k a : ℕ) → pos a ≡ sub_ℕ (k + a) k
pos-sub k a = let e : a ≡ k + a - k = omega arith in ap pos e ∙ sym (sub-pos (k + a) k (omega arith))

pub neg-sub : (k a : ℕ) → suc a ≤ k → negsuc a ≡ sub_ℕ (k - suc a) k
neg-sub k a h = let e : a ≡ k - suc (k - suc a) = omega arith in ap negsuc e ∙ sym (sub-neg (k - suc a) k (omega arith))

sub_is : (n k : ℕ) → sub_ℕ n k ≡ pos n -ℤ pos k
sub_is n zero = let e : n - 0 ≡ n + 0 = omega arith in sub-pos n 0 (omega arith) ∙ ap pos e
sub_is n (suc k) = refl

-- for `omega` with the rules `ints`
pub sub-differ : (n k : ℕ) → up (sub_ℕ n k) + k ≡ n + down (sub_ℕ n k)
sub-differ n k = omega (arith, ints, sub_is n k)

pub sub-add : (n k a : ℕ) → sub_ℕ n k +ℤ pos a ≡ sub_ℕ (n + a) k
sub-add n k a =
    ap (λ (z : ℤ). z +ℤ pos a) (sub_is n k)
    ∙ +ℤ_assoc (pos n) (neg_ℤ (pos k)) (pos a)
    ∙ ap (λ (z : ℤ). pos n +ℤ z) (+ℤ_comm (neg_ℤ (pos k)) (pos a))
    ∙ sym (+ℤ_assoc (pos n) (pos a) (neg_ℤ (pos k)))
    ∙ sym (sub_is (n + a) k)

pub sub_back : (n k a : ℕ) → sub_ℕ (n + a) k -ℤ pos a ≡ sub_ℕ n k
sub_back n k a = ap (λ (z : ℤ). z -ℤ pos a) (sym (sub-add n k a)) ∙ +ℤ-neg_ℤ_cancel (sub_ℕ n k) (pos a)

pub sub-less : (n k e : ℕ) → sub_ℕ n k -ℤ pos e ≡ sub_ℕ n (k + e)
sub-less n k e =
    ap (λ (z : ℤ). z -ℤ pos e) (sub_is n k)
    ∙ +ℤ_assoc (pos n) (neg_ℤ (pos k)) (neg_ℤ (pos e))
    ∙ ap (λ (z : ℤ). pos n +ℤ z) (sym (neg_ℤ-+ℤ (pos k) (pos e)))
    ∙ sym (sub_is n (k + e))

pub sub-suc : (n k : ℕ) → suc_ℤ (sub_ℕ n k) ≡ sub_ℕ (n + 1) k
sub-suc n k = sym (+ℤ_one (sub_ℕ n k)) ∙ sub-add n k 1

pub sub-pred : (n k : ℕ) → pred_ℤ (sub_ℕ (n + 1) k) ≡ sub_ℕ n k
sub-pred n k = sym (-ℤ_one (sub_ℕ (n + 1) k)) ∙ sub_back n k 1

-- ---- a product, and a quotient rounded down
less-mul : (a b u : ℕ) → b ≤ a → a * u ≡ b * u + (a - b) * u
less-mul a b u h = let e : a ≡ b + (a - b) = omega arith in ap (λ (x : ℕ). x * u) e ∙ add-mul b (a - b) u

neg-pos : (x : ℕ) → 1 ≤ x → neg_ℤ (pos x) ≡ negsuc (x - 1)
neg-pos zero h = absurd (omega arith)
neg-pos (suc x) h = let e : x ≡ suc x - 1 = omega arith in ap negsuc e

pub sub-mul : (n k u : ℕ) → 0 < u → sub_ℕ n k *ℤ pos u ≡ sub_ℕ (n * u) (k * u)
sub-mul n k u h = sub_cases (λ z. z *ℤ pos u ≡ sub_ℕ (n * u) (k * u)) n k below above
  where
    at_least : (a : ℕ) → 1 ≤ a → u ≤ a * u
    at_least a g = let e = less-mul a 1 u g in let o : 1 * u ≡ u = omega arith in omega arith

    above : k ≤ n → pos ((n - k) * u) ≡ sub_ℕ (n * u) (k * u)
    above g = let m = less-mul n k u g in let e : (n - k) * u ≡ n * u - k * u = omega arith in ap pos e ∙ sym (sub-pos (n * u) (k * u) (omega arith))

    below : n < k → neg_ℤ (pos (suc (k - suc n) * u)) ≡ sub_ℕ (n * u) (k * u)
    below g =
        let s : suc (k - suc n) ≡ k - n = omega arith in
        let m = less-mul k n u (omega arith) in
        let l = at_least (k - n) (omega arith) in
        let t : suc (k - suc n) * u ≡ (k - n) * u = ap (λ (x : ℕ). x * u) s in
        let e : suc (k - suc n) * u - 1 ≡ k * u - suc (n * u) = omega arith in
        neg-pos (suc (k - suc n) * u) (omega arith) ∙ ap negsuc e ∙ sym (sub-neg (n * u) (k * u) (omega arith))
