-- Ranks stand in the order of the Longs.
use Prim.Native.Nat.{ℕ, suc, ◌+◌, ◌-◌, ◌<◌, ◌≤◌, ◌^◌}
use mathlib.Core.Path.{◌≡◌, refl, sym}
use mathlib.Core.Bool.{Bool, true, false, cond}
use native.Mathlib.Omega.{arith}
use lib.Dec.{ltb}
use lib.IntN.{ℤ, pos, negsuc}
use borrow.Author.Tests.{ltb-true, ltb-false, lt-ltb, le-ltb}
use Rattle.base.specs.Base.{when◌then◌else◌}
use Rattle.rounding.specs.Rounding.{of_twos}
use Rattle.finishes.specs.Finish.{rank}

-- less, of whole numbers
unfoldable pub lessℤ : ℤ → ℤ → Bool
lessℤ (pos m) (pos n) = ltb m n
lessℤ (pos m) (negsuc n) = false
lessℤ (negsuc m) (pos n) = true
lessℤ (negsuc m) (negsuc n) = ltb n m

alike : (a b c d : ℕ) → (a < b → c < d) → (b ≤ a → d ≤ c) → ltb a b ≡ ltb c d
alike a b c d p q = go (ltb a b) refl
  where
    go : (t : Bool) → ltb a b ≡ t → t ≡ ltb c d
    go true e = sym (lt-ltb c d (p (ltb-true a b e)))
    go false e = sym (le-ltb c d (q (ltb-false a b e)))

abbrev top : ℕ
top = 0x8000000000000000

pub rank-order : (a b : ℕ) → a < 2 ^ 64 → b < 2 ^ 64 → ltb (rank a) (rank b) ≡ lessℤ (of_twos 64 a) (of_twos 64 b)
unfolding rank lessℤ
rank-order a b ha hb = go (ltb a top) refl (ltb b top) refl
  where
    go : (s : Bool) → ltb a top ≡ s → (t : Bool) → ltb b top ≡ t → ltb (when s then a + top else a - top) (when t then b + top else b - top)
        ≡ lessℤ (cond s (pos a) (negsuc (0x10000000000000000 - suc a))) (cond t (pos b) (negsuc (0x10000000000000000 - suc b)))
    go true p true q = alike (a + top) (b + top) a b (λ h. omega (arith, h)) (λ h. omega (arith, h))
    go true p false q = le-ltb (a + top) (b - top) (omega (arith, hb))
    go false p true q = lt-ltb (a - top) (b + top) (omega (arith, ltb-false a top p, ha))
    go false p false q = alike (a - top) (b - top) (0x10000000000000000 - suc b) (0x10000000000000000 - suc a) (λ h. omega (arith, h, ltb-false a top p, ltb-false b top q, ha, hb)) (λ h. omega (arith, h, ltb-false a top p, ltb-false b top q, ha, hb))
