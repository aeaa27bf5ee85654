-- `less` is exactly the rules' order of map keys, and that order is strict and transitive.
use Prim.Native.Nat.{ℕ, ◌<◌}
use mathlib.Core.Path.{◌≡◌, refl, ◌∙◌}
use mathlib.Core.List.{[], ◌∷◌}
use mathlib.Core.Bool.{Bool, true, false}
use native.Mathlib.Omega.{arith}
use lib.Dec.{T, eqb, ltb, lt→ltb, ltb→lt}
use borrow.Author.Tests.{eqb-true, eq-eqb, ne_eqb}
use Rattle.base.specs.Base.{when◌then◌else◌}
use Rattle.text.specs.Text.{Text, less}
use Rattle.text.specs.Order.{Below, prefix, differ, share}

pub less→Below : (a b : Text) → T (less a b) → Below a b
unfolding less
less→Below a [] h = absurd h
less→Below [] (y ∷ ys) h = prefix
less→Below (x ∷ xs) (y ∷ ys) h = go (eqb x y) (λ e. eqb-true x y e) (λ t. less→Below xs ys t) h
  where
    go : (b : Bool) → (b ≡ true → x ≡ y) → (T (less xs ys) → Below xs ys) → T (when b then less xs ys else ltb x y) → Below (x ∷ xs) (y ∷ ys)
    go true e f t = share (e refl) (f t)
    go false e f t = differ (ltb→lt x y t)

pub Below→less : {a b : Text} → Below a b → T (less a b)
unfolding less
Below→less prefix = tt
Below→less (differ {x} {y} h) = rw (ne_eqb x y (λ e. omega arith)) (lt→ltb x y h)
Below→less (share {x} {y} e h) = rw (eq-eqb x y e) (Below→less h)

pub Below-trans : {a b c : Text} → Below a b → Below b c → Below a c
Below-trans prefix (differ h) = prefix
Below-trans prefix (share e h) = prefix
Below-trans (differ {x} g) (differ {y} h) = let l : x < y = omega arith in differ l
Below-trans (differ {x} g) (share {y} e h) = let l : x < y = omega arith in differ l
Below-trans (share {x} e g) (differ {y} h) = let l : x < y = omega arith in differ l
Below-trans (share e g) (share f h) = share (e ∙ f) (Below-trans g h)

pub Below→≢ : {a b : Text} → Below a b → a ≡ b → ⊥
Below→≢ prefix e = let z : ◌≡◌ {A = ℕ} 0 1 = cc in omega arith
Below→≢ (differ {x} {y} h) e = let f : x ≡ y = cc in omega arith
Below→≢ (share h l) e = Below→≢ l cc
