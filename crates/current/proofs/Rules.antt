-- The rule by seq is one by which one finish takes over from another.
use Prim.Native.Nat.{ℕ}
use mathlib.Core.Path.{◌≡◌, refl}
use mathlib.Core.Bool.{Bool, true, false, not}
use native.Mathlib.Omega.{arith}
use lib.Dec.{leb}
use borrow.Author.Tests.{leb-true, leb-false, le-leb, lt-leb}
use Rattle.current.specs.Current.{beats}
use Rattle.current.specs.Claims.{TakesOver}

decided : (a b : ℕ) → (a ≡ b → ⊥) → (t : Bool) → leb a b ≡ t → leb b a ≡ not t
decided a b n true e = lt-leb b a (omega (arith, leb-true a b e, n))
decided a b n false e = le-leb b a (omega (arith, leb-false a b e))

pub by-seq : TakesOver beats
unfolding beats
by-seq = record {
  over = λ a b c p q. le-leb a c (omega (arith, leb-true b c p, leb-true a b q));
  between = λ a b c p q. le-leb b c (omega (arith, leb-true a c p, leb-false a b q));
  decided = λ a b n. decided a b n (leb a b) refl;
}
