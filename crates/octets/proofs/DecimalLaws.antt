-- Code points as bytes: what resolve_decimal makes of a String.
use Prim.Native.Nat.{ℕ, suc, ◌≤◌, ◌<◌}
use mathlib.Core.Path.{◌≡◌}
use mathlib.Core.List.{List, [], ◌∷◌}
use mathlib.Core.Option.{Option, none, some}
use mathlib.Core.Bool.{Bool, true, false, ◌||◌}
use native.Mathlib.Omega.{arith}
use borrow.Author.Tests.{ne_eqb, lt-ltb, le-ltb}
use lib.Dec.{eqb}
use lib.ListN.{length}
use Rattle.base.specs.Base.{when◌then◌else◌, stop, after}
use Rattle.utf8.specs.Utf8.{is_utf8, code_points, points_from, ended, step_of, digits_of, all_latin1}
use Rattle.frame.specs.Kind
use Rattle.frame.specs.Tree.{Value, kind_of, octets}
use Rattle.types.specs.Types.{decimal_of_bytes, point_bytes, text_points, fixed_too_short, resolve_decimal}
use Rattle.types.specs.Contract.{or_none, points}
use Rattle.types.proofs.Strings.{point_bytes-is}

-- ---- code points of a text

pub points-are : (s x : List ℕ) → is_utf8 s ≡ true → code_points s ≡ (when is_utf8 s then some x else none) → x ≡ points s
unfolding points or_none
points-are s x u e = rw (e, u)

joins : (b : Bool) (q : ℕ) (l : List ℕ) (n : ℕ) → length l ≤ n → length (when b then q ∷ l else l) ≤ suc n
joins true q l n h = omega arith
joins false q l n h = omega arith

points-below : (w : _) (p : ℕ) (s : List ℕ) → length (points_from w p s) ≤ length s
unfolding points_from
points-below w p [] = omega arith
points-below w p (b ∷ s) = joins (ended (step_of w b)) (digits_of w p b) (points_from (step_of w b) (digits_of w p b) s) (length s) (points-below (step_of w b) (digits_of w p b) s)

-- a text has no more code points than bytes
pub length-points : (s : List ℕ) → length (points s) ≤ length s
unfolding points or_none code_points
length-points s = go (is_utf8 s) _ (points-below _ 0 s)
  where
    go : (b : Bool) (ps : List ℕ) → length ps ≤ length s → length (or_none (when b then some ps else none)) ≤ length s
    go true ps h = h
    go false ps h = omega arith

-- ---- code points as bytes

text-points : (t : List ℕ) → is_utf8 t ≡ true → text_points (code_points t) ≡ point_bytes (points t)
unfolding text_points code_points points or_none
text-points t u = rw u

pub decimal-accepted : (p : ℕ) (t : List ℕ) → is_utf8 t ≡ true → all_latin1 (points t) ≡ true
    → after (text_points (code_points t)) (λ s. decimal_of_bytes p s) ≡ decimal_of_bytes p (points t)
unfolding after
decimal-accepted p t u h = rw (text-points t u, point_bytes-is (points t), h)

pub decimal-refused : (p : ℕ) (t : List ℕ) → is_utf8 t ≡ true → all_latin1 (points t) ≡ false
    → after (text_points (code_points t)) (λ s. decimal_of_bytes p s) ≡ stop 6
unfolding after
decimal-refused p t u h = rw (text-points t u, point_bytes-is (points t), h)

-- ---- resolve_decimal, way by way

module _ (p c : ℕ) (size : Option ℕ) where
  pub decimal-scale : (w : Value) → p < c → resolve_decimal p c size w ≡ stop 12
  unfolding resolve_decimal
  decimal-scale w h = rw (lt-ltb p c h)

  module _ (h : c ≤ p) where
    pub decimal-size : (w : Value) → fixed_too_short p size ≡ true → resolve_decimal p c size w ≡ stop 13
    unfolding resolve_decimal
    decimal-size w g = rw (le-ltb p c h, g)

    module _ (g : fixed_too_short p size ≡ false) where
      pub decimal-bytes : (k : ℕ) (t : List ℕ) → (eqb k Kind.Decimal || eqb k Kind.Fixed || eqb k Kind.Bytes) ≡ true
          → resolve_decimal p c size (Value.Octets k t) ≡ decimal_of_bytes p t
      unfolding resolve_decimal kind_of octets
      decimal-bytes k t e = rw (le-ltb p c h, g, e)

      pub decimal-String : (t : List ℕ) → resolve_decimal p c size (Value.Octets Kind.String t) ≡ after (text_points (code_points t)) (λ s. decimal_of_bytes p s)
      unfolding resolve_decimal kind_of octets
      decimal-String t = rw (le-ltb p c h, g)

      pub decimal-other : (k : ℕ) (w : Value) → kind_of w ≡ k → (k ≡ Kind.Decimal → ⊥) → (k ≡ Kind.Fixed → ⊥) → (k ≡ Kind.Bytes → ⊥) → (k ≡ Kind.String → ⊥) → resolve_decimal p c size w ≡ stop 6
      unfolding resolve_decimal
      decimal-other k w e f1 f2 f3 f4 = rw (le-ltb p c h, g, e, ne_eqb k 14 f1, ne_eqb k 13 f2, ne_eqb k 6 f3, ne_eqb k 7 f4)
