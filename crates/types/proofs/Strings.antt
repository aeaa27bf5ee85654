-- What a String becomes under a Bytes, a Fixed and a Decimal schema: its bytes or its code points, and how many there must be.
use Prim.Native.Nat.{ℕ, ◌≤◌}
use mathlib.Core.Path.{◌≡◌, refl}
use mathlib.Core.List.{List, [], ◌∷◌}
use mathlib.Core.Option.{Option, none, some}
use mathlib.Core.Bool.{Bool, true, false, ◌&&◌}
use borrow.Author.Tests.{eq-eqb, ne_eqb, le-ltb}
use lib.Dec.{leb}
use lib.ListN.{length}
use Rattle.base.specs.Base.{when◌then◌else◌, Result, ok, stop, after}
use Rattle.utf8.specs.Utf8.{lead_of, step_of, run, is_utf8, lead_digits, digits_of, points_from, code_points, all_latin1}
use Rattle.decimal.specs.Decimal.{too_short_for}
use Rattle.frame.specs.Kind
use Rattle.frame.specs.Tree.{Value, kind_of, octets}
use Rattle.types.specs.Types.{resolve_bytes, resolve_fixed, point_bytes, text_points, fixed_too_short, resolve_decimal}

-- ---- Bytes: the bytes of its UTF-8, not its code points

pub string-into-bytes : (t : List ℕ) → resolve_bytes (Value.Octets Kind.String t) ≡ ok (Value.Octets Kind.Bytes t)
unfolding resolve_bytes kind_of octets
string-into-bytes t = refl

-- ---- Fixed: the bytes of its UTF-8, as many as the size (Q-6)

-- one character of two bytes has the size 2, and not 1
pub bytes_counted : resolve_fixed 2 (Value.Octets Kind.String (0xc3 ∷ 0xa9 ∷ [])) ≡ ok (Value.Octets Kind.Fixed (0xc3 ∷ 0xa9 ∷ []))
unfolding resolve_fixed kind_of octets
bytes_counted = refl

pub string-into-fixed : (size : ℕ) (t : List ℕ) → length t ≡ size → resolve_fixed size (Value.Octets Kind.String t) ≡ ok (Value.Octets Kind.Fixed t)
unfolding resolve_fixed kind_of octets
string-into-fixed size t h = rw (eq-eqb (length t) size h)

pub string-of-another-size : (size : ℕ) (t : List ℕ) → (length t ≡ size → ⊥) → resolve_fixed size (Value.Octets Kind.String t) ≡ stop 10
unfolding resolve_fixed kind_of octets
string-of-another-size size t h = rw (ne_eqb (length t) size h)

-- ---- Decimal: a byte for each code point, enough for the precision (Q-6)

-- U+0100 is no byte, and one byte would be too few for the precision 4: 6 comes first
pub six-first : resolve_decimal 4 0 none (Value.Octets Kind.String (0xc4 ∷ 0x80 ∷ [])) ≡ stop 6
unfolding resolve_decimal fixed_too_short text_points point_bytes code_points is_utf8 run step_of lead_of lead_digits digits_of points_from kind_of octets after
six-first = refl

pub point_bytes-is : (ps : List ℕ) → point_bytes ps ≡ (when all_latin1 ps then ok ps else stop 6)
unfolding point_bytes all_latin1
point_bytes-is [] = refl
point_bytes-is (p ∷ ps) = rw (point_bytes-is ps) (go (leb p 255) (all_latin1 ps))
  where
    go : (a b : Bool) → ◌≡◌ {A = Result (List ℕ)} (when a then after (when b then ok ps else stop 6) (λ s. ok (p ∷ s)) else stop 6) (when a && b then ok (p ∷ ps) else stop 6)
    go true true = unfold after in refl
    go true false = unfold after in refl
    go false b = refl

-- a text t with the code points ps, where neither 12 nor 13 stops the schema
module _ (precision scale : ℕ) (size : Option ℕ) (h : scale ≤ precision) (g : fixed_too_short precision size ≡ false) (t ps : List ℕ) (e : code_points t ≡ some ps) where
  pub string-into-decimal : all_latin1 ps ≡ true → too_short_for precision (length ps) ≡ false
      → resolve_decimal precision scale size (Value.Octets Kind.String t) ≡ ok (Value.Octets Kind.Decimal ps)
  unfolding resolve_decimal text_points kind_of octets after
  string-into-decimal l q = rw (le-ltb precision scale h, g, e, point_bytes-is ps, l, q)

  pub string-of-too-few : all_latin1 ps ≡ true → too_short_for precision (length ps) ≡ true
      → resolve_decimal precision scale size (Value.Octets Kind.String t) ≡ stop 14
  unfolding resolve_decimal text_points kind_of octets after
  string-of-too-few l q = rw (le-ltb precision scale h, g, e, point_bytes-is ps, l, q)

  -- a code point above 255 gives 6, however many there are
  pub string-above : all_latin1 ps ≡ false → resolve_decimal precision scale size (Value.Octets Kind.String t) ≡ stop 6
  unfolding resolve_decimal text_points kind_of octets after
  string-above l = rw (le-ltb precision scale h, g, e, point_bytes-is ps, l)
