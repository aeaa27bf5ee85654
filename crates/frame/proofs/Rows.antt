-- The rules' table by what a node takes: the rows of value contents, each with its kinds, and the kinds of schemas without content.
use Prim.Native.Nat.{ℕ, suc, ◌+◌, ◌≤◌, ◌<◌}
use mathlib.Core.Path.{◌≡◌, refl, ap, ◌∙◌}
use mathlib.Core.List.Memᴰ
use mathlib.Core.List.{List, [], ◌∷◌, Memᴰ}
use mathlib.Core.Logic.{◌↔◌, ◌⊎◌, inl, inr}
use mathlib.Core.Bool.{Bool, true, false, ◌&&◌, ◌||◌, not}
use native.Mathlib.Omega.{arith}
use lib.Dec.{T, leb, ltb, eqb, leb→le, eqb→eq}
use borrow.Author.Tests.{leb-true, eqb-true}
use lib.ListN.{length, length-append}
use lib.Ieee.Fits.{and_l, and_r}
use Rattle.base.proofs.AllBelow.{all_below, all_below-lookup}
use Rattle.number.specs.Number.{bytes_of}
use Rattle.number.proofs.Laws.{length-bytes_of}
use Rattle.utf8.specs.Utf8.{is_utf8}
use Rattle.frame.specs.Kind
use Rattle.frame.specs.Tree.{Value, kind_of, octets}
use Rattle.frame.specs.ValueFrame.{Content, wide, flag, counted, text, plain, array, map, union, entries, symbol, unknown, contents, kind_content, write_text, write_scalar, write_octets, encode_value}
use Rattle.frame.specs.SchemaFrame.{bare}
use Rattle.frame.proofs.ContentTable.{each-content}
use Rattle.frame.proofs.RoundTrip.{held, scalar_held, octets_held}

-- a test of each row
all : {A : Type 0} → (A → Bool) → List A → Bool
all f [] = true
all f (x ∷ xs) = f x && all f xs

all_lookup : {A : Type 0} (f : A → Bool) (xs : List A) → T (all f xs) → (x : A) → Memᴰ x xs → T (f x)
unfolding all
all_lookup f [] h x m = absurd (Memᴰ.not-nil m)
all_lookup f (y ∷ ys) h x m = go (Memᴰ.cases_cons m) (all_lookup f ys (and_r (f y) (all f ys) h) x)
  where
    go : (x ≡ y) ⊎ Memᴰ x ys → (Memᴰ x ys → T (f x)) → T (f x)
    go (inl e) k = rw e (and_l (f y) (all f ys) h)
    go (inr n) k = k n

-- ---- so many bytes behind the kind

-- kind, bytes: Null; Boolean; Int, Float, Date, TimeMillis; Long, Double, TimeMicros, the timestamps; Uuid; Duration
unfoldable pub sizes : List (ℕ × ℕ)
sizes =
    (0x00, 0) ∷ (0x01, 1) ∷ (0x02, 4) ∷ (0x04, 4) ∷ (0x10, 4) ∷ (0x11, 4) ∷ (0x03, 8) ∷ (0x05, 8) ∷ (0x12, 8) ∷ (0x13, 8) ∷ (0x14, 8) ∷ (0x15, 8) ∷ (0x16, 8) ∷ (0x17, 8) ∷ (0x18, 8)
    ∷ (0x0f, 16) ∷ (0x19, 12) ∷ []

takes : Content → ℕ → Bool
takes (wide w) n = eqb w n
takes flag n = eqb 1 n
takes counted n = false
takes text n = false
takes (plain w) n = eqb w n
takes array n = false
takes map n = false
takes union n = false
takes entries n = false
takes symbol n = false
takes unknown n = false

sizes-hold : T (all (λ e. takes (kind_content e.0) e.1) sizes)
unfolding all sizes takes contents
sizes-hold = tt

scalar-takes : (c : Content) (n w : ℕ) → T (scalar_held c n) → T (takes c w) → length (write_scalar c n) ≡ w
unfolding scalar_held takes write_scalar
scalar-takes (wide v) n w h t = length-bytes_of v n ∙ eqb→eq v w t
scalar-takes flag n w h t = length-bytes_of 1 n ∙ eqb→eq 1 w t
scalar-takes counted n w h t = absurd t
scalar-takes text n w h t = absurd t
scalar-takes (plain v) n w h t = absurd h
scalar-takes array n w h t = absurd t
scalar-takes map n w h t = absurd t
scalar-takes union n w h t = absurd t
scalar-takes entries n w h t = absurd t
scalar-takes symbol n w h t = absurd t
scalar-takes unknown n w h t = absurd t

octets-take : (c : Content) (b : List ℕ) (w : ℕ) → T (octets_held c b) → T (takes c w) → length (write_octets c b) ≡ w
unfolding octets_held takes write_octets
octets-take (wide v) b w h t = absurd h
octets-take flag b w h t = absurd h
octets-take counted b w h t = absurd t
octets-take text b w h t = absurd t
octets-take (plain v) b w h t = eqb→eq (length b) v h ∙ eqb→eq v w t
octets-take array b w h t = absurd t
octets-take map b w h t = absurd t
octets-take union b w h t = absurd t
octets-take entries b w h t = absurd t
octets-take symbol b w h t = absurd t
octets-take unknown b w h t = absurd t

-- a value of that kind takes the kind byte and so many more
pub size_is : (v : Value) (w : ℕ) → Memᴰ (kind_of v, w) sizes → (d : ℕ) → T (held v (suc d)) → length (encode_value v) ≡ suc w
unfolding held encode_value kind_of takes contents
size_is v w m d h = go v (all_lookup (λ e. takes (kind_content e.0) e.1) sizes sizes-hold (kind_of v, w) m) h
  where
    go : (v : Value) → T (takes (kind_content (kind_of v)) w) → T (held v (suc d)) → length (encode_value v) ≡ suc w
    go (Value.Scalar k n) t h = ap suc (scalar-takes (kind_content k) n w h t)
    go (Value.Octets k b) t h = ap suc (octets-take (kind_content k) b w h t)
    go (Value.Enum i s) t h = absurd t
    go (Value.Array vs) t h = absurd t
    go (Value.Map es) t h = absurd t
    go (Value.Record es) t h = absurd t
    go (Value.Union i v) t h = absurd t

-- ---- a length and bytes behind the kind: Bytes, String, Fixed, Decimal

unfoldable pub lengths : List ℕ
lengths = 0x06 ∷ 0x07 ∷ 0x0d ∷ 0x0e ∷ []

has_length : Content → Bool
has_length (wide w) = false
has_length flag = false
has_length counted = true
has_length text = true
has_length (plain w) = false
has_length array = false
has_length map = false
has_length union = false
has_length entries = false
has_length symbol = false
has_length unknown = false

lengths-hold : T (all (λ k. has_length (kind_content k)) lengths)
unfolding all lengths has_length contents
lengths-hold = tt

counted-length : (c : Content) (b : List ℕ) → T (has_length c) → length (write_octets c b) ≡ 2 + length b
unfolding has_length write_octets write_text
counted-length (wide w) b t = absurd t
counted-length flag b t = absurd t
counted-length counted b t = length-append (bytes_of 2 (length b)) b ∙ ap (λ (n : ℕ). n + length b) (length-bytes_of 2 (length b))
counted-length text b t = length-append (bytes_of 2 (length b)) b ∙ ap (λ (n : ℕ). n + length b) (length-bytes_of 2 (length b))
counted-length (plain w) b t = absurd t
counted-length array b t = absurd t
counted-length map b t = absurd t
counted-length union b t = absurd t
counted-length entries b t = absurd t
counted-length symbol b t = absurd t
counted-length unknown b t = absurd t

no_number : (c : Content) (n : ℕ) → T (has_length c) → T (scalar_held c n) → ⊥
unfolding has_length scalar_held
no_number (wide w) n t h = t
no_number flag n t h = t
no_number counted n t h = h
no_number text n t h = h
no_number (plain w) n t h = t
no_number array n t h = t
no_number map n t h = t
no_number union n t h = t
no_number entries n t h = t
no_number symbol n t h = t
no_number unknown n t h = t

pub length-is : (v : Value) → Memᴰ (kind_of v) lengths → (d : ℕ) → T (held v (suc d)) → length (encode_value v) ≡ 3 + length (octets v)
unfolding held encode_value kind_of octets has_length contents
length-is v m d h = go v (all_lookup (λ k. has_length (kind_content k)) lengths lengths-hold (kind_of v) m) h
  where
    one_more : (n : ℕ) → suc (2 + n) ≡ 3 + n
    one_more n = omega arith

    go : (v : Value) → T (has_length (kind_content (kind_of v))) → T (held v (suc d)) → length (encode_value v) ≡ 3 + length (octets v)
    go (Value.Scalar k n) t h = absurd (no_number (kind_content k) n t h)
    go (Value.Octets k b) t h = ap suc (counted-length (kind_content k) b t) ∙ one_more (length b)
    go (Value.Enum i s) t h = absurd t
    go (Value.Array vs) t h = absurd t
    go (Value.Map es) t h = absurd t
    go (Value.Record es) t h = absurd t
    go (Value.Union i v) t h = absurd t

-- ---- texts and flags

-- the bytes of a String are UTF-8
pub string-utf8 : (b : List ℕ) (d : ℕ) → T (held (Value.Octets Kind.String b) (suc d)) → T (is_utf8 b)
unfolding held octets_held contents
string-utf8 b d h = and_r (ltb (length b) 65536) (is_utf8 b) h

-- those of Bytes, Fixed and Decimal are any
pub any-bytes : (k : ℕ) → Memᴰ k (Kind.Bytes ∷ Kind.Fixed ∷ Kind.Decimal ∷ []) → (b : List ℕ) → T (ltb (length b) 65536) → (d : ℕ) → T (held (Value.Octets k b) (suc d))
unfolding held octets_held contents
any-bytes k m b l d = go (Memᴰ.cases_cons m)
  where
    last : (k ≡ Kind.Decimal) ⊎ Memᴰ k [] → T (octets_held (kind_content k) b)
    last (inl e) = rw e l
    last (inr n) = absurd (Memᴰ.not-nil n)

    second : (k ≡ Kind.Fixed) ⊎ Memᴰ k (Kind.Decimal ∷ []) → T (octets_held (kind_content k) b)
    second (inl e) = rw e l
    second (inr n) = last (Memᴰ.cases_cons n)

    go : (k ≡ Kind.Bytes) ⊎ Memᴰ k (Kind.Fixed ∷ Kind.Decimal ∷ []) → T (octets_held (kind_content k) b)
    go (inl e) = rw e l
    go (inr n) = second (Memᴰ.cases_cons n)

-- a Boolean is 00 or 01
pub boolean-flag : (n d : ℕ) → T (held (Value.Scalar Kind.Boolean n) (suc d)) → n ≤ 1
unfolding held scalar_held contents
boolean-flag n d h = leb→le n 1 h

-- ---- no kind is past 19

known : ℕ → Content → Bool
known k (wide w) = leb k 0x19
known k flag = leb k 0x19
known k counted = leb k 0x19
known k text = leb k 0x19
known k (plain w) = leb k 0x19
known k array = leb k 0x19
known k map = leb k 0x19
known k union = leb k 0x19
known k entries = leb k 0x19
known k symbol = leb k 0x19
known k unknown = true

known-holds : T (all_below 26 (λ k. known k (kind_content k)))
unfolding all_below known contents
known-holds = tt

scalar-known : (k : ℕ) (c : Content) (n : ℕ) → T (known k c) → T (scalar_held c n) → T (leb k 0x19)
unfolding known scalar_held
scalar-known k (wide w) n t h = t
scalar-known k flag n t h = t
scalar-known k counted n t h = t
scalar-known k text n t h = t
scalar-known k (plain w) n t h = t
scalar-known k array n t h = t
scalar-known k map n t h = t
scalar-known k union n t h = t
scalar-known k entries n t h = t
scalar-known k symbol n t h = t
scalar-known k unknown n t h = absurd h

octets-known : (k : ℕ) (c : Content) (b : List ℕ) → T (known k c) → T (octets_held c b) → T (leb k 0x19)
unfolding known octets_held
octets-known k (wide w) n t h = t
octets-known k flag n t h = t
octets-known k counted n t h = t
octets-known k text n t h = t
octets-known k (plain w) n t h = t
octets-known k array n t h = t
octets-known k map n t h = t
octets-known k union n t h = t
octets-known k entries n t h = t
octets-known k symbol n t h = t
octets-known k unknown n t h = absurd h

pub kind-known : (v : Value) (d : ℕ) → T (held v (suc d)) → kind_of v ≤ 0x19
unfolding held kind_of known
kind-known (Value.Scalar k n) d h = leb→le k 0x19 (scalar-known k (kind_content k) n (each-content known (λ k. tt) known-holds k) h)
kind-known (Value.Octets k b) d h = leb→le k 0x19 (octets-known k (kind_content k) b (each-content known (λ k. tt) known-holds k) h)
kind-known (Value.Enum i s) d h = omega arith
kind-known (Value.Array vs) d h = omega arith
kind-known (Value.Map es) d h = omega arith
kind-known (Value.Record es) d h = omega arith
kind-known (Value.Union i v) d h = omega arith

-- ---- schemas without content: 00 to 07 and 10 to 18

unfoldable pub contentless : List ℕ
contentless =
    0x00 ∷ 0x01 ∷ 0x02 ∷ 0x03 ∷ 0x04 ∷ 0x05 ∷ 0x06 ∷ 0x07 ∷ 0x10 ∷ 0x11 ∷ 0x12 ∷ 0x13 ∷ 0x14 ∷ 0x15 ∷ 0x16 ∷ 0x17 ∷ 0x18 ∷ []

among : ℕ → List ℕ → Bool
among k [] = false
among k (x ∷ xs) = eqb k x || among k xs

among_there : (k : ℕ) (xs : List ℕ) → T (among k xs) → Memᴰ k xs
unfolding among
among_there k [] h = absurd h
among_there k (x ∷ xs) h = go (eqb k x) (λ e. eqb-true k x e) h (λ t. among_there k xs t)
  where
    go : (b : Bool) → (b ≡ true → k ≡ x) → T (b || among k xs) → (T (among k xs) → Memᴰ k xs) → Memᴰ k (x ∷ xs)
    go true e t f = Memᴰ.head (e refl)
    go false e t f = Memᴰ.tail (f t)

bare-small : (k : ℕ) → T (bare k) → k < 25
bare-small k h = go (leb k Kind.String) (leb Kind.Date k) (leb k Kind.LocalTimestampNanos) (λ e. leb-true k 7 e) (λ e. leb-true k 24 e) h
  where
    go : (a b c : Bool) → (a ≡ true → k ≤ 7) → (c ≡ true → k ≤ 24) → T (a || (b && c)) → k < 25
    go true b c e f t = omega (arith, e refl)
    go false true true e f t = omega (arith, f refl)
    go false true false e f t = absurd t
    go false false c e f t = absurd t

bare-holds : T (all_below 25 (λ k. not (bare k) || among k contentless))
unfolding all_below among contentless
bare-holds = tt

contentless-hold : T (all bare contentless)
unfolding all contentless
contentless-hold = tt

pub bare-kinds : (k : ℕ) → T (bare k) ↔ Memᴰ k contentless
bare-kinds k = (there, all_lookup bare contentless contentless-hold k)
  where
    pick : (b c : Bool) → T (not b || c) → T b → T c
    pick true c h t = h
    pick false c h t = absurd t

    there : T (bare k) → Memᴰ k contentless
    there h =
        among_there k contentless (pick (bare k) (among k contentless) (all_below-lookup 25 (λ k. not (bare k) || among k contentless) bare-holds k (bare-small k h)) h)
