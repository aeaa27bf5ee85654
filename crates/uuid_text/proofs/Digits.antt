-- Hexadecimal digits: what a value below 16 says of a character, and pairs of digits read from the front. Assumes nothing.
use Prim.Native.Nat.{ℕ, suc, ◌+◌, ◌-◌, ◌*◌, ◌≤◌, ◌<◌}
use mathlib.Core.Path.{◌≡◌, refl, ap, sym, ◌∙◌}
use mathlib.Core.List.{List, [], ◌∷◌, ◌++◌}
use mathlib.Core.Option.{Option, none, some}
use mathlib.Core.Bool.{Bool, true, false, and-eq-true_iff}
use borrow.Author.Tests.{leb-true}
use native.Mathlib.Omega.{arith}
use lib.Dec.{leb}
use lib.ListN.{length, get_or, drop}
use lib.Seq.{drop-cons, append_snoc}
use Rattle.std.specs.Prelude.{Some, None}
use Rattle.std.specs.Prelude as std
use Rattle.base.specs.Base.{when◌then◌else◌, within}
use Rattle.uuid_text.specs.Uuid.{hex_digit, hex_pair, hex_bytes, parsed}
use Rattle.uuid_text.specs.Forms.{or_sixteen}

-- ---- one digit
-- a value, if there is one, is below 16
unfoldable pub Small : Option ℕ → Type 0
Small none = Unit {0}
Small (some v) = v < 16

small-if : (b : Bool) (v : ℕ) (x : Option ℕ) → (b ≡ true → v < 16) → Small x → Small (when b then some v else x)
unfolding Small
small-if true v x h s = h refl
small-if false v x h s = s

below : (low high c k : ℕ) → high + k < low + 16 → within low high c ≡ true → c - low + k < 16
below low high c k h e =
    let p = (and-eq-true_iff (leb low c) (leb c high)).0 e in
    omega (arith, leb-true low c p.0, leb-true c high p.1)

pub small-hex_digit : (c : ℕ) → Small (hex_digit c)
unfolding hex_digit Small
small-hex_digit c =
    small-if (within 0x30 0x39 c) (c - 0x30) _ (λ e. let l = below 0x30 0x39 c 0 (omega arith) e in omega arith)
    (small-if (within 0x61 0x66 c) (c - 0x61 + 10) _ (below 0x61 0x66 c 10 (omega arith))
    (small-if (within 0x41 0x46 c) (c - 0x41 + 10) none (below 0x41 0x46 c 10 (omega arith)) tt))

some_of : (x : Option ℕ) (r : ℕ) → r ≡ or_sixteen x → r < 16 → x ≡ some r
unfolding or_sixteen
some_of none r e h = absurd (omega arith)
some_of (some v) r e h = ap some (sym e)

none_of : (x : Option ℕ) (r : ℕ) → Small x → r ≡ or_sixteen x → 16 ≤ r → x ≡ none
unfolding or_sixteen Small
none_of none r s e h = refl
none_of (some v) r s e h = absurd (omega arith)

-- what a value with 16 for none says
pub hex_digit-some : (c r : ℕ) → r ≡ or_sixteen (hex_digit c) → r < 16 → hex_digit c ≡ some r
hex_digit-some c r e h = some_of (hex_digit c) r e h

pub hex_digit-none : (c r : ℕ) → r ≡ or_sixteen (hex_digit c) → 16 ≤ r → hex_digit c ≡ none
hex_digit-none c r e h = none_of (hex_digit c) r (small-hex_digit c) e h

-- what an answer says of what was to be read
pub parsed-some : {A : Type 0} (x : Option A) (a : A) → ◌≡◌ {A = std.Option A} (Some a) (parsed x) → x ≡ some a
parsed-some none a e = let z : ◌≡◌ {A = ℕ} 0 1 = cc in absurd (omega arith)
parsed-some (some b) a e = cc

pub parsed-none : {A : Type 0} (x : Option A) → ◌≡◌ {A = std.Option A} None (parsed x) → x ≡ none
parsed-none none e = refl
parsed-none (some a) e = let z : ◌≡◌ {A = ℕ} 0 1 = cc in absurd (omega arith)

-- a digit that is read is below 16
pub digit-small : (c v : ℕ) → hex_digit c ≡ some v → v < 16
unfolding Small
digit-small c v e = rw e at (small-hex_digit c)

-- ---- pairs
pub drop-two : (d : List ℕ) (j : ℕ) → j + 2 ≤ length d → drop j d ≡ get_or d j 0 ∷ get_or d (j + 1) 0 ∷ drop (j + 2) d
drop-two d j h =
    let e1 : j + 1 ≡ suc j = omega arith in
    let e2 : j + 2 ≡ suc (suc j) = omega arith in
    rw (e1, e2) (drop-cons d j 0 (omega arith) ∙ ap (λ (l : List ℕ). get_or d j 0 ∷ l) (drop-cons d (suc j) 0 (omega arith)))

-- the digits from a place on: a pair, and the digits behind it
pub hex_bytes-drop : (d : List ℕ) (j : ℕ) → j + 2 ≤ length d
    → hex_bytes (drop j d) ≡ hex_pair (hex_digit (get_or d j 0)) (hex_digit (get_or d (j + 1) 0)) (hex_bytes (drop (j + 2) d))
unfolding hex_bytes
hex_bytes-drop d j h = ap hex_bytes (drop-two d j h)

-- bytes that were read before
unfoldable pub behind : List ℕ → Option (List ℕ) → Option (List ℕ)
behind a none = none
behind a (some b) = some (a ++ b)

pub behind-nil : (x : Option (List ℕ)) → behind [] x ≡ x
unfolding behind
behind-nil none = refl
behind-nil (some b) = refl

pub behind-pair : (a : List ℕ) (h l : ℕ) (x : Option (List ℕ)) → behind a (hex_pair (some h) (some l) x) ≡ behind (a ++ ((h * 16 + l) ∷ [])) x
unfolding behind hex_pair
behind-pair a h l none = refl
behind-pair a h l (some b) = ap some (sym (append_snoc a (h * 16 + l) b))
