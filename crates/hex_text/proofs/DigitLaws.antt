-- Writing digits into a slice, one after the other. Assumes nothing.
use Prim.Native.Nat.{ℕ, ◌+◌, ◌*◌, ◌/◌, ◌%◌, ◌≤◌, ◌<◌}
use mathlib.Core.Path.{◌≡◌, refl, sym, ap, ◌∙◌}
use mathlib.Core.List.{List, [], ◌∷◌, ◌++◌, append_assoc}
use native.Mathlib.Omega.{arith}
use native.Mathlib.Numerals.{add-one}
use borrow.Author.Tests.{le-leb, lt-leb, lt-ltb, le-ltb}
use lib.ListN.{length, get_or, take, drop, set, length-append}
use lib.Seq.{take-suc, set_at, append_snoc, length-take-le}
use Rattle.uuid_text.specs.Rfc4122.{small_digit, hex_text}
use Rattle.uuid_text.proofs.Digits.{drop-two}
use Rattle.hex_text.specs.Hex.{hex_of, decimal}

pub length-hex_of : (s : List ℕ) → length (hex_of s) ≡ 2 * length s
unfolding hex_text
length-hex_of [] = refl
length-hex_of (b ∷ s) = let e = length-hex_of s in omega arith

pub hex_of-more : (s : List ℕ) (b : ℕ) → hex_of (s ++ (b ∷ [])) ≡ hex_of s ++ (small_digit (b / 16) ∷ small_digit (b % 16) ∷ [])
unfolding hex_text
hex_of-more [] b = refl
hex_of-more (a ∷ s) b = ap (λ (t : List ℕ). small_digit (a / 16) ∷ small_digit (a % 16) ∷ t) (hex_of-more s b)

-- two elements behind p
set-two : (p q : List ℕ) (a b x y n : ℕ) → length p ≡ n → set (set (p ++ a ∷ b ∷ q) n x) (n + 1) y ≡ p ++ (x ∷ y ∷ []) ++ q
set-two p q a b x y n e =
    let l : length (p ++ (x ∷ [])) ≡ n + 1 = length-append p (x ∷ []) ∙ omega arith in
    ap (λ (t : List ℕ). set t (n + 1) y) (set_at p a (b ∷ q) x n e ∙ sym (append_snoc p x (b ∷ q)))
    ∙ set_at (p ++ (x ∷ [])) b q y (n + 1) l
    ∙ simp append_assoc

-- the digits of one byte more
pub hex-step : (s o : List ℕ) (i x y : ℕ) → i < length s → 2 * length s ≤ length o → x ≡ small_digit (get_or s i 0 / 16) → y ≡ small_digit (get_or s i 0 % 16)
    → set (set (hex_of (take i s) ++ drop (2 * i) o) (2 * i) x) (2 * i + 1) y ≡ hex_of (take (i + 1) s) ++ drop (2 * (i + 1)) o
hex-step s o i x y h room ex ey =
    let b = get_or s i 0 in
    let p = hex_of (take i s) in
    let lp : length p ≡ 2 * i = length-hex_of (take i s) ∙ ap (λ (k : ℕ). 2 * k) (length-take-le i s (omega arith)) in
    let e : 2 * i + 2 ≡ 2 * (i + 1) = omega arith in
    let more : hex_of (take (i + 1) s) ≡ p ++ (small_digit (b / 16) ∷ small_digit (b % 16) ∷ []) = rw (add-one, take-suc s i 0 h) (hex_of-more (take i s) b) in
    ap (λ (t : List ℕ). set (set (p ++ t) (2 * i) x) (2 * i + 1) y) (drop-two o (2 * i) (omega arith))
    ∙ set-two p (drop (2 * i + 2) o) (get_or o (2 * i) 0) (get_or o (2 * i + 1) 0) x y (2 * i) lp
    ∙ rw (ex, ey, more, e) refl

-- ---- decimal digits

pub small_one : (n : ℕ) → n < 10 → small_digit n ≡ 0x30 + n
unfolding small_digit
small_one n h = rw (le-leb n 9 (omega arith)) (omega arith)

pub small-letter : (n : ℕ) → 10 ≤ n → small_digit n ≡ 0x57 + n
unfolding small_digit
small-letter n h = rw (lt-leb n 9 (omega arith)) (omega arith)

pub decimal-one : (n : ℕ) → n < 10 → decimal n ≡ small_digit n ∷ []
unfolding decimal
decimal-one n h = simp (lt-ltb n 10 h)

pub decimal-two : (n : ℕ) → 10 ≤ n → decimal n ≡ small_digit (n / 10) ∷ small_digit (n % 10) ∷ []
unfolding decimal
decimal-two n h = simp (le-ltb n 10 h)

-- one and two elements at the front of a list
pub front-one : (o : List ℕ) (x : ℕ) → 1 ≤ length o → set o 0 x ≡ (x ∷ []) ++ drop 1 o
front-one [] x h = absurd (omega arith)
front-one (a ∷ o) x h = refl

pub front-two : (o : List ℕ) (x y : ℕ) → 2 ≤ length o → set (set o 0 x) 1 y ≡ (x ∷ y ∷ []) ++ drop 2 o
front-two [] x y h = absurd (omega arith)
front-two (a ∷ []) x y h = absurd (omega arith)
front-two (a ∷ b ∷ o) x y h = refl
