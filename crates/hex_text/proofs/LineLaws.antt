-- Reading a line pair by pair: what the pairs so far and the characters behind them give is what the whole line gives. Assumes nothing.
use Prim.Native.Nat.{ℕ, suc, ◌+◌, ◌*◌, ◌/◌, ◌≤◌, ◌<◌}
use mathlib.Core.Path.{◌≡◌, refl, sym, ap, ◌∙◌}
use mathlib.Core.List.{List, [], ◌∷◌, ◌++◌, append-nil}
use mathlib.Core.Option.{Option, none, some}
use native.Mathlib.Omega.{arith}
use native.Mathlib.Numerals.{add-one}
use borrow.Author.Tests.{lt-ltb, le-ltb}
use lib.ListN.{length, get_or, take, drop, set, length-set, drop_of_length-le, take-append-drop}
use lib.Seq.{drop-cons, drop-drop, drop-set-lt, take-suc-set, length-take-le}
use Rattle.uuid_text.specs.Uuid.{hex_digit, hex_pair, hex_bytes, parsed}
use Rattle.uuid_text.proofs.Digits.{hex_bytes-drop, behind, behind-nil, behind-pair}
use Rattle.hex_text.specs.Line.{sized, line_frame, LineHeld}
use Rattle.hex_text.specs.declared.HexError.{HexError}
use Rattle.hex_text.specs.declared.HexError.TheVariants.{Broken, TooLong}
use Rattle.std.specs.Prelude.{Result, Ok, Err, MatchResult}
use Rattle.std.specs.Prelude as std
use Rattle.std.specs.Option.{ok_or}

-- i pairs of the line d are read into o, which held o₀
pub record Read (d o o₀ : List ℕ) (i : ℕ) : Type 0 where
  pub size : length o ≡ length o₀
  pub rest : drop i o ≡ drop i o₀
  pub whole : behind (take i o) (hex_bytes (drop (2 * i) d)) ≡ hex_bytes d

pub read-nothing : (d o : List ℕ) → Read d o o 0
read-nothing d o = record { size = refl; rest = refl; whole = behind-nil (hex_bytes d) }

pub read-pair : (d o o₀ : List ℕ) (i h l : ℕ) → 2 * i + 2 ≤ length d → i < length o
    → hex_digit (get_or d (2 * i) 0) ≡ some h → hex_digit (get_or d (2 * i + 1) 0) ≡ some l
    → Read d o o₀ i → Read d (set o i (h * 16 + l)) o₀ (i + 1)
read-pair d o o₀ i h l fits room high low r =
    let v = h * 16 + l in
    let e : 2 * (i + 1) ≡ 2 * i + 2 = omega arith in
    let pair : hex_bytes (drop (2 * i) d) ≡ hex_pair (some h) (some l) (hex_bytes (drop (2 * i + 2) d)) = hex_bytes-drop d (2 * i) fits ∙ rw (high, low) refl in
    let front : take (i + 1) (set o i v) ≡ take i o ++ (v ∷ []) = rw add-one (take-suc-set o i v room) in
    record {
      size = length-set o i v ∙ r.size;
      rest = drop-set-lt (i + 1) o i v (omega arith) ∙ sym (drop-drop 1 i o) ∙ ap (drop 1) r.rest ∙ drop-drop 1 i o₀;
      whole = rw (e, front) (sym (behind-pair (take i o) h l (hex_bytes (drop (2 * i + 2) d))) ∙ ap (behind (take i o)) (sym pair) ∙ r.whole);
    }

-- what is left of the line is broken, and so the line is
broken-rest : (d o o₀ : List ℕ) (i : ℕ) → Read d o o₀ i → hex_bytes (drop (2 * i) d) ≡ none → hex_bytes d ≡ none
unfolding behind
broken-rest d o o₀ i r e = sym r.whole ∙ ap (behind (take i o)) e

pub high-broken : (d o o₀ : List ℕ) (i : ℕ) → 2 * i + 2 ≤ length d → hex_digit (get_or d (2 * i) 0) ≡ none → Read d o o₀ i → hex_bytes d ≡ none
unfolding hex_pair
high-broken d o o₀ i fits high r = broken-rest d o o₀ i r (hex_bytes-drop d (2 * i) fits ∙ rw high refl)

pub low-broken : (d o o₀ : List ℕ) (i h : ℕ) → 2 * i + 2 ≤ length d → hex_digit (get_or d (2 * i) 0) ≡ some h → hex_digit (get_or d (2 * i + 1) 0) ≡ none
    → Read d o o₀ i → hex_bytes d ≡ none
unfolding hex_pair
low-broken d o o₀ i h fits high low r = broken-rest d o o₀ i r (hex_bytes-drop d (2 * i) fits ∙ rw (high, low) refl)

pub odd-broken : (d o o₀ : List ℕ) (i : ℕ) → length d ≡ 2 * i + 1 → Read d o o₀ i → hex_bytes d ≡ none
unfolding hex_bytes
odd-broken d o o₀ i odd r =
    let end : drop (suc (2 * i)) d ≡ [] = drop_of_length-le d {i = suc (2 * i)} (omega arith) in
    broken-rest d o o₀ i r (ap hex_bytes (drop-cons d (2 * i) 0 (omega arith) ∙ ap (λ (t : List ℕ). get_or d (2 * i) 0 ∷ t) end))

pub all_read : (d o o₀ : List ℕ) (i : ℕ) → length d ≡ 2 * i → Read d o o₀ i → hex_bytes d ≡ some (take i o)
unfolding hex_bytes behind
all_read d o o₀ i even r =
    let end : drop (2 * i) d ≡ [] = drop_of_length-le d {i = 2 * i} (omega arith) in
    sym r.whole ∙ ap (λ (t : List ℕ). behind (take i o) (hex_bytes t)) end ∙ ap some (append-nil (take i o))

-- ---- one character, whose value or Broken is asked for
digit_or : (x : Option ℕ) (r : std.Option ℕ) (v : Result ℕ HexError) → r ≡ parsed x → v ≡ ok_or r Broken → MatchResult v (λ k. x ≡ some k) (λ e. (x ≡ none) × (e ≡ Broken))
digit_or none r v p q = rw (q, p) (refl, refl)
digit_or (some k) r v p q = rw (q, p) refl

pub digit-read : (c v : ℕ) (r : std.Option ℕ) → r ≡ parsed (hex_digit c) → Ok v ≡ ok_or r Broken → hex_digit c ≡ some v
digit-read c v r p q = digit_or (hex_digit c) r (Ok v) p q

pub digit-broken : (c : ℕ) (e : HexError) (r : std.Option ℕ) → r ≡ parsed (hex_digit c) → Err e ≡ ok_or r Broken → (hex_digit c ≡ none) × (e ≡ Broken)
digit-broken c e r p q = digit_or (hex_digit c) r (Err e) p q

-- ---- the answers

pub long-line : (room : ℕ) (d : List ℕ) → room < length d / 2 → Err TooLong ≡ line_frame room d
unfolding line_frame
long-line room d h = simp (lt-ltb room (length d / 2) h)

pub broken-line : (room : ℕ) (d : List ℕ) → length d / 2 ≤ room → hex_bytes d ≡ none → Err Broken ≡ line_frame room d
unfolding line_frame sized
broken-line room d h e = simp (le-ltb room (length d / 2) h, e)

pub whole-line : (d o o₀ : List ℕ) (i : ℕ) → i ≤ length o₀ → length d ≡ 2 * i → Read d o o₀ i → Ok i ≡ line_frame (length o₀) d
unfolding line_frame sized
whole-line d o o₀ i room even r =
    simp (le-ltb (length o₀) (length d / 2) (omega arith), all_read d o o₀ i even r, length-take-le i o (omega (arith, r.size)))

pub held : (d o o₀ : List ℕ) (i : ℕ) → i ≤ length o₀ → length d ≡ 2 * i → Read d o o₀ i → LineHeld (Ok i) d o₀ o
unfolding LineHeld
held d o o₀ i room even r = (room, r.size, (λ b e. front b e))
  where
    front : (b : List ℕ) → hex_bytes d ≡ some b → o ≡ b ++ drop (length b) o₀
    front b e =
        let f : hex_bytes d ≡ some (take i o) = all_read d o o₀ i even r in
        let same : take i o ≡ b = cc in
        let n : length b ≡ i = ap length (sym same) ∙ length-take-le i o (omega (arith, r.size)) in
        sym (take-append-drop i o) ∙ ap (λ (t : List ℕ). take i o ++ t) r.rest ∙ ap (λ (t : List ℕ). t ++ drop i o₀) same ∙ ap (λ (k : ℕ). b ++ drop k o₀) (sym n)
