-- Writing a line into a slice, and the frame that a line stands for. Assumes nothing.
use Prim.Native.Nat.{ℕ, suc, ◌+◌, ◌-◌, ◌*◌, ◌/◌, ◌≤◌}
use mathlib.Core.Path.{◌≡◌, refl, sym, ap, ◌∙◌}
use mathlib.Core.List.{List, [], ◌∷◌, ◌++◌, append_assoc, append-nil}
use mathlib.Core.Option
use mathlib.Core.Option.{Option, none, some}
use mathlib.Core.Bool.{Bool, true, false}
use native.Mathlib.Omega.{arith}
use native.Mathlib.Numerals.{add-one}
use borrow.Author.Rules.{part_to_end}
use lib.Dec.{ltb}
use lib.ListN.{length, get_or, take, drop, set, length-append, length-drop, drop_of_length-le, take-append-drop}
use lib.Seq.{take_at, drop_at, drop-cons, drop-drop, set_at, length-take-le}
use Rattle.std.specs.Prelude.{Result, Ok, Err}
use Rattle.std.specs.Result.{result_unwrap_or}
use Rattle.base.specs.Base.{when◌then◌else◌, ok, stop}
use Rattle.text.specs.Text.{Text, ascii}
use Rattle.uuid_text.specs.Uuid.{hex_bytes}
use Rattle.hex_text.specs.Hex.{frame_of, hex_of, decimal}
use Rattle.hex_text.specs.Line.{sized, line_frame, LineHeld}
use Rattle.hex_text.specs.declared.HexError.{HexError}
use Rattle.hex_text.specs.declared.HexError.TheVariants.{TooLong}
use Rattle.hex_text.proofs.DigitLaws.{length-hex_of}
use Rattle.lines.specs.Cut.{newline}
use Rattle.lines.specs.Line.{answer_line, held_frame}

-- ---- a line around its characters

-- a newline behind the n characters from the second place on
close : (x y n e : ℕ) (q : List ℕ) → n + 1 ≤ length q → set (x ∷ y ∷ q) (n + 2) e ≡ (x ∷ y ∷ []) ++ take n q ++ (e ∷ []) ++ drop (n + 1) q
close x y n e q h =
    let split : q ≡ take n q ++ get_or q n 0 ∷ drop (suc n) q = sym (take-append-drop n q) ∙ ap (λ (t : List ℕ). take n q ++ t) (drop-cons q n 0 (omega arith)) in
    let lp : length (x ∷ y ∷ take n q) ≡ n + 2 = omega (arith, length-take-le n q (omega arith)) in
    ap (λ (t : List ℕ). set (x ∷ y ∷ t) (n + 2) e) split
    ∙ set_at (x ∷ y ∷ take n q) (get_or q n 0) (drop (suc n) q) e (n + 2) lp
    ∙ rw add-one (sym (append_assoc (x ∷ y ∷ take n q) (e ∷ []) (drop (suc n) q)))

behind : (a b n : ℕ) (q : List ℕ) → drop (n + 1) q ≡ drop (n + 3) (a ∷ b ∷ q)
behind a b n q =
    let e : 2 + (n + 1) ≡ n + 3 = omega arith in
    drop-drop (n + 1) 2 (a ∷ b ∷ q) ∙ ap (λ (k : ℕ). drop k (a ∷ b ∷ q)) e

pub around-is : (x y n e : ℕ) (o : List ℕ) → n + 3 ≤ length o → set (set (set o 0 x) 1 y) (n + 2) e ≡ (x ∷ y ∷ []) ++ take n (drop 2 o) ++ (e ∷ []) ++ drop (n + 3) o
around-is x y n e [] h = absurd (omega arith)
around-is x y n e (a ∷ []) h = absurd (omega arith)
around-is x y n e (a ∷ b ∷ q) h =
    close x y n e q (omega arith)
    ∙ ap (λ (t : List ℕ). (x ∷ y ∷ take n q) ++ (e ∷ []) ++ t) (behind a b n q)

-- what a slice holds once its part from the second place on was lent and came back as y
abbrev pub lent : List ℕ → List ℕ → List ℕ
lent o y = take 2 o ++ (y ++ drop (length o - 2) (drop 2 o))

-- the n characters h were written to the front of that part
module _ (h o y : List ℕ) (n : ℕ) (l : n ≡ length h) (g : n + 3 ≤ length o) (w : y ≡ h ++ drop n (take (length o - 2) (drop 2 o))) where
  three : (z : List ℕ) → drop (n + 3) z ≡ drop 1 (drop n (drop 2 z))
  three z =
      let i : 2 + n + 1 ≡ n + 3 = omega arith in
      sym (ap (drop 1) (drop-drop n 2 z) ∙ drop-drop 1 (2 + n) z ∙ ap (λ (k : ℕ). drop k z) i)

  lent_is : lent o y ≡ take 2 o ++ (h ++ drop n (drop 2 o))
  lent_is =
      let d : drop (length o - 2) (drop 2 o) ≡ [] = drop_of_length-le (drop 2 o) {i = length o - 2} (omega (arith, length-drop 2 o)) in
      rw (w, part_to_end, d, append-nil)

  pub line_is : (x y' e : ℕ) (o' : List ℕ) → o' ≡ (x ∷ y' ∷ []) ++ take n (drop 2 (lent o y)) ++ (e ∷ []) ++ drop (n + 3) (lent o y)
      → o' ≡ ((x ∷ y' ∷ []) ++ h ++ (e ∷ [])) ++ drop (n + 3) o
  line_is x y' e o' p =
      let q = drop 2 o in
      let two : length (take 2 o) ≡ 2 = length-take-le 2 o (omega arith) in
      let back : drop 2 (lent o y) ≡ h ++ drop n q = ap (drop 2) lent_is ∙ drop_at (take 2 o) (h ++ drop n q) 2 two in
      let front : take n (drop 2 (lent o y)) ≡ h = ap (take n) back ∙ take_at h (drop n q) n (sym l) in
      let behind : drop n (drop 2 (lent o y)) ≡ drop n q = ap (drop n) back ∙ drop_at h (drop n q) n (sym l) in
      let rest : drop (n + 3) (lent o y) ≡ drop (n + 3) o = three (lent o y) ∙ ap (drop 1) behind ∙ sym (three o) in
      p
      ∙ ap (λ (t : List ℕ). (x ∷ y' ∷ []) ++ t ++ (e ∷ []) ++ drop (n + 3) (lent o y)) front
      ∙ ap (λ (t : List ℕ). (x ∷ y' ∷ []) ++ h ++ (e ∷ []) ++ t) rest

-- ---- the lines of both answers

pub length-ok : (r : List ℕ) → length (answer_line (ok r)) ≡ 2 * length r + 3
unfolding answer_line ascii
length-ok r = omega (arith, length-append (0x2b ∷ 0x20 ∷ hex_of r) (newline ∷ []), length-hex_of r)

pub length-stop : (n : ℕ) → length (answer_line (stop n)) ≡ length (decimal n) + 3
unfolding answer_line ascii
length-stop n = omega (arith, length-append (0x2d ∷ 0x20 ∷ decimal n) (newline ∷ []))

ok_same : (r o o' : List ℕ) (n : ℕ) → n + 3 ≡ length (answer_line (ok r)) → o' ≡ ((0x2b ∷ 0x20 ∷ []) ++ hex_of r ++ (newline ∷ [])) ++ drop (n + 3) o
    → o' ≡ answer_line (ok r) ++ drop (length (answer_line (ok r))) o
unfolding answer_line ascii
ok_same r o o' n e p = p ∙ ap (λ (k : ℕ). ((0x2b ∷ 0x20 ∷ []) ++ hex_of r ++ (newline ∷ [])) ++ drop k o) e

pub ok-line : (r o y o' : List ℕ) (m : ℕ) → 2 * length r + 3 ≤ length o → y ≡ hex_of r ++ drop (2 * length r) (take (length o - 2) (drop 2 o))
    → (m ≡ 2 * length r + 3) × (o' ≡ (0x2b ∷ 0x20 ∷ []) ++ take (2 * length r) (drop 2 (lent o y)) ++ (newline ∷ []) ++ drop (2 * length r + 3) (lent o y))
    → (m ≡ length (answer_line (ok r))) × (o' ≡ answer_line (ok r) ++ drop (length (answer_line (ok r))) o)
ok-line r o y o' m g w p =
    let e : 2 * length r + 3 ≡ length (answer_line (ok r)) = sym (length-ok r) in
    (p.0 ∙ e, ok_same r o o' (2 * length r) e (line_is (hex_of r) o y (2 * length r) (sym (length-hex_of r)) g w 0x2b 0x20 newline o' p.1))

stop-same : (k n : ℕ) (o o' : List ℕ) → n + 3 ≡ length (answer_line (stop k)) → o' ≡ ((0x2d ∷ 0x20 ∷ []) ++ decimal k ++ (newline ∷ [])) ++ drop (n + 3) o
    → o' ≡ answer_line (stop k) ++ drop (length (answer_line (stop k))) o
unfolding answer_line ascii
stop-same k n o o' e p = p ∙ ap (λ (j : ℕ). ((0x2d ∷ 0x20 ∷ []) ++ decimal k ++ (newline ∷ [])) ++ drop j o) e

pub no_line : (k n m : ℕ) (o y o' : List ℕ) → n ≡ length (decimal k) → n + 3 ≤ length o → y ≡ decimal k ++ drop (length (decimal k)) (take (length o - 2) (drop 2 o))
    → (m ≡ n + 3) × (o' ≡ (0x2d ∷ 0x20 ∷ []) ++ take n (drop 2 (lent o y)) ++ (newline ∷ []) ++ drop (n + 3) (lent o y))
    → (m ≡ length (answer_line (stop k))) × (o' ≡ answer_line (stop k) ++ drop (length (answer_line (stop k))) o)
no_line k n m o y o' l g w p =
    let e : n + 3 ≡ length (answer_line (stop k)) = omega (arith, length-stop k) in
    let v : y ≡ decimal k ++ drop n (take (length o - 2) (drop 2 o)) = w ∙ ap (λ (j : ℕ). decimal k ++ drop j (take (length o - 2) (drop 2 o))) (sym l) in
    (p.0 ∙ e, stop-same k n o o' e (line_is (decimal k) o y n l g v 0x2d 0x20 newline o' p.1))

-- ---- the frame of a line

held_at : (room : ℕ) (l : Text) (b : Bool) (h : Option (List ℕ)) → ltb room (length l / 2) ≡ b → hex_bytes l ≡ h
    → (line_frame room l ≡ (when b then Err TooLong else sized h)) × (held_frame room l ≡ (when b then [] else Option.get_or h []))
unfolding line_frame held_frame frame_of
held_at room l b h p q = (rw (p, q), rw (p, q))

module _ (f : Result ℕ HexError) (l o o' : List ℕ) (e : f ≡ line_frame (length o) l) (h : LineHeld f l o o') where
  -- the frame where there is one, no bytes where there is none
  pub frame-of : (n : ℕ) → n ≡ result_unwrap_or f 0 → ((n ≡ length (held_frame (length o) l)) × (n ≤ length o')) × (take n o' ≡ held_frame (length o) l)
  unfolding sized LineHeld
  frame-of n p = go (ltb (length o) (length l / 2)) (hex_bytes l) refl refl
    where
      go : (b : Bool) (x : Option (List ℕ)) → ltb (length o) (length l / 2) ≡ b → hex_bytes l ≡ x → ((n ≡ length (held_frame (length o) l)) × (n ≤ length o')) × (take n o' ≡ held_frame (length o) l)
      go true x q r =
          let i : n ≡ 0 = p ∙ ap (λ (t : Result ℕ HexError). result_unwrap_or t 0) (e ∙ (held_at (length o) l true x q r).0) in
          rw ((held_at (length o) l true x q r).1, i) ((refl, omega arith), refl)
      go false none q r =
          let i : n ≡ 0 = p ∙ ap (λ (t : Result ℕ HexError). result_unwrap_or t 0) (e ∙ (held_at (length o) l false none q r).0) in
          rw ((held_at (length o) l false none q r).1, i) ((refl, omega arith), refl)
      go false (some b) q r =
          let w : f ≡ Ok (length b) = e ∙ (held_at (length o) l false (some b) q r).0 in
          let i : n ≡ length b = p ∙ ap (λ (t : Result ℕ HexError). result_unwrap_or t 0) w in
          let k : held_frame (length o) l ≡ b = (held_at (length o) l false (some b) q r).1 in
          let g : LineHeld (Ok (length b)) l o o' = rw w at h in
          rw k ((i, omega (arith, g.0, g.1)), ap (take n) (g.2 b r) ∙ take_at b (drop (length b) o) n (sym i))
