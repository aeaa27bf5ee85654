-- A piece is held behind what is held of a line, and a line is cut from what is still to be cut. Assumes nothing.
use Prim.Native.Nat.{ℕ, suc, ◌+◌, ◌-◌, ◌≤◌, ◌<◌}
use mathlib.Core.Path.{◌≡◌, refl, sym, ap, ◌∙◌}
use mathlib.Core.List.{List, ◌++◌, append_assoc}
use mathlib.Core.Option.{Option, none, some}
use mathlib.Core.Bool.{Bool, true, false}
use native.Mathlib.Omega.{arith}
use borrow.Author.Tests.{ltb-true, ltb-false, lt-ltb, le-ltb}
use lib.Dec.{ltb}
use lib.ListN.{length, take, drop, length-append, length-drop, drop_of_length-le}
use lib.Seq.{length-take-le, take-add, take-take, take_at, drop_at, drop-drop}
use Rattle.base.specs.Base.{when◌then◌else◌}
use Rattle.text.specs.Text.{Text}
use Rattle.lines.specs.Cut.{line_end, has_newline, first_line, behind_line}
use Rattle.lines.specs.Held.{Held, uncut, held_line, more}
use Rattle.lines.specs.declared.input.Reader.{Reader}
use Rattle.lines.proofs.CutLaws.{line_end-le}

-- ---- what is held of a line

held_none : (r : Reader) (line : List ℕ) → r.long ≡ true → held_line r line ≡ none
unfolding held_line
held_none r line e = ap (λ (b : Bool). when b then none else some (take r.filled line)) e

held-some : (r : Reader) (line : List ℕ) → r.long ≡ false → held_line r line ≡ some (take r.filled line)
unfolding held_line
held-some r line e = ap (λ (b : Bool). when b then none else some (take r.filled line)) e

pub held_same : (r t : Reader) (line : List ℕ) → t.filled ≡ r.filled → t.long ≡ r.long → held_line t line ≡ held_line r line
unfolding held_line
held_same r t line f l = ap (λ (b : Bool). when b then none else some (take t.filled line)) l ∙ ap (λ (k : ℕ). when r.long then none else some (take k line)) f

more-none : (room : ℕ) (p : Text) → more room none p ≡ none
unfolding more
more-none room p = refl

more-over : (room : ℕ) (t p : Text) → room < length t + length p → more room (some t) p ≡ none
unfolding more
more-over room t p h = ap (λ (b : Bool). when b then none else some (t ++ p)) (lt-ltb room (length t + length p) h)

more-fits : (room : ℕ) (t p : Text) → length t + length p ≤ room → more room (some t) p ≡ some (t ++ p)
unfolding more
more-fits room t p h = ap (λ (b : Bool). when b then none else some (t ++ p)) (le-ltb room (length t + length p) h)

-- a piece behind another is held as both in one
pub more-more : (room : ℕ) (h : Option Text) (p q : Text) → more room (more room h p) q ≡ more room h (p ++ q)
more-more room none p q = ap (λ (o : Option Text). more room o q) (more-none room p) ∙ more-none room q ∙ sym (more-none room (p ++ q))
more-more room (some t) p q = go (ltb room (length t + length p)) refl (ltb room (length t + length p + length q)) refl
  where
    go : (b : Bool) → ltb room (length t + length p) ≡ b → (d : Bool) → ltb room (length t + length p + length q) ≡ d
        → more room (more room (some t) p) q ≡ more room (some t) (p ++ q)
    go true e d f =
        let g : room < length t + length (p ++ q) = omega (arith, ltb-true room (length t + length p) e, length-append p q) in
        ap (λ (o : Option Text). more room o q) (more-over room t p (ltb-true room (length t + length p) e)) ∙ more-none room q ∙ sym (more-over room t (p ++ q) g)
    go false e true f =
        let g : room < length (t ++ p) + length q = omega (arith, ltb-true room (length t + length p + length q) f, length-append t p) in
        let i : room < length t + length (p ++ q) = omega (arith, ltb-true room (length t + length p + length q) f, length-append p q) in
        ap (λ (o : Option Text). more room o q) (more-fits room t p (ltb-false room (length t + length p) e)) ∙ more-over room (t ++ p) q g ∙ sym (more-over room t (p ++ q) i)
    go false e false f =
        let g : length (t ++ p) + length q ≤ room = omega (arith, ltb-false room (length t + length p + length q) f, length-append t p) in
        let i : length t + length (p ++ q) ≤ room = omega (arith, ltb-false room (length t + length p + length q) f, length-append p q) in
        ap (λ (o : Option Text). more room o q) (more-fits room t p (ltb-false room (length t + length p) e))
        ∙ more-fits room (t ++ p) q g
        ∙ ap (λ (x : Text). some x) (append_assoc t p q)
        ∙ sym (more-fits room t (p ++ q) i)

-- ---- a piece behind it

-- the line is long already
pub kept-long : (r : Reader) (room : ℕ) (line piece : List ℕ) → r.long ≡ true → held_line r line ≡ more room (held_line r line) piece
kept-long r room line piece l =
    let e : held_line r line ≡ none = held_none r line l in
    e ∙ sym (ap (λ (o : Option Text). more room o piece) e ∙ more-none room piece)

module _ (r t : Reader) (line piece : List ℕ) (l : r.long ≡ false) (h : r.filled ≤ length line) where
  held-length : length (take r.filled line) ≡ r.filled
  held-length = length-take-le r.filled line h

  -- the piece makes it long
  pub kept-over : t.long ≡ true → length line - r.filled < length piece → held_line t line ≡ more (length line) (held_line r line) piece
  kept-over m g =
      held_none t line m
      ∙ sym (ap (λ (o : Option Text). more (length line) o piece) (held-some r line l) ∙ more-over (length line) (take r.filled line) piece (omega (arith, held-length)))

  -- the piece fits, and was copied to y, the part of the line's buffer behind what is held
  pub kept-fits : (y : List ℕ) → t.long ≡ false → t.filled ≡ r.filled + length piece → length piece ≤ length line - r.filled
      → y ≡ piece ++ drop (length piece) (take (length line - r.filled) (drop r.filled line))
      → held_line t (take r.filled line ++ (y ++ drop (length line - r.filled) (drop r.filled line))) ≡ more (length line) (held_line r line) piece
  kept-fits y m f g w =
      let a = take r.filled line in
      let d = drop (length piece) (take (length line - r.filled) (drop r.filled line)) in
      let e = drop (length line - r.filled) (drop r.filled line) in
      let n : length (a ++ piece) ≡ t.filled = omega (arith, length-append a piece, held-length) in
      let s : a ++ (y ++ e) ≡ (a ++ piece) ++ (d ++ e) = ap (λ (z : List ℕ). a ++ (z ++ e)) w ∙ simp append_assoc in
      held-some t (a ++ (y ++ e)) m
      ∙ ap (λ (z : List ℕ). some (take t.filled z)) s
      ∙ ap (λ (z : List ℕ). some z) (take_at (a ++ piece) (d ++ e) t.filled n)
      ∙ sym (ap (λ (o : Option Text). more (length line) o piece) (held-some r line l) ∙ more-fits (length line) a piece (omega (arith, held-length)))

-- ---- a line's end in what is to be cut

uncut-at : (r t : Reader) (block : List ℕ) (k : ℕ) → t.at ≡ r.at + k → t.end ≡ r.end → uncut t block ≡ drop k (uncut r block)
unfolding uncut
uncut-at r t block k a e =
    ap (λ (i : ℕ). drop i (take t.end block)) a
    ∙ ap (λ (j : ℕ). drop (r.at + k) (take j block)) e
    ∙ sym (drop-drop k r.at (take r.end block))

module _ (r : Reader) (block line : List ℕ) (h : Held r block line) where
  uncut-part : take (r.end - r.at) (drop r.at block) ≡ uncut r block
  unfolding uncut
  uncut-part =
      let m : r.at + (r.end - r.at) ≡ r.end = omega (arith, h.order) in
      let l : length (take r.at block) ≡ r.at = length-take-le r.at block (omega (arith, h.order, h.block_holds)) in
      sym (
      ap (λ (k : ℕ). drop r.at (take k block)) (sym m)
      ∙ ap (drop r.at) (take-add r.at (r.end - r.at) block)
      ∙ drop_at (take r.at block) (take (r.end - r.at) (drop r.at block)) r.at l)

  uncut-length : length (uncut r block) ≡ r.end - r.at
  uncut-length =
      ap length (sym uncut-part)
      ∙ length-take-le (r.end - r.at) (drop r.at block) (omega (arith, h.order, h.block_holds, length-drop r.at block))

  module _ (n : ℕ) (e : n ≡ line_end (take (r.end - r.at) (drop r.at block))) where
    end_is : n ≡ line_end (uncut r block)
    end_is = e ∙ ap line_end uncut-part

    end-in : n ≤ r.end - r.at
    end-in = omega (arith, end_is, uncut-length, line_end-le (uncut r block))

    -- what is handed to the line
    pub piece_is : take (r.at + n - r.at) (drop r.at block) ≡ first_line (uncut r block)
    piece_is =
        let k : r.at + n - r.at ≡ n = omega arith in
        ap (λ (i : ℕ). take i (drop r.at block)) k
        ∙ sym (take-take n (r.end - r.at) (drop r.at block) end-in)
        ∙ ap (take n) uncut-part
        ∙ ap (λ (i : ℕ). take i (uncut r block)) end_is

    -- what is held then
    pub cut-held : (t u : Reader) (line' : List ℕ) → u.filled ≡ t.filled → u.long ≡ t.long
        → held_line t line' ≡ more (length line) (held_line r line) (take (r.at + n - r.at) (drop r.at block))
        → held_line u line' ≡ more (length line) (held_line r line) (first_line (uncut r block))
    cut-held t u line' f l w = held_same t u line' f l ∙ w ∙ ap (more (length line) (held_line r line)) piece_is

    -- the line goes on past the block
    pub cut-open : (u : Reader) → r.at + n ≡ r.end → u.at ≡ r.end → u.end ≡ r.end → u.whole ≡ false
        → (u.whole ≡ has_newline (uncut r block)) × (uncut u block ≡ behind_line (uncut r block))
    cut-open u g a b w =
        let s = uncut r block in
        let k : length s ≤ line_end s = omega (arith, end_is, uncut-length) in (
          w ∙ sym (le-ltb (line_end s) (length s) k),
          uncut-at r u block n (a ∙ sym g) b
              ∙ drop_of_length-le s {i = n} (omega (arith, end_is))
              ∙ sym (drop_of_length-le s {i = suc (line_end s)} (omega arith)),
        )

    -- the line ends in the block
    pub cut-whole : (u : Reader) → (r.at + n ≡ r.end → ⊥) → u.at ≡ r.at + n + 1 → u.end ≡ r.end → u.whole ≡ true
        → (u.whole ≡ has_newline (uncut r block)) × (uncut u block ≡ behind_line (uncut r block))
    cut-whole u g a b w =
        let s = uncut r block in
        let k : line_end s < length s = omega (arith, end_is, uncut-length, end-in, h.order) in
        let i : u.at ≡ r.at + suc (line_end s) = omega (arith, end_is) in
        (w ∙ sym (lt-ltb (line_end s) (length s) k), uncut-at r u block (suc (line_end s)) i b)
