-- The first newline ends the first line of a text, also where the line comes in pieces. Assumes nothing.
use Prim.Native.Nat.{ℕ, suc, ◌+◌, ◌≤◌, ◌<◌, suc-le-suc}
use mathlib.Core.Path.{◌≡◌, refl, sym, ap, ◌∙◌}
use mathlib.Core.List.{List, [], ◌∷◌, ◌++◌}
use mathlib.Core.Bool.{Bool, true, false, cond}
use native.Mathlib.Omega.{arith}
use native.Mathlib.Nat.{le_of_suc-le-suc, suc_inj}
use borrow.Author.Tests.{ltb-false}
use lib.Dec.{eqb, ltb}
use lib.ListN.{length, take, drop, length-append}
use lib.Seq.{take-append-add, drop-append-add}
use Rattle.std.proofs.lemmas.List.Recursion.{is_position_or_len}
use Rattle.std.specs.List.{position, position_or_len}
use Rattle.std.specs.Prelude.{Some, None}
use Rattle.std.specs.Option.{unwrap_or}
use Rattle.base.specs.Base.{when◌then◌else◌}
use Rattle.text.specs.Text.{Text}
use Rattle.lines.specs.Cut.{newline, onto, lines, line_end, first_line, behind_line}

-- ---- the search

end-le : (b : Bool) (n k : ℕ) → n ≤ k → (when b then 0 else suc n) ≤ suc k
end-le true n k h = omega arith
end-le false n k h = suc-le-suc h

pub line_end-le : (s : Text) → line_end s ≤ length s
unfolding line_end
line_end-le [] = omega arith
line_end-le (c ∷ s) = end-le (eqb c newline) (line_end s) (length s) (line_end-le s)

end-step : (b : Bool) (n : ℕ) → (when b then 0 else suc n) ≡ cond b 0 (1 + n)
end-step true n = refl
end-step false n = omega arith

line_end-cons : (c : ℕ) (s : Text) → line_end (c ∷ s) ≡ cond (eqb c newline) 0 (1 + line_end s)
unfolding line_end
line_end-cons c s = end-step (eqb c newline) (line_end s)

line_end-nil : line_end [] ≡ 0
unfolding line_end
line_end-nil = refl

-- the place that std's search finds, all characters where it finds none
pub line_end-found : (s : Text) → unwrap_or (position (λ c. eqb c newline) s) (length s) ≡ line_end s
line_end-found s = go (ltb (position_or_len (λ c. eqb c newline) s) (length s)) refl
  where
    at : line_end s ≡ position_or_len (λ c. eqb c newline) s
    at = is_position_or_len line_end (λ c. eqb c newline) line_end-nil line_end-cons s

    go : (b : Bool) → ltb (position_or_len (λ c. eqb c newline) s) (length s) ≡ b
        → unwrap_or (cond b (Some (position_or_len (λ c. eqb c newline) s)) None) (length s) ≡ line_end s
    go true e = sym at
    go false e = omega (arith, ltb-false (position_or_len (λ c. eqb c newline) s) (length s) e, line_end-le s, at)

-- ---- the lines

first_step : (b : Bool) (c : ℕ) (s : Text) (ls : List Text) (n : ℕ) → (n < length s → ls ≡ take n s ∷ lines (drop (suc n) s))
    → (when b then 0 else suc n) < suc (length s)
    → (when b then [] ∷ lines s else onto c ls) ≡ take (when b then 0 else suc n) (c ∷ s) ∷ lines (drop (suc (when b then 0 else suc n)) (c ∷ s))
unfolding onto
first_step true c s ls n f h = refl
first_step false c s ls n f h = ap (onto c) (f (le_of_suc-le-suc h))

-- where there is a newline, the characters before it are the first line, and those behind it the other lines
pub lines-first : (s : Text) → line_end s < length s → lines s ≡ first_line s ∷ lines (behind_line s)
unfolding line_end lines
lines-first [] h = absurd (omega arith)
lines-first (c ∷ s) h = first_step (eqb c newline) c s (lines s) (line_end s) (λ g. lines-first s g) h

-- a text as its only line
abbrev only : Text → List Text
only [] = []
only (c ∷ s) = (c ∷ s) ∷ []

onto-only : (c : ℕ) (s : Text) → onto c (only s) ≡ (c ∷ s) ∷ []
unfolding onto
onto-only c [] = refl
onto-only c (d ∷ s) = refl

last_step : (b : Bool) (c : ℕ) (s : Text) (n : ℕ) → (n ≡ length s → lines s ≡ only s) → (when b then 0 else suc n) ≡ suc (length s)
    → (when b then [] ∷ lines s else onto c (lines s)) ≡ (c ∷ s) ∷ []
last_step true c s n f h = absurd (omega arith)
last_step false c s n f h = ap (onto c) (f (suc_inj h)) ∙ onto-only c s

lines-only : (s : Text) → line_end s ≡ length s → lines s ≡ only s
unfolding line_end lines
lines-only [] h = refl
lines-only (c ∷ s) h = last_step (eqb c newline) c s (line_end s) (λ g. lines-only s g) h

-- where there is none, all characters are one line
pub lines-last : (s : Text) → line_end s ≡ length s → 0 < length s → lines s ≡ s ∷ []
lines-last [] h g = absurd (omega arith)
lines-last (c ∷ s) h g = lines-only (c ∷ s) h

-- ---- a line in pieces

module _ (s : Text) where
  piece-step : (b : Bool) (n k m : ℕ) → (n ≡ k → m ≡ k + line_end s) → (when b then 0 else suc n) ≡ suc k → (when b then 0 else suc m) ≡ suc k + line_end s
  piece-step true n k m f h = absurd (omega arith)
  piece-step false n k m f h = omega (arith, f (suc_inj h))

  -- a piece with no newline belongs to the line that goes on behind it
  pub line_end-piece : (p : Text) → line_end p ≡ length p → line_end (p ++ s) ≡ length p + line_end s
  unfolding line_end
  line_end-piece [] h = omega arith
  line_end-piece (c ∷ p) h = piece-step (eqb c newline) (line_end p) (length p) (line_end (p ++ s)) (λ g. line_end-piece p g) h

  module _ (p : Text) (h : line_end p ≡ length p) where
    pub first_line-piece : first_line (p ++ s) ≡ p ++ first_line s
    first_line-piece = ap (λ (k : ℕ). take k (p ++ s)) (line_end-piece p h) ∙ take-append-add p s (line_end s)

    pub behind_line-piece : behind_line (p ++ s) ≡ behind_line s
    behind_line-piece =
        let e : suc (line_end (p ++ s)) ≡ length p + suc (line_end s) = omega (arith, line_end-piece p h) in
        ap (λ (k : ℕ). drop k (p ++ s)) e ∙ drop-append-add p s (suc (line_end s))

    -- so that the first line is the piece with what stands before the newline behind it
    pub lines-piece : line_end s < length s → lines (p ++ s) ≡ (p ++ first_line s) ∷ lines (behind_line s)
    lines-piece g =
        let l : line_end (p ++ s) < length (p ++ s) = omega (arith, line_end-piece p h, length-append p s) in
        lines-first (p ++ s) l ∙ ap (λ (t : Text). t ∷ lines (behind_line (p ++ s))) first_line-piece ∙ ap (λ (t : Text). (p ++ first_line s) ∷ lines t) behind_line-piece
