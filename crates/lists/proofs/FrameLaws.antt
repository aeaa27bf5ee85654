-- A frame of a list is the part of the input that its ends say, and what stands in it stands in the input. An end that is astray makes
-- no frame.
use Prim.Native.Nat.{ℕ, zero, suc, ◌+◌, ◌-◌, ◌≤◌, ◌<◌}
use mathlib.Core.Path.{◌≡◌, refl, sym, ap, ◌∙◌}
use mathlib.Core.Logic.{◌⊎◌, ⊎_elim}
use mathlib.Core.List.{List, [], ◌∷◌}
use mathlib.Core.Bool.{Bool, true, false}
use native.Mathlib.Omega.{arith}
use lib.Dec.{ltb}
use lib.ListN.{length, take, drop, length-drop}
use lib.Seq.{length-take-le, take-take, drop-drop, take-nil}
use borrow.Author.Tests.{ltb-true, ltb-false, lt-ltb, le-ltb}
use Rattle.base.specs.Base.{when◌then◌else◌, stop}
use Rattle.frame.specs.Readers.{whole}
use Rattle.frame.specs.ValueFrame.{read_value, decode_value}
use Rattle.frame.specs.Sound.{checked_value}
use Rattle.text.specs.Read.{◌>>=◌}
use Rattle.lists.specs.Frames.{frame_at}

module _ (input : List ℕ) (from to : ℕ) where
  abbrev rest : List ℕ
  rest = when ltb (length input) to then [] else take (to - from) (drop from input)

  pub frame_below : to < from → frame_at input from to ≡ []
  unfolding frame_at
  frame_below h = ap (λ (b : Bool). when b then [] else rest) (lt-ltb to from h)

  pub frame_past : length input < to → frame_at input from to ≡ []
  unfolding frame_at
  frame_past h = ap (λ (b : Bool). when ltb to from then [] else (when b then [] else take (to - from) (drop from input))) (lt-ltb (length input) to h) ∙ both (ltb to from)
    where
      both : (b : Bool) → ◌≡◌ {A = List ℕ} (when b then [] else []) []
      both true = refl
      both false = refl

  pub frame-part : from ≤ to → to ≤ length input → frame_at input from to ≡ take (to - from) (drop from input)
  unfolding frame_at
  frame-part h k =
      ap (λ (b : Bool). when b then [] else rest) (le-ltb to from h)
      ∙ ap (λ (b : Bool). when b then [] else take (to - from) (drop from input)) (le-ltb (length input) to k)

  -- a frame that has bytes is a part of the input
  pub frame-there : 0 < length (frame_at input from to) → (from ≤ to) × (to ≤ length input)
  frame-there h = go (ltb to from) refl (ltb (length input) to) refl
    where
      none : frame_at input from to ≡ [] → ⊥
      none e = omega (arith, h, ap length e)

      go : (a : Bool) → ltb to from ≡ a → (b : Bool) → ltb (length input) to ≡ b → (from ≤ to) × (to ≤ length input)
      go true p b q = absurd (none (frame_below (ltb-true to from p)))
      go false p true q = absurd (none (frame_past (ltb-true (length input) to q)))
      go false p false q = (ltb-false to from p, ltb-false (length input) to q)

drop-take : (a m : ℕ) (l : List ℕ) → drop a (take m l) ≡ take (m - a) (drop a l)
drop-take zero m l = let e : m ≡ m - 0 = omega arith in ap (λ (k : ℕ). take k l) e
drop-take (suc a) zero l = let e : 0 ≡ 0 - suc a = omega arith in ap (λ (k : ℕ). take k (drop (suc a) l)) e
drop-take (suc a) (suc m) [] = sym (take-nil (suc m - suc a))
drop-take (suc a) (suc m) (x ∷ l) = let e : m - a ≡ suc m - suc a = omega arith in drop-take a m l ∙ ap (λ (k : ℕ). take k (drop a l)) e

module _ (input : List ℕ) (from to : ℕ) (h : from ≤ to) (k : to ≤ length input) where
  pub frame-length : length (frame_at input from to) ≡ to - from
  frame-length = ap length (frame-part input from to h k) ∙ length-take-le (to - from) (drop from input) (omega (arith, length-drop from input))

  -- a part of the frame is that part of the input
  pub part-of-frame : (a n : ℕ) → a + n ≤ to - from → take n (drop a (frame_at input from to)) ≡ take n (drop (from + a) input)
  part-of-frame a n i =
      ap (λ (f : List ℕ). take n (drop a f)) (frame-part input from to h k)
      ∙ ap (take n) (drop-take a (to - from) (drop from input) ∙ ap (take (to - from - a)) (drop-drop a from input))
      ∙ take-take n (to - from - a) (drop (from + a) input) (omega (arith, i))

-- ---- no frame

pub no_bytes : checked_value (decode_value []) ≡ stop 5
unfolding checked_value decode_value whole read_value ◌>>=◌
no_bytes = refl

-- number 5 stops a frame whose end is below its start or past the input
pub astray : (input : List ℕ) (from to : ℕ) → (to < from) ⊎ (length input < to) → checked_value (decode_value (frame_at input from to)) ≡ stop 5
astray input from to h = ap (λ (v : List ℕ). checked_value (decode_value v)) (⊎_elim (frame_below input from to) (frame_past input from to) h) ∙ no_bytes
