-- Sails by their hashes, and where a sail stands among those of the places that are named.
use Prim.Native.Nat.{ℕ, zero, suc, ◌+◌, ◌≤◌, ◌<◌}
use mathlib.Core.Path.{◌≡◌, refl, sym, ap, ◌∙◌}
use mathlib.Core.List.{List, [], ◌∷◌}
use mathlib.Core.Bool.{Bool, true, false}
use native.Mathlib.Omega.{arith}
use native.Mathlib.Numerals.{add-one}
use lib.ListN.{length, get_or, drop, drop_of_length-le}
use lib.Seq.{drop-cons}
use Rattle.base.specs.Base.{when◌then◌else◌}
use Rattle.text.specs.Text.{Text, same}
use Rattle.text.specs.Hash.{hash}
use Rattle.finishes.specs.declared.Entry.{Entry}
use Rattle.current.specs.Entering.{place_of}
use Rattle.current.proofs.Sails.{same-is}
use Rattle.corrections.specs.Tables.{sail_at, sails_at, HasRow, Filled, Placed, Below}

-- texts of other hashes differ
pub hashes-differ : (x y : Text) (h k : ℕ) → h ≡ hash x → k ≡ hash y → (h ≡ k → ⊥) → false ≡ same x y
hashes-differ x y h k p q n = go (same x y) refl
  where
    go : (b : Bool) → same x y ≡ b → false ≡ b
    go false e = refl
    go true e = absurd (n (p ∙ ap hash (same-is x y e) ∙ sym q))

-- ---- the rows of places

module _ (input : List ℕ) (table : List Entry) (hashes : List ℕ) where
  pub placed_below : (n : ℕ) (ps : List ℕ) → Filled input table hashes n → Below n ps → Placed input table hashes ps
  unfolding Placed Below
  placed_below n [] f b = tt
  placed_below n (p ∷ ps) f b = (f p b.0, placed_below n ps f b.1)

  pub placed_at : (ps : List ℕ) (k : ℕ) → Placed input table hashes ps → k < length ps → HasRow input table hashes (get_or ps k 0)
  unfolding Placed
  placed_at [] k h l = absurd (omega (arith, l))
  placed_at (p ∷ ps) zero h l = h.0
  placed_at (p ∷ ps) (suc k) h l = placed_at ps k h.1 (omega (arith, l))

-- ---- the loop over them: k places passed, none of which has the sail

module _ (input : List ℕ) (table : List Entry) (ps : List ℕ) (x : Text) where
  abbrev left : ℕ → ℕ
  left k = place_of (sails_at input table (drop k ps)) x

  pub record Passed (k : ℕ) : Type 0 where
    pub inside : k ≤ length ps
    pub rest : k + left k ≡ place_of (sails_at input table ps) x

  pub passed_none : Passed 0
  passed_none = record { inside = omega arith; rest = omega arith }

  module _ (k : ℕ) (w : Passed k) where
    test : k < length ps → left k ≡ (when same x (sail_at input table (get_or ps k 0)) then 0 else suc (left (k + 1)))
    unfolding place_of sails_at
    test h =
        ap (λ (l : List ℕ). place_of (sails_at input table l) x) (drop-cons ps k 0 h)
        ∙ ap (λ (m : ℕ). when same x (sail_at input table (get_or ps k 0)) then 0 else suc (left m)) (sym (add-one k))

    pub passed_here : k < length ps → same x (sail_at input table (get_or ps k 0)) ≡ true → k ≡ place_of (sails_at input table ps) x
    passed_here h e =
        let z : left k ≡ 0 = test h ∙ ap (λ (b : Bool). when b then 0 else suc (left (k + 1))) e in
        omega (arith, z, w.rest)

    pub passed-next : k < length ps → same x (sail_at input table (get_or ps k 0)) ≡ false → Passed (k + 1)
    passed-next h e =
        let z : left k ≡ suc (left (k + 1)) = test h ∙ ap (λ (b : Bool). when b then 0 else suc (left (k + 1))) e in
        record { inside = omega arith; rest = omega (arith, z, w.rest) }

    pub passed-all : length ps ≤ k → k ≡ place_of (sails_at input table ps) x
    unfolding place_of sails_at
    passed-all h =
        let z : left k ≡ 0 = ap (λ (l : List ℕ). place_of (sails_at input table l) x) (drop_of_length-le ps h) in
        omega (arith, z, w.rest)
