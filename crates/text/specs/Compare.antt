-- How many byte pairs a comparison of two texts for equality looks at: lengths first, then bytes from the last to the first.
use Rattle.std.specs.Prelude.{ℕ, suc, ◌≡◌, [], ◌∷◌, ◌++◌, reverse, eqb, length}
use Rattle.base.specs.Base.{when◌then◌else◌}
use Rattle.text.specs.Text.{Text}

-- the pairs up to and with the first that differs, or all
unfoldable pub until_difference : Text → Text → ℕ
until_difference [] ys = 0
until_difference (x ∷ xs) [] = 0
until_difference (x ∷ xs) (y ∷ ys) = when eqb x y then suc (until_difference xs ys) else 1

-- none where the lengths differ, else from the end
unfoldable pub looked : Text → Text → ℕ
looked a b = when eqb (length a) (length b) then until_difference (reverse a) (reverse b) else 0

-- The same number in the words of Q-3, "none when lengths differ, otherwise up to and with the first difference from the end, or all".
pub data Looked (a b : Text) : ℕ → Type 0 where
  unequal_lengths : (length a ≡ length b → ⊥) → Looked a b 0
  -- x and y differ, and what stands behind them, c, is the same
  first_difference : (p q c : Text) (x y : ℕ) → a ≡ p ++ x ∷ c → b ≡ q ++ y ∷ c → length p ≡ length q → (x ≡ y → ⊥) → Looked a b (suc (length c))
  no_difference : a ≡ b → Looked a b (length a)
