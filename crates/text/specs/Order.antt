-- The order of map keys in the rules' words, "by their bytes".
use Rattle.std.specs.Prelude.{ℕ, ◌<◌, ◌≡◌, [], ◌∷◌}
use Rattle.text.specs.Text.{Text}

pub data Below : Text → Text → Type 0 where
  -- a proper prefix
  prefix : {y : ℕ} {ys : Text} → Below [] (y ∷ ys)
  -- the first difference
  differ : {x y : ℕ} {xs ys : Text} → x < y → Below (x ∷ xs) (y ∷ ys)
  -- a byte that both have
  share : {x y : ℕ} {xs ys : Text} → x ≡ y → Below xs ys → Below (x ∷ xs) (y ∷ ys)
