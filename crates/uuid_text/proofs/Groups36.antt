-- The 36-character form, character by character: its digits are those at the places 0 to 31. Assumes nothing.
use Prim.Native.Nat.{ℕ, zero, suc, ◌+◌, ◌≤◌, ◌<◌}
use mathlib.Core.Path.{◌≡◌, refl, ap, sym, ◌∙◌}
use mathlib.Core.List.{List, [], ◌∷◌, ◌++◌}
use native.Mathlib.Omega.{arith}
use mathlib.Core.Bool.{Bool, true, false}
use lib.Dec.{ltb}
use lib.ListN.{length, get_or, take, drop, length-drop}
use lib.Seq.{drop-cons, take_all}
use Rattle.base.specs.Base.{when◌then◌else◌}
use Rattle.uuid_text.specs.Uuid.{without_hyphens}
use Rattle.uuid_text.specs.Forms.{place}

-- the elements from a place on, one by one: it computes at a numeral n
abbrev pub gets : List ℕ → ℕ → ℕ → List ℕ
gets s k zero = []
gets s k (suc n) = get_or s k 0 ∷ gets s (suc k) n

pub gets-part : (n : ℕ) (s : List ℕ) (k : ℕ) → k + n ≤ length s → take n (drop k s) ≡ gets s k n
gets-part zero s k h = refl
gets-part (suc n) s k h = rw (drop-cons s k 0 (omega arith)) (ap (λ (l : List ℕ). get_or s k 0 ∷ l) (gets-part n s (suc k) (omega arith)))

-- the rest of a list whose length is known
pub gets-rest : (n : ℕ) (s : List ℕ) (k : ℕ) → length s ≡ k + n → drop k s ≡ gets s k n
gets-rest n s k h = sym (take_all n (drop k s) (simp length-drop (omega arith))) ∙ gets-part n s k (omega arith)

-- the first k digits
unfoldable pub picked : List ℕ → ℕ → List ℕ
picked s zero = []
picked s (suc k) = picked s k ++ (get_or s (place k) 0 ∷ [])

pub picked-without_hyphens : (s : List ℕ) → length s ≡ 36 → picked s 32 ≡ without_hyphens s
unfolding picked place without_hyphens
picked-without_hyphens s h =
    rw (gets-part 8 s 0 (omega arith), gets-part 4 s 9 (omega arith), gets-part 4 s 14 (omega arith), gets-part 4 s 19 (omega arith), gets-rest 12 s 24 h) refl

-- every place lies in the text
pub place-below : (k : ℕ) → k < 32 → place k < 36
unfolding place
place-below k h = case4 (ltb k 8) (ltb k 12) (ltb k 16) (ltb k 20)
  where
    case4 : (a b c d : Bool) → (when a then k else when b then k + 1 else when c then k + 2 else when d then k + 3 else k + 4) < 36
    case4 true b c d = omega arith
    case4 false true c d = omega arith
    case4 false false true d = omega arith
    case4 false false false true = omega arith
    case4 false false false false = omega arith
