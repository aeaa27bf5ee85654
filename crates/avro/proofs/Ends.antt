-- What resolution ends with: a fact of what comes out, or one of its numbers. A proof follows the text of a function that may refuse, branch by branch.
use Prim.Native.Nat.{ℕ, ◌≤◌}
use mathlib.Core.Path.{◌≡◌, subst, sym}
use mathlib.Core.List.{List, [], ◌∷◌}
use mathlib.Core.Logic.{◌⊎◌, inl, inr}
use mathlib.Core.Bool.{Bool, true, false, ◌&&◌, ◌||◌, not}
use lib.Dec.{T, leb, eqb, leb→le, eqb→eq}
use lib.Ieee.Fits.{and_l, and_r}
use Rattle.base.specs.Base.{when◌then◌else◌, Result, ok, stop, after, within}
use Rattle.base.proofs.Okay.{Okay}
use Rattle.avro.specs.Numbers.{is_in, resolution_numbers, listed}

abbrev pub Ends : {A : Type 0} → (A → Type 0) → Result A → Type 0
Ends P (ok a) = P a
Ends P (stop n) = T (listed n)

pub ends-if : {A : Type 0} (P : A → Type 0) (b : Bool) (x y : Result A) → (T b → Ends P x) → (T (not b) → Ends P y) → Ends P (when b then x else y)
ends-if P true x y f g = f tt
ends-if P false x y f g = g tt

pub ends-after : {A B : Type 0} (P : A → Type 0) (Q : B → Type 0) (r : Result A) (f : A → Result B) → Ends P r → ((a : A) → P a → Ends Q (f a)) → Ends Q (after r f)
unfolding after
ends-after P Q (ok a) f p k = k a p
ends-after P Q (stop n) f p k = p

pub ends-map : {A : Type 0} (P Q : A → Type 0) (r : Result A) → ((a : A) → P a → Q a) → Ends P r → Ends Q r
ends-map P Q (ok a) f p = f a p
ends-map P Q (stop n) f p = p

pub ends-okay : {A : Type 0} (P : A → Type 0) (r : Result A) → Ends P r → Okay P r
ends-okay P (ok a) p = p
ends-okay P (stop n) p = tt

pub ends-listed : {A : Type 0} (P : A → Type 0) (r : Result A) (n : ℕ) → Ends P r → r ≡ stop n → T (listed n)
ends-listed P r n p e = subst (λ (x : Result _). Ends P x) e p

-- ---- the bounds of the numbers: one test over the list

abbrev all : (ℕ → Bool) → List ℕ → Bool
all f [] = true
all f (m ∷ ms) = f m && all f ms

in_all : (f : ℕ → Bool) (ms : List ℕ) (n : ℕ) → T (all f ms) → T (is_in ms n) → T (f n)
in_all f [] n h i = absurd i
in_all f (m ∷ ms) n h i = go (eqb n m) (λ t. t) i (λ j. in_all f ms n (and_r (f m) (all f ms) h) j)
  where
    go : (b : Bool) → (T b → T (eqb n m)) → T (b || is_in ms n) → (T (is_in ms n) → T (f n)) → T (f n)
    go true t j rest = subst (λ (k : ℕ). T (f k)) (sym (eqb→eq n m (t tt))) (and_l (f m) (all f ms) h)
    go false t j rest = rest j

pub listed-bounds : (n : ℕ) → T (listed n) → ((6 ≤ n) × (n ≤ 17)) ⊎ (n ≡ 28)
listed-bounds n h = go (within 6 17 n) (λ b. b) (in_all (λ m. within 6 17 m || eqb m 28) resolution_numbers n tt h)
  where
    go : (b : Bool) → (T b → T (within 6 17 n)) → T (b || eqb n 28) → ((6 ≤ n) × (n ≤ 17)) ⊎ (n ≡ 28)
    go true t j = inl (leb→le 6 n (and_l (leb 6 n) (leb n 17) (t tt)), leb→le n 17 (and_r (leb 6 n) (leb n 17) (t tt)))
    go false t j = inr (eqb→eq n 28 j)
