-- What is claimed of the current finishes, by any rule by which one takes over from another.
use Rattle.std.specs.Prelude.{ℕ, ◌≡◌, ◌⊎◌, List, [], ◌∷◌, ◌++◌, map, Bool, true, false, not}
use Rattle.base.specs.Base.{when◌then◌else◌}
use Rattle.text.specs.Text.{Text, same}
use Rattle.current.specs.Current.{Finish}

-- such a rule: who takes over from one that took over does so from all before it, who was passed over is passed over again, and of two
-- different seqs exactly one takes over, whichever stands first
pub record TakesOver (wins : ℕ → ℕ → Bool) : Type 0 where
  pub over : (a b c : ℕ) → wins c b ≡ true → wins b a ≡ true → wins c a ≡ true
  pub between : (a b c : ℕ) → wins c a ≡ true → wins b a ≡ false → wins c b ≡ true
  pub decided : (a b : ℕ) → (a ≡ b → ⊥) → wins a b ≡ not (wins b a)

-- a stands in a list
unfoldable pub In : {A : Type 0} → A → List A → Type 0
In a [] = ⊥
In a (b ∷ l) = (a ≡ b) ⊎ In a l

-- ---- the current finish is unbeaten

-- c takes over from each of its sail that stands before it
unfoldable pub Earlier : (ℕ → ℕ → Bool) → Finish → List Finish → Type 0
Earlier wins c [] = Unit {0}
Earlier wins c (f ∷ fs) = (f.sail ≡ c.sail → wins c.seq f.seq ≡ true) × Earlier wins c fs

-- none of its sail that stands behind c takes over from it
unfoldable pub Later : (ℕ → ℕ → Bool) → Finish → List Finish → Type 0
Later wins c [] = Unit {0}
Later wins c (f ∷ fs) = (f.sail ≡ c.sail → wins f.seq c.seq ≡ false) × Later wins c fs

-- c is one of the finishes fs, and the current one of its sail
pub record Unbeaten (wins : ℕ → ℕ → Bool) (fs : List Finish) (c : Finish) : Type 0 where
  pub before : List Finish
  pub behind : List Finish
  pub stands : fs ≡ before ++ c ∷ behind
  pub earlier : Earlier wins c before
  pub later : Later wins c behind

-- ---- each sail once, in order

abbrev pub sails_of : List Finish → List Text
sails_of fs = map (λ (f : Finish). f.sail) fs

-- the other texts
unfoldable pub leave : Text → List Text → List Text
leave x [] = []
leave x (y ∷ l) = when same y x then leave x l else y ∷ leave x l

-- each text once, in the order in which texts first appear
unfoldable pub firsts : List Text → List Text
firsts [] = []
firsts (x ∷ l) = x ∷ leave x (firsts l)

unfoldable pub Distinct : List Text → Type 0
Distinct [] = Unit {0}
Distinct (x ∷ l) = (In x l → ⊥) × Distinct l
