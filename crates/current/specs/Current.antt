-- The current one of the finishes of each sail.
use Rattle.std.specs.Prelude.{ℕ, List, [], ◌∷◌, Bool, leb}
use Rattle.base.specs.Base.{when◌then◌else◌}
use Rattle.text.specs.Text.{Text, same}

-- a finish: its frame's place in the list, its sail, and the rank of its seq. The place is a label: nothing below looks at it
pub record Finish : Type 0 where
  pub place : ℕ
  pub sail : Text
  pub seq : ℕ

-- whether a finish takes over from the current one of its sail, whose frame stands before its own, by their seqs: with equal seqs
-- the later frame takes over
unfoldable pub beats : ℕ → ℕ → Bool
beats later earlier = leb earlier later

-- ---- by any such rule

-- the current one once f stands behind c
unfoldable pub over_by : (ℕ → ℕ → Bool) → Finish → Finish → Finish
over_by wins c f = when same f.sail c.sail then (when wins f.seq c.seq then f else c) else c

-- the current one of c's sail, among c and the finishes behind it
unfoldable pub current_by : (ℕ → ℕ → Bool) → Finish → List Finish → Finish
current_by wins c [] = c
current_by wins c (f ∷ fs) = current_by wins (over_by wins c f) fs

-- the finishes of other sails
unfoldable pub without : Text → List Finish → List Finish
without x [] = []
without x (f ∷ fs) = when same f.sail x then without x fs else f ∷ without x fs

-- the current finish of each sail, in the order in which sails first appear
unfoldable pub listed_by : (ℕ → ℕ → Bool) → List Finish → List Finish
listed_by wins [] = []
listed_by wins (f ∷ fs) = current_by wins f fs ∷ without f.sail (listed_by wins fs)

-- ---- by seq

abbrev pub listed : List Finish → List Finish
listed = listed_by beats
