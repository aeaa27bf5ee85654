-- The answer that names the current finish of each sail: 23, 24 and 18 in checking order, or the places of the frames.
use Rattle.std.specs.Prelude.{ℕ, suc, List, [], ◌∷◌, map, ltb, length}
use Rattle.std.proofs.Math.Option.{Option, none, some}
use Rattle.base.specs.Base.{when◌then◌else◌, Result, ok, stop}
use Rattle.text.specs.Text.{Text}
use Rattle.text.specs.Read.{◌>>=◌}
use Rattle.buffer.specs.After.{checked_result}
use Rattle.lists.specs.Frames.{frames}
use Rattle.finishes.specs.Finish.{finish_of}
use Rattle.current.specs.Current.{Finish, listed}

-- what a frame says, with its place
unfoldable pub placed : ℕ → Text × ℕ → Finish
placed i x = record { place = i; sail = x.0; seq = x.1 }

-- the finishes of frames, the first of which has place i; none where one is refused
unfoldable pub finishes : ℕ → List (List ℕ) → Option (List Finish)
finishes i [] = some []
finishes i (v ∷ vs) = do
  x ← finish_of v
  fs ← finishes (suc i) vs
  some (placed i x ∷ fs)

unfoldable pub places : List Finish → List ℕ
places fs = map (λ (f : Finish). f.place) fs

-- 24, or the current finishes' places with the length of the result buffer
unfoldable pub names_of : ℕ → Option (List Finish) → Result (List ℕ)
names_of buffer none = stop 24
names_of buffer (some fs) = checked_result buffer (places (listed fs))

-- the answer for a list of frames, with the length of the result buffer: from 23 on
unfoldable pub names_for : List ℕ → List ℕ → ℕ → Result (List ℕ)
names_for input ends buffer = when ltb 256 (length ends) then stop 23 else names_of buffer (finishes 0 (frames input ends))

-- the number and length of each case
unfoldable pub answer_of : Result (List ℕ) → Result ℕ
answer_of (ok r) = ok (length r)
answer_of (stop n) = stop n
