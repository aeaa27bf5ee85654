-- A list of frames: one input and the ends of its frames, each from the end before it.
use Rattle.std.specs.Prelude.{ℕ, ◌-◌, List, [], ◌∷◌, ltb, length, take, drop}
use Rattle.base.specs.Base.{when◌then◌else◌}

-- the frame from one end to the next. An end below the start or past the input is no frame: no bytes are
unfoldable pub frame_at : List ℕ → ℕ → ℕ → List ℕ
frame_at input from to =
    when ltb to from then [] else (when ltb (length input) to then [] else take (to - from) (drop from input))

-- the frames of the input, the first of which begins at `from`
unfoldable pub frames_from : List ℕ → ℕ → List ℕ → List (List ℕ)
frames_from input from [] = []
frames_from input from (to ∷ ends) = frame_at input from to ∷ frames_from input to ends

-- all frames of a list: the first begins where the input does
abbrev pub frames : List ℕ → List ℕ → List (List ℕ)
frames input ends = frames_from input 0 ends
