-- What is claimed of the places that are named, in the request's words: of frames, by any rule by which one takes over from another.
use Rattle.std.specs.Prelude.{ℕ, ◌<◌, ◌≤◌, ◌≡◌, List, [], map, Bool, true, false, length, get_or}
use Rattle.std.proofs.Math.Option.{Option, none, some}
use Rattle.text.specs.Text.{Text}
use Rattle.base.specs.Base.{Result, ok, stop}
use Rattle.lists.specs.Frames.{frames}
use Rattle.finishes.specs.Finish.{finish_of}
use Rattle.finishes.specs.Words.{IsFinish, NoFinish}
use Rattle.current.specs.Current.{beats}
use Rattle.current.specs.Claims.{In, firsts}

-- frame p of a list says this sail and this seq
abbrev pub SaysAt : List (List ℕ) → ℕ → Text → ℕ → Type 0
SaysAt vs p x n = (p < length vs) × (finish_of (get_or vs p []) ≡ some (x, n))

-- frame p is the current one of its sail: it takes over from each of the sail's frames before it, and none behind it takes over from it
pub record CurrentAt (wins : ℕ → ℕ → Bool) (vs : List (List ℕ)) (p : ℕ) : Type 0 where
  pub sail : Text
  pub seq : ℕ
  pub says : SaysAt vs p sail seq
  pub earlier : (q m : ℕ) → q < p → SaysAt vs q sail m → wins seq m ≡ true
  pub later : (q m : ℕ) → p < q → SaysAt vs q sail m → wins m seq ≡ false

-- ws is vs in another order: its frame p is frame g p of vs, each frame of vs is among these, and the frames of one sail with equal seqs
-- keep their order
pub record Reordered (vs ws : List (List ℕ)) (g h : ℕ → ℕ) : Type 0 where
  pub forth : (p : ℕ) → p < length ws → (g p < length vs) × (get_or vs (g p) [] ≡ get_or ws p [])
  pub back : (q : ℕ) → q < length vs → (h q < length ws) × (g (h q) ≡ q)
  pub keeps : (p q : ℕ) (x : Text) (n : ℕ) → p < q → SaysAt ws p x n → SaysAt ws q x n → g p < g q

-- the sail that a frame says; none has no letters
unfoldable pub sail_or : Option (Text × ℕ) → Text
sail_or none = []
sail_or (some x) = x.0

abbrev pub sail_in : List ℕ → Text
sail_in v = sail_or (finish_of v)

-- each frame is a finish
abbrev pub AllFinish : List (List ℕ) → Type 0
AllFinish vs = (k : ℕ) → k < length vs → (x : Text) × ((n : ℕ) × IsFinish (get_or vs k []) x n)

-- r names the current frame of each sail, in the order in which sails first appear
pub record Lists (wins : ℕ → ℕ → Bool) (vs : List (List ℕ)) (r : List ℕ) : Type 0 where
  pub current : (p : ℕ) → In p r → CurrentAt wins vs p
  pub sails : map (λ (p : ℕ). sail_in (get_or vs p [])) r ≡ firsts (map sail_in vs)

-- the request's sentences on a list of frames
pub data Named (input ends : List ℕ) (buffer : ℕ) : Result (List ℕ) → Type 0 where
  -- 23: more than 256 frames
  too_many : 256 < length ends → Named input ends buffer (stop 23)
  -- 24: one of them is no finish
  no_finish : length ends ≤ 256 → (k : ℕ) → k < length (frames input ends) → NoFinish (get_or (frames input ends) k []) → Named input ends buffer (stop 24)
  -- 18: all are, and the answer is longer than the buffer
  no_room : length ends ≤ 256 → AllFinish (frames input ends) → (r : List ℕ) → Lists beats (frames input ends) r → buffer < length r → Named input ends buffer (stop 18)
  -- nothing stops the list
  named : length ends ≤ 256 → AllFinish (frames input ends) → (r : List ℕ) → Lists beats (frames input ends) r → length r ≤ buffer → Named input ends buffer (ok r)
