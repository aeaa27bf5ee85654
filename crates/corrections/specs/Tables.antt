-- What the tables of the entry say: where each frame's sail stands in the input, the frame's seq, and the sail's hash.
use Rattle.std.specs.Prelude.{ℕ, zero, suc, ◌-◌, ◌≤◌, ◌<◌, ◌≡◌, List, [], ◌∷◌, ◌++◌, map, Bool, true, false, length, get_or, take, drop}
use Rattle.std.proofs.Math.Option.{Option, none, some}
use Rattle.text.specs.Text.{Text}
use Rattle.text.specs.Hash.{hash}
use Rattle.current.specs.Current.{Finish}
use Rattle.finishes.specs.declared.Entry.{Entry}

-- row k of a table; behind its end, a row of zeros
abbrev pub row_at : List Entry → ℕ → Entry
row_at table k = get_or table k (record { from = 0; to = 0; rank = 0 })

-- the sail of a row
unfoldable pub sail_of : List ℕ → Entry → Text
sail_of input r = take (r.to - r.from) (drop r.from input)

-- the sail of frame k
abbrev pub sail_at : List ℕ → List Entry → ℕ → Text
sail_at input table k = sail_of input (row_at table k)

-- the finish of frame k
unfoldable pub row : List ℕ → List Entry → ℕ → Finish
row input table k = record { place = k; sail = sail_at input table k; seq = (row_at table k).rank }

-- the first n rows
unfoldable pub rows : List ℕ → List Entry → ℕ → List Finish
rows input table zero = []
rows input table (suc n) = rows input table n ++ row input table n ∷ []

-- the rows of some places
unfoldable pub chosen : List ℕ → List Entry → List ℕ → List Finish
chosen input table ps = map (row input table) ps

-- the sails of some places
unfoldable pub sails_at : List ℕ → List Entry → List ℕ → List Text
sails_at input table ps = map (sail_at input table) ps

-- a row's sail lies in the input, and its hash is the one noted
pub record Stands (input : List ℕ) (r : Entry) (h : ℕ) : Type 0 where
  pub ordered : r.from ≤ r.to
  pub inside : r.to ≤ length input
  pub hashed : h ≡ hash (sail_of input r)

-- the table has row k, and its hash is noted
pub record HasRow (input : List ℕ) (table : List Entry) (hashes : List ℕ) (k : ℕ) : Type 0 where
  pub there : k < length table
  pub noted : k < length hashes
  pub stands : Stands input (row_at table k) (get_or hashes k 0)

-- it has n rows
abbrev pub Filled : List ℕ → List Entry → List ℕ → ℕ → Type 0
Filled input table hashes n = (k : ℕ) → k < n → HasRow input table hashes k

-- it has the rows of some places
unfoldable pub Placed : List ℕ → List Entry → List ℕ → List ℕ → Type 0
Placed input table hashes [] = Unit {0}
Placed input table hashes (p ∷ ps) = HasRow input table hashes p × Placed input table hashes ps

-- all frames were read into the table, or one is refused
unfoldable pub Told : Bool → Option (List Finish) → List ℕ → List Entry → List ℕ → ℕ → Type 0
Told true o input table hashes n = (o ≡ some (rows input table n)) × Filled input table hashes n
Told false o input table hashes n = o ≡ none

-- places below n
unfoldable pub Below : ℕ → List ℕ → Type 0
Below n [] = Unit {0}
Below n (p ∷ ps) = (p < n) × Below n ps
