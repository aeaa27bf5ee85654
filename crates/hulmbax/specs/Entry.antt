-- The entry's answer as the rules' number and length, and what its steps say.
use Rattle.std.specs.Prelude.{ℕ, suc, ◌≤◌, ltb, ℤ, pos, negsuc, neg_ℤ, ◌≡◌, List, ◌⊎◌, length}
use Rattle.base.specs.Base.{when◌then◌else◌, Result, ok, stop}
use Rattle.frame.specs.Tree.{Value, Schema}
use Rattle.frame.specs.ValueFrame.{decode_value}
use Rattle.frame.specs.SchemaFrame.{decode_schema}
use Rattle.frame.specs.Sound.{checked_value}
use Rattle.hulmbax.specs.Answer.{checked_schema}

-- an accepted result has its length; a refusal has the rules' number
unfoldable pub resolved_of : Result (List ℕ) → Result ℕ
resolved_of (ok r) = ok (length r)
resolved_of (stop n) = stop n

-- the number of what stops a step, 0 where nothing does
unfoldable pub stop_of : {A : Type 0} → Result A → ℕ
stop_of (ok a) = 0
stop_of (stop n) = n

-- a schema frame passed its checks, with this tree
pub record PassedSchema (schema : List ℕ) : Type 0 where
  pub tree : Schema
  pub passed : checked_schema (decode_schema schema) ≡ ok tree

-- a value frame passed its check, with this tree
pub record PassedValue (value : List ℕ) : Type 0 where
  pub tree : Value
  pub passed : checked_value (decode_value value) ≡ ok tree

-- the answer as one signed number, for C: a length, or a refusal's number negated
unfoldable pub code_of : Result ℕ → ℤ
code_of (ok n) = pos n
code_of (stop e) = neg_ℤ (pos e)

-- how its caller reads that number
unfoldable pub read_code : ℤ → Result ℕ
read_code (pos n) = ok n
read_code (negsuc k) = stop (suc k)

-- a length is that of a frame, and a refusal is one of the rules' numbers
unfoldable pub Bounded : Result ℕ → Type 0
Bounded (ok n) = (1 ≤ n) × (n ≤ 65535)
Bounded (stop e) = (1 ≤ e) × ((e ≤ 18) ⊎ (e ≡ 28))

-- what a code can tell: a length that it can hold, and a refusal's number, which is not 0
unfoldable pub Coded : Result ℕ → Type 0
Coded (ok n) = n ≤ 65535
Coded (stop e) = 1 ≤ e

-- how much of the workspace is cleared without a look: the result, and 4,096 bytes in any case
unfoldable pub used_for : Result ℕ → ℕ
used_for (ok n) = when ltb n 4096 then 4096 else n
used_for (stop e) = 4096
