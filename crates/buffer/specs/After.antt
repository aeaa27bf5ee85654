-- What an entry does with a result: 18 where it does not fit, what the caller's buffer holds afterwards, and the answer as one number for C.
use Rattle.std.specs.Prelude.{ℕ, List, ◌++◌, ◌||◌, ltb, ℤ, pos, neg_ℤ, length, drop}
use Rattle.base.specs.Base.{when◌then◌else◌, Result, ok, stop}

-- the result's bytes: 18 where they exceed 65,535 or the buffer
unfoldable pub checked_result : {A : Type 0} → ℕ → List A → Result (List A)
checked_result buffer r = when ltb 65535 (length r) || ltb buffer (length r) then stop 18 else ok r

-- the result buffer: the result and what stood behind it, or what it held
unfoldable pub buffer_after : {A : Type 0} → Result (List A) → List A → List A
buffer_after (ok r) b = r ++ drop (length r) b
buffer_after (stop n) b = b

-- the answer as one signed number: the length of the result, or a refusal's number negated
unfoldable pub code_for : {A : Type 0} → Result (List A) → ℤ
code_for (ok r) = pos (length r)
code_for (stop n) = neg_ℤ (pos n)
