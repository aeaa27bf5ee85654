-- What a call of the system's read or write did, by its answer and the system's number for an error.
use Rattle.std.specs.Prelude.{ℕ, zero, suc, ◌≤◌, ◌<◌, Bool, true, false, eqb, ℤ, pos, negsuc, if◌then◌else◌}
use Rattle.streams.specs.declared.calls.Step.{Step}
use Rattle.streams.specs.declared.calls.Step.TheVariants.{Took, Nothing, Again, Wait, Failed}

-- EINTR: a signal came before a byte was moved
abbrev pub interrupted : ℕ
interrupted = 4

-- EAGAIN: the call was not to wait
abbrev pub would_wait : ℕ
would_wait = 11

unfoldable pub is : ℕ → ℤ → Bool
is n (pos k) = eqb k n
is n (negsuc k) = false

unfoldable pub unmoved : ℤ → Step
unmoved error = if is interrupted error then Again else if is would_wait error then Wait else Failed

unfoldable pub after : ℤ → ℤ → Step
after (pos zero) error = Nothing
after (pos (suc k)) error = Took (suc k)
after (negsuc k) error = unmoved error

-- it is to be tried again
unfoldable pub is_again : Step → Bool
is_again (Took n) = false
is_again Nothing = false
is_again Again = true
is_again Wait = false
is_again Failed = false

-- where it moved bytes, it moved at least one, and no more than there was room for
unfoldable pub Within : ℕ → Step → Type 0
Within room (Took n) = (0 < n) × (n ≤ room)
Within room Nothing = Unit {0}
Within room Again = Unit {0}
Within room Wait = Unit {0}
Within room Failed = Unit {0}
