-- The two slots of a name, one in each of two tables of n, and what stands there: equal names have the same.
use Rattle.std.specs.Prelude.{ℕ, ◌+◌, ◌/◌, ◌%◌, Bool, ◌||◌, eqb}
use Rattle.base.specs.Base.{when◌then◌else◌}
use Rattle.text.specs.Text.{Text}
use Rattle.text.specs.Hash.{hash}

-- by the low bits, and by the high ones
unfoldable pub low_of : ℕ → ℕ → ℕ
low_of n h = h % n

unfoldable pub high_of : ℕ → ℕ → ℕ
high_of n h = h / 1048576 % n

unfoldable pub low_slot : ℕ → Text → ℕ
low_slot n t = low_of n (hash t)

unfoldable pub high_slot : ℕ → Text → ℕ
high_slot n t = high_of n (hash t)

-- a name's mark, and what a slot holds once a name took it: its mark, or 255 where it had another
unfoldable pub mark_of : ℕ → ℕ
mark_of h = 1 + h % 251

unfoldable pub marked : ℕ → ℕ → ℕ
marked b v = when eqb b 0 then v else when eqb b v then v else 255

-- a slot may be that of a name with the mark v
unfoldable pub may_be : ℕ → ℕ → Bool
may_be b v = eqb b v || eqb b 255

unfoldable pub name_mark : Text → ℕ
name_mark t = mark_of (hash t)
