-- What a read leaves to be cut, and what it holds of a line. Assumes nothing.
use Prim.Native.Nat.{ℕ, ◌≤◌}
use mathlib.Core.Path.{◌≡◌, refl}
use mathlib.Core.Bool.{false}
use native.Mathlib.Omega.{arith}
use Rattle.lines.specs.Held.{is_line}
use Rattle.lines.specs.declared.input.Reader.{Reader}
use Rattle.streams.specs.Calls.{Within}
use Rattle.streams.specs.Supplied.{supplied}
use Rattle.streams.specs.declared.calls.Step.{Step}
use Rattle.streams.specs.declared.calls.Step.TheVariants.{Took, Nothing, Again, Wait, Failed}

-- a read that failed leaves no line that is half read
pub failed-no-line : (r : Reader) → is_line (supplied r Failed) ≡ false
unfolding is_line supplied
failed-no-line r = refl

-- what it leaves to be cut lies in the block, and it holds no more than before
pub supplied-in : (r : Reader) (s : Step) (room : ℕ) → Within room s
    → ((supplied r s).at ≤ (supplied r s).end) × ((supplied r s).end ≤ room) × ((supplied r s).filled ≤ r.filled)
unfolding supplied Within
supplied-in r (Took n) room w = (omega arith, w.1, omega arith)
supplied-in r Nothing room w = (omega arith, omega arith, omega arith)
supplied-in r Again room w = (omega arith, omega arith, omega arith)
supplied-in r Wait room w = (omega arith, omega arith, omega arith)
supplied-in r Failed room w = (omega arith, omega arith, omega arith)
