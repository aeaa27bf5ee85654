-- `streams::output::written` meets its contract: a write that moved bytes moved at least one, and no more than were left.
use Prim.Native.Nat.{ℕ, ◌-◌}
use mathlib.Core.Path.{◌≡◌}
use mathlib.Core.List.{List}
use native.Mathlib.Omega.{arith}
use lib.ListN.{length, take, drop}
use Rattle.std.proofs.Common.{length-take-le, length-drop}
use Rattle.streams.proofs.CallLaws.{within-took}
use Rattle.streams.proofs.output.written.Goals as goal

-- what is left of the bytes
left : (s : List ℕ) (at : ℕ) → length (take (length s - at) (drop at s)) ≡ length s - at
left s at = length-take-le (length s - at) (drop at s) (omega (arith, length-drop at s))

pub overflow_add-at : goal.overflow_add-at
overflow_add-at g c =
    let w = within-took _ _ _ c.in-Took.is c.write-call.ensures.within in
    omega (arith, w.0, w.1, left c.args.bytes.now c.loop-at.at, c.loop-at.invariant)

pub loop-at-smaller : goal.loop-at-smaller
loop-at-smaller g c =
    let w = within-took _ _ _ c.in-Took.is c.write-call.ensures.within in
    omega (arith, w.0, w.1, left c.args.bytes.now c.loop-at.at, c.loop-at.invariant)

pub loop-at-preserved : goal.loop-at-preserved
loop-at-preserved g c =
    let w = within-took _ _ _ c.in-Took.is c.write-call.ensures.within in
    omega (arith, w.0, w.1, left c.args.bytes.now c.loop-at.at, c.loop-at.invariant)
