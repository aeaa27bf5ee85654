-- The loop of `resolve::values`: the reader and its buffers go together, the buffers keep their lengths, and behind what waits there is room for a
-- line.
use Prim.Native.Nat.{◌≤◌}
use mathlib.Core.Path.{◌≡◌}
use lib.ListN.{length}
use Rattle.lines.specs.Held.{Held}
use Rattle.resolve.specs.Buffers.{Buffers}
use Rattle.resolve.proofs.values.Given as goal

abbrev pub invariant-loop : goal.invariant-loop
invariant-loop g l =
    Held l.t.reader l.block l.line × Buffers l.value l.res l.workspace l.ready × (l.t.waits ≤ 131071) × (length l.line ≡ length l.initial.line)
