-- The loop of `vectors::run`: the reader and its buffers go together, the schema's frame and the answer lie in theirs, and the buffers keep their
-- lengths.
use mathlib.Core.Path.{◌≡◌}
use lib.ListN.{length}
use Rattle.lines.specs.Held.{Held}
use Rattle.vectors.specs.Buffers.{Buffers, Replayed}
use Rattle.vectors.proofs.run.Given as goal

abbrev pub invariant-loop : goal.invariant-loop
invariant-loop g l =
    Held l.r l.block l.line
    × Replayed l.t
    × Buffers l.schema l.value l.res l.workspace l.answer l.counts
    × (length l.line ≡ length l.initial.line)
