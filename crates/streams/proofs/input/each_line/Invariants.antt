-- The loop of `streams::input::each_line`: the reader and its buffers go together, the line's buffer keeps its length, and after a write that failed
-- no line is handed on.
use mathlib.Core.Bool.{false}
use mathlib.Core.Path.{◌≡◌}
use lib.ListN.{length}
use Rattle.lines.specs.Held.{Held}
use Rattle.streams.proofs.input.each_line.Given as goal

abbrev pub invariant-loop : goal.invariant-loop
invariant-loop g l =
    goal.F-IsAlwaysCallable g l.f
    × Held l.r l.block l.line
    × (length l.line ≡ length l.initial.line)
    × (l.initial.out.ok ≡ false → l.out.ok ≡ false)
