-- The loop of `streams::input::finish`: the reader and its buffers go together, and the buffers keep their lengths.
use Rattle.lines.specs.Held.{Held}
use Rattle.streams.proofs.input.finish.Given as goal

abbrev pub invariant-loop : goal.invariant-loop
invariant-loop g l = Held l.t l.block l.line
