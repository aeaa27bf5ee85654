-- `streams::output::usage` meets its contract: what it answers is the test itself.
use mathlib.Core.Path.{refl}
use Rattle.streams.proofs.output.usage.Goals as goal

pub returns-then-asked : goal.returns-then-asked
returns-then-asked g c = refl

pub returns-else-asked : goal.returns-else-asked
returns-else-asked g c = refl
