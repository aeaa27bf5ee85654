-- The number of 4 bytes or of 8 behind the kind is the content.
use mathlib.Core.Path.{sym, ◌∙◌}
use mathlib.Core.Bool.{true, false}
use Rattle.frame.proofs.ValueNodes.{value_there}
use Rattle.casts.proofs.CastLaws.{node-width, scalar_read}
use Rattle.casts.proofs.scalar_at.Goals as goal

pub bounds-v-0 : goal.bounds-v-0
bounds-v-0 c = (value_there _ _ c.requires.0).1

pub read4-requires : goal.read4-requires
read4-requires c = node-width _ _ c.requires.0 c.requires.1 true (sym c.is_short.ensures ∙ c.if-is_short.true)

pub returns-then-is_short : goal.returns-then-is_short
returns-then-is_short c = λ w u e. c.of_content.ensures ∙ scalar_read _ _ c.requires.0 c.requires.1 true (sym c.is_short.ensures ∙ c.if-is_short.true) _ c.read4.ensures w u e

pub read8-requires : goal.read8-requires
read8-requires c = node-width _ _ c.requires.0 c.requires.1 false (sym c.is_short.ensures ∙ c.if-is_short.false)

pub returns-else-is_short : goal.returns-else-is_short
returns-else-is_short c = λ w u e. c.of_content-else-is_short.ensures ∙ scalar_read _ _ c.requires.0 c.requires.1 false (sym c.is_short.ensures ∙ c.if-is_short.false) _ c.read8.ensures w u e
