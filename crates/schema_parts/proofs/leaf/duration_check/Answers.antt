-- `schema_parts::leaf::duration_check` meets its contract. Assumes nothing.
use mathlib.Core.Path.{ap}
use lib.Dec.{eqb}
use Rattle.frame.specs.Sound.{schema_sound}
use Rattle.frame.proofs.Measuring.{checks-some, checks-none}
use Rattle.schema_parts.proofs.Leaves.{duration-got, duration-none}
use Rattle.schema_parts.proofs.leaf.duration_check.Goals as goal

pub returns-then-s-lt2 : goal.returns-then-s-lt2
returns-then-s-lt2 c = λ form node. checks-none _ _ _ (duration-none form node _ c.if-s-lt2.true)

pub returns : goal.returns
unfolding schema_sound
returns c = λ form node. checks-some _ _ _ _ _ c.if-s-lt2.false _ (duration-got form node _ c.if-s-lt2.false) (ap (λ n. eqb n 12) c.read2.ensures)
