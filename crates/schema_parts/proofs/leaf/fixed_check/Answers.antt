-- `schema_parts::leaf::fixed_check` meets its contract. Assumes nothing.
use mathlib.Core.Path.{refl}
use Rattle.frame.specs.Sound.{schema_sound}
use Rattle.frame.proofs.Measuring.{checks-some, checks-none}
use Rattle.schema_parts.proofs.Leaves.{fixed-got, fixed-none}
use Rattle.schema_parts.proofs.leaf.fixed_check.Goals as goal

pub returns-then-s-lt2 : goal.returns-then-s-lt2
returns-then-s-lt2 c = λ form node. checks-none _ _ _ (fixed-none form node _ c.if-s-lt2.true)

pub returns : goal.returns
unfolding schema_sound
returns c = λ form node. checks-some _ _ _ _ _ c.if-s-lt2.false _ (fixed-got form node _ c.if-s-lt2.false) refl
