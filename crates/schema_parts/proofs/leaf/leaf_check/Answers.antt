-- `schema_parts::leaf::leaf_check` meets its contract. Assumes nothing.
use native.Mathlib.Omega.{arith}
use mathlib.Core.Path.{refl}
use Rattle.frame.specs.Sound.{schema_sound}
use Rattle.frame.proofs.Measuring.{checks-some, checks-none}
use Rattle.schema_parts.proofs.Leaves.{plain-low, plain-high, kind_past}
use Rattle.schema_parts.proofs.leaf.leaf_check.Goals as goal

pub returns-in-0-to-7 : goal.returns-in-0-to-7
unfolding schema_sound
returns-in-0-to-7 c = λ form node. checks-some schema_sound _ _ 0 _ (omega arith) _ (plain-low form node _ _ (omega arith)) refl

pub returns-in-0-to-7-2 : goal.returns-in-0-to-7-2
unfolding schema_sound
returns-in-0-to-7-2 c = λ form node. checks-some schema_sound _ _ 0 _ (omega arith) _ (plain-high form node _ _ (omega arith) (omega arith)) refl

pub returns-in_default-2 : goal.returns-in_default-2
returns-in_default-2 c = λ form node. checks-none _ _ _ (kind_past form node _ _ (omega arith))
