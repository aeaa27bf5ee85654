-- `leaf::leaf_fixed` meets its contract.
use native.Mathlib.Omega.{arith}
use Rattle.leaf.proofs.LeafSchemas.{fixed-long, fixed-outcome, wrote-eq}
use Rattle.leaf.proofs.leaf_fixed.Goals as goal

pub read2-requires : goal.read2-requires
read2-requires c = omega (arith, fixed-long _ _ c.requires.0 c.requires.2)

pub returns : goal.returns
returns c = wrote-eq _ _ _ _ (fixed-outcome _ _ c.requires.0 _ c.requires.2 _ c.read2.ensures) c.resolve_fixed.ensures
