-- `leaf::leaf_decimal` meets its contract.
use native.Mathlib.Omega.{arith}
use Rattle.leaf.proofs.LeafSchemas.{decimal-long, sized-long, unsized-outcome, sized-outcome, wrote-eq}
use Rattle.leaf.proofs.leaf_decimal.Goals as goal
use Rattle.leaf.proofs.leaf_decimal.Goals.{then-s-eq1, else-s-eq1}

pub read4-precision-requires : goal.read4-precision-requires
read4-precision-requires c = omega (arith, decimal-long _ _ c.requires.0 c.requires.2)

pub read4-scale-requires : goal.read4-scale-requires
read4-scale-requires c = omega (arith, decimal-long _ _ c.requires.0 c.requires.2)

pub bounds-s-9 : goal.bounds-s-9
bounds-s-9 c = decimal-long _ _ c.requires.0 c.requires.2

pub read2-requires : goal.read2-requires
read2-requires c = omega (arith, sized-long _ _ c.requires.0 c.requires.2 c.if-s-eq1.true)

pub returns : goal.returns
returns c =
    wrote-eq _ _ _ _
    (elim c.if-s-eq1.branch [
      | then-s-eq1 w ↦ rw w.size-is (sized-outcome _ _ c.requires.0 _ c.requires.2 _ _ c.read4-precision.ensures c.read4-scale.ensures w.if-s-eq1.true _ w.read2.ensures)
      | else-s-eq1 w ↦ rw w.size-is (unsized-outcome _ _ c.requires.0 _ c.requires.2 _ _ c.read4-precision.ensures c.read4-scale.ensures w.if-s-eq1.false)
    ])
    c.resolve_decimal.ensures
