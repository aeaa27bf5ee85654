-- What the loop of `turns::reach` keeps.
use Rattle.variants.specs.Ways.{VariantAt}
use Rattle.turns.proofs.reach.Given as goal

abbrev pub invariant-loop : goal.invariant-loop
invariant-loop l = VariantAt l.depth l.s l.counter l.at
