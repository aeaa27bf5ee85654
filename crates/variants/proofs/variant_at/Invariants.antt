-- What the loop of `variants::variant_at` keeps.
use Rattle.variants.specs.Ways.{VariantAt}
use Rattle.variants.proofs.variant_at.Given as goal

abbrev pub invariant-loop : goal.invariant-loop
invariant-loop l = VariantAt l.depth l.s l.counter l.at
