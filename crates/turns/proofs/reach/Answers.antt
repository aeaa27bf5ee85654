-- `turns::reach` meets its contract.
use native.Mathlib.Omega.{arith}
use mathlib.Core.Path.{◌≡◌, subst}
use lib.ListN.{length-drop}
use borrow.Author.Rules.{part_to_end}
use Rattle.frame.proofs.Measuring.{spans-le}
use Rattle.frame.proofs.SchemaNodes.{schema-there}
use Rattle.variants.specs.Ways.{VariantAt}
use Rattle.variants.proofs.UnionReading.{passed_reads, passed-step, ready-reads}
use Rattle.turns.proofs.reach.Goals as goal

pub variant_at-requires : goal.variant_at-requires
variant_at-requires c = (ready-reads _ _ c.requires.0.schema, c.requires.0.kind, c.requires.1)

pub returns-then-i-from : goal.returns-then-i-from
returns-then-i-from c = c.variant_at.ensures

pub slice_bounds-schema_len-count : goal.slice_bounds-schema_len-count
slice_bounds-schema_len-count c = c.loop.invariant.inside

pub slice_bounds-schema_len-start : goal.slice_bounds-schema_len-start
slice_bounds-schema_len-start c = c.loop.invariant.inside

pub overflow_sub-depth : goal.overflow_sub-depth
overflow_sub-depth c = (schema-there _ _ (ready-reads _ _ c.requires.0.schema)).0

pub schema_len-at-requires : goal.schema_len-at-requires
schema_len-at-requires c = rw part_to_end (passed_reads _ _ _ _ c.loop.invariant (omega (arith, c.requires.1, c.loop-test.true)))

pub overflow_add-at : goal.overflow_add-at
overflow_add-at c = omega (arith, spans-le _ _ _ (rw part_to_end at c.schema_len-at.ensures), length-drop c.loop.at c.args.s.now, c.loop.invariant.inside)

pub loop-preserved : goal.loop-preserved
loop-preserved c = passed-step _ _ _ _ c.loop.invariant (omega (arith, c.requires.1, c.loop-test.true)) _ (rw part_to_end at c.schema_len-at.ensures)

pub returns : goal.returns
returns c = let e : c.loop.counter ≡ c.args.i = omega arith in subst (λ k. VariantAt c.args.depth c.args.s.now k c.loop.at) e c.loop.invariant
