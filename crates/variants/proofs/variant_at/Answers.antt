-- `variants::variant_at` meets its contract.
use native.Mathlib.Omega.{arith}
use mathlib.Core.Path.{◌≡◌, subst}
use lib.ListN.{length-drop}
use borrow.Author.Rules.{part_to_end}
use Rattle.text.specs.Measured.{Reads}
use Rattle.frame.proofs.Measuring.{spans-le}
use Rattle.frame.proofs.SchemaNodes.{schema-there}
use Rattle.variants.specs.Ways.{VariantAt}
use Rattle.variants.proofs.UnionReading.{union-parts, passed_start, passed_reads, passed-step}
use Rattle.variants.proofs.variant_at.Goals as goal

pub loop-init : goal.loop-init
unfolding Reads
loop-init c = passed_start c.args.depth c.args.s.now c.requires.0.0 (union-parts c.args.depth c.args.s.now c.requires.0.0 c.requires.0.1.0 c.requires.0.1.1 c.requires.1)

pub slice_bounds-schema_len-count : goal.slice_bounds-schema_len-count
slice_bounds-schema_len-count c = c.loop.invariant.inside

pub slice_bounds-schema_len-start : goal.slice_bounds-schema_len-start
slice_bounds-schema_len-start c = c.loop.invariant.inside

pub overflow_sub-depth : goal.overflow_sub-depth
unfolding Reads
overflow_sub-depth c = (schema-there c.args.depth c.args.s.now c.requires.0).0

pub schema_len-at-requires : goal.schema_len-at-requires
schema_len-at-requires c = rw part_to_end (passed_reads c.args.depth c.args.s.now c.loop.counter c.loop.at c.loop.invariant (omega (arith, c.requires.2, c.loop-test.true)))

pub overflow_add-at : goal.overflow_add-at
overflow_add-at c = omega (arith, spans-le _ _ _ (rw part_to_end at c.schema_len-at.ensures), length-drop c.loop.at c.args.s.now, c.loop.invariant.inside)

pub loop-preserved : goal.loop-preserved
loop-preserved c = passed-step c.args.depth c.args.s.now c.loop.counter c.loop.at c.loop.invariant (omega (arith, c.requires.2, c.loop-test.true)) _ (rw part_to_end at c.schema_len-at.ensures)

pub returns : goal.returns
returns c = let e : c.loop.counter ≡ c.args.i = omega arith in subst (λ k. VariantAt c.args.depth c.args.s.now k c.loop.at) e c.loop.invariant
