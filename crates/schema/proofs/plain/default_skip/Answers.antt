-- `schema::plain::default_skip` meets its contract. Assumes nothing.
use native.Mathlib.Omega.{arith}
use lib.ListN.{length-drop}
use Rattle.schema.proofs.Skipping.{option-none-spans, option-thing, option-some-spans}
use borrow.Author.Rules.{part_to_end}
use Rattle.frame.proofs.Reading.{option-long}
use Rattle.frame.proofs.Measuring.{spans-le}
use Rattle.schema.proofs.plain.default_skip.Goals as goal

pub bounds-s-0 : goal.bounds-s-0
bounds-s-0 c = option-long _ _ c.requires

pub returns-then-s-eq0 : goal.returns-then-s-eq0
returns-then-s-eq0 c = option-none-spans _ _ c.requires c.if-s-eq0.true

pub slice_bounds-value_len-count : goal.slice_bounds-value_len-count
slice_bounds-value_len-count c = option-long _ _ c.requires

pub slice_bounds-value_len-start : goal.slice_bounds-value_len-start
slice_bounds-value_len-start c = option-long _ _ c.requires

pub value_len-requires : goal.value_len-requires
value_len-requires c = rw part_to_end (option-thing _ _ c.requires c.if-s-eq0.false)

pub overflow_add-result : goal.overflow_add-result
overflow_add-result c = omega (arith, spans-le _ _ _ (rw part_to_end at c.value_len.ensures), length-drop 1 c.args.s.now, c.well_formed, option-long _ _ c.requires)

pub returns-else-s-eq0 : goal.returns-else-s-eq0
returns-else-s-eq0 c = option-some-spans _ _ c.requires c.if-s-eq0.false _ (rw part_to_end at c.value_len.ensures)
