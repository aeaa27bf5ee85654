-- `schema::plain::tables_skip` meets its contract. Assumes nothing.
use native.Mathlib.Omega.{arith}
use lib.ListN.{length-drop}
use Rattle.schema.proofs.Skipping.{tables-leads, tables-positions, tables-spans}
use borrow.Author.Rules.{part_to_end}
use Rattle.frame.proofs.Measuring.{spans-le}
use Rattle.schema.proofs.plain.tables_skip.Goals as goal

pub leads_skip-a-requires : goal.leads_skip-a-requires
leads_skip-a-requires c = tables-leads _ _ c.requires.1

pub slice_bounds-positions_skip-count : goal.slice_bounds-positions_skip-count
slice_bounds-positions_skip-count c = spans-le _ _ _ c.leads_skip-a.ensures

pub slice_bounds-positions_skip-start : goal.slice_bounds-positions_skip-start
slice_bounds-positions_skip-start c = spans-le _ _ _ c.leads_skip-a.ensures

pub positions_skip-requires : goal.positions_skip-requires
positions_skip-requires c = rw part_to_end (tables-positions _ _ c.requires.1 _ c.leads_skip-a.ensures)

pub overflow_add-result : goal.overflow_add-result
overflow_add-result c = omega (arith, spans-le _ _ _ c.leads_skip-a.ensures, spans-le _ _ _ (rw part_to_end at c.positions_skip.ensures), length-drop c.leads_skip-a.result c.args.s.now, c.well_formed)

pub returns : goal.returns
returns c = tables-spans _ _ c.requires.1 _ _ c.leads_skip-a.ensures (rw part_to_end at c.positions_skip.ensures)
