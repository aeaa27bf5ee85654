-- `schema::plain::enum_skip` meets its contract. Assumes nothing.
use native.Mathlib.Omega.{arith}
use lib.ListN.{length-drop}
use Rattle.schema.proofs.Skipping.{symbols-texts, symbols-default, symbols-spans}
use borrow.Author.Rules.{part_to_end}
use Rattle.frame.proofs.Measuring.{spans-le}
use Rattle.schema.proofs.plain.enum_skip.Goals as goal

pub texts_len-a-requires : goal.texts_len-a-requires
texts_len-a-requires c = symbols-texts _ c.requires

pub slice_bounds-option_text_skip-count : goal.slice_bounds-option_text_skip-count
slice_bounds-option_text_skip-count c = spans-le _ _ _ c.texts_len-a.ensures

pub slice_bounds-option_text_skip-start : goal.slice_bounds-option_text_skip-start
slice_bounds-option_text_skip-start c = spans-le _ _ _ c.texts_len-a.ensures

pub option_text_skip-requires : goal.option_text_skip-requires
option_text_skip-requires c = rw part_to_end (symbols-default _ c.requires _ c.texts_len-a.ensures)

pub overflow_add-result : goal.overflow_add-result
overflow_add-result c = omega (arith, spans-le _ _ _ c.texts_len-a.ensures, spans-le _ _ _ (rw part_to_end at c.option_text_skip.ensures), length-drop c.texts_len-a.result c.args.s.now, c.well_formed)

pub returns : goal.returns
returns c = symbols-spans _ c.requires _ _ c.texts_len-a.ensures (rw part_to_end at c.option_text_skip.ensures)
