-- `symbols::default_text` meets its contract.
use native.Mathlib.Omega.{arith}
use borrow.Author.Rules.{part_to_end}
use Rattle.symbols.proofs.RoundLaws.{symbols-list, flag-there, default-counted, default-some, defaulted-reads, defaulted-flag}
use Rattle.symbols.proofs.default_text.Goals as goal

pub texts_len-from-requires : goal.texts_len-from-requires
texts_len-from-requires c = symbols-list _ (defaulted-reads _ c.requires)

pub overflow_add-from : goal.overflow_add-from
overflow_add-from c = omega (arith, flag-there _ _ (defaulted-reads _ c.requires) c.texts_len-from.ensures)

pub slice_bounds-content-count : goal.slice_bounds-content-count
slice_bounds-content-count c = omega (arith, flag-there _ _ (defaulted-reads _ c.requires) c.texts_len-from.ensures)

pub slice_bounds-content-start : goal.slice_bounds-content-start
slice_bounds-content-start c = omega (arith, flag-there _ _ (defaulted-reads _ c.requires) c.texts_len-from.ensures)

pub content-requires : goal.content-requires
content-requires c = let q = c.requires in let v = c.texts_len-from.ensures in rw part_to_end (default-counted _ _ (defaulted-reads _ q) v (defaulted-flag _ q _ v))

pub returns : goal.returns
returns c = let q = c.requires in let v = c.texts_len-from.ensures in (default-some _ _ (defaulted-reads _ q) v (defaulted-flag _ q _ v) (rw part_to_end at c.content.ensures.0), c.content.ensures.1.1)
