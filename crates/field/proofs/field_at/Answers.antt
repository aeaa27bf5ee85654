-- `field::field_at` meets its contract. Assumes nothing.
use Rattle.field.proofs.Places.{flag-inside, behind-inside, parts_none, default-reads, schema-inside, parts-some}
use native.Mathlib.Omega.{arith}
use borrow.Author.Rules.{part_to_end}
use Rattle.schema.proofs.Checking.{name-reads}
use Rattle.field.proofs.field_at.Goals as goal

pub content-name-requires : goal.content-name-requires
content-name-requires c = name-reads _ _ c.requires

pub bounds-s-flag : goal.bounds-s-flag
bounds-s-flag c = flag-inside _ _ _ c.requires _ _ c.content-name.ensures.0

pub returns-then-s-flag-eq0 : goal.returns-then-s-flag-eq0
returns-then-s-flag-eq0 c = parts_none _ _ _ c.requires _ _ c.content-name.ensures.0 c.if-s-flag-eq0.true

pub slice_bounds-value_len-count : goal.slice_bounds-value_len-count
slice_bounds-value_len-count c = behind-inside _ _ _ c.requires _ _ c.content-name.ensures.0

pub slice_bounds-value_len-start : goal.slice_bounds-value_len-start
slice_bounds-value_len-start c = behind-inside _ _ _ c.requires _ _ c.content-name.ensures.0

pub value_len-n-requires : goal.value_len-n-requires
value_len-n-requires c = rw part_to_end (default-reads _ _ _ c.requires _ _ c.content-name.ensures.0 c.if-s-flag-eq0.false)

pub overflow_add-result : goal.overflow_add-result
overflow_add-result c = omega (arith, schema-inside _ _ _ c.requires _ _ c.content-name.ensures.0 c.if-s-flag-eq0.false _ (rw part_to_end at c.value_len-n.ensures), c.well_formed)

pub returns-else-s-flag-eq0 : goal.returns-else-s-flag-eq0
returns-else-s-flag-eq0 c = parts-some _ _ _ c.requires _ _ c.content-name.ensures.0 c.if-s-flag-eq0.false _ (rw part_to_end at c.value_len-n.ensures)
