-- `schema::skip::schema_len`, `field_len` and the functions that they call in a cycle meet their contracts. The depth falls from a node to its content; within a depth, from the content over its parts to a node. Assumes nothing.
use native.Mathlib.Omega.{arith}
use Prim.Native.Nat.{◌+◌}
use mathlib.Core.Path.{◌≡◌, sym, ◌∙◌, subst}
use mathlib.Core.List.{[]}
use lib.ListN.{length, length-drop}
use Rattle.text.proofs.ReadLaws.{reads-text}
use Rattle.frame.specs.SchemaFrame.{read_field, read_schema}
use Rattle.frame.proofs.Reading.{reads-eq}
use Rattle.frame.proofs.Measuring.{spans-le, spans-eq}
use Rattle.frame.proofs.Counting.{Walking, reads-list, walking_start, walking-first, walking-step, walking-end}
use Rattle.frame.proofs.SchemaNodes.{schema-there}
use Rattle.schema.proofs.Skipping.{text-held, leaf-content, child-known, child-spans, record-known, record-spans, union-variants, union-tables, union-spans, field-text, field-default, field-schema, field-spans, known-content, bare-spans, schema-spans}
use borrow.Author.Rules.{part_to_end}
use Rattle.schema.proofs.skip.+skipping.Goals as goal

pub content_skip-schema_len-requires : goal.content_skip-schema_len-requires
content_skip-schema_len-requires t c = (omega arith, child-known _ _ _ _ (omega arith) (omega arith) c.requires)

pub content_skip-returns-in-8 : goal.content_skip-returns-in-8
content_skip-returns-in-8 t c = child-spans _ _ _ _ (omega arith) (omega arith) c.requires _ c.schema_len.ensures

pub content_skip-fields_skip-requires : goal.content_skip-fields_skip-requires
content_skip-fields_skip-requires t c = let k : c.args.kind ≡ 11 = omega arith in (omega arith, record-known _ _ _ (rw k at c.requires))

pub content_skip-returns-in-11 : goal.content_skip-returns-in-11
content_skip-returns-in-11 t c = let k : c.args.kind ≡ 11 = omega arith in rw k (record-spans _ _ _ (rw k at c.requires) _ c.fields_skip.ensures)

pub content_skip-leaf_skip-requires : goal.content_skip-leaf_skip-requires
content_skip-leaf_skip-requires t c = ((λ h. omega arith), reads-eq _ _ (leaf-content _ _ _ _ _ _ (λ h. omega arith)) c.requires)

pub content_skip-returns-in_default : goal.content_skip-returns-in_default
content_skip-returns-in_default t c = spans-eq _ _ _ _ (leaf-content _ _ _ _ _ _ (λ h. omega arith)) c.leaf_skip.ensures

pub field_len-content-name-requires : goal.field_len-content-name-requires
field_len-content-name-requires t c = reads-text _ (field-text _ _ c.requires)

pub field_len-slice_bounds-default_skip-count : goal.field_len-slice_bounds-default_skip-count
field_len-slice_bounds-default_skip-count t c = c.content-name.ensures.1.0

pub field_len-slice_bounds-default_skip-start : goal.field_len-slice_bounds-default_skip-start
field_len-slice_bounds-default_skip-start t c = c.content-name.ensures.1.0

pub field_len-default_skip-requires : goal.field_len-default_skip-requires
field_len-default_skip-requires t c = rw part_to_end (field-default _ _ c.requires _ (text-held _ _ (field-text _ _ c.requires) c.content-name.ensures.0 c.content-name.ensures.1.0))

pub field_len-overflow_add-e : goal.field_len-overflow_add-e
field_len-overflow_add-e t c = omega (arith, c.content-name.ensures.1.0, spans-le _ _ _ (rw part_to_end at c.default_skip.ensures), length-drop (2 + length c.content-name.result.now) c.args.s.now, c.well_formed)

pub field_len-slice_bounds-schema_len-count : goal.field_len-slice_bounds-schema_len-count
field_len-slice_bounds-schema_len-count t c = omega (arith, c.content-name.ensures.1.0, spans-le _ _ _ (rw part_to_end at c.default_skip.ensures), length-drop (2 + length c.content-name.result.now) c.args.s.now)

pub field_len-slice_bounds-schema_len-start : goal.field_len-slice_bounds-schema_len-start
field_len-slice_bounds-schema_len-start t c = omega (arith, c.content-name.ensures.1.0, spans-le _ _ _ (rw part_to_end at c.default_skip.ensures), length-drop (2 + length c.content-name.result.now) c.args.s.now)

pub field_len-schema_len-requires : goal.field_len-schema_len-requires
field_len-schema_len-requires t c = (omega arith, rw part_to_end (field-schema _ _ c.requires _ (text-held _ _ (field-text _ _ c.requires) c.content-name.ensures.0 c.content-name.ensures.1.0) _ (rw part_to_end at c.default_skip.ensures)))

pub field_len-overflow_add-result : goal.field_len-overflow_add-result
field_len-overflow_add-result t c = omega (arith, c.content-name.ensures.1.0, spans-le _ _ _ (rw part_to_end at c.default_skip.ensures), length-drop (2 + length c.content-name.result.now) c.args.s.now, spans-le _ _ _ (rw part_to_end at c.schema_len.ensures), length-drop (2 + length c.content-name.result.now + c.default_skip.result) c.args.s.now, c.well_formed)

pub field_len-returns : goal.field_len-returns
field_len-returns t c = field-spans _ _ c.requires _ (text-held _ _ (field-text _ _ c.requires) c.content-name.ensures.0 c.content-name.ensures.1.0) _ (rw part_to_end at c.default_skip.ensures) _ (rw part_to_end at c.schema_len.ensures)

pub fields_skip-read2-count-requires : goal.fields_skip-read2-count-requires
fields_skip-read2-count-requires t c = reads-list (read_field (read_schema c.args.depth)) c.args.s.now c.requires

pub fields_skip-loop-init : goal.fields_skip-loop-init
fields_skip-loop-init t c = walking_start (read_field (read_schema c.args.depth)) c.args.s.now _ c.requires (omega (arith, c.read2-count.ensures))

pub fields_skip-slice_bounds-field_len-count : goal.fields_skip-slice_bounds-field_len-count
fields_skip-slice_bounds-field_len-count t c = omega (arith, c.loop.invariant.inside)

pub fields_skip-slice_bounds-field_len-start : goal.fields_skip-slice_bounds-field_len-start
fields_skip-slice_bounds-field_len-start t c = omega (arith, c.loop.invariant.inside)

pub fields_skip-field_len-at-requires : goal.fields_skip-field_len-at-requires
fields_skip-field_len-at-requires t c = (omega arith, rw part_to_end (walking-first (read_field (read_schema c.args.depth)) c.args.s.now _ _ c.loop.invariant c.requires (omega arith)))

pub fields_skip-overflow_add-at : goal.fields_skip-overflow_add-at
fields_skip-overflow_add-at t c = omega (arith, spans-le _ _ _ (rw part_to_end at c.field_len-at.ensures), length-drop c.loop.at c.args.s.now, c.well_formed, c.loop.invariant.inside)

pub fields_skip-loop-preserved : goal.fields_skip-loop-preserved
fields_skip-loop-preserved t c = subst (Walking (read_field (read_schema c.args.depth)) c.args.s.now _) (omega arith) (walking-step (read_field (read_schema c.args.depth)) c.args.s.now _ _ c.loop.invariant _ (omega arith) (rw part_to_end at c.field_len-at.ensures))

pub fields_skip-returns : goal.fields_skip-returns
fields_skip-returns t c = walking-end (read_field (read_schema c.args.depth)) c.args.s.now _ _ c.loop.invariant (omega arith)

pub schema_len-bounds-s-0 : goal.schema_len-bounds-s-0
schema_len-bounds-s-0 t c = (schema-there c.args.depth c.args.s.now c.requires).1

pub schema_len-returns-then-is_bare : goal.schema_len-returns-then-is_bare
schema_len-returns-then-is_bare t c = bare-spans _ c.args.depth c.args.s.now c.requires (sym c.is_bare.ensures ∙ c.if-is_bare.true)

pub schema_len-slice_bounds-content_skip-count : goal.schema_len-slice_bounds-content_skip-count
schema_len-slice_bounds-content_skip-count t c = (schema-there c.args.depth c.args.s.now c.requires).1

pub schema_len-slice_bounds-content_skip-start : goal.schema_len-slice_bounds-content_skip-start
schema_len-slice_bounds-content_skip-start t c = (schema-there c.args.depth c.args.s.now c.requires).1

pub schema_len-overflow_sub-depth : goal.schema_len-overflow_sub-depth
schema_len-overflow_sub-depth t c = let z = (schema-there c.args.depth c.args.s.now c.requires).0 in omega arith

pub schema_len-content_skip-requires : goal.schema_len-content_skip-requires
schema_len-content_skip-requires t c = let z = (schema-there c.args.depth c.args.s.now c.requires).0 in (omega arith, rw part_to_end (known-content _ c.args.depth c.args.s.now c.requires))

pub schema_len-overflow_add-result : goal.schema_len-overflow_add-result
schema_len-overflow_add-result t c = omega (arith, (schema-there c.args.depth c.args.s.now c.requires).1, spans-le _ _ _ (rw part_to_end at c.content_skip.ensures), length-drop 1 c.args.s.now, c.well_formed)

pub schema_len-returns : goal.schema_len-returns
schema_len-returns t c = schema-spans _ c.args.depth c.args.s.now c.requires _ (rw part_to_end at c.content_skip.ensures)

pub union_skip-variants_skip-a-requires : goal.union_skip-variants_skip-a-requires
union_skip-variants_skip-a-requires t c = (omega arith, union-variants _ _ _ c.requires)

pub union_skip-slice_bounds-tables_skip-count : goal.union_skip-slice_bounds-tables_skip-count
union_skip-slice_bounds-tables_skip-count t c = spans-le _ _ _ c.variants_skip-a.ensures

pub union_skip-slice_bounds-tables_skip-start : goal.union_skip-slice_bounds-tables_skip-start
union_skip-slice_bounds-tables_skip-start t c = spans-le _ _ _ c.variants_skip-a.ensures

pub union_skip-tables_skip-requires : goal.union_skip-tables_skip-requires
union_skip-tables_skip-requires t c = rw part_to_end (union-tables _ _ _ c.requires _ c.variants_skip-a.ensures)

pub union_skip-overflow_add-result : goal.union_skip-overflow_add-result
union_skip-overflow_add-result t c = omega (arith, spans-le _ _ _ c.variants_skip-a.ensures, spans-le _ _ _ (rw part_to_end at (c.tables_skip.ensures [])), length-drop c.variants_skip-a.result c.args.s.now, c.well_formed)

pub union_skip-returns : goal.union_skip-returns
union_skip-returns t c = union-spans _ _ _ c.requires _ _ c.variants_skip-a.ensures (λ vs. rw part_to_end at (c.tables_skip.ensures vs))

pub variants_skip-read2-count-requires : goal.variants_skip-read2-count-requires
variants_skip-read2-count-requires t c = reads-list (read_schema c.args.depth) c.args.s.now c.requires

pub variants_skip-loop-init : goal.variants_skip-loop-init
variants_skip-loop-init t c = walking_start (read_schema c.args.depth) c.args.s.now _ c.requires (omega (arith, c.read2-count.ensures))

pub variants_skip-slice_bounds-schema_len-count : goal.variants_skip-slice_bounds-schema_len-count
variants_skip-slice_bounds-schema_len-count t c = omega (arith, c.loop.invariant.inside)

pub variants_skip-slice_bounds-schema_len-start : goal.variants_skip-slice_bounds-schema_len-start
variants_skip-slice_bounds-schema_len-start t c = omega (arith, c.loop.invariant.inside)

pub variants_skip-schema_len-at-requires : goal.variants_skip-schema_len-at-requires
variants_skip-schema_len-at-requires t c = (omega arith, rw part_to_end (walking-first (read_schema c.args.depth) c.args.s.now _ _ c.loop.invariant c.requires (omega arith)))

pub variants_skip-overflow_add-at : goal.variants_skip-overflow_add-at
variants_skip-overflow_add-at t c = omega (arith, spans-le _ _ _ (rw part_to_end at c.schema_len-at.ensures), length-drop c.loop.at c.args.s.now, c.well_formed, c.loop.invariant.inside)

pub variants_skip-loop-preserved : goal.variants_skip-loop-preserved
variants_skip-loop-preserved t c = subst (Walking (read_schema c.args.depth) c.args.s.now _) (omega arith) (walking-step (read_schema c.args.depth) c.args.s.now _ _ c.loop.invariant _ (omega arith) (rw part_to_end at c.schema_len-at.ensures))

pub variants_skip-returns : goal.variants_skip-returns
variants_skip-returns t c = walking-end (read_schema c.args.depth) c.args.s.now _ _ c.loop.invariant (omega arith)
