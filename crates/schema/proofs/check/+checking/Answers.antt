-- The cycle of `content_check`, `field_check`, `fields_check`, `record_check`, `schema_check`, `union_check`, `variants_check` in `schema::check` meets its contracts. Assumes nothing.
use native.Mathlib.Omega.{arith}
use Prim.Native.Nat.{◌+◌}
use mathlib.Core.Path.{◌≡◌, refl, sym, ◌∙◌, subst}
use mathlib.Core.List.{[]}
use mathlib.Core.Bool.{Bool, true, false, ◌&&◌}
use lib.Dec.{eqb, ltb}
use lib.ListN.{length-drop}
use borrow.Author.Tests.{eqb-true, eqb-false, lt-ltb, le-ltb}
use Rattle.frame.specs.Readers.{read_list}
use Rattle.frame.specs.Tree.{Schema}
use Rattle.frame.specs.SchemaFrame.{read_field, read_schema, read_schema_content, variants_of}
use Rattle.frame.specs.Sound.{schema_sound, variants_sound}
use Rattle.frame.specs.Checks.{Checks}
use Rattle.frame.proofs.Measuring.{long, measured-broken, held, checks-le, checks-none, checks-broken, checks-reads, checks-map}
use Rattle.frame.proofs.Counting.{Going, list-short, going-list, going_next, going-none, going_end}
use Rattle.frame.proofs.SchemaNodes.{schema-bottom, schema-empty, schema-node}
use Rattle.schema.specs.Parts.{field_sound, each_sound, no_unions}
use Rattle.schema.proofs.Nodes.{bare-checks, node-checks, array-content, map-content, union-none, field-none, field-broken₂, field-broken₃, field-checks, record-none}
use Rattle.schema.proofs.Checking.{variant-there, variants-step, count-there, union-broken₂, union-checks, record-checks, record-unsound}
use borrow.Author.Rules.{part_to_end}
use Rattle.schema.proofs.check.+checking.Goals as goal
use Rattle.schema.proofs.check.+checking.Goals.{union_check-then-count-gt0, union_check-else-count-gt0, schema_check-then-depth-eq0-via-then-depth-eq0, schema_check-then-depth-eq0-via-else-depth-eq0+then-is_empty}

pub field_check-returns-in_err-a : goal.field_check-returns-in_err-a
field_check-returns-in_err-a t c = rw c.from_residual.ensures (checks-none _ _ _ (field-none _ _ (measured-broken _ _ c.in_err-a.ensures)))

pub field_check-slice_bounds-default_check-count : goal.field_check-slice_bounds-default_check-count
field_check-slice_bounds-default_check-count t c = omega (arith, (long _ _ _ c.in_ok-a.ensures).inside)

pub field_check-slice_bounds-default_check-start : goal.field_check-slice_bounds-default_check-start
field_check-slice_bounds-default_check-start t c = omega (arith, (long _ _ _ c.in_ok-a.ensures).inside)

pub field_check-returns-in_err-default : goal.field_check-returns-in_err-default
field_check-returns-in_err-default t c = rw c.from_residual-in_err-default.ensures (checks-none _ _ _ (field-broken₂ _ _ _ c.in_ok-a.ensures (rw part_to_end at c.in_err-default.ensures)))

pub field_check-overflow_add-e : goal.field_check-overflow_add-e
field_check-overflow_add-e t c = omega (arith, (long _ _ _ c.in_ok-a.ensures).inside, (held _ _ _ _ _ (rw part_to_end at c.in_ok-default.ensures)).inside, length-drop c.in_ok-a.a c.args.s.now, c.well_formed)

pub field_check-slice_bounds-schema_check-count : goal.field_check-slice_bounds-schema_check-count
field_check-slice_bounds-schema_check-count t c = omega (arith, (long _ _ _ c.in_ok-a.ensures).inside, (held _ _ _ _ _ (rw part_to_end at c.in_ok-default.ensures)).inside, length-drop c.in_ok-a.a c.args.s.now)

pub field_check-slice_bounds-schema_check-start : goal.field_check-slice_bounds-schema_check-start
field_check-slice_bounds-schema_check-start t c = omega (arith, (long _ _ _ c.in_ok-a.ensures).inside, (held _ _ _ _ _ (rw part_to_end at c.in_ok-default.ensures)).inside, length-drop c.in_ok-a.a c.args.s.now)

pub field_check-returns-in_err-schema : goal.field_check-returns-in_err-schema
field_check-returns-in_err-schema t c = rw c.from_residual-in_err-schema.ensures (checks-none _ _ _ (field-broken₃ _ _ _ c.in_ok-a.ensures _ _ (rw part_to_end at c.in_ok-default.ensures) (checks-broken _ _ _ (rw part_to_end at c.in_err-schema.ensures))))

pub field_check-overflow_add-result : goal.field_check-overflow_add-result
field_check-overflow_add-result t c = omega (arith, (long _ _ _ c.in_ok-a.ensures).inside, (held _ _ _ _ _ (rw part_to_end at c.in_ok-default.ensures)).inside, length-drop c.in_ok-a.a c.args.s.now, (held _ _ _ _ _ (rw part_to_end at c.in_ok-schema.ensures)).inside, length-drop (c.in_ok-a.a + c.in_ok-default.default.len) c.args.s.now, c.well_formed)

pub fields_check-returns-then-s-lt2 : goal.fields_check-returns-then-s-lt2
fields_check-returns-then-s-lt2 t c = checks-none _ _ _ (list-short _ _ c.if-s-lt2.true)

pub fields_check-loop-init : goal.fields_check-loop-init
fields_check-loop-init t c = going-list (read_field (read_schema c.args.depth)) c.args.s.now each_sound _ c.if-s-lt2.false (omega (arith, c.read2-count.ensures))

pub fields_check-slice_bounds-field_check-count : goal.fields_check-slice_bounds-field_check-count
fields_check-slice_bounds-field_check-count t c = omega (arith, c.loop.invariant.inside)

pub fields_check-slice_bounds-field_check-start : goal.fields_check-slice_bounds-field_check-start
fields_check-slice_bounds-field_check-start t c = omega (arith, c.loop.invariant.inside)

pub fields_check-returns-in_err-field : goal.fields_check-returns-in_err-field
fields_check-returns-in_err-field t c = rw c.from_residual.ensures (checks-none _ _ _ (going-none _ _ _ _ _ _ _ _ c.loop.invariant (omega arith) (checks-broken _ _ _ (rw part_to_end at c.in_err-field.ensures))))

pub fields_check-overflow_add-at : goal.fields_check-overflow_add-at
fields_check-overflow_add-at t c = omega (arith, (held _ _ _ _ _ (rw part_to_end at c.in_ok-field.ensures)).inside, length-drop c.loop.at c.args.s.now, c.well_formed, c.loop.invariant.inside)

pub fields_check-loop-preserved : goal.fields_check-loop-preserved
unfolding each_sound
fields_check-loop-preserved t c =
    let w = going_next _ _ _ _ _ _ _ each_sound c.loop.invariant field_sound (λ a l. refl) (omega arith) _ _ _ (rw part_to_end at c.in_ok-field.ensures) refl in
    subst (λ left. Going (read_list (read_field (read_schema c.args.depth)) c.args.s.now) (read_field (read_schema c.args.depth)) each_sound c.args.s.now (c.loop.at + c.in_ok-field.field.len) left (c.loop.sound && c.in_ok-field.field.sound) each_sound) (omega arith) w

pub fields_check-returns : goal.fields_check-returns
unfolding each_sound
fields_check-returns t c = going_end _ _ _ _ _ _ _ _ c.loop.invariant (omega arith) refl

pub record_check-returns-in_err-fields : goal.record_check-returns-in_err-fields
record_check-returns-in_err-fields t c = rw c.from_residual.ensures (checks-none _ _ _ (record-none _ _ _ (checks-broken _ _ _ c.in_err-fields.ensures)))

pub record_check-names_differ-requires : goal.record_check-names_differ-requires
record_check-names_differ-requires t c = checks-reads _ _ _ _ _ c.in_ok-fields.ensures

pub schema_check-returns-then-is_bare : goal.schema_check-returns-then-is_bare
schema_check-returns-then-is_bare t c = bare-checks _ _ _ c.if-depth-eq0.false (eqb-false _ _ (sym c.if-is_empty.ensures)) (sym c.is_bare.ensures ∙ c.if-is_bare.true)

pub schema_check-returns-in_err-content : goal.schema_check-returns-in_err-content
schema_check-returns-in_err-content t c = rw c.from_residual.ensures (checks-none _ _ _ (schema-node _ _ _ c.if-depth-eq0.false (eqb-false _ _ (sym c.if-is_empty.ensures)) ∙ checks-broken _ _ _ (rw part_to_end at c.in_err-content.ensures)))

pub schema_check-overflow_add-result : goal.schema_check-overflow_add-result
schema_check-overflow_add-result t c = omega (arith, (held _ _ _ _ _ (rw part_to_end at c.in_ok-content.ensures)).inside, length-drop 1 c.args.s.now, c.well_formed)

pub schema_check-returns : goal.schema_check-returns
schema_check-returns t c = node-checks _ _ _ _ _ c.if-depth-eq0.false (eqb-false _ _ (sym c.if-is_empty.ensures)) (rw part_to_end at c.in_ok-content.ensures)

pub union_check-returns-in_err-variants : goal.union_check-returns-in_err-variants
union_check-returns-in_err-variants t c = rw c.from_residual.ensures (checks-none _ _ _ (union-none _ _ _ (checks-broken _ _ _ c.in_err-variants.ensures)))

pub union_check-read2-count-requires : goal.union_check-read2-count-requires
union_check-read2-count-requires t c = count-there _ _ _ _ c.in_ok-variants.ensures

pub union_check-slice_bounds-tables_check-count : goal.union_check-slice_bounds-tables_check-count
union_check-slice_bounds-tables_check-count t c = omega (arith, checks-le _ _ _ _ _ c.in_ok-variants.ensures)

pub union_check-slice_bounds-tables_check-start : goal.union_check-slice_bounds-tables_check-start
union_check-slice_bounds-tables_check-start t c = omega (arith, checks-le _ _ _ _ _ c.in_ok-variants.ensures)

pub union_check-returns-in_err-tables : goal.union_check-returns-in_err-tables
union_check-returns-in_err-tables t c = rw c.from_residual-in_err-tables.ensures (checks-none _ _ _ (union-broken₂ _ _ _ _ _ c.in_ok-variants.ensures _ c.read2-count.ensures
    λ vs l. rw part_to_end at (c.in_err-tables.ensures vs)))

pub union_check-overflow_add-result : goal.union_check-overflow_add-result
union_check-overflow_add-result t c =
    omega (arith, checks-le _ _ _ _ _ c.in_ok-variants.ensures, checks-le _ _ _ _ _ (rw part_to_end at (c.in_ok-tables.ensures [])), length-drop c.in_ok-variants.variants.len c.args.s.now, c.well_formed)

pub variants_check-returns-then-s-lt2 : goal.variants_check-returns-then-s-lt2
variants_check-returns-then-s-lt2 t c = checks-none _ _ _ (list-short _ _ c.if-s-lt2.true)

pub variants_check-loop-init : goal.variants_check-loop-init
variants_check-loop-init t c = going-list (read_schema c.args.depth) c.args.s.now no_unions _ c.if-s-lt2.false (omega (arith, c.read2-count.ensures))

pub variants_check-slice_bounds-schema_check-count : goal.variants_check-slice_bounds-schema_check-count
variants_check-slice_bounds-schema_check-count t c = omega (arith, c.loop.invariant.inside)

pub variants_check-slice_bounds-schema_check-start : goal.variants_check-slice_bounds-schema_check-start
variants_check-slice_bounds-schema_check-start t c = omega (arith, c.loop.invariant.inside)

pub variants_check-returns-in_err-variant : goal.variants_check-returns-in_err-variant
variants_check-returns-in_err-variant t c = rw c.from_residual.ensures (checks-none _ _ _ (going-none _ _ _ _ _ _ _ _ c.loop.invariant (omega arith) (checks-broken _ _ _ (rw part_to_end at c.in_err-variant.ensures))))

pub variants_check-bounds-s-at : goal.variants_check-bounds-s-at
variants_check-bounds-s-at t c = variant-there _ _ _ _ _ _ (rw part_to_end at c.in_ok-variant.ensures)

pub variants_check-overflow_add-at : goal.variants_check-overflow_add-at
variants_check-overflow_add-at t c = omega (arith, (held _ _ _ _ _ (rw part_to_end at c.in_ok-variant.ensures)).inside, length-drop c.loop.at c.args.s.now, c.well_formed, c.loop.invariant.inside)

pub variants_check-loop-preserved : goal.variants_check-loop-preserved
variants_check-loop-preserved t c = variants-step _ _ _ _ _ _ _ c.loop.invariant c.loop-test.true _ _ _ (rw part_to_end at c.in_ok-variant.ensures) refl

pub variants_check-returns : goal.variants_check-returns
unfolding variants_sound variants_of
variants_check-returns t c = going_end _ _ _ _ _ _ _ no_unions c.loop.invariant (omega arith) refl

pub content_check-returns-in-8 : goal.content_check-returns-in-8
unfolding schema_sound
content_check-returns-in-8 t c = here (eqb c.args.kind 8) refl
  where
    here : (b : Bool) → eqb c.args.kind 8 ≡ b → Checks schema_sound (read_schema_content (read_schema c.args.depth) c.args.kind c.args.s.now) c.args.s.now c.schema_check.result
    here true e = rw (eqb-true _ _ e, array-content) (checks-map schema_sound schema_sound Schema.Array (λ a. refl) _ _ _ c.schema_check.ensures)
    here false e = let f = eqb-false _ _ e in let q : c.args.kind ≡ 9 = omega arith in rw (q, map-content) (checks-map schema_sound schema_sound Schema.Map (λ a. refl) _ _ _ c.schema_check.ensures)

pub field_check-returns-then-default : goal.field_check-returns-then-default
field_check-returns-then-default t c = field-checks _ _ _ c.in_ok-a.ensures _ _ (rw part_to_end at c.in_ok-default.ensures) _ _ _ (rw part_to_end at c.in_ok-schema.ensures) (rw c.if-default.true)

pub field_check-returns-else-default : goal.field_check-returns-else-default
field_check-returns-else-default t c = field-checks _ _ _ c.in_ok-a.ensures _ _ (rw part_to_end at c.in_ok-default.ensures) _ _ _ (rw part_to_end at c.in_ok-schema.ensures) (rw c.if-default.false)

pub record_check-returns-then-fields : goal.record_check-returns-then-fields
record_check-returns-then-fields t c = record-checks _ _ _ _ _ c.in_ok-fields.ensures _ c.names_differ.ensures _ (rw c.if-fields.true)

pub record_check-returns-else-fields : goal.record_check-returns-else-fields
record_check-returns-else-fields t c = record-unsound _ _ _ _ _ c.in_ok-fields.ensures c.if-fields.false

pub schema_check-returns-then-depth-eq0 : goal.schema_check-returns-then-depth-eq0
schema_check-returns-then-depth-eq0 t c =
    elim c.then-depth-eq0.branch [
      | schema_check-then-depth-eq0-via-then-depth-eq0 w ↦ checks-none _ _ _ (schema-bottom _ _ _ w.if-depth-eq0.true)
      | schema_check-then-depth-eq0-via-else-depth-eq0+then-is_empty w ↦ checks-none _ _ _ (schema-empty _ _ _ (eqb-true _ _ (sym w.if-is_empty.ensures)))
    ]

pub union_check-returns-then-variants : goal.union_check-returns-then-variants
union_check-returns-then-variants t c =
    let some : c.if-count-gt0.value ≡ ltb 0 c.read2-count.result && c.in_ok-variants.variants.sound = elim c.if-count-gt0.branch [
      | union_check-then-count-gt0 w ↦ rw (w.value-is, lt-ltb 0 _ w.if-count-gt0.true)
      | union_check-else-count-gt0 w ↦ rw (w.value-is, le-ltb 0 _ w.if-count-gt0.false)
    ] in
    union-checks _ _ _ _ _ c.in_ok-variants.ensures _ c.read2-count.ensures _ _ (λ vs l. rw part_to_end at (c.in_ok-tables.ensures vs)) _ _ some (rw c.if-variants.true)

pub union_check-returns-else-variants : goal.union_check-returns-else-variants
union_check-returns-else-variants t c =
    let some : c.if-count-gt0.value ≡ ltb 0 c.read2-count.result && c.in_ok-variants.variants.sound = elim c.if-count-gt0.branch [
      | union_check-then-count-gt0 w ↦ rw (w.value-is, lt-ltb 0 _ w.if-count-gt0.true)
      | union_check-else-count-gt0 w ↦ rw (w.value-is, le-ltb 0 _ w.if-count-gt0.false)
    ] in
    union-checks _ _ _ _ _ c.in_ok-variants.ensures _ c.read2-count.ensures _ _ (λ vs l. rw part_to_end at (c.in_ok-tables.ensures vs)) _ _ some (rw c.if-variants.false)
