-- `defaults::short_len` and the functions that it calls in a cycle meet their contracts. The depth falls from a node to
-- its variants and fields; within a depth, from a field to its schema, and from a schema to its variants or fields. Assumes nothing.
use borrow.Author.Rules.{part_to_end}
use Prim.Native.Nat.{◌+◌, ◌-◌}
use native.Mathlib.Omega.{arith}
use mathlib.Core.Path.{◌≡◌, sym, ◌∙◌}
use lib.ListN.{length-drop}
use Rattle.std.specs.Prelude.{Some, None}
use Rattle.defaults.proofs.SoundParts.{sound-reads, len-le, fails, node-len, sound-there, array-or-map, items-sound, items-len, values-sound, values_len, leaf-len, left-first, left-long, left-short, left_end, by-fields, fields-long, fields-start, fields-end, by_variants, variants-long, variants-start}
use Rattle.defaults.proofs.DefaultLaws.{inner-sound, inner-long, field-inside, none-short, inner-ready, default-inside, default-sound, start-len}
use Rattle.avro.specs.Defaults.{defaults_short}
use Rattle.defaults.specs.Shortness.{field_short}
use Rattle.defaults.proofs.+shortness.Goals as goal

pub field_short-field_at-f-requires : goal.field_short-field_at-f-requires
field_short-field_at-f-requires t c = sound-reads c.requires

pub field_short-short_len-requires : goal.field_short-short_len-requires
field_short-short_len-requires t c = (omega arith, rw part_to_end (inner-sound c.args.ds c.args.s.now c.field_at-f.result c.requires c.field_at-f.ensures))

pub field_short-returns-in_err-end : goal.field_short-returns-in_err-end
field_short-returns-in_err-end t c = rw c.from_residual.ensures (inner-long c.args.ds c.args.s.now c.field_at-f.result c.requires c.field_at-f.ensures (rw part_to_end at c.in_err-end.ensures))

pub field_short-overflow_add-end : goal.field_short-overflow_add-end
field_short-overflow_add-end t c = omega (arith, field-inside c.args.ds c.args.s.now c.field_at-f.result c.requires c.field_at-f.ensures _ (rw part_to_end at c.in_ok-end.ensures), c.well_formed)

pub field_short-slice_bounds-start_short-count-in-Some : goal.field_short-slice_bounds-start_short-count-in-Some
field_short-slice_bounds-start_short-count-in-Some t c = default-inside c.args.ds c.args.s.now c.field_at-f.result c.requires c.field_at-f.ensures _ (rw part_to_end at c.in_ok-end.ensures) _ c.in-Some.is

pub field_short-slice_bounds-start_short-start-in-Some : goal.field_short-slice_bounds-start_short-start-in-Some
field_short-slice_bounds-start_short-start-in-Some t c = default-inside c.args.ds c.args.s.now c.field_at-f.result c.requires c.field_at-f.ensures _ (rw part_to_end at c.in_ok-end.ensures) _ c.in-Some.is

pub field_short-start_short-requires : goal.field_short-start_short-requires
field_short-start_short-requires t c = (rw part_to_end (inner-ready c.args.ds c.args.s.now c.field_at-f.result c.requires c.field_at-f.ensures _ (rw part_to_end at c.in_ok-end.ensures)), rw part_to_end (default-sound c.args.ds c.args.s.now c.field_at-f.result c.requires c.field_at-f.ensures _ (rw part_to_end at c.in_ok-end.ensures) _ c.in-Some.is))

pub field_short-returns-in-Some : goal.field_short-returns-in-Some
field_short-returns-in-Some t c = rw c.then_some.ensures (start-len c.args.ds c.args.s.now c.field_at-f.result c.requires c.field_at-f.ensures _ (rw part_to_end at c.in_ok-end.ensures) _ c.in-Some.is _ (simp part_to_end at c.start_short.ensures))

pub field_short-returns-in-None : goal.field_short-returns-in-None
field_short-returns-in-None t c = none-short c.args.ds c.args.s.now c.field_at-f.result c.requires c.field_at-f.ensures _ (rw part_to_end at c.in_ok-end.ensures) c.in-None.is

pub fields_short-read2-end-requires : goal.fields_short-read2-end-requires
fields_short-read2-end-requires t c = omega (arith, fields-long c.args.ds c.args.s.now c.requires.0 c.requires.1)

pub fields_short-loop-init : goal.fields_short-loop-init
fields_short-loop-init t c = let e : c.read2-end.result - 0 ≡ c.read2-end.result = omega arith in rw e (fields-start c.args.ds c.args.s.now c.requires.0 c.requires.1 _ c.read2-end.ensures)

pub fields_short-overflow_sub-ds : goal.fields_short-overflow_sub-ds
fields_short-overflow_sub-ds t c = (sound-there c.args.ds c.args.s.now c.requires.0).0

pub fields_short-field_short-requires : goal.fields_short-field_short-requires
fields_short-field_short-requires t c = (omega (arith, (sound-there c.args.ds c.args.s.now c.requires.0).0), rw part_to_end (left-first by-fields c.loop.invariant (omega arith)))

pub fields_short-returns-in_err-at : goal.fields_short-returns-in_err-at
fields_short-returns-in_err-at t c = rw c.from_residual.ensures (fails defaults_short _ _ (left-long by-fields c.loop.invariant (omega arith) (rw part_to_end at c.in_err-at.ensures)))

pub fields_short-overflow_add-at : goal.fields_short-overflow_add-at
fields_short-overflow_add-at t c = omega (arith, c.loop.invariant.inside, len-le field_short _ _ _ (rw part_to_end at c.in_ok-at.ensures), length-drop c.loop.at c.args.s.now, c.well_formed)

pub fields_short-loop-preserved : goal.fields_short-loop-preserved
fields_short-loop-preserved t c =
    let left : c.read2-end.result - (c.loop.counter + 1) ≡ c.read2-end.result - c.loop.counter - 1 = omega arith in
    rw left (left-short by-fields c.loop.invariant (omega arith) _ (rw part_to_end at c.in_ok-at.ensures))

pub fields_short-returns : goal.fields_short-returns
fields_short-returns t c = fields-end c.args.ds c.args.s.now _ _ c.loop.invariant (omega arith)

pub short_len-bounds-s-0 : goal.short_len-bounds-s-0
short_len-bounds-s-0 t c = (sound-there c.args.ds c.args.s.now c.requires).1

pub short_len-schema_len-requires : goal.short_len-schema_len-requires
short_len-schema_len-requires t c = sound-reads c.requires

pub short_len-overflow_sub-ds : goal.short_len-overflow_sub-ds
short_len-overflow_sub-ds t c = (sound-there c.args.ds c.args.s.now c.requires).0

pub short_len-short_len-requires : goal.short_len-short_len-requires
short_len-short_len-requires t c = (omega (arith, (sound-there c.args.ds c.args.s.now c.requires).0), rw part_to_end (array-or-map _ (omega arith) (omega arith) (items-sound c.args.ds c.args.s.now c.requires) (values-sound c.args.ds c.args.s.now c.requires)))

pub short_len-returns-in_err-short_len-in-8 : goal.short_len-returns-in_err-short_len-in-8
short_len-returns-in_err-short_len-in-8 t c = rw c.from_residual.ensures (array-or-map _ (omega arith) (omega arith) (λ e. items-len c.args.ds c.args.s.now c.requires e None (rw part_to_end at c.in_err-short_len-in-8.ensures)) (λ e. values_len c.args.ds c.args.s.now c.requires e None (rw part_to_end at c.in_err-short_len-in-8.ensures)))

pub short_len-overflow_add-result : goal.short_len-overflow_add-result
short_len-overflow_add-result t c = omega (arith, len-le defaults_short _ _ _ (rw part_to_end at c.in_ok-short_len-in-8.ensures), length-drop 1 c.args.s.now, c.well_formed)

pub short_len-schema_len-requires-in_default : goal.short_len-schema_len-requires-in_default
short_len-schema_len-requires-in_default t c = sound-reads c.requires

pub short_len-returns-then-variants_short : goal.short_len-returns-then-variants_short
short_len-returns-then-variants_short t c = node-len c.args.ds c.args.s.now (sym c.variants_short.ensures ∙ c.if-variants_short.true) _ c.schema_len.ensures

pub short_len-returns-else-variants_short : goal.short_len-returns-else-variants_short
short_len-returns-else-variants_short t c = fails defaults_short _ _ (sym c.variants_short.ensures ∙ c.if-variants_short.false)

pub short_len-returns-in_ok-short_len-in-8 : goal.short_len-returns-in_ok-short_len-in-8
short_len-returns-in_ok-short_len-in-8 t c = array-or-map _ (omega arith) (omega arith) (λ e. items-len c.args.ds c.args.s.now c.requires e (Some _) (rw part_to_end at c.in_ok-short_len-in-8.ensures)) (λ e. values_len c.args.ds c.args.s.now c.requires e (Some _) (rw part_to_end at c.in_ok-short_len-in-8.ensures))

pub short_len-returns-in_default : goal.short_len-returns-in_default
short_len-returns-in_default t c = leaf-len c.args.ds c.args.s.now c.requires (omega arith) (omega arith) (omega arith) (omega arith) _ c.schema_len-in_default.ensures

pub variants_short-read2-end-requires : goal.variants_short-read2-end-requires
variants_short-read2-end-requires t c = omega (arith, variants-long c.args.ds c.args.s.now c.requires.0 c.requires.1)

pub variants_short-loop-init : goal.variants_short-loop-init
variants_short-loop-init t c = let e : c.read2-end.result - 0 ≡ c.read2-end.result = omega arith in rw e (variants-start c.args.ds c.args.s.now c.requires.0 c.requires.1 _ c.read2-end.ensures)

pub variants_short-overflow_sub-ds : goal.variants_short-overflow_sub-ds
variants_short-overflow_sub-ds t c = (sound-there c.args.ds c.args.s.now c.requires.0).0

pub variants_short-short_len-requires : goal.variants_short-short_len-requires
variants_short-short_len-requires t c = (omega (arith, (sound-there c.args.ds c.args.s.now c.requires.0).0), rw part_to_end (left-first by_variants c.loop.invariant (omega arith)))

pub variants_short-overflow_add-at : goal.variants_short-overflow_add-at
variants_short-overflow_add-at t c = omega (arith, c.loop.invariant.inside, len-le defaults_short _ _ _ (rw (c.in-Some.is, part_to_end) at c.short_len.ensures), length-drop c.loop.at c.args.s.now, c.well_formed)

pub variants_short-returns-in-None : goal.variants_short-returns-in-None
variants_short-returns-in-None t c = sym (left-long by_variants c.loop.invariant (omega arith) (rw (c.in-None.is, part_to_end) at c.short_len.ensures))

pub variants_short-loop-preserved : goal.variants_short-loop-preserved
variants_short-loop-preserved t c =
    let left : c.read2-end.result - (c.loop.counter + 1) ≡ c.read2-end.result - c.loop.counter - 1 = omega arith in
    rw left (left-short by_variants c.loop.invariant (omega arith) _ (rw (c.in-Some.is, part_to_end) at c.short_len.ensures))

pub variants_short-returns : goal.variants_short-returns
variants_short-returns t c = sym (left_end by_variants c.loop.invariant (omega arith)).0
