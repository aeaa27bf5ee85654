-- The functions of `walk` that call one another meet their contracts.
use native.Mathlib.Omega.{arith}
use Prim.Native.Nat.{ℕ, ◌+◌, ◌-◌}
use mathlib.Core.Path.{◌≡◌, refl, sym, ◌∙◌}
use mathlib.Core.Logic.{inl, inr}
use lib.ListN.{length, take, length-drop}
use lib.Seq.{length-take-le}
use borrow.Rule.Slice.PartMut.{same_len_mid}
use Rattle.number.proofs.Laws.{get_or-all_bytes}
use Rattle.types.proofs.NodeLaws.{wrote-stop}
use Rattle.value.proofs.SkipLaws.{entry-counted}
use Rattle.schema.proofs.Checking.{name-reads}
use Rattle.frame.proofs.ValueNodes.{value_there}
use Rattle.frame.proofs.SchemaNodes.{schema-there}
use Rattle.buffer.proofs.BuiltLaws.{built-small}
use Rattle.walk.proofs.ReadParts.{value-array, value-map}
use Rattle.leaf.proofs.LeafSchemas.{wrote-eq}
use Rattle.walk.proofs.Pieces.{accepted-small, both_first, both-second, going_start, loop-first, loop-small, loop-end, loop-no, loop-add, loop-within, loop-step, wrote-last, wrote-last-no}
use Rattle.walk.proofs.NodeBytes.{both-peel, peel-reads, ready-array, ready-map, array-no, array-others, array-start}
use Rattle.walk.proofs.ChildBytes.{map-no, map-others, map-start, fields-long, record-no}
use Rattle.find.specs.Find.{Keyed}
use Rattle.walk.proofs.FieldBytes.{entry_value, entry_whole, ready-field-reads, field-schema, found_inside, found-value, field_found, field-none, default-inside, field-default, field-defaults}
use Rattle.walk.proofs.DefaultBytes.{default-value, default-plain, default-null, null-value, first-ready, first-long, made-value, default-made, default-refused}
use Rattle.walk.proofs.FieldLoop.{fields-begin, fields-ready, fields-step}
use Rattle.text.specs.Measured.{Reads}
use Rattle.variants.proofs.UnionReading.{ready-reads}
use borrow.Author.Rules.{part_to_end}
use Rattle.find.proofs.FindLaws.{keyed-length}
use Rattle.find.proofs.MarkLaws.{marked-none}
use Rattle.turns.proofs.PartLaws.{part_count, part-deep, variant-ready, variant-reads}
use Rattle.walk.specs.UnionContract.{Steps}
use Rattle.walk.proofs.UnionSteps.{indexed-accepted, indexed-refused, going-value, position-small, turning-start, turning-within, turning-fewer, turning-next, passed-of, due_below, due-there, turn-over, turn-skipped, turn-accepted, turn-beaten, turn_last, turn-refused, behind-table, behind-named, either-accepted, either-untried, either-named}
use Rattle.std.proofs.lemmas.Result.{err_from_is_err_and}
use native.Mathlib.Nat.{sub-add-eq}
use Rattle.base.specs.declared.refusal.Refusal.TheVariants.{Unsuited, FieldMissing}
use Rattle.walk.proofs.+walking.Goals as goal

pub default-bounds-s-0 : goal.default-bounds-s-0
default-bounds-s-0 t c = (schema-there _ _ (ready-reads _ _ c.requires.schema)).1

pub default-resolve_node-requires : goal.default-resolve_node-requires
default-resolve_node-requires t c = (omega arith, record { schema = c.requires.schema; value = default-value _ _ _ c.requires })

pub default-returns-then-s-ne-UNION : goal.default-returns-then-s-ne-UNION
default-returns-then-s-ne-UNION t c = wrote-eq _ _ _ _ (default-plain _ _ _ c.requires c.if-s-ne-UNION.true) c.resolve_node.ensures

pub default-bounds-s-3 : goal.default-bounds-s-3
default-bounds-s-3 t c = first-long _ _ c.requires.schema c.if-s-ne-UNION.false

pub default-resolve_union-requires : goal.default-resolve_union-requires
default-resolve_union-requires t c = (omega arith, record { schema = c.requires.schema; value = null-value _ refl; kind = c.if-s-ne-UNION.false })

pub default-returns-then-s-eq-NULL : goal.default-returns-then-s-eq-NULL
default-returns-then-s-eq-NULL t c = wrote-eq _ _ _ _ (default-null _ _ _ c.requires c.if-s-ne-UNION.false _ refl c.if-s-eq-NULL.true) c.resolve_union.ensures

pub default-overflow_sub-inner : goal.default-overflow_sub-inner
default-overflow_sub-inner t c = (schema-there _ _ (ready-reads _ _ c.requires.schema)).0

pub default-slice_bounds-resolve_node-count : goal.default-slice_bounds-resolve_node-count
default-slice_bounds-resolve_node-count t c = let h = first-long _ _ c.requires.schema c.if-s-ne-UNION.false in omega arith

pub default-slice_bounds-resolve_node-start : goal.default-slice_bounds-resolve_node-start
default-slice_bounds-resolve_node-start t c = let h = first-long _ _ c.requires.schema c.if-s-ne-UNION.false in omega arith

pub default-resolve_node-requires-2 : goal.default-resolve_node-requires-2
default-resolve_node-requires-2 t c = let h = (schema-there _ _ (ready-reads _ _ c.requires.schema)).0 in (omega arith, record { schema = rw part_to_end (first-ready _ _ c.requires.schema c.if-s-ne-UNION.false); value = default-value _ _ _ c.requires })

pub default-resolve_union-requires-2 : goal.default-resolve_union-requires-2
default-resolve_union-requires-2 t c = (omega arith, record { schema = c.requires.schema; value = made-value _ _ _ c.requires c.if-s-ne-UNION.false c.if-s-eq-NULL.false (get_or-all_bytes c.args.s.now (λ i. omega (arith, c.type_inv.s i))) (get_or-all_bytes c.args.d.now (λ i. omega (arith, c.type_inv.d i))) _ _ (rw part_to_end at c.in_ok-resolve_node.ensures) c.resolve_node-2.auto.out; kind = c.if-s-ne-UNION.false })

pub default-returns : goal.default-returns
default-returns t c = wrote-eq _ _ _ _ (default-made _ _ _ c.requires c.if-s-ne-UNION.false c.if-s-eq-NULL.false (get_or-all_bytes c.args.s.now (λ i. omega (arith, c.type_inv.s i))) (get_or-all_bytes c.args.d.now (λ i. omega (arith, c.type_inv.d i))) _ _ (rw part_to_end at c.in_ok-resolve_node.ensures) c.resolve_node-2.auto.out) c.resolve_union-2.ensures

pub default-returns-in_err-resolve_node : goal.default-returns-in_err-resolve_node
default-returns-in_err-resolve_node t c = let p = err_from_is_err_and c.from_residual.result c.from_residual.ensures.1 in rw (p.1, p.2) (default-refused _ _ _ c.requires c.if-s-ne-UNION.false c.if-s-eq-NULL.false _ _ _ (rw part_to_end at c.in_err-resolve_node.ensures))

pub either-overflow_sub-inner : goal.either-overflow_sub-inner
either-overflow_sub-inner t c = part-deep _ _ c.requires.going.goes.part

pub either-variant_at-p-requires : goal.either-variant_at-p-requires
either-variant_at-p-requires t c = (ready-reads _ _ c.requires.going.goes.part.schema, c.requires.going.goes.part.kind, omega (arith, part_count _ _ c.requires.going.goes.part, behind-table _ _ _ _ _ c.requires))

pub either-slice_bounds-indexed-count : goal.either-slice_bounds-indexed-count
either-slice_bounds-indexed-count t c = c.variant_at-p.ensures.inside

pub either-slice_bounds-indexed-start : goal.either-slice_bounds-indexed-start
either-slice_bounds-indexed-start t c = c.variant_at-p.ensures.inside

pub either-indexed-requires : goal.either-indexed-requires
either-indexed-requires t c = let h = part-deep _ _ c.requires.going.goes.part in (omega arith, record { schema = rw part_to_end (variant-ready _ _ c.requires.going.goes.part _ _ c.variant_at-p.ensures (behind-table _ _ _ _ _ c.requires)); value = going-value _ _ _ _ c.requires.going; small = position-small _ _ c.requires.going.goes.part (λ i. omega (arith, c.type_inv.s i)) _ (behind-table _ _ _ _ _ c.requires) })

pub either-slice_bounds-is_tried-count : goal.either-slice_bounds-is_tried-count
either-slice_bounds-is_tried-count t c = c.variant_at-p.ensures.inside

pub either-slice_bounds-is_tried-start : goal.either-slice_bounds-is_tried-start
either-slice_bounds-is_tried-start t c = c.variant_at-p.ensures.inside

pub either-overflow_sub-w : goal.either-overflow_sub-w
either-overflow_sub-w t c = part-deep _ _ c.requires.going.goes.part

pub either-is_tried-requires : goal.either-is_tried-requires
either-is_tried-requires t c = rw part_to_end (variant-reads _ _ c.requires.going.goes.part _ _ c.variant_at-p.ensures (behind-table _ _ _ _ _ c.requires))

pub either-shape_of-out-then-not-is_tried : goal.either-shape_of-out-then-not-is_tried
either-shape_of-out-then-not-is_tried t c = c.indexed.auto.out

pub either-returns-then-not-is_tried : goal.either-returns-then-not-is_tried
either-returns-then-not-is_tried t c = either-untried _ _ _ _ _ c.requires _ c.variant_at-p.ensures _ _ (rw (c.in-Err.is, part_to_end) at c.indexed.ensures) _ (rw part_to_end at c.is_tried.ensures) (c.if-not-is_tried.true)

pub either-variant_at-q-requires : goal.either-variant_at-q-requires
either-variant_at-q-requires t c = (ready-reads _ _ c.requires.going.goes.part.schema, c.requires.going.goes.part.kind, omega (arith, part_count _ _ c.requires.going.goes.part, behind-named _ _ _ _ _ c.requires))

pub either-slice_bounds-indexed-count-in-Err : goal.either-slice_bounds-indexed-count-in-Err
either-slice_bounds-indexed-count-in-Err t c = c.variant_at-q.ensures.inside

pub either-slice_bounds-indexed-start-in-Err : goal.either-slice_bounds-indexed-start-in-Err
either-slice_bounds-indexed-start-in-Err t c = c.variant_at-q.ensures.inside

pub either-indexed-requires-in-Err : goal.either-indexed-requires-in-Err
either-indexed-requires-in-Err t c = let h = part-deep _ _ c.requires.going.goes.part in (omega arith, record { schema = rw part_to_end (variant-ready _ _ c.requires.going.goes.part _ _ c.variant_at-q.ensures (behind-named _ _ _ _ _ c.requires)); value = going-value _ _ _ _ c.requires.going; small = position-small _ _ c.requires.going.goes.part (λ i. omega (arith, c.type_inv.s i)) _ (behind-named _ _ _ _ _ c.requires) })

pub either-shape_of-out-in-Ok : goal.either-shape_of-out-in-Ok
either-shape_of-out-in-Ok t c = c.indexed.auto.out

pub either-returns-in-Ok : goal.either-returns-in-Ok
either-returns-in-Ok t c = either-accepted _ _ _ _ _ c.requires _ c.variant_at-p.ensures _ _ (rw (c.in-Ok.is, part_to_end) at c.indexed.ensures)

pub either-shape_of-out-else-not-is_tried : goal.either-shape_of-out-else-not-is_tried
either-shape_of-out-else-not-is_tried t c = c.indexed-in-Err.auto.out ∙ c.indexed.auto.out

pub either-returns-else-not-is_tried : goal.either-returns-else-not-is_tried
either-returns-else-not-is_tried t c = either-named _ _ _ _ _ c.requires _ c.variant_at-p.ensures _ _ (rw (c.in-Err.is, part_to_end) at c.indexed.ensures) _ (rw part_to_end at c.is_tried.ensures) (c.if-not-is_tried.false) _ c.variant_at-q.ensures _ _ (rw part_to_end at c.indexed-in-Err.ensures)

pub entry-content-requires : goal.entry-content-requires
entry-content-requires t c = entry-counted _ _ c.requires.entry

pub entry-overflow_add-n : goal.entry-overflow_add-n
entry-overflow_add-n t c = omega (arith, c.content.ensures.1.1)

pub entry-slice_bounds-put-end : goal.entry-slice_bounds-put-end
entry-slice_bounds-put-end t c = sym (length-take-le (length c.content.result.now + 2) c.args.v.now (omega (arith, c.content.ensures.1.0)))

pub entry-slice_bounds-resolve_node-count : goal.entry-slice_bounds-resolve_node-count
entry-slice_bounds-resolve_node-count t c = omega (arith, c.content.ensures.1.0)

pub entry-slice_bounds-resolve_node-start : goal.entry-slice_bounds-resolve_node-start
entry-slice_bounds-resolve_node-start t c = omega (arith, c.content.ensures.1.0)

pub entry-resolve_node-requires : goal.entry-resolve_node-requires
entry-resolve_node-requires t c = (omega arith, record { schema = c.requires.schema; value = rw part_to_end (entry_value _ _ _ c.requires.entry c.content.ensures.0) })

pub entry-joined-requires : goal.entry-joined-requires
entry-joined-requires t c = (built-small _ _ _ c.put-at.ensures, accepted-small _ _ _ c.in_ok-m.ensures)

pub entry-shape_of-out : goal.entry-shape_of-out
entry-shape_of-out t c = same_len_mid {X = ℕ} c.room-o.result (length c.put-at.new.out - c.room-o.result) c.put-at.new.out c.resolve_node.new.out c.resolve_node.auto.out ∙ c.put-at.auto.out

pub entry-returns : goal.entry-returns
entry-returns t c = wrote-last _ _ _ _ _ _ _ _ _ c.put-at.ensures (entry_whole _ _ _ _ _ c.requires.schema c.requires.entry (get_or-all_bytes c.args.v.now (λ i. omega (arith, c.type_inv.v i))) c.content.ensures.0) c.room-o.ensures c.resolve_node.auto.out (rw part_to_end at c.in_ok-m.ensures) c.joined.ensures

pub entry-shape_of-out-in_err-m : goal.entry-shape_of-out-in_err-m
entry-shape_of-out-in_err-m t c = same_len_mid {X = ℕ} c.room-o.result (length c.put-at.new.out - c.room-o.result) c.put-at.new.out c.resolve_node.new.out c.resolve_node.auto.out ∙ c.put-at.auto.out

pub entry-returns-in_err-m : goal.entry-returns-in_err-m
entry-returns-in_err-m t c = let p = err_from_is_err_and c.from_residual.result c.from_residual.ensures.1 in rw (p.1, p.2) (wrote-last-no _ _ (take (length c.content.result.now + 2) c.args.v.now) _ _ _ (entry_whole _ _ _ _ _ c.requires.schema c.requires.entry (get_or-all_bytes c.args.v.now (λ i. omega (arith, c.type_inv.v i))) c.content.ensures.0) (rw part_to_end at c.in_err-m.ensures))

pub fields-overflow_sub-below : goal.fields-overflow_sub-below
fields-overflow_sub-below t c = (schema-there _ _ (ready-reads _ _ c.requires.schema)).0

pub fields-read2-count-requires : goal.fields-read2-count-requires
fields-read2-count-requires t c = fields-long _ _ c.requires.schema c.requires.kind

pub fields-slice_bounds-put-end : goal.fields-slice_bounds-put-end
fields-slice_bounds-put-end t c = sym (length-take-le 3 c.args.s.now (fields-long _ _ c.requires.schema c.requires.kind))

pub fields-loop-i-init : goal.fields-loop-i-init
fields-loop-i-init t c = let e : c.read2-count.result - 0 ≡ c.read2-count.result = omega arith in rw e (fields-begin _ _ _ _ _ _ _ c.requires.schema c.requires.value c.requires.kind (get_or-all_bytes c.args.s.now (λ i. omega (arith, c.type_inv.s i))) (get_or-all_bytes c.args.v.now (λ i. omega (arith, c.type_inv.v i))) c.requires.keyed c.read2-count.ensures c.put-at.ensures)

pub fields-slice_bounds-one_field-count : goal.fields-slice_bounds-one_field-count
fields-slice_bounds-one_field-count t c = c.loop-i.invariant.loop.inside

pub fields-slice_bounds-one_field-start : goal.fields-slice_bounds-one_field-start
fields-slice_bounds-one_field-start t c = c.loop-i.invariant.loop.inside

pub fields-one_field-requires : goal.fields-one_field-requires
fields-one_field-requires t c = let h = schema-there _ _ (ready-reads _ _ c.requires.schema) in (omega arith, record { field = rw part_to_end (fields-ready _ _ _ _ _ _ _ _ _ c.loop-i.invariant (omega arith)); value = c.requires.value; keyed = c.requires.keyed; told = c.requires.told })

pub fields-joined-at-requires : goal.fields-joined-at-requires
fields-joined-at-requires t c = (loop-small _ _ _ _ _ _ _ _ _ c.loop-i.invariant.loop, accepted-small _ _ _ c.in_ok-m.ensures)

pub fields-shape_of-out-in_err-m : goal.fields-shape_of-out-in_err-m
fields-shape_of-out-in_err-m t c = same_len_mid {X = ℕ} c.room-o.result (length c.loop-i.out - c.room-o.result) c.loop-i.out c.one_field.new.out c.one_field.auto.out ∙ c.loop-i.invariant.loop.same ∙ c.put-at.auto.out

pub fields-returns-in_err-m : goal.fields-returns-in_err-m
fields-returns-in_err-m t c = let p = err_from_is_err_and c.from_residual.result c.from_residual.ensures.1 in rw (p.1, p.2) (loop-no _ _ _ _ _ _ _ _ _ c.loop-i.invariant.loop (omega arith) _ _ _ (wrote-eq _ _ _ _ (both-second _ _ _) (rw part_to_end at c.in_err-m.ensures)))

pub fields-slice_bounds-field_reach-count : goal.fields-slice_bounds-field_reach-count
fields-slice_bounds-field_reach-count t c = c.loop-i.invariant.loop.inside

pub fields-slice_bounds-field_reach-start : goal.fields-slice_bounds-field_reach-start
fields-slice_bounds-field_reach-start t c = c.loop-i.invariant.loop.inside

pub fields-overflow_sub-w : goal.fields-overflow_sub-w
fields-overflow_sub-w t c = (schema-there _ _ (ready-reads _ _ c.requires.schema)).0

pub fields-field_reach-from-requires : goal.fields-field_reach-from-requires
fields-field_reach-from-requires t c = rw part_to_end (loop-first _ _ _ _ _ _ _ _ _ c.loop-i.invariant.loop (omega arith))

pub fields-overflow_add-from : goal.fields-overflow_add-from
fields-overflow_add-from t c = let h = loop-within _ _ _ _ _ _ _ _ _ c.loop-i.invariant.loop _ (rw part_to_end at c.field_reach-from.ensures.0) in omega (arith, c.well_formed)

pub fields-loop-i-preserved : goal.fields-loop-i-preserved
fields-loop-i-preserved t c = rw sub-add-eq (fields-step _ _ _ _ _ _ _ _ _ c.loop-i.invariant (omega arith) _ (rw part_to_end at c.field_reach-from.ensures.0) (rw part_to_end at c.field_reach-from.ensures.1) _ _ _ _ c.room-o.ensures c.one_field.auto.out (wrote-eq _ _ _ _ (both-second _ _ _) (rw part_to_end at c.in_ok-m.ensures)) c.joined-at.ensures)

pub fields-shape_of-out : goal.fields-shape_of-out
fields-shape_of-out t c = c.loop-i.invariant.loop.same ∙ c.put-at.auto.out

pub fields-returns : goal.fields-returns
fields-returns t c = loop-end _ _ _ _ _ _ _ _ _ c.loop-i.invariant.loop (omega arith)

pub indexed-resolve_node-requires : goal.indexed-resolve_node-requires
indexed-resolve_node-requires t c = (omega arith, record { schema = c.requires.schema; value = c.requires.value })

pub indexed-put_index-requires : goal.indexed-put_index-requires
indexed-put_index-requires t c = (c.requires.small, accepted-small _ _ _ c.in_ok-m.ensures)

pub indexed-shape_of-out : goal.indexed-shape_of-out
indexed-shape_of-out t c = c.put_index.auto.out ∙ same_len_mid {X = ℕ} c.room-o.result (length c.args.out.now - c.room-o.result) c.args.out.now c.resolve_node.new.out c.resolve_node.auto.out

pub indexed-returns : goal.indexed-returns
unfolding Reads
indexed-returns t c = indexed-accepted _ _ _ _ c.requires.schema c.requires.value.0 c.requires.value.1.0 c.requires.value.1.1 _ c.room-o.result c.args.out.now c.resolve_node.new.out _ _ _ c.room-o.ensures (omega (arith, rw part_to_end at c.resolve_node.auto.out, length-drop c.room-o.result c.args.out.now)) c.in_ok-m.ensures c.put_index.ensures

pub indexed-shape_of-out-in_err-m : goal.indexed-shape_of-out-in_err-m
indexed-shape_of-out-in_err-m t c = same_len_mid {X = ℕ} c.room-o.result (length c.args.out.now - c.room-o.result) c.args.out.now c.resolve_node.new.out c.resolve_node.auto.out

pub indexed-returns-in_err-m : goal.indexed-returns-in_err-m
unfolding Reads
indexed-returns-in_err-m t c = let p = err_from_is_err_and c.from_residual.result c.from_residual.ensures.1 in rw (p.1, p.2) (indexed-refused _ _ _ _ c.requires.schema c.requires.value.0 c.requires.value.1.0 c.requires.value.1.1 _ _ _ _ c.in_err-m.ensures)

pub keyed-read2-requires : goal.keyed-read2-requires
keyed-read2-requires t c = keyed-length _ _ c.requires.value c.requires.keyed

pub keyed-returns-then-read2-le8 : goal.keyed-returns-then-read2-le8
keyed-returns-then-read2-le8 t c = c.fields.ensures

pub keyed-fields-requires : goal.keyed-fields-requires
keyed-fields-requires t c = (omega arith, record { schema = c.requires.schema; value = c.requires.value; kind = c.requires.kind; keyed = c.requires.keyed; told = marked-none _ _ })

pub keyed-mark-requires : goal.keyed-mark-requires
keyed-mark-requires t c = (c.requires.value, c.requires.keyed, refl)

pub keyed-fields-requires-then-mark : goal.keyed-fields-requires-then-mark
keyed-fields-requires-then-mark t c = (omega arith, record { schema = c.requires.schema; value = c.requires.value; kind = c.requires.kind; keyed = c.requires.keyed; told = c.mark.ensures.0 c.if-mark.true })

pub keyed-fields-requires-else-mark : goal.keyed-fields-requires-else-mark
keyed-fields-requires-else-mark t c = (omega arith, record { schema = c.requires.schema; value = c.requires.value; kind = c.requires.kind; keyed = c.requires.keyed; told = marked-none _ _ })

pub keyed-returns-then-mark : goal.keyed-returns-then-mark
keyed-returns-then-mark t c = c.fields-then-mark.ensures

pub keyed-returns-else-mark : goal.keyed-returns-else-mark
keyed-returns-else-mark t c = c.fields-else-mark.ensures

pub one_field-content-name-requires : goal.one_field-content-name-requires
one_field-content-name-requires t c = name-reads _ _ (ready-field-reads _ _ c.requires.field)

pub one_field-overflow_add-n : goal.one_field-overflow_add-n
one_field-overflow_add-n t c = omega (arith, c.content-name.ensures.1.1)

pub one_field-slice_bounds-put-end : goal.one_field-slice_bounds-put-end
one_field-slice_bounds-put-end t c = sym (length-take-le (length c.content-name.result.now + 2) c.args.s.now (omega (arith, c.content-name.ensures.1.0)))

pub one_field-field_at-f-requires : goal.one_field-field_at-f-requires
one_field-field_at-f-requires t c = ready-field-reads _ _ c.requires.field

pub one_field-find_in-requires : goal.one_field-find_in-requires
one_field-find_in-requires t c = (c.requires.value, c.requires.keyed, c.requires.told)

pub one_field-overflow_sub-inner : goal.one_field-overflow_sub-inner
one_field-overflow_sub-inner t c = (value_there _ _ c.requires.value).0

pub one_field-slice_bounds-resolve_node-count : goal.one_field-slice_bounds-resolve_node-count
one_field-slice_bounds-resolve_node-count t c = c.field_at-f.ensures.inside

pub one_field-slice_bounds-resolve_node-start : goal.one_field-slice_bounds-resolve_node-start
one_field-slice_bounds-resolve_node-start t c = c.field_at-f.ensures.inside

pub one_field-slice_bounds-resolve_node-count-in-Some : goal.one_field-slice_bounds-resolve_node-count-in-Some
one_field-slice_bounds-resolve_node-count-in-Some t c = found_inside _ _ _ _ (rw c.in-Some.is at c.find_in.ensures)

pub one_field-slice_bounds-resolve_node-start-in-Some : goal.one_field-slice_bounds-resolve_node-start-in-Some
one_field-slice_bounds-resolve_node-start-in-Some t c = found_inside _ _ _ _ (rw c.in-Some.is at c.find_in.ensures)

pub one_field-resolve_node-requires : goal.one_field-resolve_node-requires
one_field-resolve_node-requires t c = (omega arith, record { schema = rw part_to_end (field-schema _ _ c.requires.field _ c.field_at-f.ensures); value = rw part_to_end (found-value _ _ _ _ (rw c.in-Some.is at c.find_in.ensures)) })

pub one_field-joined-requires : goal.one_field-joined-requires
one_field-joined-requires t c = (built-small _ _ _ c.put-at.ensures, accepted-small _ _ _ c.in_ok-m-in-Some.ensures)

pub one_field-slice_bounds-default-count : goal.one_field-slice_bounds-default-count
one_field-slice_bounds-default-count t c = c.field_at-f.ensures.inside

pub one_field-slice_bounds-default-start : goal.one_field-slice_bounds-default-start
one_field-slice_bounds-default-start t c = c.field_at-f.ensures.inside

pub one_field-slice_bounds-default-count-in-None : goal.one_field-slice_bounds-default-count-in-None
one_field-slice_bounds-default-count-in-None t c = default-inside _ _ c.requires.field _ c.field_at-f.ensures _ c.in-Some-default.is

pub one_field-slice_bounds-default-start-in-None : goal.one_field-slice_bounds-default-start-in-None
one_field-slice_bounds-default-start-in-None t c = default-inside _ _ c.requires.field _ c.field_at-f.ensures _ c.in-Some-default.is

pub one_field-default-requires : goal.one_field-default-requires
one_field-default-requires t c = (omega arith, rw (part_to_end, part_to_end) (field-default _ _ c.requires.field _ c.field_at-f.ensures _ c.in-Some-default.is))

pub one_field-shape_of-out-in_default : goal.one_field-shape_of-out-in_default
one_field-shape_of-out-in_default t c = c.put-at.auto.out

pub one_field-returns-in_default : goal.one_field-returns-in_default
one_field-returns-in_default t c = wrote-stop _ _ FieldMissing (field-none _ _ c.requires.field _ c.field_at-f.ensures _ _ _ c.requires.value (get_or-all_bytes c.args.s.now (λ i. omega (arith, c.type_inv.s i))) c.content-name.ensures.0 (rw c.in-None.is at c.find_in.ensures) c.in_default.is)

pub one_field-joined-requires-in-None : goal.one_field-joined-requires-in-None
one_field-joined-requires-in-None t c = (built-small _ _ _ c.put-at.ensures, accepted-small _ _ _ c.in_ok-made-in-None.ensures)

pub one_field-shape_of-out-in_ok-m-in-Some : goal.one_field-shape_of-out-in_ok-m-in-Some
one_field-shape_of-out-in_ok-m-in-Some t c = same_len_mid {X = ℕ} c.room-o.result (length c.put-at.new.out - c.room-o.result) c.put-at.new.out c.resolve_node.new.out c.resolve_node.auto.out ∙ c.put-at.auto.out

pub one_field-returns-in_ok-m-in-Some : goal.one_field-returns-in_ok-m-in-Some
one_field-returns-in_ok-m-in-Some t c = wrote-last _ _ _ _ _ _ _ _ _ c.put-at.ensures (field_found _ _ c.requires.field _ c.field_at-f.ensures _ _ _ c.requires.value (get_or-all_bytes c.args.s.now (λ i. omega (arith, c.type_inv.s i))) c.content-name.ensures.0 _ (rw c.in-Some.is at c.find_in.ensures)) c.room-o.ensures c.resolve_node.auto.out (rw (part_to_end, part_to_end) at c.in_ok-m-in-Some.ensures) c.joined.ensures

pub one_field-shape_of-out-in_err-m-in-Some : goal.one_field-shape_of-out-in_err-m-in-Some
one_field-shape_of-out-in_err-m-in-Some t c = same_len_mid {X = ℕ} c.room-o.result (length c.put-at.new.out - c.room-o.result) c.put-at.new.out c.resolve_node.new.out c.resolve_node.auto.out ∙ c.put-at.auto.out

pub one_field-returns-in_err-m-in-Some : goal.one_field-returns-in_err-m-in-Some
one_field-returns-in_err-m-in-Some t c = let p = err_from_is_err_and c.from_residual.result c.from_residual.ensures.1 in rw (p.1, p.2) (wrote-last-no _ _ (take (length c.content-name.result.now + 2) c.args.s.now) _ _ _ (field_found _ _ c.requires.field _ c.field_at-f.ensures _ _ _ c.requires.value (get_or-all_bytes c.args.s.now (λ i. omega (arith, c.type_inv.s i))) c.content-name.ensures.0 _ (rw c.in-Some.is at c.find_in.ensures)) (rw (part_to_end, part_to_end) at c.in_err-m-in-Some.ensures))

pub one_field-shape_of-out-in_ok-made-in-None : goal.one_field-shape_of-out-in_ok-made-in-None
one_field-shape_of-out-in_ok-made-in-None t c = same_len_mid {X = ℕ} c.room-o.result (length c.put-at.new.out - c.room-o.result) c.put-at.new.out c.default.new.out c.default.auto.out ∙ c.put-at.auto.out

pub one_field-returns-in_ok-made-in-None : goal.one_field-returns-in_ok-made-in-None
one_field-returns-in_ok-made-in-None t c = wrote-last _ _ _ _ _ _ _ _ _ c.put-at.ensures (field-defaults _ _ c.requires.field _ c.field_at-f.ensures _ c.in-Some-default.is _ _ _ c.requires.value (get_or-all_bytes c.args.s.now (λ i. omega (arith, c.type_inv.s i))) c.content-name.ensures.0 (rw c.in-None.is at c.find_in.ensures)) c.room-o.ensures c.default.auto.out (rw (part_to_end, part_to_end) at c.in_ok-made-in-None.ensures) c.joined-in-None.ensures

pub one_field-shape_of-out-in_err-made-in-None : goal.one_field-shape_of-out-in_err-made-in-None
one_field-shape_of-out-in_err-made-in-None t c = same_len_mid {X = ℕ} c.room-o.result (length c.put-at.new.out - c.room-o.result) c.put-at.new.out c.default.new.out c.default.auto.out ∙ c.put-at.auto.out

pub one_field-returns-in_err-made-in-None : goal.one_field-returns-in_err-made-in-None
one_field-returns-in_err-made-in-None t c = let p = err_from_is_err_and c.from_residual-in_err-made-in-None.result c.from_residual-in_err-made-in-None.ensures.1 in rw (p.1, p.2) (wrote-last-no _ _ (take (length c.content-name.result.now + 2) c.args.s.now) _ _ _ (field-defaults _ _ c.requires.field _ c.field_at-f.ensures _ c.in-Some-default.is _ _ _ c.requires.value (get_or-all_bytes c.args.s.now (λ i. omega (arith, c.type_inv.s i))) c.content-name.ensures.0 (rw c.in-None.is at c.find_in.ensures)) (rw (part_to_end, part_to_end) at c.in_err-made-in-None.ensures))

pub resolve_array-bounds-v-0 : goal.resolve_array-bounds-v-0
resolve_array-bounds-v-0 t c = (value_there _ _ c.requires.value).1

pub resolve_array-returns-then-v-ne-ARRAY : goal.resolve_array-returns-then-v-ne-ARRAY
resolve_array-returns-then-v-ne-ARRAY t c = wrote-stop _ _ Unsuited (array-no _ _ _ _ c.requires.schema c.requires.value c.requires.kind (get_or-all_bytes c.args.v.now (λ i. omega (arith, c.type_inv.v i))) c.if-v-ne-ARRAY.true)

pub resolve_array-overflow_sub-below : goal.resolve_array-overflow_sub-below
resolve_array-overflow_sub-below t c = (schema-there _ _ (ready-reads _ _ c.requires.schema)).0

pub resolve_array-overflow_sub-below-2 : goal.resolve_array-overflow_sub-below-2
resolve_array-overflow_sub-below-2 t c = (value_there _ _ c.requires.value).0

pub resolve_array-read2-end-requires : goal.resolve_array-read2-end-requires
resolve_array-read2-end-requires t c = (value-array _ _ c.requires.value c.if-v-ne-ARRAY.false).0

pub resolve_array-slice_bounds-put-end : goal.resolve_array-slice_bounds-put-end
resolve_array-slice_bounds-put-end t c = sym (length-take-le 3 c.args.v.now (value-array _ _ c.requires.value c.if-v-ne-ARRAY.false).0)

pub resolve_array-loop-init : goal.resolve_array-loop-init
resolve_array-loop-init t c = let e : c.read2-end.result - 0 ≡ c.read2-end.result = omega arith in rw e (record { inside = (value-array _ _ c.requires.value c.if-v-ne-ARRAY.false).0; others = array-others _ _ _ _ c.requires.schema c.requires.value c.requires.kind (get_or-all_bytes c.args.v.now (λ i. omega (arith, c.type_inv.v i))) c.if-v-ne-ARRAY.false _ c.read2-end.ensures; same = refl; going = going_start _ _ _ _ _ c.put-at.ensures (array-start _ _ _ _ c.requires.schema c.requires.value c.requires.kind (get_or-all_bytes c.args.v.now (λ i. omega (arith, c.type_inv.v i))) c.if-v-ne-ARRAY.false _ c.read2-end.ensures) })

pub resolve_array-slice_bounds-resolve_node-count : goal.resolve_array-slice_bounds-resolve_node-count
resolve_array-slice_bounds-resolve_node-count t c = (schema-there _ _ (ready-reads _ _ c.requires.schema)).1

pub resolve_array-slice_bounds-resolve_node-start : goal.resolve_array-slice_bounds-resolve_node-start
resolve_array-slice_bounds-resolve_node-start t c = (schema-there _ _ (ready-reads _ _ c.requires.schema)).1

pub resolve_array-slice_bounds-resolve_node-count-in-loop : goal.resolve_array-slice_bounds-resolve_node-count-in-loop
resolve_array-slice_bounds-resolve_node-count-in-loop t c = c.loop.invariant.inside

pub resolve_array-slice_bounds-resolve_node-start-in-loop : goal.resolve_array-slice_bounds-resolve_node-start-in-loop
resolve_array-slice_bounds-resolve_node-start-in-loop t c = c.loop.invariant.inside

pub resolve_array-resolve_node-requires : goal.resolve_array-resolve_node-requires
resolve_array-resolve_node-requires t c = let h = schema-there _ _ (ready-reads _ _ c.requires.schema) in (omega arith, record { schema = rw part_to_end (ready-array _ _ c.requires.schema c.requires.kind); value = rw part_to_end (loop-first _ _ _ _ _ _ _ _ _ c.loop.invariant (omega arith)) })

pub resolve_array-joined-at-requires : goal.resolve_array-joined-at-requires
resolve_array-joined-at-requires t c = (loop-small _ _ _ _ _ _ _ _ _ c.loop.invariant, accepted-small _ _ _ c.in_ok-m.ensures)

pub resolve_array-shape_of-out-in_err-m : goal.resolve_array-shape_of-out-in_err-m
resolve_array-shape_of-out-in_err-m t c = same_len_mid {X = ℕ} c.room-to.result (length c.loop.out - c.room-to.result) c.loop.out c.resolve_node.new.out c.resolve_node.auto.out ∙ c.loop.invariant.same ∙ c.put-at.auto.out

pub resolve_array-returns-in_err-m : goal.resolve_array-returns-in_err-m
resolve_array-returns-in_err-m t c = let p = err_from_is_err_and c.from_residual.result c.from_residual.ensures.1 in rw (p.1, p.2) (loop-no _ _ _ _ _ _ _ _ _ c.loop.invariant (omega arith) _ _ _ (wrote-eq _ _ _ _ (both_first _ _ _) (rw (part_to_end, part_to_end) at c.in_err-m.ensures)))

pub resolve_array-slice_bounds-value_len-count : goal.resolve_array-slice_bounds-value_len-count
resolve_array-slice_bounds-value_len-count t c = c.loop.invariant.inside

pub resolve_array-slice_bounds-value_len-start : goal.resolve_array-slice_bounds-value_len-start
resolve_array-slice_bounds-value_len-start t c = c.loop.invariant.inside

pub resolve_array-overflow_sub-w : goal.resolve_array-overflow_sub-w
resolve_array-overflow_sub-w t c = (value_there _ _ c.requires.value).0

pub resolve_array-value_len-from-requires : goal.resolve_array-value_len-from-requires
resolve_array-value_len-from-requires t c = rw part_to_end (loop-first _ _ _ _ _ _ _ _ _ c.loop.invariant (omega arith))

pub resolve_array-overflow_add-from : goal.resolve_array-overflow_add-from
resolve_array-overflow_add-from t c = let h = loop-add _ _ _ _ _ _ _ _ _ c.loop.invariant _ (rw part_to_end at c.value_len-from.ensures) in omega (arith, c.well_formed)

pub resolve_array-loop-preserved : goal.resolve_array-loop-preserved
resolve_array-loop-preserved t c = rw sub-add-eq (loop-step _ _ _ _ _ _ _ _ _ c.loop.invariant (omega arith) _ (rw part_to_end at c.value_len-from.ensures) _ _ _ _ c.room-to.ensures c.resolve_node.auto.out (wrote-eq _ _ _ _ (both_first _ _ _) (rw (part_to_end, part_to_end) at c.in_ok-m.ensures)) c.joined-at.ensures)

pub resolve_array-shape_of-out : goal.resolve_array-shape_of-out
resolve_array-shape_of-out t c = c.loop.invariant.same ∙ c.put-at.auto.out

pub resolve_array-returns : goal.resolve_array-returns
resolve_array-returns t c = loop-end _ _ _ _ _ _ _ _ _ c.loop.invariant (omega arith)

pub resolve_map-bounds-v-0 : goal.resolve_map-bounds-v-0
resolve_map-bounds-v-0 t c = (value_there _ _ c.requires.value).1

pub resolve_map-returns-then-v-ne-MAP : goal.resolve_map-returns-then-v-ne-MAP
resolve_map-returns-then-v-ne-MAP t c = wrote-stop _ _ Unsuited (map-no _ _ _ _ c.requires.schema c.requires.value c.requires.kind (get_or-all_bytes c.args.v.now (λ i. omega (arith, c.type_inv.v i))) c.if-v-ne-MAP.true)

pub resolve_map-overflow_sub-below : goal.resolve_map-overflow_sub-below
resolve_map-overflow_sub-below t c = (schema-there _ _ (ready-reads _ _ c.requires.schema)).0

pub resolve_map-overflow_sub-below-2 : goal.resolve_map-overflow_sub-below-2
resolve_map-overflow_sub-below-2 t c = (value_there _ _ c.requires.value).0

pub resolve_map-read2-end-requires : goal.resolve_map-read2-end-requires
resolve_map-read2-end-requires t c = (value-map _ _ c.requires.value c.if-v-ne-MAP.false).0

pub resolve_map-slice_bounds-put-end : goal.resolve_map-slice_bounds-put-end
resolve_map-slice_bounds-put-end t c = sym (length-take-le 3 c.args.v.now (value-map _ _ c.requires.value c.if-v-ne-MAP.false).0)

pub resolve_map-loop-init : goal.resolve_map-loop-init
resolve_map-loop-init t c = let e : c.read2-end.result - 0 ≡ c.read2-end.result = omega arith in rw e (record { inside = (value-map _ _ c.requires.value c.if-v-ne-MAP.false).0; others = map-others _ _ _ _ c.requires.schema c.requires.value c.requires.kind (get_or-all_bytes c.args.v.now (λ i. omega (arith, c.type_inv.v i))) c.if-v-ne-MAP.false _ c.read2-end.ensures; same = refl; going = going_start _ _ _ _ _ c.put-at.ensures (map-start _ _ _ _ c.requires.schema c.requires.value c.requires.kind (get_or-all_bytes c.args.v.now (λ i. omega (arith, c.type_inv.v i))) c.if-v-ne-MAP.false _ c.read2-end.ensures) })

pub resolve_map-slice_bounds-entry-count : goal.resolve_map-slice_bounds-entry-count
resolve_map-slice_bounds-entry-count t c = (schema-there _ _ (ready-reads _ _ c.requires.schema)).1

pub resolve_map-slice_bounds-entry-start : goal.resolve_map-slice_bounds-entry-start
resolve_map-slice_bounds-entry-start t c = (schema-there _ _ (ready-reads _ _ c.requires.schema)).1

pub resolve_map-slice_bounds-entry-count-in-loop : goal.resolve_map-slice_bounds-entry-count-in-loop
resolve_map-slice_bounds-entry-count-in-loop t c = c.loop.invariant.inside

pub resolve_map-slice_bounds-entry-start-in-loop : goal.resolve_map-slice_bounds-entry-start-in-loop
resolve_map-slice_bounds-entry-start-in-loop t c = c.loop.invariant.inside

pub resolve_map-entry-requires : goal.resolve_map-entry-requires
resolve_map-entry-requires t c = let h = schema-there _ _ (ready-reads _ _ c.requires.schema) in (omega arith, record { schema = rw part_to_end (ready-map _ _ c.requires.schema c.requires.kind); entry = rw part_to_end (loop-first _ _ _ _ _ _ _ _ _ c.loop.invariant (omega arith)) })

pub resolve_map-joined-at-requires : goal.resolve_map-joined-at-requires
resolve_map-joined-at-requires t c = (loop-small _ _ _ _ _ _ _ _ _ c.loop.invariant, accepted-small _ _ _ c.in_ok-m.ensures)

pub resolve_map-shape_of-out-in_err-m : goal.resolve_map-shape_of-out-in_err-m
resolve_map-shape_of-out-in_err-m t c = same_len_mid {X = ℕ} c.room-o.result (length c.loop.out - c.room-o.result) c.loop.out c.entry.new.out c.entry.auto.out ∙ c.loop.invariant.same ∙ c.put-at.auto.out

pub resolve_map-returns-in_err-m : goal.resolve_map-returns-in_err-m
resolve_map-returns-in_err-m t c = let p = err_from_is_err_and c.from_residual.result c.from_residual.ensures.1 in rw (p.1, p.2) (loop-no _ _ _ _ _ _ _ _ _ c.loop.invariant (omega arith) _ _ _ (wrote-eq _ _ _ _ (both_first _ _ _) (rw (part_to_end, part_to_end) at c.in_err-m.ensures)))

pub resolve_map-slice_bounds-entry_len-count : goal.resolve_map-slice_bounds-entry_len-count
resolve_map-slice_bounds-entry_len-count t c = c.loop.invariant.inside

pub resolve_map-slice_bounds-entry_len-start : goal.resolve_map-slice_bounds-entry_len-start
resolve_map-slice_bounds-entry_len-start t c = c.loop.invariant.inside

pub resolve_map-overflow_sub-w : goal.resolve_map-overflow_sub-w
resolve_map-overflow_sub-w t c = (value_there _ _ c.requires.value).0

pub resolve_map-entry_len-from-requires : goal.resolve_map-entry_len-from-requires
resolve_map-entry_len-from-requires t c = rw part_to_end (loop-first _ _ _ _ _ _ _ _ _ c.loop.invariant (omega arith))

pub resolve_map-overflow_add-from : goal.resolve_map-overflow_add-from
resolve_map-overflow_add-from t c = let h = loop-add _ _ _ _ _ _ _ _ _ c.loop.invariant _ (rw part_to_end at c.entry_len-from.ensures) in omega (arith, c.well_formed)

pub resolve_map-loop-preserved : goal.resolve_map-loop-preserved
resolve_map-loop-preserved t c = rw sub-add-eq (loop-step _ _ _ _ _ _ _ _ _ c.loop.invariant (omega arith) _ (rw part_to_end at c.entry_len-from.ensures) _ _ _ _ c.room-o.ensures c.entry.auto.out (wrote-eq _ _ _ _ (both_first _ _ _) (rw (part_to_end, part_to_end) at c.in_ok-m.ensures)) c.joined-at.ensures)

pub resolve_map-shape_of-out : goal.resolve_map-shape_of-out
resolve_map-shape_of-out t c = c.loop.invariant.same ∙ c.put-at.auto.out

pub resolve_map-returns : goal.resolve_map-returns
resolve_map-returns t c = loop-end _ _ _ _ _ _ _ _ _ c.loop.invariant (omega arith)

pub resolve_node-peel-p-requires : goal.resolve_node-peel-p-requires
resolve_node-peel-p-requires t c = c.requires.value

pub resolve_node-bounds-s-0 : goal.resolve_node-bounds-s-0
resolve_node-bounds-s-0 t c = (schema-there _ _ (ready-reads _ _ c.requires.schema)).1

pub resolve_node-slice_bounds-resolve_array-count : goal.resolve_node-slice_bounds-resolve_array-count
resolve_node-slice_bounds-resolve_array-count t c = c.peel-p.ensures.0

pub resolve_node-slice_bounds-resolve_array-start : goal.resolve_node-slice_bounds-resolve_array-start
resolve_node-slice_bounds-resolve_array-start t c = c.peel-p.ensures.0

pub resolve_node-resolve_array-requires : goal.resolve_node-resolve_array-requires
resolve_node-resolve_array-requires t c = (omega arith, record { schema = c.requires.schema; value = rw part_to_end (peel-reads _ _ c.peel-p.ensures.1 c.requires.value); kind = c.in-8.is })

pub resolve_node-returns-in-8 : goal.resolve_node-returns-in-8
resolve_node-returns-in-8 t c = wrote-eq _ _ _ _ (both-peel _ _ _ c.peel-p.ensures.1) (rw part_to_end at c.resolve_array.ensures)

pub resolve_node-slice_bounds-resolve_map-count : goal.resolve_node-slice_bounds-resolve_map-count
resolve_node-slice_bounds-resolve_map-count t c = c.peel-p.ensures.0

pub resolve_node-slice_bounds-resolve_map-start : goal.resolve_node-slice_bounds-resolve_map-start
resolve_node-slice_bounds-resolve_map-start t c = c.peel-p.ensures.0

pub resolve_node-resolve_map-requires : goal.resolve_node-resolve_map-requires
resolve_node-resolve_map-requires t c = (omega arith, record { schema = c.requires.schema; value = rw part_to_end (peel-reads _ _ c.peel-p.ensures.1 c.requires.value); kind = c.in-9.is })

pub resolve_node-returns-in-9 : goal.resolve_node-returns-in-9
resolve_node-returns-in-9 t c = wrote-eq _ _ _ _ (both-peel _ _ _ c.peel-p.ensures.1) (rw part_to_end at c.resolve_map.ensures)

pub resolve_node-slice_bounds-resolve_union-count : goal.resolve_node-slice_bounds-resolve_union-count
resolve_node-slice_bounds-resolve_union-count t c = c.peel-p.ensures.0

pub resolve_node-slice_bounds-resolve_union-start : goal.resolve_node-slice_bounds-resolve_union-start
resolve_node-slice_bounds-resolve_union-start t c = c.peel-p.ensures.0

pub resolve_node-resolve_union-requires : goal.resolve_node-resolve_union-requires
resolve_node-resolve_union-requires t c = (omega arith, record { schema = c.requires.schema; value = rw part_to_end (peel-reads _ _ c.peel-p.ensures.1 c.requires.value); kind = c.in-10.is })

pub resolve_node-returns-in-10 : goal.resolve_node-returns-in-10
resolve_node-returns-in-10 t c = wrote-eq _ _ _ _ (both-peel _ _ _ c.peel-p.ensures.1) (rw part_to_end at c.resolve_union.ensures)

pub resolve_node-slice_bounds-resolve_record-count : goal.resolve_node-slice_bounds-resolve_record-count
resolve_node-slice_bounds-resolve_record-count t c = c.peel-p.ensures.0

pub resolve_node-slice_bounds-resolve_record-start : goal.resolve_node-slice_bounds-resolve_record-start
resolve_node-slice_bounds-resolve_record-start t c = c.peel-p.ensures.0

pub resolve_node-resolve_record-requires : goal.resolve_node-resolve_record-requires
resolve_node-resolve_record-requires t c = (omega arith, record { schema = c.requires.schema; value = rw part_to_end (peel-reads _ _ c.peel-p.ensures.1 c.requires.value); kind = c.in-11.is })

pub resolve_node-returns-in-11 : goal.resolve_node-returns-in-11
resolve_node-returns-in-11 t c = wrote-eq _ _ _ _ (both-peel _ _ _ c.peel-p.ensures.1) (rw part_to_end at c.resolve_record.ensures)

pub resolve_node-slice_bounds-resolve_leaf-count : goal.resolve_node-slice_bounds-resolve_leaf-count
resolve_node-slice_bounds-resolve_leaf-count t c = c.peel-p.ensures.0

pub resolve_node-slice_bounds-resolve_leaf-start : goal.resolve_node-slice_bounds-resolve_leaf-start
resolve_node-slice_bounds-resolve_leaf-start t c = c.peel-p.ensures.0

pub resolve_node-resolve_leaf-requires : goal.resolve_node-resolve_leaf-requires
resolve_node-resolve_leaf-requires t c = (ready-reads _ _ c.requires.schema, rw part_to_end (peel-reads _ _ c.peel-p.ensures.1 c.requires.value), record { no_array = (λ e. omega arith); no_map = (λ e. omega arith); no_union = (λ e. omega arith); no_fields = (λ e. omega arith) })

pub resolve_node-returns-in_default : goal.resolve_node-returns-in_default
resolve_node-returns-in_default t c = wrote-eq _ _ _ _ (both-peel _ _ _ c.peel-p.ensures.1) (rw part_to_end at c.resolve_leaf.ensures)

pub resolve_record-bounds-v-0 : goal.resolve_record-bounds-v-0
resolve_record-bounds-v-0 t c = (value_there _ _ c.requires.value).1

pub resolve_record-returns-in-11 : goal.resolve_record-returns-in-11
resolve_record-returns-in-11 t c = c.keyed.ensures

pub resolve_record-keyed-requires : goal.resolve_record-keyed-requires
unfolding Keyed
resolve_record-keyed-requires t c = (omega arith, record { schema = c.requires.schema; value = c.requires.value; kind = c.requires.kind; keyed = inr c.in-11.is })

pub resolve_record-keyed-requires-in-9 : goal.resolve_record-keyed-requires-in-9
unfolding Keyed
resolve_record-keyed-requires-in-9 t c = (omega arith, record { schema = c.requires.schema; value = c.requires.value; kind = c.requires.kind; keyed = inl c.in-9.is })

pub resolve_record-returns-in-9 : goal.resolve_record-returns-in-9
resolve_record-returns-in-9 t c = c.keyed-in-9.ensures

pub resolve_record-returns-in_default : goal.resolve_record-returns-in_default
resolve_record-returns-in_default t c = wrote-stop _ _ Unsuited (record-no _ _ c.requires.schema c.requires.kind _ _ c.requires.value (get_or-all_bytes c.args.v.now (λ i. omega (arith, c.type_inv.v i))) (λ e. omega arith) (λ e. omega arith))

pub resolve_union-bounds-v-0 : goal.resolve_union-bounds-v-0
resolve_union-bounds-v-0 t c = (value_there c.args.w.value c.args.v.now c.requires.value).1

pub resolve_union-way_of-way-requires : goal.resolve_union-way_of-way-requires
resolve_union-way_of-way-requires t c = record { schema = c.requires.schema; kind = c.requires.kind }

pub resolve_union-loop-answer-init : goal.resolve_union-loop-answer-init
resolve_union-loop-answer-init t c = (refl, turning-start _ _ _ _ c.requires (λ i. omega (arith, c.type_inv.v i)) c.way_of-way.ensures)

pub resolve_union-take_turn-requires : goal.resolve_union-take_turn-requires
resolve_union-take_turn-requires t c = (omega arith, c.loop-answer.invariant.1)

pub resolve_union-next-turn-requires : goal.resolve_union-next-turn-requires
resolve_union-next-turn-requires t c = turning-within _ _ _ _ _ _ _ (passed-of _ _ _ _ _ _ _ (rw c.in-Passed.is at c.take_turn.ensures)) (λ i. omega (arith, c.type_inv.s i))

pub resolve_union-loop-answer-smaller : goal.resolve_union-loop-answer-smaller
resolve_union-loop-answer-smaller t c = turning-fewer _ _ _ _ _ _ _ (passed-of _ _ _ _ _ _ _ (rw c.in-Passed.is at c.take_turn.ensures)) _ c.next-turn.ensures

pub resolve_union-loop-answer-preserved : goal.resolve_union-loop-answer-preserved
resolve_union-loop-answer-preserved t c = (c.take_turn.auto.out ∙ c.loop-answer.invariant.0, turning-next _ _ _ _ _ _ _ (passed-of _ _ _ _ _ _ _ (rw c.in-Passed.is at c.take_turn.ensures)) _ c.next-turn.ensures)

pub resolve_union-shape_of-out : goal.resolve_union-shape_of-out
resolve_union-shape_of-out t c = c.take_turn.auto.out ∙ c.loop-answer.invariant.0

pub resolve_union-returns : goal.resolve_union-returns
unfolding Steps
resolve_union-returns t c = rw c.in-Ended.is at c.take_turn.ensures

pub take_turn-due_of-requires : goal.take_turn-due_of-requires
take_turn-due_of-requires t c = (c.requires.going.goes, c.requires.there)

pub take_turn-overflow_sub-inner : goal.take_turn-overflow_sub-inner
take_turn-overflow_sub-inner t c = part-deep _ _ c.requires.going.goes.part

pub take_turn-slice_bounds-indexed-count : goal.take_turn-slice_bounds-indexed-count
take_turn-slice_bounds-indexed-count t c = (due-there _ _ _ _ _ _ _ c.requires _ (rw c.in-At.is at (c.due_of.ensures c.requires.going.goes))).inside

pub take_turn-slice_bounds-indexed-start : goal.take_turn-slice_bounds-indexed-start
take_turn-slice_bounds-indexed-start t c = (due-there _ _ _ _ _ _ _ c.requires _ (rw c.in-At.is at (c.due_of.ensures c.requires.going.goes))).inside

pub take_turn-indexed-requires : goal.take_turn-indexed-requires
take_turn-indexed-requires t c = let h = part-deep _ _ c.requires.going.goes.part in (omega arith, record { schema = rw part_to_end (variant-ready _ _ c.requires.going.goes.part _ _ (due-there _ _ _ _ _ _ _ c.requires _ (rw c.in-At.is at (c.due_of.ensures c.requires.going.goes))) (due_below _ _ _ _ _ _ _ c.requires _ (rw c.in-At.is at (c.due_of.ensures c.requires.going.goes)))); value = going-value _ _ _ _ c.requires.going; small = position-small _ _ c.requires.going.goes.part (λ i. omega (arith, c.type_inv.s i)) _ (due_below _ _ _ _ _ _ _ c.requires _ (rw c.in-At.is at (c.due_of.ensures c.requires.going.goes))) })

pub take_turn-either-requires : goal.take_turn-either-requires
take_turn-either-requires t c = (omega arith, turn-beaten _ _ _ _ _ _ _ c.requires _ (rw c.in-At.is at (c.due_of.ensures c.requires.going.goes)) _ _ _ (rw (c.in-Ok.is, part_to_end) at c.indexed.ensures) _ c.table_before.ensures c.in-Some.is)

pub take_turn-slice_bounds-is_last-count : goal.take_turn-slice_bounds-is_last-count
take_turn-slice_bounds-is_last-count t c = (due-there _ _ _ _ _ _ _ c.requires _ (rw c.in-At.is at (c.due_of.ensures c.requires.going.goes))).inside

pub take_turn-slice_bounds-is_last-start : goal.take_turn-slice_bounds-is_last-start
take_turn-slice_bounds-is_last-start t c = (due-there _ _ _ _ _ _ _ c.requires _ (rw c.in-At.is at (c.due_of.ensures c.requires.going.goes))).inside

pub take_turn-overflow_sub-w : goal.take_turn-overflow_sub-w
take_turn-overflow_sub-w t c = part-deep _ _ c.requires.going.goes.part

pub take_turn-is_last-requires : goal.take_turn-is_last-requires
take_turn-is_last-requires t c = rw part_to_end (variant-reads _ _ c.requires.going.goes.part _ _ (due-there _ _ _ _ _ _ _ c.requires _ (rw c.in-At.is at (c.due_of.ensures c.requires.going.goes))) (due_below _ _ _ _ _ _ _ c.requires _ (rw c.in-At.is at (c.due_of.ensures c.requires.going.goes))))

pub take_turn-shape_of-out-then-is_last : goal.take_turn-shape_of-out-then-is_last
take_turn-shape_of-out-then-is_last t c = c.indexed.auto.out

pub take_turn-returns-then-is_last : goal.take_turn-returns-then-is_last
take_turn-returns-then-is_last t c = turn_last _ _ _ _ _ _ _ c.requires _ (rw c.in-At.is at (c.due_of.ensures c.requires.going.goes)) _ _ (rw (c.in-Err.is, part_to_end) at c.indexed.ensures) _ (rw part_to_end at c.is_last.ensures) c.if-is_last.true

pub take_turn-returns-in-Over : goal.take_turn-returns-in-Over
take_turn-returns-in-Over t c = turn-over _ _ _ _ _ _ _ c.requires _ (rw c.in-Over.is at (c.due_of.ensures c.requires.going.goes))

pub take_turn-returns-in-Not : goal.take_turn-returns-in-Not
take_turn-returns-in-Not t c = turn-skipped _ _ _ _ _ _ _ c.requires _ _ (rw c.in-Not.is at (c.due_of.ensures c.requires.going.goes))

pub take_turn-shape_of-out-in-None : goal.take_turn-shape_of-out-in-None
take_turn-shape_of-out-in-None t c = c.indexed.auto.out

pub take_turn-returns-in-None : goal.take_turn-returns-in-None
take_turn-returns-in-None t c = turn-accepted _ _ _ _ _ _ _ c.requires _ (rw c.in-At.is at (c.due_of.ensures c.requires.going.goes)) _ _ (rw (c.in-Ok.is, part_to_end) at c.indexed.ensures) _ c.table_before.ensures c.in-None.is

pub take_turn-shape_of-out-in-Some : goal.take_turn-shape_of-out-in-Some
take_turn-shape_of-out-in-Some t c = c.either.auto.out ∙ c.indexed.auto.out

pub take_turn-returns-in-Some : goal.take_turn-returns-in-Some
unfolding Steps
take_turn-returns-in-Some t c = c.either.ensures

pub take_turn-shape_of-out-else-is_last : goal.take_turn-shape_of-out-else-is_last
take_turn-shape_of-out-else-is_last t c = c.indexed.auto.out

pub take_turn-returns-else-is_last : goal.take_turn-returns-else-is_last
take_turn-returns-else-is_last t c = turn-refused _ _ _ _ _ _ _ c.requires _ (rw c.in-At.is at (c.due_of.ensures c.requires.going.goes)) _ _ (rw (c.in-Err.is, part_to_end) at c.indexed.ensures) _ (rw part_to_end at c.is_last.ensures) c.if-is_last.false
