-- `schema::names::differ_by` meets its contract. Assumes nothing.
use mathlib.Core.Bool.{false}
use mathlib.Core.List.{List}
use mathlib.Core.Option.{some}
use mathlib.Core.Path.{◌≡◌, refl, sym, ap, ◌∙◌}
use Prim.Native.Nat.{ℕ, ◌<◌, ◌%◌, ◌/◌}
use native.Mathlib.Omega.{arith}
use lib.ListN.{length, drop, length-drop, length-set, length-replicate}
use Rattle.frame.specs.Readers.{read_many}
use Rattle.frame.specs.SchemaFrame.{Field, read_field, read_schema}
use Rattle.frame.proofs.Measuring.{spans-le}
use Rattle.frame.proofs.Counting.{list-many, reads-list, left-reads}
use Rattle.schema.specs.Slot.{low_of, high_of, low_slot, high_slot, mark_of, name_mark}
use Rattle.schema.proofs.Checking.{seeks, name-reads}
use Rattle.schema.proofs.Looking.{looking-start, looking-reads, looking-low, looking-high, looking-hit, looking-step, looking-end}
use borrow.Author.Rules.{part_to_end}
use Rattle.schema.proofs.names.differ_by.Goals as goal
use Rattle.schema.proofs.names.differ_by.Goals.{else-may_be-via-then-may_be+then-may_be-2+else-has_field, else-may_be-via-then-may_be+else-may_be-2, else-may_be-via-else-may_be}

pub read2-count-requires : goal.read2-count-requires
read2-count-requires g c = reads-list _ _ c.requires.0

pub loop-done-init : goal.loop-done-init
loop-done-init g c =
    let s = c.args.s.now in
    let long = reads-list (read_field (read_schema c.args.depth)) s c.requires.0 in
    record {
      low_long = length-replicate g.row.N 0;
      high_long = length-replicate g.row.N 0;
      looking = looking-start (read_schema c.args.depth) (low_slot g.row.N) (high_slot g.row.N) s _ _ _ c.requires.0 (list-many _ s long ∙ ap (λ k. read_many (read_field (read_schema c.args.depth)) k (drop 2 s)) (sym c.read2-count.ensures));
    }

pub slice_bounds-content-count : goal.slice_bounds-content-count
slice_bounds-content-count g c = omega (arith, c.loop-done.invariant.looking.rest.inside)

pub slice_bounds-content-start : goal.slice_bounds-content-start
slice_bounds-content-start g c = omega (arith, c.loop-done.invariant.looking.rest.inside)

pub content-name-requires : goal.content-name-requires
content-name-requires g c = rw part_to_end (name-reads (read_schema c.args.depth) _ (left-reads _ _ _ _ _ _ _ c.loop-done.invariant.looking.rest (omega arith)))

pub has_field-requires : goal.has_field-requires
has_field-requires g c = rw part_to_end (looking-reads (read_schema c.args.depth) (low_slot g.row.N) (high_slot g.row.N) c.args.s.now _ _ _ _ _ c.loop-done.invariant.looking)

pub returns-then-has_field : goal.returns-then-has_field
returns-then-has_field g c =
    looking-hit (read_schema c.args.depth) (low_slot g.row.N) (high_slot g.row.N) c.args.s.now _ _ _ _ _ c.loop-done.invariant.looking c.loop-done-test.true c.content-name.result.now _
    (rw part_to_end at c.content-name.ensures.0) _ (rw part_to_end at c.has_field.ensures) c.if-has_field.true

pub field_len-at-requires : goal.field_len-at-requires
field_len-at-requires g c = rw part_to_end (left-reads _ _ _ _ _ _ _ c.loop-done.invariant.looking.rest (omega arith))

pub overflow_add-at : goal.overflow_add-at
overflow_add-at g c = omega (arith, spans-le _ _ _ (rw part_to_end at c.field_len-at.ensures), length-drop c.loop-done.at c.args.s.now, c.well_formed, c.loop-done.invariant.looking.rest.inside)

pub loop-done-preserved : goal.loop-done-preserved
unfolding low_slot high_slot name_mark low_of high_of
loop-done-preserved g c =
    let h = c.hash-h.result in
    let node = read_schema c.args.depth in
    let name = c.content-name.result.now in
    let w = c.loop-done.invariant.looking in
    let j = ap (λ h. h % g.row.N) c.hash-h.ensures in
    let k = ap (λ h. h / 1048576 % g.row.N) c.hash-h.ensures in
    let mark = c.name_mark-v.ensures ∙ ap mark_of c.hash-h.ensures in
    let low : h % g.row.N < length c.loop-done.low = omega (arith, c.loop-done.invariant.low_long) in
    let high : h / 1048576 % g.row.N < length c.loop-done.high = omega (arith, c.loop-done.invariant.high_long) in
    let unseen : (fs : List Field) (u : List ℕ) → read_many (read_field node) c.loop-done.done (drop 2 c.args.s.now) ≡ some (fs, u) → false ≡ seeks name fs = elim c.else-may_be.branch [
      | else-may_be-via-then-may_be+then-may_be-2+else-has_field b ↦ λ fs u e. sym b.if-has_field.false ∙ (rw part_to_end at b.has_field.ensures) fs u e
      | else-may_be-via-then-may_be+else-may_be-2 b ↦ λ fs u e. sym (looking-high node (low_slot g.row.N) (high_slot g.row.N) c.args.s.now _ _ _ _ _ w name _ _ k mark (sym b.may_be-then-may_be.ensures ∙ b.if-may_be-2.false) fs u e)
      | else-may_be-via-else-may_be b ↦ λ fs u e. sym (looking-low node (low_slot g.row.N) (high_slot g.row.N) c.args.s.now _ _ _ _ _ w name _ _ j mark (sym c.may_be.ensures ∙ b.if-may_be.false) fs u e)
    ] in
    record {
      low_long = simp length-set c.loop-done.invariant.low_long;
      high_long = simp length-set c.loop-done.invariant.high_long;
      looking = looking-step node (low_slot g.row.N) (high_slot g.row.N) c.args.s.now _ _ _ _ _ w c.loop-done-test.true name _
          (rw part_to_end at c.content-name.ensures.0) false unseen refl _ _ _ _ _ j k mark low high c.take.ensures c.take-in-loop-done.ensures _ (rw part_to_end at c.field_len-at.ensures);
    }

pub returns : goal.returns
returns g c = looking-end (read_schema c.args.depth) (low_slot g.row.N) (high_slot g.row.N) c.args.s.now _ _ _ _ _ c.loop-done.invariant.looking (omega arith)
