-- `schema::names::has_field` meets its contract. Assumes nothing.
use borrow.Author.Rules.{part_to_end}
use native.Mathlib.Omega.{arith}
use mathlib.Core.Path.{◌≡◌, refl, sym, ◌∙◌, subst}
use lib.ListN.{length-drop}
use Prim.Native.Nat.{◌-◌}
use Rattle.frame.specs.Readers.{read_many}
use Rattle.frame.specs.SchemaFrame.{read_field, read_schema, fields_of}
use Rattle.frame.specs.Sound.{has_field}
use Rattle.frame.proofs.Measuring.{spans-le}
use Rattle.frame.proofs.Counting.{Left, left-start, left-reads, left_end}
use Rattle.schema.proofs.Checking.{seeks, name-reads, seek_hit, seek-step}
use Rattle.schema.proofs.names.has_field.Goals as goal

pub loop-init : goal.loop-init
loop-init c = left-start _ (read_field (read_schema c.args.depth)) (seeks c.args.name.now) (seeks c.args.name.now) c.args.s.now 0 _ (omega arith) (let e : c.args.n - 0 ≡ c.args.n = omega arith in rw e) c.requires (λ l. refl)

pub slice_bounds-content-count : goal.slice_bounds-content-count
slice_bounds-content-count c = omega (arith, c.loop.invariant.inside)

pub slice_bounds-content-start : goal.slice_bounds-content-start
slice_bounds-content-start c = omega (arith, c.loop.invariant.inside)

pub content-other-requires : goal.content-other-requires
content-other-requires c = rw part_to_end (name-reads (read_schema c.args.depth) _ (left-reads _ _ _ _ _ _ _ c.loop.invariant (omega arith)))

pub returns-then-same : goal.returns-then-same
returns-then-same c = seek_hit _ _ _ _ _ _ c.loop.invariant (omega arith) _ _ (rw part_to_end at c.content-other.ensures.0) (sym c.same.ensures ∙ c.if-same.true)

pub slice_bounds-field_len-count : goal.slice_bounds-field_len-count
slice_bounds-field_len-count c = omega (arith, c.loop.invariant.inside)

pub slice_bounds-field_len-start : goal.slice_bounds-field_len-start
slice_bounds-field_len-start c = omega (arith, c.loop.invariant.inside)

pub field_len-at-requires : goal.field_len-at-requires
field_len-at-requires c = rw part_to_end (left-reads _ _ _ _ _ _ _ c.loop.invariant (omega arith))

pub overflow_add-at : goal.overflow_add-at
overflow_add-at c = omega (arith, spans-le _ _ _ (rw part_to_end at c.field_len-at.ensures), length-drop c.loop.at c.args.s.now, c.well_formed, c.loop.invariant.inside)

pub loop-preserved : goal.loop-preserved
loop-preserved c =
    subst (Left (read_many (read_field (read_schema c.args.depth)) c.args.n c.args.s.now) (read_field (read_schema c.args.depth)) (seeks c.args.name.now) (seeks c.args.name.now) c.args.s.now _) (omega arith)
    (seek-step _ _ _ _ _ _ c.loop.invariant (omega arith) _ _ (rw part_to_end at c.content-other.ensures.0) (sym c.same.ensures ∙ c.if-same.false) _ (rw part_to_end at c.field_len-at.ensures))

pub returns : goal.returns
unfolding has_field fields_of
returns c = λ fs u e. sym (left_end _ _ _ _ _ _ _ c.loop.invariant (omega arith) fs u e)
