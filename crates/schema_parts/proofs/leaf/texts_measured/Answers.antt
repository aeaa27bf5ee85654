-- `schema_parts::leaf::texts_measured` meets its contract. Assumes nothing.
use borrow.Author.Rules.{part_to_end}
use native.Mathlib.Omega.{arith}
use mathlib.Core.Bool.{true}
use mathlib.Core.Path.{subst}
use lib.ListN.{length-drop}
use Rattle.text.specs.Read.{read_text}
use Rattle.frame.proofs.Measuring.{long, measured-none, measured-broken, measured-spans, spans-measured}
use Rattle.frame.proofs.Counting.{Walking, list-short, going-list, going-none, walking-step, walking-end}
use Rattle.schema_parts.proofs.leaf.texts_measured.Goals as goal

pub returns-then-s-lt2 : goal.returns-then-s-lt2
returns-then-s-lt2 c = measured-none _ _ (list-short _ _ c.if-s-lt2.true)

pub loop-init : goal.loop-init
loop-init c = going-list read_text c.args.s.now (λ _. true) _ c.if-s-lt2.false (omega (arith, c.read2-count.ensures))

pub slice_bounds-text_len-count : goal.slice_bounds-text_len-count
slice_bounds-text_len-count c = omega (arith, c.loop.invariant.inside)

pub slice_bounds-text_len-start : goal.slice_bounds-text_len-start
slice_bounds-text_len-start c = omega (arith, c.loop.invariant.inside)

pub returns-in_err-at : goal.returns-in_err-at
returns-in_err-at c = rw c.from_residual.ensures (measured-none _ _ (going-none _ _ _ _ _ _ _ _ c.loop.invariant (omega arith) (measured-broken _ _ (rw part_to_end at c.in_err-at.ensures))))

pub overflow_add-at : goal.overflow_add-at
overflow_add-at c = let h = long _ _ _ (rw part_to_end at c.in_ok-at.ensures) in omega (arith, h.inside, length-drop c.loop.at c.args.s.now, c.well_formed, c.loop.invariant.inside)

pub loop-preserved : goal.loop-preserved
loop-preserved c = subst (Walking read_text c.args.s.now _) (omega arith) (walking-step _ _ _ _ c.loop.invariant _ (omega arith) (measured-spans _ _ _ (rw part_to_end at c.in_ok-at.ensures)))

pub returns : goal.returns
returns c = spans-measured _ _ _ (walking-end _ _ _ _ c.loop.invariant (omega arith))
