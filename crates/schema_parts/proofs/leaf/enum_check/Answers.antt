-- `schema_parts::leaf::enum_check` meets its contract. Assumes nothing.
use borrow.Author.Rules.{part_to_end}
use native.Mathlib.Omega.{arith}
use lib.ListN.{length-drop}
use Rattle.frame.proofs.Measuring.{long, measured-broken, checks-none}
use Rattle.schema_parts.proofs.Leaves.{enum-checks, enum-broken, enum-none}
use Rattle.schema_parts.proofs.leaf.enum_check.Goals as goal

pub returns-in_err-a : goal.returns-in_err-a
returns-in_err-a c = rw c.from_residual.ensures (λ form node. checks-none _ _ _ (enum-none form node _ (measured-broken _ _ c.in_err-a.ensures)))

pub slice_bounds-option_text_len-count : goal.slice_bounds-option_text_len-count
slice_bounds-option_text_len-count c = omega (arith, (long _ _ _ c.in_ok-a.ensures).inside)

pub slice_bounds-option_text_len-start : goal.slice_bounds-option_text_len-start
slice_bounds-option_text_len-start c = omega (arith, (long _ _ _ c.in_ok-a.ensures).inside)

pub returns-in_err-b : goal.returns-in_err-b
returns-in_err-b c = rw c.from_residual-in_err-b.ensures (λ form node. checks-none _ _ _ (enum-broken form node _ _ c.in_ok-a.ensures (rw part_to_end at c.in_err-b.ensures)))

pub overflow_add-result : goal.overflow_add-result
overflow_add-result c = let h = long _ _ _ c.in_ok-a.ensures in
    let g = long _ _ _ (rw part_to_end at c.in_ok-b.ensures) in
    omega (arith, h.inside, g.inside, length-drop c.in_ok-a.a c.args.s.now, c.well_formed)

pub returns : goal.returns
returns c = λ form node. enum-checks form node _ _ _ c.in_ok-a.ensures (rw part_to_end at c.in_ok-b.ensures)
