-- `schema_parts::table::tables_check` meets its contract. Assumes nothing.
use borrow.Author.Rules.{part_to_end}
use native.Mathlib.Omega.{arith}
use lib.ListN.{length-drop}
use Rattle.frame.proofs.Measuring.{checks-le}
use Rattle.schema_parts.proofs.Tables.{tables-broken, tables-broken₂, tables-checks}
use Rattle.schema_parts.proofs.table.tables_check.Goals as goal

pub returns-in_err-leads : goal.returns-in_err-leads
returns-in_err-leads c = rw c.from_residual.ensures (λ vs. tables-broken _ vs _ c.in_err-leads.ensures)

pub slice_bounds-positions_check-count : goal.slice_bounds-positions_check-count
slice_bounds-positions_check-count c = omega (arith, checks-le _ _ _ _ _ c.in_ok-leads.ensures)

pub slice_bounds-positions_check-start : goal.slice_bounds-positions_check-start
slice_bounds-positions_check-start c = omega (arith, checks-le _ _ _ _ _ c.in_ok-leads.ensures)

pub returns-in_err-named : goal.returns-in_err-named
returns-in_err-named c =
    rw c.from_residual-in_err-named.ensures
    (λ vs. tables-broken₂ _ vs _ _ _ c.in_ok-leads.ensures (rw part_to_end at c.in_err-named.ensures))

pub overflow_add-result : goal.overflow_add-result
overflow_add-result c =
    let h = checks-le _ _ _ _ _ c.in_ok-leads.ensures in
    let g = checks-le _ _ _ _ _ (rw part_to_end at c.in_ok-named.ensures) in
    omega (arith, h, g, length-drop c.in_ok-leads.leads.len c.args.s.now, c.well_formed)

pub returns-then-leads : goal.returns-then-leads
returns-then-leads c = λ vs. tables-checks _ vs _ _ _ c.in_ok-leads.ensures _ _ (rw part_to_end at c.in_ok-named.ensures) _ (rw c.if-leads.true)

pub returns-else-leads : goal.returns-else-leads
returns-else-leads c = λ vs. tables-checks _ vs _ _ _ c.in_ok-leads.ensures _ _ (rw part_to_end at c.in_ok-named.ensures) _ (rw c.if-leads.false)
