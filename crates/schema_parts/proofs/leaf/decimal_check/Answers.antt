-- `schema_parts::leaf::decimal_check` meets its contract. Assumes nothing.
use borrow.Author.Rules.{part_to_end}
use native.Mathlib.Omega.{arith}
use lib.ListN.{length-drop}
use Rattle.frame.proofs.Measuring.{long, measured-broken, checks-none}
use Rattle.schema_parts.proofs.Leaves.{decimal-none, decimal-checks, decimal-later}
use Rattle.schema_parts.proofs.leaf.decimal_check.Goals as goal

pub returns-then-s-lt8 : goal.returns-then-s-lt8
returns-then-s-lt8 c = λ form node. checks-none _ _ _ (decimal-none form node _ c.if-s-lt8.true)

pub returns-in_err-m : goal.returns-in_err-m
returns-in_err-m c = rw c.from_residual.ensures (λ form node. checks-none _ _ _ (decimal-later form node _ c.if-s-lt8.false (measured-broken _ _ (rw part_to_end at c.in_err-m.ensures))))

pub overflow_add-result : goal.overflow_add-result
overflow_add-result c = let h = long _ _ _ (rw part_to_end at c.in_ok-m.ensures) in omega (arith, h.inside, length-drop 8 c.args.s.now, c.well_formed)

pub returns : goal.returns
returns c = λ form node. decimal-checks form node _ c.if-s-lt8.false _ (rw part_to_end at c.in_ok-m.ensures)
