-- `value::symbol_check` meets its contract. Assumes nothing.
use native.Mathlib.Omega.{arith}
use lib.ListN.{length-drop}
use Rattle.frame.specs.ValueFrame.{read_value}
use Rattle.frame.proofs.Measuring.{measured-le}
use Rattle.value.proofs.NodeLaws.{symbol-short, symbol-some, symbol-broken}
use borrow.Author.Rules.{part_to_end}
use Rattle.value.proofs.symbol_check.Goals as goal

pub returns-then-s-lt4 : goal.returns-then-s-lt4
returns-then-s-lt4 c = symbol-short (read_value 0) 12 c.args.s.now c.if-s-lt4.true

pub returns-in_err-n : goal.returns-in_err-n
returns-in_err-n c = rw c.from_residual.ensures (symbol-broken (read_value 0) 12 c.args.s.now c.if-s-lt4.false (rw part_to_end at c.in_err-n.ensures))

pub overflow_add-result : goal.overflow_add-result
overflow_add-result c =
    let h = measured-le _ _ _ (rw part_to_end at c.in_ok-n.ensures) in
    omega (arith, length-drop 4 c.args.s.now)

pub returns : goal.returns
returns c = symbol-some (read_value 0) 12 c.args.s.now _ c.if-s-lt4.false (rw part_to_end at c.in_ok-n.ensures)
