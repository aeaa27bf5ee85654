-- The table follows the power-of-ten rule, so each entry is that of its length. Assumes nothing.
use mathlib.Core.Path.{◌≡◌, refl, ap, ◌∙◌}
use Prim.Native.Nat.{◌+◌, ◌-◌}
use native.Mathlib.Omega.{arith}
use borrow.Author.Tests.{le-leb, lt-leb}
use Rattle.std.specs.Prelude.{Some}
use Rattle.decimal.specs.Decimal.{largest, power_of_ten, max_prec_for_len}
use Rattle.decimal.specs.Table.{table}
use Rattle.decimal.proofs.Table.{table-follows, entry}
use Rattle.decimal.proofs.max_prec_for_len.Goals as goal

pub returns-in-0 : goal.returns-in-0
unfolding max_prec_for_len power_of_ten largest
returns-in-0 c = rw c.in-0.is refl

pub returns-in-1-to-128 : goal.returns-in-1-to-128
unfolding max_prec_for_len table
returns-in-1-to-128 c =
    let n = c.args.len in
    let e : 1 + (n - 1) ≡ n = omega arith in
    simp (le-leb n 128 (omega arith)) (ap Some (entry 128 table 1 (n - 1) (omega arith) table-follows ∙ ap power_of_ten e))

pub returns-in_default : goal.returns-in_default
unfolding max_prec_for_len
returns-in_default c = simp (lt-leb c.args.len 128 (omega arith))
