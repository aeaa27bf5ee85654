-- `schema_default::default::default_check` meets its contract. Assumes nothing.
use borrow.Author.Rules.{part_to_end}
use native.Mathlib.Omega.{arith}
use mathlib.Core.Path.{refl}
use mathlib.Core.Option.{none}
use mathlib.Core.Bool.{true}
use lib.ListN.{length-drop}
use Rattle.frame.specs.Sound.{default_allowed}
use Rattle.frame.proofs.Reading.{option-empty, option-zero, option-one-none, option-other}
use Rattle.frame.proofs.Measuring.{held, checks-some, checks-none, checks-broken, checks-reads}
use Rattle.schema_default.proofs.Defaults.{default-checks}
use Rattle.schema_default.proofs.default.default_check.Goals as goal

pub returns-in_default : goal.returns-in_default
returns-in_default c = checks-none _ _ _ (option-empty _ _ (omega arith))

pub returns-in-0 : goal.returns-in-0
unfolding default_allowed
returns-in-0 c = checks-some _ _ _ 1 true (omega arith) none (option-zero _ _ (omega arith) (omega arith)) refl

pub returns-in_err-node-in-1 : goal.returns-in_err-node-in-1
returns-in_err-node-in-1 c = rw c.from_residual.ensures (checks-none _ _ _ (option-one-none _ _ (omega arith) (omega arith) (checks-broken _ _ _ (rw part_to_end at c.in_err-node-in-1.ensures))))

pub overflow_add-result : goal.overflow_add-result
overflow_add-result c = omega (arith, (held _ _ _ _ _ (rw part_to_end at c.in_ok-node-in-1.ensures)).inside, length-drop 1 c.args.s.now, c.well_formed)

pub default_kinds-requires : goal.default_kinds-requires
default_kinds-requires c = rw part_to_end (checks-reads _ _ _ _ _ (rw part_to_end at c.in_ok-node-in-1.ensures))

pub returns-in_ok-node-in-1 : goal.returns-in_ok-node-in-1
returns-in_ok-node-in-1 c = default-checks _ (omega arith) (omega arith) _ _ (rw part_to_end at c.in_ok-node-in-1.ensures) _ (rw part_to_end at c.default_kinds.ensures) _ refl

pub returns-in_default-2 : goal.returns-in_default-2
returns-in_default-2 c = checks-none _ _ _ (option-other _ _ (omega arith) (omega arith) (omega arith))
