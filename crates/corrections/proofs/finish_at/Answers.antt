-- `corrections::finish_at` meets its contract.
use native.Mathlib.Omega.{arith}
use Rattle.corrections.proofs.PartLaws.{part-broken, part-inside, part_says}
use Rattle.corrections.proofs.finish_at.Goals as goal

pub returns-in_err-finish : goal.returns-in_err-finish
returns-in_err-finish c = rw c.from_residual.ensures (part-broken _ _ _ _ c.frame_at.ensures c.in_err-finish.ensures)

pub returns : goal.returns
returns c = part_says _ _ _ _ c.frame_at.ensures _ c.in_ok-finish.ensures

pub overflow_add-result : goal.overflow_add-result
overflow_add-result c = let h = part-inside c.args.input.now _ _ _ c.frame_at.ensures _ c.in_ok-finish.ensures in omega arith

pub overflow_add-result-2 : goal.overflow_add-result-2
overflow_add-result-2 c = let h = part-inside c.args.input.now _ _ _ c.frame_at.ensures _ c.in_ok-finish.ensures in omega arith
