-- `buffer::put` meets its contract.
use native.Mathlib.Omega.{arith}
use mathlib.Core.Path.{ap, ◌∙◌}
use lib.ListN.{length}
use Rattle.buffer.proofs.BuiltLaws.{built-front, built-over}
use Rattle.buffer.proofs.put.Goals as goal
use Rattle.buffer.proofs.put.Goals.{then-t-out, else-t-out}

pub returns : goal.returns
returns c =
    elim c.if-t-out.branch [
      | then-t-out w ↦ built-front _ _ _ _ c.min.ensures (w.out-is ∙ w.copy.ensures)
      | else-t-out w ↦ built-over _ _ _ c.min.ensures (omega (arith, ap length w.out-is, w.if-t-out.false))
    ]
