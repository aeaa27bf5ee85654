-- `turns::is_rising` meets its contract.
use native.Mathlib.Omega.{arith}
use Rattle.turns.proofs.Positions.{rises-start, rises-step, rises_fewer}
use Rattle.turns.proofs.is_rising.Goals as goal

pub loop-j-init : goal.loop-j-init
loop-j-init c = rises-start _ _

pub loop-j-preserved : goal.loop-j-preserved
loop-j-preserved c = rises-step _ _ _ c.loop-j.auto.j c.loop-j.invariant (omega (arith, c.read2.ensures, c.read2-in-loop-j.ensures, c.if-read2.false))

pub returns : goal.returns
returns c = λ e. rises_fewer _ _ _ _ c.loop-j.invariant (omega arith)
