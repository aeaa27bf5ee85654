-- `buffer::clearing::bits` meets its contract.
use native.Mathlib.Omega.{arith}
use mathlib.Core.Path.{refl, ◌∙◌}
use Rattle.buffer.proofs.ClearLaws.{zero-none, zero-next, zero-covers}
use Rattle.buffer.proofs.clearing.bits.Goals as goal

pub loop-i-init : goal.loop-i-init
loop-i-init c = zero-none _ _

pub loop-i-preserved : goal.loop-i-preserved
loop-i-preserved c = zero-next _ _ c.loop-i.any _ c.loop-i.invariant

pub returns : goal.returns
returns c = c.loop-i.invariant ∙ zero-covers c.args.b.now _ _ _ (omega arith) refl (omega arith)
