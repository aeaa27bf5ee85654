-- One byte more, and the end. Assumes nothing.
use native.Mathlib.Omega.{arith}
use mathlib.Core.Path.{◌∙◌}
use Rattle.utf8.proofs.AsciiLaws.{joined-more, joined-all}
use Rattle.utf8.proofs.ascii.all.Goals as goal

pub loop-b-preserved : goal.loop-b-preserved
loop-b-preserved c = joined-more c.args.s.now c.loop-b.b-index c.loop-b.joined (omega arith) ∙ c.loop-b.invariant

pub returns : goal.returns
returns c = joined-all c.args.s.now c.loop-b.b-index c.loop-b.joined (omega arith) ∙ c.loop-b.invariant
